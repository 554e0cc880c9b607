-- Contracts that are too long for a line, each called after its function.
use Rattle.std.specs.Prelude.{ℕ, ◌∷◌, ◌++◌, ◌≡◌}
use Rattle.std.proofs.Math.Option.{Option}
use Rattle.answers.specs.Refusals.{refusal_of}
use Rattle.answers.specs.declared.answer.Outcome.{Outcome}
use Rattle.answers.specs.declared.refusal.Refusal.{Refusal}
use Rattle.project_outcome.specs.Outcomes.{Passes}
use Rattle.rules.specs.Refusal.{with_detail}
use Rattle.rules.specs.Syntax.{ResolvedType, Param}
use Rattle.rules.specs.Types.{return_words}
use Rattle.rules.specs.declared.ids.NameId.{NameId}
use Rattle.type_words.specs.Holds.{MaybeHolds, Holds}
use Rattle.type_words.specs.declared.HeldType.{HeldType}
use Rattle.type_words.specs.declared.MaybeType.{MaybeType}
use Rattle.check_types.specs.Params.{check_type, check_param}

-- 6 kind 4: both returns, the expected one first
abbrev pub WrongReturn : NameId → MaybeType → MaybeType → Refusal → Type 0
WrongReturn function expected found r =
    (names : ℕ) (e a : Option ResolvedType) → MaybeHolds names expected e → MaybeHolds names found a
    → refusal_of r ≡ with_detail 6 function.0 (4 ∷ (return_words e ++ return_words a))

-- one parameter's types
abbrev pub ChecksType : NameId → NameId → HeldType → HeldType → Outcome → Type 0
ChecksType function wanted expected actual r =
    (rows : ℕ) (a e : ResolvedType) → Holds rows actual a → Holds rows expected e → Passes (check_type function.0 wanted.0 e a) r

-- one parameter's name, then its type
abbrev pub ChecksParam : NameId → NameId → HeldType → NameId → HeldType → Outcome → Type 0
ChecksParam function wanted expected found actual r =
    (rows : ℕ) (a e : Param ResolvedType) → found.0 ≡ a.name → wanted.0 ≡ e.name → Holds rows actual a.ty → Holds rows expected e.ty
    → Passes (check_param function.0 a e) r
