-- Contracts that are too long for a line, each called after its function.
use Rattle.std.specs.Prelude.{ℕ, List, ◌≡◌, length}
use Rattle.std.proofs.Math.Option.{Option}
use Rattle.answers.specs.declared.answer.Outcome.{Outcome}
use Rattle.image_layout.specs.Open.{pool_words}
use Rattle.image_layout.specs.declared.Layout.{Layout}
use Rattle.image_words.specs.Gives.{Row, MaybeAt}
use Rattle.locals.specs.Rows.{Rows}
use Rattle.pool_definitions.specs.DefinitionAt.{FunctionStands}
use Rattle.pool_types.specs.ParamAt.{ParamAt}
use Rattle.pool_types.specs.TypeAt.{TypeStands}
use Rattle.project_outcome.specs.Outcomes.{Passes}
use Rattle.rules.specs.CheckSignature.{check_signature, check_params}
use Rattle.rules.specs.Signatures.{PortableSignature}
use Rattle.rules.specs.Syntax.{ImplFnDef, ResolvedType, Param}
use Rattle.rules.specs.declared.ids.NameId.{NameId}
use Rattle.type_words.specs.Holds.{MaybeHolds}
use Rattle.type_words.specs.declared.MaybeType.{MaybeType}

-- the test of a function against the signature whose parameters are in the table
abbrev pub ChecksSignature : Layout → ℕ → NameId → List ℕ → List ℕ → List ℕ → ℕ → MaybeType → Outcome → Type 0
ChecksSignature l at name names words lens count returns r =
    (f : ImplFnDef) (n : ℕ) → FunctionStands l.names.rows l.strings.rows (pool_words l) f at n → (sig : PortableSignature)
    → sig.name ≡ name.0 → Rows l.names.rows names words lens count 0 sig.params → MaybeHolds l.names.rows returns sig.return_type
    → Passes (check_signature f sig) r

-- the parameters that stand in the pool against those in the table, of which there are as many
abbrev pub ChecksParams : Layout → ℕ → NameId → List ℕ → List ℕ → List ℕ → ℕ → Outcome → Type 0
ChecksParams l at function names words lens count r =
    (ps es : List (Param ResolvedType)) (n : ℕ)
    → Row (ParamAt l.names.rows (pool_words l) (TypeStands l.names.rows (pool_words l))) ps at n
    → Rows l.names.rows names words lens count 0 es → length ps ≡ length es → Passes (check_params function.0 ps es) r

-- the return type that stands there, or none
abbrev pub HoldsReturn : Layout → ℕ → MaybeType → Type 0
HoldsReturn l at r =
    (o : Option ResolvedType) (n : ℕ) → MaybeAt (pool_words l) (TypeStands l.names.rows (pool_words l)) o at n
    → MaybeHolds l.names.rows r o
