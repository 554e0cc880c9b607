-- What an answer says of what came of an expression.
use Rattle.std.specs.Prelude.{ℕ, ◌≡◌, cond, List, [], ◌∷◌, ◌++◌, eqb}
use Rattle.rules.specs.Refusal.{Refusal, Result, ok, err}
use Rattle.rules.specs.Infer.{PortableExpr, type_of}
use Rattle.type_words.specs.Runs.{held_run}
use Rattle.type_words.specs.Holds.{Holds}
use Rattle.infer_result.specs.declared.inferred.Inferred.{Inferred}

-- of 20: the context, the expected type, the actual; of 21: the operator, its operand's type
abbrev pub detail_of : Inferred → List ℕ
detail_of r = cond (eqb r.number 20) (r.word ∷ (held_run r.wanted ++ held_run r.ty)) (cond (eqb r.number 21) (r.word ∷ held_run r.ty) [])

-- the refusal, in the function f
abbrev pub refusal_of : ℕ → Inferred → Refusal
refusal_of f r = record { number = r.number; function = f; second = r.second.0; detail = detail_of r }

-- over the number of name rows and the function's name
abbrev pub Says : ℕ → ℕ → Result PortableExpr → Inferred → Type 0
Says names f (ok v) r = (r.number ≡ 0) × Holds names r.ty (type_of v)
Says names f (err e) r = (r.number ≡ 0 → ⊥) × (refusal_of f r ≡ e)
