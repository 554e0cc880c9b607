-- What typing says of an expression, by its number.
use Prim.Native.Nat.{ℕ}
use mathlib.Core.Path.{◌≡◌, refl, sym, ap}
use Rattle.rules.specs.Refusal.{Result, ok, err}
use Rattle.rules.specs.Infer.{PortableExpr, type_of}
use Rattle.type_words.specs.Holds.{Holds}
use Rattle.infer_result.specs.declared.inferred.Inferred.{Inferred}
use Rattle.infer_result.specs.Says as says
use Rattle.infer_result.specs.Says.{Says}

-- an accepted expression's value, and its type as it is held
pub record Typed (rows : ℕ) (r : Inferred) (p : Result PortableExpr) : Type 0 where
  pub value : PortableExpr
  pub is : p ≡ ok value
  pub held : Holds rows r.ty (type_of value)

module _ (rows f : ℕ) (p : Result PortableExpr) (r : Inferred) where
  pub said_err : Says rows f p r → (r.number ≡ 0 → ⊥) → p ≡ err (says.refusal_of f r)
  said_err = go p
    where
      go : (p : Result PortableExpr) → Says rows f p r → (r.number ≡ 0 → ⊥) → p ≡ err (says.refusal_of f r)
      go (ok v) h n = absurd (n h.0)
      go (err e) h n = ap err (sym h.1)

  pub said_ok : Says rows f p r → r.number ≡ 0 → Typed rows r p
  said_ok = go p
    where
      go : (p : Result PortableExpr) → Says rows f p r → r.number ≡ 0 → Typed rows r p
      go (ok v) h n = record { value = v; is = refl; held = h.1 }
      go (err e) h n = absurd (h.0 n)
