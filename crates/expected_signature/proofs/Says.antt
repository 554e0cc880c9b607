-- What is said of a part, by what it comes to. Assumes nothing.
use Prim.Native.Nat.{ℕ}
use mathlib.Core.Path.{◌≡◌, refl, sym, subst, ◌∙◌}
use mathlib.Core.Bool.{Bool}
use mathlib.Core.List.{List}
use Rattle.rules.specs.Substitute.{Counted, too_large, done}
use Rattle.std.specs.Prelude.{Some, None}
use Rattle.rules.proofs.Clash.{clash}
use Rattle.expected_signature.specs.declared.part.Part.{Part}
use Rattle.expected_signature.specs.Parts.{PartDone, PartAgrees, PartSays}

-- a part with its visits, its words written
pub record Made {A : Type 0} (words : A → List ℕ) (poisoned : A → Bool) (o : Counted A) (behind to : ℕ) (old new : List ℕ) (r : Part) : Type 0 where
  pub v : ℕ
  pub a : A
  pub is : o ≡ done v a
  pub so : PartDone words poisoned v a behind to old new r

module _ {A : Type 0} {words : A → List ℕ} {poisoned : A → Bool} {behind to : ℕ} {old new : List ℕ} where
  pub says_done : {r : Part} {o : Counted A} {v : ℕ} {a : A} → o ≡ done v a → PartDone words poisoned v a behind to old new r → PartSays words poisoned o behind to old new (Some r)
  says_done {r} e d = record { is = subst (λ (q : Counted A). PartAgrees words poisoned q behind to old new (Some r)) (sym e) d }

  pub says_large : {o : Counted A} → o ≡ too_large → PartSays words poisoned o behind to old new None
  says_large e = record { is = subst (λ (q : Counted A). PartAgrees words poisoned q behind to old new None) (sym e) refl }

module _ {A : Type 0} (words : A → List ℕ) (poisoned : A → Bool) (behind to : ℕ) (old new : List ℕ) where
  large_o : (o : Counted A) → PartAgrees words poisoned o behind to old new None → o ≡ too_large
  large_o too_large h = refl
  large_o (done v a) h = absurd h

  made_o : (r : Part) (o : Counted A) → PartAgrees words poisoned o behind to old new (Some r) → Made words poisoned o behind to old new r
  made_o r too_large h = clash (cc)
  made_o r (done v a) h = record { v = v; a = a; is = refl; so = h }

module _ {A : Type 0} {words : A → List ℕ} {poisoned : A → Bool} {o : Counted A} {behind to : ℕ} {old new : List ℕ} where
  pub part_large : PartSays words poisoned o behind to old new None → o ≡ too_large
  part_large h = large_o words poisoned behind to old new o h.is

  pub made : {r : Part} → PartSays words poisoned o behind to old new (Some r) → Made words poisoned o behind to old new r
  made {r} h = made_o words poisoned behind to old new r o h.is

-- the same visits and the same place behind it
pub done_same : {A : Type 0} {words : A → List ℕ} {poisoned : A → Bool} {v w : ℕ} {a : A} {m n to : ℕ} {old new : List ℕ} {r : Part} → v ≡ w → m ≡ n
    → PartDone words poisoned v a m to old new r → PartDone words poisoned w a n to old new r
done_same e f d = record { visits = d.visits ∙ e; next = d.next ∙ f; poison = d.poison; writes = d.writes }
