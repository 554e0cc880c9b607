-- What holds of a counted result and its visits. A law for each step.
use Prim.Native.Nat.{ℕ}
use mathlib.Core.Path.{◌≡◌, refl, subst}
use Rattle.rules.specs.Substitute.{Counted, too_large, done, after}
use Rattle.rules.proofs.Clash.{clash}

pub record Counts {A : Type 0} (o : Counted A) (P : ℕ → A → Type 0) : Type 0 where
  pub holds : (v : ℕ) (a : A) → o ≡ done v a → P v a

pub too_large_counts : {A : Type 0} {P : ℕ → A → Type 0} → Counts too_large P
too_large_counts = record { holds = λ v a e. clash (cc) }

pub done_counts : {A : Type 0} (P : ℕ → A → Type 0) (v : ℕ) (a : A) → P v a → Counts (done v a) P
done_counts {A} P v a p = record { holds = λ w b e. let m : v ≡ w = cc in let n : a ≡ b = cc in subst (λ (x : ℕ). P x b) m (subst (λ (x : A). P v x) n p) }

pub after_counts : {A B : Type 0} {o : Counted A} {k : ℕ → A → Counted B} {P : ℕ → A → Type 0} {Q : ℕ → B → Type 0}
    → Counts o P → ((v : ℕ) (a : A) → P v a → Counts (k v a) Q) → Counts (after o k) Q
unfolding after
after_counts {A} {B} {o} {k} {P} {Q} h g = go o h.holds
  where
    go : (o : Counted A) → ((v : ℕ) (a : A) → o ≡ done v a → P v a) → Counts (after o k) Q
    go too_large h = too_large_counts
    go (done v a) h = g v a (h v a refl)

-- nothing need be known of a part
pub any_counts : {A : Type 0} {o : Counted A} → Counts o (λ v a. Unit {0})
any_counts = record { holds = λ v a e. tt }
