-- What holds of a result: of what is given, and of a refusal. A law for each step.
use Prim.Native.Nat.{◌≤◌}
use mathlib.Core.Path.{◌≡◌, refl, subst}
use mathlib.Core.Bool.{Bool, true, false}
use mathlib.Core.Option.{Option, none, some}
use lib.ListN.{length}
use Rattle.rules.specs.Refusal.{Refusal, Result, ok, err, ◌>>=◌, ensure, or_refuse}
use Rattle.rules.proofs.Clash.{clash}
use Rattle.rules.specs.Good.{AllOption}
use Rattle.laws_answers.specs.Bounds.{most_detail}

abbrev pub Short : Refusal → Type 0
Short r = length r.detail ≤ most_detail

-- of a refusal of which nothing is said
abbrev pub Any : Refusal → Type 0
Any r = Unit {0}

pub record Ends {A : Type 0} (D : Refusal → Type 0) (r : Result A) (P : A → Type 0) : Type 0 where
  pub gives : (a : A) → r ≡ ok a → P a
  pub refuses : (e : Refusal) → r ≡ err e → D e

pub ok_ends : {A : Type 0} {D : Refusal → Type 0} (a : A) (P : A → Type 0) → P a → Ends D (ok a) P
ok_ends {A} {D} a P p = record {
  gives = λ b e. let same : a ≡ b = cc in subst P same p;
  refuses = λ r e. clash (cc);
}

pub err_ends : {A : Type 0} {D : Refusal → Type 0} {P : A → Type 0} (r : Refusal) → D r → Ends D (err r) P
err_ends {A} {D} r s = record {
  gives = λ b e. clash (cc);
  refuses = λ q e. let same : r ≡ q = cc in subst D same s;
}

-- weaker holds too
pub so : {A : Type 0} {D : Refusal → Type 0} {r : Result A} {P Q : A → Type 0} → Ends D r P → ((a : A) → P a → Q a) → Ends D r Q
so h f = record { gives = λ a e. f a (h.gives a e); refuses = h.refuses }

pub then_ends : {A B : Type 0} {D : Refusal → Type 0} {r : Result A} {f : A → Result B} {P : A → Type 0} {Q : B → Type 0} → Ends D r P → ((a : A) → P a → Ends D (f a) Q) → Ends D (r >>= f) Q
unfolding ◌>>=◌
then_ends {A} {B} {D} {r} {f} {P} {Q} h g = go r h.gives h.refuses
  where
    go : (r : Result A) → ((a : A) → r ≡ ok a → P a) → ((e : Refusal) → r ≡ err e → D e) → Ends D (r >>= f) Q
    go (ok a) p s = g a (p a refl)
    go (err e) p s = err_ends e (s e refl)

pub ensure_ends : {B : Type 0} {D : Refusal → Type 0} {Q : B → Type 0} (c : Bool) (r : Refusal) (f : Unit {0} → Result B) → D r → (c ≡ true → Ends D (f tt) Q) → Ends D (ensure c r >>= f) Q
unfolding ensure ◌>>=◌
ensure_ends true r f s h = h refl
ensure_ends false r f s h = err_ends r s

pub refuse_ends : {A : Type 0} {D : Refusal → Type 0} (P : A → Type 0) (o : Option A) (r : Refusal) → D r → AllOption P o → Ends D (or_refuse o r) P
unfolding or_refuse
refuse_ends P none r s h = err_ends r s
refuse_ends P (some a) r s h = ok_ends a P h

pub last_ensure_ends : {D : Refusal → Type 0} (c : Bool) (r : Refusal) → D r → Ends D (ensure c r) (λ _. Unit {0})
unfolding ensure
last_ensure_ends true r s = ok_ends tt _ tt
last_ensure_ends false r s = err_ends r s
