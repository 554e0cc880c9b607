-- The steps of a reading, by what was read so far.
use Prim.Native.Nat.{ℕ, ◌+◌, ◌<◌}
use mathlib.Core.Path.{◌≡◌, refl, sym, ap, subst, ◌∙◌}
use mathlib.Core.Bool.{true, false}
use mathlib.Core.List.{List}
use mathlib.Core.Option.{Option as Maybe, none, some}
use native.Mathlib.Omega.{arith}
use native.Mathlib.Numerals.{add-one}
use lib.ListN.{length, drop, get_or}
use lib.Seq.{drop-cons}
use Rattle.std.specs.Prelude.{Option, Some, None}
use Rattle.rules.specs.Reader.{Rest, rest_at, Reader, ◌>>=◌, bound, give, first}
use Rattle.image_words.specs.Verdict.{Agrees}

pub true_false : true ≡ false → ⊥
true_false e = let z : ◌≡◌ {A = ℕ} 0 1 = cc in omega arith

-- a word inside, and the words behind it
pub first_in : (ws : List ℕ) (at : ℕ) → at < length ws → first at (drop at ws) ≡ some (get_or ws at 0, rest_at ws (at + 1))
unfolding first
first_in ws at i =
    ap (first at) (drop-cons ws at 0 i) ∙ ap (λ (l : List ℕ). some (get_or ws at 0, record { at = at + 1; left = l })) (ap (λ (k : ℕ). drop k ws) (sym (add-one at)))

module _ {A B : Type 0} where
  -- a reading in two steps
  pub assoc_o : {C : Type 0} (o : Maybe (A × Rest)) (g : A → Reader B) (k : B → Reader C) → bound o (λ a. g a >>= k) ≡ bound (bound o g) k
  unfolding bound ◌>>=◌
  assoc_o none g k = refl
  assoc_o (some p) g k = refl

  module _ (ws : List ℕ) where
    -- a reading that gave something, and then what follows, which may know what it gave
    pub then_o : (o : Maybe (A × Rest)) (g : A → Reader B) (n : ℕ) (d : Option ℕ) → Agrees ws o (Some n)
        → ((a : A) → o ≡ some (a, rest_at ws n) → Agrees ws (g a (rest_at ws n)) d) → Agrees ws (bound o g) d
    unfolding bound
    then_o none g n d e h = absurd cc
    then_o (some p) g n d e h = subst (λ (q : Rest). Agrees ws (g p.0 q) d) (sym e) (h p.0 (ap (λ (q : Rest). some (p.0, q)) e))

    -- a reading that gave nothing
    pub stop_o : (o : Maybe (A × Rest)) (g : A → Reader B) → Agrees ws o None → Agrees ws (bound o g) None
    unfolding bound
    stop_o none g e = e
    stop_o (some p) g e = absurd e

    -- the last reading, of which something is made
    pub last_o : (o : Maybe (A × Rest)) (f : A → B) (c : Option ℕ) → Agrees ws o c → Agrees ws (bound o (λ a. give (f a))) c
    unfolding bound give
    last_o none f c e = e
    last_o (some p) f c e = e
