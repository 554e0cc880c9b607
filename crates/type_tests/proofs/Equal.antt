-- Equality of held types by their words. Assumes nothing.
use Prim.Native.Nat.{ℕ, ◌<◌}
use mathlib.Core.Path.{◌≡◌, sym, ap, ap₂, ◌∙◌}
use mathlib.Core.Bool.{Bool, true, false}
use mathlib.Core.List.{List}
use lib.ListN.{length, get_or}
use lib.Seq.{ext_get_or}
use Rattle.rules.specs.Words.{same}
use Rattle.rules.specs.Types.{same_type}
use Rattle.laws.proofs.Same.{same_self, same_false}
use Rattle.type_words.specs.declared.HeldType.{HeldType}
use Rattle.type_words.specs.Runs.{held_run}
use Rattle.type_words.proofs.Runs.{run_word}
use Rattle.type_tests.specs.Tests.{Same}

-- what is said of the runs holds of the types
same_of : {a b : HeldType} {r : Bool} → r ≡ same (held_run a) (held_run b) → Same a b r
same_of e = record { runs = e; types = λ names t p names' u q. e ∙ (unfold same_type in ap₂ same p.run q.run) }

module _ (a b : HeldType) where
  pub equal : held_run a ≡ held_run b → Same a b true
  equal e = same_of (sym (ap (same (held_run a)) (sym e) ∙ same_self (held_run a)))

  pub differ : (held_run a ≡ held_run b → ⊥) → Same a b false
  differ n = same_of (sym (same_false (held_run a) (held_run b) n))

  -- a word that differs, a word that agrees, and all words
  pub differ_at : (i : ℕ) → i < length (held_run a) → i < length (held_run b) → (get_or a.words i 0 ≡ get_or b.words i 0 → ⊥) → Same a b false
  differ_at i la lb n = differ (λ e. n (sym (run_word a i la) ∙ ap (λ (l : List ℕ). get_or l i 0) e ∙ run_word b i lb))

  pub agree_at : (i : ℕ) → i < length (held_run a) → i < length (held_run b) → get_or a.words i 0 ≡ get_or b.words i 0 → get_or (held_run a) i 0 ≡ get_or (held_run b) i 0
  agree_at i la lb e = run_word a i la ∙ e ∙ sym (run_word b i lb)

  pub agree : length (held_run a) ≡ length (held_run b) → ((i : ℕ) → i < length (held_run a) → get_or (held_run a) i 0 ≡ get_or (held_run b) i 0) → Same a b true
  agree l h = equal (ext_get_or 0 (held_run a) (held_run b) l h)
