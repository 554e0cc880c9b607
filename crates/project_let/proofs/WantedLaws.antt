-- The type written on a Let, by the word that stands before it.
use Prim.Native.Nat.{ℕ, ◌+◌, ◌<◌}
use native.Mathlib.Omega.{arith}
use mathlib.Core.Path.{◌≡◌, sym, subst, ◌∙◌}
use mathlib.Core.Bool.{true, false}
use mathlib.Core.List.{List}
use mathlib.Core.Option.{Option, none, some}
use lib.ListN.{length, get_or}
use Rattle.rules.specs.Syntax.{ResolvedType, run}
use Rattle.type_words.specs.declared.MaybeType.{MaybeType}
use Rattle.type_words.specs.Holds.{MaybeHolds}
use Rattle.image_words.specs.Gives.{MaybeAt}
use Rattle.image_words.specs.Stands.{Stands}
use Rattle.type_from_pool.specs.declared.Held.{Held}
use Rattle.type_from_pool.specs.Held.{Types}
use Rattle.pool_types.specs.TypeAt.{TypeStands}

module _ (rows : ℕ) (ws : List ℕ) (at : ℕ) (m : MaybeType) where
  -- the type of whatever stands there, and the place behind it
  abbrev Written_type : ℕ → Option ResolvedType → Type 0
  Written_type next t = (n : ℕ) → MaybeAt ws (TypeStands rows ws) t at n → MaybeHolds rows m t × (next ≡ n)

  pub wanted_none : get_or ws at 0 ≡ 0 → m.some ≡ false → {next : ℕ} → (at < length ws → next ≡ at + 1) → (t : Option ResolvedType) → Written_type next t
  wanted_none q h a none n w = (h, a w.0.inside ∙ sym w.1)
  wanted_none q h a (some t) n w = absurd (omega (arith, w.0.is))

  pub wanted_some : (get_or ws at 0 ≡ 0 → ⊥) → {i : ℕ} → (at < length ws → i ≡ at + 1) → (h : Held) → Types rows ws i h → (m.some ≡ true) × (m.ty ≡ h.ty) → (t : Option ResolvedType) → Written_type h.next t
  wanted_some q a h f s none n w = absurd (q w.0.is)
  wanted_some q {i} a h f s (some t) n w =
      let g = f t n (subst (λ (k : ℕ). Stands ws (run t) k n) (sym (a w.0.inside)) w.1.words_at) w.1.good in
      ((s.0, rw s.1 g.0), g.1)
