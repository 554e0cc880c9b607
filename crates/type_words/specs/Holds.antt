-- What it is to hold a type of the rules.
use Rattle.std.specs.Prelude.{ℕ, ◌≤◌, ◌≡◌, true, false, length}
use Rattle.std.proofs.Math.Option.{Option, none, some}
use Rattle.rules.specs.Syntax as Syntax
use Rattle.rules.specs.Syntax.{ResolvedType}
use Rattle.rules.specs.Types.{contains_poison}
use Rattle.rules.specs.Good.{Good}
use Rattle.type_words.specs.declared.HeldType.{HeldType}
use Rattle.type_words.specs.declared.MaybeType.{MaybeType}
use Rattle.type_words.specs.Runs.{held_run}

-- h holds the type t, over the number of name rows
pub record Holds (names : ℕ) (h : HeldType) (t : ResolvedType) : Type 0 where
  pub run : held_run h ≡ Syntax.run t
  pub count : h.len ≡ length (Syntax.run t)
  pub small : h.len ≤ 64
  pub poison : h.poison ≡ contains_poison t
  pub good : Good names t

-- m holds an optional type
abbrev pub MaybeHolds : ℕ → MaybeType → Option ResolvedType → Type 0
MaybeHolds names m none = m.some ≡ false
MaybeHolds names m (some t) = (m.some ≡ true) × Holds names m.ty t

-- a property of every type that h holds
abbrev pub Each : HeldType → (ResolvedType → Type 0) → Type 0
Each h P = (names : ℕ) (t : ResolvedType) → Holds names h t → P t

-- a property of every optional type that m holds
abbrev pub EachMaybe : MaybeType → (ℕ → Option ResolvedType → Type 0) → Type 0
EachMaybe m P = (names : ℕ) (o : Option ResolvedType) → MaybeHolds names m o → P names o
