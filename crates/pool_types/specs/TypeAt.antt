-- Which resolved type stands where among some words: by recursion on the type, so that its parts come out by projection.
use Rattle.std.specs.Prelude.{ℕ, ◌+◌, ◌<◌, ◌≤◌, ◌≡◌, List, length, get_or}
use Rattle.rules.specs.Syntax.{ResolvedType, run}
use Rattle.rules.specs.Kinds.{type_kind}
use Rattle.rules.specs.declared.kinds.TypeKind.{TypeKind}
use Rattle.rules.specs.Good.{Stored}
use Rattle.image_words.specs.Gives.{Word, BelowAt, Counted}
use Rattle.image_words.specs.Stands.{Held}

-- the word at `at` is a type's code of kind k
pub record Node (ws : List ℕ) (at : ℕ) (k : TypeKind) : Type 0 where
  pub inside : at < length ws
  pub kind : type_kind (get_or ws at 0) ≡ k

-- 64 bits: low, high
abbrev pub WideAt : List ℕ → ℕ → ℕ → ℕ → Type 0
WideAt ws low high at = Word ws at low × Word ws (at + 1) high

-- over the number of name rows and the words
module _ (names : ℕ) (ws : List ℕ) where
  abbrev pub TypeAt : ResolvedType → ℕ → ℕ → Type 0
  TypeAt (ResolvedType.plain c) at n = Node ws at TypeKind.Plain × (get_or ws at 0 ≡ c) × (n ≡ at + 1)
  TypeAt (ResolvedType.sub s b) at n = Node ws at TypeKind.Sub × Word ws (at + 1) s × (s < 2) × Word ws (at + 1 + 1) b × (1 ≤ b) × (b ≤ 64) × (n ≡ at + 1 + 1 + 1)
  TypeAt (ResolvedType.bits ns) at n = Node ws at TypeKind.Bits × Counted ws 62 (BelowAt ws names) ns (at + 1) n
  TypeAt (ResolvedType.named d) at n = Node ws at TypeKind.Named × Word ws (at + 1) d × (n ≡ at + 1 + 1)
  TypeAt (ResolvedType.one c t) at n = Node ws at TypeKind.One × (get_or ws at 0 ≡ c) × TypeAt t (at + 1) n
  TypeAt (ResolvedType.fixed low high t) at n = Node ws at TypeKind.Fixed × WideAt ws low high (at + 1) × TypeAt t (at + 1 + 1 + 1) n
  TypeAt (ResolvedType.two c t u) at n = Node ws at TypeKind.Two × (get_or ws at 0 ≡ c) × (m : ℕ) × TypeAt t (at + 1) m × TypeAt u m n

  -- a type as the pool holds it
  abbrev pub TypeStands : ResolvedType → ℕ → ℕ → Type 0
  TypeStands = Held TypeAt run (Stored names) ws
