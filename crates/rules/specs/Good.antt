-- Good trees: those whose codes, counts and names are such as a reading gives.
use Rattle.std.specs.Prelude.{ℕ, ◌≤◌, ◌<◌, ◌≡◌, List, [], ◌∷◌, length}
use Rattle.std.proofs.Math.Option.{Option, none, some}
use Rattle.rules.specs.Syntax.{ResolvedType, TypeExpr, run}
use Rattle.rules.specs.Kinds.{type_kind}
use Rattle.rules.specs.declared.kinds.TypeKind.{TypeKind}

-- a property of each element
abbrev pub All : {A : Type 0} → (A → Type 0) → List A → Type 0
All P [] = Unit {0}
All P (x ∷ xs) = P x × All P xs

abbrev pub AllOption : {A : Type 0} → (A → Type 0) → Option A → Type 0
AllOption P none = Unit {0}
AllOption P (some x) = P x

-- numbers that are all below n
abbrev pub Below : ℕ → List ℕ → Type 0
Below n xs = All (λ x. x < n) xs

-- over the number of name rows
abbrev pub Good : ℕ → ResolvedType → Type 0
Good names (ResolvedType.plain c) = type_kind c ≡ TypeKind.Plain
Good names (ResolvedType.sub s n) = (s < 2) × (1 ≤ n) × (n ≤ 64)
Good names (ResolvedType.bits ns) = (length ns < 63) × Below names ns
Good names (ResolvedType.named n) = Unit {0}
Good names (ResolvedType.one c t) = (type_kind c ≡ TypeKind.One) × Good names t
Good names (ResolvedType.fixed low high t) = Good names t
Good names (ResolvedType.two c t u) = (type_kind c ≡ TypeKind.Two) × Good names t × Good names u

-- a type that an expression holds as a leaf
abbrev pub IsLeaf : ResolvedType → Type 0
IsLeaf (ResolvedType.plain c) = Unit {0}
IsLeaf (ResolvedType.sub s n) = Unit {0}
IsLeaf (ResolvedType.bits ns) = Unit {0}
IsLeaf (ResolvedType.named n) = ⊥
IsLeaf (ResolvedType.one c t) = ⊥
IsLeaf (ResolvedType.fixed low high t) = ⊥
IsLeaf (ResolvedType.two c t u) = ⊥

abbrev pub GoodExpr : ℕ → TypeExpr → Type 0
GoodExpr names (TypeExpr.leaf t) = IsLeaf t × Good names t
GoodExpr names (TypeExpr.named x) = x < names
GoodExpr names (TypeExpr.qualified s x) = (s < names) × (x < names)
GoodExpr names (TypeExpr.generic x a) = (x < names) × GoodExpr names a
GoodExpr names (TypeExpr.one c t) = (type_kind c ≡ TypeKind.One) × GoodExpr names t
GoodExpr names (TypeExpr.fixed low high t) = GoodExpr names t
GoodExpr names (TypeExpr.two c t u) = (type_kind c ≡ TypeKind.Two) × GoodExpr names t × GoodExpr names u

-- a type as the pool holds it
pub record Stored (names : ℕ) (t : ResolvedType) : Type 0 where
  pub good : Good names t
  pub short : length (run t) ≤ 64
