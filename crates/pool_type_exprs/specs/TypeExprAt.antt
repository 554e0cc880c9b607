-- Which type expression stands where among some words.
use Rattle.std.specs.Prelude.{ℕ, ◌+◌, ◌<◌, ◌≡◌, List, get_or}
use Rattle.rules.specs.Syntax.{TypeExpr, expr_run}
use Rattle.rules.specs.declared.kinds.TypeKind.{TypeKind}
use Rattle.laws.specs.TypeExprs.{StoredExpr}
use Rattle.image_words.specs.Gives.{Word}
use Rattle.image_words.specs.Stands.{Held}
use Rattle.pool_types.specs.TypeAt.{Node, WideAt, TypeAt}

-- over the number of name rows and the words
module _ (names : ℕ) (ws : List ℕ) where
  abbrev pub TypeExprAt : TypeExpr → ℕ → ℕ → Type 0
  TypeExprAt (TypeExpr.leaf t) at n = TypeAt names ws t at n
  TypeExprAt (TypeExpr.named x) at n = Node ws at TypeKind.Named × Word ws (at + 1) x × (x < names) × (n ≡ at + 1 + 1)
  TypeExprAt (TypeExpr.qualified s x) at n = Node ws at TypeKind.Qualified × Word ws (at + 1) s × (s < names) × Word ws (at + 1 + 1) x × (x < names) × (n ≡ at + 1 + 1 + 1)
  TypeExprAt (TypeExpr.generic x a) at n = Node ws at TypeKind.Generic × Word ws (at + 1) x × (x < names) × TypeExprAt a (at + 1 + 1) n
  TypeExprAt (TypeExpr.one c t) at n = Node ws at TypeKind.One × (get_or ws at 0 ≡ c) × TypeExprAt t (at + 1) n
  TypeExprAt (TypeExpr.fixed low high t) at n = Node ws at TypeKind.Fixed × WideAt ws low high (at + 1) × TypeExprAt t (at + 1 + 1 + 1) n
  TypeExprAt (TypeExpr.two c t u) at n = Node ws at TypeKind.Two × (get_or ws at 0 ≡ c) × (m : ℕ) × TypeExprAt t (at + 1) m × TypeExprAt u m n

  -- a type expression as the pool holds it
  abbrev pub TypeExprStands : TypeExpr → ℕ → ℕ → Type 0
  TypeExprStands = Held TypeExprAt expr_run (StoredExpr names) ws
