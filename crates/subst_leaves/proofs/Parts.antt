-- The words and the parts of an expression that stands among some words. Assumes nothing.
use Prim.Native.Nat.{ℕ, ◌+◌, ◌<◌}
use mathlib.Core.Path.{◌≡◌, refl}
use mathlib.Core.List.{List}
use native.Mathlib.Omega.{arith}
use lib.ListN.{length, get_or, length-append}
use Rattle.rules.specs.Syntax.{ResolvedType, TypeExpr, run, expr_run}
use Rattle.rules.specs.Kinds.{type_kind}
use Rattle.rules.specs.declared.kinds.TypeKind.{TypeKind}
use Rattle.rules.specs.Good.{GoodExpr, Stored}
use Rattle.image_words.specs.Stands.{Stands}
use Rattle.pool_type_exprs.proofs.TypeExprAt.{expr_shape}
use Rattle.image_words.proofs.Heads.{head, tail, first, second}
use Rattle.type_from_pool.specs.Held.{ExprStands}

module _ (names : ℕ) (ws : List ℕ) (at n : ℕ) where
  -- a name
  pub record Named (x : ℕ) : Type 0 where
    pub name : get_or ws (at + 1) 0 ≡ x
    pub below : x < names
    pub next : at + 1 + 1 ≡ n

  pub record Qualified (q x : ℕ) : Type 0 where
    pub namespace : get_or ws (at + 1) 0 ≡ q
    pub name : get_or ws (at + 1 + 1) 0 ≡ x
    pub namespace_below : q < names
    pub below : x < names
    pub next : at + 1 + 1 + 1 ≡ n

  -- a name and an argument
  pub record Generic (x : ℕ) (a : TypeExpr) : Type 0 where
    pub name : get_or ws (at + 1) 0 ≡ x
    pub below : x < names
    pub part : ExprStands names ws a (at + 1 + 1) n

  -- a code and one part
  pub record One (c : ℕ) (a : TypeExpr) : Type 0 where
    pub code : get_or ws at 0 ≡ c
    pub kind : type_kind c ≡ TypeKind.One
    pub part : ExprStands names ws a (at + 1) n

  -- a length and one part
  pub record Fixed (low high : ℕ) (a : TypeExpr) : Type 0 where
    pub low_is : get_or ws (at + 1) 0 ≡ low
    pub high_is : get_or ws (at + 1 + 1) 0 ≡ high
    pub part : ExprStands names ws a (at + 1 + 1 + 1) n

  -- a code and two parts
  pub record Two (c : ℕ) (a b : TypeExpr) : Type 0 where
    pub code : get_or ws at 0 ≡ c
    pub kind : type_kind c ≡ TypeKind.Two
    pub middle : ℕ
    pub left : ExprStands names ws a (at + 1) middle
    pub right : ExprStands names ws b middle n

module _ {names : ℕ} {ws : List ℕ} {at n : ℕ} where
  pub leaf_stands : (t : ResolvedType) → ExprStands names ws (TypeExpr.leaf t) at n → Stands ws (run t) at n × Stored names t
  unfolding expr_run
  leaf_stands t e = (e.run_at, record { good = e.stored.good.1; short = e.stored.short })

  pub named_stands : (x : ℕ) → ExprStands names ws (TypeExpr.named x) at n → Named names ws at n x
  unfolding expr_run
  named_stands x e = record { name = head (tail e.run_at); below = e.stored.good; next = omega (arith, e.run_at.next) }

  pub qualified_stands : (q x : ℕ) → ExprStands names ws (TypeExpr.qualified q x) at n → Qualified names ws at n q x
  unfolding expr_run
  qualified_stands q x e = record {
    namespace = head (tail e.run_at);
    name = head (tail (tail e.run_at));
    namespace_below = e.stored.good.0;
    below = e.stored.good.1;
    next = omega (arith, e.run_at.next);
  }

  pub generic_stands : (x : ℕ) (a : TypeExpr) → ExprStands names ws (TypeExpr.generic x a) at n → Generic names ws at n x a
  unfolding expr_run
  generic_stands x a e = record {
    name = head (tail e.run_at);
    below = e.stored.good.0;
    part = record { run_at = tail (tail e.run_at); stored = record { good = e.stored.good.1; short = omega (arith, e.stored.short) } };
  }

  pub one_stands : (c : ℕ) (a : TypeExpr) → ExprStands names ws (TypeExpr.one c a) at n → One names ws at n c a
  unfolding expr_run
  one_stands c a e = record {
    code = head e.run_at;
    kind = e.stored.good.0;
    part = record { run_at = tail e.run_at; stored = record { good = e.stored.good.1; short = omega (arith, e.stored.short) } };
  }

  pub fixed_stands : (low high : ℕ) (a : TypeExpr) → ExprStands names ws (TypeExpr.fixed low high a) at n → Fixed names ws at n low high a
  unfolding expr_run
  fixed_stands low high a e = record {
    low_is = head (tail e.run_at);
    high_is = head (tail (tail e.run_at));
    part = record { run_at = tail (tail (tail e.run_at)); stored = record { good = e.stored.good; short = omega (arith, e.stored.short) } };
  }

  pub two_stands : (c : ℕ) (a b : TypeExpr) → ExprStands names ws (TypeExpr.two c a b) at n → Two names ws at n c a b
  unfolding expr_run
  two_stands c a b e =
      let s = tail e.run_at in
      record {
        code = head e.run_at;
        kind = e.stored.good.0;
        middle = at + 1 + length (expr_run a);
        left = record { run_at = first (expr_run a) (expr_run b) s; stored = record { good = e.stored.good.1; short = omega (arith, e.stored.short, length-append (expr_run a) (expr_run b)) } };
        right = record { run_at = second (expr_run a) (expr_run b) s; stored = record { good = e.stored.good.2; short = omega (arith, e.stored.short, length-append (expr_run a) (expr_run b)) } };
      }

-- the forms of a kind
abbrev pub Form : TypeKind → TypeExpr → Type 0
Form TypeKind.Plain e = (t : ResolvedType) × (TypeExpr.leaf t ≡ e)
Form TypeKind.Sub e = (t : ResolvedType) × (TypeExpr.leaf t ≡ e)
Form TypeKind.Bits e = (t : ResolvedType) × (TypeExpr.leaf t ≡ e)
Form TypeKind.Named e = (x : ℕ) × (TypeExpr.named x ≡ e)
Form TypeKind.Qualified e = (q : ℕ) × (x : ℕ) × (TypeExpr.qualified q x ≡ e)
Form TypeKind.Generic e = (x : ℕ) × (a : TypeExpr) × (TypeExpr.generic x a ≡ e)
Form TypeKind.One e = (c : ℕ) × (a : TypeExpr) × (TypeExpr.one c a ≡ e)
Form TypeKind.Fixed e = (low : ℕ) × (high : ℕ) × (a : TypeExpr) × (TypeExpr.fixed low high a ≡ e)
Form TypeKind.Two e = (c : ℕ) × (a : TypeExpr) × (b : TypeExpr) × (TypeExpr.two c a b ≡ e)
Form TypeKind.Unknown e = ⊥

pub form : (names : ℕ) (e : TypeExpr) → GoodExpr names e → Form (expr_shape e) e
form names (TypeExpr.leaf (ResolvedType.plain c)) g = (ResolvedType.plain c, refl)
form names (TypeExpr.leaf (ResolvedType.sub s b)) g = (ResolvedType.sub s b, refl)
form names (TypeExpr.leaf (ResolvedType.bits ns)) g = (ResolvedType.bits ns, refl)
form names (TypeExpr.leaf (ResolvedType.named d)) g = absurd g.0
form names (TypeExpr.leaf (ResolvedType.one c t)) g = absurd g.0
form names (TypeExpr.leaf (ResolvedType.fixed low high t)) g = absurd g.0
form names (TypeExpr.leaf (ResolvedType.two c t u)) g = absurd g.0
form names (TypeExpr.named x) g = (x, refl)
form names (TypeExpr.qualified q x) g = (q, x, refl)
form names (TypeExpr.generic x a) g = (x, a, refl)
form names (TypeExpr.one c a) g = (c, a, refl)
form names (TypeExpr.fixed low high a) g = (low, high, a, refl)
form names (TypeExpr.two c a b) g = (c, a, b, refl)
