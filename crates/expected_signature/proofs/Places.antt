-- Places of the pool are small, and what `substitute` says of an expression that stands there. Assumes nothing.
use Prim.Native.Nat.{ℕ, ◌<◌}
use mathlib.Core.Path.{◌≡◌, refl}
use mathlib.Core.List.{List}
use native.Mathlib.Omega.{arith}
use lib.ListN.{length}
use Rattle.rules.specs.Syntax.{ResolvedType, TypeExpr}
use Rattle.rules.specs.Substitute.{Counted, too_large, done}
use Rattle.std.specs.Prelude.{Some, None}
use Rattle.rules.proofs.Clash.{clash}
use Rattle.image_layout.specs.declared.Layout.{Layout}
use Rattle.image_layout.specs.Rows.{Inside}
use Rattle.image_layout.specs.Open.{pool_words}
use Rattle.pool_type_exprs.specs.TypeExprAt.{TypeExprStands}
use Rattle.type_words.specs.Holds.{Holds}
use Rattle.type_from_pool.specs.Held.{ExprStands}
use Rattle.subst.specs.declared.whole.Substituted.{Substituted}
use Rattle.subst.specs.Answers.{Answers}

pub pool_small : {l : Layout} → Inside l → {at : ℕ} → at < length (pool_words l) → at < 65536
pool_small i h = omega (arith, i.pool)

pub expr_here : {names : ℕ} {ws : List ℕ} {e : TypeExpr} {at n : ℕ} → TypeExprStands names ws e at n → ExprStands names ws e at n
expr_here h = record { run_at = h.words_at; stored = h.good }

module _ (names n : ℕ) where
  pub is_large : (o : Counted ResolvedType) → Answers names n o None → o ≡ too_large
  is_large too_large a = refl
  is_large (done v t) a = absurd a

  pub record Taken (s : Substituted) (o : Counted ResolvedType) : Type 0 where
    pub v : ℕ
    pub t : ResolvedType
    pub is : o ≡ done v t
    pub visits : s.visits ≡ v
    pub next : s.next ≡ n
    pub holds : Holds names s.ty t

  pub taken : (s : Substituted) (o : Counted ResolvedType) → Answers names n o (Some s) → Taken s o
  taken s too_large a = clash (cc)
  taken s (done v t) a = record { v = v; t = t; is = refl; visits = a.0; next = a.1; holds = a.2 }
