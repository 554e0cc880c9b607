-- Each kind of expression that is no operation, by the code that stands there.
use Prim.Native.Nat.{ℕ, ◌+◌, ◌<◌}
use native.Mathlib.Omega.{arith}
use mathlib.Core.Path.{◌≡◌, subst, ◌∙◌}
use mathlib.Core.List.{List}
use mathlib.Core.Logic.{◌⊎◌, ⊎_elim}
use mathlib.Core.Option.{Option}
use lib.ListN.{length, get_or}
use denote.Enum.Declared.{tag_of}
use borrow.Enum.Known.{lives_at}
use Rattle.rules.specs.Syntax.{ResolvedType, Expr, Exprs}
use Rattle.rules.specs.Types.{BOOL, STRING}
use Rattle.rules.specs.Kinds.{expr_kind}
use Rattle.rules.specs.Refusal.{err, with_name}
use Rattle.rules.specs.Infer.{PortableExprKind, FunctionContext, expression_hint, ended, infer_expr}
use Rattle.rules.specs.declared.kinds.ExprKind.{ExprKind}
use Rattle.rules.specs.contracts.kinds.ExprKind as kinds
use Rattle.laws.specs.Runs.{expr_words}
use Rattle.image_words.proofs.Heads.{head, tail, inside}
use Rattle.infer_context.specs.Stood.{Stood}
use Rattle.infer_context.proofs.Nodes.{by_code, local_word, field_word, call_word}
use Rattle.infer_result.specs.declared.inferred.Inferred.{Inferred}
use Rattle.infer_result.specs.Says.{Says}
use Rattle.infer_result.proofs.Steps.{says_≡}
use Rattle.infer_leaves.specs.Placed.{placed}
use Rattle.infer_leaves.proofs.Placed.{local_placed, self_placed, field_placed}

-- the method's name, the second word behind the code
pub method_word : {names strings : ℕ} {ws : List ℕ} {nest at n t x : ℕ} {e : Expr} {es : Exprs} → Stood names strings ws nest (Expr.trait_method_call t x e es) at n → (at + 1 < length ws) × (get_or ws (at + 1 + 1) 0 ≡ x)
unfolding expr_words
method_word s = (inside (tail s.words_at), head (tail (tail s.words_at)))

-- what came of an expression that stands there
abbrev pub Came : ℕ → ℕ → List ℕ → ℕ → ℕ → ℕ → FunctionContext → Option ResolvedType → ℕ → Inferred → Expr → Type 0
Came names strings ws nest at n c o context r e = Stood names strings ws nest e at n → Says names c.function (infer_expr c e o context) r

module _ {names strings : ℕ} {ws : List ℕ} {nest at n : ℕ} (c : FunctionContext) (o : Option ResolvedType) (context : ℕ) (r : Inferred) where
  pub of_literal : expr_kind (get_or ws at 0) ≡ ExprKind.Literal → ((k low high : ℕ) → Came names strings ws nest at n c o context r (Expr.literal k low high)) → (e : Expr) → Came names strings ws nest at n c o context r e
  of_literal q h e s = by_code (Came names strings ws nest at n c o context r) q h e s s

  pub of_flag : expr_kind (get_or ws at 0) ≡ ExprKind.Flag → ((k : PortableExprKind) → Says names c.function (ended c o context BOOL k) r) → (e : Expr) → Came names strings ws nest at n c o context r e
  unfolding infer_expr
  of_flag q h e s = by_code (Came names strings ws nest at n c o context r) q (λ b s. h (PortableExprKind.bool b)) e s s

  pub of_text : expr_kind (get_or ws at 0) ≡ ExprKind.Text → ((k : PortableExprKind) → Says names c.function (ended c o context STRING k) r) → (e : Expr) → Came names strings ws nest at n c o context r e
  unfolding infer_expr
  of_text q h e s = by_code (Came names strings ws nest at n c o context r) q (λ b s. h (PortableExprKind.string b)) e s s

  of_local : expr_kind (get_or ws at 0) ≡ ExprKind.Local
      → ((e : Expr) → Stood names strings ws nest e at n → (k : PortableExprKind) → Says names c.function (placed c 16 (get_or ws (at + 1) 0) (expression_hint c e) o context k) r) → (e : Expr) → Came names strings ws nest at n c o context r e
  of_local q h e s =
      by_code (Came names strings ws nest at n c o context r) q (λ x s. says_≡ names c.function r (local_placed c o context x)
      (subst (λ (y : ℕ). Says names c.function (placed c 16 y (expression_hint c (Expr.local x)) o context (PortableExprKind.local x)) r) (local_word x s).1 (h (Expr.local x) s (PortableExprKind.local x)))) e s s

  of_self_ref : expr_kind (get_or ws at 0) ≡ ExprKind.SelfRef
      → ((e : Expr) → Stood names strings ws nest e at n → (k : PortableExprKind) → Says names c.function (placed c 16 (get_or ws (at + 1) 0) (expression_hint c e) o context k) r) → (e : Expr) → Came names strings ws nest at n c o context r e
  of_self_ref q h e s =
      by_code (Came names strings ws nest at n c o context r) q (λ s. says_≡ names c.function r (self_placed c o context (get_or ws (at + 1) 0)) (h Expr.self_ref s PortableExprKind.self_ref)) e s s

  -- one arm has both, and tells the kind's number alone
  pub of_local_or_self : (k : ExprKind) → expr_kind (get_or ws at 0) ≡ k → (tag_of kinds.the_type k ≡ 3) ⊎ (tag_of kinds.the_type k ≡ 4)
      → ((e : Expr) → Stood names strings ws nest e at n → (k : PortableExprKind) → Says names c.function (placed c 16 (get_or ws (at + 1) 0) (expression_hint c e) o context k) r) → (e : Expr) → Came names strings ws nest at n c o context r e
  of_local_or_self k q m h e s = ⊎_elim (λ t. of_local (q ∙ (lives_at kinds.enum k 3 t).1) h e s) (λ t. of_self_ref (q ∙ (lives_at kinds.enum k 4 t).1) h e s) m

  pub of_field : expr_kind (get_or ws at 0) ≡ ExprKind.FieldAccess
      → ((e : Expr) → Stood names strings ws nest e at n → (k : PortableExprKind) → Says names c.function (placed c 17 (get_or ws (at + 1) 0) (expression_hint c e) o context k) r) → (e : Expr) → Came names strings ws nest at n c o context r e
  of_field q h e s =
      by_code (Came names strings ws nest at n c o context r) q (λ x d s. says_≡ names c.function r (field_placed c o context x d)
      (subst (λ (y : ℕ). Says names c.function (placed c 17 y (expression_hint c (Expr.field_access x d)) o context (PortableExprKind.self_field x)) r) (field_word x d s).1 (h (Expr.field_access x d) s (PortableExprKind.self_field x)))) e s s

  pub of_call : expr_kind (get_or ws at 0) ≡ ExprKind.Call → (y : ℕ) → (at < length ws → y ≡ get_or ws (at + 1) 0) → Says names c.function (err (with_name 13 c.function y)) r → (e : Expr) → Came names strings ws nest at n c o context r e
  unfolding infer_expr
  of_call q y w h e s =
      by_code (Came names strings ws nest at n c o context r) q (λ x es s.
      let i = call_word x es s in
      subst (λ (z : ℕ). Says names c.function (err (with_name 13 c.function z)) r) (w (omega (arith, i.0)) ∙ i.1) h) e s s

  pub of_method : expr_kind (get_or ws at 0) ≡ ExprKind.TraitMethodCall → (y : ℕ) → ((nest t x n : ℕ) (e : Expr) (es : Exprs) → Stood names strings ws nest (Expr.trait_method_call t x e es) at n → y ≡ x)
      → Says names c.function (err (with_name 14 c.function y)) r → (e : Expr) → Came names strings ws nest at n c o context r e
  unfolding infer_expr
  of_method q y w h e s =
      by_code (Came names strings ws nest at n c o context r) q (λ t x d es s. subst (λ (z : ℕ). Says names c.function (err (with_name 14 c.function z)) r) (w nest t x n d es s) h) e s s

  -- the last arm, of what is no leaf
  pub of_no_leaf : (k : ExprKind) → expr_kind (get_or ws at 0) ≡ k → (tag_of kinds.the_type k ≡ 8) ⊎ ((tag_of kinds.the_type k ≡ 9) ⊎ (tag_of kinds.the_type k ≡ 10))
      → (expr_kind (get_or ws at 0) ≡ ExprKind.Binary → ⊥) → (expr_kind (get_or ws at 0) ≡ ExprKind.Unary → ⊥) → (e : Expr) → Came names strings ws nest at n c o context r e
  of_no_leaf k q m b u e s =
      ⊎_elim (λ t. absurd (b (q ∙ (lives_at kinds.enum k 8 t).1))) (⊎_elim (λ t. absurd (u (q ∙ (lives_at kinds.enum k 9 t).1)))
      (λ t. by_code (Came names strings ws nest at n c o context r) (q ∙ (lives_at kinds.enum k 10 t).1) tt e s s)) m
