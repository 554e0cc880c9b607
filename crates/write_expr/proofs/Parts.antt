-- The words of an accepted value, by its parts.
use Prim.Native.Nat.{ℕ, ◌+◌}
use mathlib.Core.Path.{◌≡◌, refl, sym, ap, subst, ◌∙◌}
use mathlib.Core.List.{List, [], ◌∷◌, ◌++◌}
use mathlib.Core.Option.{Option}
use lib.ListN.{length, get_or}
use Rattle.rules.specs.Syntax.{ResolvedType, run, Expr}
use Rattle.rules.specs.Kinds.{expr_kind}
use Rattle.rules.specs.Refusal.{ok}
use Rattle.rules.specs.Infer.{PortableExpr, PortableExprKind, typed, type_of, FunctionContext, infer_expr}
use Rattle.rules.specs.Output.{value_words, kind_words}
use Rattle.rules.specs.declared.kinds.ExprKind.{ExprKind}
use Rattle.rules.proofs.Clash.{clash}
use Rattle.laws.specs.Runs.{expr_words}
use Rattle.type_words.specs.declared.HeldType.{HeldType}
use Rattle.type_words.specs.Runs.{Runs}
use Rattle.image_words.specs.Stands.{Stands}
use Rattle.pool_expressions.proofs.ExprAt.{value_shape}
use Rattle.image_words.proofs.Heads.{head, first}
use Rattle.infer_context.specs.Stood.{Stood}
use Rattle.infer_context.proofs.Nodes.{node, by_code}
use Rattle.write_expr_type.specs.Foretold.{left_type}
use Rattle.write_expr_type.proofs.Accepted.{bind_ok, ended_typed, Operands, Value}
use Rattle.write_expr_type.proofs.Types.{under, left_run}
use Rattle.write_words.specs.Written.{Written}
use Rattle.write_words.proofs.Written.{written_then}
use Rattle.write_expr.specs.Writes.{leaf_size, kind_of}

-- its type's run, then the rest
value_parts : (v : PortableExpr) → run (type_of v) ++ kind_words (kind_of v) ≡ value_words v
unfolding value_words type_of kind_of
value_parts (typed t k) = refl

pub written_value : {limit to : ℕ} {xs ys zs : List ℕ} {a r : ℕ} (v : PortableExpr) → Written limit to (run (type_of v)) xs a ys → Written limit a (kind_words (kind_of v)) ys r zs → Written limit to (value_words v) xs r zs
written_value {limit} {to} {xs} {ys} {zs} {a} {r} v p q = subst (λ (ws : List ℕ). Written limit to ws xs r zs) (value_parts v) (written_then limit to p q)

-- a leaf's words stand in the pool
pub record Leaf (ws : List ℕ) (at : ℕ) (v : PortableExpr) : Type 0 where
  pub next : ℕ
  pub words_at : Stands ws (kind_words (kind_of v)) at next
  pub size : length (kind_words (kind_of v)) ≡ leaf_size (expr_kind (get_or ws at 0))

pub record IsBinary (names strings : ℕ) (ws : List ℕ) (nest at n : ℕ) (e : Expr) : Type 0 where
  pub op : ℕ
  pub left : Expr
  pub right : Expr
  pub is : Expr.binary op left right ≡ e
  pub stood : Stood names strings ws nest (Expr.binary op left right) at n

pub record IsUnary (names strings : ℕ) (ws : List ℕ) (nest at n : ℕ) (e : Expr) : Type 0 where
  pub op : ℕ
  pub value : Expr
  pub is : Expr.unary op value ≡ e
  pub stood : Stood names strings ws nest (Expr.unary op value) at n

module _ {names strings : ℕ} {ws : List ℕ} {nest at n : ℕ} where
  leaf : (e : Expr) → Stood names strings ws nest e at n → (t : ResolvedType) (k : PortableExprKind) (v : PortableExpr) → typed t k ≡ v → (rest : List ℕ) → expr_words e ≡ kind_words k ++ rest
      → length (kind_words k) ≡ leaf_size (value_shape e) → Leaf ws at v
  unfolding kind_of
  leaf e s t k v q rest i l =
      subst (Leaf ws at) q (record {
        next = at + length (kind_words k);
        words_at = first (kind_words k) rest (subst (λ (vs : List ℕ). Stands ws vs at n) i s.words_at);
        size = l ∙ ap leaf_size (sym (node e s).1);
      })

  pub leaf_of : (c : FunctionContext) (o : Option ResolvedType) (context : ℕ) (v : PortableExpr) → (get_or ws at 0 ≡ 10 → ⊥) → (get_or ws at 0 ≡ 11 → ⊥) → (e : Expr) → Stood names strings ws nest e at n → infer_expr c e o context ≡ ok v → Leaf ws at v
  unfolding infer_expr expr_words kind_words
  leaf_of c o context v nb nu (Expr.literal k low high) s e = leaf _ s _ _ v (ended_typed c o context _ _ v (bind_ok _ _ v e).2) [] refl refl
  leaf_of c o context v nb nu (Expr.bool b) s e = leaf _ s _ _ v (ended_typed c o context _ _ v e) [] refl refl
  leaf_of c o context v nb nu (Expr.string t) s e = leaf _ s _ _ v (ended_typed c o context _ _ v e) [] refl refl
  leaf_of c o context v nb nu (Expr.local x) s e = leaf _ s _ _ v (ended_typed c o context _ _ v (bind_ok _ _ v e).2) [] refl refl
  leaf_of c o context v nb nu Expr.self_ref s e = leaf _ s _ _ v (ended_typed c o context _ _ v e) [] refl refl
  leaf_of c o context v nb nu (Expr.field_access f r) s e = leaf _ s _ _ v (ended_typed c o context _ _ v (bind_ok _ _ v e).2) (expr_words r) refl refl
  leaf_of c o context v nb nu (Expr.call f es) s e = clash (cc)
  leaf_of c o context v nb nu (Expr.trait_method_call t m r es) s e = clash (cc)
  leaf_of c o context v nb nu (Expr.binary op d r) s e = absurd (nb (head s.words_at))
  leaf_of c o context v nb nu (Expr.unary op r) s e = absurd (nu (head s.words_at))

  -- an operation is told by its code
  pub at_binary : get_or ws at 0 ≡ 10 → (e : Expr) → Stood names strings ws nest e at n → IsBinary names strings ws nest at n e
  unfolding expr_kind
  at_binary q e s = by_code (λ e. Stood names strings ws nest e at n → IsBinary names strings ws nest at n e) {k = ExprKind.Binary} (ap expr_kind q) (λ op d f s. record { op = op; left = d; right = f; is = refl; stood = s }) e s s

  pub at_unary : get_or ws at 0 ≡ 11 → (e : Expr) → Stood names strings ws nest e at n → IsUnary names strings ws nest at n e
  unfolding expr_kind
  at_unary q e s = by_code (λ e. Stood names strings ws nest e at n → IsUnary names strings ws nest at n e) {k = ExprKind.Unary} (ap expr_kind q) (λ op f s. record { op = op; value = f; is = refl; stood = s }) e s s

  -- the code and the operator
  pub binary_head : (op : ℕ) (d e : Expr) → Stood names strings ws nest (Expr.binary op d e) at n → Stands ws (10 ∷ op ∷ []) at (at + 2)
  unfolding expr_words
  binary_head op d e s = first (10 ∷ op ∷ []) (expr_words d ++ expr_words e) s.words_at

  pub unary_head : (op : ℕ) (e : Expr) → Stood names strings ws nest (Expr.unary op e) at n → Stands ws (11 ∷ op ∷ []) at (at + 2)
  unfolding expr_words
  unary_head op e s = first (11 ∷ op ∷ []) (expr_words e) s.words_at

-- an operation's words, by its operands'
module _ (c : FunctionContext) (op : ℕ) (limit to : ℕ) where
  pub written_binary : {d e : Expr} {o : Option ResolvedType} {v : PortableExpr} (w : Operands c op d e o v) {xs ys zs us : List ℕ} {a b r : ℕ}
      → Written limit to (10 ∷ op ∷ []) xs a ys → Written limit a (value_words w.left) ys b zs → Written limit b (value_words w.right) zs r us → Written limit to (kind_words (kind_of v)) xs r us
  unfolding kind_of kind_words
  written_binary w {xs} {ys} {zs} {us} {a} {b} {r} p q s = subst (λ (v : PortableExpr). Written limit to (kind_words (kind_of v)) xs r us) w.is (written_then limit to p (written_then limit a q s))

  pub written_unary : {e : Expr} {o : Option ResolvedType} {v : PortableExpr} (w : Value c op e o v) {xs ys zs : List ℕ} {a r : ℕ}
      → Written limit to (11 ∷ op ∷ []) xs a ys → Written limit a (value_words w.value) ys r zs → Written limit to (kind_words (kind_of v)) xs r zs
  unfolding kind_of kind_words
  written_unary w {xs} {ys} {zs} {a} {r} p q = subst (λ (v : PortableExpr). Written limit to (kind_words (kind_of v)) xs r zs) w.is (written_then limit to p q)

-- the operands' types
module _ (c : FunctionContext) (op : ℕ) (d e : Expr) (o : Option ResolvedType) (v : PortableExpr) (w : Operands c op d e o v) (h : HeldType) (t : Runs h (run (left_type c op d e (type_of v)))) where
  pub left_runs : Runs h (run (type_of w.left))
  left_runs = subst (Runs h) (sym (left_run c op d e o v w)) t

  pub right_runs : Runs h (run (type_of w.right))
  right_runs = subst (Runs h) (sym (under c e (type_of w.left) 6 w.right w.right_is)) left_runs

pub value_runs : (c : FunctionContext) (op : ℕ) (e : Expr) (o : Option ResolvedType) (v : PortableExpr) (w : Value c op e o v) (h : HeldType) → Runs h (run (type_of v)) → Runs h (run (type_of w.value))
unfolding type_of
value_runs c op e o v w h t = subst (λ (u : PortableExpr). Runs h (run (type_of u))) (sym w.is) t
