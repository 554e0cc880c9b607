-- An expression's code, its words and its parts, where it stands.
use Prim.Native.Nat.{ℕ, ◌+◌, ◌-◌, ◌<◌, ◌≤◌}
use native.Mathlib.Omega.{arith}
use mathlib.Core.Path.{◌≡◌, refl, sym, ap, subst, ◌∙◌}
use mathlib.Core.List.{List, ◌∷◌}
use lib.ListN.{length, get_or}
use Rattle.rules.specs.Syntax.{Expr, Exprs}
use Rattle.rules.specs.Kinds.{expr_kind}
use Rattle.rules.specs.declared.kinds.ExprKind.{ExprKind}
use Rattle.laws.specs.Runs.{expr_words, nesting}
use Rattle.rules.proofs.Codes.{literal_kind}
use Rattle.image_words.specs.Stands.{Stands}
use Rattle.pool_expressions.proofs.ExprAt.{value_shape}
use Rattle.image_words.proofs.Heads.{head, tail, inside, first, second}
use Rattle.infer_context.specs.Stood.{Stood}

-- a property of the expressions of a kind
abbrev pub Case : (Expr → Type 0) → ExprKind → Type 0
Case P ExprKind.Literal = (c low high : ℕ) → P (Expr.literal c low high)
Case P ExprKind.Flag = (b : ℕ) → P (Expr.bool b)
Case P ExprKind.Text = (s : ℕ) → P (Expr.string s)
Case P ExprKind.Local = (x : ℕ) → P (Expr.local x)
Case P ExprKind.SelfRef = P Expr.self_ref
Case P ExprKind.FieldAccess = (x : ℕ) (e : Expr) → P (Expr.field_access x e)
Case P ExprKind.Call = (x : ℕ) (es : Exprs) → P (Expr.call x es)
Case P ExprKind.TraitMethodCall = (t x : ℕ) (e : Expr) (es : Exprs) → P (Expr.trait_method_call t x e es)
Case P ExprKind.Binary = (op : ℕ) (d e : Expr) → P (Expr.binary op d e)
Case P ExprKind.Unary = (op : ℕ) (e : Expr) → P (Expr.unary op e)
Case P ExprKind.Unknown = Unit {0}

own : (P : Expr → Type 0) (e : Expr) → Case P (value_shape e) → P e
own P (Expr.literal c low high) h = h c low high
own P (Expr.bool b) h = h b
own P (Expr.string s) h = h s
own P (Expr.local x) h = h x
own P Expr.self_ref h = h
own P (Expr.field_access x e) h = h x e
own P (Expr.call x es) h = h x es
own P (Expr.trait_method_call t x e es) h = h t x e es
own P (Expr.binary op d e) h = h op d e
own P (Expr.unary op e) h = h op e

-- so of an expression whose kind is known
by_shape : (P : Expr → Type 0) {k : ExprKind} → Case P k → (e : Expr) → value_shape e ≡ k → P e
by_shape P h e q = own P e (subst (Case P) (sym q) h)

-- an expression is nested at least 1 deep
pub deep : (e : Expr) → 1 ≤ nesting e
deep (Expr.literal c low high) = omega arith
deep (Expr.bool b) = omega arith
deep (Expr.string s) = omega arith
deep (Expr.local x) = omega arith
deep Expr.self_ref = omega arith
deep (Expr.field_access x e) = omega arith
deep (Expr.call x es) = omega arith
deep (Expr.trait_method_call t x e es) = omega arith
deep (Expr.binary op d e) = omega arith
deep (Expr.unary op e) = omega arith

-- the word behind a code
word_of : {ws : List ℕ} {at n c x : ℕ} {xs : List ℕ} → Stands ws (c ∷ x ∷ xs) at n → (at + 1 < length ws) × (get_or ws (at + 1) 0 ≡ x)
word_of s = (inside (tail s), head (tail s))

module _ {names strings : ℕ} {ws : List ℕ} {nest at n : ℕ} where
  -- its code
  pub node : (e : Expr) → Stood names strings ws nest e at n → (at < length ws) × (expr_kind (get_or ws at 0) ≡ value_shape e)
  unfolding expr_words
  node (Expr.literal c low high) s = (inside s.words_at, ap expr_kind (head s.words_at) ∙ literal_kind c s.nested.good)
  node (Expr.bool b) s = (inside s.words_at, ap expr_kind (head s.words_at) ∙ (unfold expr_kind in refl))
  node (Expr.string t) s = (inside s.words_at, ap expr_kind (head s.words_at) ∙ (unfold expr_kind in refl))
  node (Expr.local x) s = (inside s.words_at, ap expr_kind (head s.words_at) ∙ (unfold expr_kind in refl))
  node Expr.self_ref s = (inside s.words_at, ap expr_kind (head s.words_at) ∙ (unfold expr_kind in refl))
  node (Expr.field_access x e) s = (inside s.words_at, ap expr_kind (head s.words_at) ∙ (unfold expr_kind in refl))
  node (Expr.call x es) s = (inside s.words_at, ap expr_kind (head s.words_at) ∙ (unfold expr_kind in refl))
  node (Expr.trait_method_call t x e es) s = (inside s.words_at, ap expr_kind (head s.words_at) ∙ (unfold expr_kind in refl))
  node (Expr.binary op d e) s = (inside s.words_at, ap expr_kind (head s.words_at) ∙ (unfold expr_kind in refl))
  node (Expr.unary op e) s = (inside s.words_at, ap expr_kind (head s.words_at) ∙ (unfold expr_kind in refl))

  -- so of the expression that stands there, by the kind of the code
  pub by_code : (P : Expr → Type 0) {k : ExprKind} → expr_kind (get_or ws at 0) ≡ k → Case P k → (e : Expr) → Stood names strings ws nest e at n → P e
  by_code P q h e s = by_shape P h e (sym (node e s).1 ∙ q)

  -- the word behind its code
  pub local_word : (x : ℕ) → Stood names strings ws nest (Expr.local x) at n → (at + 1 < length ws) × (get_or ws (at + 1) 0 ≡ x)
  unfolding expr_words
  local_word x s = word_of s.words_at

  pub field_word : (x : ℕ) (e : Expr) → Stood names strings ws nest (Expr.field_access x e) at n → (at + 1 < length ws) × (get_or ws (at + 1) 0 ≡ x)
  unfolding expr_words
  field_word x e s = word_of s.words_at

  pub binary_word : (op : ℕ) (d e : Expr) → Stood names strings ws nest (Expr.binary op d e) at n → (at + 1 < length ws) × (get_or ws (at + 1) 0 ≡ op)
  unfolding expr_words
  binary_word op d e s = word_of s.words_at

  pub unary_word : (op : ℕ) (e : Expr) → Stood names strings ws nest (Expr.unary op e) at n → (at + 1 < length ws) × (get_or ws (at + 1) 0 ≡ op)
  unfolding expr_words
  unary_word op e s = word_of s.words_at

  pub call_word : (x : ℕ) (es : Exprs) → Stood names strings ws nest (Expr.call x es) at n → (at + 1 < length ws) × (get_or ws (at + 1) 0 ≡ x)
  unfolding expr_words
  call_word x es s = word_of s.words_at

  -- its parts
  pub receiver : (x : ℕ) (e : Expr) → Stood names strings ws nest (Expr.field_access x e) at n → Stood names strings ws (nest - 1) e (at + 1 + 1) n
  unfolding expr_words
  receiver x e s = record { words_at = tail (tail s.words_at); nested = record { good = s.nested.good.1; deep = omega (arith, s.nested.deep) } }

  pub value : (op : ℕ) (e : Expr) → Stood names strings ws nest (Expr.unary op e) at n → Stood names strings ws (nest - 1) e (at + 1 + 1) n
  unfolding expr_words
  value op e s = record { words_at = tail (tail s.words_at); nested = record { good = s.nested.good.1; deep = omega (arith, s.nested.deep) } }

  pub left : (op : ℕ) (d e : Expr) → Stood names strings ws nest (Expr.binary op d e) at n → Stood names strings ws (nest - 1) d (at + 1 + 1) (at + 1 + 1 + length (expr_words d))
  unfolding expr_words
  left op d e s = record { words_at = first (expr_words d) (expr_words e) (tail (tail s.words_at)); nested = record { good = s.nested.good.1; deep = omega (arith, s.nested.deep) } }

  pub right : (op : ℕ) (d e : Expr) → Stood names strings ws nest (Expr.binary op d e) at n → Stood names strings ws (nest - 1) e (at + 1 + 1 + length (expr_words d)) n
  unfolding expr_words
  right op d e s = record { words_at = second (expr_words d) (expr_words e) (tail (tail s.words_at)); nested = record { good = s.nested.good.2; deep = omega (arith, s.nested.deep) } }
