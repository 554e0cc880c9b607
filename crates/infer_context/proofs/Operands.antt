-- Where an operation's operands stand, by the places that the code has.
use Prim.Native.Nat.{ℕ, ◌+◌, ◌-◌, ◌<◌}
use mathlib.Core.Path.{◌≡◌, sym, subst}
use mathlib.Core.List.{List}
use lib.ListN.{length}
use Rattle.rules.specs.Syntax.{Expr}
use Rattle.laws.specs.Runs.{expr_words}
use Rattle.infer_context.specs.Stood.{Stood}
use Rattle.infer_context.proofs.Nodes as nodes

moved : {names strings : ℕ} {ws : List ℕ} {e : Expr} {m : ℕ} (outer nest i j : ℕ) → outer - 1 ≡ nest → i ≡ j → Stood names strings ws (outer - 1) e j m → Stood names strings ws nest e i m
moved {names} {strings} {ws} {e} {m} outer nest i j z q s = subst (λ (k : ℕ). Stood names strings ws nest e k m) (sym q) (subst (λ (d : ℕ). Stood names strings ws d e j m) z s)

-- i is the place of the first, k the one behind it
module _ {names strings : ℕ} {ws : List ℕ} (outer nest : ℕ) (z : outer - 1 ≡ nest) (at i : ℕ) (first : at + 1 < length ws → i ≡ at + 1 + 1) {n : ℕ} where
  pub left_at : (op : ℕ) (d e : Expr) → Stood names strings ws outer (Expr.binary op d e) at n → Stood names strings ws nest d i (at + 1 + 1 + length (expr_words d))
  left_at op d e s = moved outer nest i (at + 1 + 1) z (first (nodes.binary_word op d e s).0) (nodes.left op d e s)

  pub right_at : (op : ℕ) (d e : Expr) → Stood names strings ws outer (Expr.binary op d e) at n → (k : ℕ) → ((e : Expr) (n : ℕ) → Stood names strings ws nest e i n → k ≡ n) → Stood names strings ws nest e k n
  right_at op d e s k h = moved outer nest k (at + 1 + 1 + length (expr_words d)) z (h d _ (left_at op d e s)) (nodes.right op d e s)

  pub value_at : (op : ℕ) (e : Expr) → Stood names strings ws outer (Expr.unary op e) at n → Stood names strings ws nest e i n
  value_at op e s = moved outer nest i (at + 1 + 1) z (first (nodes.unary_word op e s).0) (nodes.value op e s)
