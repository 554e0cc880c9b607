-- Readers of trees: a code, and behind it a node by the code's kind, whose parts are trees of one level less.
use Prim.Native.Nat.{ℕ, zero, suc, ◌-◌, ◌<◌, ◌≤◌}
use mathlib.Core.Path.{◌≡◌, refl, sym, ap, subst, ◌∙◌}
use mathlib.Core.List.{List}
use native.Mathlib.Omega.{arith}
use lib.ListN.{get_or}
use Rattle.std.specs.Prelude.{Option, Some, None}
use Rattle.rules.specs.Reader.{Reader, ◌>>=◌, fail, word}
use Rattle.rules.specs.Kinds.{type_kind, expr_kind}
use Rattle.rules.specs.ReadTypes.{type_node, type_tree, type_expr_node, type_expr_tree}
use Rattle.rules.specs.ReadBodies.{expr_node, expr_tree}
use Rattle.rules.specs.declared.kinds.TypeKind.{TypeKind}
use Rattle.rules.specs.declared.kinds.ExprKind.{ExprKind}
use Rattle.image_words.specs.Verdict.{Says}
use Rattle.image_words.proofs.Says.{word_then, stop, failed}

record Tree {A K : Type 0} (tree : ℕ → Reader A) (kind : ℕ → K) (node : Reader A → K → ℕ → Reader A) : Type 0 where
  none : tree 0 ≡ fail
  more : (d : ℕ) → tree (suc d) ≡ (word >>= λ c. node (tree d) (kind c) c)

type_is : (names : ℕ) → Tree (type_tree names) type_kind (type_node names)
unfolding type_tree
type_is names = record { none = refl; more = λ d. refl }

type_expr_is : (names : ℕ) → Tree (type_expr_tree names) type_kind (type_expr_node names)
unfolding type_expr_tree
type_expr_is names = record { none = refl; more = λ d. refl }

expr_is : (names strings : ℕ) → Tree (expr_tree names strings) expr_kind (expr_node names strings)
unfolding expr_tree
expr_is names strings = record { none = refl; more = λ d. refl }

module _ {A K : Type 0} {tree : ℕ → Reader A} {kind : ℕ → K} {node : Reader A → K → ℕ → Reader A} (is : Tree tree kind node) (d : ℕ) {ws : List ℕ} {at : ℕ} where
  -- no level is left
  tree_deep : d < 1 → Says (tree d) ws at None
  tree_deep l = let z : d ≡ 0 = omega arith in subst (λ (r : Reader A). Says r ws at None) (sym (ap tree z ∙ is.none)) failed

  -- what is said behind the code is said of the tree
  tree_then : 1 ≤ d → (e : ℕ) → e ≡ d - 1 → {n : ℕ} → Says word ws at (Some n) → {w : ℕ} → w ≡ get_or ws at 0 → {k : K} → k ≡ kind w → {c : Option ℕ}
      → Says (node (tree e) k w) ws n c → Says (tree d) ws at c
  tree_then l e z {n} s {w} i {k} q {c} h =
      let m : d ≡ suc e = omega arith in
      subst (λ (r : Reader A). Says r ws at c) (sym (ap tree m ∙ is.more e)) (word_then _ s i (subst (λ (k : K). Says (node (tree e) k w) ws n c) q h))

-- no word stands there
tree_stop : {A K : Type 0} {tree : ℕ → Reader A} {kind : ℕ → K} {node : Reader A → K → ℕ → Reader A} → Tree tree kind node → (d : ℕ) {ws : List ℕ} {at : ℕ}
    → Says word ws at None → Says (tree d) ws at None
tree_stop is zero s = tree_deep is 0 (omega arith)
tree_stop {A} is (suc d) {ws} {at} s = subst (λ (r : Reader A). Says r ws at None) (sym (is.more d)) (stop _ s)

-- the same of each tree
module _ (names d : ℕ) {ws : List ℕ} {at : ℕ} where
  pub type_deep : d < 1 → Says (type_tree names d) ws at None
  type_deep l = tree_deep (type_is names) d l

  pub type_stop : Says word ws at None → Says (type_tree names d) ws at None
  type_stop s = tree_stop (type_is names) d s

  pub type_then : 1 ≤ d → {e : ℕ} → e ≡ d - 1 → {n : ℕ} → Says word ws at (Some n) → {w : ℕ} → w ≡ get_or ws at 0 → {k : TypeKind} → k ≡ type_kind w → {c : Option ℕ}
      → Says (type_node names (type_tree names e) k w) ws n c → Says (type_tree names d) ws at c
  type_then l z s i q h = tree_then (type_is names) d l _ z s i q h

  pub type_expr_deep : d < 1 → Says (type_expr_tree names d) ws at None
  type_expr_deep l = tree_deep (type_expr_is names) d l

  pub type_expr_stop : Says word ws at None → Says (type_expr_tree names d) ws at None
  type_expr_stop s = tree_stop (type_expr_is names) d s

  pub type_expr_then : 1 ≤ d → {e : ℕ} → e ≡ d - 1 → {n : ℕ} → Says word ws at (Some n) → {w : ℕ} → w ≡ get_or ws at 0 → {k : TypeKind} → k ≡ type_kind w → {c : Option ℕ}
      → Says (type_expr_node names (type_expr_tree names e) k w) ws n c → Says (type_expr_tree names d) ws at c
  type_expr_then l z s i q h = tree_then (type_expr_is names) d l _ z s i q h

module _ (names strings d : ℕ) {ws : List ℕ} {at : ℕ} where
  pub expr_deep : d < 1 → Says (expr_tree names strings d) ws at None
  expr_deep l = tree_deep (expr_is names strings) d l

  pub expr_stop : Says word ws at None → Says (expr_tree names strings d) ws at None
  expr_stop s = tree_stop (expr_is names strings) d s

  pub expr_then : 1 ≤ d → {e : ℕ} → e ≡ d - 1 → {n : ℕ} → Says word ws at (Some n) → {w : ℕ} → w ≡ get_or ws at 0 → {k : ExprKind} → k ≡ expr_kind w → {c : Option ℕ}
      → Says (expr_node names strings (expr_tree names strings e) k w) ws n c → Says (expr_tree names strings d) ws at c
  expr_then l z s i q h = tree_then (expr_is names strings) d l _ z s i q h

pub ruleset type_steps = (type_deep, type_stop, type_then)

pub ruleset type_expr_steps = (type_expr_deep, type_expr_stop, type_expr_then)

pub ruleset expr_steps = (expr_deep, expr_stop, expr_then)
