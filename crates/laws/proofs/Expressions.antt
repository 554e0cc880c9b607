-- Expressions in the pool: the words of an expression read back to it and nothing else does.
use Prim.Native.Nat.{ℕ, zero, suc, ◌≤◌}
use mathlib.Core.Path.{◌≡◌, refl, sym, ap, ap₂, subst}
use mathlib.Core.List.{List, [], ◌∷◌, ◌++◌}
use native.Mathlib.Omega.{arith}
use Rattle.rules.proofs.Codes.{literal_kind, ExprCode, expr_code}
use Rattle.rules.specs.Syntax.{Expr, Exprs}
use Rattle.rules.specs.Reader.{Reader, repeat}
use Rattle.rules.specs.Kinds.{expr_kind}
use Rattle.rules.specs.ReadBodies.{exprs, expr_node, expr_tree, expression}
use Rattle.rules.specs.declared.kinds.ExprKind.{ExprKind}
use Rattle.rules.specs.Exact.{Reads, Gives, Exact, Run}
use Rattle.rules.proofs.ReadBack.{give_reads, then_reads, last_reads, word_reads, below_then}
use Rattle.rules.proofs.Gives as gives
use Rattle.rules.proofs.Exact as exact
use Rattle.rules.proofs.Types.{wide_then, wide_gives}
use Rattle.laws.specs.Runs.{count, expr_words, exprs_words, nesting, nestings, GoodValue, GoodValues, Nested}

module _ (names strings : ℕ) where
  at_kind : (f : ℕ) {c : ℕ} (k : ExprKind) {ws : List ℕ} {e : Expr} → expr_kind c ≡ k → Reads (expr_node names strings (expr_tree names strings f) k c) ws e
      → Reads (expr_tree names strings (suc f)) (c ∷ ws) e
  unfolding expr_tree
  at_kind f {c} k {ws} {e} q h = word_reads _ (subst (λ (k : ExprKind). Reads (expr_node names strings (expr_tree names strings f) k c) ws e) (sym q) h)

  mutual
    unfolding expr_words expr_node exprs_words repeat expr_kind

    pub tree_reads : (e : Expr) (f : ℕ) → GoodValue names strings e → nesting e ≤ f → Reads (expr_tree names strings f) (expr_words e) e
    tree_reads (Expr.literal c low high) zero g d = absurd (omega arith)
    tree_reads (Expr.literal c low high) (suc f) g d = at_kind f ExprKind.Literal (literal_kind c g) (wide_then _ (give_reads _))
    tree_reads (Expr.bool b) zero g d = absurd (omega arith)
    tree_reads (Expr.bool b) (suc f) g d = at_kind f ExprKind.Flag refl (below_then _ g (give_reads _))
    tree_reads (Expr.string s) zero g d = absurd (omega arith)
    tree_reads (Expr.string s) (suc f) g d = at_kind f ExprKind.Text refl (below_then _ g (give_reads _))
    tree_reads (Expr.local x) zero g d = absurd (omega arith)
    tree_reads (Expr.local x) (suc f) g d = at_kind f ExprKind.Local refl (below_then _ g (give_reads _))
    tree_reads Expr.self_ref zero g d = absurd (omega arith)
    tree_reads Expr.self_ref (suc f) g d = at_kind f ExprKind.SelfRef refl (give_reads _)
    tree_reads (Expr.field_access x e) zero g d = absurd (omega arith)
    tree_reads (Expr.field_access x e) (suc f) g d =
        at_kind f ExprKind.FieldAccess refl (below_then _ g.0 (last_reads _ (tree_reads e f g.1 (omega arith))))
    tree_reads (Expr.call x es) zero g d = absurd (omega arith)
    tree_reads (Expr.call x es) (suc f) g d =
        at_kind f ExprKind.Call refl (below_then _ g.0 (below_then _ (omega (arith, g.1)) (last_reads _ (trees_read es f g.2 (omega arith)))))
    tree_reads (Expr.trait_method_call t m e es) zero g d = absurd (omega arith)
    tree_reads (Expr.trait_method_call t m e es) (suc f) g d =
        at_kind f ExprKind.TraitMethodCall refl (below_then _ g.0 (below_then _ g.1 (below_then _ (omega (arith, g.2))
        (then_reads _ (tree_reads e f g.3 (omega arith)) (last_reads _ (trees_read es f g.4 (omega arith)))))))
    tree_reads (Expr.binary op l r) zero g d = absurd (omega arith)
    tree_reads (Expr.binary op l r) (suc f) g d =
        at_kind f ExprKind.Binary refl (below_then _ g.0
        (then_reads _ (tree_reads l f g.1 (omega arith)) (last_reads _ (tree_reads r f g.2 (omega arith)))))
    tree_reads (Expr.unary op e) zero g d = absurd (omega arith)
    tree_reads (Expr.unary op e) (suc f) g d =
        at_kind f ExprKind.Unary refl (below_then _ g.0 (last_reads _ (tree_reads e f g.1 (omega arith))))

    trees_read : (es : Exprs) (f : ℕ) → GoodValues names strings es → nestings es ≤ f → Reads (exprs (count es) (expr_tree names strings f)) (exprs_words es) es
    trees_read Exprs.nil f g d = give_reads _
    trees_read (Exprs.cons e es) f g d = then_reads _ (tree_reads e f g.0 (omega arith)) (last_reads _ (trees_read es f g.1 (omega arith)))

  -- so many expressions, each good
  record Listed (f n : ℕ) (es : Exprs) (ws : List ℕ) : Type 0 where
    is : ws ≡ exprs_words es
    counted : count es ≡ n
    good : GoodValues names strings es
    deep : nestings es ≤ f

  exprs_give : (f : ℕ) (part : Reader Expr) → Gives part (Run expr_words (Nested names strings f)) → (n : ℕ) → Gives (exprs n part) (Listed f n)
  unfolding repeat exprs_words
  exprs_give f part ih zero = gives.give_gives _ _ (record { is = refl; counted = refl; good = tt; deep = omega arith })
  exprs_give f part ih (suc n) = gives.then_gives ih (λ e vs h. gives.last_gives _ (exprs_give f part ih n) (λ es ws i.
      record { is = ap₂ ◌++◌ h.is i.is; counted = ap suc i.counted; good = (h.good.good, i.good); deep = omega (arith, h.good.deep, i.deep) }))

  -- what a node gives, with its code in front
  node_gives : (f : ℕ) (part : Reader Expr) → Gives part (Run expr_words (Nested names strings f)) → (c : ℕ) (k : ExprKind) → expr_kind c ≡ k → ExprCode k c
      → Gives (expr_node names strings part k c) (λ e ws. Run expr_words (Nested names strings (suc f)) e (c ∷ ws))
  unfolding expr_words expr_node
  node_gives f part ih c ExprKind.Literal k q = gives.last_gives _ wide_gives (λ n ws h.
      record { is = ap (λ (l : List ℕ). c ∷ l) h; good = record { good = q; deep = omega arith } })
  node_gives f part ih c ExprKind.Flag k q = gives.below_then (λ b l. gives.give_gives _ _
      (record { is = ap (λ (w : ℕ). w ∷ b ∷ []) q; good = record { good = l; deep = omega arith } }))
  node_gives f part ih c ExprKind.Text k q = gives.below_then (λ b l. gives.give_gives _ _
      (record { is = ap (λ (w : ℕ). w ∷ b ∷ []) q; good = record { good = l; deep = omega arith } }))
  node_gives f part ih c ExprKind.Local k q = gives.below_then (λ b l. gives.give_gives _ _
      (record { is = ap (λ (w : ℕ). w ∷ b ∷ []) q; good = record { good = l; deep = omega arith } }))
  node_gives f part ih c ExprKind.SelfRef k q = gives.give_gives _ _ (record { is = ap (λ (w : ℕ). w ∷ []) q; good = record { good = tt; deep = omega arith } })
  node_gives f part ih c ExprKind.FieldAccess k q = gives.below_then (λ x l. gives.last_gives _ ih (λ e ws h.
      record { is = ap₂ (λ (w : ℕ) (l : List ℕ). w ∷ x ∷ l) q h.is; good = record { good = (l, h.good.good); deep = omega (arith, h.good.deep) } }))
  node_gives f part ih c ExprKind.Call k q = gives.below_then (λ x l. gives.below_then (λ n m. gives.last_gives _ (exprs_give f part ih n) (λ es ws h.
      record {
        is = ap₂ (λ (w : ℕ) (l : List ℕ). w ∷ x ∷ l) q (ap₂ ◌∷◌ (sym h.counted) h.is);
        good = record {
          good = (
            l,
            omega (
              arith,
              h.counted,
            ),
            h.good,
          );
          deep = omega (arith, h.deep);
        };
      })))
  node_gives f part ih c ExprKind.TraitMethodCall k q = gives.below_then (λ t a. gives.below_then (λ m b. gives.below_then (λ n l. gives.then_gives ih (λ e vs h.
      gives.last_gives _ (exprs_give f part ih n) (λ es ws i.
      record {
        is = ap₂ (λ (w : ℕ) (l : List ℕ). w ∷ t ∷ m ∷ l) q (ap₂ ◌∷◌ (sym i.counted) (ap₂ ◌++◌ h.is i.is));
        good = record { good = (a, b, omega (arith, i.counted), h.good.good, i.good); deep = omega (arith, h.good.deep, i.deep) };
      })))))
  node_gives f part ih c ExprKind.Binary k q = gives.below_then (λ op o. gives.then_gives ih (λ l vs h. gives.last_gives _ ih (λ r ws i.
      record { is = ap₂ (λ (w : ℕ) (l : List ℕ). w ∷ op ∷ l) q (ap₂ ◌++◌ h.is i.is); good = record { good = (o, h.good.good, i.good.good); deep = omega (arith, h.good.deep, i.good.deep) } })))
  node_gives f part ih c ExprKind.Unary k q = gives.below_then (λ op o. gives.last_gives _ ih (λ e ws h.
      record { is = ap₂ (λ (w : ℕ) (l : List ℕ). w ∷ op ∷ l) q h.is; good = record { good = (o, h.good.good); deep = omega (arith, h.good.deep) } }))
  node_gives f part ih c ExprKind.Unknown k q = gives.fail_gives

  tree_gives : (f : ℕ) → Gives (expr_tree names strings f) (Run expr_words (Nested names strings f))
  unfolding expr_tree
  tree_gives zero = gives.fail_gives
  tree_gives (suc f) = gives.word_then (λ c. node_gives f (expr_tree names strings f) (tree_gives f) c (expr_kind c) refl (expr_code c))

  pub tree_exact : (f : ℕ) → Exact (expr_tree names strings f) expr_words (Nested names strings f)
  tree_exact f = record { reads = λ e g. tree_reads e f g.good g.deep; gives = tree_gives f }

  pub expression_exact : Exact (expression names strings) expr_words (Nested names strings 32)
  unfolding expression
  expression_exact = tree_exact 32
