-- Statements and bodies in the pool: their words read back to them and nothing else does.
use Prim.Native.Nat.{ℕ}
use mathlib.Core.Path.{◌≡◌, refl, sym, ap, ap₂, subst}
use mathlib.Core.List.{List, [], ◌∷◌, ◌++◌}
use native.Mathlib.Omega.{arith}
use lib.Dec.{leb, eqb}
use borrow.Author.Tests.{leb-true, le-leb, eqb-true, eqb-false}
use Rattle.rules.specs.Syntax.{Statement, FnBody}
use Rattle.rules.specs.Kinds.{statement_kind}
use Rattle.rules.specs.ReadBodies.{lets, statement_node, statement, block, body}
use Rattle.rules.specs.Output.{listed}
use Rattle.rules.specs.declared.kinds.StatementKind.{StatementKind}
use Rattle.rules.proofs.Codes.{StatementCode, statement_code}
use Rattle.rules.specs.Exact.{Reads, Gives, Exact, Run}
use Rattle.rules.proofs.ReadBack.{give_reads, then_reads, end_reads, last_reads, word_reads, rule_reads, below_then}
use Rattle.rules.proofs.Gives as gives
use Rattle.rules.proofs.Exact.{many_exact, maybe_exact}
use Rattle.rules.proofs.Types.{type_exact}
use Rattle.laws.specs.Runs.{stored_statement_words, body_words, GoodStatement, GoodBody}
use Rattle.laws.proofs.Expressions.{expression_exact}

module _ (names strings : ℕ) where
  at_kind : {c : ℕ} (k : StatementKind) {ws : List ℕ} {s : Statement} → statement_kind c ≡ k → Reads (statement_node names strings k) ws s → Reads (statement names strings) (c ∷ ws) s
  unfolding statement
  at_kind k {ws} {s} q h = word_reads _ (subst (λ (k : StatementKind). Reads (statement_node names strings k) ws s) (sym q) h)

  statement_reads : (s : Statement) → GoodStatement names strings s → Reads (statement names strings) (stored_statement_words s) s
  unfolding stored_statement_words statement_node statement_kind
  statement_reads (Statement.expr e) g = at_kind StatementKind.Expr refl (last_reads _ ((expression_exact names strings).reads e g))
  statement_reads (Statement.let_local x t e) g =
      at_kind StatementKind.Let refl (below_then _ g.0 (then_reads _ ((maybe_exact (type_exact names)).reads t g.1) (last_reads _ ((expression_exact names strings).reads e g.2))))
  statement_reads (Statement.return v) g = at_kind StatementKind.Return refl (last_reads _ ((maybe_exact (expression_exact names strings)).reads v g))
  statement_reads (Statement.assign t e) g =
      at_kind StatementKind.Assign refl (then_reads _ ((expression_exact names strings).reads t g.0) (last_reads _ ((expression_exact names strings).reads e g.1)))

  node_gives : (c : ℕ) (k : StatementKind) → StatementCode k c → Gives (statement_node names strings k) (λ s ws. Run stored_statement_words (GoodStatement names strings) s (c ∷ ws))
  unfolding stored_statement_words statement_node
  node_gives c StatementKind.Expr q = gives.last_gives _ (expression_exact names strings).gives (λ e ws h. record { is = ap₂ ◌∷◌ q h.is; good = h.good })
  node_gives c StatementKind.Let q = gives.below_then (λ x l. gives.then_gives (maybe_exact (type_exact names)).gives (λ t vs h.
      gives.last_gives _ (expression_exact names strings).gives (λ e ws i.
      record { is = ap₂ (λ (w : ℕ) (l : List ℕ). w ∷ x ∷ l) q (ap₂ ◌++◌ h.is i.is); good = (l, h.good, i.good) })))
  node_gives c StatementKind.Return q = gives.last_gives _ (maybe_exact (expression_exact names strings)).gives (λ v ws h. record { is = ap₂ ◌∷◌ q h.is; good = h.good })
  node_gives c StatementKind.Assign q = gives.then_gives (expression_exact names strings).gives (λ t vs h. gives.last_gives _ (expression_exact names strings).gives (λ e ws i.
      record { is = ap₂ ◌∷◌ q (ap₂ ◌++◌ h.is i.is); good = (h.good, i.good) }))
  node_gives c StatementKind.Unknown q = gives.fail_gives

  pub statement_exact : Exact (statement names strings) stored_statement_words (GoodStatement names strings)
  unfolding statement
  statement_exact = record { reads = statement_reads; gives = gives.word_then (λ c. node_gives c (statement_kind c) (statement_code c)) }

  block_reads : (ss : List Statement) → GoodBody names strings (FnBody.block ss) → Reads (block names strings) (listed stored_statement_words ss) (FnBody.block ss)
  unfolding block
  block_reads ss g = end_reads _ ((many_exact statement_exact 256).reads ss (g.0, g.1)) (rule_reads (leb (lets ss) 32) _ (le-leb (lets ss) 32 g.2) (give_reads _))

  body_reads : (b : FnBody) → GoodBody names strings b → Reads (body names strings) (body_words b) b
  unfolding body_words body
  body_reads FnBody.external g = below_then _ (omega arith) (give_reads _)
  body_reads (FnBody.block ss) g = below_then _ (omega arith) (block_reads ss g)

  block_gives : Gives (block names strings) (λ b ws. (ss : List Statement) × (b ≡ FnBody.block ss) × (ws ≡ listed stored_statement_words ss) × GoodBody names strings (FnBody.block ss))
  unfolding block
  block_gives = gives.end_gives _ (many_exact statement_exact 256).gives (λ ss ws h. gives.rule_then (leb (lets ss) 32) _ (λ e.
      gives.give_gives _ _ (refl, (ss, refl, h.is, (h.good.0, h.good.1, leb-true (lets ss) 32 e)))))

  pub body_exact : Exact (body names strings) body_words (GoodBody names strings)
  unfolding body_words body
  body_exact = record {
    reads = body_reads;
    gives = gives.below_then (λ c l. gives.cond_gives (eqb c 0)
        (λ e. gives.give_gives _ _ (record { is = ap (λ (w : ℕ). w ∷ []) (eqb-true c 0 e); good = tt }))
        (λ e. let one : c ≡ 1 = omega (arith, eqb-false c 0 e) in
        gives.so block_gives (λ b ws h. subst (λ (b : FnBody). Run body_words (GoodBody names strings) b (c ∷ ws)) (sym h.1) (record { is = ap₂ ◌∷◌ one h.2; good = h.3 }))));
  }
