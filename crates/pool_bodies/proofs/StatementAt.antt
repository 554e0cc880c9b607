-- Laws: which statement or body stands where among some words.
use Prim.Native.Nat.{ℕ, ◌+◌}
use mathlib.Core.Path.{◌≡◌, refl, sym, ap, ◌∙◌}
use mathlib.Core.List.{List}
use native.Mathlib.Omega.{arith}
use lib.ListN.{get_or}
use lib.Dec.{eqb}
use borrow.Author.Tests.{leb-true, eqb-true, eqb-false}
use Rattle.rules.specs.Syntax.{Statement}
use Rattle.rules.specs.Kinds.{statement_kind}
use Rattle.rules.specs.ReadBodies.{let_count, statement_node, statement, block, body}
use Rattle.rules.specs.declared.kinds.StatementKind.{StatementKind}
use Rattle.laws.proofs.Statements.{statement_exact, body_exact}
use Rattle.image_words.proofs.Gives.{Gives, then, given, failed, so_then, rule_then, word_then, below_then, many_gives, maybe_gives, either}
use Rattle.image_words.specs.Gives.{Word}
use Rattle.image_words.proofs.Stands.{held_gives}
use Rattle.pool_types.specs.TypeAt.{TypeStands}
use Rattle.pool_types.proofs.TypeAt.{type_gives}
use Rattle.pool_expressions.specs.ExprAt.{ExprStands}
use Rattle.pool_expressions.proofs.ExprAt.{expression_gives}
use Rattle.pool_bodies.specs.StatementAt.{StatementNode, let_of, StatementAt, StatementStands, BodyAt, BodyStands}

-- over the numbers of name rows and string rows and the words
module _ (names strings : ℕ) (ws : List ℕ) where
  node_gives : (at : ℕ) (k : StatementKind) → StatementNode ws at k → Gives (statement_node names strings k) ws (at + 1) (λ s n. StatementAt names strings ws s at n)
  unfolding statement_node
  node_gives at StatementKind.Expr i = then (expression_gives names strings ws (at + 1)) (λ e n a. given _ (i, a))
  node_gives at StatementKind.Let i =
      below_then (λ x j l. then (maybe_gives (TypeStands names ws) (type_gives names ws) (at + 1 + 1)) (λ t m a. then (expression_gives names strings ws m) (λ e n b. given _ (i, (j, l), m, a, b))))
  node_gives at StatementKind.Return i = then (maybe_gives (ExprStands names strings ws) (expression_gives names strings ws) (at + 1)) (λ v n a. given _ (i, a))
  node_gives at StatementKind.Assign i = then (expression_gives names strings ws (at + 1)) (λ t m a. then (expression_gives names strings ws m) (λ e n b. given _ (i, m, a, b)))
  node_gives at StatementKind.Unknown i = failed

  pub statement_gives : (at : ℕ) → Gives (statement names strings) ws at (λ s n. StatementStands names strings ws s at n)
  unfolding statement
  statement_gives at = held_gives (StatementAt names strings ws) (statement_exact names strings) ws at (word_then (λ w i. node_gives at (statement_kind w) (record { inside = i.inside; kind = ap statement_kind i.is })))

  -- whether a statement is a Let is seen by its code
  lets_at : (s : Statement) (at n : ℕ) → StatementAt names strings ws s at n → let_count s ≡ let_of (statement_kind (get_or ws at 0))
  unfolding let_count
  lets_at (Statement.expr e) at n h = ap let_of (sym h.0.kind)
  lets_at (Statement.let_local x t e) at n h = ap let_of (sym h.0.kind)
  lets_at (Statement.return v) at n h = ap let_of (sym h.0.kind)
  lets_at (Statement.assign t e) at n h = ap let_of (sym h.0.kind)

  pub statement_lets : (at : ℕ) → Gives (statement names strings) ws at (λ s n. let_count s ≡ let_of (statement_kind (get_or ws at 0)))
  statement_lets at = so_then (statement_gives at) (λ s n h. lets_at s at n h.parts)

  block_gives : (at w : ℕ) → Word ws at w → w ≡ 1 → Gives (block names strings) ws (at + 1) (λ b n. BodyAt names strings ws b at n)
  unfolding block
  block_gives at w i e = then (many_gives (StatementStands names strings ws) statement_gives 256 (at + 1)) (λ ss n a. rule_then _ _ (λ l. given _ (record { inside = i.inside; is = i.is ∙ e }, a, leb-true _ _ l)))

  pub body_gives : (at : ℕ) → Gives (body names strings) ws at (λ b n. BodyStands names strings ws b at n)
  unfolding body
  body_gives at = held_gives (BodyAt names strings ws) (body_exact names strings) ws at (below_then (λ w i l. either (eqb w 0)
      (λ e. given _ (record { inside = i.inside; is = i.is ∙ eqb-true w 0 e }, refl))
      (λ e. block_gives at w i (omega (arith, eqb-false w 0 e)))))
