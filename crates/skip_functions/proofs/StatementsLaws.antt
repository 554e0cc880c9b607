-- What stands at a place, by its first word: a statement by its code, a body by 0 or 1.
use Prim.Native.Nat.{ℕ, ◌+◌, ◌<◌}
use mathlib.Core.Path.{◌≡◌, sym, subst, ◌∙◌}
use mathlib.Core.List.{List, [], ◌∷◌}
use mathlib.Core.Option.{Option}
use native.Mathlib.Omega.{arith}
use lib.ListN.{length, get_or}
use Rattle.rules.specs.Syntax.{ResolvedType, Expr, Statement, FnBody}
use Rattle.rules.specs.Kinds.{statement_kind}
use Rattle.rules.specs.declared.kinds.StatementKind.{StatementKind}
use Rattle.image_words.specs.Gives.{Row}
use Rattle.pool_bodies.specs.StatementAt.{StatementAt, StatementNode, StatementStands, BodyAt}
use Rattle.skip_types.specs.Pending.{Pending}
use Rattle.skip_types.proofs.Pending.{none_left, more_left, numbered}

-- a property of the statements of a kind
abbrev Case : (Statement → Type 0) → StatementKind → Type 0
Case P StatementKind.Expr = (e : Expr) → P (Statement.expr e)
Case P StatementKind.Let = (x : ℕ) (t : Option ResolvedType) (e : Expr) → P (Statement.let_local x t e)
Case P StatementKind.Return = (v : Option Expr) → P (Statement.return v)
Case P StatementKind.Assign = (t e : Expr) → P (Statement.assign t e)
Case P StatementKind.Unknown = Unit {0}

abbrev statement_shape : Statement → StatementKind
statement_shape (Statement.expr e) = StatementKind.Expr
statement_shape (Statement.let_local x t e) = StatementKind.Let
statement_shape (Statement.return v) = StatementKind.Return
statement_shape (Statement.assign t e) = StatementKind.Assign

own : (P : Statement → Type 0) (s : Statement) → Case P (statement_shape s) → P s
own P (Statement.expr e) f = f e
own P (Statement.let_local x t e) f = f x t e
own P (Statement.return v) f = f v
own P (Statement.assign t e) f = f t e

module _ (names strings : ℕ) (ws : List ℕ) (at : ℕ) where
  pub statement_node : (s : Statement) (n : ℕ) → StatementAt names strings ws s at n → StatementNode ws at (statement_shape s)
  statement_node (Statement.expr e) n h = h.0
  statement_node (Statement.let_local x t e) n h = h.0
  statement_node (Statement.return v) n h = h.0
  statement_node (Statement.assign t e) n h = h.0

  -- r is the place behind a statement
  abbrev Behind : ℕ → Statement → Type 0
  Behind r s = (n : ℕ) → StatementAt names strings ws s at n → r ≡ n

  pub by_code : {w r : ℕ} {k kind : StatementKind} → w ≡ get_or ws at 0 → k ≡ statement_kind w → k ≡ kind → Case (Behind r) kind → (s : Statement) → Behind r s
  by_code {w} {r} {k} {kind} e q i f s n h =
      let shape : kind ≡ statement_shape s = sym i ∙ q ∙ rw e (statement_node s n h).kind in
      own (Behind r) s (subst (Case (Behind r)) shape f) n h

module _ (names strings : ℕ) (ws : List ℕ) where
  statements_row : (ss : List Statement) (at n : ℕ) → Row (StatementStands names strings ws) ss at n → Pending (StatementAt names strings ws) (length ss) at n
  statements_row [] at n r = none_left (sym r)
  statements_row (s ∷ ss) at n r = more_left s r.0 r.1.parts (statements_row ss r.0 n r.2)

  -- a body by its first word
  module _ (at n : ℕ) where
    pub body_inside : (b : FnBody) → BodyAt names strings ws b at n → at < length ws
    body_inside FnBody.external h = h.0.inside
    body_inside (FnBody.block ss) h = h.0.inside

    pub body_none : (b : FnBody) → BodyAt names strings ws b at n → (w : ℕ) → w ≡ get_or ws at 0 → w ≡ 0 → at + 1 ≡ n
    body_none FnBody.external h w e z = sym h.1
    body_none (FnBody.block ss) h w e z = absurd (omega (arith, h.0.is))

    pub body_some : (b : FnBody) → BodyAt names strings ws b at n → (w : ℕ) → w ≡ get_or ws at 0 → (w ≡ 0 → ⊥) → (count : ℕ) → count ≡ get_or ws (at + 1) 0 → Pending (StatementAt names strings ws) count (at + 1 + 1) n
    body_some FnBody.external h w e z count q = absurd (omega (arith, h.0.is))
    body_some (FnBody.block ss) h w e z count q = numbered count (q ∙ h.1.0.is) (statements_row ss (at + 1 + 1) n h.1.2)

  pub body_from : (b : FnBody) (n : ℕ) {i j : ℕ} → i ≡ j → BodyAt names strings ws b j n → BodyAt names strings ws b i n
  body_from b n q h = subst (λ (k : ℕ). BodyAt names strings ws b k n) (sym q) h
