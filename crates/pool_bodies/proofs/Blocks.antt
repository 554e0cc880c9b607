-- A body's Lets are counted beside the loop that reads its statements.
use Prim.Native.Nat.{ℕ, ◌+◌, ◌-◌, ◌<◌, ◌≤◌}
use mathlib.Core.Path.{◌≡◌, sym, ap, ◌∙◌}
use mathlib.Core.Bool.{Bool}
use mathlib.Core.List.{List}
use native.Mathlib.Omega.{arith}
use lib.ListN.{get_or}
use lib.Dec.{leb}
use borrow.Author.Tests.{le-leb, lt-leb, eq-eqb, ne_eqb}
use Rattle.std.specs.Prelude.{Option, Some, None}
use Rattle.rules.specs.Reader.{Reader, below, times}
use Rattle.rules.specs.Syntax.{Statement}
use Rattle.rules.specs.Kinds.{statement_kind}
use Rattle.rules.specs.ReadBodies.{let_count, lets, statement, block, body}
use Rattle.image_words.specs.Verdict.{Says}
use Rattle.image_words.proofs.Verdict.{Left}
use Rattle.image_words.proofs.Says.{stop, given, below_then, either_first, either_second}
use Rattle.image_words.specs.Loops.{tested}
use Rattle.image_words.proofs.Loops.{made, test_same, test_more, test_stop, test_done, test_fails, many_stop, many_tested}
use Rattle.pool_bodies.specs.StatementAt.{let_of}
use Rattle.pool_bodies.proofs.StatementAt.{statement_lets}

-- at most 32 Lets, l of them before these statements
abbrev few : ℕ → List Statement → Bool
few l ss = leb (l + lets ss) 32

few_more : (l x v : ℕ) (ss : List Statement) → x ≡ v → few (l + v) ss ≡ leb (l + (x + lets ss)) 32
few_more l x v ss e = let m : l + v + lets ss ≡ l + (x + lets ss) = omega arith in ap (λ (k : ℕ). leb k 32) m

few_none : (ss : List Statement) → few 0 ss ≡ leb (lets ss) 32
few_none ss = let m : 0 + lets ss ≡ lets ss = omega arith in ap (λ (k : ℕ). leb k 32) m

module _ (names strings : ℕ) where
  -- k statements more, l Lets before them
  abbrev pub rest : ℕ → ℕ → Reader (Unit {0})
  rest k l = tested (times k (statement names strings)) (few l)

  module _ {ws : List ℕ} {at : ℕ} where
    pub block_stop : Says (below 257) ws at None → Says (block names strings) ws at None
    unfolding block
    block_stop s = stop _ (many_stop _ _ s)

    pub block_start : {n : ℕ} → Says (below 257) ws at (Some n) → {w : ℕ} → w ≡ get_or ws at 0 → Left (rest (w - 0) 0) n (block names strings) ws at
    unfolding block
    block_start s e = record { so = λ d h. made _ _ _ (many_tested _ _ _ s e (test_same _ (few 0) (λ ss. leb (lets ss) 32) few_none h)) }

  module _ {ws : List ℕ} {at next : ℕ} (n i l : ℕ) (inv : Left (rest (n - i) l) next (block names strings) ws at) where
    -- a statement more, v Lets in it
    pub block_turn : i < n → {m : ℕ} → Says (statement names strings) ws next (Some m) → {v : ℕ} → v ≡ let_of (statement_kind (get_or ws next 0)) → Left (rest (n - (i + 1)) (l + v)) m (block names strings) ws at
    unfolding lets
    block_turn b s {v} e = record {
      so = λ d h. inv.so d (test_more _ n i b (statement_lets names strings ws next) s (λ x q.
          test_same _ (few (l + v)) _ (λ ss. few_more l (let_count x) v ss (q ∙ sym e)) h));
    }

    pub block_turn_stop : i < n → Says (statement names strings) ws next None → Says (block names strings) ws at None
    block_turn_stop b s = inv.so _ (test_stop _ n i b s)

    pub block_full : n ≤ i → 32 < l → Says (block names strings) ws at None
    unfolding lets
    block_full b m = let k : 32 < l + 0 = omega arith in inv.so _ (test_fails _ _ n i b (lt-leb _ _ k))

    pub block_done : n ≤ i → l ≤ 32 → Says (block names strings) ws at (Some next)
    unfolding lets
    block_done b m = let k : l + 0 ≤ 32 = omega arith in inv.so _ (test_done _ _ n i b (le-leb _ _ k))

  -- 0 for an external function, or 1 and a block
  module _ {ws : List ℕ} {at : ℕ} where
    pub body_stop : Says (below 2) ws at None → Says (body names strings) ws at None
    unfolding body
    body_stop s = stop _ s

    module _ {n : ℕ} (s : Says (below 2) ws at (Some n)) {w : ℕ} (e : w ≡ get_or ws at 0) where
      pub body_external : w ≡ 0 → Says (body names strings) ws at (Some n)
      unfolding body
      body_external z = below_then _ _ s e (either_first _ _ (eq-eqb w 0 z) (given _))

      pub body_block : (w ≡ 0 → ⊥) → {d : Option ℕ} → Says (block names strings) ws n d → Says (body names strings) ws at d
      unfolding body
      body_block z h = below_then _ _ s e (either_second _ _ (ne_eqb w 0 z) h)

pub ruleset block_steps = (block_stop, block_start, block_turn, block_turn_stop, block_full, block_done)

pub ruleset body_steps = (body_stop, body_external, body_block)
