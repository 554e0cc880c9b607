-- `type_from_pool::copy` meets its contract. The loop's invariant: i words are copied, and passed to what tells nodes from other words. Assumes nothing.
use Prim.Native.Nat.{ℕ, ◌-◌, ◌<◌}
use mathlib.Core.Path.{◌≡◌, sym, ap, ◌∙◌}
use native.Mathlib.Omega.{arith}
use lib.ListN.{length, take, length-set}
use Rattle.rules.specs.Syntax.{run}
use Rattle.image_words.specs.Verdict.{section_words}
use Rattle.type_poison.proofs.Passed.{passed_more, passed_type}
use Rattle.type_words.proofs.Runs.{counted}
use Rattle.type_words.proofs.Trees.{holds}
use Rattle.type_from_pool.proofs.Copies.{copied_more, copied_run, stands_copied}
use Rattle.type_from_pool.proofs.copy.Goals as goal

pub loop-i-preserved : goal.loop-i-preserved
loop-i-preserved c =
    let v = c.loop-i.invariant in
    let a = c.args in
    let ws = section_words a.pool.now in
    record {
      within = omega (arith, v.within);
      few = v.few;
      wide = simp length-set v.wide;
      copied = copied_more ws a.at c.loop-i.words c.loop-i.i c.section_word-word.result (omega (arith, v.few, v.wide)) c.section_word-word.ensures v.copied;
      passed = λ u s.
          let inside : c.loop-i.i < length u = omega (arith, s.next, c.less-n.ensures) in
          passed_more u (v.passed u s) inside (c.section_word-word.ensures ∙ sym (stands_copied ws a.at a.end u s c.loop-i.i inside)) c.pass-seen.ensures;
    }

pub returns : goal.returns
returns c names t s g =
    let v = c.loop-i.invariant in
    let a = c.args in
    let ws = section_words a.pool.now in
    let n : c.less-n.result ≡ length (run t) = omega (arith, s.next, c.less-n.ensures) in
    let i : c.loop-i.i ≡ length (run t) = omega (arith, v.within) in
    holds names
    (counted c.loop-i.words (run t) c.less-n.result v.wide v.few (ap (λ (k : ℕ). take k c.loop-i.words) n ∙ copied_run ws a.at c.loop-i.words (run t) (omega (arith, v.wide)) (λ j h. v.copied j (omega arith)) (stands_copied ws a.at a.end (run t) s)))
    (passed_type names t (v.passed (run t) s) (omega arith) g.good)
    g.good
