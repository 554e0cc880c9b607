-- `call_finish::finish` meets its contract: three ends of a call, or words still to be written.
use native.Mathlib.Omega.{arith}
use borrow.Author.Tests.{not-true, not-false}
use Rattle.answers.proofs.Calls.{is_accepted, is_refused, ends_refused, ends_short, ends_accepted}
use Rattle.answers.proofs.Passes.{visits_same}
use Rattle.call_finish.proofs.Kept.{kept}
use Rattle.call_finish.proofs.finish.Goals as goal

pub returns-then-not-m : goal.returns-then-not-m
returns-then-not-m c =
    let a = c.args in record {
      answered = λ call blank k. ends_refused call c.refuse.result a.detail.now c.refuse.new.detail (is_refused k (not-true _ c.if-not-m.true)) c.refuse.ensures a.output.now;
      to_write = tt;
    }

pub returns-then-output-n : goal.returns-then-output-n
returns-then-output-n c =
    let a = c.args in record {
      answered = λ call blank k. let h = is_accepted k (not-false _ c.if-not-m.false) in ends_short call c.too_short.result h.is (omega (arith, h.writes.place)) c.too_short.ensures a.output.now a.detail.now c.if-output-n.true;
      to_write = tt;
    }

pub returns : goal.returns
returns c =
    let a = c.args in record {
      answered = λ call blank k. let h = is_accepted k (not-false _ c.if-not-m.false) in ends_accepted call c.accept.result h.is (visits_same c.accept.result _ h.counts c.accept.ensures) (kept h.writes (omega arith) (omega arith) c.copy_start.ensures) a.detail.now (omega arith);
      to_write = tt;
    }
