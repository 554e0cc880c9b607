use mathlib.Core.Path.{refl}
use borrow.Author.Tests.{not-true, not-false}
use Rattle.rules.specs.Types.{normalize_return}
use Rattle.answers.proofs.Writes.{writes_then, writes_same}
use Rattle.expected_signature.proofs.Wholes.{none_words, none_clean, some_words, some_clean}
use Rattle.expected_signature.proofs.returns.put_return.Goals as goal

pub returns-then-not-n : goal.returns-then-not-n
returns-then-not-n c =
    λ names o m. let q = c.normalize_return-n.ensures names o m in
    let n = c.normalize_return-n.result in
    record {
      visits = refl;
      next = refl;
      poison = none_clean names n (normalize_return o) q (not-true _ c.if-not-n.true);
      writes = writes_same (none_words names n (normalize_return o) q (not-true _ c.if-not-n.true)) c.put-end.ensures;
    }

pub returns : goal.returns
returns c =
    λ names o m. let q = c.normalize_return-n.ensures names o m in
    let n = c.normalize_return-n.result in
    record {
      visits = refl;
      next = refl;
      poison = some_clean names n (normalize_return o) q (not-false _ c.if-not-n.false) c.contains_poison.ensures.1;
      writes = writes_same (some_words names n (normalize_return o) q (not-false _ c.if-not-n.false)) (writes_then c.put-a.ensures c.put_type-b.ensures);
    }
