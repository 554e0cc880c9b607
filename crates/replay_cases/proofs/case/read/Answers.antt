use Rattle.replay_cases.proofs.Cases.{lends_output, lends_detail, ends_inside, ends_behind}
use Rattle.replay_cases.proofs.case.read.Goals as goal

pub returns-then-file-next : goal.returns-then-file-next
returns-then-file-next c = ends_behind c.args.file.now c.args.at _ _ _ c.size-image.ensures.0 c.size-written.ensures.0 c.size-told.ensures.0 c.if-file-next.true

pub returns-then-output-gt-MOST_OUTPUT : goal.returns-then-output-gt-MOST_OUTPUT
returns-then-output-gt-MOST_OUTPUT c = lends_output c.args.file.now c.args.at c.size-output.ensures.0 c.if-output-gt-MOST_OUTPUT.true

pub returns-then-detail-gt-MOST_DETAIL : goal.returns-then-detail-gt-MOST_DETAIL
returns-then-detail-gt-MOST_DETAIL c = lends_detail c.args.file.now c.args.at c.size-detail.ensures.0 c.if-detail-gt-MOST_DETAIL.true

pub returns : goal.returns
returns c =
    ends_inside c.args.file.now c.args.at _ _ _ c.size-image.ensures.0 c.size-written.ensures.0 c.size-told.ensures.0
    _ _ _ _ c.word_at.ensures c.word.ensures c.size-output.ensures.0 c.size-detail.ensures.0
    c.if-file-next.false c.if-output-gt-MOST_OUTPUT.false c.if-detail-gt-MOST_DETAIL.false
