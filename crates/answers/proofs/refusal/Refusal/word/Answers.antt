use mathlib.Core.Path.{◌≡◌}
use lib.ListN.{length}
use borrow.Author.Rules.{rules}
use Rattle.answers.proofs.Details.{full, added}
use Rattle.answers.proofs.refusal.Refusal.word.Goals as goal

pub returns-then-n-ge-DETAIL_WORDS : goal.returns-then-n-ge-DETAIL_WORDS
returns-then-n-ge-DETAIL_WORDS c = λ l. let e : length c.args.self.words ≡ 131 = search rules in absurd (full c.args.self e c.if-n-ge-DETAIL_WORDS.true l)

pub returns : goal.returns
returns c = λ l. let e : length c.args.self.words ≡ 131 = search rules in added c.args.self c.args.w e c.if-n-ge-DETAIL_WORDS.false
