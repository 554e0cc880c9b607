use mathlib.Core.Path.{sym, ap, ◌∙◌}
use mathlib.Core.Bool.{not}
use native.Mathlib.Omega.{arith}
use borrow.Author.Tests.{not-true}
use Rattle.image_texts.proofs.All.{all_true}
use Rattle.image_texts.specs.Rows.{new_row}
use Rattle.image_texts_differ.proofs.HashLaws.{hash_differ, apart_taken}
use Rattle.image_texts_differ.proofs.is_new.Goals as goal

pub returns-then-not-among : goal.returns-then-not-among
unfolding new_row
returns-then-not-among c =
    let a = c.args in
    let apart = apart_taken _ a.name.0 _ (omega arith) (c.among.ensures (not-true _ c.if-not-among.true-raw)) in
    sym (all_true _ a.name.0 (λ j l. ap not (hash_differ _ _ (λ e. apart j l (c.requires.2 j (omega arith) ∙ e ∙ sym (c.requires.2 a.name.0 (omega arith)))))))
