-- `check_signature::check_signature` meets its contract. Assumes nothing.
use borrow.Author.Tests.{not-true, not-false}
use Prim.Native.Nat.{◌+◌, ◌<◌}
use native.Mathlib.Omega.{arith}
use mathlib.Core.Path.{◌≡◌, sym, ap, ◌∙◌}
use lib.ListN.{length}
use Rattle.answers.specs.Refusals.{refusal_of}
use Rattle.image_layout.specs.Open.{pool_words}
use Rattle.check_signature.proofs.Whole.{other_count, other_params, alike_params, count_read, params_there, return_there, count_word}
use Rattle.check_signature.proofs.check_signature.Goals as goal

pub returns-then-found-wanted : goal.returns-then-found-wanted
returns-then-found-wanted c =
    λ f n h sig e t v.
    let a = c.args in
    let at : a.at < length (pool_words a.l.now) → c.after-start.result ≡ a.at + 1 = λ j. c.after-start.ensures (omega arith) in
    let x = count_read _ _ _ f _ n h _ at _ c.section_word-found.ensures in
    let y = count_word _ _ _ _ _ sig.params t _ c.as_word-wanted.ensures in
    other_count f sig _ e _ _ x y c.if-found-wanted.true _ c.refused.ensures.0 (ap refusal_of c.refused.ensures.1 ∙ c.wrong_word.ensures)

pub returns-then-not-r : goal.returns-then-not-r
returns-then-not-r c =
    λ f n h sig e t v.
    let a = c.args in
    let at : a.at < length (pool_words a.l.now) → c.after-start.result ≡ a.at + 1 = λ j. c.after-start.ensures (omega arith) in
    let x = count_read _ _ _ f _ n h _ at _ c.section_word-found.ensures in
    let y = count_word _ _ _ _ _ sig.params t _ c.as_word-wanted.ensures in
    let same = sym x ∙ c.if-found-wanted.false ∙ y in
    other_params f sig _ e same _ (c.check_params-r.ensures f.params sig.params _ (params_there _ _ _ f _ n h _ at _ (λ j. c.after-place.ensures (omega arith))) t same) (not-true _ c.if-not-r.true)

pub returns : goal.returns
returns c =
    λ f n h sig e t v.
    let a = c.args in
    let at : a.at < length (pool_words a.l.now) → c.after-start.result ≡ a.at + 1 = λ j. c.after-start.ensures (omega arith) in
    let x = count_read _ _ _ f _ n h _ at _ c.section_word-found.ensures in
    let y = count_word _ _ _ _ _ sig.params t _ c.as_word-wanted.ensures in
    let same = sym x ∙ c.if-found-wanted.false ∙ y in
    alike_params f sig _ e same _ (c.check_params-r.ensures f.params sig.params _ (params_there _ _ _ f _ n h _ at _ (λ j. c.after-place.ensures (omega arith))) t same) (not-false _ c.if-not-r.false) _ (c.check_return.ensures _ f.return_type sig.return_type (c.hold_return.ensures f.return_type _ (return_there _ _ _ f _ n h (c.return_start-end.ensures f n h))) v)
