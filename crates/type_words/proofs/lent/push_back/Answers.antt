-- `type_words::lent::push_back` meets its contract. Assumes nothing.
use native.Mathlib.Omega.{arith}
use mathlib.Core.Path.{◌≡◌, ap, ◌∙◌}
use mathlib.Core.List.{List, ◌++◌}
use lib.ListN.{length, take}
use borrow.Author.Rules.{rules}
use borrow.Rule.Slice.PartMut.{same_len_mid}
use Rattle.std.proofs.lemmas.Slice.{take-put_mid}
use Rattle.type_words.proofs.Runs.{run_take, counted, grown}
use Rattle.type_words.proofs.lent.push_back.Goals as goal

pub returns : goal.returns
returns c =
    let a = c.args in
    let new = c.copy_from_slice.ensures in
    let from : length a.other.words ≡ 64 = search rules in
    let wide = same_len_mid a.n _ a.words.now _ new.len ∙ c.requires.0 in
    let put = take-put_mid a.n _ a.words.now _ _ (omega (arith, new.len)) (omega arith) in
    (λ p. grown _ _ (counted _ _ _ wide (omega arith) (put ∙ ap (λ (l : List _). take a.n a.words.now ++ l) (new.after ∙ run_take a.other _ from c.count-m.ensures.0))), wide)
