use mathlib.Core.Path.{◌≡◌, ap, ◌∙◌}
use Prim.Native.Nat.{ℕ}
use native.Mathlib.Omega.{arith}
use mathlib.Core.List.{List}
use lib.ListN.{length}
use Rattle.words.specs.Puts.{puts}
use Rattle.words.proofs.Puts.{puts_start}
use Rattle.answers.proofs.Details.{detail_take}
use borrow.Author.Rules.{rules}
use Rattle.answers.proofs.refusal.write_detail.Goals as goal

pub returns : goal.returns
returns c =
    let a = c.args in
    let w : length a.r.words ≡ 131 = search rules in
    let e = detail_take a.r c.size.result w c.size.ensures.0 in
    c.put_words.ensures.bytes ∙ ap (λ (l : List ℕ). puts (length a.detail.now) 0 l a.detail.now) e ∙ puts_start _ _ _ (omega (arith, c.size.ensures.0, c.size.ensures.1)) (omega arith)
