use mathlib.Core.Path.{sym, ◌∙◌}
use native.Mathlib.Omega.{arith}
use Rattle.image_texts_differ.proofs.HashLaws.{hash_differ}
use Rattle.image_texts_differ.proofs.clash.Goals as goal

pub returns-then-hs-j : goal.returns-then-hs-j
returns-then-hs-j c =
    let a = c.args in
    sym (hash_differ _ _ (λ e. c.if-hs-j.true (c.requires.3 a.earlier.0 (omega arith) ∙ e ∙ sym (c.requires.3 a.name.0 (omega arith)))))
