use mathlib.Core.Path.{refl, sym, ◌∙◌}
use native.Mathlib.Omega.{arith}
use Rattle.words.proofs.Puts.{put_fits, put_past, put_mid_splice}
use Rattle.words.proofs.put_word.Goals as goal
use Rattle.words.proofs.put_word.Goals.{then-at-limit, else-at-limit}

pub returns : goal.returns
returns c =
    let a = c.args in (
      refl,
      elim c.if-at-limit.branch [
        | then-at-limit w ↦ w.out-is ∙ put_mid_splice a.at _ _ _ a.out.now (w.copy_from_slice.ensures.after ∙ w.to_le_bytes.ensures) (omega arith) ∙ sym (put_fits a.limit a.at a.w a.out.now w.if-at-limit.true)
        | else-at-limit w ↦ w.out-is ∙ sym (put_past a.limit a.at a.w a.out.now w.if-at-limit.false)
      ],
    )
