use mathlib.Core.Path.{sym, ap, ◌∙◌}
use Prim.Native.Nat.{ℕ, ◌+◌, ◌*◌, ◌%◌}
use native.Mathlib.Omega.{arith}
use lib.ListN.{drop}
use Rattle.image_texts_differ.specs.Hash.{hash_from, hash_of}
use Rattle.image_texts_differ.proofs.HashLaws.{hash_step, hash_end}
use Rattle.image_texts_differ.proofs.hash.hash.Goals as goal

pub loop-byte-preserved : goal.loop-byte-preserved
loop-byte-preserved c =
    let l = c.loop-byte in
    let s = c.args.s.now in
    ap (λ (b : ℕ). hash_from (l.h % 134217728 * 31 + b) (drop (l.byte-index + 1) s)) c.from.ensures ∙ hash_step l.h s l.byte-index (omega arith) ∙ l.invariant

pub returns : goal.returns
unfolding hash_of
returns c = let l = c.loop-byte in sym (hash_end l.h c.args.s.now l.byte-index (omega arith)) ∙ l.invariant
