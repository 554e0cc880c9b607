use mathlib.Core.Path.{refl}
use native.Mathlib.Omega.{arith}
use Rattle.image_texts_differ.proofs.HashLaws.{blank_all}
use Rattle.image_texts_differ.proofs.hash.hashes.Goals as goal

pub loop-i-init : goal.loop-i-init
loop-i-init c = (refl, λ k h. absurd (omega arith), blank_all 1024)
