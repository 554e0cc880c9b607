-- `infer_leaves::literal_bits` meets its contract. Assumes nothing.
use Prim.Native.Nat.{ℕ, ◌+◌}
use native.Mathlib.Omega.{arith}
use mathlib.Core.Path.{◌≡◌, ap, ◌∙◌}
use lib.ListN.{get_or}
use Rattle.image_layout.specs.Open.{pool_words}
use Rattle.infer_leaves.proofs.Literals.{words_of}
use Rattle.infer_leaves.proofs.literal_bits.Goals as goal

pub returns : goal.returns
returns c =
    λ nest q low high n s.
    let v = words_of s in
    let g : ℕ → ℕ = λ (k : ℕ). get_or (pool_words c.args.l.now) k 0 in
    let a : c.after-next.result ≡ c.args.at + 1 = c.after-next.ensures (omega (arith, v.first)) in
    let b : c.after.result ≡ c.args.at + 1 + 1 = c.after.ensures (omega (arith, v.first)) ∙ omega arith in
    let d : c.section_word-low.result ≡ low = c.section_word-low.ensures ∙ ap g a ∙ v.low_at in
    let e : c.section_word-high.result ≡ high = c.section_word-high.ensures ∙ ap g b ∙ v.high_at in
    omega (arith, d, e)
