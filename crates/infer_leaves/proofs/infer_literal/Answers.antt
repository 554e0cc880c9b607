-- `infer_leaves::infer_literal` meets its contract. Assumes nothing.
use Prim.Native.Nat.{ℕ, ◌+◌, ◌*◌, ◌<◌}
use native.Mathlib.Omega.{arith}
use mathlib.Core.Path.{◌≡◌, subst, subst₂, ◌∙◌}
use Rattle.rules.specs.Fits.{literal_own}
use Rattle.rules.specs.Infer.{type_mismatch}
use Rattle.type_words.specs.Holds.{MaybeHolds}
use Rattle.literal_fits.specs.Literals.{literal_type}
use Rattle.infer_result.specs.Says.{Says}
use Rattle.infer_leaves.proofs.Literals.{words_of, says_typed, says_mismatch}
use Rattle.infer_leaves.proofs.infer_literal.Goals as goal

pub returns-then-m : goal.returns-then-m
returns-then-m c =
    λ nest k low high n s o w x.
    let v = words_of s in
    let rows = c.args.l.now.names.rows in
    let e : c.section_word-code.result ≡ k = c.section_word-code.ensures ∙ v.code in
    let m : MaybeHolds rows c.literal_type-m.result (literal_type k (low + 4294967296 * high) o) = subst₂ (λ (a b : ℕ). MaybeHolds rows c.literal_type-m.result (literal_type a b o)) e (c.literal_bits.ensures nest k low high n s) (c.literal_type-m.ensures (omega (arith, e, v.known)) rows o w) in
    says_typed x rows _ k low high o _ m _ c.if-m.true (λ t p. c.ended.ensures rows o t w p x _)

pub returns : goal.returns
returns c =
    λ nest k low high n s o w x.
    let v = words_of s in
    let rows = c.args.l.now.names.rows in
    let e : c.section_word-code.result ≡ k = c.section_word-code.ensures ∙ v.code in
    let i : c.section_word-code.result < 3 = omega (arith, e, v.known) in
    let m : MaybeHolds rows c.literal_type-m.result (literal_type k (low + 4294967296 * high) o) = subst₂ (λ (a b : ℕ). MaybeHolds rows c.literal_type-m.result (literal_type a b o)) e (c.literal_bits.ensures nest k low high n s) (c.literal_type-m.ensures i rows o w) in
    says_mismatch x rows _ k low high o _ m _ c.if-m.false _ w (λ t p. subst (λ (a : ℕ). Says rows x.function (type_mismatch x a t (literal_own a)) c.type_mismatch.result) e (c.type_mismatch.ensures rows t _ p (c.literal_own.ensures i rows) x))
