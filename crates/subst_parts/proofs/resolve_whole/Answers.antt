-- `subst_parts::resolve_whole` meets its contract. Assumes nothing.
use mathlib.Core.Path.{sym, ap, ◌∙◌}
use native.Mathlib.Omega.{arith}
use Rattle.rules.specs.Kinds.{type_kind}
use Rattle.subst_parts.proofs.Nodes.{of_none, of_past, of_plain, of_sub, of_bits, of_named, of_qualified, of_unknown}
use Rattle.subst_parts.proofs.PartsLaws.{as_kind, of_poison}
use Rattle.subst_parts.proofs.resolve_whole.Goals as goal

pub returns-then-left-eq0 : goal.returns-then-left-eq0
returns-then-left-eq0 c =
    let a = c.args in
    record { falls = omega (arith, c.failed.ensures.1); means = λ w. of_none a.l.now a.at a.left a.params.now c.failed.result c.if-left-eq0.true c.failed.ensures.0 }

pub returns-then-count-at : goal.returns-then-count-at
returns-then-count-at c =
    let a = c.args in
    record { falls = omega (arith, c.failed-then-count-at.ensures.1); means = λ w. of_past a.l.now a.at a.left a.params.now c.failed-then-count-at.result (omega (arith, c.if-count-at.true, c.count.ensures)) }

pub returns-in-Plain : goal.returns-in-Plain
returns-in-Plain c =
    let a = c.args in
    let k = ap type_kind (sym c.section_word.ensures) ∙ sym c.type_kind-k.ensures ∙ c.in-Plain.is in
    record { falls = omega (arith, c.leaf.ensures.falls); means = λ w. of_plain a.l.now a.at a.left a.params.now c.leaf.result c.if-left-eq0.false k c.leaf.ensures.means }

pub returns-in-Sub : goal.returns-in-Sub
returns-in-Sub c =
    let a = c.args in
    let k = ap type_kind (sym c.section_word.ensures) ∙ sym c.type_kind-k.ensures ∙ c.in-Sub.is in
    record { falls = omega (arith, c.leaf-in-Sub.ensures.falls); means = λ w. of_sub a.l.now a.at a.left a.params.now c.leaf-in-Sub.result c.if-left-eq0.false k c.leaf-in-Sub.ensures.means }

pub returns-in-Bits : goal.returns-in-Bits
returns-in-Bits c =
    let a = c.args in
    let k = ap type_kind (sym c.section_word.ensures) ∙ sym c.type_kind-k.ensures ∙ c.in-Bits.is in
    record { falls = omega (arith, c.leaf-in-Bits.ensures.falls); means = λ w. of_bits a.l.now a.at a.left a.params.now c.leaf-in-Bits.result c.if-left-eq0.false k c.leaf-in-Bits.ensures.means }

pub returns-in-Named : goal.returns-in-Named
returns-in-Named c =
    let a = c.args in
    let k = ap type_kind (sym c.section_word.ensures) ∙ sym c.type_kind-k.ensures ∙ c.in-Named.is in
    record { falls = omega (arith, c.named.ensures.falls); means = λ w. of_named a.l.now a.at a.left a.params.now c.named.result c.if-left-eq0.false k c.named.ensures.means }

pub returns-in-Qualified : goal.returns-in-Qualified
returns-in-Qualified c =
    let a = c.args in
    let k = ap type_kind (sym c.section_word.ensures) ∙ sym c.type_kind-k.ensures ∙ c.in-Qualified.is in
    record { falls = omega (arith, c.qualified.ensures.falls); means = λ w. of_qualified a.l.now a.at a.left a.params.now c.qualified.result c.if-left-eq0.false k c.qualified.ensures.means }

pub returns-in-Generic : goal.returns-in-Generic
returns-in-Generic c =
    let a = c.args in
    let k = ap type_kind (sym c.section_word.ensures) ∙ sym c.type_kind-k.ensures ∙ c.in-Generic.is in
    record { falls = omega (arith, c.poison.ensures.falls); means = of_poison a.l.now a.at a.left a.params.now c.poison.result c.if-left-eq0.false (omega (arith, c.if-count-at.false, c.count.ensures)) k c.poison.ensures.means }

pub returns-in-One : goal.returns-in-One
returns-in-One c =
    let a = c.args in
    let k = ap type_kind (sym c.section_word.ensures) ∙ sym c.type_kind-k.ensures ∙ c.in-One.is in
    record { falls = omega (arith, c.failed-in-One.ensures.1); means = λ w. absurd (as_kind a.l.now a.at a.left c.if-left-eq0.false (omega (arith, c.if-count-at.false, c.count.ensures)) k w) }

pub returns-in-Fixed : goal.returns-in-Fixed
returns-in-Fixed c =
    let a = c.args in
    let k = ap type_kind (sym c.section_word.ensures) ∙ sym c.type_kind-k.ensures ∙ c.in-Fixed.is in
    record { falls = omega (arith, c.failed-in-Fixed.ensures.1); means = λ w. absurd (as_kind a.l.now a.at a.left c.if-left-eq0.false (omega (arith, c.if-count-at.false, c.count.ensures)) k w) }

pub returns-in-Two : goal.returns-in-Two
returns-in-Two c =
    let a = c.args in
    let k = ap type_kind (sym c.section_word.ensures) ∙ sym c.type_kind-k.ensures ∙ c.in-Two.is in
    record { falls = omega (arith, c.failed-in-Two.ensures.1); means = λ w. absurd (as_kind a.l.now a.at a.left c.if-left-eq0.false (omega (arith, c.if-count-at.false, c.count.ensures)) k w) }

pub returns-in-Unknown : goal.returns-in-Unknown
returns-in-Unknown c =
    let a = c.args in
    let k = ap type_kind (sym c.section_word.ensures) ∙ sym c.type_kind-k.ensures ∙ c.in-Unknown.is in
    record { falls = omega (arith, c.failed-in-Unknown.ensures.1); means = λ w. of_unknown a.l.now a.at a.left a.params.now c.failed-in-Unknown.result c.if-left-eq0.false k }
