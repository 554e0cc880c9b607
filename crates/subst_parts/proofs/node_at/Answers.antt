-- `subst_parts::node_at` meets its contract. Assumes nothing.
use mathlib.Core.Path.{sym, ap, ◌∙◌}
use native.Mathlib.Omega.{arith}
use Rattle.rules.specs.Kinds.{type_kind}
use Rattle.subst_parts.proofs.PartsLaws.{whole_at, whole_as, other_kind, told, told_none}
use Rattle.subst_parts.proofs.node_at.Goals as goal

pub returns-then-left-eq0 : goal.returns-then-left-eq0
returns-then-left-eq0 c =
    let a = c.args in
    whole_at a.l.now a.at a.left c.whole.result c.whole.ensures (λ b. absurd (omega (arith, b.0, c.if-left-eq0.true)))

pub returns-then-count-at : goal.returns-then-count-at
returns-then-count-at c =
    let a = c.args in
    whole_at a.l.now a.at a.left c.whole-then-count-at.result c.whole-then-count-at.ensures (λ b. absurd (omega (arith, b.1, c.if-count-at.true, c.count.ensures)))

pub returns-then-alias : goal.returns-then-alias
returns-then-alias c =
    let a = c.args in
    let k = ap type_kind (sym c.section_word.ensures) ∙ sym c.type_kind-k.ensures ∙ c.in-Generic.is in
    (omega arith, c.if-alias.true, (omega (arith, c.if-left-eq0.false), omega (arith, c.if-count-at.false, c.count.ensures)), k, told a.l.now a.at a.left c.lookup_alias-alias.result c.section_word-in-Generic.result c.section_word-in-Generic.ensures c.lookup_alias-alias.ensures)

pub returns-in-One : goal.returns-in-One
returns-in-One c =
    let k = ap type_kind (sym c.section_word.ensures) ∙ sym c.type_kind-k.ensures ∙ c.in-One.is in
    (omega arith, c.no_alias.ensures, (omega (arith, c.if-left-eq0.false), omega (arith, c.if-count-at.false, c.count.ensures)), k)

pub returns-in-Fixed : goal.returns-in-Fixed
returns-in-Fixed c =
    let k = ap type_kind (sym c.section_word.ensures) ∙ sym c.type_kind-k.ensures ∙ c.in-Fixed.is in
    (omega arith, c.no_alias-in-Fixed.ensures, (omega (arith, c.if-left-eq0.false), omega (arith, c.if-count-at.false, c.count.ensures)), k)

pub returns-in-Two : goal.returns-in-Two
returns-in-Two c =
    let k = ap type_kind (sym c.section_word.ensures) ∙ sym c.type_kind-k.ensures ∙ c.in-Two.is in
    (omega arith, c.no_alias-in-Two.ensures, (omega (arith, c.if-left-eq0.false), omega (arith, c.if-count-at.false, c.count.ensures)), k)

pub returns-else-alias : goal.returns-else-alias
returns-else-alias c =
    let a = c.args in
    let k = ap type_kind (sym c.section_word.ensures) ∙ sym c.type_kind-k.ensures ∙ c.in-Generic.is in
    whole_at a.l.now a.at a.left c.whole-in-Generic.result c.whole-in-Generic.ensures (whole_as a.l.now a.at a.left k
    (told_none a.l.now a.at a.left c.lookup_alias-alias.result c.section_word-in-Generic.result c.section_word-in-Generic.ensures c.lookup_alias-alias.ensures c.if-alias.false))

pub returns-in_default : goal.returns-in_default
returns-in_default c =
    let a = c.args in
    let k = ap type_kind (sym c.section_word.ensures) ∙ sym c.type_kind-k.ensures in
    whole_at a.l.now a.at a.left c.whole-in_default.result c.whole-in_default.ensures (whole_as a.l.now a.at a.left k (other_kind a.l.now a.at a.left c.type_kind-k.result c.in_default.not-Generic c.in_default.not-One c.in_default.not-Fixed c.in_default.not-Two))
