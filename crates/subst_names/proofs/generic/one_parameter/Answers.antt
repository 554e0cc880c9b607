-- `subst_names::generic::one_parameter` meets its contract. Assumes nothing.
use mathlib.Core.Path.{refl, sym, subst, ◌∙◌}
use Rattle.image_layout.specs.Open.{pool_words}
use Rattle.subst_names.specs.Aliases.{IsAlias}
use Rattle.subst_names.proofs.GenericLaws.{not_one, is_one}
use Rattle.subst_names.proofs.generic.one_parameter.Goals as goal

pub returns-then-section_word-ne1 : goal.returns-then-section_word-ne1
returns-then-section_word-ne1 c g h =
    let a = c.args in
    subst (IsAlias a.l.now.names.rows (pool_words a.l.now) c.none.result) (sym (not_one a.l.now.names.rows (pool_words a.l.now) a.start g h (λ e. c.if-section_word-ne1.true (c.section_word.ensures ∙ e)))) c.none.ensures

pub returns : goal.returns
returns c g h =
    let a = c.args in
    is_one a.l.now.names.rows (pool_words a.l.now) a.start g h (sym c.section_word.ensures ∙ c.if-section_word-ne1.false) _ refl c.section_word-2.ensures refl
