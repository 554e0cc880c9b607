-- `subst_names::generic::lookup_alias` meets its contract. Assumes nothing.
use mathlib.Core.Path.{sym, subst, ◌∙◌}
use native.Mathlib.Omega.{arith}
use Rattle.image_layout.specs.Open.{pool_words}
use Rattle.subst_names.specs.Aliases.{IsAlias}
use Rattle.subst_names.proofs.GenericLaws.{alias_at, generic_here, none_here}
use Rattle.subst_names.proofs.generic.lookup_alias.Goals as goal

pub returns-then-is_generic : goal.returns-then-is_generic
returns-then-is_generic c s o h =
    let a = c.args in
    let g = generic_here o c.lookup-d.result.0 c.definition_row-row.result c.definition_row-row.ensures (sym c.is_generic.ensures ∙ c.if-is_generic.true) in
    subst (IsAlias a.l.now.names.rows (pool_words a.l.now) c.one_parameter.result) (sym (alias_at s a.x.0 c.lookup-d.result.0 (c.lookup-d.ensures s o h) (omega (arith, o.definitions, o.inside.few_definitions)) ∙ g.1)) (c.one_parameter.ensures g.0 g.2)

pub returns : goal.returns
returns c s o h =
    let a = c.args in
    let g = none_here o c.lookup-d.result.0 c.definition_row-row.result c.definition_row-row.ensures (sym c.is_generic.ensures ∙ c.if-is_generic.false) in
    subst (IsAlias a.l.now.names.rows (pool_words a.l.now) c.none.result) (sym (alias_at s a.x.0 c.lookup-d.result.0 (c.lookup-d.ensures s o h) (omega (arith, o.definitions, o.inside.few_definitions)) ∙ g)) c.none.ensures
