-- `subst_names::names::lookup` meets its contract. Assumes nothing.
use mathlib.Core.Path.{sym, ap, subst, ◌∙◌}
use mathlib.Core.Option.{Option}
use Prim.Native.Nat.{ℕ}
use Rattle.rules.specs.Words.{NONE}
use Rattle.rules.specs.Options.{or}
use Rattle.image_layout.specs.Open.{AliasStands, pool_words}
use Rattle.subst_names.proofs.NamesLaws.{row, defined, named_alias}
use Rattle.subst_names.proofs.names.lookup.Goals as goal

pub returns-then-d : goal.returns-then-d
unfolding or
returns-then-d c s o h =
    let a = c.args in
    let e = c.name_row-row.ensures.definition in
    e ∙ sym (ap (λ (q : Option ℕ). or q NONE) (defined o a.x.0 h (λ z. c.if-d.true (e ∙ z))))

pub returns : goal.returns
unfolding or
returns c s o h =
    let a = c.args in
    let n = row o a.x.0 h in
    let e = c.name_row-row.ensures in
    c.alias_number.ensures n.0.alias (subst (λ (k : ℕ). AliasStands a.l.now.names.rows (pool_words a.l.now) k n.0.alias) (sym e.alias) n.2.alias)
    ∙ sym (ap (λ (q : Option ℕ). or q NONE) (named_alias o a.x.0 h (sym e.definition ∙ c.if-d.false)))
