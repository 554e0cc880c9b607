-- `subst_names::names::resolve_qualified` meets its contract. Assumes nothing.
use mathlib.Core.Path.{sym, subst, ◌∙◌}
use native.Mathlib.Omega.{arith}
use Rattle.type_words.specs.Holds.{Holds}
use Rattle.type_words.proofs.Trees.{named_holds}
use Rattle.image_texts.specs.Rows.{qualified_text}
use Rattle.image_texts.proofs.Names.{find_below}
use Rattle.subst_names.proofs.NamesLaws.{qualified_at, qualified_none, qualified_some}
use Rattle.subst_names.proofs.names.resolve_qualified.Goals as goal

pub returns-then-row : goal.returns-then-row
returns-then-row c s o i j =
    let a = c.args in
    let row = c.find_qualified-row.result.0 in
    let e = qualified_at c.requires o a.namespace.0 a.x.0 i j row c.find_qualified-row.ensures in
    subst (Holds a.l.now.names.rows c.named.result) (sym (qualified_none o a.namespace.0 a.x.0 row e c.if-row.true)) (named_holds a.l.now.names.rows c.named.ensures)

pub returns : goal.returns
returns c s o i j =
    let a = c.args in
    let at = a.l.now.texts in
    let row = c.find_qualified-row.result.0 in
    let e = qualified_at c.requires o a.namespace.0 a.x.0 i j row c.find_qualified-row.ensures in
    let k = find_below a.l.now.image.now at a.l.now.names.rows (qualified_text a.l.now.image.now at a.namespace.0 a.x.0) (λ z. c.if-row.false (c.find_qualified-row.ensures ∙ z)) in
    let d = c.lookup.ensures s o (omega (arith, k, c.find_qualified-row.ensures)) in
    subst (Holds a.l.now.names.rows c.named-2.result) (sym (qualified_some s a.namespace.0 a.x.0 row c.lookup.result.0 e d)) (named_holds a.l.now.names.rows c.named-2.ensures)
