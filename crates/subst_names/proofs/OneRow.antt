-- The names of a readable image all differ: the row that has a text is the one that is found.
use Prim.Native.Nat.{ℕ, ◌≤◌}
use mathlib.Core.Path.{◌≡◌, sym, ap, ◌∙◌}
use mathlib.Core.Option.{some}
use native.Mathlib.Omega.{arith}
use lib.ListN.{length, get_elem?}
use Rattle.rules.specs.Words.{NONE}
use Rattle.laws.proofs.Schema.{readable_good}
use Rattle.laws.proofs.Qualified.{found, one_name}
use Rattle.image_texts.specs.Rows.{find_row}
use Rattle.image_texts.proofs.Names.{find_rule}
use Rattle.subst_names.specs.OneRow.{OneRow}
use Rattle.subst_names.proofs.NamesLaws.{there, in_rows}

pub one_row : OneRow
one_row l s cut o t i h e =
    let few : length s.names ≤ NONE = omega (arith, o.names, o.inside.few_names) in
    let n = there s.names i (omega (arith, o.names)) in
    let text : n.0.text ≡ t = in_rows cut o i n.0 n.1 ∙ e in
    let j : ℕ = find_row l.image.now l.texts l.names.rows t in
    let at : get_elem? s.names j ≡ some n.0 =
    ap (λ (m : ℕ). get_elem? s.names (find_row l.image.now l.texts m t)) (sym o.names)
    ∙ sym (find_rule l.image.now l.texts s.names t (in_rows cut o) few)
    ∙ found t s.names (readable_good l.image.now s o.read).different i n.0 n.1 text in
    one_name l.image.now s o.read t j i (record { name = n.0; at = at; text = text }) (record { name = n.0; at = n.1; text = text })
