-- `subst_names::names::lookup_primitive_alias` meets its contract. Assumes nothing.
use mathlib.Core.Path.{◌≡◌, sym, ap, subst, ◌∙◌}
use mathlib.Core.Option.{none, some}
use Prim.Native.Nat.{ℕ}
use native.Mathlib.Omega.{arith}
use lib.ListN.{get_or}
use Rattle.rules.specs.Syntax.{ResolvedType}
use Rattle.rules.specs.Substitute.{primitive}
use Rattle.image_layout.specs.Open.{AliasStands, pool_words}
use Rattle.type_words.specs.declared.HeldType.{HeldType}
use Rattle.type_words.specs.Holds.{Holds, MaybeHolds}
use Rattle.codes.proofs.Codes.{primitive_in}
use Rattle.type_words.proofs.Trees.{plain_holds}
use Rattle.subst_names.proofs.Codes.{primitive_type, no_primitive, no_alias, some_alias}
use Rattle.subst_names.proofs.NamesLaws.{row, primitive_alias}
use Rattle.subst_names.proofs.names.lookup_primitive_alias.Goals as goal

pub returns-then-start : goal.returns-then-start
returns-then-start c s o h =
    let a = c.args in
    let n = row o a.x.0 h in
    let st = subst (λ (k : ℕ). AliasStands a.l.now.names.rows (pool_words a.l.now) k n.0.alias) (sym c.name_row-row.ensures.alias) n.2.alias in
    subst (MaybeHolds a.l.now.names.rows c.none.result) (sym (primitive_alias o a.x.0 h ∙ no_alias a.l.now.names.rows (pool_words a.l.now) c.name_row-row.result.alias primitive n.0.alias st c.if-start.true)) c.none.ensures

pub returns-then-code-le-VOID : goal.returns-then-code-le-VOID
returns-then-code-le-VOID c s o h =
    let a = c.args in
    let n = row o a.x.0 h in
    let ws = pool_words a.l.now in
    let at = c.name_row-row.result.alias in
    let st = subst (λ (k : ℕ). AliasStands a.l.now.names.rows ws k n.0.alias) (sym c.name_row-row.ensures.alias) n.2.alias in
    let e : c.section_word-code.result ≡ get_or ws at 0 = c.section_word-code.ensures in
    let q = primitive_alias o a.x.0 h ∙ some_alias a.l.now.names.rows ws at primitive (some (ResolvedType.plain (get_or ws at 0))) n.0.alias st c.if-start.false (λ t m w g. primitive_type a.l.now.names.rows ws at m t w g (omega (arith, c.if-code-le-VOID.true, e))) in
    let p = plain_holds a.l.now.names.rows c.plain.ensures (primitive_in c.section_word-code.result (omega (arith, c.if-code-le-VOID.true))) in
    subst (MaybeHolds a.l.now.names.rows c.some.result) (sym (q ∙ ap (λ (x : ℕ). some (ResolvedType.plain x)) (sym e)))
    (c.some.ensures.0, subst (λ (k : HeldType). Holds a.l.now.names.rows k (ResolvedType.plain c.section_word-code.result)) (sym c.some.ensures.1) p)

pub returns : goal.returns
returns c s o h =
    let a = c.args in
    let n = row o a.x.0 h in
    let ws = pool_words a.l.now in
    let at = c.name_row-row.result.alias in
    let st = subst (λ (k : ℕ). AliasStands a.l.now.names.rows ws k n.0.alias) (sym c.name_row-row.ensures.alias) n.2.alias in
    let e : c.section_word-code.result ≡ get_or ws at 0 = c.section_word-code.ensures in
    let q = primitive_alias o a.x.0 h ∙ some_alias a.l.now.names.rows ws at primitive none n.0.alias st c.if-start.false (λ t m w g. no_primitive a.l.now.names.rows ws at m t w (omega (arith, c.if-code-le-VOID.false, e))) in
    subst (MaybeHolds a.l.now.names.rows c.none-2.result) (sym q) c.none-2.ensures
