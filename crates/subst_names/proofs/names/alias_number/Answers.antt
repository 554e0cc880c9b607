-- `subst_names::names::alias_number` meets its contract. Assumes nothing.
use mathlib.Core.Path.{sym, ap, ◌∙◌}
use mathlib.Core.Option.{Option, none, some}
use Prim.Native.Nat.{ℕ}
use Rattle.rules.specs.Words.{NONE}
use Rattle.rules.specs.Options.{or}
use Rattle.rules.specs.Substitute.{number}
use Rattle.image_layout.specs.Open.{pool_words}
use Rattle.subst_names.proofs.Codes.{named_type, other_type, no_alias, some_alias}
use Rattle.subst_names.proofs.names.alias_number.Goals as goal

pub returns-then-start-eq-NOWHERE : goal.returns-then-start-eq-NOWHERE
unfolding or
returns-then-start-eq-NOWHERE c o h =
    let a = c.args in
    sym (ap (λ (q : Option ℕ). or q NONE) (no_alias a.l.now.names.rows (pool_words a.l.now) a.start number o h c.if-start-eq-NOWHERE.true))

pub returns-then-section_word-ne-NAMED : goal.returns-then-section_word-ne-NAMED
unfolding or
returns-then-section_word-ne-NAMED c o h =
    let a = c.args in
    let ws = pool_words a.l.now in
    sym (ap (λ (q : Option ℕ). or q NONE) (some_alias a.l.now.names.rows ws a.start number none o h c.if-start-eq-NOWHERE.false (λ t n s g. other_type a.l.now.names.rows ws a.start n t s (λ e. c.if-section_word-ne-NAMED.true (c.section_word.ensures ∙ e)))))

pub returns : goal.returns
unfolding or
returns c o h =
    let a = c.args in
    let ws = pool_words a.l.now in
    c.section_word-2.ensures ∙ sym (ap (λ (q : Option ℕ). or q NONE) (some_alias a.l.now.names.rows ws a.start number (some _) o h c.if-start-eq-NOWHERE.false (λ t n s g. named_type a.l.now.names.rows ws a.start n t s g (sym c.section_word.ensures ∙ c.if-section_word-ne-NAMED.false))))
