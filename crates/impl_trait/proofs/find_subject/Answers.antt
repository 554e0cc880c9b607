use Prim.Native.Nat.{ℕ}
use mathlib.Core.Path.{refl, ap, ◌∙◌}
use native.Mathlib.Omega.{arith}
use lib.ListN.{get_or}
use Rattle.rules.specs.Words.{NONE}
use Rattle.rules.specs.Refusal.{with_name}
use Rattle.image_layout.specs.Open.{pool_words}
use Rattle.impl_rows.proofs.Has.{has, lacks, same_trait}
use Rattle.impl_trait.proofs.Found.{no_impl, no_trait, both, lacking, standing, parts}
use Rattle.impl_trait.proofs.find_subject.Goals as goal

pub returns-in_default : goal.returns-in_default
returns-in_default c = λ s o. lacking (no_impl c.args.number.0 s (lacks (c.in_default.ensures s o))) refl

pub returns-in_default-find_trait : goal.returns-in_default-find_trait
returns-in_default-find_trait c =
    λ s o.
    let a = c.args in
    let h = has (c.in-Some.ensures s o) in
    let p = h.stands.parts in
    lacking (no_trait a.number.0 s h.is (lacks (same_trait s (c.section_word-id.ensures ∙ p.id_at.is) (c.in_default-find_trait.ensures s o))))
    (ap (with_name 4 NONE) (c.section_word.ensures ∙ ap (λ (k : ℕ). get_or (pool_words a.l.now) k 0) (c.after-name_at.ensures (omega (arith, p.id_at.inside))) ∙ p.name_at.is))

pub returns : goal.returns
returns c =
    λ s o.
    let a = c.args in
    let h = has (c.in-Some.ensures s o) in
    let p = h.stands.parts in
    let t = has (same_trait s (c.section_word-id.ensures ∙ p.id_at.is) (c.in-Some-find_trait.ensures s o)) in
    let e = c.after-name_at.ensures (omega (arith, p.id_at.inside)) in
    standing (both a.number.0 s h.is t.is) (parts h t refl (c.after-target.ensures (omega (arith, e, p.name_at.inside)) ∙ omega (arith, e)) (c.skip_type.ensures.resolved _))
