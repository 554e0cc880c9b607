-- `subst_leaves::qualified` meets its contract. Assumes nothing.
use Prim.Native.Nat.{ℕ}
use mathlib.Core.Path.{◌≡◌, refl, subst₂, ◌∙◌}
use native.Mathlib.Omega.{arith}
use Rattle.rules.specs.Substitute.{lookup_qualified, named_or_poison}
use Rattle.type_words.specs.Holds.{Holds}
use Rattle.subst_leaves.proofs.Parts.{qualified_stands}
use Rattle.subst_leaves.proofs.Steps.{one_visit}
use Rattle.subst_leaves.proofs.qualified.Goals as goal

pub returns : goal.returns
returns c =
    let a = c.args in
    record {
      falls = omega arith;
      means = λ s o q x n e.
          let p = qualified_stands q x e in
          let i : c.section_word.result ≡ q = c.section_word.ensures ∙ p.namespace in
          let j : c.section_word-2.result ≡ x = c.section_word-2.ensures ∙ p.name in
          one_visit a.l.now.names.rows a.left n (named_or_poison (lookup_qualified s q x)) _ refl p.next refl
          (subst₂ (λ (y z : ℕ). Holds a.l.now.names.rows c.resolve_qualified.result (named_or_poison (lookup_qualified s y z))) i j
          (c.resolve_qualified.ensures s o (omega (arith, i, p.namespace_below)) (omega (arith, j, p.below))));
    }
