-- `subst_leaves::named` meets its contract. Assumes nothing.
use Rattle.image_words.proofs.Sections.{length_section}
use Prim.Native.Nat.{ℕ}
use mathlib.Core.Path.{◌≡◌, refl, subst, ◌∙◌}
use native.Mathlib.Omega.{arith}
use Rattle.rules.specs.Substitute.{resolve_name}
use Rattle.type_words.specs.Holds.{Holds}
use Rattle.subst_leaves.proofs.Parts.{named_stands}
use Rattle.subst_leaves.proofs.Steps.{one_visit}
use Rattle.subst_leaves.proofs.named.Goals as goal

pub returns : goal.returns
returns c =
    let a = c.args in
    record {
      falls = omega arith;
      means = λ s o ps w x n e.
          let p = named_stands x e in
          let i : c.section_word.result ≡ x = c.section_word.ensures ∙ p.name in
          one_visit a.l.now.names.rows a.left n (resolve_name s ps x) _ refl p.next refl
          (subst (λ (y : ℕ). Holds a.l.now.names.rows c.resolve_name.result (resolve_name s ps y)) i (c.resolve_name.ensures s o ps w (omega (arith, i, p.below))));
    }

pub overflow_add-at : goal.overflow_add-at
overflow_add-at c = omega (arith, c.requires, length_section c.args.l.now.pool.now)

pub overflow_add-result : goal.overflow_add-result
overflow_add-result c = omega (arith, c.requires, length_section c.args.l.now.pool.now)

pub overflow_add-result-2 : goal.overflow_add-result-2
overflow_add-result-2 c = omega (arith, c.requires, length_section c.args.l.now.pool.now)
