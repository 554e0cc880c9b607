-- `project_function::project_statements` meets its contract. The loop's invariant: what the statements left come to, the whole comes to. Assumes nothing.
use borrow.Author.Tests.{not-true, not-false}
use Prim.Native.Nat.{◌-◌, ℕ}
use native.Mathlib.Omega.{arith}
use mathlib.Core.Path.{refl, sym, ap, ◌∙◌}
use mathlib.Core.List.{[], ◌∷◌}
use Rattle.rules.specs.Refusal.{with_detail}
use Rattle.project_function.proofs.Blocks.{started, returned, passed_refused, passed_on, ended_early, ended}
use Rattle.project_function.proofs.project_statements.Goals as goal

pub loop-i-init : goal.loop-i-init
loop-i-init c = (refl, refl, refl, refl, λ f i ss n r m b o. started _ _ o _ _ _ _ n f i ss r m b)

pub project_return-requires : goal.project_return-requires
project_return-requires c = omega (arith, c.loop-i.invariant.3, c.requires.0)

pub shape_of-names-then-section_word-eq-RETURN : goal.shape_of-names-then-section_word-eq-RETURN
shape_of-names-then-section_word-eq-RETURN c = c.loop-i.invariant.0

pub shape_of-words-then-section_word-eq-RETURN : goal.shape_of-words-then-section_word-eq-RETURN
shape_of-words-then-section_word-eq-RETURN c = c.loop-i.invariant.1

pub shape_of-lens-then-section_word-eq-RETURN : goal.shape_of-lens-then-section_word-eq-RETURN
shape_of-lens-then-section_word-eq-RETURN c = c.loop-i.invariant.2

pub shape_of-out-then-section_word-eq-RETURN : goal.shape_of-out-then-section_word-eq-RETURN
shape_of-out-then-section_word-eq-RETURN c = omega (arith, c.out-1.given, c.loop-i.invariant.3)

pub returns-then-section_word-eq-RETURN : goal.returns-then-section_word-eq-RETURN
returns-then-section_word-eq-RETURN c = λ f i ss n r m b o w. let v = c.loop-i.invariant.4 f i ss n r m b o in returned v c.loop-i-test.true (sym c.section_word.ensures ∙ c.if-section_word-eq-RETURN.true) (λ e k s rest q. c.project_return.ensures v.context v.in_context e k s o w rest q)

pub project_step-s-requires : goal.project_step-s-requires
project_step-s-requires c = (omega (arith, c.loop-i.invariant.3, c.requires.0), omega (arith, c.loop-i.invariant.0, c.requires.1), omega (arith, c.loop-i.invariant.1, c.requires.2), omega (arith, c.loop-i.invariant.2, c.requires.3))

pub shape_of-names-then-not-done : goal.shape_of-names-then-not-done
shape_of-names-then-not-done c = omega (arith, c.names-1.given, c.loop-i.invariant.0)

pub shape_of-words-then-not-done : goal.shape_of-words-then-not-done
shape_of-words-then-not-done c = omega (arith, c.words-1.given, c.loop-i.invariant.1)

pub shape_of-lens-then-not-done : goal.shape_of-lens-then-not-done
shape_of-lens-then-not-done c = omega (arith, c.lens-1.given, c.loop-i.invariant.2)

pub shape_of-out-then-not-done : goal.shape_of-out-then-not-done
shape_of-out-then-not-done c = omega (arith, c.out-in-loop-i-1.given, c.loop-i.invariant.3)

pub returns-then-not-done : goal.returns-then-not-done
returns-then-not-done c = λ f i ss n r m b o w. let v = c.loop-i.invariant.4 f i ss n r m b o in passed_refused v c.loop-i-test.true (λ z. c.if-section_word-eq-RETURN.false (c.section_word.ensures ∙ z)) (λ t k s b. c.project_step-s.ensures v.context v.in_context t k s b) (not-true _ c.if-not-done.true)

pub loop-i-preserved : goal.loop-i-preserved
loop-i-preserved c = (omega (arith, c.names-1.given, c.loop-i.invariant.0), omega (arith, c.words-1.given, c.loop-i.invariant.1), omega (arith, c.lens-1.given, c.loop-i.invariant.2), omega (arith, c.out-in-loop-i-1.given, c.loop-i.invariant.3), λ f i ss n r m b o. let v = c.loop-i.invariant.4 f i ss n r m b o in passed_on v c.loop-i-test.true (λ z. c.if-section_word-eq-RETURN.false (c.section_word.ensures ∙ z)) (λ t k s b. c.project_step-s.ensures v.context v.in_context t k s b) (not-false _ c.if-not-done.false) c.skip_statement-next.ensures)

pub shape_of-names-then-returns : goal.shape_of-names-then-returns
shape_of-names-then-returns c = c.loop-i.invariant.0

pub shape_of-words-then-returns : goal.shape_of-words-then-returns
shape_of-words-then-returns c = c.loop-i.invariant.1

pub shape_of-lens-then-returns : goal.shape_of-lens-then-returns
shape_of-lens-then-returns c = c.loop-i.invariant.2

pub shape_of-out-then-returns : goal.shape_of-out-then-returns
shape_of-out-then-returns c = c.loop-i.invariant.3

pub returns-then-returns : goal.returns-then-returns
returns-then-returns c = λ f i ss n r m b o w. let v = c.loop-i.invariant.4 f i ss n r m b o in ended_early v _ _ w c.loop-i-test.false c.if-returns.true c.return_mismatch.ensures.0 (c.return_mismatch.ensures.1 ∙ ap (λ (k : ℕ). with_detail 22 k (2 ∷ [])) v.in_context.function)

pub shape_of-names : goal.shape_of-names
shape_of-names c = c.loop-i.invariant.0

pub shape_of-words : goal.shape_of-words
shape_of-words c = c.loop-i.invariant.1

pub shape_of-lens : goal.shape_of-lens
shape_of-lens c = c.loop-i.invariant.2

pub shape_of-out : goal.shape_of-out
shape_of-out c = c.loop-i.invariant.3

pub returns : goal.returns
returns c = λ f i ss n r m b o w. ended (c.loop-i.invariant.4 f i ss n r m b o) _ _ w c.loop-i-test.false c.if-returns.false c.accepted.ensures.0 c.accepted.ensures.1
