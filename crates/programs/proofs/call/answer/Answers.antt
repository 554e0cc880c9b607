-- `programs::call::answer` meets its contract. Assumes nothing.
use borrow.Author.Rules.{rules}
use native.Mathlib.Omega.{arith}
use Prim.Native.Nat.{ℕ}
use mathlib.Core.Path.{◌≡◌, ap, ◌∙◌}
use mathlib.Core.List.{List}
use Rattle.rules.specs.Answer as rules
use Rattle.call_answer.specs.declared.Call.{Call}
use Rattle.call_answer.specs.Calls.{answer_for}
use Rattle.programs.proofs.call.answer.Goals as goal

at_row : (call : Call) (image output detail : List ℕ) (lowest row : ℕ) {a : rules.Answer} → row ≡ lowest → a ≡ answer_for call image row output detail → a ≡ answer_for call image lowest output detail
at_row call image output detail lowest row e h = h ∙ ap (λ (n : ℕ). answer_for call image n output detail) e

pub returns : goal.returns
returns c = let a = c.args in at_row a.call a.image.now a.output.now a.detail.now _ _ (omega (arith, c.lowest_implementation-number.ensures)) c.answer.ensures
