-- Laws: what is printed of an answer is what a program prints of the image, and is not cut where there is room.
use Prim.Native.Nat.{ℕ}
use mathlib.Core.Path.{◌≡◌, refl, sym, ap}
use mathlib.Core.List.{List, []}
use native.Mathlib.Omega.{arith}
use lib.ListN.{length, replicate}
use Rattle.rules.specs.Answer as rules
use Rattle.rules.specs.Projone.{lowest_implementation, lines, projone}
use Rattle.answers.specs.Answers.{answer_of}
use Rattle.answers.specs.declared.answer.Answer.{Answer}
use Rattle.call_answer.specs.Calls.{answer_for}
use Rattle.call_answer.specs.declared.Call.{Call}
use Rattle.lines.specs.Text.{Tells}
use Rattle.lines.specs.Lines.{lines_text}
use Rattle.lines.proofs.Tells.{tells_same, tells_whole}
use Rattle.lines.proofs.Lengths.{Bytes, WordFields, answer_length}
use Rattle.programs.specs.Printed.{answer_text, PrintsProjone}
use Rattle.programs.specs.Clauses.{TellsLowest}

pub prints_projone : PrintsProjone
unfolding answer_text projone
prints_projone image = refl

module _ (call : Call) (image : List ℕ) (a : Answer) (output detail : List ℕ) (e : answer_of a output detail ≡ answer_for call image (lowest_implementation image) (replicate 65536 0) (replicate 576 0)) where
  -- the detail is not told
  text_is : lines_text (lines (answer_of a output [])) ≡ answer_text call image
  unfolding lines answer_of answer_text
  text_is = ap (λ (x : rules.Answer). lines_text (lines x)) e

  pub tells_lowest : {r : ℕ} {old new : List ℕ} → Tells (lines_text (lines (answer_of a output []))) 0 r old new → length output ≡ 65536 → WordFields a → Bytes output → TellsLowest call image r old new
  tells_lowest t n w b =
      let s = tells_same text_is t in
      (s, λ room. tells_whole s (omega (arith, ap length (sym text_is), answer_length a output [] w b, n)))
