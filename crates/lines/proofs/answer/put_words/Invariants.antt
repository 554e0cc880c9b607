-- `lines::answer::put_words` meets its contract: what is left of the words decides. Assumes nothing.
use Prim.Native.Nat.{◌≤◌}
use mathlib.Core.Path.{◌≡◌}
use lib.ListN.{length}
use Rattle.lines.proofs.Lines.{first_words, Left}
use Rattle.lines.proofs.answer.put_words.Given as goal

abbrev pub invariant-loop-i : goal.invariant-loop-i
invariant-loop-i l =
    (l.next ≤ length l.text) × (length l.text ≡ length l.initial.text) × Left (first_words l.output l.size) l.at l.initial.text l.i l.next l.text
