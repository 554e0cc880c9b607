-- `expected_locals::enter_params` meets its contract. The loop's invariant: i parameters are entered, and what is left decides. Assumes nothing.
use mathlib.Core.Path.{◌≡◌}
use lib.ListN.{length}
use Rattle.expected_signature.specs.Here.{ParamsHere}
use Rattle.expected_locals.proofs.Enters.{Left}
use Rattle.expected_locals.proofs.enter_params.Given as goal

abbrev pub invariant-loop-i : goal.invariant-loop-i
invariant-loop-i l =
    (length l.names ≡ length l.initial.names) × (length l.words ≡ length l.initial.words) × (length l.lens ≡ length l.initial.lens) × ((h : ParamsHere l.l l.params l.at) → Left h l.i l.next l.names l.words l.lens)
