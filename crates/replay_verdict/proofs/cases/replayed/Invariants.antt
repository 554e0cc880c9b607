-- `replay_verdict::cases::replayed` meets its contract: what is left of the cases decides what they come to and what is told. A
use Prim.Native.Nat.{◌-◌, ◌*◌, ◌≤◌}
use mathlib.Core.Path.{◌≡◌}
use lib.ListN.{length}
use Rattle.replay_verdict.specs.Replayed.{number_of, total_from, total_of}
use Rattle.replay_verdict.specs.ReplayText.{told_from, cases_text}
use Rattle.replay_verdict.proofs.Tellings.{Left}
use Rattle.replay_verdict.proofs.cases.replayed.Given as goal

abbrev pub invariant-loop-i : goal.invariant-loop-i
invariant-loop-i l =
    let call = number_of l.call in
    (l.at ≤ length l.file) × (l.name ≤ length l.names) × (l.s.tally.cases ≤ l.i) × (l.s.tally.bytes ≤ 66560 * l.i) × (l.s.tally.differ ≤ l.i) × (total_from (l.count - l.i) l.file call l.i l.at l.s.tally ≡ total_of l.file call)
    × (l.s.place ≤ length l.text) × (length l.text ≡ length l.initial.text) × Left (cases_text l.file l.names call) (told_from (l.count - l.i) l.file l.names call l.at l.name) l.start l.s.place l.initial.text l.text
