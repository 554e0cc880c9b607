use Rattle.expected_functions.specs.Asked.{FunctionsHere}
use Rattle.expected_functions.proofs.ListLoop.{Left}
use Rattle.expected_functions.proofs.expected_list.Given as goal

abbrev pub invariant-loop : goal.invariant-loop
invariant-loop l = (h : FunctionsHere l.l l.params l.at) → Left h l.initial.place l.initial.out l.counter l.next l.place l.visits l.out
