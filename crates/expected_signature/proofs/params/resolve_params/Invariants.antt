use Rattle.expected_signature.specs.Here.{ParamsHere}
use Rattle.expected_signature.proofs.ParamLoop.{Left}
use Rattle.expected_signature.proofs.params.resolve_params.Given as goal

abbrev pub invariant-loop : goal.invariant-loop
invariant-loop l = (h : ParamsHere l.l l.params l.at) → Left h l.initial.place l.initial.out l.counter l.next l.place l.visits l.poisoned l.out
