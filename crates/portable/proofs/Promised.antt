-- The theorems of two calls hold of calls that answer as `project_impl` ensures. Assumes nothing.
use Rattle.promises.specs.Projects.{Bytes}
use Rattle.promises.specs.Calls.{Made, Projected}
use Rattle.promises.proofs.Calls.{calls_same_bodies, no_call_begins_another, calls_together, one_answer}
use Rattle.portable.specs.Clauses.{ProjectsTwice}

pub promised : {c d : Made} → Projected c → Projected d → Bytes c.image → Bytes d.image → ProjectsTwice c d
promised {c} {d} p q b b' = record {
  first = p;
  second = q;
  same_bodies = calls_same_bodies c d p q b;
  first_begins_not = no_call_begins_another c d p q b b';
  second_begins_not = no_call_begins_another d c q p b' b;
  together = calls_together c d p q;
  alike = one_answer c d p q;
}
