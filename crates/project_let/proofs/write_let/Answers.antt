-- `project_let::write_let` meets its contract. Assumes nothing.
use Rattle.rules.specs.Syntax.{run}
use Rattle.rules.specs.Infer.{type_of}
use Rattle.project_let.proofs.Lets.{written_let}
use Rattle.project_let.proofs.write_let.Goals as goal

pub returns : goal.returns
returns c = λ x i e n s o context v q w. written_let _ v c.put_two-a.ensures (c.put_type-b.ensures (run (type_of v)) w) (c.write_expr.ensures x i e n s o context v q w)
