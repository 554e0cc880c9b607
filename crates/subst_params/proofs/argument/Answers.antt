-- `subst_params::argument` meets its contract. Assumes nothing.
use Prim.Native.Nat.{◌+◌}
use native.Mathlib.Omega.{arith}
use Rattle.type_words.proofs.Noted.{rests_at}
use Rattle.subst_params.proofs.argument.Goals as goal

pub returns : goal.returns
returns c names p r = c.noted_type.ensures names p.ty (rests_at names c.args.table.now (c.args.at + 2) _ p.ty (omega arith) (omega (arith, r.inside)) r.noted r.words r.stored)
