-- `locals::local_type` meets its contract. Assumes nothing.
use Prim.Native.Nat.{◌*◌}
use native.Mathlib.Omega.{arith}
use Rattle.type_words.proofs.Noted.{rests_at}
use Rattle.locals.proofs.local_type.Goals as goal

pub returns : goal.returns
returns c rows names p r = c.noted_type.ensures rows p.ty (rests_at rows c.args.words.now (64 * c.args.i) _ p.ty (omega arith) (omega (arith, r.room)) r.noted r.words_at r.stored)
