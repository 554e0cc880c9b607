-- `type_words::notes::noted_type` meets its contract. Assumes nothing.
use native.Mathlib.Omega.{arith}
use Rattle.type_words.proofs.Noted.{count_rests, rested}
use Rattle.type_words.proofs.notes.noted_type.Goals as goal

pub returns-then-min-n : goal.returns-then-min-n
returns-then-min-n c names t r = absurd (omega (arith, c.if-min-n.true, c.min.ensures, count_rests names _ t r c.noted_count-n.ensures, r.room, r.stored.short))

pub returns : goal.returns
returns c names t r = rested names _ t r c.noted_count-n.ensures c.noted_poison.ensures c.of.ensures
