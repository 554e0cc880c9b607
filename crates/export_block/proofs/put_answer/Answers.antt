use mathlib.Core.Path.{refl}
use native.Mathlib.Omega.{arith}
use Rattle.export_block.specs.Block.{words_of}
use Rattle.export_block.proofs.Blocks.{laid}
use Rattle.export_block.proofs.put_answer.Goals as goal

pub returns : goal.returns
unfolding words_of
returns c = (refl, laid (words_of c.args.a) c.args.block.now c.copy_from_slice.ensures.after (omega arith))
