use Rattle.image_texts.specs.Rows.{row_text}
use Rattle.image_texts.proofs.row.text_of.Goals as goal

pub returns : goal.returns
unfolding row_text
returns c = cc
