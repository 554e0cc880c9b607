-- `lines::answer::put_fields` meets its contract: five numbers, one behind the other. Assumes nothing.
use Rattle.lines.specs.Lines.{line_text}
use Rattle.lines.proofs.Tells.{tells_inside, tells_then}
use Rattle.lines.proofs.answer.put_fields.Goals as goal

pub returns : goal.returns
unfolding line_text
returns c =
    let number = c.put_number-behind_number.ensures in
    let function = c.put_number-behind_function.ensures in
    let second = c.put_number-behind_second.ensures in
    let size = c.put_number-behind_length.ensures in
    let visits = c.put_number.ensures in
    tells_then c.requires number (tells_then (tells_inside number) function (tells_then (tells_inside function) second (tells_then (tells_inside second) size visits)))
