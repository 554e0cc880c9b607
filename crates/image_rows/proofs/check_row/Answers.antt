-- `image_rows::check_row` meets its contract. Assumes nothing.
use Rattle.image_rows.proofs.check_row.Goals as goal

pub returns-in-Names : goal.returns-in-Names
returns-in-Names c = rw c.in-Names.is c.check_name_row.ensures

pub returns-in-Strings : goal.returns-in-Strings
returns-in-Strings c = rw c.in-Strings.is c.check_string_row.ensures

pub returns-in-Definitions : goal.returns-in-Definitions
returns-in-Definitions c = rw c.in-Definitions.is c.check_definition_row.ensures
