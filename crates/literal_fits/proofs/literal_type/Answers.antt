-- `literal_fits::literal_type` meets its contract. Assumes nothing.
use Rattle.literal_fits.proofs.Given.{given, own}
use Rattle.literal_fits.proofs.literal_type.Goals as goal

pub returns-then-expected : goal.returns-then-expected
returns-then-expected c k n f q l names o m = given names k n _ _ o m c.if-expected.true f

pub returns : goal.returns
returns c k n f q l names o m = own names k n _ _ _ _ o m c.if-expected.false q l c.plain.ensures c.some.ensures
