-- The rules' range for each case of the code's.
use Rattle.rules.specs.Fits as Fits
use Rattle.literal_fits.specs.declared.Range.{Range}

abbrev pub range : Range → Fits.Range
range (Range.Signed n) = Fits.Signed n
range (Range.Unsigned n) = Fits.Unsigned n
range Range.Any = Fits.Any
range Range.Nothing = Fits.Nothing
