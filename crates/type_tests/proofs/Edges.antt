-- Types that print alike differ. Assumes nothing.
use mathlib.Core.Path.{refl}
use Rattle.rules.specs.Words.{same}
use Rattle.rules.specs.Syntax.{run}
use Rattle.rules.specs.Types.{same_type}
use Rattle.rules.specs.Fits.{range_of}
use Rattle.type_tests.specs.Edges.{alike, Right}

pub right : Right alike
unfolding range_of same_type same run
right =
    (refl, refl, (refl, refl, (refl, refl, (refl, refl, (refl, refl, (refl, refl, (refl, refl, (refl, refl, (refl, refl, tt)))))))))
