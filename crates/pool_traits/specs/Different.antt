-- A trait's functions by their names, and the reading that asks that these are all different.
use Rattle.std.specs.Prelude.{ℕ, List, map}
use Rattle.rules.specs.Words.{all_different}
use Rattle.rules.specs.Syntax.{TraitFnDef}
use Rattle.rules.specs.Reader.{Reader, many}
use Rattle.rules.specs.ReadDefinitions.{trait_function}
use Rattle.image_words.specs.Loops.{tested}

-- the names of some functions
abbrev pub names_of : List TraitFnDef → List ℕ
names_of fs = map (λ f. f.name) fs

-- at most 64 functions, no two of one name
abbrev pub different_functions : ℕ → Reader (Unit {0})
different_functions names = tested (many 64 (trait_function names)) (λ fs. all_different (names_of fs))
