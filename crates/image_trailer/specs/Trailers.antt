-- The trailer's words.
use Rattle.std.specs.Prelude.{ℕ, ◌-◌, ◌≡◌, List, length, drop, get_or}
use Rattle.rules.specs.Image as rules
use Rattle.image_words.specs.Verdict.{section_words}
use Rattle.image_trailer.specs.declared.Trailer.{Trailer}

-- the rules' trailer
abbrev pub meant : Trailer → rules.Trailer
meant t = record { names_start = t.names; strings_start = t.strings; pool_start = t.pool; definitions_start = t.definitions; format = t.format; size = t.size }

-- word k of the trailer
abbrev pub trailer_word : List ℕ → ℕ → ℕ
trailer_word image k = get_or (section_words (drop (length image - 24) image)) k 0

pub record IsTrailer (image : List ℕ) (t : Trailer) : Type 0 where
  pub names : t.names ≡ trailer_word image 0
  pub strings : t.strings ≡ trailer_word image 1
  pub pool : t.pool ≡ trailer_word image 2
  pub definitions : t.definitions ≡ trailer_word image 3
  pub format : t.format ≡ trailer_word image 4
  pub size : t.size ≡ trailer_word image 5

-- the trailer that an image's last words tell
abbrev pub trailer_told : List ℕ → rules.Trailer
trailer_told image = record { names_start = trailer_word image 0; strings_start = trailer_word image 1; pool_start = trailer_word image 2; definitions_start = trailer_word image 3; format = trailer_word image 4; size = trailer_word image 5 }
