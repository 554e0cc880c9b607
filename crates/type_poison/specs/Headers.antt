-- A node of a run: its words before its parts.
use Rattle.std.specs.Prelude.{ℕ, ◌+◌, Bool, ◌&&◌, eqb}
use Rattle.rules.specs.Words.{NONE}
use Rattle.rules.specs.declared.kinds.TypeKind.{TypeKind}

-- a code's kind, and the word behind it: a list of bits has a count there
abbrev pub header_of : TypeKind → ℕ → ℕ
header_of TypeKind.Plain next = 1
header_of TypeKind.Sub next = 3
header_of TypeKind.Bits next = next + 2
header_of TypeKind.Named next = 2
header_of TypeKind.Qualified next = 1
header_of TypeKind.Generic next = 1
header_of TypeKind.One next = 1
header_of TypeKind.Fixed next = 3
header_of TypeKind.Two next = 1
header_of TypeKind.Unknown next = 1

-- the two words of poison
abbrev pub poison_words : ℕ → ℕ → Bool
poison_words code next = eqb code 48 && eqb next NONE
