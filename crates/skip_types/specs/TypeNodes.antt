-- The nodes of types and type expressions, by the kind of their code: their own words and their parts.
use Rattle.std.specs.Prelude.{ℕ, ◌+◌}
use Rattle.rules.specs.declared.kinds.TypeKind.{TypeKind}
use Rattle.skip_types.specs.declared.Node.{Node}

-- w is the word behind the code: of bits it is the number of names
abbrev pub type_node : TypeKind → ℕ → Node
type_node TypeKind.Plain w = record { words = 1; parts = 0 }
type_node TypeKind.Sub w = record { words = 3; parts = 0 }
type_node TypeKind.Bits w = record { words = 2 + w; parts = 0 }
type_node TypeKind.Named w = record { words = 2; parts = 0 }
type_node TypeKind.Qualified w = record { words = 3; parts = 0 }
type_node TypeKind.Generic w = record { words = 2; parts = 1 }
type_node TypeKind.One w = record { words = 1; parts = 1 }
type_node TypeKind.Fixed w = record { words = 3; parts = 1 }
type_node TypeKind.Two w = record { words = 1; parts = 2 }
type_node TypeKind.Unknown w = record { words = 1; parts = 0 }
