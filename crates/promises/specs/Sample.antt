-- A small image: a message, a trait with no function and one with a function, and implementations of both.
use Rattle.std.specs.Prelude.{ℕ, List, [], ◌∷◌, ◌++◌}
use Rattle.std.proofs.Math.Option.{none, some}
use Rattle.rules.specs.Words.{NONE, bytes_of}
use Rattle.rules.specs.Types.{BOOL}
use Rattle.rules.specs.Syntax.{ResolvedType, Expr, Statement, FnBody, Name, ImplFnDef, TraitReturn, TraitFnDef, TypeDef, TraitDef, ImplDef, CompiledSchema}

-- names g (0), T (1), M (2)
abbrev pub texts : List ℕ
texts = 103 ∷ 84 ∷ 77 ∷ []

-- the name rows; in the pool M's fields, T with no function, T with g that returns a bool, then the implementations of no function, of g as true, of g as false; definitions; trailer
abbrev pub sections : List ℕ
sections =
    0 ∷ 1 ∷ NONE ∷ NONE ∷ 1 ∷ 1 ∷ NONE ∷ NONE ∷ 2 ∷ 1 ∷ NONE ∷ NONE
    ∷ 0
    ∷ 1 ∷ 0 ∷ 0
    ∷ 1 ∷ 0 ∷ 1 ∷ 0 ∷ 0 ∷ 1 ∷ 0
    ∷ 1 ∷ 1 ∷ 48 ∷ 0 ∷ 0 ∷ 0
    ∷ 2 ∷ 1 ∷ 48 ∷ 0 ∷ 0 ∷ 1 ∷ 0 ∷ 0 ∷ 1 ∷ 0 ∷ 1 ∷ 1 ∷ 2 ∷ 1 ∷ 3 ∷ 1
    ∷ 2 ∷ 1 ∷ 48 ∷ 0 ∷ 0 ∷ 1 ∷ 0 ∷ 0 ∷ 1 ∷ 0 ∷ 1 ∷ 1 ∷ 2 ∷ 1 ∷ 3 ∷ 0
    ∷ 1 ∷ 0 ∷ 3 ∷ 1 ∷ 3 ∷ 4 ∷ 4 ∷ 11 ∷ 4 ∷ 17 ∷ 4 ∷ 33
    ∷ 3 ∷ 51 ∷ 51 ∷ 247 ∷ 1 ∷ 319 ∷ []

abbrev pub sample : List ℕ
sample = texts ++ bytes_of sections

-- a function of no parameters that returns a bool, by its name
abbrev pub returns : ℕ → ℕ → ImplFnDef
returns f b = record { name = f; params = []; return_type = some BOOL; body = FnBody.block (Statement.return (some (Expr.bool b)) ∷ []) }

abbrev pub implements : ℕ → List ImplFnDef → ImplDef
implements trait fs = record { trait_id = trait; trait_name = 1; target_type = ResolvedType.named 0; type_args = []; functions = fs }

abbrev pub asks : List TraitFnDef → TraitDef
asks fs = record { name = 1; type_params = []; functions = fs }

abbrev pub getter : ℕ → TraitFnDef
getter f = record { name = f; params = []; return_type = TraitReturn.resolved BOOL }

abbrev pub named : ℕ → Name
named letter = record { text = letter ∷ []; definition = NONE; alias = none }

-- what the image holds
abbrev pub held : CompiledSchema
held = record {
  names = named 103 ∷ named 84 ∷ named 77 ∷ [];
  strings = [];
  definitions = TypeDef.message (record { fields = [] }) ∷ TypeDef.trait (asks []) ∷ TypeDef.trait (asks (getter 0 ∷ []))
      ∷ TypeDef.implementation (implements 1 []) ∷ TypeDef.implementation (implements 2 (returns 0 1 ∷ [])) ∷ TypeDef.implementation (implements 2 (returns 0 0 ∷ [])) ∷ [];
}

-- a schema whose trait asks for two functions
abbrev pub two_asked : CompiledSchema
two_asked = record { names = []; strings = []; definitions = TypeDef.message (record { fields = [] }) ∷ TypeDef.trait (asks (getter 0 ∷ getter 1 ∷ [])) ∷ [] }
