-- One step of the check: a parameter, its name and then its type.
use Rattle.std.specs.Prelude.{ℕ, [], ◌∷◌, eqb}
use Rattle.rules.specs.Syntax.{ResolvedType, run, Param}
use Rattle.rules.specs.Types.{same_type}
use Rattle.rules.specs.Refusal.{Result, ◌>>=◌, ensure, with_detail}
use Rattle.check_types.specs.Details.{type_detail}

-- the names of a parameter
abbrev pub check_name : ℕ → ℕ → ℕ → Result (Unit {0})
check_name f expected actual = ensure (eqb actual expected) (with_detail 6 f (2 ∷ expected ∷ actual ∷ []))

-- its types, under the expected name
abbrev pub check_type : ℕ → ℕ → ResolvedType → ResolvedType → Result (Unit {0})
check_type f name expected actual = ensure (same_type actual expected) (type_detail f name (run expected) (run actual))

-- one actual and one expected parameter: name, then type
unfoldable pub check_param : ℕ → Param ResolvedType → Param ResolvedType → Result (Unit {0})
check_param f a e = do
  _ ← check_name f e.name a.name
  check_type f e.name e.ty a.ty
