-- What a Let is asked of its name and its value.
use Rattle.std.specs.Prelude.{ℕ, not, List}
use Rattle.answers.specs.declared.answer.Outcome.{Outcome}
use Rattle.infer_result.specs.Says.{Says}
use Rattle.infer_result.specs.declared.inferred.Inferred.{Inferred}
use Rattle.locals.specs.Rows.{Rows}
use Rattle.project_outcome.specs.Outcomes.{test_of, Passes}
use Rattle.rules.specs.Infer.{PortableExpr, find_last}
use Rattle.rules.specs.Options.{is_some}
use Rattle.rules.specs.Refusal.{Result, ◌>>=◌, ensure, with_name}
use Rattle.rules.specs.Syntax.{ResolvedType, Param}
use Rattle.rules.specs.declared.ids.NameId.{NameId}

-- 18: no local in view has this name
abbrev pub no_local : ℕ → ℕ → List (Param ResolvedType) → Result (Unit {0})
no_local f x locals = ensure (not (is_some (find_last x locals))) (with_name 18 f x)

-- 18, or no local in view has that name
abbrev pub TellsLocal : List ℕ → ℕ → NameId → NameId → Outcome → Type 0
TellsLocal names count function name r =
    (rows : ℕ) (words lens : List ℕ) (ps : List (Param ResolvedType)) → Rows rows names words lens count 0 ps
    → Passes (no_local function.0 name.0 ps) r

-- the refusal of a value, or that it has none
abbrev pub ChecksValue : NameId → Inferred → Outcome → Type 0
ChecksValue function r o = (rows : ℕ) (p : Result PortableExpr) → Says rows function.0 p r → Passes (test_of p) o

-- 18, then the value
abbrev pub ChecksLet : List ℕ → ℕ → NameId → NameId → Inferred → Outcome → Type 0
ChecksLet names count function name r o =
    (rows : ℕ) (words lens : List ℕ) (ps : List (Param ResolvedType)) → Rows rows names words lens count 0 ps → (p : Result PortableExpr) → Says rows function.0 p r
    → Passes (no_local function.0 name.0 ps >>= λ _. test_of p) o
