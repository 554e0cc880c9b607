-- Three wrong projectors, one for each promise that it breaks.
use Rattle.std.specs.Prelude.{ℕ, true, false, List, [], ◌∷◌, ◌++◌, eqb}
use Rattle.std.proofs.Math.Option.{none, some}
use Rattle.rules.specs.Syntax.{run, ImplFnDef, ImplDef, CompiledSchema}
use Rattle.rules.specs.Refusal.{Result, ok, ◌>>=◌}
use Rattle.rules.specs.Bodies.{PortableStatement, PortableFunction}
use Rattle.rules.specs.Project.{project_impl}
use Rattle.rules.specs.Output.{each, listed, signature_words, function_words}

-- a statement's words with its value left out
abbrev pub valueless : PortableStatement → List ℕ
valueless (PortableStatement.let_local x t e) = 1 ∷ x ∷ run t
valueless (PortableStatement.return none) = 2 ∷ 0 ∷ []
valueless (PortableStatement.return (some e)) = 2 ∷ 1 ∷ []
valueless (PortableStatement.assign_self_field f e) = 3 ∷ f ∷ []

-- drops each statement's value
abbrev pub without_values : List PortableFunction → List ℕ
without_values fs = listed (λ f. signature_words f.name f.params f.return_type ++ listed valueless f.statements) fs

-- leaves out the function count
abbrev pub without_count : List PortableFunction → List ℕ
without_count fs = each function_words fs

-- the typed function of a name before some others
abbrev pub put_first : ℕ → List PortableFunction → List PortableFunction → List PortableFunction
put_first x [] others = others
put_first x (f ∷ fs) others = elim (eqb x f.name) [ true ↦ f ∷ others | false ↦ put_first x fs others ]

abbrev pub as_listed : List ImplFnDef → List PortableFunction → List PortableFunction
as_listed [] fs = []
as_listed (g ∷ gs) fs = put_first g.name fs (as_listed gs fs)

-- lists functions in implementation order
abbrev pub in_listing_order : CompiledSchema → ImplDef → Result (ℕ × List PortableFunction)
in_listing_order schema impl = project_impl schema impl >>= λ p. ok (p.0, as_listed impl.functions p.1)
