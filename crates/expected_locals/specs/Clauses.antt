-- Contracts that are too long for a line, each called after its function.
use Rattle.std.specs.Prelude.{ℕ, List, Option}
use Rattle.std.proofs.Math.Option.{Option as Maybe}
use Rattle.expected_signature.specs.Here.{ParamsHere}
use Rattle.image_layout.specs.declared.Layout.{Layout}
use Rattle.locals.specs.Rows.{Row, Rows}
use Rattle.rules.specs.Output.{param_words, listed, signature_words}
use Rattle.rules.specs.Signatures.{resolve_params}
use Rattle.rules.specs.Syntax.{ResolvedType, Param}
use Rattle.rules.specs.declared.ids.NameId.{NameId}
use Rattle.type_words.specs.Holds.{MaybeHolds}
use Rattle.type_words.specs.declared.MaybeType.{MaybeType}
use Rattle.write_words.specs.Written.{Written}
use Rattle.expected_locals.specs.Entered.{EnteredSays}
use Rattle.expected_locals.specs.declared.Entered.{Entered}

-- the parameters resolved and in the table, or nothing where a bound is passed
abbrev pub EntersParams : Layout → ℕ → List ℕ → List ℕ → List ℕ → List ℕ → Option Entered → Type 0
EntersParams l at params names' words' lens' r =
    (h : ParamsHere l params at) → EnteredSays l.names.rows (resolve_params h.schema h.seen h.tree) h.behind names' words' lens' r

-- the words of the parameter in row i
abbrev pub PutsParam : List ℕ → List ℕ → List ℕ → ℕ → List ℕ → List ℕ → ℕ → ℕ → ℕ → Type 0
PutsParam names words lens i out out' limit to r =
    (rows : ℕ) (p : Param ResolvedType) → Row rows names words lens i p → Written limit to (param_words p) out r out'

-- the count and the words of the parameters in the table
abbrev pub PutsParams : List ℕ → List ℕ → List ℕ → ℕ → List ℕ → List ℕ → ℕ → ℕ → ℕ → Type 0
PutsParams names words lens count out out' limit to r =
    (rows : ℕ) (ps : List (Param ResolvedType)) → Rows rows names words lens count 0 ps → Written limit to (listed param_words ps) out r out'

-- the words of the signature that is held
abbrev pub PutsSignature : NameId → List ℕ → List ℕ → List ℕ → ℕ → MaybeType → List ℕ → List ℕ → ℕ → ℕ → ℕ → Type 0
PutsSignature name names words lens count returns out out' limit to r =
    (rows : ℕ) (ps : List (Param ResolvedType)) (o : Maybe ResolvedType) → Rows rows names words lens count 0 ps → MaybeHolds rows returns o
    → Written limit to (signature_words name.0 ps o) out r out'
