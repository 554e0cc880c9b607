-- What is proved of the rules. proofs/Laws.antt proves each statement; the files that it cites have the parts.
use Rattle.std.specs.Prelude.{ℕ, ◌-◌, ◌^◌, ◌≡◌, ◌⊎◌, ◌↔◌, true, false, List, length, ltb, ℤ, pos, negsuc}
use Rattle.std.proofs.Math.Option.{Option, some}
use Rattle.std.specs.Int.Signed.{mag}
use Rattle.rules.specs.Syntax.{ResolvedType, TypeExpr, run, expr_run, Param, CompiledSchema}
use Rattle.rules.specs.Reader.{many}
use Rattle.rules.specs.ReadTypes.{resolved_type, type_expr}
use Rattle.rules.specs.ReadBodies.{expression, body}
use Rattle.rules.specs.ReadDefinitions.{message, generic_alias, trait, implementation}
use Rattle.rules.specs.Image.{readable}
use Rattle.rules.specs.Types.{same_type, same_return}
use Rattle.rules.specs.Fits.{Signed, Unsigned, takes, range_of}
use Rattle.rules.specs.Substitute.{done, substitute_type}
use Rattle.rules.specs.Output.{functions_words, signatures_words}
use Rattle.rules.specs.Good.{All, AllOption, Good, GoodExpr, Stored}
use Rattle.rules.specs.Exact.{Exact, Few}
use Rattle.rules.specs.Typed.{TypedFunction, TypedSignature, typed_function, typed_signature}
use Rattle.laws.specs.TypeExprs.{StoredExpr}
use Rattle.laws.specs.Visits.{cut, plain_depth}
use Rattle.laws.specs.Runs.{expr_words, body_words, Nested, GoodBody}
use Rattle.laws.specs.DefinitionRuns.{message_words, generic_alias_words, trait_words, implementation_words, GoodMessage, GoodAlias, GoodTrait, GoodImpl}
use Rattle.laws.specs.GoodSchema.{GoodSchema}
use Rattle.laws.specs.Substitution.{Accepted}

-- types that compare equal are one type: comparing runs is comparing trees
abbrev pub TypesTold : Type 0
TypesTold = (names : ℕ) (t u : ResolvedType) → Good names t → Good names u → (same_type t u ≡ true) ↔ (t ≡ u)

abbrev pub ReturnsTold : Type 0
ReturnsTold = (names : ℕ) (t u : Option ResolvedType) → AllOption (Good names) t → AllOption (Good names) u → (same_return t u ≡ true) ↔ (t ≡ u)

-- whatever stands in the pool, and whatever is written to the output, reads back to its tree and to nothing else
pub record ReadBack (names strings : ℕ) : Type 0 where
  pub types : Exact (resolved_type names) run (Stored names)
  pub type_exprs : Exact (type_expr names) expr_run (StoredExpr names)
  pub expressions : Exact (expression names strings) expr_words (Nested names strings 32)
  pub bodies : Exact (body names strings) body_words (GoodBody names strings)
  pub messages : Exact (message names) message_words (GoodMessage names)
  pub aliases : Exact (generic_alias names) generic_alias_words (GoodAlias names)
  pub traits : Exact (trait names) trait_words (GoodTrait names)
  pub implementations : Exact (implementation names strings) implementation_words (GoodImpl names strings)
  pub functions : Exact (many 64 (typed_function names)) functions_words (Few 64 (TypedFunction names))
  pub signatures : Exact (many 64 (typed_signature names)) signatures_words (Few 64 (TypedSignature names))

-- visits stopped at 1,024 on the way are visits counted to the end and compared with 1,024 once
abbrev pub ComparedOnce : Type 0
ComparedOnce = (schema : CompiledSchema) (params : List (Param ResolvedType)) (e : TypeExpr) → substitute_type schema params e ≡ cut (plain_depth schema 1024 params e)

-- an accepted substitution has 1 to 1,024 visits and at most 64 words, and is good where what it reads is
abbrev pub SubstitutionAccepted : Type 0
SubstitutionAccepted =
    (names strings : ℕ) (schema : CompiledSchema) → GoodSchema names strings schema
    → (params : List (Param ResolvedType)) (e : TypeExpr) → All (λ p. Good names p.ty) params → GoodExpr names e
    → (visits : ℕ) (t : ResolvedType) → substitute_type schema params e ≡ done visits t → Accepted visits t × Good names t

-- integer fit over the width: a bound on the magnitude, a bound on the number, no negative number
abbrev pub SignedFit : Type 0
SignedFit = (n : ℕ) (z : ℤ) → takes (Signed n) z ≡ ltb (mag z) (2 ^ (n - 1))

abbrev pub UnsignedFit : Type 0
UnsignedFit = (n x : ℕ) → (takes (Unsigned n) (pos x) ≡ ltb x (2 ^ n)) × (takes (Unsigned n) (negsuc x) ≡ false)

-- signed 1 bit takes -1 and 0 only
abbrev pub OneBit : Type 0
OneBit = (z : ℤ) → takes (range_of (ResolvedType.sub 1 1)) z ≡ true → (z ≡ pos 0) ⊎ (z ≡ negsuc 0)

-- the schema that a readable image holds is good throughout
abbrev pub ReadableGood : Type 0
ReadableGood = (image : List ℕ) (schema : CompiledSchema) → readable image ≡ some schema → GoodSchema (length schema.names) (length schema.strings) schema
