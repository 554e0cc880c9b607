-- The laws hold.
use Prim.Native.Nat.{ℕ}
use mathlib.Core.Path.{◌≡◌, subst}
use mathlib.Core.Bool.{true}
use mathlib.Core.Option.{Option}
use Rattle.rules.specs.Syntax.{ResolvedType}
use Rattle.rules.specs.Types.{same_type, same_return}
use Rattle.rules.proofs.Types.{type_exact}
use Rattle.rules.proofs.TypedRuns.{functions_exact, signatures_exact}
use Rattle.laws.specs.Laws.{TypesTold, ReturnsTold, ReadBack, ComparedOnce, SubstitutionAccepted, SignedFit, UnsignedFit, OneBit, ReadableGood}
use Rattle.laws.proofs.Same.{same_type_true, same_type_self, same_return_true, same_return_self}
use Rattle.laws.proofs.TypeExprs.{type_expr_exact}
use Rattle.laws.proofs.Expressions.{expression_exact}
use Rattle.laws.proofs.Statements.{body_exact}
use Rattle.laws.proofs.Definitions.{message_exact, generic_alias_exact, trait_exact, implementation_exact}
use Rattle.laws.proofs.Depth.{counted_once}
use Rattle.laws.proofs.Substitution as substitution
use Rattle.laws.proofs.Widths as widths
use Rattle.laws.proofs.Schema as schemas

pub types_told : TypesTold
types_told names t u g h = (same_type_true names t u g h, λ e. subst (λ (x : ResolvedType). same_type t x ≡ true) e (same_type_self t))

pub returns_told : ReturnsTold
returns_told names t u g h = (same_return_true names t u g h, λ e. subst (λ (x : Option ResolvedType). same_return t x ≡ true) e (same_return_self t))

pub read_back : (names strings : ℕ) → ReadBack names strings
read_back names strings = record {
  types = type_exact names;
  type_exprs = type_expr_exact names;
  expressions = expression_exact names strings;
  bodies = body_exact names strings;
  messages = message_exact names;
  aliases = generic_alias_exact names;
  traits = trait_exact names;
  implementations = implementation_exact names strings;
  functions = functions_exact names;
  signatures = signatures_exact names;
}

pub compared_once : ComparedOnce
compared_once = counted_once

pub substitution_accepted : SubstitutionAccepted
substitution_accepted names strings schema s params e h g = (substitution.substitute_good names strings schema s params e h g).holds

pub signed_fit : SignedFit
signed_fit = widths.takes_signed

pub unsigned_fit : UnsignedFit
unsigned_fit n x = (widths.takes_unsigned n x, widths.takes_unsigned_neg n x)

pub one_bit : OneBit
one_bit = widths.bit_only

pub readable_good : ReadableGood
readable_good = schemas.readable_good
