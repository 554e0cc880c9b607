-- The type that an expression has with none expected, if it is accepted: found along its left spine.
use Rattle.std.specs.Prelude.{ℕ, cond}
use Rattle.std.proofs.Math.Option.{none}
use Rattle.rules.specs.Syntax.{ResolvedType, Expr}
use Rattle.rules.specs.Types.{BOOL, STRING, VOID}
use Rattle.rules.specs.Fits.{literal_own}
use Rattle.rules.specs.Options.{or}
use Rattle.rules.specs.Infer.{FunctionContext, is_arithmetic, expression_hint, binary_hint}

module _ (c : FunctionContext) where
  unfoldable pub foretold : Expr → ResolvedType
  foretold (Expr.literal k low high) = literal_own k
  foretold (Expr.bool b) = BOOL
  foretold (Expr.string s) = STRING
  foretold (Expr.local x) = or (expression_hint c (Expr.local x)) VOID
  foretold Expr.self_ref = or (expression_hint c Expr.self_ref) VOID
  foretold (Expr.field_access f e) = or (expression_hint c (Expr.field_access f e)) VOID
  foretold (Expr.call f es) = VOID
  foretold (Expr.trait_method_call t m e es) = VOID
  foretold (Expr.binary op l r) = cond (is_arithmetic op) (or (binary_hint c op l r none) (foretold l)) BOOL
  foretold (Expr.unary op e) = foretold e

  -- the type of a binary's left, from the type t that the binary has
  unfoldable pub left_type : ℕ → Expr → Expr → ResolvedType → ResolvedType
  left_type op l r t = or (binary_hint c op l r none) (cond (is_arithmetic op) t (foretold l))
