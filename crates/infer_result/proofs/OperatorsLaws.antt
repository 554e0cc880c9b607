-- Laws: the end of an operation, by its operand's type.
use Prim.Native.Nat.{ℕ, ◌+◌}
use mathlib.Core.Path.{◌≡◌, ap}
use mathlib.Core.Bool.{Bool, true, false, cond}
use mathlib.Core.List.{◌∷◌}
use mathlib.Core.Option.{Option}
use lib.Dec.{eqb}
use Rattle.rules.specs.Syntax.{ResolvedType, run}
use Rattle.rules.specs.Types.{BOOL, is_signed_numeric, same_type}
use Rattle.rules.specs.Refusal.{err, ensure, ◌>>=◌, with_detail}
use Rattle.rules.specs.Infer.{PortableExprKind, FunctionContext, is_arithmetic, operand_allowed, unary_allowed, ended}
use Rattle.infer_result.specs.Operators.{binary_end, unary_end}

-- which types an operator takes
abbrev by_sign : ResolvedType → Bool → Bool
by_sign t b = elim b as (λ _. Bool) [ true ↦ is_signed_numeric t | false ↦ same_type t BOOL ]

module _ (op : ℕ) (t : ResolvedType) where
  pub allowed_signed : eqb op 0 ≡ true → unary_allowed op t ≡ is_signed_numeric t
  unfolding unary_allowed
  allowed_signed e = ap (by_sign t) e

  pub allowed_bool : eqb op 0 ≡ false → unary_allowed op t ≡ same_type t BOOL
  unfolding unary_allowed
  allowed_bool e = ap (by_sign t) e

-- the end of an operation, by that test
module _ (c : FunctionContext) (op : ℕ) (o : Option ResolvedType) (context : ℕ) (t : ResolvedType) (k : PortableExprKind) where
  pub binary_takes : operand_allowed op t ≡ true → binary_end c op o context t k ≡ ended c o context (cond (is_arithmetic op) t BOOL) k
  unfolding binary_end ensure ◌>>=◌
  binary_takes e = ap (λ (b : Bool). ensure b (with_detail 21 c.function (op ∷ run t)) >>= λ _. ended c o context (cond (is_arithmetic op) t BOOL) k) e

  pub binary_refuses : operand_allowed op t ≡ false → binary_end c op o context t k ≡ err (with_detail 21 c.function (op ∷ run t))
  unfolding binary_end ensure ◌>>=◌
  binary_refuses e = ap (λ (b : Bool). ensure b (with_detail 21 c.function (op ∷ run t)) >>= λ _. ended c o context (cond (is_arithmetic op) t BOOL) k) e

  pub unary_takes : unary_allowed op t ≡ true → unary_end c op o context t k ≡ ended c o context t k
  unfolding unary_end ensure ◌>>=◌
  unary_takes e = ap (λ (b : Bool). ensure b (with_detail 21 c.function ((10 + op) ∷ run t)) >>= λ _. ended c o context t k) e

  pub unary_refuses : unary_allowed op t ≡ false → unary_end c op o context t k ≡ err (with_detail 21 c.function ((10 + op) ∷ run t))
  unfolding unary_end ensure ◌>>=◌
  unary_refuses e = ap (λ (b : Bool). ensure b (with_detail 21 c.function ((10 + op) ∷ run t)) >>= λ _. ended c o context t k) e
