-- What a kind says of its code: a kind that has one code alone has that code.
use Prim.Native.Nat.{ℕ, ◌<◌}
use mathlib.Core.Path.{◌≡◌, refl}
use mathlib.Core.Bool.{Bool, true, false, cond}
use lib.Dec.{ltb, eqb}
use borrow.Author.Tests.{eqb-true, lt-ltb, ltb-true}
use Rattle.rules.specs.Words.{within}
use Rattle.rules.specs.Kinds.{type_kind, expr_kind, statement_kind}
use Rattle.rules.specs.declared.kinds.TypeKind.{TypeKind}
use Rattle.rules.specs.declared.kinds.ExprKind.{ExprKind}
use Rattle.rules.specs.declared.kinds.StatementKind.{StatementKind}

-- down a chain of tests
step : {K : Type 0} (P : K → Type 0) (b : Bool) (x y : K) → (b ≡ true → P x) → P y → P (cond b x y)
step P true x y p q = p refl
step P false x y p q = q

abbrev pub TypeCode : TypeKind → ℕ → Type 0
TypeCode TypeKind.Plain c = Unit {0}
TypeCode TypeKind.Sub c = c ≡ 16
TypeCode TypeKind.Bits c = c ≡ 80
TypeCode TypeKind.Named c = c ≡ 48
TypeCode TypeKind.Qualified c = c ≡ 49
TypeCode TypeKind.Generic c = c ≡ 50
TypeCode TypeKind.One c = Unit {0}
TypeCode TypeKind.Fixed c = c ≡ 66
TypeCode TypeKind.Two c = Unit {0}
TypeCode TypeKind.Unknown c = Unit {0}

pub type_code : (c : ℕ) → TypeCode (type_kind c) c
unfolding type_kind
type_code c =
    step P (ltb c 14) TypeKind.Plain _ (λ e. tt)
    (step P (eqb c 16) TypeKind.Sub _ (λ e. eqb-true c 16 e)
    (step P (within 32 37 c) TypeKind.Plain _ (λ e. tt)
    (step P (eqb c 48) TypeKind.Named _ (λ e. eqb-true c 48 e)
    (step P (eqb c 49) TypeKind.Qualified _ (λ e. eqb-true c 49 e)
    (step P (eqb c 50) TypeKind.Generic _ (λ e. eqb-true c 50 e)
    (step P (eqb c 66) TypeKind.Fixed _ (λ e. eqb-true c 66 e)
    (step P (within 68 69 c) TypeKind.Two _ (λ e. tt)
    (step P (within 64 75 c) TypeKind.One _ (λ e. tt)
    (step P (eqb c 80) TypeKind.Bits TypeKind.Unknown (λ e. eqb-true c 80 e) tt)))))))))
  where
    P : TypeKind → Type 0
    P k = TypeCode k c

abbrev pub ExprCode : ExprKind → ℕ → Type 0
ExprCode ExprKind.Literal c = c < 3
ExprCode ExprKind.Flag c = c ≡ 3
ExprCode ExprKind.Text c = c ≡ 4
ExprCode ExprKind.Local c = c ≡ 5
ExprCode ExprKind.SelfRef c = c ≡ 6
ExprCode ExprKind.FieldAccess c = c ≡ 7
ExprCode ExprKind.Call c = c ≡ 8
ExprCode ExprKind.TraitMethodCall c = c ≡ 9
ExprCode ExprKind.Binary c = c ≡ 10
ExprCode ExprKind.Unary c = c ≡ 11
ExprCode ExprKind.Unknown c = Unit {0}

pub expr_code : (c : ℕ) → ExprCode (expr_kind c) c
unfolding expr_kind
expr_code c =
    step P (ltb c 3) ExprKind.Literal _ (λ e. ltb-true c 3 e)
    (step P (eqb c 3) ExprKind.Flag _ (λ e. eqb-true c 3 e)
    (step P (eqb c 4) ExprKind.Text _ (λ e. eqb-true c 4 e)
    (step P (eqb c 5) ExprKind.Local _ (λ e. eqb-true c 5 e)
    (step P (eqb c 6) ExprKind.SelfRef _ (λ e. eqb-true c 6 e)
    (step P (eqb c 7) ExprKind.FieldAccess _ (λ e. eqb-true c 7 e)
    (step P (eqb c 8) ExprKind.Call _ (λ e. eqb-true c 8 e)
    (step P (eqb c 9) ExprKind.TraitMethodCall _ (λ e. eqb-true c 9 e)
    (step P (eqb c 10) ExprKind.Binary _ (λ e. eqb-true c 10 e)
    (step P (eqb c 11) ExprKind.Unary ExprKind.Unknown (λ e. eqb-true c 11 e) tt)))))))))
  where
    P : ExprKind → Type 0
    P k = ExprCode k c

abbrev pub StatementCode : StatementKind → ℕ → Type 0
StatementCode StatementKind.Expr c = c ≡ 0
StatementCode StatementKind.Let c = c ≡ 1
StatementCode StatementKind.Return c = c ≡ 2
StatementCode StatementKind.Assign c = c ≡ 3
StatementCode StatementKind.Unknown c = Unit {0}

pub statement_code : (c : ℕ) → StatementCode (statement_kind c) c
unfolding statement_kind
statement_code c =
    step P (eqb c 0) StatementKind.Expr _ (λ e. eqb-true c 0 e)
    (step P (eqb c 1) StatementKind.Let _ (λ e. eqb-true c 1 e)
    (step P (eqb c 2) StatementKind.Return _ (λ e. eqb-true c 2 e)
    (step P (eqb c 3) StatementKind.Assign StatementKind.Unknown (λ e. eqb-true c 3 e) tt)))
  where
    P : StatementKind → Type 0
    P k = StatementCode k c

pub literal_kind : (c : ℕ) → c < 3 → expr_kind c ≡ ExprKind.Literal
unfolding expr_kind
literal_kind c h = rw (lt-ltb c 3 h)
