-- The codes of types, expressions, statements and definitions, each of one kind.
use Rattle.std.specs.Prelude.{ℕ, cond, ltb, eqb}
use Rattle.rules.specs.Words.{within}
use Rattle.rules.specs.declared.kinds.TypeKind.{TypeKind}
use Rattle.rules.specs.declared.kinds.ExprKind.{ExprKind}
use Rattle.rules.specs.declared.kinds.StatementKind.{StatementKind}
use Rattle.rules.specs.declared.kinds.DefinitionKind.{DefinitionKind}

-- 0 to 13 primitives, 16 sub-byte, 32 to 37 semantic, 48 Named, 49 Qualified, 50 Generic, 64 to 75 from Optional to Mat4, 80 BitsInline
unfoldable pub type_kind : ℕ → TypeKind
type_kind c =
    cond (ltb c 14) TypeKind.Plain
    (cond (eqb c 16) TypeKind.Sub
    (cond (within 32 37 c) TypeKind.Plain
    (cond (eqb c 48) TypeKind.Named
    (cond (eqb c 49) TypeKind.Qualified
    (cond (eqb c 50) TypeKind.Generic
    (cond (eqb c 66) TypeKind.Fixed
    (cond (within 68 69 c) TypeKind.Two
    (cond (within 64 75 c) TypeKind.One
    (cond (eqb c 80) TypeKind.Bits TypeKind.Unknown)))))))))

-- 0 Int, 1 UInt, 2 Float; 3 Bool; 4 String; 5 Local; 6 SelfRef; 7 FieldAccess; 8 Call; 9 TraitMethodCall; 10 Binary; 11 Unary
unfoldable pub expr_kind : ℕ → ExprKind
expr_kind c =
    cond (ltb c 3) ExprKind.Literal
    (cond (eqb c 3) ExprKind.Flag
    (cond (eqb c 4) ExprKind.Text
    (cond (eqb c 5) ExprKind.Local
    (cond (eqb c 6) ExprKind.SelfRef
    (cond (eqb c 7) ExprKind.FieldAccess
    (cond (eqb c 8) ExprKind.Call
    (cond (eqb c 9) ExprKind.TraitMethodCall
    (cond (eqb c 10) ExprKind.Binary
    (cond (eqb c 11) ExprKind.Unary ExprKind.Unknown)))))))))

-- 0 Expr, 1 Let, 2 Return, 3 Assign
unfoldable pub statement_kind : ℕ → StatementKind
statement_kind c =
    cond (eqb c 0) StatementKind.Expr
    (cond (eqb c 1) StatementKind.Let
    (cond (eqb c 2) StatementKind.Return
    (cond (eqb c 3) StatementKind.Assign StatementKind.Unknown)))

-- 0 other, 1 message, 2 generic alias, 3 trait, 4 implementation
unfoldable pub definition_kind : ℕ → DefinitionKind
definition_kind c =
    cond (eqb c 0) DefinitionKind.Other
    (cond (eqb c 1) DefinitionKind.Message
    (cond (eqb c 2) DefinitionKind.GenericAlias
    (cond (eqb c 3) DefinitionKind.Trait
    (cond (eqb c 4) DefinitionKind.Implementation DefinitionKind.Unknown))))
