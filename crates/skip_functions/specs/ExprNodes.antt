-- The nodes of expressions, by the kind of their code: their own words and their parts.
use Rattle.std.specs.Prelude.{ℕ, ◌+◌}
use Rattle.rules.specs.declared.kinds.ExprKind.{ExprKind}
use Rattle.skip_types.specs.declared.Node.{Node}

-- v and w are the words two and three behind the code: a call's and a trait method call's number of arguments
abbrev pub expr_node : ExprKind → ℕ → ℕ → Node
expr_node ExprKind.Literal v w = record { words = 3; parts = 0 }
expr_node ExprKind.Flag v w = record { words = 2; parts = 0 }
expr_node ExprKind.Text v w = record { words = 2; parts = 0 }
expr_node ExprKind.Local v w = record { words = 2; parts = 0 }
expr_node ExprKind.SelfRef v w = record { words = 1; parts = 0 }
expr_node ExprKind.FieldAccess v w = record { words = 2; parts = 1 }
expr_node ExprKind.Call v w = record { words = 3; parts = v }
expr_node ExprKind.TraitMethodCall v w = record { words = 4; parts = 1 + w }
expr_node ExprKind.Binary v w = record { words = 2; parts = 2 }
expr_node ExprKind.Unary v w = record { words = 2; parts = 1 }
expr_node ExprKind.Unknown v w = record { words = 1; parts = 0 }
