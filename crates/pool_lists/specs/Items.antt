-- The rules' readers of what is listed, by the item; over the number of name rows.
use Rattle.std.specs.Prelude.{ℕ}
use Rattle.rules.specs.Syntax.{ResolvedType, TypeExpr, Param}
use Rattle.rules.specs.Reader.{Reader}
use Rattle.rules.specs.ReadTypes.{resolved_type, type_expr, param}
use Rattle.pool_lists.specs.declared.Form.{Form}
use Rattle.pool_lists.specs.declared.Item.{Item}

-- a type in a form
abbrev pub Typed : Form → Type 0
Typed Form.Resolved = ResolvedType
Typed Form.Expression = TypeExpr

abbrev pub typed : (f : Form) → ℕ → Reader (Typed f)
typed Form.Resolved names = resolved_type names
typed Form.Expression names = type_expr names

-- an item
abbrev pub Thing : Item → Type 0
Thing Item.Type = ResolvedType
Thing (Item.Named f) = Param (Typed f)

abbrev pub item_reader : (i : Item) → ℕ → Reader (Thing i)
item_reader Item.Type names = resolved_type names
item_reader (Item.Named f) names = param names (typed f names)
