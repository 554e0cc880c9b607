-- Expressions by what they are by themselves.
use Rattle.rules.specs.declared.kinds.ExprKind.{ExprKind}
use Rattle.infer_context.specs.declared.PlaceKind.{PlaceKind}

abbrev pub place_kind : ExprKind → PlaceKind
place_kind ExprKind.Literal = PlaceKind.Nowhere
place_kind ExprKind.Flag = PlaceKind.Nowhere
place_kind ExprKind.Text = PlaceKind.Nowhere
place_kind ExprKind.Local = PlaceKind.Local
place_kind ExprKind.SelfRef = PlaceKind.Own
place_kind ExprKind.FieldAccess = PlaceKind.Field
place_kind ExprKind.Call = PlaceKind.Nowhere
place_kind ExprKind.TraitMethodCall = PlaceKind.Nowhere
place_kind ExprKind.Binary = PlaceKind.Nowhere
place_kind ExprKind.Unary = PlaceKind.Nowhere
place_kind ExprKind.Unknown = PlaceKind.Nowhere
