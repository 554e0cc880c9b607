-- Two implementations that list the same functions in any order.
use Rattle.std.specs.Prelude.{◌≡◌, List, ◌∷◌}
use Rattle.rules.specs.Syntax.{ImplFnDef, ImplDef}

-- the same functions in any order: neighbours change places, as often as one likes
pub data Reordered : List ImplFnDef → List ImplFnDef → Type 0 where
  same : {fs : List ImplFnDef} → Reordered fs fs
  swap : {f g : ImplFnDef} {fs : List ImplFnDef} → Reordered (f ∷ g ∷ fs) (g ∷ f ∷ fs)
  keep : {f : ImplFnDef} {fs gs : List ImplFnDef} → Reordered fs gs → Reordered (f ∷ fs) (f ∷ gs)
  both : {fs gs hs : List ImplFnDef} → Reordered fs gs → Reordered gs hs → Reordered fs hs

-- the same trait number, target and type arguments, and the same functions in any order; the trait's name may differ
pub record Relisted (i j : ImplDef) : Type 0 where
  pub trait_id : i.trait_id ≡ j.trait_id
  pub target_type : i.target_type ≡ j.target_type
  pub type_args : i.type_args ≡ j.type_args
  pub functions : Reordered i.functions j.functions
