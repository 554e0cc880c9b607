-- Each wrong projector breaks its promise.
use Prim.Native.Nat.{ℕ}
use mathlib.Core.Path.{◌≡◌, refl, ap, ◌∙◌}
use mathlib.Core.List.{List, [], ◌∷◌}
use mathlib.Core.Option.{some}
use native.Mathlib.Omega.{arith}
use Rattle.rules.specs.Computed.{computed}
use Rattle.rules.specs.Syntax.{Expr, Statement, FnBody}
use Rattle.rules.specs.Types.{BOOL}
use Rattle.rules.specs.Refusal.{Result, ok, err}
use Rattle.rules.specs.Infer.{PortableExprKind, typed}
use Rattle.rules.specs.Bodies.{PortableStatement, PortableFunction}
use Rattle.rules.specs.Image.{readable}
use Rattle.promises.specs.Bare.{bare, SameStatements}
use Rattle.promises.specs.Order.{swap}
use Rattle.promises.specs.Projects.{Projects}
use Rattle.promises.specs.Promises.{SameWordsSameBodies, NoneBeginsAnother, OrderOfListing}
use Rattle.promises.specs.Wrong.{without_values, without_count, in_listing_order}
use Rattle.promises.specs.Sample.{sample, returns, implements, held, two_asked}

-- it holds what it is said to hold
sample_held : readable sample ≡ some held
unfolding computed
sample_held = refl

-- g as typed, in the two implementations of it
abbrev typed_getter : ℕ → ℕ → PortableFunction
typed_getter f b = record { name = f; params = []; return_type = some BOOL; statements = PortableStatement.return (some (typed BOOL (PortableExprKind.bool b))) ∷ [] }

none_projects : Projects sample 3 (implements 1 []) []
unfolding computed
none_projects = record { schema = held; visits = 0; is_schema = sample_held; is_impl = refl; is_projected = refl }

true_projects : Projects sample 4 (implements 2 (returns 0 1 ∷ [])) (typed_getter 0 1 ∷ [])
unfolding computed
true_projects = record { schema = held; visits = 0; is_schema = sample_held; is_impl = refl; is_projected = refl }

false_projects : Projects sample 5 (implements 2 (returns 0 0 ∷ [])) (typed_getter 0 0 ∷ [])
unfolding computed
false_projects = record { schema = held; visits = 0; is_schema = sample_held; is_impl = refl; is_projected = refl }

-- bodies that return different bools are not the same
different : SameStatements (FnBody.block (Statement.return (some (Expr.bool 1)) ∷ [])) (FnBody.block (Statement.return (some (Expr.bool 0)) ∷ [])) → ⊥
different s =
    let l : Statement.return (some (Expr.bool 1)) ∷ [] ≡ s.left = cc in
    let r : s.right ≡ Statement.return (some (Expr.bool 0)) ∷ [] = cc in
    let e : Statement.return (some (Expr.bool 1)) ∷ [] ≡ Statement.return (some (Expr.bool 0)) ∷ [] = ap bare l ∙ s.same ∙ ap bare r in
    let z : ◌≡◌ {A = ℕ} 1 0 = cc in
    omega arith

-- 1: true and false look alike where values are dropped
pub values_dropped : SameWordsSameBodies without_values → ⊥
unfolding computed
values_dropped h = different ((h sample 4 5 _ _ _ _ true_projects false_projects refl).same 0)

-- 2: no function at all begins any output where the count is left out
pub count_left_out : NoneBeginsAnother without_count → ⊥
unfolding computed
count_left_out h =
    let e : ◌≡◌ {A = List ℕ} [] (0 ∷ 0 ∷ 1 ∷ 0 ∷ 1 ∷ 2 ∷ 1 ∷ 0 ∷ 3 ∷ 1 ∷ []) = h sample sample 3 4 _ _ _ _ none_projects true_projects _ refl in
    let z : ◌≡◌ {A = ℕ} 0 1 = cc in
    omega arith

-- the name of what is listed first
first_name : Result (ℕ × List PortableFunction) → ℕ
first_name (ok p) = first p.1
  where
    first : List PortableFunction → ℕ
    first [] = 2
    first (f ∷ fs) = f.name
first_name (err r) = 2

-- 3: two implementations list two functions in two orders, and so do their outputs where they are listed in implementation order
pub listing_order_kept : OrderOfListing in_listing_order → ⊥
unfolding computed first_name
listing_order_kept h =
    let i = implements 1 (returns 0 1 ∷ returns 1 0 ∷ []) in
    let j = implements 1 (returns 1 0 ∷ returns 0 1 ∷ []) in
    let e : in_listing_order two_asked j ≡ in_listing_order two_asked i =
    (h two_asked i j (record { trait_id = refl; target_type = refl; type_args = refl; functions = swap }) (0, typed_getter 0 1 ∷ typed_getter 1 0 ∷ [])).0 refl in
    let z : ◌≡◌ {A = ℕ} 1 0 = ap first_name e in
    omega arith
