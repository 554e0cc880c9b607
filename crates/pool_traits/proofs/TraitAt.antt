-- Laws: which trait, and which function of one, stands where among some words. Assumes nothing.
use Prim.Native.Nat.{ℕ, ◌+◌}
use mathlib.Core.Path.{◌≡◌, refl, ◌∙◌}
use mathlib.Core.List.{List}
use native.Mathlib.Omega.{arith}
use lib.Dec.{eqb}
use borrow.Author.Tests.{eqb-true, eqb-false}
use Rattle.rules.specs.ReadDefinitions.{trait_return, trait_function, trait}
use Rattle.laws.proofs.Definitions.{trait_function_exact, trait_exact}
use Rattle.image_words.proofs.Gives.{Gives, then, given, rule_then, below_then, below_gives, many_gives, either}
use Rattle.image_words.specs.Gives.{BelowAt}
use Rattle.image_words.proofs.Stands.{held_gives}
use Rattle.pool_types.proofs.TypeAt.{type_gives}
use Rattle.pool_type_exprs.specs.TypeExprAt.{TypeExprStands}
use Rattle.pool_type_exprs.proofs.TypeExprAt.{type_expr_gives}
use Rattle.pool_types.proofs.ParamAt.{param_gives}
use Rattle.pool_traits.specs.TraitAt.{TraitReturnAt, TraitFunctionAt, TraitFunctionStands, TraitAt, TraitStands}

-- over the number of name rows and the words
module _ (names : ℕ) (ws : List ℕ) where
  return_gives : (at : ℕ) → Gives (trait_return names) ws at (λ r n. TraitReturnAt names ws r at n)
  unfolding trait_return
  return_gives at = below_then (λ c i l. either (eqb c 0)
      (λ e. given _ (record { inside = i.inside; is = i.is ∙ eqb-true c 0 e }, refl))
      (λ z. either (eqb c 1)
      (λ e. then (type_gives names ws (at + 1)) (λ t n h. given _ (record { inside = i.inside; is = i.is ∙ eqb-true c 1 e }, h)))
      (λ e. let two : c ≡ 2 = omega (arith, eqb-false c 0 z, eqb-false c 1 e) in
      then (type_expr_gives names ws (at + 1)) (λ t n h. given _ (record { inside = i.inside; is = i.is ∙ two }, h)))))

  pub trait_function_gives : (at : ℕ) → Gives (trait_function names) ws at (λ f n. TraitFunctionStands names ws f at n)
  unfolding trait_function
  trait_function_gives at = held_gives (TraitFunctionAt names ws) (trait_function_exact names) ws at
      (below_then (λ x i l. then (many_gives _ (param_gives names ws (TypeExprStands names ws) (type_expr_gives names ws)) 32 (at + 1)) (λ ps m h. then (return_gives m) (λ r n j.
      given _ (record { name_at = i; name_below = l; params_end = m; params_at = h; return_at = j })))))

  pub trait_gives : (at : ℕ) → Gives (trait names) ws at (λ t n. TraitStands names ws t at n)
  unfolding trait
  trait_gives at = held_gives (TraitAt names ws) (trait_exact names) ws at
      (below_then (λ x i l. then (many_gives (BelowAt ws names) (below_gives names ws) 8 (at + 1)) (λ ps m h. then (many_gives (TraitFunctionStands names ws) trait_function_gives 64 m) (λ fs n j. rule_then _ _ (λ e.
      given _ (record { name_at = i; name_below = l; type_params_end = m; type_params_at = h; functions_at = j; different = e }))))))
