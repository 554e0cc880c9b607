-- An answer with 1,024 visits to start with is the rules'. Assumes nothing.
use Prim.Native.Nat.{ℕ, ◌-◌}
use mathlib.Core.Path.{◌≡◌, refl, sym, ap, subst, ◌∙◌}
use mathlib.Core.Bool.{Bool, true, false}
use mathlib.Core.List.{List}
use native.Mathlib.Omega.{arith}
use borrow.Author.Tests.{lt-leb}
use Rattle.rules.specs.Syntax.{ResolvedType, TypeExpr, Param, CompiledSchema}
use Rattle.rules.specs.Substitute.{Counted, too_large, done, substitute_type}
use Rattle.laws.specs.Visits.{cut, plain_depth}
use Rattle.laws.proofs.Visits.{compared_once}
use Rattle.laws.proofs.Depth.{resolves}
use Rattle.type_words.specs.declared.HeldType.{HeldType}
use Rattle.type_words.specs.Holds.{Holds}
use Rattle.subst_leaves.specs.declared.Resolved.{Resolved}
use Rattle.subst.specs.declared.whole.Substituted.{Substituted}
use Rattle.subst_leaves.specs.Says.{Fails, Says}
use Rattle.std.specs.Prelude.{Some, None}
use Rattle.subst.specs.Answers.{Answers}

-- what passes a bound is too large
cut_fails : (o : Counted ResolvedType) → Fails 1024 o → cut o ≡ too_large
unfolding cut
cut_fails too_large w = refl
cut_fails (done v t) w = ap (λ (b : Bool). elim b as (λ _. Counted ResolvedType) [ true ↦ done v t | false ↦ too_large ]) (lt-leb v 1024 w)

module _ (names n : ℕ) (s : CompiledSchema) (ps : List (Param ResolvedType)) (e : TypeExpr) (r : Resolved) (w : Says names 1024 n (plain_depth s 1024 ps e) r) where
  -- a bound is passed
  pub no_answer : r.ok ≡ false → Answers names n (substitute_type s ps e) None
  unfolding substitute_type
  no_answer z = subst (λ (o : Counted ResolvedType). Answers names n o None) (sym (compared_once s 1024 ps e ∙ cut_fails (plain_depth s 1024 ps e) (w.no z))) refl

  pub answers : r.ok ≡ true → (q : Substituted) → q.visits ≡ 1024 - r.left → q.next ≡ r.next → q.ty ≡ r.ty → Answers names n (substitute_type s ps e) (Some q)
  unfolding substitute_type
  answers z q e₂ e₃ e₄ =
      let a = w.ok z in
      subst (λ (o : Counted ResolvedType). Answers names n o (Some q)) (sym (resolves s 1024 ps e a.visits a.ty a.is (omega (arith, a.spent))))
      (omega (arith, a.spent), e₃ ∙ a.next, subst (λ (h : HeldType). Holds names h a.ty) (sym e₄) a.holds)
