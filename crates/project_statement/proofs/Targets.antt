-- What an assignment's target names, by the codes that stand there.
use Prim.Native.Nat.{ℕ, ◌+◌, ◌-◌, ◌<◌}
use mathlib.Core.Path.{◌≡◌, refl, sym, ap, ◌∙◌}
use mathlib.Core.List.{List}
use lib.ListN.{length, get_or}
use Rattle.rules.specs.Syntax.{Expr}
use Rattle.rules.specs.Kinds.{expr_kind}
use Rattle.rules.specs.Refusal.{ok, err, in_function}
use Rattle.rules.specs.Infer.{Place, of_local, of_self, of_field, nowhere, field_of, place}
use Rattle.rules.specs.Bodies.{assigned_field}
use Rattle.rules.specs.declared.kinds.ExprKind.{ExprKind}
use Rattle.rules.proofs.Clash.{clash}
use Rattle.laws.specs.Runs.{expr_words}
use Rattle.pool_expressions.proofs.ExprAt.{value_shape}
use Rattle.image_words.proofs.Heads.{head}
use Rattle.infer_context.specs.Stood.{Stood}
use Rattle.infer_context.proofs.Nodes.{node, by_code, field_word, receiver}
use Rattle.rules.specs.declared.ids.NameId.{NameId}
use Rattle.std.specs.Prelude.{Some, None}
use Rattle.project_statement.specs.Targets.{FieldAgrees}

module _ (f : ℕ) where
  no_target : (e : Expr) → (value_shape e ≡ ExprKind.FieldAccess → ⊥) → assigned_field f (place e) ≡ err (in_function 19 f)
  unfolding place assigned_field
  no_target (Expr.literal c low high) q = refl
  no_target (Expr.bool b) q = refl
  no_target (Expr.string s) q = refl
  no_target (Expr.local x) q = refl
  no_target Expr.self_ref q = refl
  no_target (Expr.field_access x e) q = absurd (q refl)
  no_target (Expr.call x es) q = refl
  no_target (Expr.trait_method_call t x e es) q = refl
  no_target (Expr.binary op d e) q = refl
  no_target (Expr.unary op e) q = refl

  -- a field of a field is none
  deeper : (g h : ℕ) (p : Place) → assigned_field f (field_of g (field_of h p)) ≡ err (in_function 19 f)
  unfolding field_of assigned_field
  deeper g h (of_local x) = refl
  deeper g h of_self = refl
  deeper g h (of_field x) = refl
  deeper g h nowhere = refl

  no_receiver : (x : ℕ) (e : Expr) → (value_shape e ≡ ExprKind.SelfRef → ⊥) → assigned_field f (place (Expr.field_access x e)) ≡ err (in_function 19 f)
  unfolding place field_of assigned_field
  no_receiver x (Expr.literal c low high) q = refl
  no_receiver x (Expr.bool b) q = refl
  no_receiver x (Expr.string s) q = refl
  no_receiver x (Expr.local y) q = refl
  no_receiver x Expr.self_ref q = absurd (q refl)
  no_receiver x (Expr.field_access y e) q = deeper x y (place e)
  no_receiver x (Expr.call y es) q = refl
  no_receiver x (Expr.trait_method_call t y e es) q = refl
  no_receiver x (Expr.binary op d e) q = refl
  no_receiver x (Expr.unary op e) q = refl

  of_receiver : (x : ℕ) (e : Expr) → value_shape e ≡ ExprKind.SelfRef → assigned_field f (place (Expr.field_access x e)) ≡ ok x
  unfolding place field_of assigned_field
  of_receiver x (Expr.literal c low high) q = clash (cc)
  of_receiver x (Expr.bool b) q = clash (cc)
  of_receiver x (Expr.string s) q = clash (cc)
  of_receiver x (Expr.local y) q = clash (cc)
  of_receiver x Expr.self_ref q = refl
  of_receiver x (Expr.field_access y e) q = clash (cc)
  of_receiver x (Expr.call y es) q = clash (cc)
  of_receiver x (Expr.trait_method_call t y e es) q = clash (cc)
  of_receiver x (Expr.binary op d e) q = clash (cc)
  of_receiver x (Expr.unary op e) q = clash (cc)

module _ {names strings : ℕ} {ws : List ℕ} {nest at n : ℕ} (f : ℕ) where
  -- no field access
  pub at_none : (get_or ws at 0 ≡ 7 → ⊥) → (e : Expr) → Stood names strings ws nest e at n → FieldAgrees f (assigned_field f (place e)) None
  unfolding expr_words
  at_none q e s =
      rw (no_target f e (λ i. q (by_code (λ e. Stood names strings ws nest e at n → get_or ws at 0 ≡ 7) ((node e s).1 ∙ i) (λ x d s. head s.words_at) e s s))) (refl, refl)

  module _ (q : get_or ws at 0 ≡ 7) (j : ℕ) (is : at + 1 < length ws → j ≡ at + 1 + 1) where
    -- of what is no SelfRef
    pub at_other : (get_or ws j 0 ≡ 6 → ⊥) → (e : Expr) → Stood names strings ws nest e at n → FieldAgrees f (assigned_field f (place e)) None
    unfolding expr_kind expr_words
    at_other i e s =
        by_code (λ e. Stood names strings ws nest e at n → FieldAgrees f (assigned_field f (place e)) None) {k = ExprKind.FieldAccess} (ap expr_kind q)
        (λ x d s. rw (no_receiver f x d (λ z. i (ap (λ (k : ℕ). get_or ws k 0) (is (field_word x d s).0)
        ∙ by_code (λ e. Stood names strings ws (nest - 1) e (at + 1 + 1) n → get_or ws (at + 1 + 1) 0 ≡ 6) ((node d (receiver x d s)).1 ∙ z) (λ s. head s.words_at) d (receiver x d s) (receiver x d s)))) (refl, refl)) e s s

    -- of SelfRef
    pub at_self : get_or ws j 0 ≡ 6 → (d : NameId) → (at < length ws → d.0 ≡ get_or ws (at + 1) 0) → (e : Expr) → Stood names strings ws nest e at n → FieldAgrees f (assigned_field f (place e)) (Some d)
    unfolding expr_kind
    at_self i r w e s =
        by_code (λ e. Stood names strings ws nest e at n → FieldAgrees f (assigned_field f (place e)) (Some r)) {k = ExprKind.FieldAccess} (ap expr_kind q)
        (λ x d s. rw (of_receiver f x d (sym (node d (receiver x d s)).1 ∙ ap (λ (k : ℕ). expr_kind (get_or ws k 0)) (sym (is (field_word x d s).0)) ∙ ap expr_kind i))
        (w (node (Expr.field_access x d) s).0 ∙ (field_word x d s).1)) e s s
