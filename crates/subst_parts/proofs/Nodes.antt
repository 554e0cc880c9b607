-- From the kind of the code to the node that stands there, and from a node to the whole expression. Assumes nothing.
use Prim.Native.Nat.{ℕ, zero, suc, ◌-◌, ◌<◌, ◌≤◌}
use mathlib.Core.Path.{◌≡◌, refl, sym, subst, ◌∙◌}
use mathlib.Core.Bool.{false}
use mathlib.Core.List.{List}
use native.Mathlib.Omega.{arith}
use native.Mathlib.Decide.{dec_le}
use lib.ListN.{length, get_or}
use Rattle.rules.specs.Syntax.{ResolvedType, TypeExpr, Param, CompiledSchema}
use Rattle.rules.specs.Kinds.{type_kind}
use Rattle.rules.specs.Substitute.{Counted, too_large, done}
use Rattle.rules.specs.declared.kinds.TypeKind.{TypeKind}
use Rattle.laws.specs.Visits.{plain_node, plain_depth}
use Rattle.laws.proofs.Depth.{enough}
use Rattle.image_layout.specs.declared.Layout.{Layout}
use Rattle.image_layout.specs.Open.{pool_words}
use Rattle.type_from_pool.proofs.Heads.{expr_head, expr_inside}
use Rattle.pool_type_exprs.proofs.TypeExprAt.{expr_shape}
use Rattle.subst_leaves.specs.declared.Resolved.{Resolved}
use Rattle.subst_leaves.specs.Says.{Fails, Says}
use Rattle.subst_leaves.specs.Nodes.{At, Each, Substitutes, Leaves, Names, Qualifieds, Ones, Fixeds, Twos, Generics}
use Rattle.subst_leaves.proofs.Steps.{says_no}
use Rattle.subst_leaves.proofs.Parts.{Form, form}

-- with no visit left nothing is done
fails_none : (s : CompiledSchema) (f : ℕ) (ps : List (Param ResolvedType)) (e : TypeExpr) → Fails 0 (plain_depth s f ps e)
unfolding plain_depth
fails_none s f ps e = go (plain_depth s f ps e) refl
  where
    few : (v : ℕ) (t : ResolvedType) → plain_depth s f ps e ≡ done v t → Dec (v ≤ 0) → 0 < v
    few v t q (yes l) = absurd (let w : too_large ≡ done v t = enough s f 0 ps e v t q l in let z : ◌≡◌ {A = ℕ} 0 1 = cc in omega arith)
    few v t q (no l) = omega arith

    go : (o : Counted ResolvedType) → plain_depth s f ps e ≡ o → Fails 0 o
    go too_large q = tt
    go (done v t) q = few v t q (dec_le v 0)

module _ (l : Layout) (at left : ℕ) (params : List ℕ) (r : Resolved) where
  pub of_none : left ≡ 0 → r.ok ≡ false → Substitutes l at left params r
  of_none z e s o f le ps w x n a = says_no l.names.rows left n _ r e (subst (λ (k : ℕ). Fails k (plain_depth s f ps x)) (sym z) (fails_none s f ps x))

  -- nothing stands past the pool's end
  pub of_past : length (pool_words l) ≤ at → Substitutes l at left params r
  of_past h s o f le ps w x n a = absurd (omega (arith, expr_inside x a.run_at))

  -- a node by its form, whose visit is taken off
  abbrev ByForm : TypeKind → Type 0
  ByForm k = Each l at (left - 1) params r (λ s f ps. (e : TypeExpr) → Form k e → (n : ℕ) → At l at (left - 1) e n → Says l.names.rows (suc (left - 1)) n (plain_node s (plain_depth s f) ps e) r)

  module _ (k : TypeKind) (z : left ≡ 0 → ⊥) (is : type_kind (get_or (pool_words l) at 0) ≡ k) where
    of_node : ByForm k → Substitutes l at left params r
    unfolding plain_depth
    of_node h s o zero le ps w e n a = absurd (z (omega arith))
    of_node h s o (suc f) le ps w e n a =
        let shape : expr_shape e ≡ k = sym (expr_head l.names.rows e a.stored.good a.run_at) ∙ is in
        let q : Form k e = subst (λ (k : TypeKind). Form k e) shape (form l.names.rows e a.stored.good) in
        let m : suc (left - 1) ≡ left = omega arith in
        subst (λ (v : ℕ). Says l.names.rows v n (plain_node s (plain_depth s f) ps e) r) m (h s o f (omega arith) ps w e q n a)

  module _ (z : left ≡ 0 → ⊥) where
    abbrev Node : CompiledSchema → ℕ → List (Param ResolvedType) → TypeExpr → Type 0
    Node s f ps e = (n : ℕ) → At l at (left - 1) e n → Says l.names.rows (suc (left - 1)) n (plain_node s (plain_depth s f) ps e) r

    leaves : Leaves l at (left - 1) r → (s : CompiledSchema) (f : ℕ) (ps : List (Param ResolvedType)) (e : TypeExpr) → (t : ResolvedType) × (TypeExpr.leaf t ≡ e) → Node s f ps e
    unfolding plain_node
    leaves h s f ps e q = subst (Node s f ps) q.1 (λ n a. h q.0 n a)

    pub of_plain : type_kind (get_or (pool_words l) at 0) ≡ TypeKind.Plain → Leaves l at (left - 1) r → Substitutes l at left params r
    of_plain is h = of_node TypeKind.Plain z is (λ s o f le ps w e q. leaves h s f ps e q)

    pub of_sub : type_kind (get_or (pool_words l) at 0) ≡ TypeKind.Sub → Leaves l at (left - 1) r → Substitutes l at left params r
    of_sub is h = of_node TypeKind.Sub z is (λ s o f le ps w e q. leaves h s f ps e q)

    pub of_bits : type_kind (get_or (pool_words l) at 0) ≡ TypeKind.Bits → Leaves l at (left - 1) r → Substitutes l at left params r
    of_bits is h = of_node TypeKind.Bits z is (λ s o f le ps w e q. leaves h s f ps e q)

    pub of_named : type_kind (get_or (pool_words l) at 0) ≡ TypeKind.Named → Names l at (left - 1) params r → Substitutes l at left params r
    unfolding plain_node
    of_named is h = of_node TypeKind.Named z is (λ s o f le ps w e q. subst (Node s f ps) q.1 (λ n a. h s o ps w q.0 n a))

    pub of_qualified : type_kind (get_or (pool_words l) at 0) ≡ TypeKind.Qualified → Qualifieds l at (left - 1) r → Substitutes l at left params r
    unfolding plain_node
    of_qualified is h = of_node TypeKind.Qualified z is (λ s o f le ps w e q. subst (Node s f ps) q.2 (λ n a. h s o q.0 q.1 n a))

    pub of_generic : type_kind (get_or (pool_words l) at 0) ≡ TypeKind.Generic → Generics l at (left - 1) params r → Substitutes l at left params r
    of_generic is h = of_node TypeKind.Generic z is (λ s o f le ps w e q. subst (Node s f ps) q.2 (h s o f le ps w q.0 q.1))

    pub of_one : type_kind (get_or (pool_words l) at 0) ≡ TypeKind.One → Ones l at (left - 1) params r → Substitutes l at left params r
    of_one is h = of_node TypeKind.One z is (λ s o f le ps w e q. subst (Node s f ps) q.2 (h s o f le ps w q.0 q.1))

    pub of_fixed : type_kind (get_or (pool_words l) at 0) ≡ TypeKind.Fixed → Fixeds l at (left - 1) params r → Substitutes l at left params r
    of_fixed is h = of_node TypeKind.Fixed z is (λ s o f le ps w e q. subst (Node s f ps) q.3 (h s o f le ps w q.0 q.1 q.2))

    pub of_two : type_kind (get_or (pool_words l) at 0) ≡ TypeKind.Two → Twos l at (left - 1) params r → Substitutes l at left params r
    of_two is h = of_node TypeKind.Two z is (λ s o f le ps w e q. subst (Node s f ps) q.3 (h s o f le ps w q.0 q.1 q.2))

    pub of_unknown : type_kind (get_or (pool_words l) at 0) ≡ TypeKind.Unknown → Substitutes l at left params r
    of_unknown is = of_node TypeKind.Unknown z is (λ s o f le ps w e q. absurd q)
