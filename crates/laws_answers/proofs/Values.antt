-- Typed expressions: their types are such as the pool could hold, they nest no deeper and grow at most 65-fold.
use Prim.Native.Nat.{ℕ, ◌*◌, ◌≤◌}
use mathlib.Core.Path.{◌≡◌, refl}
use mathlib.Core.Bool.{Bool, true, false, cond}
use mathlib.Core.List.{List, [], ◌∷◌, ◌++◌}
use mathlib.Core.Option.{Option, none, some}
use native.Mathlib.Omega.{arith}
use lib.ListN.{length, length-append}
use lib.Dec.{eqb}
use Rattle.rules.specs.Syntax.{ResolvedType, run, Expr, Param}
use Rattle.rules.specs.Kinds.{type_kind}
use Rattle.rules.specs.Types.{BOOL, STRING, same_type}
use Rattle.rules.specs.Fits.{literal_fits, literal_own}
use Rattle.rules.specs.Options.{or_else}
use Rattle.rules.specs.Refusal.{Result, ok}
use Rattle.rules.specs.Infer.{PortableExpr, PortableExprKind, typed, type_of, FunctionContext, find_last, Place, of_local, of_self, of_field, nowhere, field_of, place, is_arithmetic, operand_allowed, unary_allowed, place_type, expression_hint, type_mismatch, ensure_same_type, ended, infer_literal, binary_hint, infer_expr}
use Rattle.rules.specs.Output.{value_words, kind_words}
use Rattle.rules.specs.Good.{All, AllOption, Stored}
use Rattle.laws.proofs.Each.{or_else_all}
use Rattle.laws.specs.Runs.{expr_words, nesting, GoodValue}
use Rattle.rules.specs.Typed.{typed_nesting, kind_nesting, TypedValue, TypedKind, TypedParam}
use Rattle.laws_answers.proofs.Ends as ends
use Rattle.laws_answers.proofs.Ends.{Ends, Short}
use Rattle.laws_answers.specs.Bounds.{growth}

-- over the number of name rows
module _ (names : ℕ) where
  pub record GoodContext (c : FunctionContext) : Type 0 where
    pub locals : All (TypedParam names) c.locals
    pub fields : All (TypedParam names) c.fields
    pub self_type : Stored names c.self_type

  -- what an expression's typed value is
  pub record Inferred (e : Expr) (v : PortableExpr) : Type 0 where
    pub good : TypedValue names v
    pub deep : typed_nesting v ≤ nesting e
    pub small : length (value_words v) ≤ growth * length (expr_words e)

  pub find_last_stored : (x : ℕ) (ps : List (Param ResolvedType)) → All (TypedParam names) ps → AllOption (Stored names) (find_last x ps)
  unfolding find_last or_else
  find_last_stored x [] h = tt
  find_last_stored x (p ∷ ps) h = go (find_last x ps) (find_last_stored x ps h.1) (eqb x p.name)
    where
      go : (o : Option ResolvedType) → AllOption (Stored names) o → (b : Bool) → AllOption (Stored names) (or_else o (cond b (some p.ty) none))
      go none i true = h.0
      go none i false = tt
      go (some t) i b = i

  plain_stored : (c : ℕ) → type_kind c ≡ type_kind 0 → Stored names (ResolvedType.plain c)
  unfolding type_kind run
  plain_stored c e = record { good = e; short = omega arith }

  literal_stored : (c : ℕ) → Stored names (literal_own c)
  unfolding literal_own type_kind
  literal_stored c = go (eqb c 0) (eqb c 1)
    where
      go : (x y : Bool) → Stored names (cond x (ResolvedType.plain 8) (cond y (ResolvedType.plain 4) (ResolvedType.plain 10)))
      go true y = plain_stored 8 refl
      go false true = plain_stored 4 refl
      go false false = plain_stored 10 refl

  bool_stored : Stored names BOOL
  unfolding type_kind
  bool_stored = plain_stored 0 refl

  string_stored : Stored names STRING
  unfolding type_kind
  string_stored = plain_stored 32 refl

  pub type_of_stored : (v : PortableExpr) → TypedValue names v → Stored names (type_of v)
  unfolding type_of
  type_of_stored (typed t k) h = h.0

  result_stored : (b : Bool) (t : ResolvedType) → Stored names t → Stored names (cond b t BOOL)
  result_stored true t s = s
  result_stored false t s = bool_stored

  module _ (c : FunctionContext) (g : GoodContext c) where
    place_stored : (p : Place) → AllOption (Stored names) (place_type c p)
    unfolding place_type
    place_stored (of_local x) = find_last_stored x c.locals g.locals
    place_stored of_self = g.self_type
    place_stored (of_field f) = find_last_stored f c.fields g.fields
    place_stored nowhere = tt

    hint_stored : (e : Expr) → AllOption (Stored names) (expression_hint c e)
    unfolding expression_hint
    hint_stored e = place_stored (place e)

    binary_hint_stored : (op : ℕ) (l r : Expr) (expected : Option ResolvedType) → AllOption (Stored names) expected → AllOption (Stored names) (binary_hint c op l r expected)
    unfolding binary_hint
    binary_hint_stored op l r expected h =
        or_else_all (Stored names) (expression_hint c l) _ (hint_stored l) (or_else_all (Stored names) (expression_hint c r) _ (hint_stored r) (go (is_arithmetic op)))
      where
        go : (b : Bool) → AllOption (Stored names) (cond b expected none)
        go true = h
        go false = tt

    mismatch_ends : {A : Type 0} {P : A → Type 0} (ctx : ℕ) (t u : ResolvedType) → Stored names t → Stored names u → Ends Short (type_mismatch c {A = A} ctx t u) P
    unfolding type_mismatch
    mismatch_ends ctx t u s v = ends.err_ends _ (omega (arith, length-append (run t) (run u), s.short, v.short))

    same_ends : (ctx : ℕ) (t u : ResolvedType) → Stored names t → Stored names u → Ends Short (ensure_same_type c ctx t u) (λ _. Unit {0})
    unfolding ensure_same_type
    same_ends ctx t u s v = go (same_type t u)
      where
        go : (b : Bool) → Ends {A = Unit {0}} Short (elim b as (λ _. Result (Unit {0})) [ true ↦ ok tt | false ↦ type_mismatch c ctx t u ]) (λ _. Unit {0})
        go true = ends.ok_ends tt _ tt
        go false = mismatch_ends ctx t u s v

    ended_ends : (P : PortableExpr → Type 0) (expected : Option ResolvedType) (ctx : ℕ) (t : ResolvedType) (k : PortableExprKind)
        → AllOption (Stored names) expected → Stored names t → P (typed t k) → Ends Short (ended c expected ctx t k) P
    unfolding ended
    ended_ends P none ctx t k h s p = ends.ok_ends _ P p
    ended_ends P (some e) ctx t k h s p = ends.then_ends (same_ends ctx e t h s) (λ _ _. ends.ok_ends _ P p)

    literal_ends : (code n : ℕ) (expected : Option ResolvedType) → AllOption (Stored names) expected → Ends Short (infer_literal c code n expected) (Stored names)
    unfolding infer_literal
    literal_ends code n none h = ends.ok_ends _ _ (literal_stored code)
    literal_ends code n (some t) h = go (literal_fits code n t)
      where
        go : (b : Bool) → Ends {A = ResolvedType} Short (elim b as (λ _. Result ResolvedType) [ true ↦ ok t | false ↦ type_mismatch c code t (literal_own code) ]) (Stored names)
        go true = ends.ok_ends t _ h
        go false = mismatch_ends code t (literal_own code) h (literal_stored code)

    -- a leaf's words are few
    leaf : (e : Expr) (t : ResolvedType) (k : PortableExprKind) → TypedKind names k → kind_nesting k ≡ 0 → 1 ≤ nesting e
        → length (kind_words k) ≤ length (expr_words e) → 1 ≤ length (expr_words e) → Stored names t → Inferred e (typed t k)
    unfolding value_words
    leaf e t k good flat deep small any s = record { good = (s, good); deep = omega arith; small = omega (arith, length-append (run t) (kind_words k), s.short) }

    pub infer_ends : (strings : ℕ) (e : Expr) (expected : Option ResolvedType) (ctx : ℕ) → GoodValue names strings e → AllOption (Stored names) expected
        → Ends Short (infer_expr c e expected ctx) (Inferred e)
    unfolding infer_expr value_words kind_words expr_words
    infer_ends strings (Expr.literal code low high) expected ctx v h = ends.then_ends (literal_ends code _ expected h) (λ t s.
        ended_ends (Inferred _) expected ctx t _ h s (leaf _ t _ v refl (omega arith) (omega arith) (omega arith) s))
    infer_ends strings (Expr.bool b) expected ctx v h = ended_ends (Inferred _) expected ctx BOOL _ h bool_stored (leaf _ BOOL _ tt refl (omega arith) (omega arith) (omega arith) bool_stored)
    infer_ends strings (Expr.string b) expected ctx v h = ended_ends (Inferred _) expected ctx STRING _ h string_stored (leaf _ STRING _ tt refl (omega arith) (omega arith) (omega arith) string_stored)
    infer_ends strings (Expr.local x) expected ctx v h = ends.then_ends (ends.refuse_ends (Stored names) (find_last x c.locals) _ (omega arith) (find_last_stored x c.locals g.locals)) (λ t s.
        ended_ends (Inferred _) expected ctx t _ h s (leaf _ t _ tt refl (omega arith) (omega arith) (omega arith) s))
    infer_ends strings Expr.self_ref expected ctx v h =
        ended_ends (Inferred _) expected ctx c.self_type _ h g.self_type (leaf _ c.self_type _ tt refl (omega arith) (omega arith) (omega arith) g.self_type)
    infer_ends strings (Expr.field_access f e) expected ctx v h = ends.then_ends (ends.refuse_ends (Stored names) (place_type c (field_of f (place e))) _ (omega arith) (place_stored (field_of f (place e)))) (λ t s.
        ended_ends (Inferred _) expected ctx t _ h s (leaf _ t _ tt refl (omega arith) (omega arith) (omega arith) s))
    infer_ends strings (Expr.call f es) expected ctx v h = ends.err_ends _ (omega arith)
    infer_ends strings (Expr.trait_method_call t m e es) expected ctx v h = ends.err_ends _ (omega arith)
    infer_ends strings (Expr.binary op l r) expected ctx v h =
        ends.then_ends (infer_ends strings l (binary_hint c op l r expected) 6 v.1 (binary_hint_stored op l r expected h)) (λ left i.
        ends.then_ends (infer_ends strings r (some (type_of left)) 6 v.2 (type_of_stored left i.good)) (λ right j.
        let s = type_of_stored left i.good in
        ends.ensure_ends (operand_allowed op (type_of left)) _ _ (omega (arith, s.short)) (λ e.
        let t = cond (is_arithmetic op) (type_of left) BOOL in
        let u = result_stored (is_arithmetic op) (type_of left) s in
        ended_ends (Inferred _) expected ctx t _ h u (record {
          good = (u, (i.good, j.good));
          deep = omega (arith, i.deep, j.deep);
          small = omega (
            arith,
            u.short,
            i.small,
            j.small,
            length-append (run t) (10 ∷ op ∷ (value_words left ++ value_words right)),
            length-append (value_words left) (value_words right),
            length-append (expr_words l) (expr_words r),
          );
        }))))
    infer_ends strings (Expr.unary op e) expected ctx v h =
        ends.then_ends (infer_ends strings e expected 7 v.1 h) (λ value i.
        let s = type_of_stored value i.good in
        ends.ensure_ends (unary_allowed op (type_of value)) _ _ (omega (arith, s.short)) (λ e'.
        ended_ends (Inferred _) expected ctx (type_of value) _ h s (record {
          good = (s, i.good);
          deep = omega (arith, i.deep);
          small = omega (arith, s.short, i.small, length-append (run (type_of value)) (11 ∷ op ∷ value_words value));
        })))
