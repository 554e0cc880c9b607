-- The type that an expression has by itself, by the codes that stand there.
use Prim.Native.Nat.{ℕ, ◌+◌, ◌<◌, ◌≤◌}
use mathlib.Core.Path.{◌≡◌, refl, sym, ap, subst, ◌∙◌}
use mathlib.Core.Bool.{true, false, cond, false≢true}
use mathlib.Core.List.{List}
use mathlib.Core.Option.{Option, none, some}
use lib.ListN.{length, get_or}
use lib.Dec.{ltb}
use borrow.Author.Tests.{lt-ltb, le-ltb}
use Rattle.rules.specs.Syntax.{ResolvedType, Expr}
use Rattle.rules.specs.Kinds.{expr_kind}
use Rattle.rules.specs.Options.{or_else}
use Rattle.rules.specs.Infer.{FunctionContext, find_last, Place, of_local, of_self, of_field, nowhere, field_of, place, place_type, expression_hint}
use Rattle.rules.proofs.Clash.{clash}
use Rattle.type_words.specs.declared.MaybeType.{MaybeType}
use Rattle.type_words.specs.Holds.{MaybeHolds}
use Rattle.pool_expressions.proofs.ExprAt.{value_shape}
use Rattle.infer_context.specs.declared.PlaceKind.{PlaceKind}
use Rattle.infer_context.specs.PlaceKinds.{place_kind}
use Rattle.infer_context.specs.Stood.{Stood}
use Rattle.infer_context.proofs.Nodes.{node, local_word, field_word, receiver}

-- a property of the expressions of a kind of place
abbrev PlaceCase : (Expr → Type 0) → PlaceKind → Type 0
PlaceCase P PlaceKind.Local = (x : ℕ) → P (Expr.local x)
PlaceCase P PlaceKind.Own = P Expr.self_ref
PlaceCase P PlaceKind.Field = (x : ℕ) (e : Expr) → P (Expr.field_access x e)
PlaceCase P PlaceKind.Nowhere = (e : Expr) → place_kind (value_shape e) ≡ PlaceKind.Nowhere → P e

own : (P : Expr → Type 0) (e : Expr) → PlaceCase P (place_kind (value_shape e)) → P e
own P (Expr.literal c low high) h = h _ refl
own P (Expr.bool b) h = h _ refl
own P (Expr.string s) h = h _ refl
own P (Expr.local x) h = h x
own P Expr.self_ref h = h
own P (Expr.field_access x e) h = h x e
own P (Expr.call x es) h = h _ refl
own P (Expr.trait_method_call t x e es) h = h _ refl
own P (Expr.binary op d e) h = h _ refl
own P (Expr.unary op e) h = h _ refl

by_place : (P : Expr → Type 0) {k : PlaceKind} → PlaceCase P k → (e : Expr) → place_kind (value_shape e) ≡ k → P e
by_place P h e q = own P e (subst (PlaceCase P) (sym q) h)

module _ (c : FunctionContext) where
  hint_nowhere : (e : Expr) → place_kind (value_shape e) ≡ PlaceKind.Nowhere → expression_hint c e ≡ none
  unfolding expression_hint place place_type
  hint_nowhere (Expr.literal k low high) q = refl
  hint_nowhere (Expr.bool b) q = refl
  hint_nowhere (Expr.string s) q = refl
  hint_nowhere (Expr.local x) q = clash (cc)
  hint_nowhere Expr.self_ref q = clash (cc)
  hint_nowhere (Expr.field_access x e) q = clash (cc)
  hint_nowhere (Expr.call x es) q = refl
  hint_nowhere (Expr.trait_method_call t x e es) q = refl
  hint_nowhere (Expr.binary op d e) q = refl
  hint_nowhere (Expr.unary op e) q = refl

  -- a field of what is no SelfRef
  no_field : (f g : ℕ) (p : Place) → field_of f (field_of g p) ≡ nowhere
  unfolding field_of
  no_field f g (of_local x) = refl
  no_field f g of_self = refl
  no_field f g (of_field x) = refl
  no_field f g nowhere = refl

  hint_other : (f : ℕ) (e : Expr) → (place_kind (value_shape e) ≡ PlaceKind.Own → ⊥) → expression_hint c (Expr.field_access f e) ≡ none
  unfolding expression_hint place place_type field_of
  hint_other f (Expr.literal k low high) q = refl
  hint_other f (Expr.bool b) q = refl
  hint_other f (Expr.string s) q = refl
  hint_other f (Expr.local x) q = refl
  hint_other f Expr.self_ref q = absurd (q refl)
  hint_other f (Expr.field_access x e) q = ap (place_type c) (no_field f x (place e))
  hint_other f (Expr.call x es) q = refl
  hint_other f (Expr.trait_method_call t x e es) q = refl
  hint_other f (Expr.binary op d e) q = refl
  hint_other f (Expr.unary op e) q = refl

-- an optional type is the one that an expression that stands there has by itself
abbrev Hinted : ℕ → ℕ → List ℕ → ℕ → ℕ → ℕ → FunctionContext → MaybeType → Expr → Type 0
Hinted names strings ws nest at n c m e = Stood names strings ws nest e at n → MaybeHolds names m (expression_hint c e)

kind_of : {names strings : ℕ} {ws : List ℕ} {nest at n : ℕ} (k : PlaceKind) → place_kind (expr_kind (get_or ws at 0)) ≡ k → (e : Expr) → Stood names strings ws nest e at n → place_kind (value_shape e) ≡ k
kind_of k q e s = ap place_kind (sym (node e s).1) ∙ q

module _ {names strings : ℕ} {ws : List ℕ} {nest at n : ℕ} (c : FunctionContext) (m : MaybeType) where
  pub at_local : place_kind (expr_kind (get_or ws at 0)) ≡ PlaceKind.Local → (x : ℕ) → (at < length ws → x ≡ get_or ws (at + 1) 0) → MaybeHolds names m (find_last x c.locals) → (e : Expr) → Hinted names strings ws nest at n c m e
  unfolding expression_hint place place_type
  at_local q x w h e s =
      by_place (Hinted names strings ws nest at n c m) (λ y s. let i : x ≡ y = w (node (Expr.local y) s).0 ∙ (local_word y s).1 in subst (λ (z : ℕ). MaybeHolds names m (find_last z c.locals)) i h) e (kind_of PlaceKind.Local q e s) s

  pub at_own : place_kind (expr_kind (get_or ws at 0)) ≡ PlaceKind.Own → MaybeHolds names m (some c.self_type) → (e : Expr) → Hinted names strings ws nest at n c m e
  unfolding expression_hint place place_type
  at_own q h e s = by_place (Hinted names strings ws nest at n c m) (λ s. h) e (kind_of PlaceKind.Own q e s) s

  pub at_field : place_kind (expr_kind (get_or ws at 0)) ≡ PlaceKind.Field → ((f : ℕ) (e : Expr) → Hinted names strings ws nest at n c m (Expr.field_access f e)) → (e : Expr) → Hinted names strings ws nest at n c m e
  at_field q h e s = by_place (Hinted names strings ws nest at n c m) h e (kind_of PlaceKind.Field q e s) s

  pub at_nowhere : place_kind (expr_kind (get_or ws at 0)) ≡ PlaceKind.Nowhere → m.some ≡ false → (e : Expr) → Hinted names strings ws nest at n c m e
  at_nowhere q h e s = by_place (Hinted names strings ws nest at n c m) (λ e q s. rw (hint_nowhere c e q) h) e (kind_of PlaceKind.Nowhere q e s) s

  -- a field access, by the code of its receiver
  module _ (j : ℕ) (is : at + 1 < length ws → j ≡ at + 1 + 1) (f : ℕ) (e : Expr) (s : Stood names strings ws nest (Expr.field_access f e) at n) where
    receiver_kind : place_kind (expr_kind (get_or ws j 0)) ≡ place_kind (value_shape e)
    receiver_kind = ap (λ (k : ℕ). place_kind (expr_kind (get_or ws k 0))) (is (field_word f e s).0) ∙ ap place_kind (node e (receiver f e s)).1

    pub of_self_ref : place_kind (expr_kind (get_or ws j 0)) ≡ PlaceKind.Own → (x : ℕ) → (at < length ws → x ≡ get_or ws (at + 1) 0) → MaybeHolds names m (find_last x c.fields)
        → MaybeHolds names m (expression_hint c (Expr.field_access f e))
    unfolding expression_hint place place_type field_of
    of_self_ref q x w h =
        let i : x ≡ f = w (node (Expr.field_access f e) s).0 ∙ (field_word f e s).1 in
        let k : MaybeHolds names m (find_last f c.fields) = subst (λ (z : ℕ). MaybeHolds names m (find_last z c.fields)) i h in
        by_place (λ e. MaybeHolds names m (expression_hint c (Expr.field_access f e))) k e (sym receiver_kind ∙ q)

    pub of_other : (k : PlaceKind) → place_kind (expr_kind (get_or ws j 0)) ≡ k → (k ≡ PlaceKind.Own → ⊥) → m.some ≡ false → MaybeHolds names m (expression_hint c (Expr.field_access f e))
    of_other k q o h = rw (hint_other c f e (λ z. o (sym q ∙ receiver_kind ∙ z))) h

-- the first of two that is there
module _ (names : ℕ) (m : MaybeType) (o p : Option ResolvedType) where
  pub or_held : MaybeHolds names m o → m.some ≡ true → MaybeHolds names m (or_else o p)
  unfolding or_else
  or_held = go o
    where
      go : (o : Option ResolvedType) → MaybeHolds names m o → m.some ≡ true → MaybeHolds names m (or_else o p)
      go none h e = absurd (false≢true (sym h ∙ e))
      go (some t) h e = h

  pub or_next : MaybeHolds names m o → m.some ≡ false → (k : MaybeType) → MaybeHolds names k p → MaybeHolds names k (or_else o p)
  unfolding or_else
  or_next = go o
    where
      go : (o : Option ResolvedType) → MaybeHolds names m o → m.some ≡ false → (k : MaybeType) → MaybeHolds names k p → MaybeHolds names k (or_else o p)
      go none h e k g = g
      go (some t) h e k g = absurd (false≢true (sym e ∙ h.0))

-- for arithmetic the expected type, else none
pub held_if : (names op : ℕ) (m : MaybeType) (o : Option ResolvedType) → op < 4 → MaybeHolds names m o → MaybeHolds names m (cond (ltb op 4) o none)
held_if names op m o l h = rw (lt-ltb op 4 l) h

pub held_not : (names op : ℕ) (m : MaybeType) (o : Option ResolvedType) → 4 ≤ op → m.some ≡ false → MaybeHolds names m (cond (ltb op 4) o none)
held_not names op m o l h = rw (le-ltb op 4 l) h
