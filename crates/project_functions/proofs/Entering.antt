-- A trait function's signature, held as it is entered. Assumes nothing.
use Prim.Native.Nat.{ℕ, suc, ◌+◌, ◌<◌, ◌≤◌}
use mathlib.Core.Path.{◌≡◌, refl, sym, ap, subst, ◌∙◌}
use mathlib.Core.List.{List, [], ◌∷◌}
use Rattle.std.specs.Prelude.{Option, Some, None, IsSome, IsSomeAnd}
use mathlib.Core.Option.{Option as Maybe}
use native.Mathlib.Omega.{arith}
use lib.ListN.{length}
use Rattle.rules.specs.Syntax.{ResolvedType, TypeExpr, CompiledSchema, Param}
use Rattle.rules.specs.Substitute.{Counted, too_large, done, after, substitute_type}
use Rattle.rules.specs.Signatures.{PortableSignature, resolve_params, resolve_return}
use Rattle.image_layout.specs.declared.Layout.{Layout}
use Rattle.image_layout.specs.Rows.{Inside}
use Rattle.image_layout.specs.Open.{pool_words}
use Rattle.pool_traits.specs.TraitAt.{TraitReturnAt}
use Rattle.type_words.specs.Holds.{MaybeHolds}
use Rattle.locals.specs.Rows.{Rows}
use Rattle.expected_signature.specs.Here.{ParamsHere, ReturnHere}
use Rattle.expected_signature.proofs.Places.{pool_small}
use Rattle.expected_locals.specs.declared.Entered.{Entered}
use Rattle.expected_locals.specs.declared.Returned.{Returned}
use Rattle.expected_locals.specs.Entered.{EnteredDone, EnteredAgrees, EnteredSays, ReturnedDone, ReturnedAgrees, ReturnedSays}
use Rattle.project_functions.specs.Asked.{One}
use Rattle.project_functions.proofs.Resolved.{Resolved, resolved}

is_there : {A : Type 0} (o : Option A) (P : A → Type 0) → IsSomeAnd o P → IsSome o
is_there None P h = absurd h
is_there (Some x) P h = refl

-- as many parameters as expressions
module _ (schema : CompiledSchema) (seen : List (Param ResolvedType)) where
  pub as_many_params : (ps : List (Param TypeExpr)) {v : ℕ} {ts : List (Param ResolvedType)} → resolve_params schema seen ps ≡ done v ts → length ts ≡ length ps
  unfolding resolve_params after
  as_many_params [] {v} {ts} e = let m : ◌≡◌ {A = List (Param ResolvedType)} [] ts = cc in ap length (sym m)
  as_many_params (p ∷ ps) {v} {ts} e = by_type (substitute_type schema seen p.ty) e (λ u us q. as_many_params ps q)
    where
      by_others : (w : ℕ) (t : ResolvedType) (o : Counted (List (Param ResolvedType))) → resolve_params schema seen ps ≡ o → (after o λ u us. done (w + u) (record { name = p.name; ty = t } ∷ us)) ≡ done v ts
          → ((u : ℕ) (us : List (Param ResolvedType)) → resolve_params schema seen ps ≡ done u us → length us ≡ length ps) → length ts ≡ suc (length ps)
      by_others w t too_large q h k = absurd (let z : ◌≡◌ {A = ℕ} 0 1 = cc in omega arith)
      by_others w t (done u us) q h k = let m : ◌≡◌ {A = List (Param ResolvedType)} (record { name = p.name; ty = t } ∷ us) ts = cc in ap length (sym m) ∙ ap suc (k u us q)

      by_type : (o : Counted ResolvedType) → (after o λ w t. after (resolve_params schema seen ps) λ u us. done (w + u) (record { name = p.name; ty = t } ∷ us)) ≡ done v ts
          → ((u : ℕ) (us : List (Param ResolvedType)) → resolve_params schema seen ps ≡ done u us → length us ≡ length ps) → length ts ≡ suc (length ps)
      by_type too_large h k = absurd (let z : ◌≡◌ {A = ℕ} 0 1 = cc in omega arith)
      by_type (done w t) h k = by_others w t (resolve_params schema seen ps) refl h k

module _ {l : Layout} {params : List ℕ} {at : ℕ} (k : One l params at) where
  abbrev pub parts_of : Resolved k.here.schema k.here.seen k.here.tree k.signature
  parts_of = resolved k.here.schema k.here.seen k.here.tree k.is

  pub small : Inside l → at < 65536
  small i = pool_small i k.here.stands.parts.name_at.inside

  pub same_name : k.signature.name ≡ k.here.tree.name
  same_name = ap (λ (s : PortableSignature). s.name) parts_of.so

  abbrev pub params_here : ParamsHere l params (at + 1)
  params_here = record {
    schema = k.here.schema;
    opened = k.here.opened;
    seen = k.here.seen;
    views = k.here.views;
    tree = k.here.tree.params;
    behind = k.here.stands.parts.params_end;
    stands = k.here.stands.parts.params_at;
  }

  -- all parameters keep the bounds
  module _ {names words lens : List ℕ} {o : Option Entered} (says : (h : ParamsHere l params (at + 1)) → EnteredSays l.names.rows (resolve_params h.schema h.seen h.tree) h.behind names words lens o) where
    agrees : EnteredAgrees l.names.rows (done parts_of.params_visits parts_of.params) k.here.stands.parts.params_end names words lens o
    agrees = subst (λ (r : Counted (List (Param ResolvedType))). EnteredAgrees l.names.rows r k.here.stands.parts.params_end names words lens o) parts_of.params_is (says params_here).is

    pub all_enter : IsSome o
    all_enter = is_there o _ agrees

    -- the parameters are the table's rows
    module _ {e : Entered} (is : o ≡ Some e) where
      pub entered : EnteredDone l.names.rows parts_of.params k.here.stands.parts.params_end names words lens e
      entered = subst (λ (z : Option Entered). EnteredAgrees l.names.rows (done parts_of.params_visits parts_of.params) k.here.stands.parts.params_end names words lens z) is agrees

      pub few : e.count ≤ 32
      few = omega (arith, entered.count, as_many_params k.here.schema k.here.seen k.here.tree.params parts_of.params_is, k.here.stands.parts.params_at.1)

      pub table : Rows l.names.rows names words lens e.count 0 k.signature.params
      table = subst (λ (s : PortableSignature). Rows l.names.rows names words lens e.count 0 s.params) (sym parts_of.so) entered.table

      -- the return stands behind them
      abbrev pub return_here : ReturnHere l params e.next
      return_here = record {
        schema = k.here.schema;
        opened = k.here.opened;
        seen = k.here.seen;
        views = k.here.views;
        tree = k.here.tree.return_type;
        behind = k.here.behind;
        stands = subst (λ (n : ℕ). TraitReturnAt l.names.rows (pool_words l) k.here.tree.return_type n k.here.behind) (sym entered.next) k.here.stands.parts.return_at;
      }

      -- the return keeps them too, and is held
      module _ {t : Option Returned} (r : (h : ReturnHere l params e.next) → ReturnedSays l.names.rows (resolve_return h.schema h.seen h.tree) h.behind t) where
        kept : ReturnedAgrees l.names.rows (done parts_of.return_visits parts_of.returns) k.here.behind t
        kept = subst (λ (q : Counted (Maybe ResolvedType)). ReturnedAgrees l.names.rows q k.here.behind t) parts_of.returns_is (r return_here).is

        pub returns_too : IsSome t
        returns_too = is_there t _ kept

        pub holds : {u : Returned} → t ≡ Some u → MaybeHolds l.names.rows u.ty k.signature.return_type
        holds {u} q =
            let d : ReturnedDone l.names.rows parts_of.returns k.here.behind u =
            subst (λ (z : Option Returned). ReturnedAgrees l.names.rows (done parts_of.return_visits parts_of.returns) k.here.behind z) q kept in
            subst (λ (s : PortableSignature). MaybeHolds l.names.rows u.ty s.return_type) (sym parts_of.so) d.holds
