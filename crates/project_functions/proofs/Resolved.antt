-- The signatures that a trait's functions come to, part by part. Assumes nothing.
use Prim.Native.Nat.{ℕ, ◌+◌}
use mathlib.Core.Path.{◌≡◌, refl, sym, ap}
use mathlib.Core.Bool.{Bool, true, false, not, ◌||◌}
use mathlib.Core.List.{List, [], ◌∷◌}
use mathlib.Core.Option.{Option}
use native.Mathlib.Omega.{arith}
use Rattle.rules.specs.Syntax.{ResolvedType, TraitFnDef, CompiledSchema, Param}
use Rattle.rules.specs.Types.{normalize_return}
use Rattle.rules.specs.Substitute.{Counted, too_large, done, after}
use Rattle.rules.specs.Refusal.{Result, ok, err, ◌>>=◌, ensure, in_function}
use Rattle.rules.specs.Signatures.{PortableSignature, poisoned_params, poisoned_return, resolve_params, resolve_return, resolve_signature, expected_function, expected_list}

module _ (schema : CompiledSchema) (seen : List (Param ResolvedType)) (f : TraitFnDef) where
  -- its parameters and its return, each within the bounds
  pub record Resolved (s : PortableSignature) : Type 0 where
    pub params_visits : ℕ
    pub params : List (Param ResolvedType)
    pub params_is : resolve_params schema seen f.params ≡ done params_visits params
    pub return_visits : ℕ
    pub returns : Option ResolvedType
    pub returns_is : resolve_return schema seen f.return_type ≡ done return_visits returns
    pub so : s ≡ record { name = f.name; params = params; return_type = normalize_return returns }

  same_signature : {v w : ℕ} {s t : PortableSignature} → done v s ≡ done w t → t ≡ s
  same_signature e = cc

  pub resolved : {v : ℕ} {s : PortableSignature} → resolve_signature schema seen f ≡ done v s → Resolved s
  unfolding resolve_signature after
  resolved {v} {s} e = by_params (resolve_params schema seen f.params) refl e
    where
      by_return : (u : ℕ) (ps : List (Param ResolvedType)) → resolve_params schema seen f.params ≡ done u ps → (o : Counted (Option ResolvedType)) → resolve_return schema seen f.return_type ≡ o
          → (after o λ w t. done (u + w) (record { name = f.name; params = ps; return_type = normalize_return t })) ≡ done v s → Resolved s
      by_return u ps p too_large q h = absurd (let z : ◌≡◌ {A = ℕ} 0 1 = cc in omega arith)
      by_return u ps p (done w t) q h = record { params_visits = u; params = ps; params_is = p; return_visits = w; returns = t; returns_is = q; so = same_signature h }

      by_params : (o : Counted (List (Param ResolvedType))) → resolve_params schema seen f.params ≡ o
          → (after o λ u ps. after (resolve_return schema seen f.return_type) λ w t. done (u + w) (record { name = f.name; params = ps; return_type = normalize_return t })) ≡ done v s → Resolved s
      by_params too_large p h = absurd (let z : ◌≡◌ {A = ℕ} 0 1 = cc in omega arith)
      by_params (done u ps) p h = by_return u ps p (resolve_return schema seen f.return_type) refl h

  module _ (fs : List TraitFnDef) where
    -- the first of some signatures, and the others
    pub record First (ss : List PortableSignature) : Type 0 where
      pub visits : ℕ
      pub signature : PortableSignature
      pub is : resolve_signature schema seen f ≡ done visits signature
      pub others_visits : ℕ
      pub others : List PortableSignature
      pub others_is : expected_list schema seen fs ≡ ok (others_visits, others)
      pub so : ss ≡ signature ∷ others

    same_list : {p q : ℕ × List PortableSignature} → ok p ≡ ok q → q.1 ≡ p.1
    same_list {p} {q} e = let m : p ≡ q = cc in ap (λ (x : ℕ × List PortableSignature). x.1) (sym m)

    abbrev rest : Result (ℕ × PortableSignature) → Result (ℕ × List PortableSignature)
    rest r = r >>= λ p. expected_list schema seen fs >>= λ q. ok (p.0 + q.0, p.1 ∷ q.1)

    abbrev tested : ℕ → PortableSignature → Bool → Result (ℕ × PortableSignature)
    tested u s b = ensure (not b) (in_function 7 f.name) >>= λ _. ok (u, s)

    abbrev next : ℕ → PortableSignature → Result (ℕ × List PortableSignature) → Result (ℕ × List PortableSignature)
    next u s o = o >>= λ q. ok (u + q.0, s ∷ q.1)

    pub first : {v : ℕ} {ss : List PortableSignature} → expected_list schema seen (f ∷ fs) ≡ ok (v, ss) → First ss
    unfolding expected_list expected_function ◌>>=◌ ensure
    first {v} {ss} e = by_signature (resolve_signature schema seen f) refl e
      where
        by_others : (u : ℕ) (s : PortableSignature) → resolve_signature schema seen f ≡ done u s → (o : Result (ℕ × List PortableSignature)) → expected_list schema seen fs ≡ o
            → next u s o ≡ ok (v, ss) → First ss
        by_others u s p (err x) q h = absurd (let z : ◌≡◌ {A = ℕ} 0 1 = cc in omega arith)
        by_others u s p (ok (w, ts)) q h = record { visits = u; signature = s; is = p; others_visits = w; others = ts; others_is = q; so = same_list h }

        by_poison : (u : ℕ) (s : PortableSignature) → resolve_signature schema seen f ≡ done u s → (b : Bool) → rest (tested u s b) ≡ ok (v, ss) → First ss
        by_poison u s p true h = absurd (let z : ◌≡◌ {A = ℕ} 0 1 = cc in omega arith)
        by_poison u s p false h = by_others u s p (expected_list schema seen fs) refl h

        by_signature : (o : Counted PortableSignature) → resolve_signature schema seen f ≡ o → rest (expected_function schema seen f.name o) ≡ ok (v, ss) → First ss
        by_signature too_large p h = absurd (let z : ◌≡◌ {A = ℕ} 0 1 = cc in omega arith)
        by_signature (done u s) p h = by_poison u s p (poisoned_params s.params || poisoned_return s.return_type) h

-- no functions, no signatures
pub none_left : (schema : CompiledSchema) (seen : List (Param ResolvedType)) {v : ℕ} {ss : List PortableSignature} → expected_list schema seen [] ≡ ok (v, ss) → ss ≡ []
unfolding expected_list
none_left schema seen {v} {ss} e = let m : ◌≡◌ {A = ℕ × List PortableSignature} (0, []) (v, ss) = cc in ap (λ (x : ℕ × List PortableSignature). x.1) (sym m)
