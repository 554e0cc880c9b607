-- A list of signatures by its first, and by those made already. Assumes nothing.
use Prim.Native.Nat.{ℕ, ◌+◌}
use mathlib.Core.Path.{◌≡◌, refl, sym, ap, ap₂, ◌∙◌}
use mathlib.Core.Bool.{Bool, true, false, not}
use mathlib.Core.List.{List, [], ◌∷◌, ◌++◌, append-nil, append_assoc}
use native.Mathlib.Nat.{zero-add, add-zero, add_assoc}
use Rattle.rules.specs.Syntax.{ResolvedType, TraitFnDef, CompiledSchema, Param}
use Rattle.rules.specs.Substitute.{Counted, too_large, done}
use Rattle.rules.specs.Refusal.{Refusal, Result, ok, err, ◌>>=◌, ensure, in_function}
use Rattle.rules.specs.Signatures.{PortableSignature, resolve_signature, expected_function, expected_list}
use Rattle.expected_signature.specs.Parts.{poisoned_signature}

-- some made already, and their visits
unfoldable pub prepend : ℕ → List PortableSignature → Result (ℕ × List PortableSignature) → Result (ℕ × List PortableSignature)
prepend v xs r = r >>= λ p. ok (v + p.0, xs ++ p.1)

pub prepend_none : (r : Result (ℕ × List PortableSignature)) → prepend 0 [] r ≡ r
unfolding prepend ◌>>=◌
prepend_none (err e) = refl
prepend_none (ok p) = ap (λ (n : ℕ). ok (n, p.1)) (zero-add p.0)

pub prepend_err : (v : ℕ) (xs : List PortableSignature) {e : Refusal} → prepend v xs (err e) ≡ err e
unfolding prepend ◌>>=◌
prepend_err v xs = refl

module _ (schema : CompiledSchema) (ps : List (Param ResolvedType)) where
  pub prepend_end : (v : ℕ) (xs : List PortableSignature) → prepend v xs (expected_list schema ps []) ≡ ok (v, xs)
  unfolding prepend ◌>>=◌ expected_list
  prepend_end v xs = ap₂ (λ (n : ℕ) (l : List PortableSignature). ok (n, l)) (add-zero v) (append-nil xs)

  module _ (f : TraitFnDef) (fs : List TraitFnDef) where
    abbrev rest : Result (ℕ × PortableSignature) → Result (ℕ × List PortableSignature)
    rest r = r >>= λ p. expected_list schema ps fs >>= λ q. ok (p.0 + q.0, p.1 ∷ q.1)

    first_o : {o : Counted PortableSignature} → resolve_signature schema ps f ≡ o → expected_list schema ps (f ∷ fs) ≡ rest (expected_function schema ps f.name o)
    unfolding expected_list
    first_o e = ap (λ (o : Counted PortableSignature). rest (expected_function schema ps f.name o)) e

    -- 8
    pub list_large : resolve_signature schema ps f ≡ too_large → expected_list schema ps (f ∷ fs) ≡ err (in_function 8 f.name)
    unfolding expected_function ◌>>=◌
    list_large e = first_o e

    tested : (v : ℕ) (s : PortableSignature) (b : Bool) → poisoned_signature s ≡ b
        → expected_function schema ps f.name (done v s) ≡ (ensure (not b) (in_function 7 f.name) >>= λ _. ok (v, s))
    unfolding expected_function
    tested v s b e = ap (λ (b : Bool). ensure (not b) (in_function 7 f.name) >>= λ _. ok (v, s)) e

    module _ {v : ℕ} {s : PortableSignature} (e : resolve_signature schema ps f ≡ done v s) where
      -- 7
      pub list_poisoned : poisoned_signature s ≡ true → expected_list schema ps (f ∷ fs) ≡ err (in_function 7 f.name)
      unfolding ◌>>=◌ ensure
      list_poisoned p = first_o e ∙ ap rest (tested v s true p)

      after_first : poisoned_signature s ≡ false → expected_list schema ps (f ∷ fs) ≡ (expected_list schema ps fs >>= λ q. ok (v + q.0, s ∷ q.1))
      unfolding ◌>>=◌ ensure
      after_first p = first_o e ∙ ap rest (tested v s false p)

      moved : (u : ℕ) (xs : List PortableSignature) (r : Result (ℕ × List PortableSignature)) → prepend u xs (r >>= λ q. ok (v + q.0, s ∷ q.1)) ≡ prepend (u + v) (xs ++ (s ∷ [])) r
      unfolding prepend ◌>>=◌
      moved u xs (err x) = refl
      moved u xs (ok q) = ap₂ (λ (n : ℕ) (l : List PortableSignature). ok (n, l)) (sym (add_assoc u v q.0)) (sym (append_assoc xs (s ∷ []) q.1))

      pub list_more : poisoned_signature s ≡ false → (u : ℕ) (xs : List PortableSignature) → prepend u xs (expected_list schema ps (f ∷ fs)) ≡ prepend (u + v) (xs ++ (s ∷ [])) (expected_list schema ps fs)
      list_more p u xs = ap (prepend u xs) (after_first p) ∙ moved u xs (expected_list schema ps fs)
