-- What a part of a signature comes to: nothing where it is too large, or its visits, and its words written.
use Rattle.std.specs.Prelude.{ℕ, ◌≡◌, Bool, ◌||◌, List, Option, None, IsSomeAnd}
use Rattle.std.proofs.Math.Option.{Option as Maybe}
use Rattle.rules.specs.Syntax.{ResolvedType, TypeExpr, CompiledSchema, Param}
use Rattle.rules.specs.Types.{contains_poison, normalize_return, return_words}
use Rattle.rules.specs.Substitute.{Counted, too_large, done, after, substitute_type}
use Rattle.rules.specs.Signatures.{PortableSignature, poisoned_params, poisoned_return}
use Rattle.rules.specs.Output.{signature_words}
use Rattle.answers.specs.Writes.{Writes}
use Rattle.expected_signature.specs.declared.part.Part.{Part}

-- over the words of a part, and whether poison is in it
module _ {A : Type 0} (words : A → List ℕ) (poisoned : A → Bool) where
  pub record PartDone (v : ℕ) (a : A) (behind to : ℕ) (old new : List ℕ) (r : Part) : Type 0 where
    pub visits : r.visits ≡ v
    pub next : r.next ≡ behind
    pub poison : r.poisoned ≡ poisoned a
    pub writes : Writes (words a) to r.to old new

  abbrev pub PartAgrees : Counted A → ℕ → ℕ → List ℕ → List ℕ → Option Part → Type 0
  PartAgrees too_large behind to old new r = r ≡ None
  PartAgrees (done v a) behind to old new r = IsSomeAnd r (λ p. PartDone v a behind to old new p)

  -- r says a part that ends before `behind`, and writes its words from `to` on
  pub record PartSays (o : Counted A) (behind to : ℕ) (old new : List ℕ) (r : Option Part) : Type 0 where
    pub is : PartAgrees o behind to old new r

-- a type under a name
abbrev pub under : ℕ → Counted ResolvedType → Counted (Param ResolvedType)
under x o = after o λ v t. done v (record { name = x; ty = t })

-- one parameter
unfoldable pub resolve_param : CompiledSchema → List (Param ResolvedType) → Param TypeExpr → Counted (Param ResolvedType)
resolve_param schema params p = under p.name (substitute_type schema params p.ty)

abbrev pub poisoned_param : Param ResolvedType → Bool
poisoned_param p = contains_poison p.ty

-- a return, Void as none
abbrev pub normal_words : Maybe ResolvedType → List ℕ
normal_words t = return_words (normalize_return t)

abbrev pub normal_poisoned : Maybe ResolvedType → Bool
normal_poisoned t = poisoned_return (normalize_return t)

-- a signature
abbrev pub words_of : PortableSignature → List ℕ
words_of s = signature_words s.name s.params s.return_type

abbrev pub poisoned_signature : PortableSignature → Bool
poisoned_signature s = poisoned_params s.params || poisoned_return s.return_type
