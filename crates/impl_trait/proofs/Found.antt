-- An implementation and a trait by their rows, and what was found of them. Assumes nothing.
use Prim.Native.Nat.{ℕ, ◌+◌}
use mathlib.Core.Path.{◌≡◌, refl, sym, ap, subst, ◌∙◌}
use mathlib.Core.Option.{Option, none, some}
use Rattle.std.specs.Prelude.{Ok, Err}
use Rattle.rules.specs.Words.{NONE}
use Rattle.rules.specs.Syntax.{ResolvedType, TraitDef, ImplDef, CompiledSchema}
use Rattle.rules.specs.Options.{then}
use Rattle.rules.specs.Substitute.{get}
use Rattle.rules.specs.Refusal.{Refusal, Result, ok, err, ◌>>=◌, or_refuse, refusal, with_name}
use Rattle.rules.specs.Signatures.{as_trait, find_trait}
use Rattle.rules.specs.Project.{as_implementation, find_implementation}
use Rattle.image_words.specs.Gives.{Counted}
use Rattle.image_layout.specs.declared.Layout.{Layout}
use Rattle.image_layout.specs.Open.{Open, pool_words}
use Rattle.pool_types.specs.TypeAt.{TypeAt, TypeStands}
use Rattle.impl_rows.specs.Found.{ImplHere, TraitHere}
use Rattle.impl_rows.proofs.Has.{Has}
use Rattle.impl_trait.specs.declared.Subject.{Subject}
use Rattle.impl_trait.specs.declared.NoSubject.{NoSubject}
use Rattle.impl_trait.specs.Subjects.{number_of, name_of, subject, Stand, Agrees, Finds, About}

module _ (row : ℕ) (s : CompiledSchema) where
  abbrev trait_of : ImplDef → Option TraitDef → Result (ImplDef × TraitDef)
  trait_of i t = or_refuse t (with_name 4 NONE i.trait_name) >>= λ trait. ok (i, trait)

  abbrev after_row : Option ImplDef → Result (ImplDef × TraitDef)
  after_row o = or_refuse o (refusal 3) >>= λ i. trait_of i (then (get s i.trait_id) as_trait)

  by_row : {o : Option ImplDef} → then (get s row) as_implementation ≡ o → subject row s ≡ after_row o
  unfolding subject find_implementation find_trait
  by_row e = ap after_row e

  -- 3
  pub no_impl : then (get s row) as_implementation ≡ none → subject row s ≡ err (refusal 3)
  unfolding or_refuse ◌>>=◌
  no_impl e = by_row e

  module _ {i : ImplDef} (e : then (get s row) as_implementation ≡ some i) where
    by_trait : {t : Option TraitDef} → then (get s i.trait_id) as_trait ≡ t → subject row s ≡ trait_of i t
    unfolding or_refuse ◌>>=◌
    by_trait f = by_row e ∙ ap (trait_of i) f

    -- 4
    pub no_trait : then (get s i.trait_id) as_trait ≡ none → subject row s ≡ err (with_name 4 NONE i.trait_name)
    unfolding or_refuse ◌>>=◌
    no_trait f = by_trait f

    pub both : {t : TraitDef} → then (get s i.trait_id) as_trait ≡ some t → subject row s ≡ ok (i, t)
    unfolding or_refuse ◌>>=◌
    both f = by_trait f

module _ {l : Layout} {found : Result (ImplDef × TraitDef)} where
  pub lacking : {e : Refusal} {n : NoSubject} → found ≡ err e → with_name (number_of n) NONE (name_of n) ≡ e → Finds l found (Err n)
  lacking {e} {n} q f = record { is = subst (λ (x : Result (ImplDef × TraitDef)). Agrees l x (Err n)) (sym q) f }

  pub standing : {i : ImplDef} {t : TraitDef} {r : Subject} → found ≡ ok (i, t) → Stand l i t r → Finds l found (Ok r)
  standing {i} {t} {r} q a = record { is = subst (λ (x : Result (ImplDef × TraitDef)). Agrees l x (Ok r)) (sym q) a }

-- the parts of an implementation whose row and whose trait's row were found
module _ {l : Layout} {f g : ℕ} {x : Option ImplDef} {y : Option TraitDef} (h : Has (ImplHere l) x f) (t : Has (TraitHere l) y g) where
  pub parts : {r : Subject} → r.start ≡ g → r.target ≡ f + 1 + 1
      → ((ty : ResolvedType) (n : ℕ) → TypeAt l.names.rows (pool_words l) ty r.target n → r.types ≡ n) → Stand l h.a t.a r
  parts {r} e d skips =
      let p = h.stands.parts in
      let target_at = subst (λ (k : ℕ). TypeStands l.names.rows (pool_words l) h.a.target_type k p.target_end) (sym d) p.target_at in
      record {
        trait_end = t.behind;
        trait_at = subst (λ (k : ℕ). TraitHere l t.a k t.behind) (sym e) t.stands;
        target_end = p.target_end;
        target_at = target_at;
        types_end = p.type_args_end;
        types_at = subst (λ (k : ℕ). Counted (pool_words l) 8 (TypeStands l.names.rows (pool_words l)) h.a.type_args k p.type_args_end) (sym (skips h.a.target_type p.target_end target_at.parts)) p.type_args_at;
        functions_end = h.behind;
        functions_at = p.functions_at;
      }

-- what was found
pub record HasBoth (l : Layout) (found : Result (ImplDef × TraitDef)) (r : Subject) : Type 0 where
  pub impl : ImplDef
  pub trait : TraitDef
  pub is : found ≡ ok (impl, trait)
  pub stand : Stand l impl trait r

has_o : (l : Layout) (found : Result (ImplDef × TraitDef)) (r : Subject) → Agrees l found (Ok r) → HasBoth l found r
has_o l (err e) r a = absurd a
has_o l (ok p) r a = record { impl = p.0; trait = p.1; is = refl; stand = a }

lacks_o : (l : Layout) (found : Result (ImplDef × TraitDef)) (n : NoSubject) → Agrees l found (Err n) → found ≡ err (with_name (number_of n) NONE (name_of n))
lacks_o l (err e) n a = ap err (sym a)
lacks_o l (ok p) n a = absurd a

module _ {l : Layout} {found : Result (ImplDef × TraitDef)} where
  pub has_both : {r : Subject} → Finds l found (Ok r) → HasBoth l found r
  has_both {r} f = has_o l found r f.is

  pub lacks_both : {n : NoSubject} → Finds l found (Err n) → found ≡ err (with_name (number_of n) NONE (name_of n))
  lacks_both {n} f = lacks_o l found n f.is

-- what was found, with the schema that the image opens
abbrev pub about : {l : Layout} {s : CompiledSchema} → Open l s → {found : Result (ImplDef × TraitDef)} {r : Subject} → HasBoth l found r → About l r
about {l} {s} o h = record { schema = s; opened = o; impl = h.impl; trait = h.trait; stand = h.stand }
