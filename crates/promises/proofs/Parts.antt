-- The steps of an accepted implementation, and what each says.
use Prim.Native.Nat.{ℕ}
use mathlib.Core.Path.{◌≡◌, refl}
use mathlib.Core.List.{List, [], map}
use Rattle.rules.specs.Syntax.{MessageDef, TraitDef, ImplDef, CompiledSchema}
use Rattle.rules.specs.Refusal.{ok}
use Rattle.rules.specs.Signatures.{PortableSignature, find_trait, expected_functions}
use Rattle.rules.specs.Bodies.{PortableFunction}
use Rattle.rules.specs.Project.{no_repeat, no_stranger, project_list, target_message, project_impl}
use Rattle.promises.proofs.Results.{steps, same_ok, goes_on}

pub record Parts (schema : CompiledSchema) (impl : ImplDef) (p : ℕ × List PortableFunction) : Type 0 where
  pub trait : TraitDef
  pub message : MessageDef
  pub expected : List PortableSignature
  pub as_trait : find_trait schema impl ≡ ok trait
  pub as_message : target_message schema impl ≡ ok message
  pub is_expected : expected_functions schema trait impl ≡ ok (p.0, expected)
  pub no_repeats : no_repeat [] impl.functions ≡ ok tt
  pub no_strangers : no_stranger (map (λ s. s.name) expected) impl.functions ≡ ok tt
  pub projected : project_list impl message expected ≡ ok p.1

module _ (schema : CompiledSchema) (impl : ImplDef) (p : ℕ × List PortableFunction) where
  pub parts : project_impl schema impl ≡ ok p → Parts schema impl p
  unfolding project_impl
  parts q =
      let t = steps _ _ _ q in
      let m = steps _ _ _ t.behind in
      let e = steps _ _ _ m.behind in
      let r = steps _ _ _ e.behind in
      let s = steps _ _ _ r.behind in
      let l = steps _ _ _ s.behind in
      let w : ◌≡◌ {A = ℕ × List PortableFunction} (e.value.0, l.value) p = same_ok _ _ l.behind in
      rw (← w) (record {
        trait = t.value;
        message = m.value;
        expected = e.value.1;
        as_trait = t.before;
        as_message = m.before;
        is_expected = e.before;
        no_repeats = r.before;
        no_strangers = s.before;
        projected = l.before;
      })

  pub whole : Parts schema impl p → project_impl schema impl ≡ ok p
  unfolding project_impl
  whole q =
      goes_on _ _ _ _ q.as_trait
      (goes_on _ _ _ _ q.as_message
      (goes_on _ _ _ _ q.is_expected
      (goes_on _ _ _ _ q.no_repeats
      (goes_on _ _ _ _ q.no_strangers
      (goes_on _ _ _ _ q.projected refl)))))
