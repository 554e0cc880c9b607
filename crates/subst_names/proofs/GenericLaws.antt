-- A generic alias in the pool, and a definition's row that is one.
use Prim.Native.Nat.{ℕ, ◌+◌, ◌<◌, ◌≤◌}
use mathlib.Core.Path.{◌≡◌, refl, sym, ap, subst, ◌∙◌}
use mathlib.Core.Bool.{true, false}
use mathlib.Core.List.{List, [], ◌∷◌, ◌++◌}
use mathlib.Core.Option.{Option, none, some}
use native.Mathlib.Omega.{arith}
use native.Mathlib.Decide.{dec_le}
use lib.ListN.{length, get_or, get_elem?}
use Rattle.rules.specs.Words.{NONE}
use Rattle.rules.specs.Options.{or, then}
use Rattle.rules.specs.Syntax.{TypeExpr, expr_run, TypeDef, GenericAliasDef, CompiledSchema}
use Rattle.rules.specs.ReadDefinitions.{generic_alias}
use Rattle.rules.specs.Output.{each, listed}
use Rattle.rules.specs.Substitute.{one_parameter, lookup, lookup_alias}
use Rattle.laws.specs.DefinitionRuns.{own, generic_alias_words, GoodAlias}
use Rattle.laws.proofs.Definitions.{generic_alias_exact}
use Rattle.image_words.proofs.Gives.{of}
use Rattle.image_words.specs.Stands.{Stands}
use Rattle.image_words.proofs.Stands.{exact_gives}
use Rattle.image_words.proofs.Steps.{true_false}
use Rattle.image_layout.specs.declared.Layout.{Layout}
use Rattle.image_layout.specs.declared.DefinitionRow.{DefinitionRow}
use Rattle.image_layout.specs.Rows.{IsDefinitionRow}
use Rattle.image_layout.specs.Open.{Open, Stored, DefinitionStands, pool_words}
use Rattle.image_words.proofs.Heads.{head, tail}
use Rattle.subst_names.specs.declared.generic.Alias.{Alias}
use Rattle.subst_names.specs.Aliases.{is_generic, IsAlias, alias_of}
use Rattle.subst_names.proofs.NamesLaws.{there, past}

module _ (names : ℕ) (ws : List ℕ) (start : ℕ) (a : GenericAliasDef) (h : Stored (generic_alias names) ws start a) where
  stands : Stands ws (generic_alias_words a) start h.next × GoodAlias names a
  stands = (of (exact_gives (generic_alias_exact names) ws start) h.read).1

  -- another count of parameters
  pub not_one : (get_or ws start 0 ≡ 1 → ⊥) → alias_of a ≡ none
  unfolding generic_alias_words listed each one_parameter
  not_one n = go a.type_params a.target_type stands.0
    where
      go : (ps : List ℕ) (t : TypeExpr) → Stands ws (listed own ps ++ expr_run t) start h.next → alias_of (record { type_params = ps; target_type = t }) ≡ none
      go [] t s = refl
      go (x ∷ []) t s = absurd (n (head s))
      go (x ∷ y ∷ ys) t s = refl

  -- one parameter, and the target behind it
  pub is_one : get_or ws start 0 ≡ 1 → (r : Alias) → r.some ≡ true → r.param.0 ≡ get_or ws (start + 1) 0 → r.target ≡ start + 2 → IsAlias names ws r (alias_of a)
  unfolding generic_alias_words listed each one_parameter
  is_one e r some_is param_is target_is = go a.type_params a.target_type stands.0 stands.1
    where
      go : (ps : List ℕ) (t : TypeExpr) → Stands ws (listed own ps ++ expr_run t) start h.next → GoodAlias names (record { type_params = ps; target_type = t })
          → IsAlias names ws r (alias_of (record { type_params = ps; target_type = t }))
      go [] t s g = absurd (omega (arith, head s))
      go (x ∷ []) t s g =
          let m : start + 1 + 1 ≡ r.target = omega arith in
          (some_is, param_is ∙ head (tail s), h.next, record { run_at = subst (λ (k : ℕ). Stands ws (expr_run t) k h.next) m (tail (tail s)); stored = g.target_type })
      go (x ∷ y ∷ ys) t s g = absurd (omega (arith, head s))

-- the definition that a name's number says
pub alias_at : (s : CompiledSchema) (x d : ℕ) → d ≡ or (lookup s x) NONE → length s.definitions ≤ NONE → lookup_alias s x ≡ then (get_elem? s.definitions d) one_parameter
unfolding lookup_alias then or
alias_at s x d e few = go (lookup s x) e
  where
    go : (o : Option ℕ) → d ≡ or o NONE → then o (λ n. then (get_elem? s.definitions n) one_parameter) ≡ then (get_elem? s.definitions d) one_parameter
    go none e = sym (ap (λ (o : Option TypeDef). then o one_parameter) (past s.definitions d (omega arith)))
    go (some n) e = ap (λ (k : ℕ). then (get_elem? s.definitions k) one_parameter) (sym e)

module _ {l : Layout} {s : CompiledSchema} (o : Open l s) (d : ℕ) (r : DefinitionRow) (row : IsDefinitionRow l d r) where
  abbrev Alike : TypeDef → Type 0
  Alike t = DefinitionStands l.names.rows l.strings.rows (pool_words l) r.kind r.start t

  alike : d < l.definitions.rows → (t : TypeDef) × (get_elem? s.definitions d ≡ some t) × Alike t
  alike h =
      let e = there s.definitions d (omega (arith, o.definitions)) in
      let k : Alike e.0 = rw (row.kind h, row.start h) (o.definition d e.0 e.1) in
      (e.0, e.1, k)

  abbrev Generic : TypeDef → Type 0
  Generic t = (a : GenericAliasDef) × (t ≡ TypeDef.generic_alias a) × Stored (generic_alias l.names.rows) (pool_words l) r.start a

  generic : (t : TypeDef) → Alike t → is_generic r.kind ≡ true → Generic t
  generic TypeDef.other k g = absurd (true_false (sym g ∙ ap is_generic k))
  generic (TypeDef.message m) k g = absurd (true_false (sym g ∙ ap is_generic k.0))
  generic (TypeDef.generic_alias a) k g = (a, refl, k.1)
  generic (TypeDef.trait t) k g = absurd (true_false (sym g ∙ ap is_generic k.0))
  generic (TypeDef.implementation i) k g = absurd (true_false (sym g ∙ ap is_generic k.0))

  other : (t : TypeDef) → Alike t → is_generic r.kind ≡ false → one_parameter t ≡ none
  unfolding one_parameter
  other TypeDef.other k g = refl
  other (TypeDef.message m) k g = refl
  other (TypeDef.generic_alias a) k g = absurd (true_false (sym (ap is_generic k.0) ∙ g))
  other (TypeDef.trait t) k g = refl
  other (TypeDef.implementation i) k g = refl

  -- the row is a generic alias
  pub generic_here : is_generic r.kind ≡ true
      → (a : GenericAliasDef) × (then (get_elem? s.definitions d) one_parameter ≡ alias_of a) × Stored (generic_alias l.names.rows) (pool_words l) r.start a
  unfolding then
  generic_here g = go (dec_le l.definitions.rows d)
    where
      go : Dec (l.definitions.rows ≤ d) → (a : GenericAliasDef) × (then (get_elem? s.definitions d) one_parameter ≡ alias_of a) × Stored (generic_alias l.names.rows) (pool_words l) r.start a
      go (yes h) = absurd (true_false (sym g ∙ ap is_generic (row.past h)))
      go (no h) =
          let t = alike (omega arith) in
          let a = generic t.0 t.2 g in
          (a.0, ap (λ (o : Option TypeDef). then o one_parameter) t.1 ∙ ap one_parameter a.1, a.2)

  -- it is none
  pub none_here : is_generic r.kind ≡ false → then (get_elem? s.definitions d) one_parameter ≡ none
  unfolding then
  none_here g = go (dec_le l.definitions.rows d)
    where
      go : Dec (l.definitions.rows ≤ d) → then (get_elem? s.definitions d) one_parameter ≡ none
      go (yes h) = ap (λ (o : Option TypeDef). then o one_parameter) (past s.definitions d (omega (arith, o.definitions)))
      go (no h) = let t = alike (omega arith) in ap (λ (o : Option TypeDef). then o one_parameter) t.1 ∙ other t.0 t.2 g
