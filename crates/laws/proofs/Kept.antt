-- What substitution keeps: where each name of a schema has N and each definition D, an expression with E resolves to a type with P. What look-ups give has it.
use Prim.Native.Nat.{ℕ}
use mathlib.Core.Bool.{Bool, true, false, cond}
use mathlib.Core.List.{List, [], ◌∷◌}
use mathlib.Core.Option.{Option, none, some}
use lib.ListN.{get_elem?}
use lib.Dec.{ltb, eqb}
use Rattle.rules.specs.Words.{NONE, same}
use Rattle.rules.specs.Syntax.{ResolvedType, TypeExpr, Param, Name, GenericAliasDef, TypeDef, CompiledSchema}
use Rattle.rules.specs.Options.{then, or_else}
use Rattle.rules.specs.Types.{POISON}
use Rattle.rules.specs.Substitute.{primitive, number, definition_of, find_text, find_param, one_parameter, lookup, lookup_primitive_alias, lookup_alias, lookup_qualified, named_or_poison, resolve_name}
use Rattle.rules.specs.Good.{All, AllOption}
use Rattle.laws.proofs.Each.{at_all, then_all, then_any, or_all, or_else_all}

pub record Kept (N : Name → Type 0) (D : TypeDef → Type 0) (E : TypeExpr → Type 0) (P : ResolvedType → Type 0) : Type 0 where
  pub poison : P POISON
  pub definition : (n : Name) → N n → P (ResolvedType.named n.definition)
  pub alias : (n : Name) → N n → AllOption P n.alias
  pub target : (a : GenericAliasDef) → D (TypeDef.generic_alias a) → E a.target_type
  pub leaf : (t : ResolvedType) → E (TypeExpr.leaf t) → P t
  pub generic : (x : ℕ) (a : TypeExpr) → E (TypeExpr.generic x a) → E a
  pub one : (c : ℕ) (a : TypeExpr) → E (TypeExpr.one c a) → E a × ((t : ResolvedType) → P t → P (ResolvedType.one c t))
  pub fixed : (low high : ℕ) (a : TypeExpr) → E (TypeExpr.fixed low high a) → E a × ((t : ResolvedType) → P t → P (ResolvedType.fixed low high t))
  pub two : (c : ℕ) (a b : TypeExpr) → E (TypeExpr.two c a b) → E a × E b × ((t u : ResolvedType) → P t → P u → P (ResolvedType.two c t u))

-- parts of what has a property
module _ (P : ResolvedType → Type 0) where
  abbrev IsNumber : ℕ → Type 0
  IsNumber n = P (ResolvedType.named n)

  primitive_all : (t : ResolvedType) → P t → AllOption P (primitive t)
  unfolding primitive
  primitive_all (ResolvedType.plain c) h = go (ltb c 14)
    where
      go : (b : Bool) → AllOption P (cond b (some (ResolvedType.plain c)) none)
      go true = h
      go false = tt
  primitive_all (ResolvedType.sub s n) h = tt
  primitive_all (ResolvedType.bits ns) h = tt
  primitive_all (ResolvedType.named n) h = tt
  primitive_all (ResolvedType.one c t) h = tt
  primitive_all (ResolvedType.fixed low high t) h = tt
  primitive_all (ResolvedType.two c t u) h = tt

  number_all : (t : ResolvedType) → P t → AllOption IsNumber (number t)
  unfolding number
  number_all (ResolvedType.plain c) h = tt
  number_all (ResolvedType.sub s n) h = tt
  number_all (ResolvedType.bits ns) h = tt
  number_all (ResolvedType.named n) h = h
  number_all (ResolvedType.one c t) h = tt
  number_all (ResolvedType.fixed low high t) h = tt
  number_all (ResolvedType.two c t u) h = tt

  param_all : (x : ℕ) (ps : List (Param ResolvedType)) → All (λ p. P p.ty) ps → AllOption P (find_param x ps)
  unfolding find_param
  param_all x [] h = tt
  param_all x (p ∷ ps) h = go (eqb x p.name) (param_all x ps h.1)
    where
      go : (b : Bool) → AllOption P (find_param x ps) → AllOption P (elim b as (λ _. Option ResolvedType) [ true ↦ some p.ty | false ↦ find_param x ps ])
      go true ih = h.0
      go false ih = ih

text_all : (N : Name → Type 0) (t : List ℕ) (ns : List Name) → All N ns → AllOption N (find_text t ns)
unfolding find_text
text_all N t [] h = tt
text_all N t (n ∷ ns) h = go (same t n.text) (text_all N t ns h.1)
  where
    go : (b : Bool) → AllOption N (find_text t ns) → AllOption N (elim b as (λ _. Option Name) [ true ↦ some n | false ↦ find_text t ns ])
    go true ih = h.0
    go false ih = ih

module _ {N : Name → Type 0} {D : TypeDef → Type 0} {E : TypeExpr → Type 0} {P : ResolvedType → Type 0} (kept : Kept N D E P) where
  abbrev pub Target : Param TypeExpr → Type 0
  Target p = E p.ty

  definition_kept : (n : Name) → N n → AllOption (IsNumber P) (definition_of n)
  unfolding definition_of
  definition_kept n h = go (eqb n.definition NONE)
    where
      go : (b : Bool) → AllOption (IsNumber P) (elim b as (λ _. Option ℕ) [ true ↦ then n.alias number | false ↦ some n.definition ])
      go true = then_all P (IsNumber P) n.alias number (kept.alias n h) (number_all P)
      go false = kept.definition n h

  parameter_kept : (d : TypeDef) → D d → AllOption Target (one_parameter d)
  unfolding one_parameter
  parameter_kept TypeDef.other h = tt
  parameter_kept (TypeDef.message m) h = tt
  parameter_kept (TypeDef.generic_alias a) h = go a.type_params
    where
      go : (xs : List ℕ)
          → AllOption Target (elim xs as (λ _. Option (Param TypeExpr)) [ [] ↦ none | x ∷ xs ↦ elim xs as (λ _. Option (Param TypeExpr)) [ [] ↦ some (record { name = x; ty = a.target_type }) | y ∷ ys ↦ none ] ])
      go [] = tt
      go (x ∷ []) = kept.target a h
      go (x ∷ y ∷ ys) = tt
  parameter_kept (TypeDef.trait t) h = tt
  parameter_kept (TypeDef.implementation i) h = tt

  module _ (schema : CompiledSchema) (names : All N schema.names) (definitions : All D schema.definitions) where
    name_at : (x : ℕ) → AllOption N (get_elem? schema.names x)
    name_at x = at_all N schema.names x names

    lookup_kept : (x : ℕ) → AllOption (IsNumber P) (lookup schema x)
    unfolding lookup
    lookup_kept x = then_all N (IsNumber P) (get_elem? schema.names x) definition_of (name_at x) definition_kept

    pub qualified_kept : (m x : ℕ) → AllOption (IsNumber P) (lookup_qualified schema m x)
    unfolding lookup_qualified
    qualified_kept m x =
        then_any (IsNumber P) (get_elem? schema.names m) _ (λ a. then_any (IsNumber P) (get_elem? schema.names x) _ (λ b.
        then_all N (IsNumber P) (find_text _ schema.names) definition_of (text_all N _ schema.names names) definition_kept))

    primitive_kept : (x : ℕ) → AllOption P (lookup_primitive_alias schema x)
    unfolding lookup_primitive_alias
    primitive_kept x = then_all N P (get_elem? schema.names x) _ (name_at x) (λ n h. then_all P P n.alias primitive (kept.alias n h) (primitive_all P))

    pub alias_kept : (x : ℕ) → AllOption Target (lookup_alias schema x)
    unfolding lookup_alias
    alias_kept x = then_any Target (lookup schema x) _ (λ n. then_all D Target (get_elem? schema.definitions n) one_parameter (at_all D schema.definitions n definitions) parameter_kept)

    pub named_kept : (o : Option ℕ) → AllOption (IsNumber P) o → P (named_or_poison o)
    unfolding named_or_poison
    named_kept none h = kept.poison
    named_kept (some n) h = h

    pub resolve_kept : (ps : List (Param ResolvedType)) (x : ℕ) → All (λ p. P p.ty) ps → P (resolve_name schema ps x)
    unfolding resolve_name
    resolve_kept ps x h =
        or_all P (or_else (find_param x ps) (lookup_primitive_alias schema x)) (named_or_poison (lookup schema x))
        (or_else_all P (find_param x ps) (lookup_primitive_alias schema x) (param_all P x ps h) (primitive_kept x)) (named_kept (lookup schema x) (lookup_kept x))
