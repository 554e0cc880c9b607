-- A generic name that is no alias. Assumes nothing.
use Prim.Native.Nat.{ℕ}
use mathlib.Core.Path.{◌≡◌, refl, sym, ap, ◌∙◌}
use mathlib.Core.Bool.{false}
use mathlib.Core.List.{List}
use mathlib.Core.Option.{Option, none, some}
use Rattle.rules.specs.Syntax.{ResolvedType, TypeExpr, Param, CompiledSchema}
use Rattle.rules.specs.Types.{POISON}
use Rattle.rules.specs.Substitute.{lookup_alias}
use Rattle.laws.specs.Visits.{Rec, short, plain_expand, plain_node}
use Rattle.image_words.proofs.Steps.{true_false}
use Rattle.subst_names.specs.declared.generic.Alias.{Alias}
use Rattle.subst_names.specs.Aliases.{IsAlias}

pub is_poison : (s : CompiledSchema) (rec : Rec) (ps : List (Param ResolvedType)) (x : ℕ) (a : TypeExpr) → lookup_alias s x ≡ none → plain_node s rec ps (TypeExpr.generic x a) ≡ short 1 POISON
unfolding plain_node plain_expand
is_poison s rec ps x a e = ap (plain_expand s rec ps a) e

pub no_alias : (names : ℕ) (ws : List ℕ) (r : Alias) (o : Option (Param TypeExpr)) → IsAlias names ws r o → r.some ≡ false → o ≡ none
no_alias names ws r none h e = refl
no_alias names ws r (some p) h e = absurd (true_false (sym h.0 ∙ e))
