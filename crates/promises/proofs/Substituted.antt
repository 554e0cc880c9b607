-- Substitution in a schema of small words gives types of small words.
use mathlib.Core.List.{List}
use native.Mathlib.Omega.{arith}
use Rattle.rules.specs.Syntax.{ResolvedType, TypeExpr, run, expr_run, Param, CompiledSchema}
use Rattle.rules.specs.Substitute.{substitute_type}
use Rattle.rules.specs.Output.{listed}
use Rattle.rules.specs.Good.{All}
use Rattle.laws.specs.DefinitionRuns.{own, generic_alias_words}
use Rattle.laws.proofs.Counts.{Counts}
use Rattle.laws.proofs.Kept.{Kept}
use Rattle.laws.specs.Substitution.{Accepted}
use Rattle.laws.proofs.Substitution.{substitute_keeps}
use Rattle.promises.proofs.Small.{Small, small_append, small_left, small_right}
use Rattle.promises.proofs.SmallSchema.{SmallType, SmallName, SmallDefinition, SmallSchema}

small_kept : Kept SmallName SmallDefinition (λ e. Small (expr_run e)) SmallType
unfolding run expr_run generic_alias_words
small_kept = record {
  poison = (omega arith, (omega arith, tt));
  definition = λ n h. (omega arith, (h.definition, tt));
  alias = λ n h. h.alias;
  target = λ a h. small_right (listed own a.type_params) (expr_run a.target_type) h;
  leaf = λ t h. h;
  generic = λ x a h. h.1.1;
  one = λ c a h. (h.1, λ t p. (h.0, p));
  fixed = λ low high a h. (h.1.1.1, λ t p. (h.0, (h.1.0, (h.1.1.0, p))));
  two = λ c a b h. (small_left (expr_run a) _ h.1, small_right (expr_run a) _ h.1, λ t u p q. (h.0, small_append (run t) (run u) p q));
}

module _ (schema : CompiledSchema) (s : SmallSchema schema) where
  pub small_substituted : (ps : List (Param ResolvedType)) (e : TypeExpr) → All (λ p. SmallType p.ty) ps → Small (expr_run e) → Counts (substitute_type schema ps e) (λ v t. Accepted v t × SmallType t)
  small_substituted ps e h g = substitute_keeps small_kept schema s.names s.definitions ps e h g
