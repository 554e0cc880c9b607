-- Substitution with its visits counted to the end, and what is too large once they are compared with 1,024.
use Rattle.std.specs.Prelude.{ℕ, zero, suc, ◌+◌, true, false, List, [], ◌∷◌, length, leb}
use Rattle.std.proofs.Math.Option.{Option, none, some}
use Rattle.rules.specs.Syntax.{ResolvedType, TypeExpr, run, Param, CompiledSchema}
use Rattle.rules.specs.Types.{POISON}
use Rattle.rules.specs.Substitute.{Counted, too_large, done, after, lookup_alias, lookup_qualified, resolve_name, named_or_poison}

-- compared with 1,024 once
unfoldable pub cut : Counted ResolvedType → Counted ResolvedType
cut too_large = too_large
cut (done v t) = elim (leb v 1024) [ true ↦ done v t | false ↦ too_large ]

-- a run over 64 words is too large
unfoldable pub short : ℕ → ResolvedType → Counted ResolvedType
short v t = elim (leb (length (run t)) 64) [ true ↦ done v t | false ↦ too_large ]

abbrev pub Rec : Type 0
Rec = List (Param ResolvedType) → TypeExpr → Counted ResolvedType

module _ (schema : CompiledSchema) where
  unfoldable pub plain_expand : Rec → List (Param ResolvedType) → TypeExpr → Option (Param TypeExpr) → Counted ResolvedType
  plain_expand rec params argument none = short 1 POISON
  plain_expand rec params argument (some alias) =
      after (rec params argument) λ v t.
      after (rec (record { name = alias.name; ty = t } ∷ []) alias.ty) λ w u.
      short (suc (v + w)) u

  unfoldable pub plain_node : Rec → List (Param ResolvedType) → TypeExpr → Counted ResolvedType
  plain_node rec params (TypeExpr.leaf t) = short 1 t
  plain_node rec params (TypeExpr.named x) = short 1 (resolve_name schema params x)
  plain_node rec params (TypeExpr.qualified s x) = short 1 (named_or_poison (lookup_qualified schema s x))
  plain_node rec params (TypeExpr.generic x a) = plain_expand rec params a (lookup_alias schema x)
  plain_node rec params (TypeExpr.one c a) = after (rec params a) λ v t. short (suc v) (ResolvedType.one c t)
  plain_node rec params (TypeExpr.fixed low high a) = after (rec params a) λ v t. short (suc v) (ResolvedType.fixed low high t)
  plain_node rec params (TypeExpr.two c a b) =
      after (rec params a) λ v t.
      after (rec params b) λ w u. short (suc (v + w)) (ResolvedType.two c t u)

  unfoldable pub plain_depth : ℕ → Rec
  plain_depth zero params e = too_large
  plain_depth (suc depth) params e = plain_node (plain_depth depth) params e
