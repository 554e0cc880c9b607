-- Resolved types and type expressions in the pool, in prefix order, with their bounds.
use Rattle.std.specs.Prelude.{ℕ, zero, suc, ◌-◌, leb}
use Rattle.rules.specs.Words.{within}
use Rattle.rules.specs.Syntax.{ResolvedType, TypeExpr, Param}
use Rattle.rules.specs.Reader.{Reader, ◌>>=◌, give, fail, rule, here, word, below, many}
use Rattle.rules.specs.Kinds.{type_kind}
use Rattle.rules.specs.declared.kinds.TypeKind.{TypeKind}

-- signed 0 or 1, bits 1 to 64
unfoldable pub sub_byte : Reader ResolvedType
sub_byte = do
  s ← below 2
  n ← word
  _ ← rule (within 1 64 n)
  give (ResolvedType.sub s n)

-- 64 bits: low, high
unfoldable pub wide : Reader (ℕ × ℕ)
wide = do
  low ← word
  high ← word
  give (low, high)

-- a type run has at most 64 words, counted as stored
unfoldable pub sized : {A : Type 0} → Reader A → Reader A
sized r = do
  start ← here
  t ← r
  stop ← here
  _ ← rule (leb (stop - start) 64)
  give t

-- over the number of name rows
module _ (names : ℕ) where
  abbrev pub name : Reader ℕ
  name = below names

  unfoldable pub bits_inline : Reader ResolvedType
  bits_inline = do
    ns ← many 62 name
    give (ResolvedType.bits ns)

  -- a resolved type behind its code; its parts by `part`
  unfoldable pub type_node : Reader ResolvedType → TypeKind → ℕ → Reader ResolvedType
  type_node part TypeKind.Plain c = give (ResolvedType.plain c)
  type_node part TypeKind.Sub c = sub_byte
  type_node part TypeKind.Bits c = bits_inline
  type_node part TypeKind.Named c = do
    n ← word
    give (ResolvedType.named n)
  type_node part TypeKind.Qualified c = fail
  type_node part TypeKind.Generic c = fail
  type_node part TypeKind.One c = do
    t ← part
    give (ResolvedType.one c t)
  type_node part TypeKind.Fixed c = do
    n ← wide
    t ← part
    give (ResolvedType.fixed n.0 n.1 t)
  type_node part TypeKind.Two c = do
    t ← part
    u ← part
    give (ResolvedType.two c t u)
  type_node part TypeKind.Unknown c = fail

  unfoldable pub type_tree : ℕ → Reader ResolvedType
  type_tree zero = fail
  type_tree (suc depth) = do
    c ← word
    type_node (type_tree depth) (type_kind c) c

  -- a run of 64 words is at most 64 deep
  unfoldable pub resolved_type : Reader ResolvedType
  resolved_type = sized (type_tree 64)

  -- a type expression behind its code
  unfoldable pub type_expr_node : Reader TypeExpr → TypeKind → ℕ → Reader TypeExpr
  type_expr_node part TypeKind.Plain c = give (TypeExpr.leaf (ResolvedType.plain c))
  type_expr_node part TypeKind.Sub c = do
    t ← sub_byte
    give (TypeExpr.leaf t)
  type_expr_node part TypeKind.Bits c = do
    t ← bits_inline
    give (TypeExpr.leaf t)
  type_expr_node part TypeKind.Named c = do
    n ← name
    give (TypeExpr.named n)
  type_expr_node part TypeKind.Qualified c = do
    s ← name
    n ← name
    give (TypeExpr.qualified s n)
  type_expr_node part TypeKind.Generic c = do
    n ← name
    a ← part
    give (TypeExpr.generic n a)
  type_expr_node part TypeKind.One c = do
    t ← part
    give (TypeExpr.one c t)
  type_expr_node part TypeKind.Fixed c = do
    n ← wide
    t ← part
    give (TypeExpr.fixed n.0 n.1 t)
  type_expr_node part TypeKind.Two c = do
    t ← part
    u ← part
    give (TypeExpr.two c t u)
  type_expr_node part TypeKind.Unknown c = fail

  unfoldable pub type_expr_tree : ℕ → Reader TypeExpr
  type_expr_tree zero = fail
  type_expr_tree (suc depth) = do
    c ← word
    type_expr_node (type_expr_tree depth) (type_kind c) c

  unfoldable pub type_expr : Reader TypeExpr
  type_expr = sized (type_expr_tree 64)

  -- a name, then its type: a parameter, a field
  unfoldable pub param : {A : Type 0} → Reader A → Reader (Param A)
  param r = do
    n ← name
    t ← r
    give (record { name = n; ty = t })
