-- What is good among some names is good among more: so outputs of two images compare.
use Prim.Native.Nat.{ℕ, ◌≤◌, max}
use mathlib.Core.Path.{◌≡◌}
use mathlib.Core.List.{List, ◌++◌}
use native.Mathlib.Omega.{arith}
use Rattle.rules.specs.Syntax.{ResolvedType}
use Rattle.rules.specs.Signatures.{PortableSignature}
use Rattle.rules.specs.Infer.{PortableExpr, PortableExprKind, typed}
use Rattle.rules.specs.Bodies.{PortableStatement, PortableFunction}
use Rattle.rules.specs.Output.{functions_words, signatures_words}
use Rattle.rules.specs.Good.{Good, Stored}
use Rattle.laws.proofs.Each.{map_all, map_option}
use Rattle.rules.specs.Exact.{Few}
use Rattle.rules.specs.Typed.{TypedValue, TypedKind, TypedNested, TypedStatement, TypedSignature, TypedFunction}
use Rattle.rules.proofs.TypedRuns as runs

few_more : {A : Type 0} {most : ℕ} {P Q : A → Type 0} → ((a : A) → P a → Q a) → (xs : List A) → Few most P xs → Few most Q xs
few_more f xs h = record { few = h.few; each = map_all f xs h.each }

module _ (n m : ℕ) (l : n ≤ m) where
  pub good_more : (t : ResolvedType) → Good n t → Good m t
  good_more (ResolvedType.plain c) g = g
  good_more (ResolvedType.sub s k) g = g
  good_more (ResolvedType.bits ns) g = (g.0, map_all (λ x h. omega arith) ns g.1)
  good_more (ResolvedType.named k) g = tt
  good_more (ResolvedType.one c t) g = (g.0, good_more t g.1)
  good_more (ResolvedType.fixed low high t) g = good_more t g
  good_more (ResolvedType.two c t u) g = (g.0, good_more t g.1, good_more u g.2)

  pub stored_more : (t : ResolvedType) → Stored n t → Stored m t
  stored_more t s = record { good = good_more t s.good; short = s.short }

  mutual
    value_more : (e : PortableExpr) → TypedValue n e → TypedValue m e
    value_more (typed t k) g = (stored_more t g.0, kind_more k g.1)

    kind_more : (k : PortableExprKind) → TypedKind n k → TypedKind m k
    kind_more (PortableExprKind.literal c low high) g = g
    kind_more (PortableExprKind.bool b) g = g
    kind_more (PortableExprKind.string s) g = g
    kind_more (PortableExprKind.local x) g = g
    kind_more PortableExprKind.self_ref g = g
    kind_more (PortableExprKind.self_field f) g = g
    kind_more (PortableExprKind.binary op l r) g = (value_more l g.0, value_more r g.1)
    kind_more (PortableExprKind.unary op e) g = value_more e g

  nested_more : (f : ℕ) (e : PortableExpr) → TypedNested n f e → TypedNested m f e
  nested_more f e g = record { good = value_more e g.good; deep = g.deep }

  statement_more : (s : PortableStatement) → TypedStatement n s → TypedStatement m s
  statement_more (PortableStatement.let_local x t e) g = (stored_more t g.0, nested_more 32 e g.1)
  statement_more (PortableStatement.return v) g = map_option (nested_more 32) v g
  statement_more (PortableStatement.assign_self_field f e) g = nested_more 32 e g

  signature_more : (s : PortableSignature) → TypedSignature n s → TypedSignature m s
  signature_more s g = record { params = few_more (λ p h. stored_more p.ty h) s.params g.params; return_type = map_option stored_more s.return_type g.return_type }

  function_more : (f : PortableFunction) → TypedFunction n f → TypedFunction m f
  function_more f g = record {
    params = few_more (λ p h. stored_more p.ty h) f.params g.params;
    return_type = map_option stored_more f.return_type g.return_type;
    statements = few_more statement_more f.statements g.statements;
  }

-- no output begins another, whatever the images
pub functions_prefix_free : (n m : ℕ) (fs gs : List PortableFunction) (a b : List ℕ) → Few 64 (TypedFunction n) fs → Few 64 (TypedFunction m) gs
    → functions_words fs ++ a ≡ functions_words gs ++ b → (fs ≡ gs) × (a ≡ b)
functions_prefix_free n m fs gs a b g h e =
    runs.functions_prefix_free (max n m) fs gs a b (few_more (function_more n (max n m) (omega arith)) fs g) (few_more (function_more m (max n m) (omega arith)) gs h) e

pub signatures_prefix_free : (n m : ℕ) (ss ts : List PortableSignature) (a b : List ℕ) → Few 64 (TypedSignature n) ss → Few 64 (TypedSignature m) ts
    → signatures_words ss ++ a ≡ signatures_words ts ++ b → (ss ≡ ts) × (a ≡ b)
signatures_prefix_free n m ss ts a b g h e =
    runs.signatures_prefix_free (max n m) ss ts a b (few_more (signature_more n (max n m) (omega arith)) ss g) (few_more (signature_more m (max n m) (omega arith)) ts h) e
