-- Each kind of expression, by the code that stands there.
use Prim.Native.Nat.{ℕ, ◌<◌, ◌≤◌}
use mathlib.Core.Path.{◌≡◌, refl, sym, subst, ◌∙◌}
use mathlib.Core.Bool.{Bool, true, false, cond}
use mathlib.Core.List.{List}
use mathlib.Core.Option.{Option, none, some}
use lib.ListN.{get_or}
use borrow.Author.Tests.{lt-ltb, le-ltb}
use Rattle.rules.specs.Syntax.{ResolvedType, run, Expr}
use Rattle.rules.specs.Types.{BOOL, STRING, VOID}
use Rattle.rules.specs.Kinds.{expr_kind}
use Rattle.rules.specs.Fits.{literal_own}
use Rattle.rules.specs.Options.{or}
use Rattle.rules.specs.Infer.{FunctionContext, is_arithmetic, expression_hint, binary_hint}
use Rattle.rules.specs.declared.kinds.ExprKind.{ExprKind}
use Rattle.type_words.specs.declared.HeldType.{HeldType}
use Rattle.type_words.specs.declared.MaybeType.{MaybeType}
use Rattle.type_words.specs.Runs.{Runs}
use Rattle.type_words.specs.Holds.{Holds, MaybeHolds}
use Rattle.type_words.proofs.Maybe.{some_of, none_of}
use Rattle.infer_context.specs.Stood.{Stood}
use Rattle.infer_context.proofs.Nodes.{by_code}
use Rattle.infer_leaves.proofs.Literals.{words_of}
use Rattle.write_expr_type.specs.Foretold.{foretold, left_type}

pub or_some : (names : ℕ) (m : MaybeType) (o : Option ResolvedType) (d : ResolvedType) → MaybeHolds names m o → m.some ≡ true → Holds names m.ty (or o d)
unfolding or
or_some names m o d w e = let v = some_of o w e in rw v.is v.holds

pub or_none : (names : ℕ) (m : MaybeType) (o : Option ResolvedType) (d : ResolvedType) → MaybeHolds names m o → m.some ≡ false → or o d ≡ d
unfolding or
or_none names m o d w e = rw (none_of names m o w e)

-- a held type's words
pub held_runs : {names : ℕ} {h : HeldType} {t : ResolvedType} → Holds names h t → Runs h (run t)
held_runs p = record { run = p.run; count = p.count; small = p.small }

-- what is foretold of an expression that stands there
abbrev Told : ℕ → ℕ → List ℕ → ℕ → ℕ → ℕ → FunctionContext → HeldType → Expr → Type 0
Told names strings ws nest at n c r e = Stood names strings ws nest e at n → Holds names r (foretold c e)

module _ {names strings : ℕ} {ws : List ℕ} {nest at n : ℕ} (c : FunctionContext) (r : HeldType) where
  pub told_literal : expr_kind (get_or ws at 0) ≡ ExprKind.Literal → (k : ℕ) → k ≡ get_or ws at 0 → (k < 3 → (names : ℕ) → Holds names r (literal_own k)) → (e : Expr) → Told names strings ws nest at n c r e
  unfolding foretold
  told_literal q k i h e s =
      by_code (Told names strings ws nest at n c r) q (λ j low high s.
      let w = words_of s in
      let f : k ≡ j = i ∙ w.code in
      subst (λ (a : ℕ). Holds names r (literal_own a)) f (h (subst (λ (a : ℕ). a < 3) (sym f) w.known) names)) e s s

  pub told_flag : expr_kind (get_or ws at 0) ≡ ExprKind.Flag → Holds names r BOOL → (e : Expr) → Told names strings ws nest at n c r e
  unfolding foretold
  told_flag q h e s = by_code (Told names strings ws nest at n c r) q (λ b s. h) e s s

  pub told_text : expr_kind (get_or ws at 0) ≡ ExprKind.Text → Holds names r STRING → (e : Expr) → Told names strings ws nest at n c r e
  unfolding foretold
  told_text q h e s = by_code (Told names strings ws nest at n c r) q (λ b s. h) e s s

  module _ (h : (e : Expr) → Stood names strings ws nest e at n → Holds names r (or (expression_hint c e) VOID)) where
    pub told_local : expr_kind (get_or ws at 0) ≡ ExprKind.Local → (e : Expr) → Told names strings ws nest at n c r e
    unfolding foretold
    told_local q e s = by_code (Told names strings ws nest at n c r) q (λ x s. h (Expr.local x) s) e s s

    pub told_self_ref : expr_kind (get_or ws at 0) ≡ ExprKind.SelfRef → (e : Expr) → Told names strings ws nest at n c r e
    unfolding foretold
    told_self_ref q e s = by_code (Told names strings ws nest at n c r) q (λ s. h Expr.self_ref s) e s s

    pub told_field : expr_kind (get_or ws at 0) ≡ ExprKind.FieldAccess → (e : Expr) → Told names strings ws nest at n c r e
    unfolding foretold
    told_field q e s = by_code (Told names strings ws nest at n c r) q (λ x d s. h (Expr.field_access x d) s) e s s

  pub told_call : expr_kind (get_or ws at 0) ≡ ExprKind.Call → Holds names r VOID → (e : Expr) → Told names strings ws nest at n c r e
  unfolding foretold
  told_call q h e s = by_code (Told names strings ws nest at n c r) q (λ x es s. h) e s s

  pub told_method : expr_kind (get_or ws at 0) ≡ ExprKind.TraitMethodCall → Holds names r VOID → (e : Expr) → Told names strings ws nest at n c r e
  unfolding foretold
  told_method q h e s = by_code (Told names strings ws nest at n c r) q (λ t x d es s. h) e s s

  pub told_binary : expr_kind (get_or ws at 0) ≡ ExprKind.Binary → ((op : ℕ) (d e : Expr) → Told names strings ws nest at n c r (Expr.binary op d e)) → (e : Expr) → Told names strings ws nest at n c r e
  told_binary q h e s = by_code (Told names strings ws nest at n c r) q h e s s

  pub told_unary : expr_kind (get_or ws at 0) ≡ ExprKind.Unary → ((op : ℕ) (e : Expr) → Stood names strings ws nest (Expr.unary op e) at n → Holds names r (foretold c e)) → (e : Expr) → Told names strings ws nest at n c r e
  unfolding foretold
  told_unary q h e s = by_code (Told names strings ws nest at n c r) q h e s s

  pub told_unknown : expr_kind (get_or ws at 0) ≡ ExprKind.Unknown → (e : Expr) → Told names strings ws nest at n c r e
  told_unknown q e s = by_code (Told names strings ws nest at n c r) q tt e s s

-- a binary's type, by what is told before its left is asked
abbrev pub before_left : FunctionContext → ℕ → Expr → Expr → Option ResolvedType
before_left c op d e = cond (is_arithmetic op) (binary_hint c op d e none) (some BOOL)

module _ (c : FunctionContext) (names op : ℕ) (d e : Expr) (m : MaybeType) where
  pub compares : 4 ≤ op → MaybeHolds names m (some BOOL) → MaybeHolds names m (before_left c op d e)
  compares l w = rw (le-ltb op 4 l) w

  pub computes : op < 4 → MaybeHolds names m (binary_hint c op d e none) → MaybeHolds names m (before_left c op d e)
  computes l w = rw (lt-ltb op 4 l) w

module _ (c : FunctionContext) (names op : ℕ) (d e : Expr) (m : MaybeType) (w : MaybeHolds names m (before_left c op d e)) where
  binary_opened : foretold c (Expr.binary op d e) ≡ or (before_left c op d e) (foretold c d)
  unfolding foretold
  binary_opened = go (is_arithmetic op)
    where
      go : (b : Bool) → cond b (or (binary_hint c op d e none) (foretold c d)) BOOL ≡ or (cond b (binary_hint c op d e none) (some BOOL)) (foretold c d)
      go true = refl
      go false = unfold or in refl

  pub binary_told : m.some ≡ true → Holds names m.ty (foretold c (Expr.binary op d e))
  binary_told q = subst (Holds names m.ty) (sym binary_opened) (or_some names m (before_left c op d e) (foretold c d) w q)

  pub binary_left : m.some ≡ false → foretold c (Expr.binary op d e) ≡ foretold c d
  binary_left q = binary_opened ∙ or_none names m (before_left c op d e) (foretold c d) w q

-- the type of a binary's left
module _ (c : FunctionContext) (names op : ℕ) (d e : Expr) (m : MaybeType) (w : MaybeHolds names m (binary_hint c op d e none)) (t : ResolvedType) where
  pub left_hinted : m.some ≡ true → Runs m.ty (run (left_type c op d e t))
  unfolding left_type
  left_hinted q = let v = or_some names m (binary_hint c op d e none) (cond (is_arithmetic op) t (foretold c d)) w q in held_runs v

  pub left_own : m.some ≡ false → op < 4 → left_type c op d e t ≡ t
  unfolding left_type
  left_own q l = or_none names m (binary_hint c op d e none) (cond (is_arithmetic op) t (foretold c d)) w q ∙ rw (lt-ltb op 4 l)

  pub left_foretold : m.some ≡ false → 4 ≤ op → left_type c op d e t ≡ foretold c d
  unfolding left_type
  left_foretold q l = or_none names m (binary_hint c op d e none) (cond (is_arithmetic op) t (foretold c d)) w q ∙ rw (le-ltb op 4 l)
