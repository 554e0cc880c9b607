-- An assignment's words, by its target, its field's type and its value.
use Prim.Native.Nat.{ℕ, ◌+◌, ◌<◌}
use mathlib.Core.Path.{◌≡◌, refl, sym, ap, subst, ◌∙◌}
use mathlib.Core.Bool.{true, false, false≢true}
use mathlib.Core.List.{List, [], ◌∷◌}
use mathlib.Core.Option.{Option, none, some}
use lib.ListN.{length}
use Rattle.rules.specs.Syntax.{ResolvedType, Expr, Statement}
use Rattle.rules.specs.Refusal.{Result, ok, err, ◌>>=◌, or_refuse, in_function, with_name}
use Rattle.rules.specs.Infer.{PortableExpr, FunctionContext, find_last, place, infer_expr}
use Rattle.rules.specs.Bodies.{PortableStatement, assigned_field}
use Rattle.rules.specs.Output.{value_words, statement_words}
use Rattle.type_words.specs.declared.MaybeType.{MaybeType}
use Rattle.type_words.specs.Holds.{MaybeHolds}
use Rattle.answers.specs.declared.answer.Outcome.{Outcome}
use Rattle.answers.specs.Refusals.{refusal_of}
use Rattle.write_words.specs.Written.{Written}
use Rattle.pool_bodies.specs.StatementAt.{StatementStands}
use Rattle.infer_context.specs.Stood.{Stood}
use Rattle.project_outcome.specs.Outcomes.{ComesTo}
use Rattle.rules.specs.declared.ids.NameId.{NameId}
use Rattle.std.specs.Prelude.{Some, None}
use Rattle.rules.proofs.Clash.{clash}
use Rattle.project_statement.specs.Made.{made_assign, value_of, assign_words}
use Rattle.project_statement.specs.Targets.{FieldAgrees}
use Rattle.project_outcome.proofs.Coming.{behind, comes_same, comes_err, comes_behind}

module _ (c : FunctionContext) (target e : Expr) where
  -- behind the field
  abbrev typed : ℕ → Option ResolvedType → Result PortableStatement
  typed f o = or_refuse o (with_name 17 c.function f) >>= λ t. infer_expr c e (some t) 5 >>= λ value. ok (PortableStatement.assign_self_field f value)

  abbrev in_words : Result PortableStatement → Result (List ℕ)
  in_words r = r >>= λ p. ok (statement_words p)

  named_o : {r : Result ℕ} → assigned_field c.function (place target) ≡ r → assign_words c target e ≡ in_words (r >>= λ f. typed f (find_last f c.fields))
  unfolding assign_words made_assign
  named_o q = ap (λ (r : Result ℕ). in_words (r >>= λ f. typed f (find_last f c.fields))) q

  found_o : (f : ℕ) (p : Result PortableExpr) → in_words (p >>= λ value. ok (PortableStatement.assign_self_field f value)) ≡ behind (3 ∷ f ∷ []) (p >>= λ v. ok (value_words v))
  unfolding ◌>>=◌ behind statement_words
  found_o f (err z) = refl
  found_o f (ok v) = refl

  -- 19
  pub no_field : FieldAgrees c.function (assigned_field c.function (place target)) None → {limit to : ℕ} {old new : List ℕ} {r : Outcome} → r.ok ≡ false
      → refusal_of r.refusal ≡ in_function 19 c.function → ComesTo (assign_words c target e) limit to old new r
  unfolding ◌>>=◌
  no_field h = comes_err (go (assigned_field c.function (place target)) refl h)
    where
      go : (r : Result ℕ) → assigned_field c.function (place target) ≡ r → FieldAgrees c.function r None → assign_words c target e ≡ err (in_function 19 c.function)
      go (err z) i a = named_o i ∙ ap err (sym a.1)
      go (ok x) i a = absurd a

  module _ (d : NameId) (h : FieldAgrees c.function (assigned_field c.function (place target)) (Some d)) where
    field_o : assign_words c target e ≡ in_words (typed d.0 (find_last d.0 c.fields))
    unfolding ◌>>=◌
    field_o = go (assigned_field c.function (place target)) refl h
      where
        go : (r : Result ℕ) → assigned_field c.function (place target) ≡ r → FieldAgrees c.function r (Some d) → assign_words c target e ≡ in_words (typed d.0 (find_last d.0 c.fields))
        go (err z) i (q, y) = clash (cc)
        go (ok x) i a = named_o i ∙ ap (λ (f : ℕ). in_words (typed f (find_last f c.fields))) (sym a)

    module _ {limit to : ℕ} {old new : List ℕ} {r : Outcome} (rows : ℕ) (m : MaybeType) (w : MaybeHolds rows m (find_last d.0 c.fields)) where
      -- 17
      pub unknown : m.some ≡ false → r.ok ≡ false → refusal_of r.refusal ≡ with_name 17 c.function d.0 → ComesTo (assign_words c target e) limit to old new r
      unfolding ◌>>=◌ or_refuse
      unknown s = comes_err (field_o ∙ go (find_last d.0 c.fields) w)
        where
          go : (o : Option ResolvedType) → MaybeHolds rows m o → in_words (typed d.0 o) ≡ err (with_name 17 c.function d.0)
          go none w = refl
          go (some t) w = absurd (false≢true (sym s ∙ w.0))

      pub assigned : m.some ≡ true → {a : ℕ} {mid : List ℕ} → Written limit to (3 ∷ d.0 ∷ []) old a mid
          → ((o : Option ResolvedType) → MaybeHolds rows m o → ComesTo (value_of c e o 5) limit a mid new r) → ComesTo (assign_words c target e) limit to old new r
      unfolding or_refuse value_of ◌>>=◌
      assigned s {a} {mid} b v = comes_same field_o (go (find_last d.0 c.fields) w)
        where
          go : (o : Option ResolvedType) → MaybeHolds rows m o → ComesTo (in_words (typed d.0 o)) limit to old new r
          go none w = absurd (false≢true (sym w ∙ s))
          go (some t) w = comes_same (found_o d.0 (infer_expr c e (some t) 5)) (comes_behind b (v (some t) w))

-- where target and value stand
module _ {rows strings : ℕ} {ws : List ℕ} {at n : ℕ} (t e : Expr) (s : StatementStands rows strings ws (Statement.assign t e) at n) (i : ℕ) (a : at < length ws → i ≡ at + 1) where
  abbrev pub value_from : ℕ
  value_from = s.parts.1

  pub target_stood : Stood rows strings ws 32 t i value_from
  target_stood = subst (λ (k : ℕ). Stood rows strings ws 32 t k value_from) (sym (a s.parts.0.inside)) (record { words_at = s.parts.2.words_at; nested = s.parts.2.good })

  pub value_stood : (j : ℕ) → ((e : Expr) (m : ℕ) → Stood rows strings ws 32 e i m → j ≡ m) → Stood rows strings ws 32 e j n
  value_stood j f = subst (λ (k : ℕ). Stood rows strings ws 32 e k n) (sym (f t value_from target_stood)) (record { words_at = s.parts.3.words_at; nested = s.parts.3.good })
