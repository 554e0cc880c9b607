-- A Return's words, by its value and whether it is the last statement.
use Prim.Native.Nat.{ℕ, ◌+◌, ◌<◌}
use native.Mathlib.Omega.{arith}
use mathlib.Core.Path.{◌≡◌, refl, sym, ap, subst, ◌∙◌}
use mathlib.Core.Bool.{Bool, true, false, false≢true}
use mathlib.Core.List.{List, [], ◌∷◌, ◌++◌, append-nil}
use mathlib.Core.Option.{Option, none, some}
use lib.ListN.{length, get_or}
use Rattle.rules.specs.Syntax.{ResolvedType, Expr, Statement}
use Rattle.rules.specs.Refusal.{Result, ok, err, ◌>>=◌, ensure, in_function, with_detail}
use Rattle.rules.specs.Infer.{PortableExpr, FunctionContext, infer_expr}
use Rattle.rules.specs.Bodies.{PortableStatement, is_empty, project_return, project_statements}
use Rattle.rules.specs.Output.{value_words, statement_words, each}
use Rattle.type_words.specs.declared.MaybeType.{MaybeType}
use Rattle.type_words.specs.Holds.{MaybeHolds}
use Rattle.answers.specs.declared.answer.Outcome.{Outcome}
use Rattle.answers.specs.Refusals.{refusal_of}
use Rattle.pool_bodies.specs.StatementAt.{StatementStands}
use Rattle.infer_context.specs.Stood.{Stood}
use Rattle.write_words.specs.Written.{Written}
use Rattle.project_outcome.specs.Outcomes.{ComesTo}
use Rattle.project_statement.specs.Made.{block_words, value_of}
use Rattle.project_outcome.proofs.Coming.{behind, comes_same, comes_err, comes_ok, comes_behind, came_err, came_ok}

module _ (c : FunctionContext) (ss : List Statement) where
  abbrev ended : Bool → Result (Option PortableExpr) → Result (List ℕ)
  ended b r = r >>= λ w. ensure b (in_function 23 c.function) >>= λ _. ok (statement_words (PortableStatement.return w))

  -- a value's words, behind 2 and 1
  abbrev after : Bool → Result (List ℕ) → Result (List ℕ)
  after b r = r >>= λ ws. ensure b (in_function 23 c.function) >>= λ _. ok ((2 ∷ 1 ∷ []) ++ ws)

  words_o : (r : Result (Option PortableExpr)) (b : Bool)
      → ((r >>= λ w. ensure b (in_function 23 c.function) >>= λ _. ok (PortableStatement.return w ∷ [])) >>= λ ps. ok (each statement_words ps)) ≡ ended b r
  unfolding ◌>>=◌ ensure each
  words_o (err e) b = refl
  words_o (ok w) true = ap ok (append-nil (statement_words (PortableStatement.return w)))
  words_o (ok w) false = refl

  return_words : (o : Option ResolvedType) (v : Option Expr) (b : Bool) → is_empty ss ≡ b → block_words o c (Statement.return v ∷ ss) ≡ ended b (project_return c o v)
  unfolding block_words project_statements
  return_words o v b q = words_o (project_return c o v) (is_empty ss) ∙ ap (λ (x : Bool). ended x (project_return c o v)) q

  -- over the return type that is held
  module _ (rows : ℕ) (m : MaybeType) (o : Option ResolvedType) (h : MaybeHolds rows m o) where
    nothing_missing : m.some ≡ true → block_words o c (Statement.return none ∷ ss) ≡ err (with_detail 22 c.function (1 ∷ []))
    unfolding project_return ◌>>=◌
    nothing_missing = go o h
      where
        go : (o : Option ResolvedType) → MaybeHolds rows m o → m.some ≡ true → block_words o c (Statement.return none ∷ ss) ≡ err (with_detail 22 c.function (1 ∷ []))
        go none h s = absurd (false≢true (sym h ∙ s))
        go (some t) h s = return_words (some t) none _ refl

    nothing_o : m.some ≡ false → {b : Bool} → is_empty ss ≡ b → block_words o c (Statement.return none ∷ ss) ≡ ended b (ok none)
    unfolding project_return
    nothing_o = go o h
      where
        go : (o : Option ResolvedType) → MaybeHolds rows m o → m.some ≡ false → {b : Bool} → is_empty ss ≡ b → block_words o c (Statement.return none ∷ ss) ≡ ended b (ok none)
        go none h s q = return_words none none _ q
        go (some t) h s q = absurd (false≢true (sym s ∙ h.0))

    module _ (e : Expr) where
      value_void : m.some ≡ false → block_words o c (Statement.return (some e) ∷ ss) ≡ err (with_detail 22 c.function (0 ∷ []))
      unfolding project_return ◌>>=◌
      value_void = go o h
        where
          go : (o : Option ResolvedType) → MaybeHolds rows m o → m.some ≡ false → block_words o c (Statement.return (some e) ∷ ss) ≡ err (with_detail 22 c.function (0 ∷ []))
          go none h s = return_words none (some e) _ refl
          go (some t) h s = absurd (false≢true (sym s ∙ h.0))

      valued : (b : Bool) (p : Result PortableExpr) → ended b (p >>= λ v. ok (some v)) ≡ after b (p >>= λ v. ok (value_words v))
      unfolding ◌>>=◌ ensure statement_words
      valued b (err z) = refl
      valued true (ok v) = refl
      valued false (ok v) = refl

      value_o : m.some ≡ true → {b : Bool} → is_empty ss ≡ b → block_words o c (Statement.return (some e) ∷ ss) ≡ after b (value_of c e o 4)
      unfolding project_return value_of
      value_o = go o h
        where
          go : (o : Option ResolvedType) → MaybeHolds rows m o → m.some ≡ true → {b : Bool} → is_empty ss ≡ b → block_words o c (Statement.return (some e) ∷ ss) ≡ after b (infer_expr c e o 4 >>= λ v. ok (value_words v))
          go none h s q = absurd (false≢true (sym h ∙ s))
          go (some t) h s {b} q = return_words (some t) (some e) _ q ∙ valued b (infer_expr c e (some t) 4)

  module _ {limit to : ℕ} {old new : List ℕ} (rows : ℕ) (m : MaybeType) (o : Option ResolvedType) (h : MaybeHolds rows m o) where
    -- no value
    pub nothing_wanted : {d : Outcome} → m.some ≡ true → d.ok ≡ false → refusal_of d.refusal ≡ with_detail 22 c.function (1 ∷ []) → ComesTo (block_words o c (Statement.return none ∷ ss)) limit to old new d
    nothing_wanted s = comes_err (nothing_missing rows m o h s)

    pub nothing_early : {d : Outcome} → m.some ≡ false → is_empty ss ≡ false → d.ok ≡ false → refusal_of d.refusal ≡ in_function 23 c.function → ComesTo (block_words o c (Statement.return none ∷ ss)) limit to old new d
    unfolding ◌>>=◌ ensure
    nothing_early s q = comes_err (nothing_o rows m o h s q)

    pub nothing_last : {d : Outcome} → m.some ≡ false → is_empty ss ≡ true → d.ok ≡ true → Written limit to (2 ∷ 0 ∷ []) old d.length new → ComesTo (block_words o c (Statement.return none ∷ ss)) limit to old new d
    unfolding ◌>>=◌ ensure statement_words
    nothing_last s q = comes_ok (nothing_o rows m o h s q)

    -- a value
    pub value_unwanted : {d : Outcome} (e : Expr) → m.some ≡ false → d.ok ≡ false → refusal_of d.refusal ≡ with_detail 22 c.function (0 ∷ []) → ComesTo (block_words o c (Statement.return (some e) ∷ ss)) limit to old new d
    value_unwanted e s = comes_err (value_void rows m o h e s)

    module _ {a : ℕ} {mid : List ℕ} {r : Outcome} (e : Expr) (s : m.some ≡ true) (v : ComesTo (value_of c e o 4) limit a mid new r) where
      pub value_refused : r.ok ≡ false → ComesTo (block_words o c (Statement.return (some e) ∷ ss)) limit to old new r
      unfolding ◌>>=◌
      value_refused q = comes_err (value_o rows m o h e s refl ∙ ap (after (is_empty ss)) (came_err v q)) q refl

      pub value_early : {d : Outcome} → r.ok ≡ true → is_empty ss ≡ false → d.ok ≡ false → refusal_of d.refusal ≡ in_function 23 c.function → ComesTo (block_words o c (Statement.return (some e) ∷ ss)) limit to old new d
      unfolding ◌>>=◌ ensure
      value_early q l = comes_err (value_o rows m o h e s l ∙ ap (after false) (came_ok v q).1)

      pub value_last : is_empty ss ≡ true → Written limit to (2 ∷ 1 ∷ []) old a mid → ComesTo (block_words o c (Statement.return (some e) ∷ ss)) limit to old new r
      unfolding behind ◌>>=◌ ensure
      value_last l w = comes_same (value_o rows m o h e s l) (comes_behind w v)

-- whether a value is given, by the word behind the code
module _ (rows strings : ℕ) (ws : List ℕ) (at n : ℕ) (flag : ℕ) (w : at < length ws → flag ≡ get_or ws (at + 1) 0) (o : Option ResolvedType) (c : FunctionContext) (ss : List Statement) {limit to : ℕ} {old new : List ℕ} {d : Outcome} where
  pub no_value : flag ≡ 0 → ComesTo (block_words o c (Statement.return none ∷ ss)) limit to old new d → (v : Option Expr) → StatementStands rows strings ws (Statement.return v) at n → ComesTo (block_words o c (Statement.return v ∷ ss)) limit to old new d
  no_value z h none s = h
  no_value z h (some e) s = absurd (omega (arith, w s.parts.0.inside, s.parts.1.0.is))

  pub some_value : (flag ≡ 0 → ⊥) → (j : ℕ) → (at + 1 < length ws → j ≡ at + 1 + 1) → ((e : Expr) → Stood rows strings ws 32 e j n → ComesTo (block_words o c (Statement.return (some e) ∷ ss)) limit to old new d)
      → (v : Option Expr) → StatementStands rows strings ws (Statement.return v) at n → ComesTo (block_words o c (Statement.return v ∷ ss)) limit to old new d
  some_value z j a h none s = absurd (z (w s.parts.0.inside ∙ s.parts.1.0.is))
  some_value z j a h (some e) s = h e (subst (λ (k : ℕ). Stood rows strings ws 32 e k n) (sym (a s.parts.1.0.inside)) (record { words_at = s.parts.1.1.words_at; nested = s.parts.1.1.good }))
