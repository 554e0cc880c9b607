-- Statements one behind the other: what is written so far, followed by what the rules make of those left.
use Prim.Native.Nat.{ℕ, ◌+◌, ◌<◌, ◌≤◌}
use native.Mathlib.Omega.{arith}
use mathlib.Core.Path.{◌≡◌, refl, sym, ap, subst, ◌∙◌}
use mathlib.Core.Bool.{true, false, false≢true}
use mathlib.Core.List.{List, [], ◌∷◌}
use mathlib.Core.Option.{Option, none, some}
use lib.ListN.{length, get_or}
use lib.Dec.{eqb}
use borrow.Author.Tests.{eq-eqb, ne_eqb}
use Rattle.rules.specs.Syntax.{ResolvedType, Expr, Statement}
use Rattle.rules.specs.Options.{is_some}
use Rattle.rules.specs.Refusal.{Result, ok, err, ◌>>=◌, ensure, with_detail}
use Rattle.rules.specs.Infer.{FunctionContext}
use Rattle.rules.specs.Bodies.{is_empty, project_statements}
use Rattle.rules.specs.Output.{statement_words, each}
use Rattle.rules.specs.ReadBodies.{let_count, lets}
use Rattle.laws.specs.Runs.{stored_statement_words}
use Rattle.image_words.proofs.Heads.{head}
use Rattle.type_words.specs.declared.MaybeType.{MaybeType}
use Rattle.type_words.specs.Holds.{MaybeHolds}
use Rattle.image_layout.specs.declared.Layout.{Layout}
use Rattle.image_layout.specs.Open.{pool_words}
use Rattle.answers.specs.declared.answer.Outcome.{Outcome}
use Rattle.answers.specs.Refusals.{refusal_of}
use Rattle.write_words.specs.Written.{Written}
use Rattle.write_words.proofs.Written.{written_none}
use Rattle.pool_bodies.specs.StatementAt.{StatementStands}
use Rattle.infer_context.specs.declared.Context.{Context}
use Rattle.infer_context.specs.InContext.{InContext}
use Rattle.project_outcome.specs.Outcomes.{ComesTo}
use Rattle.project_let.specs.declared.Step.{Step}
use Rattle.project_statement.specs.Made.{block_words}
use Rattle.project_let.specs.Made.{Made}
use Rattle.project_function.specs.Made.{Passing}
use Rattle.project_let.specs.Agree.{counted, StepAgrees, Steps}
use Rattle.project_outcome.proofs.Coming.{behind, comes_same, comes_err, comes_ok, comes_behind}
use Rattle.project_function.proofs.Passes.{follow, passing_words}
use Rattle.project_function.specs.Blocks.{Statements}

-- over the image, its layout, the function, the return type, the output before and what the whole is
module _ (l : Layout) (x : Context) (o : Option ResolvedType) (limit to : ℕ) (old : List ℕ) (count n : ℕ) (whole : Result (List ℕ)) where
  -- after i statements: the context now, the statements left from `next` on; what these come to from `place` on, the whole comes to
  pub record Left (names words lens : List ℕ) (locals i next place : ℕ) (mid : List ℕ) : Type 0 where
    pub context : FunctionContext
    pub in_context : InContext l names words lens (counted x locals) context
    pub rest : List Statement
    pub row : Statements l rest next n
    pub many : i + length rest ≡ count
    pub few : locals + lets rest ≤ 64
    pub so : (new : List ℕ) (r : Outcome) → ComesTo (block_words o context rest) limit place mid new r → ComesTo whole limit to old new r

module _ (l : Layout) (x : Context) (o : Option ResolvedType) (limit to : ℕ) (old : List ℕ) (count n : ℕ) where
  pub started : {names words lens : List ℕ} {at : ℕ} (c : FunctionContext) → InContext l names words lens x c → (ss : List Statement) → Statements l ss at n → length ss ≡ count → x.count + lets ss ≤ 64
      → Left l x o limit to old count n (block_words o c ss) names words lens x.count 0 at to old
  started c i ss r m f = record { context = c; in_context = i; rest = ss; row = r; many = omega (arith, m); few = f; so = λ new r h. h }

-- no statement
module _ (c : FunctionContext) (rows : ℕ) (m : MaybeType) where
  empty_some : (o : Option ResolvedType) → MaybeHolds rows m o → m.some ≡ true → block_words o c [] ≡ err (with_detail 22 c.function (2 ∷ []))
  unfolding block_words project_statements is_some ensure ◌>>=◌
  empty_some none h s = absurd (false≢true (sym h ∙ s))
  empty_some (some t) h s = refl

  empty_none : (o : Option ResolvedType) → MaybeHolds rows m o → m.some ≡ false → block_words o c [] ≡ ok []
  unfolding block_words project_statements is_some ensure ◌>>=◌ each
  empty_none none h s = refl
  empty_none (some t) h s = absurd (false≢true (sym s ∙ h.0))

follow_ok : (p : Made) (k : FunctionContext → Result (List ℕ)) → follow (ok p) k ≡ behind (statement_words p.0) (k p.1)
unfolding follow ◌>>=◌
follow_ok p k = refl

-- whether a statement follows, by the count
last_o : (i count : ℕ) (s : Statement) (ss : List Statement) → i + length (s ∷ ss) ≡ count → is_empty ss ≡ eqb (i + 1) count
unfolding is_empty
last_o i count s [] m = sym (eq-eqb (i + 1) count (omega arith))
last_o i count s (t ∷ ss) m = sym (ne_eqb (i + 1) count (λ z. omega arith))

module _ {l : Layout} {x : Context} {o : Option ResolvedType} {limit to : ℕ} {old : List ℕ} {count n : ℕ} {whole : Result (List ℕ)} {names words lens : List ℕ} {locals i next place : ℕ} {mid : List ℕ}
    (v : Left l x o limit to old count n whole names words lens locals i next place mid) where
  -- a Return ends them
  pub returned : i < count → get_or (pool_words l) next 0 ≡ 2 → {new : List ℕ} {r : Outcome}
      → ((e : Option Expr) (m : ℕ) → StatementStands l.names.rows l.strings.rows (pool_words l) (Statement.return e) next m → (ss : List Statement) → is_empty ss ≡ eqb (i + 1) count → ComesTo (block_words o v.context (Statement.return e ∷ ss)) limit place mid new r)
      → ComesTo whole limit to old new r
  unfolding stored_statement_words
  returned b q {new} {r} h = go v.rest v.row v.many (v.so new r)
    where
      go : (rest : List Statement) → Statements l rest next n → i + length rest ≡ count → (ComesTo (block_words o v.context rest) limit place mid new r → ComesTo whole limit to old new r) → ComesTo whole limit to old new r
      go [] w m so = absurd (omega arith)
      go (Statement.expr e ∷ ss) w m so = absurd (omega (arith, head w.1.words_at))
      go (Statement.let_local y t e ∷ ss) w m so = absurd (omega (arith, head w.1.words_at))
      go (Statement.return e ∷ ss) w m so = so (h e w.0 w.1 ss (last_o i count (Statement.return e) ss m))
      go (Statement.assign t e ∷ ss) w m so = absurd (omega (arith, head w.1.words_at))

  -- any other statement
  module _ (b : i < count) (q : get_or (pool_words l) next 0 ≡ 2 → ⊥) {names' words' lens' new : List ℕ} {s : Step} (h : (t : Statement) (m : ℕ) → StatementStands l.names.rows l.strings.rows (pool_words l) t next m → locals + let_count t ≤ 64 → Passing v.context t (Steps l names' words' lens' (counted x locals) limit place mid new s (let_count t))) where
    refused_o : (more : ℕ) (made : Result Made) (k : FunctionContext → Result (List ℕ)) → StepAgrees l names' words' lens' (counted x locals) limit place mid new s more made → s.done.ok ≡ false → follow made k ≡ err (refusal_of s.done.refusal)
    unfolding follow ◌>>=◌
    refused_o more (err e) k a z = ap err (sym a.1)
    refused_o more (ok p) k a z = absurd (false≢true (sym z ∙ a.0))

    pub passed_refused : s.done.ok ≡ false → ComesTo whole limit to old new s.done
    unfolding stored_statement_words lets
    passed_refused z = go v.rest v.row v.many v.few (v.so new s.done)
      where
        by : (more : ℕ) (t : Statement) (ss : List Statement) (made : Result Made) → block_words o v.context (t ∷ ss) ≡ follow made (λ d. block_words o d ss) → Steps l names' words' lens' (counted x locals) limit place mid new s more made
            → ComesTo (block_words o v.context (t ∷ ss)) limit place mid new s.done
        by more t ss made e a = comes_err (e ∙ refused_o more made _ a.is z) z refl

        go : (rest : List Statement) → Statements l rest next n → i + length rest ≡ count → locals + lets rest ≤ 64 → (ComesTo (block_words o v.context rest) limit place mid new s.done → ComesTo whole limit to old new s.done) → ComesTo whole limit to old new s.done
        go [] w m f so = absurd (omega arith)
        go (Statement.expr e ∷ ss) w m f so = so (by _ (Statement.expr e) ss _ (passing_words o v.context ss (Statement.expr e)) (h (Statement.expr e) w.0 w.1 (omega arith)))
        go (Statement.let_local y t e ∷ ss) w m f so = so (by _ (Statement.let_local y t e) ss _ (passing_words o v.context ss (Statement.let_local y t e)) (h (Statement.let_local y t e) w.0 w.1 (omega arith)))
        go (Statement.return e ∷ ss) w m f so = absurd (q (head w.1.words_at))
        go (Statement.assign t e ∷ ss) w m f so = so (by _ (Statement.assign t e) ss _ (passing_words o v.context ss (Statement.assign t e)) (h (Statement.assign t e) w.0 w.1 (omega arith)))

    pub passed_on : s.done.ok ≡ true → {k : ℕ} → ((t : Statement) (m : ℕ) → StatementStands l.names.rows l.strings.rows (pool_words l) t next m → k ≡ m)
        → Left l x o limit to old count n whole names' words' lens' s.count (i + 1) k s.done.length new
    unfolding stored_statement_words lets let_count
    passed_on z {k} p = go v.rest v.row v.many v.few v.so
      where
        by : (t : Statement) (ss : List Statement) → Statements l (t ∷ ss) next n → i + length (t ∷ ss) ≡ count → (more : ℕ) → locals + (more + lets ss) ≤ 64
            → ((new : List ℕ) (r : Outcome) → ComesTo (block_words o v.context (t ∷ ss)) limit place mid new r → ComesTo whole limit to old new r)
            → (made : Result Made) → block_words o v.context (t ∷ ss) ≡ follow made (λ d. block_words o d ss) → StepAgrees l names' words' lens' (counted x locals) limit place mid new s more made
            → Left l x o limit to old count n whole names' words' lens' s.count (i + 1) k s.done.length new
        by t ss w m more f so (err y) e a = absurd (false≢true (sym a.0 ∙ z))
        by t ss w m more f so (ok d) e a = record {
          context = d.1;
          in_context = a.3;
          rest = ss;
          row = subst (λ (j : ℕ). Statements l ss j n) (sym (p t w.0 w.1)) w.2;
          many = omega (arith, m);
          few = omega (arith, f, a.1);
          so = λ newer r h. so newer r (comes_same (e ∙ follow_ok d (λ d. block_words o d ss)) (comes_behind a.2 h));
        }

        go : (rest : List Statement) → Statements l rest next n → i + length rest ≡ count → locals + lets rest ≤ 64 → ((new : List ℕ) (r : Outcome) → ComesTo (block_words o v.context rest) limit place mid new r → ComesTo whole limit to old new r)
            → Left l x o limit to old count n whole names' words' lens' s.count (i + 1) k s.done.length new
        go [] w m f so = absurd (omega arith)
        go (Statement.expr e ∷ ss) w m f so = by (Statement.expr e) ss w m 0 f so _ (passing_words o v.context ss (Statement.expr e)) (h (Statement.expr e) w.0 w.1 (omega arith)).is
        go (Statement.let_local y t e ∷ ss) w m f so = by (Statement.let_local y t e) ss w m 1 f so _ (passing_words o v.context ss (Statement.let_local y t e)) (h (Statement.let_local y t e) w.0 w.1 (omega arith)).is
        go (Statement.return e ∷ ss) w m f so = absurd (q (head w.1.words_at))
        go (Statement.assign t e ∷ ss) w m f so = by (Statement.assign t e) ss w m 0 f so _ (passing_words o v.context ss (Statement.assign t e)) (h (Statement.assign t e) w.0 w.1 (omega arith)).is

  -- none is left
  none_left : count ≤ i → {r : Result (List ℕ)} → block_words o v.context [] ≡ r → {new : List ℕ} {d : Outcome} → ComesTo r limit place mid new d → ComesTo whole limit to old new d
  none_left b e {new} {d} h = go v.rest v.many (v.so new d)
    where
      go : (rest : List Statement) → i + length rest ≡ count → (ComesTo (block_words o v.context rest) limit place mid new d → ComesTo whole limit to old new d) → ComesTo whole limit to old new d
      go [] m so = so (comes_same e h)
      go (s ∷ ss) m so = absurd (omega arith)

  module _ (rows : ℕ) (m : MaybeType) (w : MaybeHolds rows m o) (b : count ≤ i) {d : Outcome} where
    -- 22: no Return was met where a value is wanted
    pub ended_early : m.some ≡ true → d.ok ≡ false → refusal_of d.refusal ≡ with_detail 22 v.context.function (2 ∷ []) → {new : List ℕ} → ComesTo whole limit to old new d
    ended_early s f z = none_left b (empty_some v.context rows m o w s) (comes_err refl f z)

    pub ended : m.some ≡ false → d.ok ≡ true → d.length ≡ place → ComesTo whole limit to old mid d
    ended s t p = none_left b (empty_none v.context rows m o w s) (comes_ok refl t (subst (λ (k : ℕ). Written limit place [] mid k mid) (sym p) (written_none limit place mid)))
