-- A body's words: the pool's own count, then the statements'.
use Prim.Native.Nat.{ℕ, suc, ◌+◌, ◌<◌, ◌≤◌}
use native.Mathlib.Omega.{arith}
use mathlib.Core.Path.{◌≡◌, refl, sym, ap, subst, ◌∙◌}
use mathlib.Core.Bool.{false, not}
use mathlib.Core.List.{List, [], ◌∷◌, ◌++◌}
use mathlib.Core.Option.{Option, some}
use lib.ListN.{length, get_or}
use Rattle.rules.specs.Syntax.{ResolvedType, Statement, FnBody}
use Rattle.rules.specs.Refusal.{Refusal, Result, ok, err, ◌>>=◌, ensure, or_refuse, in_function, with_name, with_detail}
use Rattle.rules.specs.Options.{is_some}
use Rattle.rules.specs.Infer.{type_of, FunctionContext, find_last, place, infer_expr}
use Rattle.rules.specs.Bodies.{PortableStatement, is_empty, with_local, assigned_field, project_return, project_statements, block_of}
use Rattle.rules.specs.Output.{statement_words, each, listed}
use Rattle.rules.specs.ReadBodies.{lets}
use Rattle.rules.proofs.Clash.{clash}
use Rattle.image_layout.specs.declared.Layout.{Layout}
use Rattle.image_layout.specs.Open.{pool_words}
use Rattle.answers.specs.declared.answer.Outcome.{Outcome}
use Rattle.answers.specs.Refusals.{refusal_of}
use Rattle.write_expr_type.proofs.Accepted.{bind_ok}
use Rattle.write_words.specs.Written.{Written}
use Rattle.pool_bodies.specs.StatementAt.{BodyStands}
use Rattle.project_outcome.specs.Outcomes.{ComesTo}
use Rattle.project_statement.specs.Made.{block_words}
use Rattle.project_function.specs.Made.{body_words_of}
use Rattle.project_outcome.proofs.Coming.{behind, comes_same, comes_err, comes_behind}
use Rattle.project_function.specs.Blocks.{Statements}

none_behind : (ss : List Statement) (z : Refusal) (a : Unit {0}) → ensure (is_empty ss) z ≡ ok a → length ss ≡ 0
unfolding is_empty ensure
none_behind [] z a e = refl
none_behind (s ∷ ss) z a e = clash (cc)

-- one typed statement, and those behind it
one_more : (p : PortableStatement) (r ps : List PortableStatement) (n : ℕ) → ◌≡◌ {A = Result (List PortableStatement)} (ok (p ∷ r)) (ok ps) → length r ≡ n → length ps ≡ suc n
one_more p r ps n q e = let s : p ∷ r ≡ ps = cc in ap length (sym s) ∙ ap suc e

no_more : (ps : List PortableStatement) → ◌≡◌ {A = Result (List PortableStatement)} (ok []) (ok ps) → length ps ≡ 0
no_more ps q = let s : [] ≡ ps = cc in ap length (sym s)

-- an accepted list has as many typed statements as statements
as_many : (o : Option ResolvedType) (c : FunctionContext) (ss : List Statement) (ps : List PortableStatement) → project_statements o c ss ≡ ok ps → length ps ≡ length ss
unfolding project_statements
as_many o c [] ps e = let b = bind_ok (ensure (not (is_some o)) (with_detail 22 c.function (2 ∷ []))) _ ps e in no_more ps b.2
as_many o c (Statement.expr d ∷ ss) ps e = clash (cc)
as_many o c (Statement.let_local x t d ∷ ss) ps e =
    let a = bind_ok (ensure (not (is_some (find_last x c.locals))) (with_name 18 c.function x)) _ ps e in
    let b = bind_ok (infer_expr c d t 3) _ ps a.2 in
    let r = bind_ok (project_statements o (with_local c x (type_of b.0)) ss) _ ps b.2 in
    one_more (PortableStatement.let_local x (type_of b.0) b.0) r.0 ps (length ss) r.2 (as_many o (with_local c x (type_of b.0)) ss r.0 r.1)
as_many o c (Statement.return v ∷ ss) ps e =
    let a = bind_ok (project_return c o v) _ ps e in
    let b = bind_ok (ensure (is_empty ss) (in_function 23 c.function)) _ ps a.2 in
    one_more (PortableStatement.return a.0) [] ps (length ss) b.2 (sym (none_behind ss (in_function 23 c.function) b.0 b.1))
as_many o c (Statement.assign t d ∷ ss) ps e =
    let f = bind_ok (assigned_field c.function (place t)) _ ps e in
    let u = bind_ok (or_refuse (find_last f.0 c.fields) (with_name 17 c.function f.0)) _ ps f.2 in
    let b = bind_ok (infer_expr c d (some u.0) 5) _ ps u.2 in
    let r = bind_ok (project_statements o c ss) _ ps b.2 in
    one_more (PortableStatement.assign_self_field f.0 b.0) r.0 ps (length ss) r.2 (as_many o c ss r.0 r.1)

module _ (o : Option ResolvedType) (c : FunctionContext) where
  block_counted : (ss : List Statement) → body_words_of c o (FnBody.block ss) ≡ behind (length ss ∷ []) (block_words o c ss)
  unfolding body_words_of block_words block_of behind ◌>>=◌ listed
  block_counted ss = go (project_statements o c ss) refl
    where
      go : (r : Result (List PortableStatement)) → project_statements o c ss ≡ r → (r >>= λ ps. ok (listed statement_words ps)) ≡ ((r >>= λ ps. ok (each statement_words ps)) >>= λ ws. ok ((length ss ∷ []) ++ ws))
      go (err e) q = refl
      go (ok ps) q = ap (λ (k : ℕ). ok (k ∷ each statement_words ps)) (as_many o c ss ps q)

  -- 12
  external : body_words_of c o FnBody.external ≡ err (in_function 12 c.function)
  unfolding body_words_of block_of ◌>>=◌
  external = refl

-- by the word that stands there
module _ (l : Layout) (at n : ℕ) (o : Option ResolvedType) (c : FunctionContext) {limit to : ℕ} {old new : List ℕ} {r : Outcome} where
  pub is_external : get_or (pool_words l) at 0 ≡ 0 → r.ok ≡ false → refusal_of r.refusal ≡ in_function 12 c.function → (b : FnBody) → BodyStands l.names.rows l.strings.rows (pool_words l) b at n → ComesTo (body_words_of c o b) limit to old new r
  is_external q f z FnBody.external h = comes_err (external o c) f z
  is_external q f z (FnBody.block ss) h = absurd (omega (arith, h.parts.0.is))

  pub is_block : (get_or (pool_words l) at 0 ≡ 0 → ⊥) → (j : ℕ) → (at < length (pool_words l) → j ≡ at + 1) → (count : ℕ) → count ≡ get_or (pool_words l) j 0 → (k : ℕ) → (j < length (pool_words l) → k ≡ j + 1)
      → {a : ℕ} {mid : List ℕ} → Written limit to (count ∷ []) old a mid → ((ss : List Statement) → Statements l ss k n → length ss ≡ count → lets ss ≤ 32 → ComesTo (block_words o c ss) limit a mid new r)
      → (b : FnBody) → BodyStands l.names.rows l.strings.rows (pool_words l) b at n → ComesTo (body_words_of c o b) limit to old new r
  is_block q j ja count e k ka w s FnBody.external h = absurd (q h.parts.0.is)
  is_block q j ja count e k ka {a} {mid} w s (FnBody.block ss) h =
      let i : j ≡ at + 1 = ja h.parts.0.inside in
      let counts = h.parts.1 in
      let m : length ss ≡ count = sym (e ∙ ap (λ (p : ℕ). get_or (pool_words l) p 0) i ∙ counts.0.is) in
      let g : k ≡ at + 1 + 1 = ka (subst (λ (p : ℕ). p < length (pool_words l)) (sym i) counts.0.inside) ∙ ap (λ (p : ℕ). p + 1) i in
      comes_same (block_counted o c ss ∙ ap (λ (p : ℕ). behind (p ∷ []) (block_words o c ss)) m) (comes_behind w (s ss (subst (λ (p : ℕ). Statements l ss p n) (sym g) counts.2) m h.parts.2))
