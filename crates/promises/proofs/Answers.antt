-- From answers to the rules: what number 0 says, and answers that are accepted together.
use Prim.Native.Nat.{ℕ, ◌*◌, ◌≤◌}
use mathlib.Core.Path.{◌≡◌, refl, sym, ap, subst, subst₂, ◌∙◌}
use mathlib.Core.Logic.{◌↔◌}
use mathlib.Core.Bool.{Bool, true, false}
use mathlib.Core.List.{List, [], ◌∷◌}
use mathlib.Core.Option.{Option, none, some}
use native.Mathlib.Omega.{arith}
use lib.ListN.{length, take}
use lib.Dec.{ltb, leb}
use borrow.Author.Tests.{leb-true}
use Rattle.rules.specs.Words.{bytes_of, over_start}
use Rattle.rules.specs.Syntax.{ImplDef, CompiledSchema}
use Rattle.rules.specs.Image.{readable}
use Rattle.rules.specs.Refusal.{Result, ok, err, refusal}
use Rattle.rules.specs.Bodies.{PortableFunction}
use Rattle.rules.specs.Output.{functions_words}
use Rattle.rules.specs.Answer.{Answer, refused, accepted, too_short, finished, answered, project_call, project_answer}
use Rattle.words.proofs.Words.{length_bytes_of}
use Rattle.promises.specs.Projects.{Projects}
use Rattle.promises.specs.Written.{written, Together}
use Rattle.promises.proofs.Results.{no_ok, steps, same_ok}
use Rattle.promises.proofs.Numbers.{Proper, call_proper}

-- what was put over the start is the start
taken : (bs old : List ℕ) → length bs ≤ length old → take (length bs) (over_start bs old) ≡ bs
unfolding over_start
taken [] old h = refl
taken (b ∷ bs) [] h = absurd (omega arith)
taken (b ∷ bs) (o ∷ old) h = ap (λ (l : List ℕ). b ∷ l) (taken bs old (omega arith))

written_bytes : (ws old : List ℕ) → 4 * length ws ≤ length old → take (4 * length ws) (over_start (bytes_of ws) old) ≡ bytes_of ws
written_bytes ws old h = subst (λ (n : ℕ). take n (over_start (bytes_of ws) old) ≡ bytes_of ws) (length_bytes_of ws) (taken (bytes_of ws) old (omega (arith, length_bytes_of ws)))

-- an answer by whether its words fit
abbrev fitted : Bool → ℕ × List ℕ → List ℕ → List ℕ → Answer
fitted b p output detail = elim b [ true ↦ accepted p.0 p.1 output detail | false ↦ too_short p.1 output detail ]

-- number 0: the rules accept, and their words were written
pub record Wrote (q : Result (ℕ × List ℕ)) (a : Answer) : Type 0 where
  pub result : ℕ × List ℕ
  pub is_result : q ≡ ok result
  pub bytes : written a ≡ bytes_of result.1

module _ (output detail : List ℕ) where
  wrote_fitted : (p : ℕ × List ℕ) (b : Bool) → leb (4 * length p.1) (length output) ≡ b → (fitted b p output detail).number ≡ 0 → written (fitted b p output detail) ≡ bytes_of p.1
  unfolding accepted too_short
  wrote_fitted p true e q = written_bytes p.1 output (leb-true _ _ e)
  wrote_fitted p false e q = absurd (omega arith)

  wrote : (q : Result (ℕ × List ℕ)) → Proper q → (finished q output detail).number ≡ 0 → Wrote q (finished q output detail)
  unfolding finished refused
  wrote (ok p) h e = record { result = p; is_result = refl; bytes = wrote_fitted p _ refl e }
  wrote (err r) h e = absurd (omega (arith, (h.refuses r refl).low))

-- an answer by the detail's length and by what was read
abbrev opened : (CompiledSchema → Result (ℕ × List ℕ)) → List ℕ → List ℕ → Bool → Option CompiledSchema → Answer
opened call output detail b r =
    elim b [ true ↦ refused (refusal 1) output detail | false ↦ elim r [ none ↦ refused (refusal 2) output detail | some schema ↦ finished (call schema) output detail ] ]

-- number 0 from a call: an implementation is accepted, and its functions' words were written
pub record Projected (image : List ℕ) (row : ℕ) (a : Answer) : Type 0 where
  pub impl : ImplDef
  pub functions : List PortableFunction
  pub projects : Projects image row impl functions
  pub bytes : written a ≡ bytes_of (functions_words functions)

module _ (image : List ℕ) (row : ℕ) (output detail : List ℕ) where
  from_call : (a : Answer) (schema : CompiledSchema) → readable image ≡ some schema → Wrote (project_call row schema) a → Projected image row a
  unfolding project_call
  from_call a schema e w =
      let i = steps _ _ _ w.is_result in
      let p = steps _ _ _ i.behind in
      let s : ◌≡◌ {A = ℕ × List ℕ} (p.value.0, functions_words p.value.1) w.result = same_ok _ _ p.behind in
      record {
        impl = i.value;
        functions = p.value.1;
        projects = record { schema = schema; visits = p.value.0; is_schema = e; is_impl = i.before; is_projected = p.before };
        bytes = w.bytes ∙ ap (λ (q : ℕ × List ℕ). bytes_of q.1) (sym s);
      }

  projected_opened : (b : Bool) (r : Option CompiledSchema) → readable image ≡ r → (opened (project_call row) output detail b r).number ≡ 0
      → Projected image row (opened (project_call row) output detail b r)
  unfolding refused
  projected_opened true r e q = absurd (omega arith)
  projected_opened false none e q = absurd (omega arith)
  projected_opened false (some schema) e q = from_call _ schema e (wrote output detail (project_call row schema) (call_proper row schema) q)

  pub projected : (project_answer image row output detail).number ≡ 0 → Projected image row (project_answer image row output detail)
  unfolding project_answer answered
  projected q = projected_opened (ltb (length detail) 576) (readable image) refl q

-- ---- together

neither : (a b : Answer) → (a.number ≡ 0 → ⊥) → (b.number ≡ 0 → ⊥) → (a.number ≡ 24 → ⊥) → (b.number ≡ 24 → ⊥) → Together a b
neither a b p q r s = record {
  accepted = (λ e. absurd (p e), λ e. absurd (q e));
  bytes = λ e. absurd (p e);
  visits = λ e. absurd (p e);
  too_short = (λ e. absurd (r e), λ e. absurd (s e));
  need = λ e. absurd (r e);
}

module _ (output output' detail detail' : List ℕ) (room : length output ≡ length output') where
  together_fitted : (p : ℕ × List ℕ) (b : Bool) → leb (4 * length p.1) (length output) ≡ b → Together (fitted b p output detail) (fitted b p output' detail')
  unfolding accepted too_short
  together_fitted p true e =
      let fits : 4 * length p.1 ≤ length output = leb-true _ _ e in
      record {
        accepted = (λ e. refl, λ e. refl);
        bytes = λ e. written_bytes p.1 output fits ∙ sym (written_bytes p.1 output' (omega arith));
        visits = λ e. refl;
        too_short = (λ e. absurd (omega arith), λ e. absurd (omega arith));
        need = λ e. absurd (omega arith);
      }
  together_fitted p false e = record {
    accepted = (λ e. absurd (omega arith), λ e. absurd (omega arith));
    bytes = λ e. absurd (omega arith);
    visits = λ e. absurd (omega arith);
    too_short = (λ e. refl, λ e. refl);
    need = λ e. refl;
  }

  together_ok : (p : ℕ × List ℕ) → Together (finished (ok p) output detail) (finished (ok p) output' detail')
  unfolding finished
  together_ok p =
      subst (λ (n : ℕ). Together (fitted (leb (4 * length p.1) (length output)) p output detail) (fitted (leb (4 * length p.1) n) p output' detail')) room
      (together_fitted p (leb (4 * length p.1) (length output)) refl)

  pub together_finished : (q r : Result (ℕ × List ℕ)) → Proper q → Proper r → ((p : ℕ × List ℕ) → (q ≡ ok p) ↔ (r ≡ ok p)) → Together (finished q output detail) (finished r output' detail')
  unfolding finished refused
  together_finished (ok p) (ok s) g h e = let k : s ≡ p = same_ok _ _ ((e p).0 refl) in rw k (together_ok p)
  together_finished (ok p) (err s) g h e = absurd (no_ok _ _ ((e p).0 refl))
  together_finished (err r) (ok s) g h e = absurd (no_ok _ _ ((e s).1 refl))
  together_finished (err r) (err s) g h e =
      neither _ _ (λ k. omega (arith, (g.refuses r refl).low)) (λ k. omega (arith, (h.refuses s refl).low)) (λ k. omega (arith, (g.refuses r refl).high)) (λ k. omega (arith, (h.refuses s refl).high))

  pub together_opened : (call call' : CompiledSchema → Result (ℕ × List ℕ)) (schema : CompiledSchema) (b : Bool) → Together (finished (call schema) output detail) (finished (call' schema) output' detail')
      → Together (opened call output detail b (some schema)) (opened call' output' detail' b (some schema))
  unfolding refused
  together_opened call call' schema true t = neither _ _ (λ k. omega arith) (λ k. omega arith) (λ k. omega arith) (λ k. omega arith)
  together_opened call call' schema false t = t

-- two calls whose rules accept together answer together
pub together : (image : List ℕ) (schema : CompiledSchema) (m n : ℕ) (output output' detail detail' : List ℕ) → readable image ≡ some schema → length output ≡ length output' → length detail ≡ length detail'
    → ((p : ℕ × List ℕ) → (project_call m schema ≡ ok p) ↔ (project_call n schema ≡ ok p)) → Together (project_answer image m output detail) (project_answer image n output' detail')
unfolding project_answer answered
together image schema m n output output' detail detail' e room lent h =
    subst₂ (λ (r : Option CompiledSchema) (k : ℕ). Together (opened (project_call m) output detail (ltb (length detail) 576) r) (opened (project_call n) output' detail' (ltb k 576) r)) (sym e) lent
    (together_opened output output' detail detail' room (project_call m) (project_call n) schema (ltb (length detail) 576)
    (together_finished output output' detail detail' room _ _ (call_proper m schema) (call_proper n schema) h))
