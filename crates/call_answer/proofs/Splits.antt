-- Each call is the implementation and its trait, then what comes behind them. Assumes nothing.
use Prim.Native.Nat.{ℕ, ◌<◌, ◌^◌}
use mathlib.Core.Path.{◌≡◌, refl, ap, ◌∙◌}
use mathlib.Core.List.{List}
use native.Mathlib.Omega.{arith}
use Rattle.rules.specs.Syntax.{TraitDef, ImplDef, CompiledSchema}
use Rattle.rules.specs.Refusal.{Refusal, Result, ok, err, ◌>>=◌}
use Rattle.rules.specs.Signatures.{find_trait, expected_functions}
use Rattle.rules.specs.Project.{find_implementation, expected_signatures}
use Rattle.rules.specs.Output.{signatures_words}
use Rattle.rules.specs.Answer.{project_call, signatures_call}
use Rattle.image_layout.specs.declared.Layout.{Layout}
use Rattle.image_layout.specs.Open.{Open}
use Rattle.laws_answers.proofs.Answers.{project_bound, signatures_bound}
use Rattle.answers.specs.declared.answer.Outcome.{Outcome}
use Rattle.answers.specs.Answers.{Comes}
use Rattle.answers.proofs.Calls.{Accepted, comes_same}
use Rattle.answers.proofs.Passes.{length_fits}
use Rattle.expected_functions.specs.Asked.{in_words}
use Rattle.impl_trait.specs.Subjects.{subject}
use Rattle.project_impl.specs.Steps.{projected_words}
use Rattle.project_impl.specs.Asked.{Few}
use Rattle.project_impl.proofs.WholeLaws.{behind_trait}
use Rattle.call_answer.specs.declared.Call.{Call}
use Rattle.call_answer.specs.Calls.{call_of, after_subject}

abbrev with_trait : ImplDef → Result TraitDef → Result (ImplDef × TraitDef)
with_trait i t = t >>= λ trait. ok (i, trait)

-- an implementation, then its trait, then w of both
module _ (s : CompiledSchema) (w : ImplDef → TraitDef → Result (ℕ × List ℕ)) where
  abbrev of_both : Result (ImplDef × TraitDef) → Result (ℕ × List ℕ)
  of_both r = r >>= λ p. w p.0 p.1

  both_o : (i : ImplDef) (t : Result TraitDef) → (t >>= λ trait. w i trait) ≡ of_both (with_trait i t)
  unfolding ◌>>=◌
  both_o i (err e) = refl
  both_o i (ok t) = refl

  chain_o : (a : Result ImplDef) → (a >>= λ i. find_trait s i >>= λ t. w i t) ≡ of_both (a >>= λ i. with_trait i (find_trait s i))
  unfolding ◌>>=◌
  chain_o (err e) = refl
  chain_o (ok i) = both_o i (find_trait s i)

  chain : (row : ℕ) → (find_implementation s row >>= λ i. find_trait s i >>= λ t. w i t) ≡ of_both (subject row s)
  unfolding subject
  chain row = chain_o (find_implementation s row)

-- signatures behind a trait
module _ (s : CompiledSchema) (i : ImplDef) where
  words_o : (t : Result TraitDef) → in_words (t >>= λ trait. expected_functions s trait i) ≡ (t >>= λ trait. in_words (expected_functions s trait i))
  unfolding ◌>>=◌
  words_o (err e) = refl
  words_o (ok t) = refl

  signatures_behind : (expected_signatures s i >>= λ p. ok (p.0, signatures_words p.1)) ≡ (find_trait s i >>= λ trait. in_words (expected_functions s trait i))
  unfolding expected_signatures
  signatures_behind = words_o (find_trait s i)

-- the same of every implementation
each_o : {f g : ImplDef → Result (ℕ × List ℕ)} (a : Result ImplDef) → ((i : ImplDef) → f i ≡ g i) → (a >>= λ i. f i) ≡ (a >>= λ i. g i)
unfolding ◌>>=◌
each_o (err e) h = refl
each_o (ok i) h = h i

splits : (c : Call) (row : ℕ) (s : CompiledSchema) → call_of c row s ≡ of_both s (after_subject c s) (subject row s)
unfolding call_of after_subject project_call signatures_call
splits Call.Signatures row s = each_o (find_implementation s row) (signatures_behind s) ∙ chain s (λ i t. in_words (expected_functions s t i)) row
splits Call.Projection row s = each_o (find_implementation s row) (behind_trait s) ∙ chain s (projected_words s) row

module _ (c : Call) (row : ℕ) (s : CompiledSchema) where
  -- 3 and 4 are the call's
  pub none_found : {e : Refusal} → subject row s ≡ err e → call_of c row s ≡ err e
  unfolding ◌>>=◌
  none_found q = splits c row s ∙ ap (of_both s (after_subject c s)) q

  pub both_found : {i : ImplDef} {t : TraitDef} → subject row s ≡ ok (i, t) → call_of c row s ≡ after_subject c s i t
  unfolding ◌>>=◌
  both_found q = splits c row s ∙ ap (of_both s (after_subject c s)) q

-- which call it is
module _ {c : Call} (s : CompiledSchema) (i : ImplDef) (t : TraitDef) where
  pub are_signatures : {old new : List ℕ} {r : Outcome} → c ≡ Call.Signatures → Comes (in_words (expected_functions s t i)) old new r → Comes (after_subject c s i t) old new r
  unfolding after_subject
  are_signatures e = comes_same (ap (λ (k : Call). after_subject k s i t) e)

  pub is_projection : {old new : List ℕ} {r : Outcome} → c ≡ Call.Projection → Comes (projected_words s i t) old new r → Comes (after_subject c s i t) old new r
  unfolding after_subject
  is_projection e = comes_same (ap (λ (k : Call). after_subject k s i t) e)

  pub few_projected : c ≡ Call.Projection → Few (after_subject c s i t) → Few (projected_words s i t)
  unfolding after_subject
  few_projected e few v ws q = few v ws (ap (λ (k : Call). after_subject k s i t) e ∙ q)

-- what is accepted has few words
pub few : (c : Call) {l : Layout} {s : CompiledSchema} → Open l s → (row : ℕ) → Few (call_of c row s)
unfolding call_of
few Call.Signatures {l} {s} o row v ws q = omega (arith, (signatures_bound l.image.now s o.read row v ws q).1)
few Call.Projection {l} {s} o row v ws q = omega (arith, (project_bound l.image.now s o.read row v ws q).1)

pub few_behind : (c : Call) {l : Layout} {s : CompiledSchema} → Open l s → (row : ℕ) {r : Result (ℕ × List ℕ)} → call_of c row s ≡ r → Few r
few_behind c o row e v ws q = few c o row v ws (e ∙ q)

-- an accepted length fits a word
pub fits : (c : Call) {l : Layout} {s : CompiledSchema} → Open l s → (row : ℕ) {old new : List ℕ} {r : Outcome} → Accepted (call_of c row s) old new r → r.length < 2 ^ 32
fits c o row a = length_fits a (omega (arith, few c o row a.visits a.words a.is))
