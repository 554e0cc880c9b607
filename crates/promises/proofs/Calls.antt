-- The promises hold of calls.
use Prim.Native.Nat.{ℕ, ◌≤◌}
use mathlib.Core.Path.{◌≡◌, refl, sym, ap, subst, ◌∙◌}
use mathlib.Core.Bool.{Bool, true, false}
use mathlib.Core.List.{List, [], ◌∷◌, ◌++◌}
use lib.ListN.{length}
use lib.Dec.{ltb, leb}
use borrow.Author.Tests.{le-ltb, le-leb}
use Rattle.rules.specs.Computed.{computed}
use Rattle.rules.specs.Answer as rules
use Rattle.rules.specs.Refusal.{refusal}
use Rattle.rules.specs.Answer.{project_answer, refused, accepted, too_short}
use Rattle.rules.specs.Edges.{whole_image}
use Rattle.answers.specs.Answers.{answer_of}
use Rattle.promises.specs.Written.{written, Together}
use Rattle.promises.specs.Calls.{Made, Projected, wrote, CallsSameBodies, NoCallBeginsAnother, CallsTogether, OneAnswer, WholeCase}
use Rattle.promises.proofs.Promises.{same_bytes_same_bodies, no_answer_begins_another, answers_together}

abbrev of_rules : Made → rules.Answer
of_rules c = project_answer c.image c.row c.output_before c.detail_before

module _ (c : Made) (p : Projected c) where
  is_zero : c.answer.number ≡ 0 → (of_rules c).number ≡ 0
  unfolding answer_of
  is_zero e = ap (λ (a : rules.Answer). a.number) (sym p) ∙ e

  is_written : written (of_rules c) ≡ wrote c
  unfolding answer_of
  is_written = ap written (sym p)

pub calls_same_bodies : CallsSameBodies
calls_same_bodies c d p q b e zero zero' same schema i j is_schema is_i is_j =
    same_bytes_same_bodies c.image c.row d.row c.output_before d.output_before c.detail_before d.detail_before b (is_zero c p zero)
    (subst (λ (image : List ℕ). (project_answer image d.row d.output_before d.detail_before).number ≡ 0) (sym e) (is_zero d q zero'))
    (is_written c p ∙ same ∙ sym (is_written d q) ∙ ap (λ (image : List ℕ). written (project_answer image d.row d.output_before d.detail_before)) (sym e))
    schema i j is_schema is_i is_j

pub no_call_begins_another : NoCallBeginsAnother
no_call_begins_another c d p q b b' zero zero' rest e =
    sym (is_written c p)
    ∙ no_answer_begins_another c.image d.image c.row d.row c.output_before d.output_before c.detail_before d.detail_before b b' (is_zero c p zero) (is_zero d q zero') rest
    (ap (λ (l : List ℕ). l ++ rest) (is_written c p) ∙ e ∙ sym (is_written d q))
    ∙ is_written d q

pub calls_together : CallsTogether
calls_together c d p q e room lent schema i j is_schema is_i is_j r =
    let t : Together (of_rules c) (project_answer c.image d.row d.output_before d.detail_before) =
    answers_together c.image schema c.row d.row i j c.output_before d.output_before c.detail_before d.detail_before is_schema is_i is_j r room lent in
    let u : Together (of_rules c) (of_rules d) = subst (λ (image : List ℕ). Together (of_rules c) (project_answer image d.row d.output_before d.detail_before)) e t in
    subst (λ (a : rules.Answer). Together a (answer_of d.answer d.output d.detail)) (sym p) (subst (λ (a : rules.Answer). Together (of_rules c) a) (sym q) u)

pub one_answer : OneAnswer
one_answer c d p q image row output detail = p ∙ rw (image, row, output, detail) (sym q)

-- the rules' answer for the whole case
abbrev whole_words : List ℕ
whole_words = 1 ∷ 0 ∷ 0 ∷ 1 ∷ 1 ∷ 1 ∷ 2 ∷ 1 ∷ 1 ∷ 0 ∷ 5 ∷ 0 ∷ []

module _ (output detail : List ℕ) where
  abbrev by_room : Bool → Bool → rules.Answer
  by_room short fits =
      elim short as (λ _. rules.Answer) [ true ↦ refused (refusal 1) output detail | false ↦ elim fits as (λ _. rules.Answer) [ true ↦ accepted 1 whole_words output detail | false ↦ too_short whole_words output detail ] ]

  computes : project_answer whole_image 2 output detail ≡ by_room (ltb (length detail) 576) (leb 48 (length output))
  unfolding computed
  computes = refl

  whole_answer : 48 ≤ length output → 576 ≤ length detail → project_answer whole_image 2 output detail ≡ accepted 1 whole_words output detail
  whole_answer h l = computes ∙ ap (λ (b : Bool). by_room b (leb 48 (length output))) (le-ltb (length detail) 576 l) ∙ ap (by_room false) (le-leb 48 (length output) h)

pub whole_case : WholeCase
unfolding answer_of accepted
whole_case c p image row room lent =
    let e : answer_of c.answer c.output c.detail ≡ accepted 1 whole_words c.output_before c.detail_before =
    p ∙ ap (λ (i : List ℕ). project_answer i c.row c.output_before c.detail_before) image ∙ ap (λ (n : ℕ). project_answer whole_image n c.output_before c.detail_before) row
    ∙ whole_answer c.output_before c.detail_before room lent in
    record {
      number = ap (λ (a : rules.Answer). a.number) e;
      function = ap (λ (a : rules.Answer). a.function) e;
      second = ap (λ (a : rules.Answer). a.second) e;
      size = ap (λ (a : rules.Answer). a.size) e;
      visits = ap (λ (a : rules.Answer). a.visits) e;
      output = ap (λ (a : rules.Answer). a.output) e;
      detail = ap (λ (a : rules.Answer). a.detail) e;
    }
