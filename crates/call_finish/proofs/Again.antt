-- A second pass, where the first could not keep all words. Assumes nothing.
use Prim.Native.Nat.{ℕ}
use mathlib.Core.Path.{◌≡◌, ap, subst, ◌∙◌}
use mathlib.Core.List.{List}
use native.Mathlib.Omega.{arith}
use Rattle.std.specs.Prelude.{None}
use Rattle.rules.specs.Refusal.{Result}
use Rattle.rules.specs.Answer.{finished}
use Rattle.answers.specs.declared.answer.Answer.{Answer}
use Rattle.answers.specs.declared.answer.Outcome.{Outcome}
use Rattle.answers.specs.Answers.{answer_of, AcceptsAll, Comes}
use Rattle.answers.proofs.Calls.{Accepted, is_accepted, ends_accepted}
use Rattle.answers.proofs.Passes.{again, one_length, visits_same}
use Rattle.call_finish.specs.Ends.{Ends}

module _ {call : Result (ℕ × List ℕ)} {blank first : List ℕ} {m : Outcome} (c : Comes call blank first m)
    {output output' detail detail' : List ℕ} (e : Ends m first output output' detail detail' None) {new : List ℕ} {w : Outcome} (p : Comes call output' new w) where
  -- it is accepted too
  pub accepted_again : Accepted call output' new w
  accepted_again = again (is_accepted c e.to_write.0) p

  -- and its words are the answer's
  pub written_again : (a : Answer) → AcceptsAll a w.length w.visits → answer_of a new detail' ≡ finished call output detail
  written_again a f =
      let t = e.to_write in
      let k : Accepted call output new w = again (is_accepted c t.0) (subst (λ (o : List ℕ). Comes call o new w) t.2 p) in
      ap (answer_of a new) t.3 ∙ ends_accepted call a k.is (visits_same a _ k.counts f) k.writes detail (omega (arith, one_length (is_accepted c t.0) k, t.1))
