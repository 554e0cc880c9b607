-- The answer by its checks: 1, then 2, then the readable image. Assumes nothing.
use Prim.Native.Nat.{ℕ, ◌<◌, ◌≤◌}
use mathlib.Core.Path.{◌≡◌, refl, ap, ◌∙◌}
use mathlib.Core.Bool.{Bool, true, false}
use mathlib.Core.List.{List}
use mathlib.Core.Option.{Option, none, some}
use lib.ListN.{length}
use borrow.Author.Tests.{lt-ltb, le-ltb}
use Rattle.rules.specs.Syntax.{CompiledSchema}
use Rattle.rules.specs.Image.{readable}
use Rattle.rules.specs.Refusal.{Result, refusal}
use Rattle.rules.specs.Answer.{Answer, refused, finished, answered, project_answer, signatures_answer}
use Rattle.std.specs.Prelude.{Err}
use Rattle.call_open.specs.declared.Closed.{Closed}
use Rattle.call_open.specs.Fronts.{number_of, Fronts}
use Rattle.call_answer.specs.declared.Call.{Call}
use Rattle.call_answer.specs.Calls.{call_of, answer_for}

-- a call's answer
pub answer_is : (c : Call) (image : List ℕ) (number : ℕ) (output detail : List ℕ) → answer_for c image number output detail ≡ answered (call_of c number) image output detail
unfolding signatures_answer project_answer answered call_of
answer_is Call.Signatures image number output detail = refl
answer_is Call.Projection image number output detail = refl

module _ (call : CompiledSchema → Result (ℕ × List ℕ)) (image output detail : List ℕ) where
  abbrev read : Option CompiledSchema → Answer
  read o = elim o as (λ _. Answer) [ none ↦ refused (refusal 2) output detail | some schema ↦ finished (call schema) output detail ]

  abbrev checked : Bool → Answer
  checked b = elim b as (λ _. Answer) [ true ↦ refused (refusal 1) output detail | false ↦ read (readable image) ]

  short : length detail < 576 → answered call image output detail ≡ refused (refusal 1) output detail
  unfolding answered
  short h = ap checked (lt-ltb (length detail) 576 h)

  long : 576 ≤ length detail → {o : Option CompiledSchema} → readable image ≡ o → answered call image output detail ≡ read o
  unfolding answered
  long h e = ap checked (le-ltb (length detail) 576 h) ∙ ap read e

  pub when_readable : {s : CompiledSchema} → 576 ≤ length detail → readable image ≡ some s → answered call image output detail ≡ finished (call s) output detail
  when_readable h e = long h e

  -- 1 or 2
  pub when_closed : (closed : Closed) → Fronts image (length detail) (Err closed) → answered call image output detail ≡ refused (refusal (number_of closed)) output detail
  when_closed Closed.ShortDetail h = short h
  when_closed Closed.Unreadable h = long h.0 h.1
