-- What a step's answer says of what the rules make of a statement.
use Rattle.std.specs.Prelude.{ℕ, ◌+◌, ◌≡◌, true, false, List}
use Rattle.rules.specs.Refusal.{Result, ok, err}
use Rattle.rules.specs.Output.{statement_words}
use Rattle.answers.specs.Refusals.{refusal_of}
use Rattle.image_layout.specs.declared.Layout.{Layout}
use Rattle.write_words.specs.Written.{Written}
use Rattle.infer_context.specs.declared.Context.{Context}
use Rattle.infer_context.specs.InContext.{InContext}
use Rattle.project_let.specs.declared.Step.{Step}
use Rattle.project_let.specs.Made.{Made}

-- a context with so many locals
abbrev pub counted : Context → ℕ → Context
counted x n = record { function = x.function; fields = x.fields; target = x.target; count = n }

-- over the image, its layout, the table afterwards and the context, and the output before and after
module _ (l : Layout) (names words lens : List ℕ) (x : Context) (limit to : ℕ) (old new : List ℕ) (r : Step) where
  abbrev pub StepAgrees : ℕ → Result Made → Type 0
  StepAgrees more (err e) = (r.done.ok ≡ false) × (refusal_of r.done.refusal ≡ e)
  StepAgrees more (ok p) = (r.done.ok ≡ true) × (r.count ≡ x.count + more) × Written limit to (statement_words p.0) old r.done.length new × InContext l names words lens (counted x r.count) p.1

  -- r is the statement's refusal; or its words are written, and the table with so many locals more says the context behind it
  pub record Steps (more : ℕ) (made : Result Made) : Type 0 where
    pub is : StepAgrees more made
