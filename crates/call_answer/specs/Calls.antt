-- The rules' calls, by which is asked.
use Rattle.std.specs.Prelude.{ℕ, List}
use Rattle.rules.specs.Syntax.{TraitDef, ImplDef, CompiledSchema}
use Rattle.rules.specs.Refusal.{Result}
use Rattle.rules.specs.Signatures.{expected_functions}
use Rattle.rules.specs.Answer.{Answer, project_call, signatures_call, project_answer, signatures_answer}
use Rattle.expected_functions.specs.Asked.{in_words}
use Rattle.project_impl.specs.Steps.{projected_words}
use Rattle.call_answer.specs.declared.Call.{Call}

-- what a call comes to
unfoldable pub call_of : Call → ℕ → CompiledSchema → Result (ℕ × List ℕ)
call_of Call.Signatures row schema = signatures_call row schema
call_of Call.Projection row schema = project_call row schema

-- what it comes to where there are an implementation and its trait
unfoldable pub after_subject : Call → CompiledSchema → ImplDef → TraitDef → Result (ℕ × List ℕ)
after_subject Call.Signatures schema impl trait = in_words (expected_functions schema trait impl)
after_subject Call.Projection schema impl trait = projected_words schema impl trait

-- what it answers
abbrev pub answer_for : Call → List ℕ → ℕ → List ℕ → List ℕ → Answer
answer_for Call.Signatures image row output detail = signatures_answer image row output detail
answer_for Call.Projection image row output detail = project_answer image row output detail
