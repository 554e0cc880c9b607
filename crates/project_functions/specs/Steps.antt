-- The rules' projection by its steps, as words.
use Rattle.std.specs.Prelude.{ℕ, List}
use Rattle.rules.specs.Syntax.{MessageDef, ImplDef}
use Rattle.rules.specs.Refusal.{Result, ok, ◌>>=◌, or_refuse, in_function}
use Rattle.rules.specs.Signatures.{PortableSignature}
use Rattle.rules.specs.CheckSignature.{check_signature}
use Rattle.rules.specs.Bodies.{PortableFunction, project_function}
use Rattle.rules.specs.Project.{find_function, project_list}
use Rattle.rules.specs.Output.{function_words, functions_words}

module _ (impl : ImplDef) (message : MessageDef) where
  -- one expected function: 11, its signature, 12, its body
  unfoldable pub project_one : PortableSignature → Result PortableFunction
  project_one s = do
    actual ← or_refuse (find_function s.name impl.functions) (in_function 11 s.name)
    _ ← check_signature actual s
    project_function actual s message impl

  unfoldable pub one_words : PortableSignature → Result (List ℕ)
  one_words s = project_one s >>= λ f. ok (function_words f)

  -- all of them, their count first
  unfoldable pub list_words : List PortableSignature → Result (List ℕ)
  list_words ss = project_list impl message ss >>= λ fs. ok (functions_words fs)
