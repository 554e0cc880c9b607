-- What the two calls answer on readable images: details of at most 576 bytes, output that the image bounds, and one answer alone.
use Prim.Native.Nat.{ℕ, ◌*◌}
use mathlib.Core.Path.{◌≡◌, refl, sym, ◌∙◌}
use mathlib.Core.List.{List, [], ◌∷◌}
use mathlib.Core.Option.{some}
use native.Mathlib.Omega.{arith}
use lib.ListN.{length}
use Rattle.rules.specs.Words.{bytes_of}
use Rattle.rules.specs.Syntax.{CompiledSchema}
use Rattle.rules.specs.Image.{readable}
use Rattle.rules.specs.Answer.{project_call, signatures_call, project_answer, signatures_answer}
use Rattle.laws.proofs.Schema.{readable_good}
use Rattle.laws_answers.proofs.Ends.{Ends, Short}
use Rattle.laws_answers.specs.Answers.{ProjectDetailFits, SignaturesDetailFits, ProjectBounded, SignaturesBounded, OneOfAnswers}
use Rattle.laws_answers.proofs.Calls.{Written, Listed, project_call_ends, signatures_call_ends}

pub bytes_length : (ws : List ℕ) → length (bytes_of ws) ≡ 4 * length ws
unfolding bytes_of
bytes_length [] = refl
bytes_length (w ∷ ws) = omega (arith, bytes_length ws)

module _ (image : List ℕ) (schema : CompiledSchema) (held : readable image ≡ some schema) (row : ℕ) where
  -- each call's end on a schema that an image holds
  pub project_ends : Ends Short (project_call row schema) (Written (length schema.names))
  project_ends = project_call_ends (length schema.names) (length schema.strings) schema (readable_good image schema held) row

  pub signatures_ends : Ends Short (signatures_call row schema) (Listed (length schema.names))
  signatures_ends = signatures_call_ends (length schema.names) (length schema.strings) schema (readable_good image schema held) row

pub project_detail : ProjectDetailFits
project_detail image schema held row r e = omega (arith, bytes_length r.detail, (project_ends image schema held row).refuses r e)

pub signatures_detail : SignaturesDetailFits
signatures_detail image schema held row r e = omega (arith, bytes_length r.detail, (signatures_ends image schema held row).refuses r e)

pub project_bound : ProjectBounded
project_bound image schema held row visits words e = let w = (project_ends image schema held row).gives (visits, words) e in (w.visits, w.small)

pub signatures_bound : SignaturesBounded
signatures_bound image schema held row visits words e = let w = (signatures_ends image schema held row).gives (visits, words) e in (w.visits, w.small)

pub project_one : OneOfAnswers project_answer
project_one image row output detail a b p q = p ∙ sym q

pub signatures_one : OneOfAnswers signatures_answer
signatures_one image row output detail a b p q = p ∙ sym q
