-- A signature's check: its details are short.
use Prim.Native.Nat.{ℕ, ◌≤◌}
use mathlib.Core.List.{List, [], ◌∷◌}
use mathlib.Core.Option.{Option, none, some}
use native.Mathlib.Omega.{arith}
use lib.ListN.{length, length-append}
use lib.Dec.{eqb}
use Rattle.rules.specs.Syntax.{ResolvedType, run, Param, ImplFnDef}
use Rattle.rules.specs.Types.{same_type, same_return, return_words, normalize_return}
use Rattle.rules.specs.Signatures.{PortableSignature}
use Rattle.rules.specs.CheckSignature.{check_params, check_signature}
use Rattle.rules.specs.Good.{All, AllOption, Stored}
use Rattle.laws.specs.DefinitionRuns.{GoodParam, GoodFunction}
use Rattle.rules.specs.Typed.{TypedParam, TypedSignature}
use Rattle.laws_answers.proofs.Ends as ends
use Rattle.laws_answers.proofs.Ends.{Ends, Short}
use Rattle.laws_answers.proofs.Expected.{normalize_stored}

-- a return's words are at most 65
pub return_short : (names : ℕ) (t : Option ResolvedType) → AllOption (Stored names) t → length (return_words t) ≤ 65
unfolding return_words
return_short names none h = omega arith
return_short names (some t) h = omega (arith, h.short)

params_end : (names f : ℕ) (actual expected : List (Param ResolvedType)) → All (GoodParam names (Stored names)) actual → All (TypedParam names) expected
    → Ends Short (check_params f actual expected) (λ _. Unit {0})
unfolding check_params
params_end names f [] [] g h = ends.ok_ends tt _ tt
params_end names f [] (e ∷ es) g h = ends.ok_ends tt _ tt
params_end names f (a ∷ rest) [] g h = ends.ok_ends tt _ tt
params_end names f (a ∷ rest) (e ∷ es) g h =
    ends.ensure_ends (eqb a.name e.name) _ _ (omega arith) (λ _.
    ends.ensure_ends (same_type a.ty e.ty) _ _ (omega (arith, length-append (run e.ty) (run a.ty), g.0.ty.short, h.0.short)) (λ _.
    params_end names f rest es g.1 h.1))

pub signature_ends : (names strings : ℕ) (actual : ImplFnDef) (expected : PortableSignature) → GoodFunction names strings actual → TypedSignature names expected
    → Ends Short (check_signature actual expected) (λ _. Unit {0})
unfolding check_signature
signature_ends names strings actual expected g h =
    ends.ensure_ends (eqb (length actual.params) (length expected.params)) _ _ (omega arith) (λ _.
    ends.then_ends (params_end names expected.name actual.params expected.params g.params.each h.params.each) (λ _ _.
    ends.last_ensure_ends (same_return (normalize_return actual.return_type) expected.return_type) _
    (omega (
      arith,
      length-append (return_words expected.return_type) (return_words (normalize_return actual.return_type)),
      return_short names expected.return_type h.return_type,
      return_short names (normalize_return actual.return_type) (normalize_stored names actual.return_type g.return_type),
    ))))
