use mathlib.Core.Path.{◌≡◌, sym, ap, ◌∙◌}
use native.Mathlib.Omega.{arith}
use lib.ListN.{length}
use lib.Seq.{length-take-le}
use Rattle.rules.specs.Refusal.{◌>>=◌}
use Rattle.answers.specs.Refusals.{refusal_of}
use Rattle.answers.proofs.Calls.{comes_err, comes_same}
use Rattle.expected_signature.proofs.Places.{pool_small}
use Rattle.expected_functions.specs.Asked.{in_words}
use Rattle.expected_functions.proofs.Views.{few, not_as_many, as_many, given_of, functions_of}
use borrow.Author.Rules.{rules}
use Rattle.expected_functions.proofs.expected_functions.Goals as goal

pub overflow_add-start : goal.overflow_add-start
overflow_add-start c = omega (arith, pool_small c.requires.0.inside c.requires.1.trait_at.parts.name_at.inside)

pub returns-then-wanted-given : goal.returns-then-wanted-given
unfolding ◌>>=◌
returns-then-wanted-given c = λ a. comes_err (ap in_words (not_as_many a c.section_word-wanted.ensures c.section_word-given.ensures c.if-wanted-given.true c.section_word.ensures)) c.refused.ensures.0 (ap refusal_of c.refused.ensures.1 ∙ c.counts.ensures)

pub overflow_add-start-2 : goal.overflow_add-start-2
overflow_add-start-2 c = omega (arith, pool_small c.requires.0.inside c.requires.1.trait_at.parts.name_at.inside)

pub overflow_add-start-3 : goal.overflow_add-start-3
overflow_add-start-3 c = omega (arith, pool_small c.requires.0.inside c.requires.1.trait_at.parts.name_at.inside)

pub overflow_add-types : goal.overflow_add-types
overflow_add-types c = omega (arith, pool_small c.requires.0.inside c.requires.1.types_at.0.inside)

pub view-table-requires : goal.view-table-requires
view-table-requires c = given_of c.requires.1 c.section_word-wanted.ensures c.section_word-given.ensures c.if-wanted-given.false

pub overflow_add-start-4 : goal.overflow_add-start-4
overflow_add-start-4 c = omega (arith, pool_small c.requires.0.inside c.requires.1.trait_at.parts.name_at.inside)

pub overflow_add-start-5 : goal.overflow_add-start-5
overflow_add-start-5 c = omega (arith, pool_small c.requires.0.inside c.requires.1.trait_at.parts.name_at.inside)

pub overflow_add-start-6 : goal.overflow_add-start-6
overflow_add-start-6 c = omega (arith, few c.requires.1 c.section_word-wanted.ensures c.section_word-given.ensures, pool_small c.requires.0.inside c.requires.1.trait_at.parts.name_at.inside)

pub overflow_mul-table : goal.overflow_mul-table
overflow_mul-table c = omega (arith, few c.requires.1 c.section_word-wanted.ensures c.section_word-given.ensures)

pub slice_bounds-table-end : goal.slice_bounds-table-end
slice_bounds-table-end c = omega (arith, few c.requires.1 c.section_word-wanted.ensures c.section_word-given.ensures)

pub slice_bounds-expected_list-end : goal.slice_bounds-expected_list-end
slice_bounds-expected_list-end c = let w : length c.view-table.result ≡ 528 = search rules in sym (length-take-le _ _ (omega (arith, few c.requires.1 c.section_word-wanted.ensures c.section_word-given.ensures)))

pub expected_list-requires : goal.expected_list-requires
expected_list-requires c =
    let a = c.requires.1 in
    (c.requires.0, functions_of a c.section_word-wanted.ensures c.section_word-given.ensures c.if-wanted-given.false (c.view-table.ensures (given_of a c.section_word-wanted.ensures c.section_word-given.ensures c.if-wanted-given.false)))

pub returns : goal.returns
returns c = λ a. comes_same (ap in_words (as_many a c.section_word-wanted.ensures c.section_word-given.ensures c.if-wanted-given.false)) (c.expected_list.ensures (functions_of a c.section_word-wanted.ensures c.section_word-given.ensures c.if-wanted-given.false (c.view-table.ensures (given_of a c.section_word-wanted.ensures c.section_word-given.ensures c.if-wanted-given.false))))
