-- `project_impl::found::project_tested` meets its contract. Assumes nothing.
use borrow.Author.Rules.{rules}
use mathlib.Core.Path.{◌≡◌, sym}
use native.Mathlib.Omega.{arith}
use borrow.Author.Tests.{not-false}
use lib.ListN.{length}
use lib.Seq.{length-take-le}
use Rattle.project_outcome.proofs.Coming.{comes_same, part_behind, part_done}
use Rattle.project_impl.proofs.WholeLaws.{tests_first}
use Rattle.project_impl.proofs.WantedParts.{few, given, asked_at, all, against_names, start_small, types_small, stand, few_places, own_here}
use Rattle.project_impl.proofs.found.project_tested.Goals as goal

pub overflow_add-start : goal.overflow_add-start
overflow_add-start c = omega (arith, start_small c.requires.0.inside c.requires.1.asked)

pub overflow_add-asked : goal.overflow_add-asked
overflow_add-asked c = omega (arith, start_small c.requires.0.inside c.requires.1.asked)

pub overflow_add-asked-2 : goal.overflow_add-asked-2
overflow_add-asked-2 c = omega (arith, start_small c.requires.0.inside c.requires.1.asked)

pub overflow_add-asked-3 : goal.overflow_add-asked-3
overflow_add-asked-3 c = omega (arith, start_small c.requires.0.inside c.requires.1.asked, few c.requires.1 c.section_word-n.ensures)

pub slice_bounds-found-end : goal.slice_bounds-found-end
slice_bounds-found-end c = omega (arith, c.few-count.ensures.1)

pub slice_bounds-places-end : goal.slice_bounds-places-end
slice_bounds-places-end c = let e : length c.function_places-found.result ≡ 64 = search rules in sym (length-take-le _ _ (omega (arith, c.few-count.ensures.1)))

pub own_names-own-requires : goal.own_names-own-requires
own_names-own-requires c = few_places _ c.few-count.ensures.1

pub slice_bounds-own-end : goal.slice_bounds-own-end
slice_bounds-own-end c = omega (arith, c.few-count.ensures.1)

pub slice_bounds-check_names-end : goal.slice_bounds-check_names-end
slice_bounds-check_names-end c = let e : length c.own_names-own.result ≡ 64 = search rules in sym (length-take-le _ _ (omega (arith, c.few-count.ensures.1)))

pub overflow_add-start-2 : goal.overflow_add-start-2
overflow_add-start-2 c = omega (arith, start_small c.requires.0.inside c.requires.1.asked)

pub overflow_add-start-3 : goal.overflow_add-start-3
overflow_add-start-3 c = omega (arith, start_small c.requires.0.inside c.requires.1.asked)

pub overflow_add-types : goal.overflow_add-types
overflow_add-types c = omega (arith, types_small c.requires.0.inside c.requires.1.asked)

pub view-table-requires : goal.view-table-requires
view-table-requires c = given c.requires.1 c.section_word-n.ensures

pub overflow_mul-table : goal.overflow_mul-table
overflow_mul-table c = omega (arith, few c.requires.1 c.section_word-n.ensures)

pub slice_bounds-table-end : goal.slice_bounds-table-end
slice_bounds-table-end c = omega (arith, few c.requires.1 c.section_word-n.ensures)

pub slice_bounds-params-end : goal.slice_bounds-params-end
slice_bounds-params-end c = let e : length c.view-table.result ≡ 528 = search rules in sym (length-take-le _ _ (omega (arith, few c.requires.1 c.section_word-n.ensures)))

pub project_list-listed-requires : goal.project_list-listed-requires
project_list-listed-requires c = (c.requires.0, all c.requires.1 c.section_word-n.ensures (c.view-table.ensures (given c.requires.1 c.section_word-n.ensures)), omega arith)

pub returns-then-not-r : goal.returns-then-not-r
returns-then-not-r c =
    λ w message b.
    let s = stand b (c.functions_start-functions.ensures w.asked.impl.type_args _ w.asked.types_at) c.function_places-found.ensures c.section_word.ensures c.few-count.ensures.0 in
    let e : length c.function_places-found.result ≡ 64 = search (rules, c.function_places-found.type_inv) in
    let own = own_here c.function_places-found.result _ e c.few-count.ensures.1 (c.own_names-own.ensures w.asked.impl.functions s.functions_at) in
    let tests = against_names w c.section_word-n.ensures (c.check_names-tests.ensures w.asked.trait.functions _ (asked_at w c.section_word-n.ensures) w.asked.impl.functions s.functions_at own) in
    let order = c.function_names-wanted.ensures w.asked.trait.functions _ (asked_at w c.section_word-n.ensures) in
    let listed = c.project_list-listed.ensures (all w c.section_word-n.ensures (c.view-table.ensures (given w c.section_word-n.ensures))) order w.asked.impl message s in
    comes_same (tests_first w.asked.impl message w.signatures) (part_behind c.first_refusal-r.ensures tests listed)

pub returns : goal.returns
returns c =
    λ w message b.
    let s = stand b (c.functions_start-functions.ensures w.asked.impl.type_args _ w.asked.types_at) c.function_places-found.ensures c.section_word.ensures c.few-count.ensures.0 in
    let e : length c.function_places-found.result ≡ 64 = search (rules, c.function_places-found.type_inv) in
    let own = own_here c.function_places-found.result _ e c.few-count.ensures.1 (c.own_names-own.ensures w.asked.impl.functions s.functions_at) in
    let tests = against_names w c.section_word-n.ensures (c.check_names-tests.ensures w.asked.trait.functions _ (asked_at w c.section_word-n.ensures) w.asked.impl.functions s.functions_at own) in
    let order = c.function_names-wanted.ensures w.asked.trait.functions _ (asked_at w c.section_word-n.ensures) in
    let listed = c.project_list-listed.ensures (all w c.section_word-n.ensures (c.view-table.ensures (given w c.section_word-n.ensures))) order w.asked.impl message s in
    comes_same (tests_first w.asked.impl message w.signatures) (part_done c.first_refusal-r.ensures tests listed (not-false _ c.if-not-r.false) c.accepted.ensures.0 c.accepted.ensures.1)
