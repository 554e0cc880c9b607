use borrow.Author.Rules.{rules}
use Rattle.std.proofs.Common.{tests}
use Rattle.std.proofs.lemmas.Iterator.{YieldsList-from_slice, first_from_find}
use Rattle.std.proofs.lemmas.Iterator.Consumers.{YieldsList-from_copied}
use Rattle.impl_functions.proofs.FindByName.{Named, Other, finds}
use Rattle.impl_functions.proofs.search.find_function.Goals as goal

pub returns : goal.returns
returns c =
    finds c.args.l.now c.args.x.0 c.args.places.now c.find.result
    (first_from_find _ _ c.find.result (Named c.args.l.now c.args.x.0) (Other c.args.l.now c.args.x.0) c.find.ensures.ran (YieldsList-from_copied (YieldsList-from_slice c.args.places.now cc)) (λ x q k. search (rules, tests)) (λ x q k. search (rules, tests)))
