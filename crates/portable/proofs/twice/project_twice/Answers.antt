-- `portable::twice::project_twice` meets its contract: each call's fact, and that a slice's elements are bytes. Assumes nothing.
use Rattle.portable.proofs.Promised.{promised}
use Rattle.portable.proofs.twice.project_twice.Goals as goal

pub returns : goal.returns
returns c =
    promised
    c.project_impl-first.ensures
    c.project_impl-second.ensures
    (λ i. (c.type_inv.image i).fits)
    (λ i. (c.type_inv.image2 i).fits)
