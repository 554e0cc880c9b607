-- `message_fields::field_type` meets its contract. Assumes nothing.
use Rattle.rules.specs.Infer.{find_last}
use Rattle.image_layout.specs.Open.{pool_words}
use Rattle.message_fields.proofs.Finds.{held_place, held_nowhere}
use Rattle.message_fields.proofs.field_type.Goals as goal

pub returns-then-place-eq0 : goal.returns-then-place-eq0
returns-then-place-eq0 c = λ ps n f. let a = c.args in held_nowhere a.l.now.names.rows (pool_words a.l.now) _ (find_last a.x.0 ps) (c.find_field-place.ensures ps n f) c.if-place-eq0.true c.none.result c.none.ensures

pub returns : goal.returns
returns c = λ ps n f. let a = c.args in held_place a.l.now.names.rows (pool_words a.l.now) _ (find_last a.x.0 ps) (c.find_field-place.ensures ps n f) c.if-place-eq0.false c.some.result _ c.some.ensures (λ t m s g. (c.hold_type-h.ensures t m s g).0)
