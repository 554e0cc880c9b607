-- What a call is asked of, as what signatures are asked of. Assumes nothing.
use Rattle.image_layout.specs.declared.Layout.{Layout}
use Rattle.impl_trait.specs.declared.Subject.{Subject}
use Rattle.impl_trait.specs.Subjects.{About}
use Rattle.expected_functions.specs.Asked.{Asked}

abbrev pub asked : {l : Layout} {f : Subject} → About l f → Asked l f.start f.types
asked a = record {
  schema = a.schema;
  opened = a.opened;
  trait = a.trait;
  trait_end = a.stand.trait_end;
  trait_at = a.stand.trait_at;
  impl = a.impl;
  types_end = a.stand.types_end;
  types_at = a.stand.types_at;
}
