-- `image_sections::layout_of` meets its contract: the trailer's sections lie one behind the other. Assumes nothing.
use native.Mathlib.Omega.{arith}
use Rattle.image_sections.proofs.Trailers.{parts, fewer}
use Rattle.image_sections.proofs.layout_of.Goals as goal

pub table-names-requires : goal.table-names-requires
table-names-requires c = let p = parts _ _ c.requires.1 in record { width = (omega arith, omega arith); rows = fewer (omega arith) p.names; inside = omega arith }

pub table-strings-requires : goal.table-strings-requires
table-strings-requires c = let p = parts _ _ c.requires.1 in record { width = (omega arith, omega arith); rows = fewer (omega arith) p.strings; inside = omega arith }

pub table-definitions-requires : goal.table-definitions-requires
table-definitions-requires c = let p = parts _ _ c.requires.1 in record { width = (omega arith, omega arith); rows = fewer (omega arith) p.definitions; inside = omega arith }

pub slice_bounds-result-count : goal.slice_bounds-result-count
slice_bounds-result-count c = let p = parts _ _ c.requires.1 in omega arith

pub slice_bounds-result-start : goal.slice_bounds-result-start
slice_bounds-result-start c = let p = parts _ _ c.requires.1 in omega arith

pub slice_bounds-result-end : goal.slice_bounds-result-end
slice_bounds-result-end c = let p = parts _ _ c.requires.1 in omega arith
