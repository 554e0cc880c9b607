-- What a call does first: 1, 2, or the layout of a readable image.
use Rattle.std.specs.Prelude.{ℕ, ◌<◌, ◌≤◌, ◌≡◌, List, Result, Ok, Err}
use Rattle.std.proofs.Math.Option.{none}
use Rattle.rules.specs.Image.{readable}
use Rattle.image_layout.specs.declared.Layout.{Layout}
use Rattle.image.specs.Verdict.{Reads}
use Rattle.call_open.specs.declared.Closed.{Closed}

-- 1 and 2
abbrev pub number_of : Closed → ℕ
number_of Closed.ShortDetail = 1
number_of Closed.Unreadable = 2

-- refused where the detail has not 576 bytes, then where the image is not readable; else the layout by which its schema is read
abbrev pub Fronts : List ℕ → ℕ → Result Layout Closed → Type 0
Fronts image room (Err Closed.ShortDetail) = room < 576
Fronts image room (Err Closed.Unreadable) = (576 ≤ room) × (readable image ≡ none)
Fronts image room (Ok l) = (576 ≤ room) × Reads image l
