-- The labels: one a line, in the cases' order.
use Rattle.std.specs.Prelude.{ℕ, ◌+◌, ◌-◌, min, List, length, take, drop, nat_eq, position, unwrap_or}

abbrev pub line_feed : ℕ
line_feed = 10

-- a line ends at the first line feed at its start or behind it, or at the file's end
abbrev pub line_end : List ℕ → ℕ → ℕ
line_end names start = start + unwrap_or (position (nat_eq line_feed) (drop start names)) (length (drop start names))

-- the next one starts behind the line feed, or at the file's end
abbrev pub next_line : List ℕ → ℕ → ℕ
next_line names end = min (end + 1) (length names)

-- its bytes
abbrev pub line : List ℕ → ℕ → List ℕ
line names start = take (line_end names start - start) (drop start names)
