-- What the program writes.
use Rattle.std.specs.Prelude.{ℕ, Option, Some, None, List}
use Rattle.replay_told.specs.Told.{unread_text}
use Rattle.replay_verdict.specs.ReplayText.{replay_text}

-- the replay of the files, where both were read
abbrev pub printed : Option (List ℕ) → Option (List ℕ) → List ℕ
printed (Some cases) (Some labels) = replay_text cases labels
printed (Some cases) None = unread_text
printed None labels = unread_text
