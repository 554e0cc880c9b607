-- A writer behind a word that it was given.
use Rattle.std.specs.Prelude.{ℕ, ◌+◌, length}
use denote.Ref.{at_last}
use Rattle.words.specs.Puts.{put}
use Rattle.writer.specs.declared.Writer.{Writer}

-- the same reference, with the word x at the next place if it ends inside; and the place is four further, written or not
abbrev pub moved_on : Writer → ℕ → Writer
moved_on w x = record { out = at_last w.out (put (length w.out.now) w.next x w.out.now); next = w.next + 4 }
