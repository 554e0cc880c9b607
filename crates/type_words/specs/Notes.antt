-- What a row of a table notes of a type beside its words.
use Rattle.std.specs.Prelude.{ℕ, ◌+◌, Bool, true, false}

-- the count of the words, and 128 more where poison occurs
abbrev pub note : ℕ → Bool → ℕ
note n true = n + 128
note n false = n
