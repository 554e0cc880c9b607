-- The words of a type passed one by one: which of them are looked at, and what is seen.
use Rattle.std.specs.Prelude.{ℕ, ◌+◌, ◌≡◌, ◌||◌}
use Rattle.rules.specs.Kinds.{type_kind}
use Rattle.type_poison.specs.declared.Seen.{Seen}
use Rattle.type_poison.specs.Headers.{header_of, poison_words}

-- the word at place i, with the one before it: where it is the second word of a node, the two tell of that node, and any other is passed over
abbrev pub Passes : Seen → ℕ → ℕ → ℕ → Seen → Type 0
Passes seen i before word r =
    (i ≡ seen.second → (r.poison ≡ (seen.poison || poison_words before word)) × (r.second ≡ i + header_of (type_kind before) word))
    × ((i ≡ seen.second → ⊥) → r ≡ seen)
