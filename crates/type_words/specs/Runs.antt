-- The words of a held type.
use Rattle.std.specs.Prelude.{ℕ, ◌≤◌, ◌≡◌, Bool, true, List, length, take, leb}
use Rattle.type_words.specs.declared.HeldType.{HeldType}

-- the words below the count; nothing is said of the others
unfoldable pub held_run : HeldType → List ℕ
held_run h = take h.len h.words

-- h holds the words l
pub record Runs (h : HeldType) (l : List ℕ) : Type 0 where
  pub run : held_run h ≡ l
  pub count : h.len ≡ length l
  pub small : h.len ≤ 64

-- h holds the words l, and says p of poison
pub record Made (h : HeldType) (l : List ℕ) (p : Bool) : Type 0 where
  pub runs : Runs h l
  pub poison : h.poison ≡ p

-- a type that was to grow: not ok where it would pass 64 words
pub record Grown : Type 0 where
  pub ok : Bool
  pub ty : HeldType

-- r holds the words l where they are at most 64, and is not ok where they are more
pub record Grows (l : List ℕ) (r : Grown) : Type 0 where
  pub ok : r.ok ≡ leb (length l) 64
  pub runs : r.ok ≡ true → Runs r.ty l
