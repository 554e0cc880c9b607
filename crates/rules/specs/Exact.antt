-- A reader reads exactly the words of good values: from the words of a good value it gives that value, and what it gives is good and its words stood there.
use Rattle.std.specs.Prelude.{ℕ, ◌+◌, ◌≤◌, ◌≡◌, List, [], ◌∷◌, ◌++◌, length}
use Rattle.std.proofs.Math.Option.{Option, none, some}
use Rattle.rules.specs.Reader.{Rest, Reader}
use Rattle.rules.specs.Good.{All}

pub record Reads {A : Type 0} (r : Reader A) (ws : List ℕ) (a : A) : Type 0 where
  pub on : (at : ℕ) (rest : List ℕ) → r (record { at = at; left = ws ++ rest }) ≡ some (a, record { at = at + length ws; left = rest })

-- from p to q some words were taken, of which P holds with the value
pub record Found {A : Type 0} (P : A → List ℕ → Type 0) (p : Rest) (a : A) (q : Rest) : Type 0 where
  pub words : List ℕ
  pub left : p.left ≡ words ++ q.left
  pub at : q.at ≡ p.at + length words
  pub holds : P a words

pub record Gives {A : Type 0} (r : Reader A) (P : A → List ℕ → Type 0) : Type 0 where
  pub found : (p : Rest) (a : A) (q : Rest) → r p ≡ some (a, q) → Found P p a q

-- the words of a good value
pub record Run {A : Type 0} (words : A → List ℕ) (Good : A → Type 0) (a : A) (ws : List ℕ) : Type 0 where
  pub is : ws ≡ words a
  pub good : Good a

-- 0, or 1 and the words
abbrev pub optional : {A : Type 0} → (A → List ℕ) → Option A → List ℕ
optional words none = 0 ∷ []
optional words (some a) = 1 ∷ words a

pub record Exact {A : Type 0} (r : Reader A) (words : A → List ℕ) (Good : A → Type 0) : Type 0 where
  pub reads : (a : A) → Good a → Reads r (words a) a
  pub gives : Gives r (Run words Good)

-- at most so many, each good
pub record Few {A : Type 0} (most : ℕ) (Good : A → Type 0) (xs : List A) : Type 0 where
  pub few : length xs ≤ most
  pub each : All Good xs
