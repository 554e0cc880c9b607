-- What a projection is asked of, behind 5.
use Rattle.std.specs.Prelude.{ℕ, ◌≤◌, ◌≡◌, List, length}
use Rattle.rules.specs.Refusal.{Result, ok}
use Rattle.rules.specs.Signatures.{PortableSignature, expected_functions}
use Rattle.image_layout.specs.declared.Layout.{Layout}
use Rattle.expected_functions.specs.Asked as expected

-- what is accepted has at most so many words
abbrev pub Few : Result (ℕ × List ℕ) → Type 0
Few r = (v : ℕ) (ws : List ℕ) → r ≡ ok (v, ws) → length ws ≤ 200000000

module _ (l : Layout) where
  -- a trait at `start` and type arguments at `types`, and the signatures that they come to
  pub record Wanted (start types : ℕ) : Type 0 where
    pub asked : expected.Asked l start types
    pub visits : ℕ
    pub signatures : List PortableSignature
    pub is : expected_functions asked.schema asked.trait asked.impl ≡ ok (visits, signatures)
