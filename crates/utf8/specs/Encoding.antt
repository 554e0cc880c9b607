-- What gives table 3-7 its meaning: the encoding of scalar values, by division and remainder.
use Rattle.std.specs.Prelude.{ℕ, ◌+◌, ◌/◌, ◌%◌, ◌≡◌, ◌↔◌, Bool, true, cond, ◌||◌, List, [], ◌∷◌, ◌++◌, ltb}
use Rattle.rules.specs.Words.{within}
use Rattle.rules.specs.Good.{All}
use Rattle.rules.specs.Utf8.{Range, ◌to◌, well_formed}

abbrev pub surrogates : Range
surrogates = 0xD800 to 0xDFFF

-- a scalar value: below the surrogates, or above them up to 10FFFF
abbrev pub is_scalar : ℕ → Bool
is_scalar c = ltb c surrogates.least || within (surrogates.most + 1) 0x10FFFF c

-- its bytes: six bits to each byte behind the first, the rest in the first
unfoldable pub encode : ℕ → List ℕ
encode c =
    cond (ltb c 0x80) (c ∷ [])
    (cond (ltb c 0x800) ((0xC0 + c / 64) ∷ (0x80 + c % 64) ∷ [])
    (cond (ltb c 0x10000) ((0xE0 + c / 64 / 64) ∷ (0x80 + c / 64 % 64) ∷ (0x80 + c % 64) ∷ [])
    ((0xF0 + c / 64 / 64 / 64) ∷ (0x80 + c / 64 / 64 % 64) ∷ (0x80 + c / 64 % 64) ∷ (0x80 + c % 64) ∷ [])))

unfoldable pub encoded : List ℕ → List ℕ
encoded [] = []
encoded (c ∷ cs) = encode c ++ encoded cs

-- a text with the scalar values that it encodes
pub record Decoded (text : List ℕ) : Type 0 where
  pub values : List ℕ
  pub scalar : All (λ c. is_scalar c ≡ true) values
  pub is : encoded values ≡ text

-- a text is well-formed exactly when it is the encoding of some scalar values
abbrev pub Meaning : Type 0
Meaning = (text : List ℕ) → (well_formed text ≡ true) ↔ Decoded text

-- two well-formed texts, one behind the other, are well-formed
abbrev pub Joined : Type 0
Joined = (first second : List ℕ) → well_formed first ≡ true → well_formed second ≡ true → well_formed (first ++ second) ≡ true
