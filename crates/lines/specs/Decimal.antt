-- A number's decimal digits in ASCII.
use Rattle.std.specs.Prelude.{ℕ, zero, suc, ◌/◌, true, false, List, ltb}
use Rattle.io.specs.Digits.{last_digits}

-- how many digits a number has, where it has no more than `most`
unfoldable pub places : ℕ → ℕ → ℕ
places zero n = zero
places (suc most) n = elim (ltb n 10) [ true ↦ 1 | false ↦ suc (places most (n / 10)) ]

-- a number below 2 ^ 64 has 20 digits at most
unfoldable pub decimal : ℕ → List ℕ
decimal n = last_digits 10 (places 20 n) n
