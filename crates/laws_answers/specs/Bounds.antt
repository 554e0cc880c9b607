-- The most that a call writes or visits on a readable image.
use Rattle.std.specs.Prelude.{ℕ, ◌*◌, ◌+◌}
use Rattle.laws.specs.GoodSchema.{most_words}

-- 576 bytes
abbrev pub most_detail : ℕ
most_detail = 144

-- a value's type and one word more, for each word
abbrev pub growth : ℕ
growth = 65

-- 32 parameters and a return
abbrev pub function_visits : ℕ
function_visits = 33 * 1024

-- a name, 32 parameters of 65 words with their count, a return of 65
abbrev pub signature_most : ℕ
signature_most = 2147

-- 64 functions of 32 parameters and a return
abbrev pub most_visits : ℕ
most_visits = 64 * function_visits

-- words written: 64 signatures with two counts, and 65 for each word of the bodies in the pool
abbrev pub most_output : ℕ
most_output = 1 + 64 * 2148 + growth * most_words

abbrev pub most_signatures : ℕ
most_signatures = 1 + 64 * signature_most
