-- A refusal that code holds, as the rules have it.
use Rattle.std.specs.Prelude.{ℕ, List, ◌++◌, take}
use Rattle.rules.specs.Refusal as rules
use Rattle.answers.specs.declared.refusal.Refusal.{Refusal}

-- the detail words below the count
unfoldable pub detail_of : Refusal → List ℕ
detail_of r = take r.count r.words

unfoldable pub refusal_of : Refusal → rules.Refusal
refusal_of r = record { number = r.number; function = r.function.0; second = r.second.0; detail = detail_of r }

-- a refusal with more detail words
abbrev pub adding : rules.Refusal → List ℕ → rules.Refusal
adding e ws = record { number = e.number; function = e.function; second = e.second; detail = e.detail ++ ws }
