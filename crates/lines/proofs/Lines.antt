-- Laws: an answer in lines.
use Prim.Native.Nat.{ℕ, ◌+◌, ◌*◌, ◌/◌, ◌<◌, ◌≤◌, min}
use mathlib.Core.Path.{◌≡◌, ap, ◌∙◌}
use mathlib.Core.Bool.{Bool, true, false}
use mathlib.Core.List.{List, [], ◌∷◌, ◌++◌, map, append-nil}
use native.Mathlib.Omega.{arith}
use native.Mathlib.Numerals.{add-one}
use lib.Dec.{eqb}
use lib.ListN.{length, get_or, take, drop, length-take, drop_of_length-le}
use lib.Seq.{drop-cons, get_or-take}
use borrow.Author.Tests.{eq-eqb, ne_eqb}
use Rattle.rules.specs.Words.{words}
use Rattle.rules.specs.Projone.{lines}
use Rattle.words.specs.Words.{word_at}
use Rattle.words.proofs.Words.{words_at}
use Rattle.answers.specs.declared.answer.Answer.{Answer}
use Rattle.answers.specs.Answers.{answer_of}
use Rattle.lines.specs.Text.{Tells}
use Rattle.lines.specs.Decimal.{decimal}
use Rattle.lines.specs.Lines.{line_text, lines_text, fields_of}
use Rattle.lines.proofs.Tells.{tells_none, tells_then}

-- each number on a line
abbrev pub singles : List ℕ → List (List ℕ)
singles ws = map (λ w. w ∷ []) ws

-- a word for every four bytes
quarter : (xs : List ℕ) → (4 * length (words xs) ≤ length xs) × (length xs < 4 * length (words xs) + 4)
unfolding words
quarter [] = (omega arith, omega arith)
quarter (a ∷ []) = (omega arith, omega arith)
quarter (a ∷ b ∷ []) = (omega arith, omega arith)
quarter (a ∷ b ∷ c ∷ []) = (omega arith, omega arith)
quarter (a ∷ b ∷ c ∷ d ∷ rest) = let q = quarter rest in (omega arith, omega arith)

-- the words of the first bytes of an output
module _ (output : List ℕ) (size : ℕ) where
  abbrev pub first_words : List ℕ
  first_words = words (take size output)

  pub first_count : length first_words ≡ min size (length output) / 4
  first_count = omega (arith, quarter (take size output), length-take size output)

  pub first_word : (i : ℕ) → i < length first_words → get_or first_words i 0 ≡ word_at output (4 * i)
  first_word i h =
      let l : 4 * i + 4 ≤ min size (length output) = omega (arith, quarter (take size output), length-take size output) in
      let at : (k : ℕ) → k < 4 * i + 4 → get_or (take size output) k 0 ≡ get_or output k 0 = λ k m. get_or-take size output k 0 (omega arith) in
      words_at i (take size output) (omega (arith, length-take size output))
      ∙ rw (at (4 * i) (omega arith), at (4 * i + 1) (omega arith), at (4 * i + 2) (omega arith), at (4 * i + 3) (omega arith))

-- words laid one by one: what is left of them decides
module _ (ws : List ℕ) (at : ℕ) (old : List ℕ) where
  abbrev pub Left : ℕ → ℕ → List ℕ → Type 0
  Left i next text = (r : ℕ) (new : List ℕ) → Tells (lines_text (singles (drop i ws))) next r text new → Tells (lines_text (singles ws)) at r old new

  pub left_more : (i w : ℕ) {next m : ℕ} {text mid : List ℕ} → next ≤ length text → i < length ws → w ≡ get_or ws i 0 → Tells (decimal w ++ (10 ∷ [])) next m text mid → Left i next text → Left (i + 1) m mid
  unfolding lines_text line_text
  left_more i w h l e s left r new t =
      let d : drop i ws ≡ w ∷ drop (i + 1) ws = rw (e, add-one) (drop-cons ws i 0 l) in
      left r new (rw d (tells_then h s t))

  pub left_none : (i : ℕ) {next : ℕ} {text : List ℕ} → next ≤ length text → length ws ≤ i → Left i next text → Tells (lines_text (singles ws)) at next old text
  unfolding lines_text
  left_none i {next} {text} h l left = left next text (rw (drop_of_length-le ws {i = i} l) (tells_none h))

-- an answer's lines: its fields alone, or with the words of its output
module _ (a : Answer) (output detail : List ℕ) where
  behind : Bool → List (List ℕ)
  behind b = elim b [ true ↦ singles (words (take a.length output)) | false ↦ [] ]

  told : (b : Bool) → eqb a.number 0 ≡ b → lines (answer_of a output detail) ≡ fields_of a ∷ behind b
  unfolding lines answer_of behind
  told b e = ap (λ (b : Bool). fields_of a ∷ behind b) e

  pub refused_lines : (a.number ≡ 0 → ⊥) → lines_text (lines (answer_of a output detail)) ≡ line_text (fields_of a)
  unfolding lines_text behind
  refused_lines n = ap lines_text (told false (ne_eqb a.number 0 n)) ∙ append-nil (line_text (fields_of a))

  pub accepted_lines : a.number ≡ 0 → lines_text (lines (answer_of a output detail)) ≡ line_text (fields_of a) ++ lines_text (singles (words (take a.length output)))
  unfolding lines_text behind
  accepted_lines e = ap lines_text (told true (eq-eqb a.number 0 e))
