-- Words laid over a block, an answer's words by its equation. Assumes nothing.
use Prim.Native.Nat.{ℕ, ◌<◌, ◌≤◌}
use mathlib.Core.Path.{◌≡◌, refl, ap, ◌∙◌}
use mathlib.Core.List.{List, [], ◌∷◌, ◌++◌}
use native.Mathlib.Omega.{arith}
use lib.ListN.{length, drop}
use Rattle.rules.specs.Words.{over_start}
use Rattle.rules.specs.Answer as rules
use Rattle.answers.specs.declared.answer.Answer.{Answer}
use Rattle.answers.specs.Answers.{answer_of}
use Rattle.export_block.specs.Block.{five, words_of, SHORT, Exported}

-- words laid over a block's start
pub laid : {vs : List ℕ} (ws b : List ℕ) → vs ≡ ws → length ws ≤ length b → vs ++ drop (length ws) b ≡ over_start ws b
unfolding over_start
laid ws b e h = rw e (fits ws b h)
  where
    fits : (ws b : List ℕ) → length ws ≤ length b → ws ++ drop (length ws) b ≡ over_start ws b
    fits [] b h = refl
    fits (w ∷ ws) [] h = absurd (omega arith)
    fits (w ∷ ws) (o ∷ os) h = ap (λ (l : List ℕ). w ∷ l) (fits ws os (omega arith))

-- the words of an answer that is the rules'
pub same_words : (a : Answer) (output detail : List ℕ) → words_of a ≡ five (answer_of a output detail)
unfolding words_of five answer_of
same_words a output detail = refl

-- a short block, with nothing touched
pub exported_short : (a : rules.Answer) (output detail block : List ℕ) → length block < 5 → Exported a SHORT output output detail detail block block
exported_short a output detail block h = record { answered = λ l. absurd (omega arith); untouched = λ _. (refl, refl, refl, refl) }

-- an answer that is the rules', with its words in the block
pub exported : {r : rules.Answer} (a : Answer) {n : ℕ} (output detail : List ℕ) {output' detail' block block' : List ℕ}
    → 5 ≤ length block → answer_of a output' detail' ≡ r → n ≡ a.number → block' ≡ over_start (words_of a) block
    → Exported r n output output' detail detail' block block'
unfolding answer_of
exported {r} a {n} output detail {output'} {detail'} {block} {block'} l e m w = record {
  answered = λ _. (
    m ∙ ap (λ (x : rules.Answer). x.number) e,
    ap (λ (x : rules.Answer). x.output) e,
    ap (λ (x : rules.Answer). x.detail) e,
    w ∙ ap (λ (x : List ℕ). over_start x block) (same_words a output' detail' ∙ ap five e),
  );
  untouched = λ h. absurd (omega arith);
}
