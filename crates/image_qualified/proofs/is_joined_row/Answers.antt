use mathlib.Core.Path.{sym, ap, ap₂, ◌∙◌}
use mathlib.Core.List.{List, ◌∷◌, ◌++◌}
use Prim.Native.Nat.{ℕ, ◌+◌, ◌*◌, ◌≤◌}
use native.Mathlib.Omega.{arith}
use lib.ListN.{length, take, drop, length-take}
use Rattle.rules.specs.Words.{same}
use Rattle.words.specs.Words.{word_at}
use Rattle.image_texts.specs.Rows.{row_text}
use Rattle.image_qualified.proofs.Joined.{joined_long}
use Rattle.image_qualified.proofs.is_joined_row.Goals as goal

no_longer : (image : List ℕ) (names_start i : ℕ) → length (row_text image names_start i) ≤ word_at image (names_start + 16 * i + 4)
unfolding row_text
no_longer image names_start i = omega (arith, length-take (word_at image (names_start + 16 * i + 4)) (drop (word_at image (names_start + 16 * i)) image))

pub returns-then-size-namespace : goal.returns-then-size-namespace
returns-then-size-namespace c =
    let a = c.args in
    let image = a.image.now in
    sym (joined_long a.namespace.now a.name.now (row_text image a.names_start a.row.0)
    (λ e. omega (arith, no_longer image a.names_start a.row.0, c.text_size-size.ensures)))

pub returns : goal.returns
unfolding row_text
returns c =
    let a = c.args in
    c.is_joined.ensures
    ∙ ap (same (a.namespace.now ++ 46 ∷ a.name.now))
    (c.part.ensures ∙ ap₂ (λ (n i : ℕ). take n (drop i a.image.now)) c.text_size-size.ensures c.text_start.ensures)
