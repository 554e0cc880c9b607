use mathlib.Core.Path.{sym}
use mathlib.Core.Bool.{Bool, not}
use mathlib.Core.List.{List}
use Prim.Native.Nat.{ℕ}
use native.Mathlib.Omega.{arith}
use Rattle.rules.specs.Words.{same}
use Rattle.image_texts.proofs.All.{all_none, all_done, all_false, all_more}
use Rattle.image_texts.specs.Rows.{row_text, new_row}
use Rattle.image_texts_differ.proofs.no_clash.Goals as goal

abbrev apart : List ℕ → ℕ → ℕ → ℕ → Bool
apart image names_start i j = not (same (row_text image names_start j) (row_text image names_start i))

pub loop-j-init : goal.loop-j-init
loop-j-init c = all_none (apart _ _ _)

pub returns-then-clash : goal.returns-then-clash
unfolding new_row
returns-then-clash c =
    let l = c.loop-j in
    let a = c.args in
    sym (all_false (apart a.image.now a.names_start a.name.0) l.j a.name.0 (omega arith) (rw (← c.clash.ensures, c.if-clash.true)))

pub loop-j-preserved : goal.loop-j-preserved
loop-j-preserved c =
    let l = c.loop-j in
    let a = c.args in
    all_more (apart a.image.now a.names_start a.name.0) l.j l.invariant (rw (← c.clash.ensures, c.if-clash.false))

pub returns : goal.returns
unfolding new_row
returns c =
    let l = c.loop-j in
    let a = c.args in
    all_done (apart a.image.now a.names_start a.name.0) l.j a.name.0 (omega arith) (omega arith) l.invariant
