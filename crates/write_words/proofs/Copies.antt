-- Words that stand one behind the other among others.
use Prim.Native.Nat.{ℕ, ◌+◌, ◌<◌}
use native.Mathlib.Omega.{arith}
use mathlib.Core.Path.{◌≡◌, sym}
use mathlib.Core.List.{List}
use lib.ListN.{length, drop, get_or, length-drop, length-append}
use Rattle.image_words.specs.Stands.{Stands}
use Rattle.type_from_pool.proofs.Copies.{stands_copied}

module _ {ws run : List ℕ} {at n : ℕ} (s : Stands ws run at n) (i : ℕ) (l : i < length run) where
  pub stands_word : get_or ws (at + i) 0 ≡ get_or run i 0
  stands_word = sym (stands_copied ws at n run s i l)

  pub stands_within : at + i < length ws
  stands_within = let e : length (drop at ws) ≡ length run + length (drop n ws) = (rw s.left (length-append run (drop n ws))) in omega (arith, length-drop at ws)
