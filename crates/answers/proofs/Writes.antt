-- Laws: words written one behind the other into an output, as far as they fit it.
use Prim.Native.Nat.{ℕ, ◌+◌}
use mathlib.Core.Path.{◌≡◌, refl, sym, ap, ap₂, subst, ◌∙◌}
use mathlib.Core.List.{List, [], ◌∷◌, ◌++◌}
use native.Mathlib.Omega.{arith}
use native.Mathlib.Nat.{le_refl}
use lib.ListN.{length, length-append}
use Rattle.words.specs.Puts.{put, puts}
use Rattle.words.proofs.Puts.{puts_append, length_puts}
use Rattle.answers.specs.Writes.{Writes}

-- the output keeps its length
pub writes_length : {ws : List ℕ} {to next : ℕ} {old new : List ℕ} → Writes ws to next old new → length new ≡ length old
writes_length {ws} {to} {next} {old} w = ap length w.bytes ∙ length_puts (length old) to ws old (le_refl _)

pub writes_none : {to : ℕ} {old : List ℕ} → Writes [] to to old old
unfolding puts
writes_none = record { place = omega arith; bytes = refl }

pub writes_one : {w to next : ℕ} {old new : List ℕ} → next ≡ to + 4 → new ≡ put (length old) to w old → Writes (w ∷ []) to next old new
unfolding puts
writes_one e b = record { place = omega (arith, e); bytes = b }

-- other words behind them
pub writes_then : {vs ws : List ℕ} {to m next : ℕ} {old mid new : List ℕ} → Writes vs to m old mid → Writes ws m next mid new → Writes (vs ++ ws) to next old new
writes_then {vs} {ws} {to} {m} {next} {old} {mid} {new} v w = record {
  place = omega (arith, v.place, w.place, length-append vs ws);
  bytes =
      w.bytes
      ∙ ap (λ (n : ℕ). puts n m ws mid) (writes_length v)
      ∙ ap₂ (λ (k : ℕ) (xs : List ℕ). puts (length old) k ws xs) v.place v.bytes
      ∙ sym (puts_append (length old) to vs ws old);
}

-- equal words
pub writes_same : {vs ws : List ℕ} {to next : ℕ} {old new : List ℕ} → vs ≡ ws → Writes vs to next old new → Writes ws to next old new
writes_same {to = to} {next} {old} {new} e w = subst (λ (l : List ℕ). Writes l to next old new) e w
