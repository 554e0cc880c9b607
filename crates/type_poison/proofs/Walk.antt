-- A walk over the nodes of a run, header by header, finds poison where the type has it. Assumes nothing.
use Prim.Native.Nat.{ℕ, zero, suc, ◌+◌, ◌≤◌, ◌<◌}
use native.Mathlib.Nat.{add-zero}
use native.Mathlib.Omega.{arith}
use mathlib.Core.Path.{◌≡◌, refl, sym, ap, ◌∙◌}
use mathlib.Core.Bool.{Bool, false, ◌||◌, and-false}
use mathlib.Core.List.{List, [], ◌∷◌}
use lib.ListN.{length, drop, get_or, length-drop}
use lib.Dec.{eqb}
use lib.Seq.{drop-drop, get_or-drop}
use Rattle.rules.specs.Kinds.{type_kind}
use Rattle.rules.specs.declared.kinds.TypeKind.{TypeKind}
use Rattle.type_poison.specs.Headers.{header_of, poison_words}

-- the node at the front of some words, and the words behind its header
unfoldable pub front_poison : List ℕ → Bool
front_poison ws = poison_words (get_or ws 0 0) (get_or ws 1 0)

unfoldable pub front_header : List ℕ → ℕ
front_header ws = header_of (type_kind (get_or ws 0 0)) (get_or ws 1 0)

unfoldable pub behind : List ℕ → List ℕ
behind ws = drop (front_header ws) ws

-- some node of at most `most` is poison
unfoldable pub poison_in : ℕ → List ℕ → Bool
poison_in zero ws = false
poison_in (suc most) [] = false
poison_in (suc most) (w ∷ ws) = front_poison (w ∷ ws) || poison_in most (behind (w ∷ ws))

unfoldable pub poisoned : List ℕ → Bool
poisoned ws = poison_in (length ws) ws

-- a header has a word, and no more than the count behind its code and three
pub header_size : (k : TypeKind) (next : ℕ) → (1 ≤ header_of k next) × (header_of k next ≤ next + 3)
header_size TypeKind.Plain next = (omega arith, omega arith)
header_size TypeKind.Sub next = (omega arith, omega arith)
header_size TypeKind.Bits next = (omega arith, omega arith)
header_size TypeKind.Named next = (omega arith, omega arith)
header_size TypeKind.Qualified next = (omega arith, omega arith)
header_size TypeKind.Generic next = (omega arith, omega arith)
header_size TypeKind.One next = (omega arith, omega arith)
header_size TypeKind.Fixed next = (omega arith, omega arith)
header_size TypeKind.Two next = (omega arith, omega arith)
header_size TypeKind.Unknown next = (omega arith, omega arith)

behind_shorter : (w : ℕ) (ws : List ℕ) → length (behind (w ∷ ws)) ≤ length ws
unfolding behind front_header
behind_shorter w ws =
    omega (arith, length-drop (front_header (w ∷ ws)) (w ∷ ws), (header_size (type_kind (get_or (w ∷ ws) 0 0)) (get_or (w ∷ ws) 1 0)).0)

-- as many nodes as words are enough
enough : (f g : ℕ) (ws : List ℕ) → length ws ≤ f → length ws ≤ g → poison_in f ws ≡ poison_in g ws
unfolding poison_in
enough zero zero ws a b = refl
enough zero (suc g) [] a b = refl
enough zero (suc g) (w ∷ ws) a b = absurd (omega arith)
enough (suc f) zero [] a b = refl
enough (suc f) zero (w ∷ ws) a b = absurd (omega arith)
enough (suc f) (suc g) [] a b = refl
enough (suc f) (suc g) (w ∷ ws) a b =
    ap (λ (x : Bool). front_poison (w ∷ ws) || x)
    (enough f g (behind (w ∷ ws)) (omega (arith, behind_shorter w ws)) (omega (arith, behind_shorter w ws)))

-- one node
pub poisoned_step : (ws : List ℕ) → 0 < length ws → poisoned ws ≡ (front_poison ws || poisoned (behind ws))
unfolding poison_in poisoned
poisoned_step [] l = absurd (omega arith)
poisoned_step (w ∷ ws) l =
    ap (λ (x : Bool). front_poison (w ∷ ws) || x)
    (enough (length ws) (length (behind (w ∷ ws))) (behind (w ∷ ws)) (behind_shorter w ws) (omega arith))

-- the same from place to place
pub step_at : (u : List ℕ) (i c next n : ℕ) → i < length u → c ≡ get_or u i 0 → next ≡ get_or u (i + 1) 0 → n ≡ header_of (type_kind c) next
    → poisoned (drop i u) ≡ (poison_words c next || poisoned (drop (i + n) u))
unfolding front_poison behind front_header
step_at u i c next n l ec en eh =
    let s : 0 < length (drop i u) = omega (arith, length-drop i u) in
    let a : get_or (drop i u) 0 0 ≡ c = get_or-drop i u 0 0 ∙ ap (λ (x : ℕ). get_or u x 0) (add-zero i) ∙ sym ec in
    let b : get_or (drop i u) 1 0 ≡ next = get_or-drop i u 1 0 ∙ sym en in
    poisoned_step (drop i u) s ∙ rw (a, b, ← eh, drop-drop n i u) refl

-- fewer words than two have no poison
pub poisoned_short : (ws : List ℕ) → length ws ≤ 1 → poisoned ws ≡ false
unfolding poison_in poisoned front_poison
poisoned_short [] l = refl
poisoned_short (w ∷ []) l = rw (and-false (eqb w 48))
poisoned_short (w ∷ v ∷ ws) l = absurd (omega arith)
