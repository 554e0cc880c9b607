-- A reader that reads exactly some words gives what stands there and is good.
use Prim.Native.Nat.{ℕ}
use mathlib.Core.Path.{◌≡◌, refl, sym, ap, ◌∙◌}
use mathlib.Core.List.{List, ◌++◌}
use mathlib.Core.Option.{Option, none, some}
use lib.ListN.{length, drop}
use lib.Seq.{drop-drop, drop_at}
use Rattle.rules.specs.Reader.{Rest, rest_at, Reader}
use Rattle.rules.proofs.Exact as exact
use Rattle.rules.specs.Exact.{Exact}
use Rattle.image_words.proofs.Gives.{Yields, Gives, so_then, both}
use Rattle.image_words.specs.Stands.{Stands, Held}

given_y : {A : Type 0} (ws : List ℕ) (P : A → ℕ → Type 0) (o : Option (A × Rest)) → ((a : A) (q : Rest) → o ≡ some (a, q) → (q ≡ rest_at ws q.at) × P a q.at) → Yields ws P o
given_y ws P none h = tt
given_y ws P (some p) h = h p.0 p.1 refl

pub exact_gives : {A : Type 0} {r : Reader A} {words : A → List ℕ} {Good : A → Type 0} → Exact r words Good → (ws : List ℕ) (at : ℕ) → Gives r ws at (λ a n. Stands ws (words a) at n × Good a)
exact_gives {A} {r} {words} {Good} e ws at = record {
  so = given_y ws (λ a n. Stands ws (words a) at n × Good a) (r (rest_at ws at)) (λ a q i.
      let s = exact.stands e (rest_at ws at) a q i in
      let rest : q.left ≡ drop q.at ws =
      sym (drop_at (words a) q.left (length (words a)) refl) ∙ ap (drop (length (words a))) (sym s.0) ∙ drop-drop (length (words a)) at ws ∙ ap (λ (k : ℕ). drop k ws) (sym s.1) in
      (ap (λ (l : List ℕ). record { at = q.at; left = l }) rest, (record { left = s.0 ∙ ap (λ (l : List ℕ). words a ++ l) rest; next = s.1 }, s.2)));
}

pub held_gives : {A : Type 0} (At : A → ℕ → ℕ → Type 0) {r : Reader A} {words : A → List ℕ} {Good : A → Type 0} → Exact r words Good → (ws : List ℕ) (at : ℕ)
    → Gives r ws at (λ a n. At a at n) → Gives r ws at (λ a n. Held At words Good ws a at n)
held_gives At e ws at g = so_then (both g (exact_gives e ws at)) (λ a n h. record { parts = h.0; words_at = h.1.0; good = h.1.1 })

-- the reader gives what stands there
pub reads_at : {A : Type 0} {r : Reader A} {words : A → List ℕ} {Good : A → Type 0} → Exact r words Good → {ws : List ℕ} {at n : ℕ} (a : A) → Good a → Stands ws (words a) at n → r (rest_at ws at) ≡ some (a, rest_at ws n)
reads_at {r = r} e {ws} {at} {n} a g s =
    ap (λ (l : List ℕ). r (record { at = at; left = l })) s.left
    ∙ (e.reads a g).on at (drop n ws)
    ∙ ap (λ (m : ℕ). some (a, record { at = m; left = drop n ws })) (sym s.next)
