-- A reader reads exactly the words of good values: from the words of a good value it gives that value, and what it gives is good and its words stood there.
use Prim.Native.Nat.{ℕ, zero, suc, ◌+◌, ◌<◌, ◌≤◌}
use mathlib.Core.Path.{◌≡◌, refl, sym, ap, ap₂, subst, ◌∙◌}
use mathlib.Core.List.{List, [], ◌∷◌, ◌++◌}
use mathlib.Core.Option.{Option, none, some}
use native.Mathlib.Omega.{arith}
use lib.ListN.{length}
use Rattle.rules.specs.Reader.{Rest, Reader, repeat, times, many, option, maybe, below}
use Rattle.rules.specs.ReadTypes.{sized}
use Rattle.rules.specs.Output.{each, listed}
use Rattle.rules.specs.Good.{All, AllOption}
use Rattle.rules.specs.Exact.{Reads, Gives, Run, optional, Exact, Few}
use Rattle.rules.proofs.ReadBack.{below_reads, many_reads, maybe_none, maybe_some, sized_reads}
use Rattle.rules.proofs.Gives.{so, give_gives, then_gives, last_gives, below_gives, below_then, sized_gives}

module _ {A : Type 0} {r : Reader A} {words : A → List ℕ} {Good : A → Type 0} (exact : Exact r words Good) where
  -- two good values whose words begin one list are one value
  pub prefix_free : (a b : A) (xs ys : List ℕ) → Good a → Good b → words a ++ xs ≡ words b ++ ys → (a ≡ b) × (xs ≡ ys)
  prefix_free a b xs ys g h e =
      let p = (exact.reads a g).on 0 xs in
      let q = (exact.reads b h).on 0 ys in
      let s : ◌≡◌ {A = Option (A × Rest)} (some (a, record { at = 0 + length (words a); left = xs })) (some (b, record { at = 0 + length (words b); left = ys }))
      = sym p ∙ ap (λ (l : List ℕ). r (record { at = 0; left = l })) e ∙ q in
      let t : ◌≡◌ {A = A × Rest} (a, record { at = 0 + length (words a); left = xs }) (b, record { at = 0 + length (words b); left = ys }) = cc in
      (ap (λ (p : A × Rest). p.0) t, ap (λ (p : A × Rest). p.1.left) t)

  -- what a reading gives stood there and is good
  pub stands : (p : Rest) (a : A) (q : Rest) → r p ≡ some (a, q) → (p.left ≡ words a ++ q.left) × (q.at ≡ p.at + length (words a)) × Good a
  stands p a q e =
      let f = exact.gives.found p a q e in
      let i = f.holds.is in
      (f.left ∙ ap (λ (l : List ℕ). l ++ q.left) i, f.at ∙ ap (λ (l : List ℕ). p.at + length l) i, f.holds.good)

  times_gives : (n : ℕ) → Gives (times n r) (λ xs ws. (ws ≡ each words xs) × (length xs ≡ n) × All Good xs)
  unfolding repeat each
  times_gives zero = give_gives [] _ (refl, refl, tt)
  times_gives (suc n) = then_gives exact.gives (λ x vs h. last_gives _ (times_gives n) (λ xs ws i. (ap₂ ◌++◌ h.is i.0, ap suc i.1, (h.good, i.2))))

  -- a count and so many
  pub many_exact : (most : ℕ) → Exact (many most r) (listed words) (λ xs. (length xs ≤ most) × All Good xs)
  unfolding many listed
  many_exact most = record {
    reads = λ xs g. many_reads Good words exact.reads most xs g.0 g.1;
    gives = below_then (λ n l. so (times_gives n) (λ xs ws i. record { is = ap₂ ◌∷◌ (sym i.1) i.0; good = (omega (arith, i.1), i.2) }));
  }

  -- 0, or 1 and a value
  pub maybe_exact : Exact (maybe r) (optional words) (AllOption Good)
  unfolding maybe option
  maybe_exact = record {
    reads = λ o g. elim o as (λ o. AllOption Good o → Reads (maybe r) (optional words o) o) [ none ↦ λ g. maybe_none r | some a ↦ λ g. maybe_some (exact.reads a g) ] g;
    gives = below_then (λ n l. at_most n l);
  }
    where
      at_most : (n : ℕ) → n < 2 → Gives (option r n) (λ o ws. Run (optional words) (AllOption Good) o (n ∷ ws))
      at_most zero l = give_gives none _ (record { is = refl; good = tt })
      at_most (suc n) l =
          let one : suc n ≡ 1 = omega arith in
          last_gives _ exact.gives (λ a ws h. record { is = ap₂ ◌∷◌ one h.is; good = h.good })

  -- at most 64 words
  pub sized_exact : Exact (sized r) words (λ a. Good a × (length (words a) ≤ 64))
  sized_exact = record {
    reads = λ a g. sized_reads (exact.reads a g.0) g.1;
    gives = so (sized_gives exact.gives) (λ a ws i. record { is = i.0.is; good = (i.0.good, subst (λ (l : List ℕ). length l ≤ 64) i.0.is i.1) });
  }

pub below_exact : (n : ℕ) → Exact (below n) (λ w. w ∷ []) (λ w. w < n)
below_exact n = record { reads = λ w l. below_reads l; gives = so below_gives (λ w ws i. record { is = i.0; good = i.1 }) }

pub few_exact : {A : Type 0} {r : Reader A} {words : A → List ℕ} {Good : A → Type 0} → Exact r words Good → (most : ℕ) → Exact (many most r) (listed words) (Few most Good)
few_exact e most = record {
  reads = λ xs g. (many_exact e most).reads xs (g.few, g.each);
  gives = so (many_exact e most).gives (λ xs ws h. record { is = h.is; good = record { few = h.good.0; each = h.good.1 } });
}
