-- Resolved types in the pool: a run reads back to its type and nothing else does.
use Prim.Native.Nat.{ℕ, zero, suc, ◌≤◌, ◌<◌, max}
use mathlib.Core.Path.{◌≡◌, refl, sym, ap, ap₂, subst, ◌∙◌}
use mathlib.Core.Bool.{Bool, true, false, ◌&&◌}
use mathlib.Core.List.{List, [], ◌∷◌, ◌++◌}
use native.Mathlib.Omega.{arith}
use lib.ListN.{length, length-append}
use lib.Dec.{leb}
use borrow.Author.Tests.{le-leb, leb-true}
use Rattle.rules.specs.Words.{within}
use Rattle.rules.specs.Syntax.{ResolvedType, run}
use Rattle.rules.specs.Reader.{Reader, ◌>>=◌, below, many}
use Rattle.rules.specs.Kinds.{type_kind}
use Rattle.rules.specs.ReadTypes.{sub_byte, wide, bits_inline, type_node, type_tree, resolved_type}
use Rattle.rules.specs.Output.{each, listed}
use Rattle.rules.specs.declared.kinds.TypeKind.{TypeKind}
use Rattle.rules.proofs.Clash.{clash}
use Rattle.rules.specs.Good.{Below, Good, Stored}
use Rattle.rules.proofs.Depth.{depth}
use Rattle.rules.proofs.Codes.{TypeCode, type_code}
use Rattle.rules.specs.Exact.{Reads, Gives, Exact, Run}
use Rattle.rules.proofs.ReadBack.{give_reads, then_reads, last_reads, word_reads, rule_reads, below_then}
use Rattle.rules.proofs.Gives as gives
use Rattle.rules.proofs.Exact as exact
use Rattle.rules.proofs.Exact.{below_exact, many_exact, sized_exact}

-- a good type, so deep
pub record Deep (names f : ℕ) (t : ResolvedType) : Type 0 where
  pub good : Good names t
  pub deep : depth t ≤ f

-- a type is at most as deep as its run is long
pub depth_run : (t : ResolvedType) → depth t ≤ length (run t)
unfolding run
depth_run (ResolvedType.plain c) = omega arith
depth_run (ResolvedType.sub s n) = omega arith
depth_run (ResolvedType.bits ns) = omega arith
depth_run (ResolvedType.named n) = omega arith
depth_run (ResolvedType.one c t) = omega (arith, depth_run t)
depth_run (ResolvedType.fixed low high t) = omega (arith, depth_run t)
depth_run (ResolvedType.two c t u) = omega (arith, depth_run t, depth_run u, length-append (run t) (run u))

pub within_true : (a b n : ℕ) → within a b n ≡ true → (a ≤ n) × (n ≤ b)
within_true a b n e = go (leb a n) (leb n b) refl refl e
  where
    go : (x y : Bool) → leb a n ≡ x → leb n b ≡ y → (x && y) ≡ true → (a ≤ n) × (n ≤ b)
    go true true p q e = (leb-true a n p, leb-true n b q)
    go true false p q e = clash (cc)
    go false y p q e = clash (cc)

-- names are their own words
each_word : (ns : List ℕ) → each (λ n. n ∷ []) ns ≡ ns
unfolding each
each_word [] = refl
each_word (n ∷ ns) = ap (λ (l : List ℕ). n ∷ l) (each_word ns)

pub sub_reads : {s n : ℕ} → s < 2 → 1 ≤ n → n ≤ 64 → Reads sub_byte (s ∷ n ∷ []) (ResolvedType.sub s n)
unfolding sub_byte
sub_reads {s} {n} h k l = below_then _ h (word_reads _ (rule_reads (within 1 64 n) _ (rw (le-leb 1 n k, le-leb n 64 l)) (give_reads _)))

pub wide_then : {B : Type 0} (f : ℕ × ℕ → Reader B) {low high : ℕ} {ws : List ℕ} {b : B} → Reads (f (low, high)) ws b → Reads (wide >>= f) (low ∷ high ∷ ws) b
unfolding wide
wide_then f {low} {high} q = then_reads f (word_reads _ (word_reads _ (give_reads (low, high)))) q

pub sub_gives : Gives sub_byte (λ t ws. (s : ℕ) × (n : ℕ) × (t ≡ ResolvedType.sub s n) × (ws ≡ s ∷ n ∷ []) × (s < 2) × (1 ≤ n) × (n ≤ 64))
unfolding sub_byte
sub_gives =
    gives.below_then (λ s h. gives.word_then (λ n. gives.rule_then (within 1 64 n) _ (λ e.
    let w = within_true 1 64 n e in gives.give_gives (ResolvedType.sub s n) _ (s, n, refl, refl, h, w.0, w.1))))

pub wide_gives : Gives wide (λ n ws. ws ≡ n.0 ∷ n.1 ∷ [])
unfolding wide
wide_gives = gives.word_then (λ low. gives.word_then (λ high. gives.give_gives (low, high) _ refl))

module _ (names : ℕ) where
  pub bits_exact : Exact (many 62 (below names)) (λ ns. length ns ∷ ns) (λ ns. (length ns < 63) × Below names ns)
  unfolding listed
  bits_exact =
      let e = many_exact (below_exact names) 62 in
      record {
        reads = λ ns g. subst (λ (l : List ℕ). Reads (many 62 (below names)) (length ns ∷ l) ns) (each_word ns) (e.reads ns (omega arith, g.1));
        gives = gives.so e.gives (λ ns ws h. record { is = h.is ∙ ap (λ (l : List ℕ). length ns ∷ l) (each_word ns); good = (omega (arith, h.good.0), h.good.1) });
      }

  -- a node behind its code, by the kind of the code
  at_kind : (f : ℕ) {c : ℕ} (k : TypeKind) {ws : List ℕ} {t : ResolvedType} → type_kind c ≡ k → Reads (type_node names (type_tree names f) k c) ws t
      → Reads (type_tree names (suc f)) (c ∷ ws) t
  unfolding type_tree
  at_kind f {c} k {ws} {t} e h = word_reads _ (subst (λ (k : TypeKind). Reads (type_node names (type_tree names f) k c) ws t) (sym e) h)

  pub tree_reads : (t : ResolvedType) (f : ℕ) → Good names t → depth t ≤ f → Reads (type_tree names f) (run t) t
  unfolding run type_node bits_inline
  tree_reads (ResolvedType.plain c) zero g d = absurd (omega arith)
  tree_reads (ResolvedType.plain c) (suc f) g d = at_kind f TypeKind.Plain g (give_reads _)
  tree_reads (ResolvedType.sub s n) zero g d = absurd (omega arith)
  tree_reads (ResolvedType.sub s n) (suc f) g d = at_kind f TypeKind.Sub (unfold type_kind in refl) (sub_reads g.0 g.1 g.2)
  tree_reads (ResolvedType.bits ns) zero g d = absurd (omega arith)
  tree_reads (ResolvedType.bits ns) (suc f) g d = at_kind f TypeKind.Bits (unfold type_kind in refl) (last_reads _ (bits_exact.reads ns g))
  tree_reads (ResolvedType.named n) zero g d = absurd (omega arith)
  tree_reads (ResolvedType.named n) (suc f) g d = at_kind f TypeKind.Named (unfold type_kind in refl) (word_reads _ (give_reads _))
  tree_reads (ResolvedType.one c t) zero g d = absurd (omega arith)
  tree_reads (ResolvedType.one c t) (suc f) g d = at_kind f TypeKind.One g.0 (last_reads _ (tree_reads t f g.1 (omega arith)))
  tree_reads (ResolvedType.fixed low high t) zero g d = absurd (omega arith)
  tree_reads (ResolvedType.fixed low high t) (suc f) g d = at_kind f TypeKind.Fixed (unfold type_kind in refl) (wide_then _ (last_reads _ (tree_reads t f g (omega arith))))
  tree_reads (ResolvedType.two c t u) zero g d = absurd (omega arith)
  tree_reads (ResolvedType.two c t u) (suc f) g d =
      at_kind f TypeKind.Two g.0 (then_reads _ (tree_reads t f g.1 (omega arith)) (last_reads _ (tree_reads u f g.2 (omega arith))))

  -- what a node gives, with its code in front
  node_gives : (f : ℕ) (part : Reader ResolvedType) → Gives part (Run run (Deep names f)) → (c : ℕ) (k : TypeKind) → type_kind c ≡ k → TypeCode k c
      → Gives (type_node names part k c) (λ t ws. Run run (Deep names (suc f)) t (c ∷ ws))
  unfolding run type_node bits_inline
  node_gives f part ih c TypeKind.Plain k q = gives.give_gives _ _ (record { is = refl; good = record { good = k; deep = omega arith } })
  node_gives f part ih c TypeKind.Sub k q = gives.so sub_gives (λ t ws h.
      subst (λ (t : ResolvedType). Run run (Deep names (suc f)) t (c ∷ ws)) (sym h.2)
      (record { is = ap₂ ◌∷◌ q h.3; good = record { good = (h.4, h.5, h.6); deep = omega arith } }))
  node_gives f part ih c TypeKind.Bits k q = gives.last_gives _ bits_exact.gives (λ ns ws h.
      record { is = ap₂ ◌∷◌ q h.is; good = record { good = h.good; deep = omega arith } })
  node_gives f part ih c TypeKind.Named k q = gives.word_then (λ n. gives.give_gives _ _
      (record { is = ap (λ (x : ℕ). x ∷ n ∷ []) q; good = record { good = tt; deep = omega arith } }))
  node_gives f part ih c TypeKind.Qualified k q = gives.fail_gives
  node_gives f part ih c TypeKind.Generic k q = gives.fail_gives
  node_gives f part ih c TypeKind.One k q = gives.last_gives _ ih (λ t ws h.
      record { is = ap (λ (l : List ℕ). c ∷ l) h.is; good = record { good = (k, h.good.good); deep = omega (arith, h.good.deep) } })
  node_gives f part ih c TypeKind.Fixed k q = gives.then_gives wide_gives (λ n vs e. gives.last_gives _ ih (λ t ws h.
      record { is = ap₂ ◌∷◌ q (ap₂ ◌++◌ e h.is); good = record { good = h.good.good; deep = omega (arith, h.good.deep) } }))
  node_gives f part ih c TypeKind.Two k q = gives.then_gives ih (λ t vs h. gives.last_gives _ ih (λ u ws i.
      record { is = ap (λ (l : List ℕ). c ∷ l) (ap₂ ◌++◌ h.is i.is); good = record { good = (k, h.good.good, i.good.good); deep = omega (arith, h.good.deep, i.good.deep) } }))
  node_gives f part ih c TypeKind.Unknown k q = gives.fail_gives

  pub tree_gives : (f : ℕ) → Gives (type_tree names f) (Run run (Deep names f))
  unfolding type_tree
  tree_gives zero = gives.fail_gives
  tree_gives (suc f) = gives.word_then (λ c. node_gives f (type_tree names f) (tree_gives f) c (type_kind c) refl (type_code c))

  pub tree_exact : (f : ℕ) → Exact (type_tree names f) run (Deep names f)
  tree_exact f = record { reads = λ t g. tree_reads t f g.good g.deep; gives = tree_gives f }

  pub type_exact : Exact (resolved_type names) run (Stored names)
  unfolding resolved_type
  type_exact =
      let e = sized_exact (tree_exact 64) in
      record {
        reads = λ t g. e.reads t (record { good = g.good; deep = omega (arith, depth_run t, g.short) }, g.short);
        gives = gives.so e.gives (λ t ws h. record { is = h.is; good = record { good = h.good.0.good; short = h.good.1 } });
      }

  -- two good types whose runs begin one list are one type
  pub prefix_free : (t u : ResolvedType) (a b : List ℕ) → Good names t → Good names u → run t ++ a ≡ run u ++ b → (t ≡ u) × (a ≡ b)
  prefix_free t u a b g h e =
      exact.prefix_free (tree_exact (max (depth t) (depth u))) t u a b (record { good = g; deep = omega arith }) (record { good = h; deep = omega arith }) e

  -- equal runs are equal types
  pub run_injective : (t u : ResolvedType) → Good names t → Good names u → run t ≡ run u → t ≡ u
  run_injective t u g h e = (prefix_free t u [] [] g h (ap (λ (l : List ℕ). l ++ []) e)).0
