-- Types added behind words that stand: what each step makes of its callees' answers, over any outcome. Assumes nothing.
use Prim.Native.Nat.{ℕ, suc, ◌+◌, ◌<◌, ◌≤◌}
use mathlib.Core.Path.{◌≡◌, refl, sym, ap, ap₂, subst, ◌∙◌}
use mathlib.Core.Bool.{Bool, true, false, false≢true, ◌&&◌, ◌||◌}
use mathlib.Core.Logic.{◌⊎◌, inl, inr}
use mathlib.Core.List.{List, [], ◌∷◌, ◌++◌, append_assoc}
use native.Mathlib.Omega.{arith}
use borrow.Author.Tests.{le-leb, leb-true, leb-false}
use lib.ListN.{length, length-append}
use lib.Dec.{leb}
use Rattle.rules.specs.Syntax.{ResolvedType, run}
use Rattle.rules.specs.Types.{contains_poison}
use Rattle.rules.specs.Kinds.{type_kind}
use Rattle.rules.specs.declared.kinds.TypeKind.{TypeKind}
use Rattle.rules.specs.Substitute.{Counted, too_large, done, after}
use Rattle.laws.specs.Visits.{short}
use Rattle.image_words.proofs.Steps.{true_false}
use Rattle.type_words.specs.Runs.{held_run, Runs, Grows, Grown}
use Rattle.type_words.proofs.Runs.{grows_at, runs_as}
use Rattle.type_words.proofs.Trees.{holds}
use Rattle.subst_leaves.specs.declared.Resolved.{Resolved}
use Rattle.subst_leaves.specs.Says.{Fails, Says}
use Rattle.subst.specs.declared.cycle.End.{End}
use Rattle.subst.specs.Lent.{resolved, Added, NoRoom, Adds}

-- poison in one part or in the other
abbrev pub also : Bool → End → End
also p r = record { ok = r.ok; poison = p || r.poison; next = r.next; left = r.left; len = r.len }

-- an outcome whose type has at most 64 words
abbrev pub Fits : Counted ResolvedType → Type 0
Fits o = (v : ℕ) (t : ResolvedType) → o ≡ done v t → length (run t) ≤ 64

no_done : {v : ℕ} {t : ResolvedType} {X : Type 0} → too_large ≡ done v t → X
no_done e = absurd (let z : ◌≡◌ {A = ℕ} 0 1 = cc in omega arith)

short_fits : (n : ℕ) (x : ResolvedType) → Fits (short n x)
unfolding short
short_fits n x v t e = go (leb (length (run x)) 64) refl e
  where
    go : (b : Bool) → leb (length (run x)) 64 ≡ b → (elim b as (λ _. Counted ResolvedType) [ true ↦ done n x | false ↦ too_large ]) ≡ done v t → length (run t) ≤ 64
    go true l q = let same : x ≡ t = cc in subst (λ (y : ResolvedType). length (run y) ≤ 64) same (leb-true (length (run x)) 64 l)
    go false l q = no_done q

after_fits : (o : Counted ResolvedType) (k : ℕ → ResolvedType → Counted ResolvedType) → ((v : ℕ) (t : ResolvedType) → Fits (k v t)) → Fits (after o k)
unfolding after
after_fits too_large k h v t e = no_done e
after_fits (done w u) k h v t e = h w u v t e

-- behind no words at all there is always room
pub no_room_fails : (left : ℕ) (o : Counted ResolvedType) → Fits o → NoRoom left [] o → Fails left o
no_room_fails left too_large f w = tt
no_room_fails left (done v t) f (inl w) = w
no_room_fails left (done v t) f (inr w) = let s : length (run t) ≤ 64 = f v t refl in absurd (omega arith)

-- behind no words at all, what was added is the answer
pub adds_says : {names left n : ℕ} {o : Counted ResolvedType} {words : List ℕ} {r : End} → Fits o → Adds names left n o [] words r → Says names left n o (resolved r words)
adds_says {names} {left} {o = o} fits h = record {
  ok = λ e.
      let a = h.ok e in
      record {
        visits = a.visits;
        ty = a.ty;
        is = a.is;
        next = a.next;
        spent = a.spent;
        holds = holds names a.runs a.poison a.good;
      };
  no = λ e. no_room_fails left o fits (h.no e);
}

-- a type by itself, put behind the words
module _ {names left n : ℕ} {o : Counted ResolvedType} {b : Resolved} {before words : List ℕ} {g : Grown} (s : Says names left n o b) (grows : Grows (before ++ held_run b.ty) g) where
  pub put_behind : g.ty.words ≡ words → (r : End) → r.ok ≡ (b.ok && g.ok) → r.poison ≡ b.ty.poison → r.next ≡ b.next → r.left ≡ b.left → r.len ≡ g.ty.len → Adds names left n o before words r
  put_behind w r e d m x y = record { ok = λ z. yes b.ok g.ok refl refl (sym e ∙ z); no = λ z. no b.ok g.ok refl refl (sym e ∙ z) }
    where
      yes : (p q : Bool) → b.ok ≡ p → g.ok ≡ q → (p && q) ≡ true → Added names left n o before words r
      yes true true u v z =
          let a = s.ok u in
          let runs = (grows_at grows (ap (λ (l : List ℕ). before ++ l) a.holds.run)).runs v in
          record {
            visits = a.visits;
            ty = a.ty;
            is = a.is;
            next = m ∙ a.next;
            spent = omega (arith, x, a.spent);
            runs = runs_as runs _ (sym w) y;
            poison = d ∙ a.holds.poison;
            good = a.holds.good;
          }
      yes true false u v z = absurd (false≢true z)
      yes false q u v z = absurd (false≢true z)

      over : (o : Counted ResolvedType) → Says names left n o b → b.ok ≡ true → g.ok ≡ false → NoRoom left before o
      over o s u v =
          let a = s.ok u in
          let long : 64 < length (before ++ run a.ty) = leb-false (length (before ++ run a.ty)) 64 (sym (grows_at grows (ap (λ (l : List ℕ). before ++ l) a.holds.run)).ok ∙ v) in
          subst (NoRoom left before) (sym a.is) (inr (omega (arith, length-append before (run a.ty))))

      fails : (o : Counted ResolvedType) → Fails left o → NoRoom left before o
      fails too_large f = tt
      fails (done v t) f = inl f

      no : (p q : Bool) → b.ok ≡ p → g.ok ≡ q → (p && q) ≡ false → NoRoom left before o
      no true true u v z = absurd (true_false z)
      no true false u v z = over o s u v
      no false q u v z = fails o (s.no u)

-- two parts, the first with its code behind the words already
module _ (names left m : ℕ) (o h : Counted ResolvedType) (c : ℕ) (a : Resolved) (s : Says names left m o a) where
  abbrev second : ℕ → ResolvedType → Counted ResolvedType
  second v t = after h (λ w u. short (suc (v + w)) (ResolvedType.two c t u))

  module _ (e : a.ok ≡ true) where
    abbrev pub first_run : List ℕ
    first_run = run (s.ok e).ty

    is : after o second ≡ second (s.ok e).visits (s.ok e).ty
    unfolding after
    is = ap (λ (o : Counted ResolvedType). after o second) (s.ok e).is

    done_short : (v : ℕ) (t : ResolvedType) → length (run t) ≤ 64 → short v t ≡ done v t
    unfolding short
    done_short v t l = ap (λ (b : Bool). elim b as (λ _. Counted ResolvedType) [ true ↦ done v t | false ↦ too_large ]) (le-leb (length (run t)) 64 l)

    pub two_adds : type_kind c ≡ TypeKind.Two → (k : ℕ) (before words : List ℕ) (r : End) → Adds names a.left k h (before ++ (c ∷ first_run)) words r → Adds names (suc left) k (after o second) before words (also a.ty.poison r)
    unfolding run after short contains_poison
    two_adds kind k before words r q = record {
      ok = λ z.
          let p = s.ok e in
          let b = q.ok z in
          let t : ResolvedType = ResolvedType.two c p.ty b.ty in
          let joined : (before ++ (c ∷ run p.ty)) ++ run b.ty ≡ before ++ (c ∷ (run p.ty ++ run b.ty)) = append_assoc before (c ∷ run p.ty) (run b.ty) in
          let runs : Runs (record { words = words; len = r.len; poison = a.ty.poison || r.poison }) (before ++ (c ∷ (run p.ty ++ run b.ty))) = subst (Runs _) joined (runs_as b.runs _ refl refl) in
          let small : length (c ∷ (run p.ty ++ run b.ty)) ≤ 64 = omega (arith, runs.count, runs.small, length-append before (c ∷ (run p.ty ++ run b.ty))) in
          record {
            visits = suc (p.visits + b.visits);
            ty = t;
            is = is ∙ ap (λ (o : Counted ResolvedType). after o (λ w u. short (suc (p.visits + w)) (ResolvedType.two c p.ty u))) b.is ∙ done_short (suc (p.visits + b.visits)) t small;
            next = b.next;
            spent = omega (arith, p.spent, b.spent);
            runs = runs;
            poison = ap₂ ◌||◌ p.holds.poison b.poison;
            good = (kind, p.holds.good, b.good);
          };
      no = λ z. subst (NoRoom (suc left) before) (sym is) (go h (q.no z));
    }
      where
        by : (w : ℕ) (u : ResolvedType) (b : Bool)
            → (suc left < suc ((s.ok e).visits + w)) ⊎ (64 < length before + length (c ∷ (first_run ++ run u)))
            → NoRoom (suc left) before (elim b as (λ _. Counted ResolvedType) [ true ↦ done (suc ((s.ok e).visits + w)) (ResolvedType.two c (s.ok e).ty u) | false ↦ too_large ])
        by w u true x = x
        by w u false x = tt

        go : (h : Counted ResolvedType) → NoRoom a.left (before ++ (c ∷ first_run)) h → NoRoom (suc left) before (after h (λ w u. short (suc ((s.ok e).visits + w)) (ResolvedType.two c (s.ok e).ty u)))
        go too_large x = tt
        go (done w u) (inl x) = by w u (leb (length (c ∷ (first_run ++ run u))) 64) (inl (omega (arith, (s.ok e).spent, x)))
        go (done w u) (inr x) = by w u (leb (length (c ∷ (first_run ++ run u))) 64) (inr (omega (arith, x, length-append before (c ∷ first_run), length-append first_run (run u))))

  pub two_fits : Fits (after o second)
  two_fits = after_fits o second (λ v t. after_fits h _ (λ w u. short_fits _ _))

  -- no room for the first part behind its code is none for both
  pub first_no : (before : List ℕ) → NoRoom left (before ++ (c ∷ [])) o → NoRoom (suc left) before (after o second)
  unfolding run after short
  first_no before = go o
    where
      by : (v w : ℕ) (t u : ResolvedType) (b : Bool)
          → (suc left < suc (v + w)) ⊎ (64 < length before + length (c ∷ (run t ++ run u)))
          → NoRoom (suc left) before (elim b as (λ _. Counted ResolvedType) [ true ↦ done (suc (v + w)) (ResolvedType.two c t u) | false ↦ too_large ])
      by v w t u true x = x
      by v w t u false x = tt

      behind : (v : ℕ) (t : ResolvedType) (h : Counted ResolvedType) → (left < v) ⊎ (64 < length (before ++ (c ∷ [])) + length (run t)) → NoRoom (suc left) before (after h (λ w u. short (suc (v + w)) (ResolvedType.two c t u)))
      behind v t too_large x = tt
      behind v t (done w u) (inl x) = by v w t u (leb (length (c ∷ (run t ++ run u))) 64) (inl (omega (arith, x)))
      behind v t (done w u) (inr x) = by v w t u (leb (length (c ∷ (run t ++ run u))) 64) (inr (omega (arith, x, length-append before (c ∷ []), length-append (run t) (run u))))

      go : (o : Counted ResolvedType) → NoRoom left (before ++ (c ∷ [])) o → NoRoom (suc left) before (after o second)
      go too_large x = tt
      go (done v t) x = behind v t h x
