-- What each step makes of its callees' answers: laws of Says, over any outcome. Assumes nothing.
use Prim.Native.Nat.{ℕ, suc, ◌+◌, ◌<◌}
use mathlib.Core.Path.{◌≡◌, refl, sym, ap, subst, ◌∙◌}
use mathlib.Core.Bool.{Bool, true, false}
use native.Mathlib.Omega.{arith}
use borrow.Author.Tests.{le-leb}
use lib.ListN.{length}
use lib.Dec.{leb}
use Rattle.rules.specs.Syntax.{ResolvedType, run}
use Rattle.rules.specs.Substitute.{Counted, too_large, done, after}
use Rattle.laws.specs.Visits.{short}
use Rattle.image_words.proofs.Steps.{true_false}
use Rattle.type_words.specs.Runs.{Grown}
use Rattle.type_words.specs.declared.HeldType.{HeldType}
use Rattle.type_words.specs.Holds.{Holds}
use Rattle.type_words.proofs.Trees.{Built}
use Rattle.subst_leaves.specs.declared.Resolved.{Resolved}
use Rattle.subst_leaves.specs.Says.{Fails, Says}

-- not ok, and o passes a bound
pub says_no : (names left n : ℕ) (o : Counted ResolvedType) (r : Resolved) → r.ok ≡ false → Fails left o → Says names left n o r
says_no names left n o r e w = record { ok = λ z. absurd (true_false (sym z ∙ e)); no = λ _. w }

-- of an outcome that is the same
pub says_as : {names left n : ℕ} {o q : Counted ResolvedType} {r : Resolved} → o ≡ q → Says names left n q r → Says names left n o r
says_as {names} {left} {n} {r = r} e s = subst (λ (o : Counted ResolvedType). Says names left n o r) (sym e) s

-- by the length of the run
by_length : (v : ℕ) (t : ResolvedType) (b : Bool) → leb (length (run t)) 64 ≡ b → short v t ≡ (elim b as (λ _. Counted ResolvedType) [ true ↦ done v t | false ↦ too_large ])
unfolding short
by_length v t b e = ap (λ (b : Bool). elim b as (λ _. Counted ResolvedType) [ true ↦ done v t | false ↦ too_large ]) e

fails_short : (left v : ℕ) (t : ResolvedType) → left < v → Fails left (short v t)
unfolding short
fails_short left v t h = go (leb (length (run t)) 64)
  where
    go : (b : Bool) → Fails left (elim b as (λ _. Counted ResolvedType) [ true ↦ done v t | false ↦ too_large ])
    go true = h
    go false = tt

-- a type that is held, as one that was built
pub held_built : (names : ℕ) (h : HeldType) (t : ResolvedType) → Holds names h t → Built names (record { ok = true; ty = h }) t
held_built names h t p = record { ok = sym (le-leb (length (run t)) 64 (omega (arith, p.count, p.small))); holds = λ _. p }

-- the last step: a type that was built, or one that passes 64 words
module _ (names left n v : ℕ) (o : Counted ResolvedType) (t : ResolvedType) (is : o ≡ short v t) (g : Grown) (b : Built names g t) where
  pub ends : (r : Resolved) → r.ok ≡ g.ok → r.next ≡ n → r.left + v ≡ left → r.ty ≡ g.ty → Says names left n o r
  ends r e m s y = record {
    ok = λ z.
        let good : g.ok ≡ true = sym e ∙ z in
        record {
          visits = v;
          ty = t;
          is = is ∙ by_length v t true (sym b.ok ∙ good);
          next = m;
          spent = s;
          holds = subst (λ (h : HeldType). Holds names h t) (sym y) (b.holds good);
        };
    no = λ z. subst (Fails left) (sym (is ∙ by_length v t false (sym b.ok ∙ (sym e ∙ z)))) tt;
  }

-- one visit and a type that is held
pub one_visit : (names left n : ℕ) (t : ResolvedType) (r : Resolved) → r.ok ≡ true → r.next ≡ n → r.left ≡ left → Holds names r.ty t → Says names (suc left) n (short 1 t) r
one_visit names left n t r e m s h = ends names (suc left) n 1 (short 1 t) t refl (record { ok = true; ty = r.ty }) (held_built names r.ty t h) r e m (omega arith) refl

-- one part, of which g makes the type
module _ (names left n : ℕ) (o : Counted ResolvedType) (g : ResolvedType → ResolvedType) (a : Resolved) (s : Says names left n o a) where
  one_fails : (o : Counted ResolvedType) → Fails left o → Fails (suc left) (after o (λ v t. short (suc v) (g t)))
  unfolding after
  one_fails too_large w = tt
  one_fails (done v t) w = fails_short (suc left) (suc v) (g t) (omega arith)

  pub one_stop : a.ok ≡ false → Says names (suc left) n (after o (λ v t. short (suc v) (g t))) a
  one_stop e = says_no names (suc left) n _ a e (one_fails o (s.no e))

  pub one_end : a.ok ≡ true → (b : Grown) → ((t : ResolvedType) → Holds names a.ty t → Built names b (g t))
      → Says names (suc left) n (after o (λ v t. short (suc v) (g t))) (record { ok = b.ok; next = a.next; left = a.left; ty = b.ty })
  unfolding after
  one_end e b build =
      let p = s.ok e in
      let is : after o (λ v t. short (suc v) (g t)) ≡ short (suc p.visits) (g p.ty) = ap (λ (o : Counted ResolvedType). after o (λ v t. short (suc v) (g t))) p.is in
      ends names (suc left) n (suc p.visits) _ (g p.ty) is b (build p.ty p.holds) _ refl p.next (omega (arith, p.spent)) refl

-- two parts: the second may depend on what the first is
module _ (names left m : ℕ) (o : Counted ResolvedType) (h : ResolvedType → Counted ResolvedType) (g : ResolvedType → ResolvedType → ResolvedType) (a : Resolved) (s : Says names left m o a) where
  abbrev second : ℕ → ResolvedType → Counted ResolvedType
  second v t = after (h t) (λ w u. short (suc (v + w)) (g t u))

  first_fails : (o : Counted ResolvedType) → Fails left o → Fails (suc left) (after o second)
  unfolding after
  first_fails too_large w = tt
  first_fails (done v t) x = go (h t)
    where
      go : (p : Counted ResolvedType) → Fails (suc left) (after p (λ w u. short (suc (v + w)) (g t u)))
      go too_large = tt
      go (done w u) = fails_short (suc left) (suc (v + w)) (g t u) (omega (arith, x))

  pub two_stop : a.ok ≡ false → (n : ℕ) → Says names (suc left) n (after o second) a
  two_stop e n = says_no names (suc left) n _ a e (first_fails o (s.no e))

  module _ (e : a.ok ≡ true) where
    abbrev pub part : ResolvedType
    part = (s.ok e).ty

    is : after o second ≡ second (s.ok e).visits part
    unfolding after
    is = ap (λ (o : Counted ResolvedType). after o second) (s.ok e).is

    second_fails : (p : Counted ResolvedType) → Fails a.left p → Fails (suc left) (after p (λ w u. short (suc ((s.ok e).visits + w)) (g part u)))
    unfolding after
    second_fails too_large w = tt
    second_fails (done w u) q = fails_short (suc left) (suc ((s.ok e).visits + w)) (g part u) (omega (arith, (s.ok e).spent, q))

    module _ (k : ℕ) (b : Resolved) (t : Says names a.left k (h part) b) where
      pub two_stop_second : b.ok ≡ false → (n : ℕ) (r : Resolved) → r.ok ≡ false → Says names (suc left) n (after o second) r
      two_stop_second y n r z = says_no names (suc left) n _ r z (subst (Fails (suc left)) (sym is) (second_fails (h part) (t.no y)))

      pub two_end : b.ok ≡ true → (c : Grown) → ((u : ResolvedType) → Holds names b.ty u → Built names c (g part u))
          → (n : ℕ) (r : Resolved) → r.ok ≡ c.ok → r.next ≡ n → r.left ≡ b.left → r.ty ≡ c.ty → Says names (suc left) n (after o second) r
      unfolding after
      two_end y c build n r e₁ e₂ e₃ e₄ =
          let p = s.ok e in
          let q = t.ok y in
          let final : after o second ≡ short (suc (p.visits + q.visits)) (g part q.ty) =
          is ∙ ap (λ (o : Counted ResolvedType). after o (λ w u. short (suc (p.visits + w)) (g part u))) q.is in
          ends names (suc left) n (suc (p.visits + q.visits)) _ (g part q.ty) final c (build q.ty q.holds) r e₁ e₂ (omega (arith, p.spent, q.spent)) e₄

      -- the second part as it is
      pub two_as_second : ((t u : ResolvedType) → g t u ≡ u) → (n : ℕ) (r : Resolved) → r.ok ≡ b.ok → r.next ≡ n → r.left ≡ b.left → r.ty ≡ b.ty → Says names (suc left) n (after o second) r
      two_as_second same n r e₁ e₂ e₃ e₄ = go b.ok refl
        where
          go : (x : Bool) → b.ok ≡ x → Says names (suc left) n (after o second) r
          go true y =
              two_end y (record { ok = true; ty = b.ty })
              (λ u p. subst (Built names (record { ok = true; ty = b.ty })) (sym (same part u)) (held_built names b.ty u p))
              n r (e₁ ∙ y) e₂ e₃ e₄
          go false y = two_stop_second y n r (e₁ ∙ y)
