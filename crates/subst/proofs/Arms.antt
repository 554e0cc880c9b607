-- What each way through the cycle's functions comes to, from what they call. Assumes nothing.
use Prim.Native.Nat.{ℕ, zero, suc, ◌+◌, ◌-◌, ◌<◌, ◌≤◌}
use mathlib.Core.Path.{◌≡◌, refl, sym, ap, subst, subst₂, ◌∙◌}
use mathlib.Core.Bool.{Bool, true, false, false≢true, ◌&&◌}
use mathlib.Core.Logic.{inr}
use mathlib.Core.List.{List, [], ◌∷◌, ◌++◌, append_assoc}
use native.Mathlib.Omega.{arith}
use native.Mathlib.Decide.{dec_lt}
use borrow.Author.Tests.{leb-false}
use lib.ListN.{length, take, get_or}
use Rattle.std.specs.Prelude.{Option, Some, None, is_some, unwrap_or}
use Rattle.rules.specs.Syntax.{ResolvedType, TypeExpr, Param, CompiledSchema, run}
use Rattle.rules.specs.declared.kinds.TypeKind.{TypeKind}
use Rattle.rules.specs.Substitute.{Counted, lookup_alias}
use Rattle.laws.specs.Visits.{plain_node, plain_depth}
use Rattle.image_words.proofs.Steps.{true_false}
use Rattle.image_layout.specs.declared.Layout.{Layout}
use Rattle.image_layout.specs.Open.{Open, pool_words}
use Rattle.type_words.specs.declared.HeldType.{HeldType}
use Rattle.type_words.specs.Lent.{lent}
use Rattle.type_words.specs.Runs.{held_run, Grows, Grown}
use Rattle.type_words.specs.Holds.{Holds}
use Rattle.type_words.proofs.Runs.{grown_run}
use Rattle.type_words.proofs.Trees.{one_built, fixed_built}
use Rattle.type_from_pool.specs.Held.{ExprStands}
use Rattle.type_from_pool.proofs.Heads.{expr_head}
use Rattle.subst_names.specs.declared.generic.Alias.{Alias}
use Rattle.subst_names.specs.Aliases.{IsAlias}
use Rattle.subst_leaves.specs.declared.Resolved.{Resolved}
use Rattle.subst_leaves.specs.Says.{Says}
use Rattle.subst_leaves.specs.Nodes.{At, Each, Substitutes}
use Rattle.subst_leaves.proofs.Steps.{says_no, says_as, one_stop, one_end, two_stop, two_as_second}
use Rattle.subst_leaves.proofs.Parts.{Form, form, one_stands, fixed_stands, two_stands, generic_stands}
use Rattle.subst_parts.specs.declared.Parts.{Parts}
use Rattle.subst_parts.specs.declared.Node.{Node}
use Rattle.subst_parts.specs.declared.Behind.{Behind}
use Rattle.subst_parts.specs.declared.Start.{Start}
use Rattle.subst_parts.specs.Parts.{kind_at, name_at, Told, Read, WholeAs, PartsAt, NodeAt, BehindAs, BeginsBehind, StartsAt}
use Rattle.subst_parts.proofs.Nodes.{of_one, of_fixed, of_two, of_generic}
use Rattle.subst.specs.declared.cycle.End.{End}
use Rattle.subst.specs.Lent.{resolved, NoRoom, Adds}
use Rattle.subst.proofs.Generic.{is_expanded, an_alias}
use Rattle.subst.proofs.Added.{also, adds_says, no_room_fails, put_behind, two_adds, two_fits, first_no}

-- whether a run grew where it lies, and its count then
pub record Longer : Type 0 where
  pub ok : Bool
  pub len : ℕ

-- that run, with what it says of poison
abbrev pub as_grown : Longer → List ℕ → Bool → Grown
as_grown r words p = record { ok = r.ok; ty = record { words = words; len = r.len; poison = p } }

-- both told of a count or none
pub longer : (o : Option ℕ) (words : List ℕ) (p : Bool) (n : ℕ) {l : List ℕ} {ok : Bool} {len : ℕ} → ok ≡ is_some o → len ≡ unwrap_or o n → Grows l (lent o words p)
    → Grows l (as_grown (record { ok = ok; len = len }) words p)
longer (Some k) words p n e f g = rw (e, f) g
longer None words p n e f g = record { ok = e ∙ g.ok; runs = λ t. absurd (false≢true (sym e ∙ t)) }

pub longer_some : {o : Option ℕ} {len : ℕ} (words : List ℕ) (p : Bool) {l : List ℕ} → o ≡ Some len → Grows l (lent o words p) → Grows l (as_grown (record { ok = true; len = len }) words p)
longer_some words p {l} e g = subst (λ (o : Option ℕ). Grows l (lent o words p)) e g

pub longer_none : {o : Option ℕ} (words : List ℕ) (p : Bool) {l : List ℕ} → o ≡ None → Grows l (lent o words p) → Grows l (as_grown (record { ok = false; len = 0 }) words p)
longer_none words p {l} e g = subst (λ (o : Option ℕ). Grows l (lent o words p)) e g

-- a run is the words below its count
pub held : (h : HeldType) → take h.len h.words ≡ held_run h
unfolding held_run
held h = refl

-- another place behind, and another answer that is not ok
pub says_at : {names left m : ℕ} {o : Counted ResolvedType} {b : Resolved} → Says names left m o b → (n : ℕ) (r : Resolved) → r.ok ≡ b.ok → r.next ≡ n → r.left ≡ b.left → r.ty ≡ b.ty → Says names left n o r
says_at {names} {left} s n r e₁ e₂ e₃ e₄ = record {
  ok = λ z.
      let a = s.ok (sym e₁ ∙ z) in
      record { visits = a.visits; ty = a.ty; is = a.is; next = e₂; spent = omega (arith, e₃, a.spent); holds = subst (λ (h : HeldType). Holds names h a.ty) (sym e₄) a.holds };
  no = λ z. s.no (sym e₁ ∙ z);
}

-- where an expression is begun behind words: at the first of two parts, or as it is
module _ (node : Node) (at left n : ℕ) (r : Behind) (h : BeginsBehind node at left n r) where
  pub begins_two : r.again ≡ true → (node.parts ≡ Parts.Two) × (n < 64) × (r.at ≡ node.first) × (r.left ≡ left - 1) × (r.len ≡ n + 1)
  begins_two e = go node.parts refl h
    where
      two : Dec (n < 64) → node.parts ≡ Parts.Two → BehindAs Parts.Two node.first at left n r → (node.parts ≡ Parts.Two) × (n < 64) × (r.at ≡ node.first) × (r.left ≡ left - 1) × (r.len ≡ n + 1)
      two (yes s) q k = (q, s, (k.0 s).1, (k.0 s).2, (k.0 s).3)
      two (no s) q k = absurd (true_false (sym e ∙ (k.1 (omega arith)).0))

      go : (p : Parts) → node.parts ≡ p → BehindAs p node.first at left n r → (node.parts ≡ Parts.Two) × (n < 64) × (r.at ≡ node.first) × (r.left ≡ left - 1) × (r.len ≡ n + 1)
      go Parts.Whole q k = absurd (true_false (sym e ∙ k.0))
      go Parts.One q k = absurd (true_false (sym e ∙ k.0))
      go Parts.Fixed q k = absurd (true_false (sym e ∙ k.0))
      go Parts.Two q k = two (dec_lt n 64) q k
      go Parts.Alias q k = absurd (true_false (sym e ∙ k.0))

  pub begins_as_it_is : r.again ≡ false → (r.at ≡ at) × (r.left ≡ left) × (r.len ≡ n)
  begins_as_it_is e = go node.parts h
    where
      two : Dec (n < 64) → BehindAs Parts.Two node.first at left n r → (r.at ≡ at) × (r.left ≡ left) × (r.len ≡ n)
      two (yes s) k = absurd (true_false (sym (k.0 s).0 ∙ e))
      two (no s) k = let a = k.1 (omega arith) in (a.1, a.2, a.3)

      go : (p : Parts) → BehindAs p node.first at left n r → (r.at ≡ at) × (r.left ≡ left) × (r.len ≡ n)
      go Parts.Whole k = (k.1, k.2, k.3)
      go Parts.One k = (k.1, k.2, k.3)
      go Parts.Fixed k = (k.1, k.2, k.3)
      go Parts.Two k = two (dec_lt n 64) k
      go Parts.Alias k = (k.1, k.2, k.3)

  -- the visits left do not grow, and the words before an expression stay within 64
  pub behind_left : r.left ≤ left
  behind_left = go r.again refl
    where
      go : (b : Bool) → r.again ≡ b → r.left ≤ left
      go true e = omega (arith, (begins_two e).3)
      go false e = omega (arith, (begins_as_it_is e).1)

  pub behind_len : n ≤ 64 → r.len ≤ 64
  behind_len small = go r.again refl
    where
      go : (b : Bool) → r.again ≡ b → r.len ≤ 64
      go true e = omega (arith, (begins_two e).4, (begins_two e).1)
      go false e = omega (arith, (begins_as_it_is e).2)

pub start_left : (node : Node) (target left : ℕ) (r : Start) → StartsAt node target left r → r.left ≤ left
start_left node target left r h = go node.alias.some refl
  where
    go : (b : Bool) → node.alias.some ≡ b → r.left ≤ left
    go true e = omega (arith, (h.0 e).1)
    go false e = omega (arith, (h.1 e).1)

pub both : (a b : Bool) → (a && b) ≡ true → (a ≡ true) × (b ≡ true)
both true true e = (refl, refl)
both true false e = absurd (true_false (sym e))
both false b e = absurd (true_false (sym e))

module _ (l : Layout) (at left : ℕ) where
  -- what is known of a node by its parts
  module _ (node : Node) (h : NodeAt l at left node) where
    pub as_parts : (p : Parts) → node.parts ≡ p → PartsAt l at left p node.first node.alias
    as_parts p e = subst (λ (p : Parts). PartsAt l at left p node.first node.alias) e h

    pub as_alias : node.alias.some ≡ true → PartsAt l at left Parts.Alias node.first node.alias
    as_alias e = go node.parts h
      where
        go : (p : Parts) → PartsAt l at left p node.first node.alias → PartsAt l at left Parts.Alias node.first node.alias
        go Parts.Whole k = absurd (true_false (sym e ∙ k.1))
        go Parts.One k = absurd (true_false (sym e ∙ k.1))
        go Parts.Fixed k = absurd (true_false (sym e ∙ k.1))
        go Parts.Two k = absurd (true_false (sym e ∙ k.1))
        go Parts.Alias k = k

    pub is_whole : node.first ≡ 0 → Read l at left → WholeAs l at left (kind_at l at)
    is_whole e = go node.parts h
      where
        go : (p : Parts) → PartsAt l at left p node.first node.alias → Read l at left → WholeAs l at left (kind_at l at)
        go Parts.Whole k = k.2
        go Parts.One k = absurd (omega (arith, k.0, e))
        go Parts.Fixed k = absurd (omega (arith, k.0, e))
        go Parts.Two k = absurd (omega (arith, k.0, e))
        go Parts.Alias k = absurd (omega (arith, k.0, e))

    pub is_read : (node.first ≡ 0 → ⊥) → Read l at left
    is_read e = go node.parts h
      where
        go : (p : Parts) → PartsAt l at left p node.first node.alias → Read l at left
        go Parts.Whole k = absurd (e k.0)
        go Parts.One k = k.2
        go Parts.Fixed k = k.2
        go Parts.Two k = k.2
        go Parts.Alias k = k.2

  module _ (params : List ℕ) (a : Resolved) where
    -- a node whose first part is not ok
    pub stopped : (node : Node) → NodeAt l at left node → (node.first ≡ 0 → ⊥) → Substitutes l node.first (left - 1) params a → a.ok ≡ false → Substitutes l at left params a
    unfolding plain_node
    stopped node h f q e = go node.parts h
      where
        q_at : (n : ℕ) → node.first ≡ n → Substitutes l n (left - 1) params a
        q_at n x = subst (λ (n : ℕ). Substitutes l n (left - 1) params a) x q

        go : (p : Parts) → PartsAt l at left p node.first node.alias → Substitutes l at left params a
        go Parts.Whole k = absurd (f k.0)
        go Parts.One k =
            of_one l at left params a (λ z. omega (arith, k.2.0, z)) k.3
            (λ s o f le ps w c x n y. one_stop l.names.rows (left - 1) n (plain_depth s f ps x) (ResolvedType.one c) a (q_at _ k.0 s o f le ps w x n (one_stands c x y).part) e)
        go Parts.Fixed k =
            of_fixed l at left params a (λ z. omega (arith, k.2.0, z)) k.3
            (λ s o f le ps w c d x n y. one_stop l.names.rows (left - 1) n (plain_depth s f ps x) (ResolvedType.fixed c d) a (q_at _ k.0 s o f le ps w x n (fixed_stands c d x y).part) e)
        go Parts.Two k =
            of_two l at left params a (λ z. omega (arith, k.2.0, z)) k.3
            (λ s o f le ps w c x v n y. let p = two_stands c x v y in two_stop l.names.rows (left - 1) p.middle (plain_depth s f ps x) (λ t. plain_depth s f ps v) (ResolvedType.two c) a (q_at _ k.0 s o f le ps w x p.middle p.left) e n)
        go Parts.Alias k =
            of_generic l at left params a (λ z. omega (arith, k.2.0, z)) k.3
            (λ s o f le ps w x y n z.
            let p = generic_stands x y z in
            let found = an_alias l.names.rows (pool_words l) node.alias (lookup_alias s (name_at l at)) (k.4 s o (omega (arith, p.name, p.below))) k.1 in
            says_as (is_expanded s (plain_depth s f) ps x y found.param (ap (lookup_alias s) (sym p.name) ∙ found.is))
            (two_stop l.names.rows (left - 1) n (plain_depth s f ps y) (λ t. plain_depth s f (record { name = found.param.name; ty = t } ∷ []) found.param.ty) (λ t u. u) a (q_at _ k.0 s o f le ps w y n p.part) e n))

    -- the words of a node and of its first part, where that is ok
    module _ (ok : a.ok ≡ true) (w' : List ℕ) (g : Longer) (z : left ≡ 0 → ⊥) where
      pub one_arm : kind_at l at ≡ TypeKind.One → Substitutes l (at + 1) (left - 1) params a → (c : ℕ) → c ≡ get_or (pool_words l) at 0 → Grows (c ∷ take a.ty.len a.ty.words) (as_grown g w' a.ty.poison)
          → Substitutes l at left params (record { ok = g.ok; next = a.next; left = a.left; ty = record { words = w'; len = g.len; poison = a.ty.poison } })
      unfolding plain_node
      one_arm is q c e grows =
          of_one l at left params _ z is
          (λ s o f le ps w k x n y.
          let p = one_stands k x y in
          one_end l.names.rows (left - 1) n (plain_depth s f ps x) (ResolvedType.one k) a (q s o f le ps w x n p.part) ok (as_grown g w' a.ty.poison)
          (λ t h. one_built h refl (subst₂ (λ (c : ℕ) (r : List ℕ). Grows (c ∷ r) (as_grown g w' a.ty.poison)) (e ∙ p.code) (held a.ty) grows) p.kind))

      pub fixed_arm : kind_at l at ≡ TypeKind.Fixed → Substitutes l (at + 1 + 1 + 1) (left - 1) params a
          → (low high : ℕ) → low ≡ get_or (pool_words l) (at + 1) 0 → high ≡ get_or (pool_words l) (at + 1 + 1) 0 → Grows (66 ∷ low ∷ high ∷ take a.ty.len a.ty.words) (as_grown g w' a.ty.poison)
          → Substitutes l at left params (record { ok = g.ok; next = a.next; left = a.left; ty = record { words = w'; len = g.len; poison = a.ty.poison } })
      unfolding plain_node
      fixed_arm is q low high e₁ e₂ grows =
          of_fixed l at left params _ z is
          (λ s o f le ps w c d x n y.
          let p = fixed_stands c d x y in
          one_end l.names.rows (left - 1) n (plain_depth s f ps x) (ResolvedType.fixed c d) a (q s o f le ps w x n p.part) ok (as_grown g w' a.ty.poison)
          (λ t h. fixed_built h refl (subst (λ (r : List ℕ). Grows r (as_grown g w' a.ty.poison)) (words low high c d (e₁ ∙ p.low_is) (e₂ ∙ p.high_is)) grows)))
        where
          words : (low high c d : ℕ) → low ≡ c → high ≡ d → 66 ∷ low ∷ high ∷ take a.ty.len a.ty.words ≡ 66 ∷ c ∷ d ∷ held_run a.ty
          words low high c d e f = rw (e, f, held a.ty)

      -- no room for the first part behind its code
      pub two_full : kind_at l at ≡ TypeKind.Two → Substitutes l (at + 1) (left - 1) params a → (c : ℕ) → Grows (c ∷ take a.ty.len a.ty.words) (as_grown g w' false) → g.ok ≡ false
          → (r : Resolved) → r.ok ≡ false → Substitutes l at left params r
      unfolding plain_node
      two_full is q c grows full r e =
          of_two l at left params r z is
          (λ s o f le ps w k x v n y.
          let p = two_stands k x v y in
          let said = q s o f le ps w x p.middle p.left in
          let t = said.ok ok in
          let long : 64 < length (k ∷ []) + length (run t.ty) = over grows full k (ap length (held a.ty ∙ t.holds.run)) in
          says_no l.names.rows (suc (left - 1)) n _ r e
          (no_room_fails (suc (left - 1)) _ (two_fits l.names.rows (left - 1) p.middle (plain_depth s f ps x) (plain_depth s f ps v) k a said)
          (first_no l.names.rows (left - 1) p.middle (plain_depth s f ps x) (plain_depth s f ps v) k a said [] (subst (NoRoom (left - 1) (k ∷ [])) (sym t.is) (inr long)))))
        where
          over : Grows (c ∷ take a.ty.len a.ty.words) (as_grown g w' false) → g.ok ≡ false → (k : ℕ) {n : ℕ} → length (take a.ty.len a.ty.words) ≡ n → 64 < length (k ∷ []) + n
          over h full k e = let o : 64 < length (c ∷ take a.ty.len a.ty.words) = leb-false (length (c ∷ take a.ty.len a.ty.words)) 64 (sym h.ok ∙ full) in omega (arith, e)

      -- the second part behind the code and the first
      pub two_arm : kind_at l at ≡ TypeKind.Two → Substitutes l (at + 1) (left - 1) params a → (c : ℕ) → c ≡ get_or (pool_words l) at 0 → Grows (c ∷ take a.ty.len a.ty.words) (as_grown g w' false) → g.ok ≡ true
          → (e : End) (w'' : List ℕ)
          → Each l a.next a.left params (resolved e w'') (λ s f ps. (x : TypeExpr) (m : ℕ) → At l a.next a.left x m → Adds l.names.rows a.left m (plain_depth s f ps x) (take g.len w') w'' e)
          → a.left ≤ left - 1
          → Substitutes l at left params (resolved (also a.ty.poison e) w'')
      unfolding plain_node
      two_arm is q c i grows grew e w'' adds falls =
          of_two l at left params _ z is
          (λ s o f le ps w k x v n y.
          let p = two_stands k x v y in
          let said = q s o f le ps w x p.middle p.left in
          let t = said.ok ok in
          let more = adds s o f (omega (arith, falls, le)) ps w v n (subst (λ (m : ℕ). ExprStands l.names.rows (pool_words l) v m n) (sym t.next) p.right) in
          let front : take g.len w' ≡ k ∷ run t.ty = grown_run grows grew ∙ rw (i, p.code, held a.ty, t.holds.run) in
          adds_says (two_fits l.names.rows (left - 1) p.middle (plain_depth s f ps x) (plain_depth s f ps v) k a said)
          (two_adds l.names.rows (left - 1) p.middle (plain_depth s f ps x) (plain_depth s f ps v) k a said ok p.kind n [] w'' e
          (subst (λ (b : List ℕ). Adds l.names.rows a.left n (plain_depth s f ps v) b w'' e) front more)))

    -- the alias's target with its argument in view
    pub alias_arm : (alias : Alias) → (left ≡ 0 → ⊥) → kind_at l at ≡ TypeKind.Generic → alias.some ≡ true → Told l at (λ s. IsAlias l.names.rows (pool_words l) alias (lookup_alias s (name_at l at)))
        → Substitutes l (at + 1 + 1) (left - 1) params a → a.ok ≡ true → a.left ≤ left - 1
        → (r : Resolved) → r.next ≡ a.next
        → ((s : CompiledSchema) → Open l s → (f : ℕ) → a.left ≤ f
        → (p : Param TypeExpr) → alias.param.0 ≡ p.name → (end : ℕ) → ExprStands l.names.rows (pool_words l) p.ty alias.target end
        → (t : ResolvedType) → Holds l.names.rows a.ty t → Says l.names.rows a.left a.next (plain_depth s f (record { name = p.name; ty = t } ∷ []) p.ty) r)
        → Substitutes l at left params r
    alias_arm alias z is some told q ok falls r e expands =
        of_generic l at left params r z is
        (λ s o f le ps w x y n k.
        let p = generic_stands x y k in
        let found = an_alias l.names.rows (pool_words l) alias (lookup_alias s (name_at l at)) (told s o (omega (arith, p.name, p.below))) some in
        let said = q s o f le ps w y n p.part in
        let t = said.ok ok in
        let target = expands s o f (omega (arith, falls, le)) found.param found.name found.end found.target t.ty t.holds in
        says_as (is_expanded s (plain_depth s f) ps x y found.param (ap (lookup_alias s) (sym p.name) ∙ found.is))
        (two_as_second l.names.rows (left - 1) n (plain_depth s f ps y) (λ t. plain_depth s f (record { name = found.param.name; ty = t } ∷ []) found.param.ty) (λ t u. u) a said ok a.next r target
        (λ t u. refl) n r refl (e ∙ t.next) refl refl))

    -- an expression by itself, put behind the words
    pub appends_whole : Substitutes l at left params a → (n len : ℕ) → len ≡ n → (words w₁ w₂ : List ℕ) (g : Longer) → take n w₁ ≡ take n words → Grows (take len w₁ ++ held_run a.ty) (as_grown g w₂ false)
        → (r : End) → r.ok ≡ (a.ok && g.ok) → r.poison ≡ a.ty.poison → r.next ≡ a.next → r.left ≡ a.left → r.len ≡ g.len
        → Each l at left params (resolved r w₂) (λ s f ps. (e : TypeExpr) (m : ℕ) → At l at left e m → Adds l.names.rows left m (plain_depth s f ps e) (take n words) w₂ r)
    appends_whole q n len same words w₁ w₂ g kept grows r e₁ e₂ e₃ e₄ e₅ s o f le ps w x m y =
        put_behind (q s o f le ps w x m y) (subst (λ (b : List ℕ). Grows (b ++ held_run a.ty) (as_grown g w₂ false)) (ap (λ (k : ℕ). take k w₁) same ∙ kept) grows) refl r e₁ e₂ e₃ e₄ e₅

    -- a node of two parts: its code, its first part, and what comes of its second
    module _ (z : 0 < left) (is : kind_at l at ≡ TypeKind.Two) (q : Substitutes l (at + 1) (left - 1) params a) (n c : ℕ) (i : c ≡ get_or (pool_words l) at 0)
        (words w₁ w₂ : List ℕ) (g : Longer) (put : take (n + 1) w₁ ≡ take n words ++ (c ∷ [])) (len : ℕ) (len_is : len ≡ n + 1) (grows : Grows (take len w₁ ++ held_run a.ty) (as_grown g w₂ false)) where
      front_is : take len w₁ ≡ take n words ++ (c ∷ [])
      front_is = ap (λ (k : ℕ). take k w₁) len_is ∙ put

      two_form : (e : TypeExpr) (m : ℕ) → At l at left e m → Form TypeKind.Two e
      two_form e m y = subst (λ (k : TypeKind). Form k e) (sym (expr_head l.names.rows e y.stored.good y.run_at) ∙ is) (form l.names.rows e y.stored.good)

      -- the same of each node of two parts that could stand there
      by_form : {r : End} {w₃ : List ℕ} (s : CompiledSchema) (f : ℕ) (ps : List (Param ResolvedType))
          → ((k : ℕ) (x v : TypeExpr) (m : ℕ) → At l at left (TypeExpr.two k x v) m → Adds l.names.rows (suc (left - 1)) m (plain_node s (plain_depth s f) ps (TypeExpr.two k x v)) (take n words) w₃ r)
          → (e : TypeExpr) (m : ℕ) → At l at left e m → Adds l.names.rows left m (plain_depth s (suc f) ps e) (take n words) w₃ r
      unfolding plain_depth
      by_form {r} {w₃} s f ps h e m y =
          let q = two_form e m y in
          let left_is : suc (left - 1) ≡ left = omega (arith, z) in
          subst (λ (k : ℕ). Adds l.names.rows k m (plain_node s (plain_depth s f) ps e) (take n words) w₃ r) left_is
          (subst (λ (e : TypeExpr). At l at left e m → Adds l.names.rows (suc (left - 1)) m (plain_node s (plain_depth s f) ps e) (take n words) w₃ r) q.3 (h q.0 q.1 q.2 m) y)

      pub appends_two : a.ok ≡ true → g.ok ≡ true → a.left ≤ left - 1
          → (r : End) (w₃ : List ℕ)
          → Each l a.next a.left params (resolved r w₃) (λ s f ps. (x : TypeExpr) (m : ℕ) → At l a.next a.left x m → Adds l.names.rows a.left m (plain_depth s f ps x) (take g.len w₂) w₃ r)
          → Each l at left params (resolved r w₃) (λ s f ps. (e : TypeExpr) (m : ℕ) → At l at left e m → Adds l.names.rows left m (plain_depth s f ps e) (take n words) w₃ (also a.ty.poison r))
      unfolding plain_node
      appends_two ok grew falls r w₃ adds s o zero le ps w = absurd (omega (arith, z, le))
      appends_two ok grew falls r w₃ adds s o (suc f) le ps w =
          by_form s f ps
          (λ k x v m y.
          let p = two_stands k x v y in
          let said = q s o f (omega arith) ps w x p.middle p.left in
          let t = said.ok ok in
          let more = adds s o f (omega (arith, falls, le)) ps w v m (subst (λ (at : ℕ). ExprStands l.names.rows (pool_words l) v at m) (sym t.next) p.right) in
          let front : take g.len w₂ ≡ take n words ++ (k ∷ run t.ty) = grown_run grows grew ∙ rw (front_is, t.holds.run, append_assoc (take n words) (c ∷ []) (run t.ty), i, p.code) in
          two_adds l.names.rows (left - 1) p.middle (plain_depth s f ps x) (plain_depth s f ps v) k a said ok p.kind m (take n words) w₃ r
          (subst (λ (b : List ℕ). Adds l.names.rows a.left m (plain_depth s f ps v) b w₃ r) front more))

      pub appends_two_no : (a.ok && g.ok) ≡ false → (r : End) → r.ok ≡ false → (w₃ : List ℕ)
          → Each l at left params (resolved r w₃) (λ s f ps. (e : TypeExpr) (m : ℕ) → At l at left e m → Adds l.names.rows left m (plain_depth s f ps e) (take n words) w₃ r)
      unfolding plain_node
      appends_two_no e r not_ok w₃ s o zero le ps w = absurd (omega (arith, z, le))
      appends_two_no e r not_ok w₃ s o (suc f) le ps w =
          by_form s f ps
          (λ k x v m y.
          let p = two_stands k x v y in
          let said = q s o f (omega arith) ps w x p.middle p.left in
          let code : c ≡ k = i ∙ p.code in
          let first = put_behind said (subst (λ (b : List ℕ). Grows (b ++ held_run a.ty) (as_grown g w₂ false)) front_is grows) refl (record { ok = a.ok && g.ok; poison = a.ty.poison; next = a.next; left = a.left; len = g.len }) refl refl refl refl refl in
          record {
            ok = λ z. absurd (true_false (sym z ∙ not_ok));
            no = λ _. first_no l.names.rows (left - 1) p.middle (plain_depth s f ps x) (plain_depth s f ps v) k a said (take n words) (subst (λ (c : ℕ). NoRoom (left - 1) (take n words ++ (c ∷ [])) (plain_depth s f ps x)) code (first.no e));
          })
