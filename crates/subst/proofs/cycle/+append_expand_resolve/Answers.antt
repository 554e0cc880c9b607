-- The resolver, what is put behind words and the expander, which call each other: the way of each kind of node.
use borrow.Author.Rules.{rules}
use Prim.Native.Nat.{ℕ, ◌-◌}
use native.Mathlib.Omega.{arith}
use mathlib.Core.Path.{refl, subst₂, ◌∙◌, subst}
use mathlib.Core.Bool.{true, false}
use Rattle.subst_leaves.specs.Nodes.{Substitutes}
use Rattle.subst_parts.specs.declared.Parts.{Parts}
use Rattle.subst.proofs.Arms.{longer, longer_some, longer_none, as_parts, begins_two, begins_as_it_is, behind_left, behind_len, both, appends_whole, appends_two, appends_two_no, as_alias, start_left, says_at, stopped, alias_arm, is_whole, is_read, one_arm, fixed_arm, two_full, two_arm}
use mathlib.Core.List.{[], ◌∷◌}
use Rattle.subst.proofs.Generic.{one_view}
use borrow.Author.Tests.{not-true, not-false}
use Rattle.subst.proofs.cycle.+append_expand_resolve.Goals as goal

pub append-start_behind-start-requires : goal.append-start_behind-start-requires
append-start_behind-start-requires t c = let a = c.args in
    λ e. (as_parts a.l.now a.at a.left c.node_at-node.result c.node_at-node.ensures Parts.Two e).2.0

pub append-resolve-requires : goal.append-resolve-requires
append-resolve-requires t c = (omega (arith, c.decreases, behind_left c.node_at-node.result c.args.at c.args.left c.args.n c.start_behind-start.result c.start_behind-start.ensures), c.requires.0)

pub append-push_back-g-requires : goal.append-push_back-g-requires
append-push_back-g-requires t c = (c.put_at.ensures.0, behind_len c.node_at-node.result c.args.at c.args.left c.args.n c.start_behind-start.result c.start_behind-start.ensures c.requires.2)

pub append-append-rest-requires : goal.append-append-rest-requires
append-append-rest-requires t c = let a = c.args in
    let s = begins_two c.node_at-node.result a.at a.left a.n c.start_behind-start.result c.start_behind-start.ensures c.if-start.true in
    let k = as_parts a.l.now a.at a.left c.node_at-node.result c.node_at-node.ensures Parts.Two s.0 in
    (omega (arith, c.decreases, k.2.0, s.3, c.resolve.ensures.keeps.falls), (c.requires.0, c.push_back-g.ensures.1, ((longer _ _ false _ c.is_some.ensures c.unwrap_or-len.ensures (c.push_back-g.ensures.0 false)).runs (both c.resolve.new.a.ok c.is_some.result c.if-ok.true).1).small))

pub append-returns-then-ok : goal.append-returns-then-ok
append-returns-then-ok t c = let a = c.args in
    let s = begins_two c.node_at-node.result a.at a.left a.n c.start_behind-start.result c.start_behind-start.ensures c.if-start.true in
    let k = as_parts a.l.now a.at a.left c.node_at-node.result c.node_at-node.ensures Parts.Two s.0 in
    let h = c.resolve.ensures.keeps in
    let b = c.resolve.new.a in
    let q = subst₂ (λ (n m : ℕ). Substitutes a.l.now n m a.params.now b) (s.2 ∙ k.0) s.3 h.means in
    let e = c.append-rest.ensures in
    record {
      falls = omega (arith, h.falls, s.3, e.falls);
      wide = e.wide;
      means = appends_two a.l.now a.at a.left a.params.now b k.2.0 k.3 q a.n _ c.section_word.ensures _ _ _ (record { ok = c.is_some.result; len = c.unwrap_or-len.result }) (c.put_at.ensures.2 s.1) _ s.4 (longer _ _ false _ c.is_some.ensures c.unwrap_or-len.ensures (c.push_back-g.ensures.0 false)) (both c.resolve.new.a.ok c.is_some.result c.if-ok.true).0 (both c.resolve.new.a.ok c.is_some.result c.if-ok.true).1 (omega (arith, h.falls, s.3)) c.append-rest.result _ e.means;
    }

pub append-returns-else-ok : goal.append-returns-else-ok
append-returns-else-ok t c = let a = c.args in
    let s = begins_two c.node_at-node.result a.at a.left a.n c.start_behind-start.result c.start_behind-start.ensures c.if-start.true in
    let k = as_parts a.l.now a.at a.left c.node_at-node.result c.node_at-node.ensures Parts.Two s.0 in
    let h = c.resolve.ensures.keeps in
    let b = c.resolve.new.a in
    let q = subst₂ (λ (n m : ℕ). Substitutes a.l.now n m a.params.now b) (s.2 ∙ k.0) s.3 h.means in
    record {
      falls = omega (arith, h.falls, s.3);
      wide = c.push_back-g.ensures.1;
      means = appends_two_no a.l.now a.at a.left a.params.now b k.2.0 k.3 q a.n _ c.section_word.ensures _ _ _ (record { ok = c.is_some.result; len = c.unwrap_or-len.result }) (c.put_at.ensures.2 s.1) _ s.4 (longer _ _ false _ c.is_some.ensures c.unwrap_or-len.ensures (c.push_back-g.ensures.0 false)) c.if-ok.false _ c.if-ok.false _;
    }

pub append-returns-else-start : goal.append-returns-else-start
append-returns-else-start t c = let a = c.args in
    let s = begins_as_it_is c.node_at-node.result a.at a.left a.n c.start_behind-start.result c.start_behind-start.ensures c.if-start.false in
    let h = c.resolve.ensures.keeps in
    let b = c.resolve.new.a in
    let q = subst₂ (λ (n m : ℕ). Substitutes a.l.now n m a.params.now b) s.0 s.1 h.means in
    record {
      falls = omega (arith, h.falls, s.1);
      wide = c.push_back-g.ensures.1;
      means = appends_whole a.l.now a.at a.left a.params.now b q a.n _ s.2 _ _ _ (record { ok = c.is_some.result; len = c.unwrap_or-len.result }) c.put_at.ensures.1 (longer _ _ false _ c.is_some.ensures c.unwrap_or-len.ensures (c.push_back-g.ensures.0 false)) _ refl refl refl refl refl;
    }

pub expand-start_of-start-requires : goal.expand-start_of-start-requires
expand-start_of-start-requires t c = let a = c.args in
    λ e. (as_alias a.l.now a.alias.target a.left c.node_at-node.result c.node_at-node.ensures e).2.0

pub expand-resolve-requires : goal.expand-resolve-requires
expand-resolve-requires t c = (omega (arith, c.decreases, start_left c.node_at-node.result c.args.alias.target c.args.left c.start_of-start.result c.start_of-start.ensures), c.requires.0)

pub expand-expand-requires : goal.expand-expand-requires
expand-expand-requires t c = let a = c.args in
    let s = c.start_of-start.ensures.0 c.if-again.true in
    let k = as_alias a.l.now a.alias.target a.left c.node_at-node.result c.node_at-node.ensures c.if-again.true in
    (omega (arith, c.decreases, k.2.0, s.1, c.resolve.ensures.keeps.falls), (c.requires.0, c.resolve.ensures.wide))

pub expand-returns-then-b : goal.expand-returns-then-b
expand-returns-then-b t c = let a = c.args in
    let s = c.start_of-start.ensures.0 c.if-again.true in
    let k = as_alias a.l.now a.alias.target a.left c.node_at-node.result c.node_at-node.ensures c.if-again.true in
    let h = c.resolve.ensures.keeps in
    let b = c.resolve.new.a in
    let e = c.expand.ensures in
    let q = subst₂ (λ (n m : ℕ). Substitutes a.l.now n m c.rows-view.result.now b) (s.0 ∙ k.0) s.1 h.means in (
      e.0,
      record {
        falls = omega (arith, h.falls, s.1, e.1.falls);
        wide = e.1.wide;
        means = λ σ o f le p x end y t z next.
            let v = one_view a.l.now.names.rows _ _ c.rows-view.result.now a.alias.param.0 p.name (record { words = a.words.now; len = a.n; poison = a.poison }) t c.write_row.ensures refl c.rows-view.ensures x z in
            says_at
            (alias_arm a.l.now a.alias.target a.left c.rows-view.result.now b c.node_at-node.result.alias (λ z. omega (arith, k.2.0, z)) k.3 k.1 k.4 q c.if-b.true (omega (arith, h.falls, s.1)) (record { ok = c.expand.result.ok; next = b.next; left = c.expand.result.left; ty = record { words = c.expand.new.words; len = c.expand.result.len; poison = c.expand.result.poison } }) refl
            (λ σ o f le p x end y t z. e.1.means σ o f le p x end y t z b.next)
            σ o f le (record { name = p.name; ty = t } ∷ []) v p.ty end y)
            next _ refl refl refl refl;
      },
    )

pub expand-returns-else-b : goal.expand-returns-else-b
expand-returns-else-b t c = let a = c.args in
    let s = c.start_of-start.ensures.0 c.if-again.true in
    let k = as_alias a.l.now a.alias.target a.left c.node_at-node.result c.node_at-node.ensures c.if-again.true in
    let h = c.resolve.ensures.keeps in
    let b = c.resolve.new.a in
    let q = subst₂ (λ (n m : ℕ). Substitutes a.l.now n m c.rows-view.result.now b) s.0 s.1 h.means in (
      refl,
      record {
        falls = omega (arith, h.falls, s.1);
        wide = c.resolve.ensures.wide;
        means = λ σ o f le p x end y t z next.
            let v = one_view a.l.now.names.rows _ _ c.rows-view.result.now a.alias.param.0 p.name (record { words = a.words.now; len = a.n; poison = a.poison }) t c.write_row.ensures refl c.rows-view.ensures x z in
            says_at
            (stopped a.l.now a.alias.target a.left c.rows-view.result.now b c.node_at-node.result c.node_at-node.ensures (λ z. omega (arith, k.0, z)) q c.if-b.false σ o f le (record { name = p.name; ty = t } ∷ []) v p.ty end y)
            next _ refl refl refl refl;
      },
    )

pub expand-returns-else-again : goal.expand-returns-else-again
expand-returns-else-again t c = let a = c.args in
    let s = c.start_of-start.ensures.1 c.if-again.false in
    let h = c.resolve.ensures.keeps in
    let b = c.resolve.new.a in
    let q = subst₂ (λ (n m : ℕ). Substitutes a.l.now n m c.rows-view.result.now b) s.0 s.1 h.means in (
      refl,
      record {
        falls = omega (arith, h.falls, s.1);
        wide = c.resolve.ensures.wide;
        means = λ σ o f le p x end y t z next.
            let v = one_view a.l.now.names.rows _ _ c.rows-view.result.now a.alias.param.0 p.name (record { words = a.words.now; len = a.n; poison = a.poison }) t c.write_row.ensures refl c.rows-view.ensures x z in
            says_at (q σ o f le (record { name = p.name; ty = t } ∷ []) v p.ty end y) next _ refl refl refl refl;
      },
    )

pub resolve-returns-then-first-eq0-clause-keeps : goal.resolve-returns-then-first-eq0-clause-keeps
resolve-returns-then-first-eq0-clause-keeps t c = let a = c.args in
    let h = c.whole_into.ensures.keeps in
    record { falls = h.falls; means = h.means (is_whole a.l.now a.at a.left c.node_at-node.result c.node_at-node.ensures c.if-first-eq0.true) }

pub resolve-overflow_sub-left : goal.resolve-overflow_sub-left
resolve-overflow_sub-left t c = let a = c.args in
    omega (arith, (is_read a.l.now a.at a.left c.node_at-node.result c.node_at-node.ensures c.if-first-eq0.false).0)

pub resolve-resolve-requires : goal.resolve-resolve-requires
resolve-resolve-requires t c = let a = c.args in
    (omega (arith, c.decreases, (is_read a.l.now a.at a.left c.node_at-node.result c.node_at-node.ensures c.if-first-eq0.false).0), c.requires)

pub resolve-returns-then-not-a-clause-keeps : goal.resolve-returns-then-not-a-clause-keeps
resolve-returns-then-not-a-clause-keeps t c = let a = c.args in
    let h = c.resolve.ensures.keeps in
    record { falls = omega (arith, h.falls); means = stopped a.l.now a.at a.left a.params.now c.resolve.new.a c.node_at-node.result c.node_at-node.ensures c.if-first-eq0.false h.means (not-true _ c.if-not-a.true-raw) }

pub resolve-returns-in-Whole-clause-keeps : goal.resolve-returns-in-Whole-clause-keeps
resolve-returns-in-Whole-clause-keeps t c = let a = c.args in
    absurd (c.if-first-eq0.false (as_parts a.l.now a.at a.left c.node_at-node.result c.node_at-node.ensures Parts.Whole c.in-Whole.is).0)

pub resolve-push_front-g-requires : goal.resolve-push_front-g-requires
resolve-push_front-g-requires t c = c.resolve.ensures.wide

pub resolve-returns-in-One-clause-keeps : goal.resolve-returns-in-One-clause-keeps
resolve-returns-in-One-clause-keeps t c = let a = c.args in
    let h = c.resolve.ensures.keeps in
    let b = c.resolve.new.a in
    let k = as_parts a.l.now a.at a.left c.node_at-node.result c.node_at-node.ensures Parts.One c.in-One.is in
    let q = subst (λ (n : ℕ). Substitutes a.l.now n (a.left - 1) a.params.now b) k.0 h.means in
    record {
      falls = omega (arith, h.falls);
      means = one_arm a.l.now a.at a.left a.params.now b (not-false _ c.if-not-a.false-raw) _ (record { ok = c.is_some-a.result; len = c.unwrap_or-a.result }) (λ z. omega (arith, k.2.0, z)) k.3 q _ c.section_word-code.ensures (longer _ _ b.ty.poison _ c.is_some-a.ensures c.unwrap_or-a.ensures (c.push_front-g.ensures.0 b.ty.poison));
    }

pub resolve-overflow_add-at : goal.resolve-overflow_add-at
resolve-overflow_add-at t c = let a = c.args in
    search (rules, (as_parts a.l.now a.at a.left c.node_at-node.result c.node_at-node.ensures Parts.Fixed c.in-Fixed.is).2.1, c.requires.inside.small, c.requires.inside.pool)

pub resolve-overflow_add-at-in-Fixed : goal.resolve-overflow_add-at-in-Fixed
resolve-overflow_add-at-in-Fixed t c = let a = c.args in
    search (rules, (as_parts a.l.now a.at a.left c.node_at-node.result c.node_at-node.ensures Parts.Fixed c.in-Fixed.is).2.1, c.requires.inside.small, c.requires.inside.pool)

pub resolve-overflow_add-at-in-Fixed-2 : goal.resolve-overflow_add-at-in-Fixed-2
resolve-overflow_add-at-in-Fixed-2 t c = let a = c.args in
    search (rules, (as_parts a.l.now a.at a.left c.node_at-node.result c.node_at-node.ensures Parts.Fixed c.in-Fixed.is).2.1, c.requires.inside.small, c.requires.inside.pool)

pub resolve-section_word-high-requires : goal.resolve-section_word-high-requires
resolve-section_word-high-requires t c = search (rules, c.requires.inside)

pub resolve-push_fixed-g-requires : goal.resolve-push_fixed-g-requires
resolve-push_fixed-g-requires t c = c.resolve.ensures.wide

pub resolve-returns-in-Fixed-clause-keeps : goal.resolve-returns-in-Fixed-clause-keeps
resolve-returns-in-Fixed-clause-keeps t c = let a = c.args in
    let h = c.resolve.ensures.keeps in
    let b = c.resolve.new.a in
    let k = as_parts a.l.now a.at a.left c.node_at-node.result c.node_at-node.ensures Parts.Fixed c.in-Fixed.is in
    let q = subst (λ (n : ℕ). Substitutes a.l.now n (a.left - 1) a.params.now b) k.0 h.means in
    record {
      falls = omega (arith, h.falls);
      means = fixed_arm a.l.now a.at a.left a.params.now b (not-false _ c.if-not-a.false-raw) _ (record { ok = c.is_some-a-in-Fixed.result; len = c.unwrap_or-a-in-Fixed.result }) (λ z. omega (arith, k.2.0, z)) k.3 q _ _ c.section_word-low.ensures c.section_word-high.ensures (longer _ _ b.ty.poison _ c.is_some-a-in-Fixed.ensures c.unwrap_or-a-in-Fixed.ensures (c.push_fixed-g.ensures.0 b.ty.poison));
    }

pub resolve-push_front-requires : goal.resolve-push_front-requires
resolve-push_front-requires t c = c.resolve.ensures.wide

pub resolve-returns-in_default-clause-keeps : goal.resolve-returns-in_default-clause-keeps
resolve-returns-in_default-clause-keeps t c = let a = c.args in
    let h = c.resolve.ensures.keeps in
    let b = c.resolve.new.a in
    let k = as_parts a.l.now a.at a.left c.node_at-node.result c.node_at-node.ensures Parts.Two c.in-Two.is in
    let q = subst (λ (n : ℕ). Substitutes a.l.now n (a.left - 1) a.params.now b) k.0 h.means in
    record {
      falls = omega (arith, h.falls);
      means = two_full a.l.now a.at a.left a.params.now b (not-false _ c.if-not-a.false-raw) _ (record { ok = false; len = 0 }) (λ z. omega (arith, k.2.0, z)) k.3 q _ (longer_none _ false c.in_default.is (c.push_front.ensures.0 false)) refl _ refl;
    }

pub resolve-append-e-requires : goal.resolve-append-e-requires
resolve-append-e-requires t c = let a = c.args in
    let k = as_parts a.l.now a.at a.left c.node_at-node.result c.node_at-node.ensures Parts.Two c.in-Two.is in
    (omega (arith, c.decreases, k.2.0, c.resolve.ensures.keeps.falls), (c.requires, c.push_front.ensures.1, ((longer_some _ false c.in-Some.is (c.push_front.ensures.0 false)).runs refl).small))

pub resolve-returns-in-Two-clause-keeps : goal.resolve-returns-in-Two-clause-keeps
resolve-returns-in-Two-clause-keeps t c = let a = c.args in
    let h = c.resolve.ensures.keeps in
    let b = c.resolve.new.a in
    let e = c.append-e.ensures in
    let k = as_parts a.l.now a.at a.left c.node_at-node.result c.node_at-node.ensures Parts.Two c.in-Two.is in
    let q = subst (λ (n : ℕ). Substitutes a.l.now n (a.left - 1) a.params.now b) k.0 h.means in
    record {
      falls = omega (arith, h.falls, e.falls);
      means = two_arm a.l.now a.at a.left a.params.now b (not-false _ c.if-not-a.false-raw) _ (record { ok = true; len = c.in-Some.len }) (λ z. omega (arith, k.2.0, z)) k.3 q _ c.section_word-code-in-Two.ensures (longer_some _ false c.in-Some.is (c.push_front.ensures.0 false)) refl c.append-e.result _ e.means h.falls;
    }

pub resolve-expand-e-requires : goal.resolve-expand-e-requires
resolve-expand-e-requires t c = let a = c.args in
    let k = as_parts a.l.now a.at a.left c.node_at-node.result c.node_at-node.ensures Parts.Alias c.in-Alias.is in
    (omega (arith, c.decreases, k.2.0, c.resolve.ensures.keeps.falls), (c.requires, c.resolve.ensures.wide))

pub resolve-returns-in-Alias-clause-keeps : goal.resolve-returns-in-Alias-clause-keeps
resolve-returns-in-Alias-clause-keeps t c = let a = c.args in
    let h = c.resolve.ensures.keeps in
    let b = c.resolve.new.a in
    let e = c.expand-e.ensures in
    let k = as_parts a.l.now a.at a.left c.node_at-node.result c.node_at-node.ensures Parts.Alias c.in-Alias.is in
    let q = subst (λ (n : ℕ). Substitutes a.l.now n (a.left - 1) a.params.now b) k.0 h.means in
    record {
      falls = omega (arith, h.falls, e.1.falls);
      means = alias_arm a.l.now a.at a.left a.params.now b c.node_at-node.result.alias (λ z. omega (arith, k.2.0, z)) k.3 k.1 k.4 q (not-false _ c.if-not-a.false-raw) h.falls _ refl (λ σ o f le p x end y t z. e.1.means σ o f le p x end y t z b.next);
    }
