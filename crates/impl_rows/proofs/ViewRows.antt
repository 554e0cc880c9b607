-- Type parameters with their arguments, row by row. Assumes nothing.
use Prim.Native.Nat.{ℕ, ◌+◌, ◌*◌, ◌<◌, ◌≤◌}
use mathlib.Core.Path.{◌≡◌, refl, sym, ap, subst, ◌∙◌}
use mathlib.Core.List.{List, [], ◌∷◌, ◌++◌, append-nil, append_assoc}
use native.Mathlib.Omega.{arith}
use lib.ListN.{length, get_or, take, length-append}
use lib.Seq.{get_or-take, length-take-le}
use Rattle.rules.specs.Syntax.{ResolvedType, Param}
use Rattle.rules.specs.Substitute.{view}
use Rattle.image_words.specs.Gives as gives
use Rattle.image_words.specs.Gives.{BelowAt}
use Rattle.image_layout.specs.declared.Layout.{Layout}
use Rattle.image_layout.specs.Open.{pool_words}
use Rattle.pool_types.specs.TypeAt.{TypeStands}
use Rattle.type_from_pool.specs.declared.Held.{Held}
use Rattle.type_from_pool.specs.Held.{Types}
use Rattle.subst_params.specs.Views.{Row, Views, Written}
use Rattle.impl_rows.specs.Given.{Given}

-- rows of a table from `at` on, whatever stands behind them
abbrev pub Rows : ℕ → List ℕ → ℕ → List (Param ResolvedType) → Type 0
Rows names table at [] = Unit {0}
Rows names table at (p ∷ ps) = Row names table at p × Rows names table (at + 66) ps

-- words of a row stay, and so does the row
row_kept : (names : ℕ) (old new : List ℕ) (at : ℕ) (p : Param ResolvedType) → at + 66 ≤ length new → ((j : ℕ) → j < at + 66 → get_or new j 0 ≡ get_or old j 0) → Row names old at p → Row names new at p
row_kept names old new at p i k r = record {
  inside = i;
  name = k at (omega arith) ∙ r.name;
  noted = k (at + 1) (omega arith) ∙ r.noted;
  words = λ j h. r.words j h ∙ sym (k (at + 2 + j) (omega (arith, r.stored.short)));
  stored = r.stored;
}

rows_kept : (names : ℕ) (old new : List ℕ) (at : ℕ) (ps : List (Param ResolvedType)) → at + 66 * length ps ≤ length new → ((j : ℕ) → j < at + 66 * length ps → get_or new j 0 ≡ get_or old j 0)
    → Rows names old at ps → Rows names new at ps
rows_kept names old new at [] i k r = tt
rows_kept names old new at (p ∷ ps) i k r =
    (row_kept names old new at p (omega arith) (λ j h. k j (omega arith)) r.0, rows_kept names old new (at + 66) ps (omega arith) (λ j h. k j (omega arith)) r.1)

rows_more : (names : ℕ) (table : List ℕ) (at : ℕ) (ps : List (Param ResolvedType)) (p : Param ResolvedType) → Rows names table at ps → Row names table (at + 66 * length ps) p → Rows names table at (ps ++ (p ∷ []))
rows_more names table at [] p r w = (subst (λ (k : ℕ). Row names table k p) (omega arith) w, tt)
rows_more names table at (q ∷ ps) p r w = (r.0, rows_more names table (at + 66) ps p r.1 (subst (λ (k : ℕ). Row names table k p) (omega arith) w))

-- a table of just these rows
rows_view : (names : ℕ) (table : List ℕ) (at : ℕ) (ps : List (Param ResolvedType)) → length table ≡ at + 66 * length ps → Rows names table at ps → Views names table at ps
rows_view names table at [] e r = omega (arith, e)
rows_view names table at (p ∷ ps) e r = (r.0, rows_view names table (at + 66) ps (omega (arith, e)) r.1)

rows_cut : (names : ℕ) (table : List ℕ) (n : ℕ) (ps : List (Param ResolvedType)) → n ≡ length ps → 66 * n ≤ length table → Rows names table 0 ps → Views names (take (66 * n) table) 0 ps
rows_cut names table n ps e i r =
    let len : length (take (66 * n) table) ≡ 66 * n = length-take-le (66 * n) table i in
    rows_view names (take (66 * n) table) 0 ps (omega (arith, len, e))
    (rows_kept names table (take (66 * n) table) 0 ps (omega (arith, len, e)) (λ j h. get_or-take (66 * n) table j 0 (omega (arith, e))) r)

module _ {l : Layout} {params types count : ℕ} (g : Given l params types count) where
  -- i rows are written; what is left is in view behind them
  pub record Left (i next : ℕ) (table : List ℕ) : Type 0 where
    pub made : List (Param ResolvedType)
    pub xs : List ℕ
    pub ts : List ResolvedType
    pub rows : Rows l.names.rows table 0 made
    pub counted : length made ≡ i
    pub xs_row : gives.Row (BelowAt (pool_words l) l.names.rows) xs (params + i) g.params_end
    pub ts_row : gives.Row (TypeStands l.names.rows (pool_words l)) ts next g.types_end
    pub xs_count : i + length xs ≡ count
    pub ts_count : i + length ts ≡ count
    pub so : view g.params g.types ≡ made ++ view xs ts

  pub start : (table : List ℕ) → Left 0 types table
  start table = record {
    made = [];
    xs = g.params;
    ts = g.types;
    rows = tt;
    counted = refl;
    xs_row = subst (λ (k : ℕ). gives.Row (BelowAt (pool_words l) l.names.rows) g.params k g.params_end) (omega arith) g.params_row;
    ts_row = g.types_row;
    xs_count = omega (arith, g.params_count);
    ts_count = omega (arith, g.types_count);
    so = refl;
  }

  module _ {i next : ℕ} {table : List ℕ} (v : Left i next table) where
    -- the next parameter stands inside
    inside_o : (xs : List ℕ) → gives.Row (BelowAt (pool_words l) l.names.rows) xs (params + i) g.params_end → 0 < length xs → params + i < length (pool_words l)
    inside_o [] r b = absurd (omega arith)
    inside_o (x ∷ xs) r b = r.1.0.inside

    pub name_inside : i < count → params + i < length (pool_words l)
    name_inside b = inside_o v.xs v.xs_row (omega (arith, v.xs_count))

    module _ (b : i < count) (size : length table ≡ 528) {h : Held} (holds : Types l.names.rows (pool_words l) next h) {x : ℕ} (named : x ≡ get_or (pool_words l) (params + i) 0)
        {new : List ℕ} (written : Written table new (66 * i) x h.ty) where
      more_o : (xs : List ℕ) (ts : List ResolvedType) → gives.Row (BelowAt (pool_words l) l.names.rows) xs (params + i) g.params_end
          → gives.Row (TypeStands l.names.rows (pool_words l)) ts next g.types_end → i + length xs ≡ count → i + length ts ≡ count
          → view g.params g.types ≡ v.made ++ view xs ts → Left (i + 1) h.next new
      unfolding view
      more_o [] ts xr tr xc tc s = absurd (omega arith)
      more_o (y ∷ xs) [] xr tr xc tc s = absurd (omega arith)
      more_o (y ∷ xs) (t ∷ ts) xr tr xc tc s =
          let k = holds t tr.0 tr.1.words_at tr.1.good in
          let p : Param ResolvedType = record { name = x; ty = t } in
          let e : x ≡ y = named ∙ xr.1.0.is in
          let kept : Rows l.names.rows new 0 v.made = rows_kept l.names.rows table new 0 v.made (omega (arith, written.size, v.counted, g.few, size))
          (λ j m. written.kept j (omega (arith, v.counted))) v.rows in
          record {
            made = v.made ++ (p ∷ []);
            xs = xs;
            ts = ts;
            rows = rows_more l.names.rows new 0 v.made p kept (subst (λ (k : ℕ). Row l.names.rows new k p) (omega (arith, v.counted)) (written.row l.names.rows t k.0));
            counted = length-append v.made (p ∷ []) ∙ (let m : length v.made + 1 ≡ i + 1 = omega (arith, v.counted) in m);
            xs_row = subst (λ (k : ℕ). gives.Row (BelowAt (pool_words l) l.names.rows) xs k g.params_end) (omega (arith, xr.1.2)) xr.2;
            ts_row = subst (λ (k : ℕ). gives.Row (TypeStands l.names.rows (pool_words l)) ts k g.types_end) (sym k.1) tr.2;
            xs_count = omega (arith, xc);
            ts_count = omega (arith, tc);
            so = s ∙ ap (λ (n : ℕ). v.made ++ (record { name = n; ty = t } ∷ view xs ts)) (sym e) ∙ sym (append_assoc v.made (p ∷ []) (view xs ts));
          }

      pub goes : Left (i + 1) h.next new
      goes = more_o v.xs v.ts v.xs_row v.ts_row v.xs_count v.ts_count v.so

    end_o : (xs : List ℕ) → length xs ≡ 0 → view g.params g.types ≡ v.made ++ view xs v.ts → v.made ≡ view g.params g.types
    unfolding view
    end_o [] z s = sym (s ∙ append-nil v.made)
    end_o (x ∷ xs) z s = absurd (omega arith)

    pub ended : count ≤ i → length table ≡ 528 → Views l.names.rows (take (66 * count) table) 0 (view g.params g.types)
    ended b size =
        subst (Views l.names.rows (take (66 * count) table) 0) (end_o v.xs (omega (arith, v.xs_count)) v.so)
        (rows_cut l.names.rows table count v.made (omega (arith, v.counted, v.xs_count)) (omega (arith, g.few, size)) v.rows)
