-- A trait function's parameters, entered one by one. Assumes nothing.
use Prim.Native.Nat.{ℕ, ◌+◌, ◌<◌, ◌≤◌}
use native.Mathlib.Omega.{arith}
use mathlib.Core.Path.{◌≡◌, refl, sym, ap, subst, ◌∙◌}
use mathlib.Core.List.{List, [], ◌∷◌, ◌++◌, append-nil, append_assoc}
use lib.ListN.{length, get_or}
use Rattle.std.specs.Prelude.{Some, None}
use Rattle.rules.specs.Syntax.{ResolvedType, TypeExpr, Param}
use Rattle.rules.specs.Substitute.{Counted, too_large, done, substitute_type}
use Rattle.rules.specs.Signatures.{resolve_params}
use Rattle.image_words.specs.Gives.{Row}
use Rattle.image_layout.specs.declared.Layout.{Layout}
use Rattle.image_layout.specs.Open.{pool_words}
use Rattle.type_words.specs.Holds.{Holds}
use Rattle.locals.specs.Rows.{Rows}
use Rattle.subst.specs.declared.whole.Substituted.{Substituted}
use Rattle.subst.specs.Answers.{AnswersAll}
use Rattle.expected_signature.specs.Here.{ParamStands, ParamsHere}
use Rattle.expected_signature.proofs.Places.{expr_here, is_large, taken}
use Rattle.expected_locals.specs.declared.Entered.{Entered}
use Rattle.expected_locals.specs.Entered.{EnteredDone, EnteredAgrees, EnteredSays}
use Rattle.expected_locals.proofs.Puts.{counted}
use Rattle.expected_signature.proofs.Resolves.{resolve_none, first_large, others_large, both_done}

module _ {rows behind : ℕ} {names words lens : List ℕ} {o : Counted (List (Param ResolvedType))} where
  says_large : o ≡ too_large → EnteredSays rows o behind names words lens None
  says_large e = record { is = subst (λ (q : Counted (List (Param ResolvedType))). EnteredAgrees rows q behind names words lens None) (sym e) refl }

  says_done : {r : Entered} {v : ℕ} {ps : List (Param ResolvedType)} → o ≡ done v ps → EnteredDone rows ps behind names words lens r → EnteredSays rows o behind names words lens (Some r)
  says_done {r} e d = record { is = subst (λ (q : Counted (List (Param ResolvedType))). EnteredAgrees rows q behind names words lens (Some r)) (sym e) d }

module _ {l : Layout} {params : List ℕ} {at : ℕ} (h : ParamsHere l params at) where
  abbrev Whole : Counted (List (Param ResolvedType))
  Whole = resolve_params h.schema h.seen h.tree

  -- i of them are entered; what is left decides
  pub record Left (i next : ℕ) (names words lens : List ℕ) : Type 0 where
    pub made : List (Param ResolvedType)
    pub left : List (Param TypeExpr)
    pub row : Row (ParamStands l) left next h.behind
    pub count : i + length left ≡ length h.tree
    pub large : resolve_params h.schema h.seen left ≡ too_large → Whole ≡ too_large
    pub makes : (w : ℕ) (ts : List (Param ResolvedType)) → resolve_params h.schema h.seen left ≡ done w ts → (v : ℕ) × (Whole ≡ done v (made ++ ts))
    pub table : Rows l.names.rows names words lens i 0 made

  pub start : (names words lens : List ℕ) → Left 0 (at + 1) names words lens
  start names words lens = record { made = []; left = h.tree; row = h.stands.2; count = omega arith; large = λ e. e; makes = λ w ts e. (w, e); table = refl }

  module _ {i next : ℕ} {names words lens : List ℕ} (v : Left i next names words lens) where
    inside_o : (left : List (Param TypeExpr)) → Row (ParamStands l) left next h.behind → 0 < length left → next < length (pool_words l)
    inside_o [] w b = absurd (omega arith)
    inside_o (q ∷ qs) w b = w.1.name_at.inside

    stop_o : (left : List (Param TypeExpr)) → Row (ParamStands l) left next h.behind → 0 < length left → AnswersAll l (next + 1) params None
        → resolve_params h.schema h.seen left ≡ too_large
    stop_o [] w b a = absurd (omega arith)
    stop_o (q ∷ qs) w b a =
        first_large h.schema h.seen q qs (is_large l.names.rows w.0 (substitute_type h.schema h.seen q.ty) (a h.schema h.opened h.seen h.views q.ty w.0 (expr_here w.1.type_at)))

    module _ (b : i < length h.tree) where
      -- the next one stands in the pool
      pub turn_inside : next < length (pool_words l)
      turn_inside = inside_o v.left v.row (omega (arith, v.count))

      -- it is too large
      pub turn_stops : AnswersAll l (next + 1) params None → {names' words' lens' : List ℕ} → EnteredSays l.names.rows Whole h.behind names' words' lens' None
      turn_stops a = says_large (v.large (stop_o v.left v.row (omega (arith, v.count)) a))

      module _ (names' words' lens' : List ℕ) (s : Substituted) (x : ℕ) where
        -- a local was added as row j
        abbrev Added : ℕ → Type 0
        Added j = (n : ℕ) (ps : List (Param ResolvedType)) (t : ResolvedType) → Rows n names words lens j 0 ps → Holds n s.ty t → Rows n names' words' lens' (j + 1) 0 (ps ++ (record { name = x; ty = t } ∷ []))

        go_o : (left : List (Param TypeExpr)) → Row (ParamStands l) left next h.behind → i + length left ≡ length h.tree
            → (resolve_params h.schema h.seen left ≡ too_large → Whole ≡ too_large)
            → ((w : ℕ) (ts : List (Param ResolvedType)) → resolve_params h.schema h.seen left ≡ done w ts → (u : ℕ) × (Whole ≡ done u (v.made ++ ts)))
            → AnswersAll l (next + 1) params (Some s) → x ≡ get_or (pool_words l) next 0 → Added i → Left (i + 1) s.next names' words' lens'
        go_o [] w c large makes a g f = absurd (omega arith)
        go_o (q ∷ qs) w c large makes a g f =
            let k = taken l.names.rows w.0 s (substitute_type h.schema h.seen q.ty) (a h.schema h.opened h.seen h.views q.ty w.0 (expr_here w.1.type_at)) in
            let p : Param ResolvedType = record { name = q.name; ty = k.t } in
            record {
              made = v.made ++ (p ∷ []);
              left = qs;
              row = subst (λ (n : ℕ). Row (ParamStands l) qs n h.behind) (sym k.next) w.2;
              count = omega (arith, c);
              large = λ z. large (others_large h.schema h.seen q qs k.is z);
              makes = λ u ts z.
                  let m = makes (k.v + u) (p ∷ ts) (both_done h.schema h.seen q qs k.is z) in
                  (m.0, m.1 ∙ ap (λ (ps : List (Param ResolvedType)). done m.0 ps) (sym (append_assoc v.made (p ∷ []) ts)));
              table = subst (λ (y : ℕ). Rows l.names.rows names' words' lens' (i + 1) 0 (v.made ++ (record { name = y; ty = k.t } ∷ []))) (g ∙ w.1.name_at.is)
                  (f l.names.rows v.made k.t v.table k.holds);
            }

        -- it is entered
        pub turn_goes : (j : ℕ) → AnswersAll l (next + 1) params (Some s) → x ≡ get_or (pool_words l) next 0 → Added j → j ≡ i → Left (i + 1) s.next names' words' lens'
        turn_goes j a g f q = go_o v.left v.row v.count v.large v.makes a g (subst (λ (k : ℕ). Added k) q f)

    module _ (n : ℕ) (all : n ≡ i) where
      abbrev End : Type 0
      End = EnteredSays l.names.rows Whole h.behind names words lens (Some (record { count = n; next = next }))

      end_o : (left : List (Param TypeExpr)) → Row (ParamStands l) left next h.behind → length left ≡ 0
          → ((w : ℕ) (ts : List (Param ResolvedType)) → resolve_params h.schema h.seen left ≡ done w ts → (u : ℕ) × (Whole ≡ done u (v.made ++ ts))) → End
      end_o (q ∷ qs) w z makes = absurd (omega arith)
      end_o [] w z makes =
          let m = makes 0 [] (resolve_none h.schema h.seen) in
          says_done (m.1 ∙ ap (λ (ps : List (Param ResolvedType)). done m.0 ps) (append-nil v.made)) (record {
            count = omega (arith, all, counted l.names.rows names words lens i 0 v.made v.table);
            next = w;
            table = subst (λ (k : ℕ). Rows l.names.rows names words lens k 0 v.made) (sym all) v.table;
          })

      -- none is left
      pub ended : length h.tree ≤ i → End
      ended b = end_o v.left v.row (omega (arith, v.count)) v.makes
