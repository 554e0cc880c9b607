-- A trait function's parameters, one by one. Assumes nothing.
use Prim.Native.Nat.{ℕ, ◌+◌, ◌*◌, ◌<◌, ◌≤◌}
use mathlib.Core.Path.{◌≡◌, refl, sym, ap, ap₂, subst, ◌∙◌}
use mathlib.Core.Bool.{Bool, true, false, ◌||◌}
use mathlib.Core.List.{List, [], ◌∷◌, ◌++◌, append-nil, append_assoc}
use native.Mathlib.Omega.{arith}
use native.Mathlib.Nat.{zero-add, add-zero, add_assoc}
use lib.ListN.{length, get_or, length-append}
use Rattle.std.specs.Prelude.{Option, Some, None}
use Rattle.rules.specs.Syntax.{ResolvedType, TypeExpr, CompiledSchema, Param}
use Rattle.rules.specs.Types.{contains_poison}
use Rattle.rules.specs.Substitute.{Counted, too_large, done, after, substitute_type}
use Rattle.rules.specs.Signatures.{poisoned_params, resolve_params}
use Rattle.rules.specs.Output.{each, listed, param_words}
use Rattle.image_words.specs.Gives.{Row}
use Rattle.image_layout.specs.declared.Layout.{Layout}
use Rattle.image_layout.specs.Open.{pool_words}
use Rattle.answers.specs.Writes.{Writes}
use Rattle.answers.proofs.Writes.{writes_none, writes_then, writes_same}
use Rattle.expected_signature.specs.declared.part.Part.{Part}
use Rattle.expected_signature.specs.Here.{ParamStands, ParamHere, ParamsHere}
use Rattle.expected_signature.specs.Parts.{PartSays, under, resolve_param, poisoned_param}
use Rattle.expected_signature.proofs.Says.{says_done, says_large, part_large, made}
use Rattle.expected_signature.proofs.Sizes.{param_small}
use Rattle.expected_signature.proofs.Resolves.{resolve_none, first_large, first_done}

-- one more at the end
pub each_snoc : {A : Type 0} (f : A → List ℕ) (xs : List A) (x : A) → each f (xs ++ (x ∷ [])) ≡ each f xs ++ f x
unfolding each
each_snoc f [] x = append-nil (f x)
each_snoc f (y ∷ ys) x = ap (λ (l : List ℕ). f y ++ l) (each_snoc f ys x) ∙ sym (append_assoc (f y) (each f ys) (f x))

or-false : (b : Bool) → (b || false) ≡ b
or-false true = refl
or-false false = refl

or_assoc : (a b c : Bool) → (a || (b || c)) ≡ ((a || b) || c)
or_assoc true b c = refl
or_assoc false b c = refl

poisoned_snoc : (ps : List (Param ResolvedType)) (p : Param ResolvedType) → poisoned_params (ps ++ (p ∷ [])) ≡ (poisoned_params ps || contains_poison p.ty)
unfolding poisoned_params
poisoned_snoc [] p = or-false (contains_poison p.ty)
poisoned_snoc (q ∷ ps) p = ap (λ (b : Bool). contains_poison q.ty || b) (poisoned_snoc ps p) ∙ or_assoc (contains_poison q.ty) (poisoned_params ps) (contains_poison p.ty)

-- some made already, and their visits
unfoldable pub prepend : {A : Type 0} → ℕ → List A → Counted (List A) → Counted (List A)
prepend v xs o = after o λ w ts. done (v + w) (xs ++ ts)

prepend_none : {A : Type 0} (o : Counted (List A)) → prepend 0 [] o ≡ o
unfolding prepend after
prepend_none too_large = refl
prepend_none (done w ts) = ap (λ (n : ℕ). done n ts) (zero-add w)

module _ (schema : CompiledSchema) (ps : List (Param ResolvedType)) (q : Param TypeExpr) (qs : List (Param TypeExpr)) where
  large_o : (o : Counted ResolvedType) → substitute_type schema ps q.ty ≡ o → under q.name o ≡ too_large → resolve_params schema ps (q ∷ qs) ≡ too_large
  unfolding after
  large_o too_large e h = first_large schema ps q qs e
  large_o (done v t) e h = absurd (let z : ◌≡◌ {A = ℕ} 0 1 = cc in omega arith)

  params_large : resolve_param schema ps q ≡ too_large → resolve_params schema ps (q ∷ qs) ≡ too_large
  unfolding resolve_param
  params_large h = large_o (substitute_type schema ps q.ty) refl h

  more_o : (o : Counted ResolvedType) → substitute_type schema ps q.ty ≡ o → (v : ℕ) (p : Param ResolvedType) → under q.name o ≡ done v p
      → resolve_params schema ps (q ∷ qs) ≡ after (resolve_params schema ps qs) λ w ts. done (v + w) (p ∷ ts)
  unfolding after
  more_o too_large e v p h = absurd (let z : ◌≡◌ {A = ℕ} 0 1 = cc in omega arith)
  more_o (done w t) e v p h =
      first_done schema ps q qs e
      ∙ ap₂ (λ (n : ℕ) (r : Param ResolvedType). after (resolve_params schema ps qs) λ w ts. done (n + w) (r ∷ ts)) (let m : w ≡ v = cc in m) (let m : record { name = q.name; ty = t } ≡ p = cc in m)

  params_more : {v : ℕ} {p : Param ResolvedType} → resolve_param schema ps q ≡ done v p → resolve_params schema ps (q ∷ qs) ≡ after (resolve_params schema ps qs) λ w ts. done (v + w) (p ∷ ts)
  unfolding resolve_param
  params_more {v} {p} h = more_o (substitute_type schema ps q.ty) refl v p h

prepend_o : {A : Type 0} (u v : ℕ) (xs : List A) (x : A) (o : Counted (List A)) → prepend u xs (after o λ w ts. done (v + w) (x ∷ ts)) ≡ prepend (u + v) (xs ++ (x ∷ [])) o
unfolding prepend after
prepend_o u v xs x too_large = refl
prepend_o u v xs x (done w ts) = ap₂ (λ (n : ℕ) (l : List _). done n l) (sym (add_assoc u v w)) (sym (append_assoc xs (x ∷ []) ts))

prepend_large : {A : Type 0} (u : ℕ) (xs : List A) (o : Counted (List A)) → o ≡ too_large → prepend u xs o ≡ too_large
unfolding prepend after
prepend_large u xs too_large e = refl
prepend_large u xs (done v ts) e = absurd (let z : ◌≡◌ {A = ℕ} 0 1 = cc in omega arith)

prepend_end : (schema : CompiledSchema) (ps : List (Param ResolvedType)) (u : ℕ) (xs : List (Param ResolvedType)) → prepend u xs (resolve_params schema ps []) ≡ done u xs
unfolding prepend after
prepend_end schema ps u xs = ap (prepend u xs) (resolve_none schema ps) ∙ ap₂ (λ (n : ℕ) (l : List (Param ResolvedType)). done n l) (add-zero u) (append-nil xs)

module _ {l : Layout} {params : List ℕ} {at : ℕ} (h : ParamsHere l params at) (from : ℕ) (old : List ℕ) where
  -- i of them are made: their visits, whether one is poisoned, and their words from `from` on; what is left decides
  pub record Left (i next place visits : ℕ) (poisoned : Bool) (new : List ℕ) : Type 0 where
    pub made : List (Param ResolvedType)
    pub left : List (Param TypeExpr)
    pub row : Row (ParamStands l) left next h.behind
    pub count : i + length left ≡ length h.tree
    pub counted : length made ≡ i
    pub so : resolve_params h.schema h.seen h.tree ≡ prepend visits made (resolve_params h.schema h.seen left)
    pub few : visits ≤ 1024 * i
    pub small : length (each param_words made) ≤ 65 * i
    pub poison : poisoned ≡ poisoned_params made
    pub writes : Writes (each param_words made) from place old new

  pub start : Left 0 (at + 1) from 0 false old
  unfolding each poisoned_params
  start = record {
    made = [];
    left = h.tree;
    row = h.stands.2;
    count = omega arith;
    counted = refl;
    so = sym (prepend_none _);
    few = omega arith;
    small = omega arith;
    poison = refl;
    writes = writes_none;
  }

  here_o : {next : ℕ} (left : List (Param TypeExpr)) → Row (ParamStands l) left next h.behind → 0 < length left → ParamHere l params next
  here_o [] r b = absurd (omega arith)
  here_o (q ∷ qs) r b = record { schema = h.schema; opened = h.opened; seen = h.seen; views = h.views; tree = q; behind = r.0; stands = r.1 }

  module _ {i next place visits : ℕ} {poisoned : Bool} {new : List ℕ} (v : Left i next place visits poisoned new) where
    module _ (b : i < length h.tree) where
      -- the next one stands there
      pub turn_here : ParamHere l params next
      turn_here = here_o v.left v.row (omega (arith, v.count))

      -- what is said of it
      abbrev Said : List ℕ → Option Part → Type 0
      Said newer r = (k : ParamHere l params next) → PartSays param_words poisoned_param (resolve_param k.schema k.seen k.tree) k.behind place new newer r

      stop_o : (left : List (Param TypeExpr)) → Row (ParamStands l) left next h.behind → 0 < length left → {newer : List ℕ} → Said newer None → resolve_params h.schema h.seen left ≡ too_large
      stop_o [] w b p = absurd (omega arith)
      stop_o (q ∷ qs) w b p = params_large h.schema h.seen q qs
          (part_large (p (record { schema = h.schema; opened = h.opened; seen = h.seen; views = h.views; tree = q; behind = w.0; stands = w.1 })))

      pub turn_stops : {newer : List ℕ} → Said newer None → {to : ℕ} {first : List ℕ}
          → PartSays (listed param_words) poisoned_params (resolve_params h.schema h.seen h.tree) h.behind to first newer None
      turn_stops p = says_large (v.so ∙ prepend_large visits v.made _ (stop_o v.left v.row (omega (arith, v.count)) p))

      more_o' : (left : List (Param TypeExpr)) → Row (ParamStands l) left next h.behind → i + length left ≡ length h.tree
          → resolve_params h.schema h.seen h.tree ≡ prepend visits v.made (resolve_params h.schema h.seen left)
          → {newer : List ℕ} {r : Part} → Said newer (Some r) → Left (i + 1) r.next r.to (visits + r.visits) (poisoned || r.poisoned) newer
      more_o' [] w c s p = absurd (omega arith)
      more_o' (q ∷ qs) w c s {newer} {r} p =
          let m = made (p (record { schema = h.schema; opened = h.opened; seen = h.seen; views = h.views; tree = q; behind = w.0; stands = w.1 })) in
          let z = (param_small h.schema h.seen q).holds m.v m.a m.is in
          let d : each param_words (v.made ++ (m.a ∷ [])) ≡ each param_words v.made ++ param_words m.a = each_snoc param_words v.made m.a in
          record {
            made = v.made ++ (m.a ∷ []);
            left = qs;
            row = subst (λ (n : ℕ). Row (ParamStands l) qs n h.behind) (sym m.so.next) w.2;
            count = omega (arith, c);
            counted = length-append v.made (m.a ∷ []) ∙ (let k : length v.made + 1 ≡ i + 1 = omega (arith, v.counted) in k);
            so = s ∙ ap (prepend visits v.made) (params_more h.schema h.seen q qs m.is) ∙ prepend_o visits m.v v.made m.a _
                ∙ ap (λ (n : ℕ). prepend (visits + n) (v.made ++ (m.a ∷ [])) (resolve_params h.schema h.seen qs)) (sym m.so.visits);
            few = omega (arith, v.few, z.0, m.so.visits);
            small = omega (arith, v.small, z.1, ap length d, length-append (each param_words v.made) (param_words m.a));
            poison = ap₂ ◌||◌ v.poison m.so.poison ∙ sym (poisoned_snoc v.made m.a);
            writes = writes_same (sym d) (writes_then v.writes m.so.writes);
          }

      pub turn_goes : {newer : List ℕ} {r : Part} → Said newer (Some r) → Left (i + 1) r.next r.to (visits + r.visits) (poisoned || r.poisoned) newer
      turn_goes p = more_o' v.left v.row v.count v.so p

    -- behind their count, written before
    module _ {w to : ℕ} {first : List ℕ} (counts : w ≡ get_or (pool_words l) at 0) (count_written : Writes (w ∷ []) to from first old) where
      abbrev End : Type 0
      End = PartSays (listed param_words) poisoned_params (resolve_params h.schema h.seen h.tree) h.behind to first new
          (Some (record { poisoned = poisoned; next = next; to = place; visits = visits }))

      end_o : (left : List (Param TypeExpr)) → Row (ParamStands l) left next h.behind → length left ≡ 0
          → resolve_params h.schema h.seen h.tree ≡ prepend visits v.made (resolve_params h.schema h.seen left) → w ≡ length v.made → End
      unfolding listed
      end_o (q ∷ qs) r z s c = absurd (omega arith)
      end_o [] r z s c = says_done (s ∙ prepend_end h.schema h.seen visits v.made) (record {
        visits = refl;
        next = r;
        poison = v.poison;
        writes = writes_same (ap (λ (k : ℕ). k ∷ each param_words v.made) c) (writes_then count_written v.writes);
      })

      -- none is left
      pub ended : w ≤ i → End
      ended b = end_o v.left v.row (omega (arith, v.count, counts, h.stands.0.is)) v.so (omega (arith, v.count, v.counted, counts, h.stands.0.is))
