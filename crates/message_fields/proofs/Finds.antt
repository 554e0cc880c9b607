-- What a search along the fields finds: of equal names the last.
use Prim.Native.Nat.{ℕ, ◌+◌, ◌<◌, ◌≤◌}
use native.Mathlib.Omega.{arith}
use mathlib.Core.Path.{◌≡◌, refl, sym, ap, subst, ◌∙◌}
use mathlib.Core.Bool.{Bool, true, false, cond}
use mathlib.Core.List.{List, [], ◌∷◌}
use mathlib.Core.Option.{Option, none, some}
use lib.ListN.{length, get_or}
use lib.Dec.{eqb}
use Rattle.rules.specs.Syntax.{ResolvedType, run, Param}
use Rattle.rules.specs.Options.{or_else}
use Rattle.rules.specs.Infer.{find_last}
use Rattle.rules.specs.Good.{Stored}
use Rattle.type_words.specs.declared.HeldType.{HeldType}
use Rattle.type_words.specs.declared.MaybeType.{MaybeType}
use Rattle.type_words.specs.Holds.{Holds, MaybeHolds}
use Rattle.image_words.specs.Gives.{Row}
use Rattle.image_words.specs.Stands.{Stands}
use Rattle.pool_types.specs.TypeAt.{TypeAt, TypeStands}
use Rattle.pool_types.specs.ParamAt.{ParamAt}
use Rattle.message_fields.specs.Fields.{Fields, Place}

or_none : {A : Type 0} (o : Option A) → or_else o none ≡ o
unfolding or_else
or_none none = refl
or_none (some a) = refl

or_assoc : {A : Type 0} (o p q : Option A) → or_else (or_else o p) q ≡ or_else o (or_else p q)
unfolding or_else
or_assoc none p q = refl
or_assoc (some a) p q = refl

-- over the number of name rows, the words and the name
module _ (rows : ℕ) (ws : List ℕ) (x : ℕ) where
  -- after i of the fields: the others stand from `next` on, and `best` is where the type of the last so far stands
  pub record Left (ps : List (Param ResolvedType)) (n count i next best : ℕ) : Type 0 where
    pub rest : List (Param ResolvedType)
    pub many : i + length rest ≡ count
    pub row : Row (ParamAt rows ws (TypeStands rows ws)) rest next n
    pub so_far : Option ResolvedType
    pub place : Place rows ws best so_far
    pub all : or_else (find_last x rest) so_far ≡ find_last x ps

  pub started : (ps : List (Param ResolvedType)) (at n : ℕ) → Fields rows ws ps at n → (count next : ℕ) → count ≡ get_or ws at 0 → (at < length ws → next ≡ at + 1) → Left ps n count 0 next 0
  started ps at n f count next e a = record {
    rest = ps;
    many = let q : get_or ws at 0 ≡ length ps = f.0.is in omega arith;
    row = subst (λ (k : ℕ). Row (ParamAt rows ws (TypeStands rows ws)) ps k n) (sym (a f.0.inside)) f.2;
    so_far = none;
    place = refl;
    all = or_none (find_last x ps);
  }

  -- the place after one field more
  picked : (b : Bool) (place best : ℕ) (t : ResolvedType) (so_far : Option ResolvedType) → (place ≡ 0 → ⊥) → (m : ℕ) → Stands ws (run t) place m → Stored rows t → Place rows ws best so_far
      → Place rows ws (cond b place best) (or_else (cond b (some t) none) so_far)
  unfolding or_else
  picked true place best t so_far z m s g p = (z, m, s, g)
  picked false place best t so_far z m s g p = p

  pub turned : {ps : List (Param ResolvedType)} {n count i next best : ℕ} → Left ps n count i next best → i < count → (place name : ℕ) → (next < length ws → place ≡ next + 1) → name ≡ get_or ws next 0
      → (behind : ℕ) → ((t : ResolvedType) (m : ℕ) → TypeAt rows ws t place m → behind ≡ m) → {new : ℕ} → new ≡ cond (eqb x name) place best → Left ps n count (i + 1) behind new
  unfolding find_last
  turned {ps} {n} {count} {i} {next} {best} w l place name a e behind h {new} o = subst (Left ps n count (i + 1) behind) (sym o) (go w.rest w.many w.row w.all)
    where
      go : (rest : List (Param ResolvedType)) → i + length rest ≡ count → Row (ParamAt rows ws (TypeStands rows ws)) rest next n → or_else (find_last x rest) w.so_far ≡ find_last x ps
          → Left ps n count (i + 1) behind (cond (eqb x name) place best)
      go [] m r q = absurd (omega arith)
      go (p ∷ rest) m r q =
          let k : place ≡ next + 1 = a r.1.name_at.inside in
          let s : Stands ws (run p.ty) place r.0 = subst (λ (j : ℕ). Stands ws (run p.ty) j r.0) (sym k) r.1.type_at.words_at in
          let g = r.1.type_at.good in
          let b : behind ≡ r.0 = h p.ty r.0 (subst (λ (j : ℕ). TypeAt rows ws p.ty j r.0) (sym k) r.1.type_at.parts) in
          let y : name ≡ p.name = e ∙ r.1.name_at.is in
          record {
            rest = rest;
            many = omega arith;
            row = subst (λ (j : ℕ). Row (ParamAt rows ws (TypeStands rows ws)) rest j n) (sym b) r.2;
            so_far = or_else (cond (eqb x name) (some p.ty) none) w.so_far;
            place = picked (eqb x name) place best p.ty w.so_far (λ z. omega arith) r.0 s g w.place;
            all = ap (λ (j : ℕ). or_else (find_last x rest) (or_else (cond (eqb x j) (some p.ty) none) w.so_far)) y ∙ sym (or_assoc (find_last x rest) (cond (eqb x p.name) (some p.ty) none) w.so_far) ∙ q;
          }

  pub done : {ps : List (Param ResolvedType)} {n count i next best : ℕ} → Left ps n count i next best → count ≤ i → Place rows ws best (find_last x ps)
  unfolding find_last or_else
  done {ps} {n} {count} {i} {next} {best} w l = go w.rest w.many w.all
    where
      go : (rest : List (Param ResolvedType)) → i + length rest ≡ count → or_else (find_last x rest) w.so_far ≡ find_last x ps → Place rows ws best (find_last x ps)
      go [] m q = subst (Place rows ws best) q w.place
      go (p ∷ rest) m q = absurd (omega arith)

-- the type that stands there, held or none
pub held_place : (rows : ℕ) (ws : List ℕ) (r : ℕ) (o : Option ResolvedType) → Place rows ws r o → (r ≡ 0 → ⊥) → (m : MaybeType) (h : HeldType) → (m.some ≡ true) × (m.ty ≡ h)
    → ((t : ResolvedType) (n : ℕ) → Stands ws (run t) r n → Stored rows t → Holds rows h t) → MaybeHolds rows m o
held_place rows ws r none p z m h s f = absurd (z p)
held_place rows ws r (some t) p z m h s f = (s.0, rw s.1 (f t p.1 p.2 p.3))

pub held_nowhere : (rows : ℕ) (ws : List ℕ) (r : ℕ) (o : Option ResolvedType) → Place rows ws r o → r ≡ 0 → (m : MaybeType) → m.some ≡ false → MaybeHolds rows m o
held_nowhere rows ws r none p z m s = s
held_nowhere rows ws r (some t) p z m s = absurd (p.0 z)
