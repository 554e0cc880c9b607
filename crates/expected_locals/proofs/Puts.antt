-- The rows' words, written one after the other. Assumes nothing.
use Prim.Native.Nat.{ℕ, ◌+◌, ◌<◌, ◌≤◌}
use native.Mathlib.Omega.{arith}
use mathlib.Core.Path.{◌≡◌, refl, sym, subst, ◌∙◌}
use mathlib.Core.List.{List, [], ◌∷◌, ◌++◌, append-nil, append_assoc}
use lib.ListN.{length}
use Rattle.rules.specs.Syntax.{ResolvedType, Param}
use Rattle.rules.specs.Output.{each, listed, param_words}
use Rattle.locals.specs.Rows.{Row, Rows}
use Rattle.write_words.specs.Written.{Written}
use Rattle.write_words.proofs.Written.{written_none, written_then}
use Rattle.expected_signature.proofs.ParamLoop.{each_snoc}

module _ (rows : ℕ) (names words lens : List ℕ) (count : ℕ) where
  pub counted : (i : ℕ) (ps : List (Param ResolvedType)) → Rows rows names words lens count i ps → i + length ps ≡ count
  counted i [] w = omega arith
  counted i (p ∷ ps) w = let e = counted (i + 1) ps w.1 in omega arith

  pub few : (i : ℕ) (ps : List (Param ResolvedType)) → Rows rows names words lens count i ps → i ≤ 64 → count ≤ 64
  few i [] w l = omega arith
  few i (p ∷ ps) w l = few (i + 1) ps w.1 (omega (arith, w.0.few))

  -- the rows before i are written
  pub record Left (ps : List (Param ResolvedType)) (i limit from : ℕ) (old : List ℕ) (next : ℕ) (new : List ℕ) : Type 0 where
    pub done : List (Param ResolvedType)
    pub left : List (Param ResolvedType)
    pub split : ps ≡ done ++ left
    pub rest : Rows rows names words lens count i left
    pub written : Written limit from (each param_words done) old next new

  pub start : (ps : List (Param ResolvedType)) → Rows rows names words lens count 0 ps → (limit from : ℕ) (old : List ℕ) → Left ps 0 limit from old from old
  unfolding each
  start ps w limit from old = record { done = []; left = ps; split = refl; rest = w; written = written_none limit from old }

  module _ (ps : List (Param ResolvedType)) (i limit from : ℕ) (old : List ℕ) (next : ℕ) (new : List ℕ) where
    more_o : (done left : List (Param ResolvedType)) → ps ≡ done ++ left → Rows rows names words lens count i left → Written limit from (each param_words done) old next new → i < count
        → {r : ℕ} {newer : List ℕ} → ((p : Param ResolvedType) → Row rows names words lens i p → Written limit next (param_words p) new r newer) → Left ps (i + 1) limit from old r newer
    more_o done [] s w v l f = absurd (omega arith)
    more_o done (p ∷ qs) s w v l {r} {newer} f = record {
      done = done ++ (p ∷ []);
      left = qs;
      split = s ∙ sym (append_assoc done (p ∷ []) qs);
      rest = w.1;
      written = subst (λ (ws : List ℕ). Written limit from ws old r newer) (sym (each_snoc param_words done p)) (written_then limit from v (f p w.0));
    }

    pub more : Left ps i limit from old next new → i < count
        → {r : ℕ} {newer : List ℕ} → ((p : Param ResolvedType) → Row rows names words lens i p → Written limit next (param_words p) new r newer) → Left ps (i + 1) limit from old r newer
    more v l f = more_o v.done v.left v.split v.rest v.written l f

    end_o : (done left : List (Param ResolvedType)) → ps ≡ done ++ left → Rows rows names words lens count i left → Written limit from (each param_words done) old next new → count ≤ i
        → Written limit from (each param_words ps) old next new
    end_o done [] s w v l = subst (λ (qs : List (Param ResolvedType)). Written limit from (each param_words qs) old next new) (sym (s ∙ append-nil done)) v
    end_o done (p ∷ qs) s w v l = absurd (let e = counted (i + 1) qs w.1 in omega arith)

    pub ended : Left ps i limit from old next new → count ≤ i → {to : ℕ} {first : List ℕ} → Rows rows names words lens count 0 ps → Written limit to (count ∷ []) first from old → Written limit to (listed param_words ps) first next new
    unfolding listed
    ended v l {to} {first} w c =
        let e : count ≡ length ps = omega (arith, counted 0 ps w) in
        subst (λ (k : ℕ). Written limit to (k ∷ each param_words ps) first next new) e (written_then limit to c (end_o v.done v.left v.split v.rest v.written l))
