-- Parameters against the rows of the table, one by one.
use Prim.Native.Nat.{ℕ, ◌+◌, ◌<◌, ◌≤◌}
use mathlib.Core.Path.{◌≡◌, refl, sym, subst, ◌∙◌}
use mathlib.Core.Bool.{true, false}
use mathlib.Core.List.{List, [], ◌∷◌}
use native.Mathlib.Omega.{arith}
use lib.ListN.{length, get_or}
use Rattle.rules.specs.Syntax.{ResolvedType, run, Param}
use Rattle.rules.specs.Refusal.{Result, ◌>>=◌}
use Rattle.rules.specs.CheckSignature.{check_params}
use Rattle.type_words.specs.declared.HeldType.{HeldType}
use Rattle.type_words.specs.Holds.{Holds}
use Rattle.answers.specs.declared.answer.Outcome.{Outcome}
use Rattle.project_outcome.specs.Outcomes.{Passes}
use Rattle.image_words.specs.Gives.{Row}
use Rattle.image_words.specs.Stands.{Stands}
use Rattle.pool_types.specs.TypeAt.{TypeStands}
use Rattle.pool_types.specs.ParamAt.{ParamAt}
use Rattle.type_from_pool.specs.declared.Held.{Held}
use Rattle.type_from_pool.specs.Held.{Types}
use Rattle.locals.specs.Rows as table
use Rattle.locals.specs.Rows.{Rows}
use Rattle.project_outcome.proofs.Passing.{nothing, stopped, passed_then, both_then}
use Rattle.check_types.specs.Params.{check_param}

-- the first of some, and then the others
pub first_then : (f : ℕ) (a e : Param ResolvedType) (ps es : List (Param ResolvedType)) → check_params f (a ∷ ps) (e ∷ es) ≡ (check_param f a e >>= λ _. check_params f ps es)
unfolding check_params check_param
first_then f a e ps es = both_then _ _ (check_params f ps es)

-- over the number of name rows and the table
module _ (rows : ℕ) (names words lens : List ℕ) (count : ℕ) where
  -- the rows are as many as the count says
  pub rows_count : (i : ℕ) (es : List (Param ResolvedType)) → Rows rows names words lens count i es → i + length es ≡ count
  rows_count i [] w = omega arith
  rows_count i (e ∷ es) w = let n : i + 1 + length es ≡ count = rows_count (i + 1) es w.1 in omega arith

  -- and at most 64
  pub rows_few : (i : ℕ) (es : List (Param ResolvedType)) → Rows rows names words lens count i es → i ≤ 64 → count ≤ 64
  rows_few i [] w l = omega arith
  rows_few i (e ∷ es) w l = rows_few (i + 1) es w.1 (omega (arith, w.0.few))

  -- over the pool's words and the function's name
  module _ (ws : List ℕ) (f : ℕ) where
    abbrev Q : Param ResolvedType → ℕ → ℕ → Type 0
    Q = ParamAt rows ws (TypeStands rows ws)

    -- after i of them: those that are left stand from `next` on, and decide
    pub record Left (ps es : List (Param ResolvedType)) (n i next : ℕ) : Type 0 where
      pub actual : List (Param ResolvedType)
      pub expected : List (Param ResolvedType)
      pub many : length actual ≡ length expected
      pub row : Row Q actual next n
      pub rest : Rows rows names words lens count i expected
      pub all : check_params f ps es ≡ check_params f actual expected

    pub started : (ps es : List (Param ResolvedType)) (at n : ℕ) → Row Q ps at n → Rows rows names words lens count 0 es → length ps ≡ length es → Left ps es n 0 at
    started ps es at n r w m = record { actual = ps; expected = es; many = m; row = r; rest = w; all = refl }

    pub done : {ps es : List (Param ResolvedType)} {n i next : ℕ} → Left ps es n i next → count ≤ i → (r : Outcome) → r.ok ≡ true → Passes (check_params f ps es) r
    unfolding check_params
    done {ps} {es} {n} {i} {next} w l r o = subst (λ (t : Result (Unit {0})). Passes t r) (sym w.all) (go w.actual w.expected w.many w.rest)
      where
        go : (as' bs : List (Param ResolvedType)) → length as' ≡ length bs → Rows rows names words lens count i bs → Passes (check_params f as' bs) r
        go [] [] m v = nothing r o
        go [] (b ∷ bs) m v = absurd (omega arith)
        go (a ∷ as') [] m v = absurd (omega arith)
        go (a ∷ as') (b ∷ bs) m v = absurd (omega (arith, rows_count i (b ∷ bs) v))

    -- one turn: what the code reads of the next two
    module _ {ps es : List (Param ResolvedType)} {n i next : ℕ} (w : Left ps es n i next) (l : i < count) (place : ℕ) (after : next < length ws → place ≡ next + 1)
        (h : Held) (types : Types rows ws place h) (found : ℕ) (found_is : found ≡ get_or ws next 0) (wanted : ℕ) (wanted_is : wanted ≡ get_or names i 0)
        (ty : HeldType) (typed : (ns : List ℕ) (p : Param ResolvedType) → table.Row rows ns words lens i p → Holds rows ty p.ty) where
      -- the next two, and the others behind them
      pub record Next : Type 0 where
        pub a : Param ResolvedType
        pub e : Param ResolvedType
        pub a_name : found ≡ a.name
        pub e_name : wanted ≡ e.name
        pub a_type : Holds rows h.ty a.ty
        pub e_type : Holds rows ty e.ty
        pub actual : List (Param ResolvedType)
        pub expected : List (Param ResolvedType)
        pub many : length actual ≡ length expected
        pub row : Row Q actual h.next n
        pub rest : Rows rows names words lens count (i + 1) expected
        pub all : check_params f ps es ≡ (check_param f a e >>= λ _. check_params f actual expected)

      pub next_two : Next
      next_two = go w.actual w.expected w.many w.row w.rest w.all
        where
          go : (as' bs : List (Param ResolvedType)) → length as' ≡ length bs → Row Q as' next n → Rows rows names words lens count i bs → check_params f ps es ≡ check_params f as' bs → Next
          go as' [] m r v q = absurd (omega arith)
          go [] (b ∷ bs) m r v q = absurd (omega arith)
          go (a ∷ as') (b ∷ bs) m r v q =
              let s : Stands ws (run a.ty) place r.0 = subst (λ (j : ℕ). Stands ws (run a.ty) j r.0) (sym (after r.1.name_at.inside)) r.1.type_at.words_at in
              let t = types a.ty r.0 s r.1.type_at.good in
              record {
                a = a;
                e = b;
                a_name = found_is ∙ r.1.name_at.is;
                e_name = wanted_is ∙ v.0.name;
                a_type = t.0;
                e_type = typed names b v.0;
                actual = as';
                expected = bs;
                many = omega arith;
                row = subst (λ (j : ℕ). Row Q as' j n) (sym t.1) r.2;
                rest = v.1;
                all = q ∙ first_then f a b as' bs;
              }

      module _ (r : Outcome) (p : (a e : Param ResolvedType) → found ≡ a.name → wanted ≡ e.name → Holds rows h.ty a.ty → Holds rows ty e.ty → Passes (check_param f a e) r) where
        abbrev said : Passes (check_param f next_two.a next_two.e) r
        said = p next_two.a next_two.e next_two.a_name next_two.e_name next_two.a_type next_two.e_type

        pub refusing : r.ok ≡ false → Passes (check_params f ps es) r
        refusing o = subst (λ (t : Result (Unit {0})). Passes t r) (sym next_two.all) (stopped (check_param f next_two.a next_two.e) (λ _. check_params f next_two.actual next_two.expected) r said o)

        pub turned : r.ok ≡ true → Left ps es n (i + 1) h.next
        turned o = record {
          actual = next_two.actual;
          expected = next_two.expected;
          many = next_two.many;
          row = next_two.row;
          rest = next_two.rest;
          all = next_two.all ∙ passed_then (check_param f next_two.a next_two.e) (λ _. check_params f next_two.actual next_two.expected) r said o;
        }
