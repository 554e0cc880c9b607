-- A trait's functions, projected one by one. Assumes nothing.
use Prim.Native.Nat.{ℕ, zero, suc, ◌+◌, ◌<◌, ◌≤◌}
use mathlib.Core.Path.{◌≡◌, refl, sym, ap, subst, ◌∙◌}
use mathlib.Core.Bool.{true, false}
use mathlib.Core.List.{List, [], ◌∷◌, ◌++◌, map}
use native.Mathlib.Omega.{arith}
use native.Mathlib.Numerals.{add-one}
use lib.ListN.{length, get_or, take, drop, length-append}
use Rattle.rules.specs.Syntax.{MessageDef, TraitFnDef, ImplDef}
use Rattle.rules.specs.Refusal.{ok}
use Rattle.rules.specs.Signatures.{PortableSignature, expected_list}
use Rattle.rules.specs.Bodies.{PortableFunction}
use Rattle.rules.specs.Project.{project_list}
use Rattle.rules.specs.Output.{each, function_words}
use Rattle.image_words.specs.Gives.{Row}
use Rattle.image_layout.specs.declared.Layout.{Layout}
use Rattle.image_layout.specs.Open.{pool_words}
use Rattle.answers.specs.declared.answer.Outcome.{Outcome}
use Rattle.write_words.specs.Written.{Written}
use Rattle.write_words.proofs.Written.{written_none, written_then}
use Rattle.project_outcome.specs.Outcomes.{ComesTo}
use Rattle.expected_signature.proofs.ParamLoop.{each_snoc}
use Rattle.project_outcome.proofs.Coming.{comes_err, comes_ok, came_err, came_ok}
use Rattle.impl_functions.specs.Functions.{AskedHere}
use Rattle.project_functions.specs.declared.parts.Parts.{Parts}
use Rattle.project_functions.specs.Steps.{one_words, list_words}
use Rattle.project_functions.specs.Asked.{InOrder, Stand, One, All}
use Rattle.project_functions.proofs.Resolved.{First, first, none_left}
use Rattle.project_functions.proofs.StepLaws.{prepend, prepend_none, prepend_err, prepend_more, list_refused, list_more, list_done, list_stopped}

-- the functions from the i-th on: the first one's name is the i-th of the names, and the others come from the next on
name_of_next : (fs : List TraitFnDef) (names : List ℕ) (i : ℕ) → InOrder names fs → {f : TraitFnDef} {rest : List TraitFnDef} → drop i fs ≡ f ∷ rest → get_or names i 0 ≡ f.name
name_of_next [] names zero q e = absurd (let z : ◌≡◌ {A = ℕ} 0 1 = cc in omega arith)
name_of_next [] names (suc i) q e = absurd (let z : ◌≡◌ {A = ℕ} 0 1 = cc in omega arith)
name_of_next (g ∷ gs) [] i q e = absurd (let z : ◌≡◌ {A = ℕ} 0 1 = cc in omega arith)
name_of_next (g ∷ gs) (x ∷ xs) zero q {f} e = let a : x ≡ g.name = cc in let b : g ≡ f = cc in a ∙ ap (λ (k : TraitFnDef). k.name) b
name_of_next (g ∷ gs) (x ∷ xs) (suc i) q e = let a : take (length gs) xs ≡ map (λ k. k.name) gs = cc in name_of_next gs xs i a e

drop_next : (fs : List TraitFnDef) (i : ℕ) {f : TraitFnDef} {rest : List TraitFnDef} → drop i fs ≡ f ∷ rest → drop (suc i) fs ≡ rest
drop_next [] zero e = absurd (let z : ◌≡◌ {A = ℕ} 0 1 = cc in omega arith)
drop_next [] (suc i) e = absurd (let z : ◌≡◌ {A = ℕ} 0 1 = cc in omega arith)
drop_next (g ∷ gs) zero e = cc
drop_next (g ∷ gs) (suc i) e = drop_next gs i e

module _ {l : Layout} {params : List ℕ} {at : ℕ} (h : All l params at) (names places : List ℕ) (parts : Parts) (limit from : ℕ) (old : List ℕ) where
  abbrev Functions : List TraitFnDef → ℕ → Type 0
  Functions fs next = Row (AskedHere l) fs next h.here.behind

  -- i of them are made, and their words stand from `from` on; the signatures that are left decide
  pub record Made (impl : ImplDef) (message : MessageDef) (left : List PortableSignature) (i place : ℕ) (new : List ℕ) : Type 0 where
    pub functions : List PortableFunction
    pub counted : length functions ≡ i
    pub so : project_list impl message h.signatures ≡ prepend functions (project_list impl message left)
    pub written : Written limit from (each function_words functions) old place new

  pub record Left (i next place : ℕ) (new : List ℕ) : Type 0 where
    pub left : List TraitFnDef
    pub row : Functions left next
    pub many : i + length left ≡ length h.here.tree
    pub from_i : drop i h.here.tree ≡ left
    pub visits : ℕ
    pub signatures : List PortableSignature
    pub is : expected_list h.here.schema h.here.seen left ≡ ok (visits, signatures)
    pub made : InOrder names h.here.tree → (impl : ImplDef) (message : MessageDef) → Stand l places parts impl message → Made impl message signatures i place new

  pub start : Left 0 (at + 1) from old
  unfolding each
  start = record {
    left = h.here.tree;
    row = h.here.stands.2;
    many = omega arith;
    from_i = refl;
    visits = h.visits;
    signatures = h.signatures;
    is = h.is;
    made = λ named impl message s. record { functions = []; counted = refl; so = sym (prepend_none _); written = written_none limit from old };
  }

  module _ {i next place : ℕ} {new : List ℕ} (v : Left i next place new) where
    module _ (b : i < length h.here.tree) where
      -- the next one, its signature and the others
      turn : {P : Type 0} → ((f : TraitFnDef) (fs : List TraitFnDef) → Functions (f ∷ fs) next → i + 1 + length fs ≡ length h.here.tree → drop i h.here.tree ≡ f ∷ fs → First h.here.schema h.here.seen f fs v.signatures → P) → P
      turn {P} k = go v.left v.row v.many v.from_i v.is
        where
          go : (left : List TraitFnDef) → Functions left next → i + length left ≡ length h.here.tree → drop i h.here.tree ≡ left → expected_list h.here.schema h.here.seen left ≡ ok (v.visits, v.signatures) → P
          go [] r m w e = absurd (omega arith)
          go (f ∷ fs) r m w e = k f fs r (omega arith) w (first h.here.schema h.here.seen f fs e)

      abbrev one : (f : TraitFnDef) (fs : List TraitFnDef) → Functions (f ∷ fs) next → First h.here.schema h.here.seen f fs v.signatures → One l params next
      one f fs r d = record {
        here = record { schema = h.here.schema; opened = h.here.opened; seen = h.here.seen; views = h.here.views; tree = f; behind = r.0; stands = r.1 };
        visits = d.visits;
        signature = d.signature;
        is = d.is;
      }

      pub turn_here : One l params next
      turn_here = turn (λ f fs r m b d. one f fs r d)

      module _ {newer : List ℕ} {r : Outcome} {name : ℕ} (is : name ≡ get_or names i 0) (p : (k : One l params next) → name ≡ k.here.tree.name → (impl : ImplDef) (message : MessageDef) → Stand l places parts impl message → ComesTo (one_words impl message k.signature) limit place new newer r) where
        pub turn_refused : r.ok ≡ false → InOrder names h.here.tree → (impl : ImplDef) (message : MessageDef) → Stand l places parts impl message → {to : ℕ} {older : List ℕ} → ComesTo (list_words impl message h.signatures) limit to older newer r
        turn_refused n named impl message s = turn (λ f fs w m b d.
            let q = came_err (p (one f fs w d) (is ∙ name_of_next h.here.tree names i named b) impl message s) n in
            let g = v.made named impl message s in
            comes_err (list_stopped impl message h.signatures g.functions (g.so
            ∙ ap (λ (ss : List PortableSignature). prepend g.functions (project_list impl message ss)) d.so
            ∙ ap (prepend g.functions) (list_refused impl message d.signature d.others q) ∙ prepend_err g.functions _)) n refl)

        pub turn_goes : r.ok ≡ true → {k : ℕ} → ((f : TraitFnDef) (m : ℕ) → AskedHere l f next m → k ≡ m) → Left (i + 1) k r.length newer
        turn_goes y {k} behind = turn (λ f fs w m b d. record {
          left = fs;
          row = subst (λ (n : ℕ). Functions fs n) (sym (behind f w.0 w.1)) w.2;
          many = m;
          from_i = ap (λ (j : ℕ). drop j h.here.tree) (add-one i) ∙ drop_next h.here.tree i b;
          visits = d.others_visits;
          signatures = d.others;
          is = d.others_is;
          made = λ named impl message s.
              let q = came_ok (p (one f fs w d) (is ∙ name_of_next h.here.tree names i named b) impl message s) y in
              let g = v.made named impl message s in
              let e = list_more impl message d.signature d.others q.1 in
              let words : each function_words (g.functions ++ (e.0 ∷ [])) ≡ each function_words g.functions ++ q.0 =
              each_snoc function_words g.functions e.0 ∙ ap (λ (ws : List ℕ). each function_words g.functions ++ ws) (sym e.1) in
              record {
                functions = g.functions ++ (e.0 ∷ []);
                counted = length-append g.functions (e.0 ∷ []) ∙ (let z : length g.functions + 1 ≡ i + 1 = omega (arith, g.counted) in z);
                so = g.so
                    ∙ ap (λ (ss : List PortableSignature). prepend g.functions (project_list impl message ss)) d.so
                    ∙ ap (prepend g.functions) e.2
                    ∙ prepend_more g.functions e.0 (project_list impl message d.others);
                written = subst (λ (ws : List ℕ). Written limit from ws old r.length newer) (sym words) (written_then limit from g.written q.2);
              };
        })

    -- none is left, and their count stands before them
    pub ended : {w to : ℕ} {older : List ℕ} → w ≡ get_or (pool_words l) at 0 → Written limit to (w ∷ []) older from old → w ≤ i → {o : Outcome} → o.ok ≡ true → o.length ≡ place
        → InOrder names h.here.tree → (impl : ImplDef) (message : MessageDef) → Stand l places parts impl message → ComesTo (list_words impl message h.signatures) limit to older new o
    ended {w} {to} {older} e c b {o} y z named impl message s =
        let g = v.made named impl message s in
        let many : i ≡ w = omega (arith, v.many, h.here.stands.0.is, e) in
        comes_ok (list_done impl message h.signatures g.functions (g.so ∙ ap (λ (ss : List PortableSignature). prepend g.functions (project_list impl message ss)) none_there)) y
        (subst (λ (k : ℕ). Written limit to (length g.functions ∷ each function_words g.functions) older k new) (sym z)
        (subst (λ (k : ℕ). Written limit to (k ∷ each function_words g.functions) older place new) (sym (g.counted ∙ many)) (written_then limit to c g.written)))
      where
        go : (left : List TraitFnDef) → i + length left ≡ length h.here.tree → expected_list h.here.schema h.here.seen left ≡ ok (v.visits, v.signatures) → v.signatures ≡ []
        go [] m q = none_left h.here.schema h.here.seen q
        go (f ∷ fs) m q = absurd (omega (arith, h.here.stands.0.is, e))

        none_there : v.signatures ≡ []
        none_there = go v.left v.many v.is
