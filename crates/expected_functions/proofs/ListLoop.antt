-- A trait's functions, one by one. Assumes nothing.
use Prim.Native.Nat.{ℕ, ◌+◌, ◌*◌, ◌<◌, ◌≤◌}
use mathlib.Core.Path.{◌≡◌, refl, sym, ap, subst, ◌∙◌}
use mathlib.Core.Bool.{true, false}
use mathlib.Core.List.{List, [], ◌∷◌, ◌++◌}
use native.Mathlib.Omega.{arith}
use lib.ListN.{length, get_or, length-append}
use Rattle.std.specs.Prelude.{Option, Some, None}
use Rattle.rules.specs.Syntax.{TraitFnDef}
use Rattle.rules.specs.Refusal.{Result, err, ◌>>=◌, in_function}
use Rattle.rules.specs.Signatures.{PortableSignature, resolve_signature, expected_list}
use Rattle.rules.specs.Output.{each, listed, signatures_words}
use Rattle.image_words.specs.Gives.{Row}
use Rattle.image_layout.specs.declared.Layout.{Layout}
use Rattle.image_layout.specs.Open.{pool_words}
use Rattle.pool_traits.specs.TraitAt.{TraitFunctionStands}
use Rattle.answers.specs.declared.answer.Outcome.{Outcome}
use Rattle.answers.specs.Refusals.{refusal_of}
use Rattle.answers.specs.Writes.{Writes}
use Rattle.answers.proofs.Writes.{writes_none, writes_then, writes_same}
use Rattle.answers.specs.Answers.{Comes}
use Rattle.answers.proofs.Calls.{comes_err, comes_ok}
use Rattle.expected_signature.specs.declared.part.Part.{Part}
use Rattle.expected_signature.specs.Here.{FunctionHere}
use Rattle.expected_signature.specs.Parts.{PartSays, words_of, poisoned_signature}
use Rattle.expected_signature.proofs.Says.{part_large, made}
use Rattle.expected_signature.proofs.Sizes.{signature_small}
use Rattle.expected_signature.proofs.ParamLoop.{each_snoc}
use Rattle.expected_functions.specs.Asked.{FunctionsHere, in_words}
use Rattle.expected_functions.proofs.Lists.{prepend, prepend_none, prepend_err, prepend_end, list_large, list_poisoned, list_more}

module _ {l : Layout} {params : List ℕ} {at : ℕ} (h : FunctionsHere l params at) (from : ℕ) (old : List ℕ) where
  abbrev Functions : List TraitFnDef → ℕ → Type 0
  Functions fs next = Row (TraitFunctionStands l.names.rows (pool_words l)) fs next h.behind

  abbrev all_of : List TraitFnDef → Result (ℕ × List PortableSignature)
  all_of fs = expected_list h.schema h.seen fs

  -- i of them are made: their visits, and their words from `from` on; what is left decides
  pub record Left (i next place visits : ℕ) (new : List ℕ) : Type 0 where
    pub made : List PortableSignature
    pub left : List TraitFnDef
    pub row : Functions left next
    pub count : i + length left ≡ length h.tree
    pub counted : length made ≡ i
    pub so : all_of h.tree ≡ prepend visits made (all_of left)
    pub few : visits ≤ 33792 * i
    pub small : length (each words_of made) ≤ 2148 * i
    pub writes : Writes (each words_of made) from place old new

  pub start : Left 0 (at + 1) from 0 old
  unfolding each
  start = record {
    made = [];
    left = h.tree;
    row = h.stands.2;
    count = omega arith;
    counted = refl;
    so = sym (prepend_none _);
    few = omega arith;
    small = omega arith;
    writes = writes_none;
  }

  -- the first of some functions
  abbrev first : {next : ℕ} (f : TraitFnDef) (fs : List TraitFnDef) → Functions (f ∷ fs) next → FunctionHere l params next
  first f fs r = record { schema = h.schema; opened = h.opened; seen = h.seen; views = h.views; tree = f; behind = r.0; stands = r.1 }

  here_o : {next : ℕ} (left : List TraitFnDef) → Functions left next → 0 < length left → FunctionHere l params next
  here_o [] r b = absurd (omega arith)
  here_o (f ∷ fs) r b = first f fs r

  module _ {i next place visits : ℕ} {new : List ℕ} (v : Left i next place visits new) where
    module _ (b : i < length h.tree) where
      -- the next one stands there
      pub turn_here : FunctionHere l params next
      turn_here = here_o v.left v.row (omega (arith, v.count))

      -- what is said of it
      abbrev Said : List ℕ → Option Part → Type 0
      Said newer r = (k : FunctionHere l params next) → PartSays words_of poisoned_signature (resolve_signature k.schema k.seen k.tree) k.behind place new newer r

      -- its name, and 8 or 7 of it
      abbrev Refused : ℕ → List TraitFnDef → Type 0
      Refused n left = all_of left ≡ err (in_function n (get_or (pool_words l) next 0))

      refused_o : {newer : List ℕ} {n : ℕ} → Refused n v.left → {x : ℕ} → x ≡ get_or (pool_words l) next 0 → {first_out : List ℕ} {o : Outcome} → o.ok ≡ false → refusal_of o.refusal ≡ in_function n x
          → Comes (in_words (all_of h.tree)) first_out newer o
      unfolding ◌>>=◌
      refused_o {n = n} e q d f = comes_err (ap in_words (v.so ∙ ap (prepend visits v.made) e ∙ prepend_err visits v.made)) d (f ∙ ap (in_function n) q)

      module _ {newer : List ℕ} (p : Said newer None) where
        large_o : (left : List TraitFnDef) → Functions left next → 0 < length left → Refused 8 left
        large_o [] w c = absurd (omega arith)
        large_o (f ∷ fs) w c = list_large h.schema h.seen f fs (part_large (p (first f fs w))) ∙ ap (λ (k : ℕ). err (in_function 8 k)) (sym w.1.parts.name_at.is)

        pub turn_large : {x : ℕ} → x ≡ get_or (pool_words l) next 0 → {first_out : List ℕ} {o : Outcome} → o.ok ≡ false → refusal_of o.refusal ≡ in_function 8 x
            → Comes (in_words (all_of h.tree)) first_out newer o
        turn_large = refused_o (large_o v.left v.row (omega (arith, v.count)))

      module _ {newer : List ℕ} {r : Part} (p : Said newer (Some r)) where
        poisoned_o : (left : List TraitFnDef) → Functions left next → 0 < length left → r.poisoned ≡ true → Refused 7 left
        poisoned_o [] w c q = absurd (omega arith)
        poisoned_o (f ∷ fs) w c q =
            let m = made (p (first f fs w)) in
            list_poisoned h.schema h.seen f fs m.is (sym m.so.poison ∙ q) ∙ ap (λ (k : ℕ). err (in_function 7 k)) (sym w.1.parts.name_at.is)

        pub turn_poisoned : r.poisoned ≡ true → {x : ℕ} → x ≡ get_or (pool_words l) next 0 → {first_out : List ℕ} {o : Outcome} → o.ok ≡ false
            → refusal_of o.refusal ≡ in_function 7 x → Comes (in_words (all_of h.tree)) first_out newer o
        turn_poisoned q = refused_o (poisoned_o v.left v.row (omega (arith, v.count)) q)

        more_o : (left : List TraitFnDef) → Functions left next → i + length left ≡ length h.tree → all_of h.tree ≡ prepend visits v.made (all_of left)
            → r.poisoned ≡ false → Left (i + 1) r.next r.to (visits + r.visits) newer
        more_o [] w c s q = absurd (omega arith)
        more_o (f ∷ fs) w c s q =
            let m = made (p (first f fs w)) in
            let z = (signature_small h.schema h.seen l.names.rows f w.1.good).holds m.v m.a m.is in
            let d : each words_of (v.made ++ (m.a ∷ [])) ≡ each words_of v.made ++ words_of m.a = each_snoc words_of v.made m.a in
            record {
              made = v.made ++ (m.a ∷ []);
              left = fs;
              row = subst (λ (n : ℕ). Functions fs n) (sym m.so.next) w.2;
              count = omega (arith, c);
              counted = length-append v.made (m.a ∷ []) ∙ (let k : length v.made + 1 ≡ i + 1 = omega (arith, v.counted) in k);
              so = s ∙ list_more h.schema h.seen f fs m.is (sym m.so.poison ∙ q) visits v.made
                  ∙ ap (λ (n : ℕ). prepend (visits + n) (v.made ++ (m.a ∷ [])) (all_of fs)) (sym m.so.visits);
              few = omega (arith, v.few, z.0, m.so.visits);
              small = omega (arith, v.small, z.1, ap length d, length-append (each words_of v.made) (words_of m.a));
              writes = writes_same (sym d) (writes_then v.writes m.so.writes);
            }

        pub turn_goes : r.poisoned ≡ false → Left (i + 1) r.next r.to (visits + r.visits) newer
        turn_goes q = more_o v.left v.row v.count v.so q

    -- behind their count, written before
    module _ {w : ℕ} {first_out : List ℕ} (counts : w ≡ get_or (pool_words l) at 0) (count_written : Writes (w ∷ []) 0 from first_out old) where
      end_o : (left : List TraitFnDef) → length left ≡ 0 → all_of h.tree ≡ prepend visits v.made (all_of left) → w ≡ length v.made
          → {o : Outcome} → o.ok ≡ true → o.length ≡ place → o.visits ≡ visits → Comes (in_words (all_of h.tree)) first_out new o
      unfolding ◌>>=◌ signatures_words listed
      end_o (f ∷ fs) z s c y e q = absurd (omega arith)
      end_o [] z s c y e q =
          comes_ok (ap in_words (s ∙ prepend_end h.schema h.seen visits v.made)) y q
          (subst (λ (k : ℕ). Writes (length v.made ∷ each words_of v.made) 0 k first_out new) (sym e) (writes_same (ap (λ (k : ℕ). k ∷ each words_of v.made) c) (writes_then count_written v.writes)))

      -- none is left
      pub ended : w ≤ i → {o : Outcome} → o.ok ≡ true → o.length ≡ place → o.visits ≡ visits → Comes (in_words (all_of h.tree)) first_out new o
      ended b = end_o v.left (omega (arith, v.count, counts, h.stands.0.is)) v.so (omega (arith, v.count, v.counted, counts, h.stands.0.is))
