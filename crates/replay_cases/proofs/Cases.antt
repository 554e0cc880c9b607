-- Laws: a stored case as its words tell it (vectors/README.md).
use Prim.Native.Nat.{ℕ, ◌+◌, ◌≤◌, ◌<◌}
use mathlib.Core.Path.{◌≡◌, refl, sym, ap}
use mathlib.Core.Bool.{Bool, true, false, ◌&&◌}
use mathlib.Core.List.{List}
use native.Mathlib.Omega.{arith}
use lib.Dec.{leb}
use borrow.Author.Tests.{le-leb, lt-leb, leb-true}
use lib.ListN.{length}
use Rattle.std.specs.Prelude.{Some, None}
use Rattle.rules.proofs.Clash.{clash}
use Rattle.words.specs.Words.{word_at}
use Rattle.replay_cases.specs.declared.case.Case.{Case}
use Rattle.replay_cases.specs.Cases.{case_end, case_words, is_case, case_when, case_at, ReadsCase, Askable}

-- two tests, both true, or one of them not
both : (a b : Bool) → a && b ≡ true → (a ≡ true) × (b ≡ true)
both true b e = (refl, e)
both false b e = clash (cc)

not_last : (a b : Bool) → a && (b && false) ≡ false
not_last true true = refl
not_last true false = refl
not_last false b = refl

-- as code finds it: three sizes, what is lent, and whether the file ends before or behind
module _ (file : List ℕ) (at : ℕ) where
  fits : case_end file at ≤ length file → word_at file (at + 8) ≤ 65536 → word_at file (at + 12) ≤ 1024 → is_case file at ≡ true
  fits h o d = rw (le-leb _ _ h, le-leb _ _ o, le-leb _ _ d)

  none : is_case file at ≡ false → ReadsCase file at None
  unfolding case_at
  none e = (tt, ap (λ (t : Bool). case_when t (case_words file at)) (sym e))

  pub lends_output : {output : ℕ} → output ≡ word_at file (at + 8) → 65536 < output → ReadsCase file at None
  lends_output e h = none (rw (lt-leb _ _ (rw e at h)) (not_last (leb (case_end file at) (length file)) true))

  pub lends_detail : {detail : ℕ} → detail ≡ word_at file (at + 12) → 1024 < detail → ReadsCase file at None
  lends_detail e h = none (rw (lt-leb _ _ (rw e at h)) (not_last (leb (case_end file at) (length file)) (leb (word_at file (at + 8)) 65536)))

  module _ (a b c : ℕ) (ea : a ≡ word_at file (at + 16)) (eb : b ≡ word_at file (at + 40)) (ec : c ≡ word_at file (at + 44)) where
    abbrev made : ℕ → ℕ → ℕ → ℕ → Case
    made call row output detail = record {
      call = call;
      row = record { 0 = row };
      output = output;
      detail = detail;
      fields = at + 20;
      image = record { start = at + 48; size = a };
      written = record { start = at + 48 + a; size = b };
      told = record { start = at + 48 + a + b; size = c };
      next = at + 48 + a + b + c;
    }

    pub ends_inside : (call row output detail : ℕ) → call ≡ word_at file at → row ≡ word_at file (at + 4) → output ≡ word_at file (at + 8) → detail ≡ word_at file (at + 12)
        → at + 48 + a + b + c ≤ length file → output ≤ 65536 → detail ≤ 1024 → ReadsCase file at (Some (made call row output detail))
    unfolding case_at
    ends_inside call row output detail el er eo ed h o d =
        (h, rw (ea, eb, ec, el, er, eo, ed) (ap (λ (t : Bool). case_when t (case_words file at)) (sym (fits (rw (ea, eb, ec) at h) (rw eo at o) (rw ed at d)))))

    pub ends_behind : length file < at + 48 + a + b + c → ReadsCase file at None
    ends_behind h = none (rw (lt-leb _ _ (rw (ea, eb, ec) at h)))

-- a case that was read can be asked
pub read_askable : (file : List ℕ) (at : ℕ) (c : Case) → Some c ≡ case_at file at → Askable file c
unfolding case_at
read_askable file at c = go (is_case file at) refl where
  go : (t : Bool) → is_case file at ≡ t → Some c ≡ case_when t (case_words file at) → Askable file c
  go true q e =
      let is : c ≡ case_words file at = cc in
      let l = both (leb (case_end file at) (length file)) (leb (word_at file (at + 8)) 65536 && leb (word_at file (at + 12)) 1024) q in
      let m = both (leb (word_at file (at + 8)) 65536) (leb (word_at file (at + 12)) 1024) l.1 in
      (omega (arith, leb-true (case_end file at) (length file) l.0, ap (λ (k : Case). k.fields) is), rw is (leb-true _ _ m.0), rw is (leb-true _ _ m.1))
  go false q e = absurd (cc)
