-- A stored case as its words tell it (vectors/README.md).
use Rattle.std.specs.Prelude.{ℕ, ◌+◌, ◌≤◌, ◌≡◌, Bool, true, false, ◌&&◌, Option, Some, None, IfSome, List, leb, length}
use Rattle.words.specs.Words.{word_at}
use Rattle.replay_cases.specs.declared.case.Case.{Case}

-- behind the twelve words stand three parts, one behind the other
abbrev pub case_end : List ℕ → ℕ → ℕ
case_end file at = at + 48 + word_at file (at + 16) + word_at file (at + 40) + word_at file (at + 44)

-- each field by its place
abbrev pub case_words : List ℕ → ℕ → Case
case_words file at = record {
  call = word_at file at;
  row = record { 0 = word_at file (at + 4) };
  output = word_at file (at + 8);
  detail = word_at file (at + 12);
  fields = at + 20;
  image = record { start = at + 48; size = word_at file (at + 16) };
  written = record { start = at + 48 + word_at file (at + 16); size = word_at file (at + 40) };
  told = record { start = at + 48 + word_at file (at + 16) + word_at file (at + 40); size = word_at file (at + 44) };
  next = case_end file at;
}

-- whether it ends inside the file, and lends no more than a replay has room for
abbrev pub is_case : List ℕ → ℕ → Bool
is_case file at = leb (case_end file at) (length file) && (leb (word_at file (at + 8)) 65536 && leb (word_at file (at + 12)) 1024)

abbrev pub case_when : Bool → Case → Option Case
case_when true c = Some c
case_when false c = None

-- the case at a place of a file
unfoldable pub case_at : List ℕ → ℕ → Option Case
case_at file at = case_when (is_case file at) (case_words file at)

-- the case that was read; the next one's place lies in the file
abbrev pub ReadsCase : List ℕ → ℕ → Option Case → Type 0
ReadsCase file at r = IfSome r (λ c. c.next ≤ length file) × (r ≡ case_at file at)

-- a case that can be asked: its words lie in the file, and it lends no more than a replay has room for
abbrev pub Askable : List ℕ → Case → Type 0
Askable file c = (c.fields ≤ length file) × (c.output ≤ 65536) × (c.detail ≤ 1024)
