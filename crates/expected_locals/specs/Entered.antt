-- What a signature's parameters and its return come to: nothing where a bound is passed, or held.
use Rattle.std.specs.Prelude.{ℕ, ◌≡◌, List, length, Option, None, IsSomeAnd}
use Rattle.std.proofs.Math.Option.{Option as Maybe}
use Rattle.rules.specs.Syntax.{ResolvedType, Param}
use Rattle.rules.specs.Types.{normalize_return}
use Rattle.rules.specs.Substitute.{Counted, too_large, done}
use Rattle.type_words.specs.Holds.{MaybeHolds}
use Rattle.locals.specs.Rows.{Rows}
use Rattle.expected_locals.specs.declared.Entered.{Entered}
use Rattle.expected_locals.specs.declared.Returned.{Returned}

-- over the number of name rows: these parameters are the table's rows, and `behind` is the place behind them
pub record EnteredDone (rows : ℕ) (ps : List (Param ResolvedType)) (behind : ℕ) (names words lens : List ℕ) (r : Entered) : Type 0 where
  pub count : r.count ≡ length ps
  pub next : r.next ≡ behind
  pub table : Rows rows names words lens r.count 0 ps

abbrev pub EnteredAgrees : ℕ → Counted (List (Param ResolvedType)) → ℕ → List ℕ → List ℕ → List ℕ → Option Entered → Type 0
EnteredAgrees rows too_large behind names words lens r = r ≡ None
EnteredAgrees rows (done v ps) behind names words lens r = IsSomeAnd r (λ e. EnteredDone rows ps behind names words lens e)

pub record EnteredSays (rows : ℕ) (o : Counted (List (Param ResolvedType))) (behind : ℕ) (names words lens : List ℕ) (r : Option Entered) : Type 0 where
  pub is : EnteredAgrees rows o behind names words lens r

-- the return is held, Void as none
pub record ReturnedDone (rows : ℕ) (t : Maybe ResolvedType) (behind : ℕ) (r : Returned) : Type 0 where
  pub holds : MaybeHolds rows r.ty (normalize_return t)
  pub next : r.next ≡ behind

abbrev pub ReturnedAgrees : ℕ → Counted (Maybe ResolvedType) → ℕ → Option Returned → Type 0
ReturnedAgrees rows too_large behind r = r ≡ None
ReturnedAgrees rows (done v t) behind r = IsSomeAnd r (λ e. ReturnedDone rows t behind e)

pub record ReturnedSays (rows : ℕ) (o : Counted (Maybe ResolvedType)) (behind : ℕ) (r : Option Returned) : Type 0 where
  pub is : ReturnedAgrees rows o behind r
