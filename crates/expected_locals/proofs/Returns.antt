-- What a trait function's return comes to. Assumes nothing.
use Prim.Native.Nat.{ℕ}
use mathlib.Core.Path.{◌≡◌, refl, sym, subst, ◌∙◌}
use mathlib.Core.Bool.{false}
use Rattle.std.specs.Prelude.{Some, None}
use mathlib.Core.Option.{Option, none}
use Rattle.rules.specs.Syntax.{ResolvedType}
use Rattle.rules.specs.Types.{normalize_return}
use Rattle.rules.specs.Substitute.{Counted, too_large, done}
use Rattle.expected_locals.specs.declared.Returned.{Returned}
use Rattle.expected_locals.specs.Entered.{ReturnedDone, ReturnedAgrees, ReturnedSays}

module _ {rows behind : ℕ} {o : Counted (Option ResolvedType)} where
  pub says_large : o ≡ too_large → ReturnedSays rows o behind None
  says_large e = record { is = subst (λ (q : Counted (Option ResolvedType)). ReturnedAgrees rows q behind None) (sym e) refl }

  pub says_done : {r : Returned} {v n : ℕ} {t : Option ResolvedType} → o ≡ done v t → n ≡ behind → ReturnedDone rows t n r → ReturnedSays rows o behind (Some r)
  says_done {r} e f d = record {
    is = subst (λ (q : Counted (Option ResolvedType)). ReturnedAgrees rows q behind (Some r)) (sym e) (record { holds = d.holds; next = d.next ∙ f });
  }

-- none
pub none_done : (rows n : ℕ) (r : Returned) → r.ty.some ≡ false → r.next ≡ n → ReturnedDone rows none n r
unfolding normalize_return
none_done rows n r b e = record { holds = b; next = e }
