-- Over the run of a type the walk says what the rules say of the type. Assumes nothing.
use Prim.Native.Nat.{ℕ}
use native.Mathlib.Omega.{arith}
use native.Mathlib.Numerals.{add-two}
use mathlib.Core.Path.{◌≡◌, refl, sym, ap, ◌∙◌}
use mathlib.Core.Bool.{◌||◌, or_assoc, or-false}
use mathlib.Core.List.{List, [], ◌∷◌, ◌++◌, append_assoc, append-nil}
use lib.ListN.{length, get_or}
use lib.Seq.{drop-append_seam}
use borrow.Author.Tests.{ne_eqb}
use Rattle.rules.specs.Syntax.{ResolvedType, run}
use Rattle.rules.specs.Types.{contains_poison}
use Rattle.rules.specs.Kinds.{type_kind}
use Rattle.rules.specs.declared.kinds.TypeKind.{TypeKind}
use Rattle.rules.proofs.Clash.{clash}
use Rattle.rules.specs.Good.{Good}
use Rattle.codes.proofs.Codes.{named_at}
use Rattle.type_poison.specs.Headers.{header_of}
use Rattle.type_poison.proofs.Walk.{front_poison, front_header, behind, poison_in, poisoned, poisoned_step}

-- a node of one word that is not Named is passed over
over : (c : ℕ) (ws : List ℕ) (k : TypeKind) → type_kind c ≡ k → (k ≡ TypeKind.Named → ⊥) → header_of k (get_or (c ∷ ws) 1 0) ≡ 1 → poisoned (c ∷ ws) ≡ poisoned ws
unfolding front_poison behind front_header
over c ws k e n h =
    poisoned_step (c ∷ ws) (omega arith)
    ∙ rw (ne_eqb c 48 (λ q. n (sym e ∙ named_at q)), ap (λ (x : TypeKind). header_of x (get_or (c ∷ ws) 1 0)) e ∙ h)

poison_tree : (names : ℕ) (t : ResolvedType) (rest : List ℕ) → Good names t → poisoned (run t ++ rest) ≡ (contains_poison t || poisoned rest)
unfolding run contains_poison front_poison behind front_header type_kind
poison_tree names (ResolvedType.plain c) rest g = over c rest TypeKind.Plain g (λ e. clash (cc)) refl
poison_tree names (ResolvedType.sub s n) rest g = poisoned_step (16 ∷ s ∷ n ∷ rest) (omega arith)
poison_tree names (ResolvedType.bits ns) rest g = poisoned_step (80 ∷ length ns ∷ (ns ++ rest)) (omega arith) ∙ rw (add-two (length ns), drop-append_seam ns rest)
poison_tree names (ResolvedType.named n) rest g = poisoned_step (48 ∷ n ∷ rest) (omega arith)
poison_tree names (ResolvedType.one c t) rest g =
    over c (run t ++ rest) TypeKind.One g.0 (λ e. clash (cc)) refl ∙ poison_tree names t rest g.1
poison_tree names (ResolvedType.fixed low high t) rest g = poisoned_step (66 ∷ low ∷ high ∷ (run t ++ rest)) (omega arith) ∙ poison_tree names t rest g
poison_tree names (ResolvedType.two c t u) rest g =
    over c ((run t ++ run u) ++ rest) TypeKind.Two g.0 (λ e. clash (cc)) refl
    ∙ rw (append_assoc (run t) (run u) rest, poison_tree names t (run u ++ rest) g.1, poison_tree names u rest g.2)
    (sym (or_assoc (contains_poison t) (contains_poison u) (poisoned rest)))

pub poison_run : (names : ℕ) (t : ResolvedType) → Good names t → poisoned (run t) ≡ contains_poison t
unfolding poisoned poison_in
poison_run names t g = ap poisoned (sym (append-nil (run t))) ∙ poison_tree names t [] g ∙ or-false (contains_poison t)
