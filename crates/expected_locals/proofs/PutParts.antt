-- The words of a parameter and of a return, written from what holds them. Assumes nothing.
use Prim.Native.Nat.{ℕ}
use mathlib.Core.Path.{◌≡◌, sym, subst, ◌∙◌}
use mathlib.Core.Bool.{true, false}
use mathlib.Core.List.{List, [], ◌∷◌}
use mathlib.Core.Option.{Option, none, some}
use Rattle.rules.specs.Syntax.{ResolvedType, run, Param}
use Rattle.rules.specs.Types.{return_words}
use Rattle.rules.specs.Output.{listed, param_words, signature_words}
use Rattle.image_words.proofs.Steps.{true_false}
use Rattle.type_words.specs.declared.HeldType.{HeldType}
use Rattle.type_words.specs.declared.MaybeType.{MaybeType}
use Rattle.type_words.specs.Runs.{Runs}
use Rattle.type_words.specs.Holds.{Holds, MaybeHolds}
use Rattle.write_words.specs.Written.{Written}
use Rattle.write_words.proofs.Written.{written_then}

runs_of : {rows : ℕ} {h : HeldType} {t : ResolvedType} → Holds rows h t → Runs h (run t)
runs_of h = record { run = h.run; count = h.count; small = h.small }

module _ (limit to : ℕ) where
  -- a name, and the words of the type behind it
  pub param_written : (p : Param ResolvedType) {rows x a r : ℕ} {h : HeldType} {xs ys zs : List ℕ} → x ≡ p.name → Holds rows h p.ty → Written limit to (x ∷ []) xs a ys
      → ((ws : List ℕ) → Runs h ws → Written limit a ws ys r zs) → Written limit to (param_words p) xs r zs
  unfolding param_words
  param_written p {r = r} {xs = xs} {zs = zs} e h v w = subst (λ (k : ℕ). Written limit to (k ∷ run p.ty) xs r zs) e (written_then limit to v (w (run p.ty) (runs_of h)))

  module _ (rows : ℕ) (m : MaybeType) where
    pub none_written : (o : Option ResolvedType) {k r : ℕ} {xs zs : List ℕ} → MaybeHolds rows m o → m.some ≡ false → Written limit to (k ∷ []) xs r zs → k ≡ 0 → Written limit to (return_words o) xs r zs
    unfolding return_words
    none_written none {r = r} {xs = xs} {zs = zs} h e w q = subst (λ (n : ℕ). Written limit to (n ∷ []) xs r zs) q w
    none_written (some t) h e w q = absurd (true_false (sym h.0 ∙ e))

    pub some_written : (o : Option ResolvedType) {a r : ℕ} {xs ys zs : List ℕ} → MaybeHolds rows m o → m.some ≡ true → Written limit to (1 ∷ []) xs a ys
        → ((ws : List ℕ) → Runs m.ty ws → Written limit a ws ys r zs) → Written limit to (return_words o) xs r zs
    unfolding return_words
    some_written none h e v w = absurd (true_false (sym e ∙ h))
    some_written (some t) h e v w = written_then limit to v (w (run t) (runs_of h.1))

  -- a name, the parameters and the return
  pub signature_written : (x : ℕ) (ps : List (Param ResolvedType)) (o : Option ResolvedType) {a b r : ℕ} {xs ys vs zs : List ℕ} → Written limit to (x ∷ []) xs a ys → Written limit a (listed param_words ps) ys b vs
      → Written limit b (return_words o) vs r zs → Written limit to (signature_words x ps o) xs r zs
  unfolding signature_words
  signature_written x ps o {a = a} u v w = written_then limit to u (written_then limit a v w)
