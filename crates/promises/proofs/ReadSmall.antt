-- An image of bytes holds a schema of small words.
use Prim.Native.Nat.{ℕ, ◌-◌, ◌<◌, ◌≤◌}
use mathlib.Core.Path.{◌≡◌, refl, subst}
use mathlib.Core.Bool.{Bool, true, false, ◌||◌}
use mathlib.Core.List.{List}
use mathlib.Core.Option.{some}
use native.Mathlib.Omega.{arith}
use lib.ListN.{drop}
use lib.Dec.{ltb, eqb}
use borrow.Author.Tests.{ltb-true, eqb-true}
use Rattle.rules.specs.Words.{NONE, words}
use Rattle.rules.specs.Syntax.{CompiledSchema}
use Rattle.rules.specs.Image.{part, readable}
use Rattle.rules.proofs.Clash.{clash}
use Rattle.rules.specs.Good.{Below}
use Rattle.laws.specs.GoodSchema.{GoodName}
use Rattle.laws.proofs.Schema.{Throughout, AliasHas, readable_held}
use Rattle.promises.proofs.Small.{WORD, Small, small_left, small_words, all_take, all_drop, all_both}
use Rattle.promises.proofs.SmallSchema.{SmallName, SmallSchema}

-- words that stand in small words are small
small_throughout : (ws : List ℕ) → Small ws → Throughout Small ws
small_throughout ws h start taken rest e = small_left taken rest (subst Small e (all_drop (λ x. x < WORD) start ws h))

-- a definition's number, or NONE
row_small : (n rows : ℕ) → rows ≤ 256 → (ltb n rows || eqb n NONE) ≡ true → n < WORD
row_small n rows l e = go (ltb n rows) (eqb n NONE) refl refl e
  where
    go : (a b : Bool) → ltb n rows ≡ a → eqb n NONE ≡ b → (a || b) ≡ true → n < WORD
    go true b p q e = omega (arith, ltb-true n rows p)
    go false true p q e = omega (arith, eqb-true n NONE q)
    go false false p q e = clash (cc)

module _ (image : List ℕ) (bytes : Below 256 image) where
  part_small : (start stop : ℕ) → Small (words (part image start stop))
  part_small start stop = small_words (part image start stop) (all_take (λ x. x < 256) (stop - start) (drop start image) (all_drop (λ x. x < 256) start image bytes))

  pub readable_small : (s : CompiledSchema) → readable image ≡ some s → SmallSchema s
  readable_small s e =
      let h = readable_held Small image (λ start stop. small_throughout (words (part image start stop)) (part_small start stop)) s e in
      let good = h.good in
      record {
        names = all_both (GoodName _ _) (AliasHas Small) SmallName (λ n g a. record { definition = row_small n.definition _ good.few_definitions g.definition; alias = a }) s.names good.names_good h.aliases;
        definitions = h.definitions;
      }
