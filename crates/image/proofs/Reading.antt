-- The rules' reading of all rows, by the checks of each kind, and what it gives.
use Prim.Native.Nat.{ℕ}
use mathlib.Core.Path.{◌≡◌, refl, sym, ap, subst, ◌∙◌}
use mathlib.Core.Bool.{Bool, true, false}
use mathlib.Core.List.{List, []}
use mathlib.Core.Option.{none, some}
use mathlib.Core.Option as math
use Rattle.std.specs.Prelude as std
use Rattle.std.specs.Prelude.{Option, None, Some}
use Rattle.std.specs.Bool.{then_some}
use Rattle.rules.specs.Syntax.{CompiledSchema}
use Rattle.rules.specs.Reader.{Rest, rest_at, Reader, ◌>>=◌, bound, from}
use Rattle.rules.specs.Options.{is_some}
use Rattle.rules.specs.Image.{rows, readable}
use Rattle.image_words.specs.Verdict.{Agrees, Says}
use Rattle.image_words.proofs.Says.{got, nothing, from_then, from_stop, rule_then, rule_stop}
use Rattle.image_words.proofs.Gives as gives
use Rattle.image_words.proofs.Gives.{Gives}
use Rattle.image_texts.specs.Rows.{rows_differ}
use Rattle.image_layout.specs.declared.Layout.{Layout}
use Rattle.image_layout.specs.Rows.{Cut}
use Rattle.image_layout.specs.Readers.{rows_of}
use Rattle.image_layout.specs.Open.{Open}
use Rattle.image_sections.specs.Laid.{value, IsLayoutOf, Laid}
use Rattle.image_rows.specs.declared.Rows.{Rows}
use Rattle.image_rows.specs.Verdict.{verdict, RowsSay}
use Rattle.image_rows.proofs.RowSteps.{elsewhere}
use Rattle.image_rows.proofs.Layouts.{Names, names_give, Strings, strings_give, Definitions, definitions_give, texts_rule}
use Rattle.image.specs.Verdict.{Verdict}

-- a reading of other words, and then what follows, which may know what was read
from_as : {A B : Type 0} {r : Reader A} {words : List ℕ} {start n : ℕ} → Says r words start (Some n) → {f : A → Reader B} {ws : List ℕ} {at : ℕ} {d : Option ℕ}
    → ((a : A) → r (rest_at words start) ≡ some (a, rest_at words n) → Says (f a) ws at d) → Says (from words start r >>= f) ws at d
unfolding ◌>>=◌ from bound
from_as {A} {r} {words} {start} s {f} {ws} {at} {d} h =
    let x = got s in
    record { is = subst (λ (o : math.Option (A × Rest)). Agrees ws (bound (bound o (λ a q. some (a, rest_at ws at))) f) d) (sym x.1) (h x.0 x.1).is }

-- a verdict has a place exactly where it is yes
has_place : (b : Bool) (n : ℕ) → b ≡ std.is_some (verdict b n)
has_place true n = refl
has_place false n = refl

-- what the checks of names, texts, strings and definitions say of all rows
module _ (l : Layout) where
  pub names_refuse : {n : Bool} → RowsSay Rows.Names l n → n ≡ false → Says (rows_of l) [] 0 None
  unfolding rows
  names_refuse s e = from_stop (subst (RowsSay Rows.Names l) e s) _

  module _ (cut : Cut l) {n : Bool} (s : RowsSay Rows.Names l n) (y : n ≡ true) {t : Bool} (texts : t ≡ rows_differ l.image.now l.texts l.names.rows) where
    pub texts_refuse : t ≡ false → Says (rows_of l) [] 0 None
    unfolding rows
    texts_refuse e = from_as (subst (RowsSay Rows.Names l) y s) (λ ns q. rule_stop _ (texts_rule l cut q ∙ sym texts ∙ e))

    module _ (differ : t ≡ true) {m : Bool} (u : RowsSay Rows.Strings l m) where
      pub strings_refuse : m ≡ false → Says (rows_of l) [] 0 None
      unfolding rows
      strings_refuse e =
          from_as (subst (RowsSay Rows.Names l) y s) (λ ns q. rule_then _ (texts_rule l cut q ∙ sym texts ∙ differ) (from_stop (subst (RowsSay Rows.Strings l) e u) _))

      pub definitions_say : m ≡ true → (d : Bool) → RowsSay Rows.Definitions l d → Says (rows_of l) [] 0 (verdict d 0)
      unfolding rows
      definitions_say e d v =
          from_as (subst (RowsSay Rows.Names l) y s) (λ ns q.
          rule_then _ (texts_rule l cut q ∙ sym texts ∙ differ) (from_then (subst (RowsSay Rows.Strings l) e u) (λ _. elsewhere _ _ v (has_place d _))))

-- the rows of the schema that they give
module _ (l : Layout) (cut : Cut l) where
  rows_give : Gives (rows_of l) [] 0 (λ s m. Names l cut s.names × Strings l cut s.strings × Definitions l cut s.definitions)
  unfolding rows
  rows_give =
      gives.then (gives.from_gives (names_give l cut) [] 0) (λ ns a h.
      gives.rule_then _ _ (λ _. gives.then (gives.from_gives (strings_give l cut) [] a) (λ ss b i.
      gives.then (gives.from_gives (definitions_give l cut) [] b) (λ ds c k. gives.given _ (h.2, i.2, k.2)))))

  opened : (s : CompiledSchema) (q : Rest) → rows_of l (rest_at [] 0) ≡ some (s, q) → readable l.image.now ≡ some s → Open l s
  opened s q e r =
      let g = (gives.of rows_give e).1 in
      record {
        inside = cut.inside;
        read = r;
        names = g.0.count;
        strings = g.1.count;
        definitions = g.2.count;
        name = g.0.each;
        string = g.1.each;
        definition = g.2.each;
      }

-- the layout where the checks answered yes
pub settled : {image : List ℕ} {l : Layout} → IsLayoutOf image l → Laid l → (b : Bool) → Says (rows_of l) [] 0 (verdict b 0) → Verdict image (then_some b l)
settled {image} {l} told laid b says = go b says
  where
    same : readable image ≡ value (rows_of l (rest_at [] 0))
    same = ap readable (sym told.bytes) ∙ laid.reads

    go : (b : Bool) → Says (rows_of l) [] 0 (verdict b 0) → Verdict image (then_some b l)
    go false s = same ∙ ap value (nothing s)
    go true s =
        let g = got s in
        let r : readable image ≡ some g.0 = same ∙ ap value g.1 in
        record { told = told; cut = laid.cut; schema = g.0; read = r; opens = opened l laid.cut g.0 _ g.1 (ap readable told.bytes ∙ r) }

-- an image is readable where a layout is given
pub some_readable : (image : List ℕ) (o : Option Layout) → Verdict image o → std.is_some o ≡ is_some (readable image)
unfolding is_some
some_readable image None v = rw v refl
some_readable image (Some l) v = rw v.read refl
