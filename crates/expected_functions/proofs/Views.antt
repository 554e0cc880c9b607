-- A trait's type parameters with an implementation's type arguments, and 6 where they are not as many. Assumes nothing.
use Prim.Native.Nat.{ℕ, ◌+◌, ◌≤◌}
use mathlib.Core.Path.{◌≡◌, sym, ap, ap₂, subst, ◌∙◌}
use mathlib.Core.Bool.{Bool, true, false}
use mathlib.Core.List.{List, [], ◌∷◌}
use native.Mathlib.Omega.{arith}
use lib.ListN.{length, get_or}
use lib.Dec.{eqb}
use borrow.Author.Tests.{eq-eqb, ne_eqb}
use Rattle.rules.specs.Refusal.{Result, err, ◌>>=◌, ensure, with_detail}
use Rattle.rules.specs.Substitute.{view}
use Rattle.rules.specs.Signatures.{PortableSignature, expected_list, expected_functions}
use Rattle.image_words.specs.Gives.{BelowAt, Row, Counted}
use Rattle.image_layout.specs.declared.Layout.{Layout}
use Rattle.image_layout.specs.Open.{pool_words}
use Rattle.pool_traits.specs.TraitAt.{TraitFunctionStands}
use Rattle.subst_params.specs.Views.{Views}
use Rattle.impl_rows.specs.Given.{Given}
use Rattle.expected_functions.specs.Asked.{FunctionsHere, Asked}

-- names one behind the other end as many words further
pub names_end : (ws : List ℕ) (limit : ℕ) (xs : List ℕ) (at n : ℕ) → Row (BelowAt ws limit) xs at n → n ≡ at + length xs
names_end ws limit [] at n r = omega (arith, r)
names_end ws limit (x ∷ xs) at n r = omega (arith, names_end ws limit xs r.0 n r.2, r.1.2)

module _ {l : Layout} {start types : ℕ} (a : Asked l start types) where
  abbrev pub wants : ℕ
  wants = length a.trait.type_params

  abbrev pub has : ℕ
  has = length a.impl.type_args

  abbrev six : Bool → Result (ℕ × List PortableSignature)
  six b = ensure b (with_detail 6 a.trait.name (0 ∷ wants ∷ has ∷ [])) >>= λ _. expected_list a.schema (view a.trait.type_params a.impl.type_args) a.trait.functions

  tested : (b : Bool) → eqb wants has ≡ b → expected_functions a.schema a.trait a.impl ≡ six b
  unfolding expected_functions
  tested b e = ap six e

  module _ {w g : ℕ} (wanted : w ≡ get_or (pool_words l) (start + 1) 0) (given : g ≡ get_or (pool_words l) types 0) where
    pub wants_is : w ≡ wants
    wants_is = wanted ∙ a.trait_at.parts.type_params_at.0.is

    pub has_is : g ≡ has
    has_is = given ∙ a.types_at.0.is

    pub few : w ≤ 8
    few = omega (arith, wants_is, a.trait_at.parts.type_params_at.1)

    -- 6
    pub not_as_many : (w ≡ g → ⊥) → {x : ℕ} → x ≡ get_or (pool_words l) start 0 → expected_functions a.schema a.trait a.impl ≡ err (with_detail 6 x (0 ∷ w ∷ g ∷ []))
    unfolding ◌>>=◌ ensure
    not_as_many n q =
        tested false (ne_eqb wants has (λ e. n (wants_is ∙ e ∙ sym has_is)))
        ∙ ap₂ (λ (x : ℕ) (ds : List ℕ). err (with_detail 6 x ds)) (sym (q ∙ a.trait_at.parts.name_at.is))
        (ap₂ (λ (m n : ℕ). 0 ∷ m ∷ n ∷ []) (sym wants_is) (sym has_is))

    module _ (e : w ≡ g) where
      pub as_many : expected_functions a.schema a.trait a.impl ≡ expected_list a.schema (view a.trait.type_params a.impl.type_args) a.trait.functions
      unfolding ◌>>=◌ ensure
      as_many = tested true (eq-eqb wants has (sym wants_is ∙ e ∙ has_is))

      abbrev pub given_of : Given l (start + 1 + 1) (types + 1) w
      given_of = record {
        params = a.trait.type_params;
        params_end = a.trait_at.parts.type_params_end;
        params_row = a.trait_at.parts.type_params_at.2;
        types = a.impl.type_args;
        types_end = a.types_end;
        types_row = a.types_at.2;
        params_count = sym wants_is;
        types_count = sym (e ∙ has_is);
        few = few;
      }

      abbrev pub functions_of : {table : List ℕ} → Views l.names.rows table 0 (view a.trait.type_params a.impl.type_args) → FunctionsHere l table (start + 1 + 1 + w)
      functions_of v = record {
        schema = a.schema;
        opened = a.opened;
        seen = view a.trait.type_params a.impl.type_args;
        views = v;
        tree = a.trait.functions;
        behind = a.trait_end;
        stands = subst (λ (k : ℕ). Counted (pool_words l) 64 (TraitFunctionStands l.names.rows (pool_words l)) a.trait.functions k a.trait_end) (omega (arith, names_end (pool_words l) l.names.rows a.trait.type_params (start + 1 + 1) a.trait_at.parts.type_params_end a.trait_at.parts.type_params_at.2, wants_is)) a.trait_at.parts.functions_at;
      }
