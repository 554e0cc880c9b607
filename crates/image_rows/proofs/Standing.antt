-- What the readers of rows give, and where it stands.
use Prim.Native.Nat.{ℕ, zero, suc, ◌+◌, ◌*◌, ◌<◌}
use mathlib.Core.Path.{◌≡◌, refl, sym, ap, subst, ◌∙◌}
use mathlib.Core.List.{List, [], ◌∷◌}
use mathlib.Core.Option.{Option, none, some}
use native.Mathlib.Omega.{arith}
use lib.ListN.{length, take, drop, get_or, get_elem?}
use lib.Dec.{eqb}
use borrow.Author.Tests.{eqb-true, eqb-false}
use Rattle.rules.specs.Words.{NONE}
use Rattle.rules.specs.Syntax.{Name, TypeDef}
use Rattle.rules.specs.Reader.{Rest, rest_at, Reader, ◌>>=◌, give, from}
use Rattle.rules.specs.Kinds.{definition_kind}
use Rattle.rules.specs.Image.{alias_at, name_row, string_row, definition_node, definition_row}
use Rattle.rules.specs.declared.kinds.DefinitionKind.{DefinitionKind}
use Rattle.rules.proofs.Types.{type_exact}
use Rattle.laws.proofs.Definitions.{message_exact, generic_alias_exact, trait_exact, implementation_exact}
use Rattle.image_words.proofs.Gives as gives
use Rattle.image_words.proofs.Gives.{Yields, Gives}
use Rattle.image_words.specs.Gives.{Row}
use Rattle.image_words.proofs.Stands.{exact_gives}
use Rattle.image_layout.specs.Open.{Stored, AliasStands, DefinitionStands}

-- what is given of the words from a place on is stored there
module _ {A : Type 0} {r : Reader A} (ws : List ℕ) (start : ℕ) {P : A → ℕ → Type 0} (g : Gives r ws start P) where
  stored_y : (o : Option (A × Rest)) → r (rest_at ws start) ≡ o → Yields ws P o → Yields ws (λ a n. r (rest_at ws start) ≡ some (a, rest_at ws n)) o
  stored_y none e y = tt
  stored_y (some p) e y = (y.0, e ∙ ap (λ (x : Rest). some (p.0, x)) y.0)

  stored : Gives r ws start (λ a n. r (rest_at ws start) ≡ some (a, rest_at ws n))
  stored = record { so = stored_y (r (rest_at ws start)) refl g.so }

  -- of a body that stands elsewhere something is made; the own place stays
  made : {B : Type 0} (f : A → B) (Q : B → Type 0) → ((a : A) → Stored r ws start a → Q (f a)) → {own : List ℕ} {at : ℕ} → Gives (from ws start r >>= λ a. give (f a)) own at (λ b n. Q b × (n ≡ at))
  made f Q h {own} {at} = gives.then (gives.from_gives stored own at) (λ a m i. gives.given _ (h a (record { next = i.1; read = i.2 }), i.0))

-- the i-th of things that stand one behind the other, each w words long
pub row_th : {A : Type 0} (Q : A → ℕ → ℕ → Type 0) (w : ℕ) → ((x : A) (a m : ℕ) → Q x a m → m ≡ a + w) → (xs : List A) (at n : ℕ) → Row Q xs at n
    → (i : ℕ) (x : A) → get_elem? xs i ≡ some x → (m : ℕ) × Q x (at + w * i) m
row_th Q w s [] at n r i x e = absurd (let z : ◌≡◌ {A = ℕ} 0 1 = cc in omega arith)
row_th Q w s (y ∷ xs) at n r zero x e =
    let same : y ≡ x = cc in
    let z : at ≡ at + w * 0 = omega arith in
    (r.0, rw (same, z) at r.1)
row_th Q w s (y ∷ xs) at n r (suc i) x e =
    let m : r.0 + w * i ≡ at + w * suc i = omega (arith, s y at r.0 r.1) in
    rw m at (row_th Q w s xs r.0 n r.2 i x e)

-- an index of something is below the length
pub there : {A : Type 0} (xs : List A) (i : ℕ) (x : A) → get_elem? xs i ≡ some x → i < length xs
there [] i x e = absurd (let z : ◌≡◌ {A = ℕ} 0 1 = cc in omega arith)
there (y ∷ xs) zero x e = omega arith
there (y ∷ xs) (suc i) x e = let h = there xs i x e in omega arith

-- over the image, the length of its texts, the pool's words and the numbers of rows
module _ (image : List ℕ) (texts : ℕ) (pool : List ℕ) (names strings definitions : ℕ) (ws : List ℕ) where
  alias_gives : (start at : ℕ) → Gives (alias_at image texts pool names strings definitions start) ws at (λ o n. AliasStands names pool start o × (n ≡ at))
  unfolding alias_at
  alias_gives start at =
      gives.either (eqb start NONE) (λ e. gives.given _ (eqb-true start NONE e, refl))
      (λ e. made pool start (exact_gives (type_exact names) pool start) some (λ o. AliasStands names pool start o) (λ t s. (eqb-false start NONE e, s)))

  -- the words from `at` on say n
  pub record NameAt (at : ℕ) (n : Name) : Type 0 where
    pub text : n.text ≡ take (get_or ws (at + 1) 0) (drop (get_or ws at 0) image)
    pub definition : n.definition ≡ get_or ws (at + 1 + 1) 0
    pub alias : AliasStands names pool (get_or ws (at + 1 + 1 + 1) 0) n.alias

  pub name_gives : (at : ℕ) → Gives (name_row image texts pool names strings definitions) ws at (λ n m. NameAt at n × (m ≡ at + 4))
  unfolding name_row
  name_gives at =
      gives.word_then (λ start a. gives.word_then (λ size b. gives.word_then (λ definition c. gives.word_then (λ alias d.
      gives.rule_then _ _ (λ _. gives.rule_then _ _ (λ _. gives.rule_then _ _ (λ _. gives.rule_then _ _ (λ _. gives.then (alias_gives alias _) (λ t m s.
      gives.given _ (record { text = cc (a.is, b.is); definition = sym c.is; alias = subst (λ (k : ℕ). AliasStands names pool k t) (sym d.is) s.0 }, omega (arith, s.1)))))))))))

  -- the words from `at` on say where a string's text stands
  abbrev pub StringAt : ℕ → List ℕ → Type 0
  StringAt at text = text ≡ take (get_or ws (at + 1) 0) (drop (get_or ws at 0) image)

  pub string_gives : (at : ℕ) → Gives (string_row image texts pool names strings definitions) ws at (λ text m. StringAt at text × (m ≡ at + 2))
  unfolding string_row
  string_gives at =
      gives.word_then (λ start a. gives.word_then (λ size b. gives.rule_then _ _ (λ _. gives.rule_then _ _ (λ _. gives.given _ (cc (a.is, b.is), omega arith)))))

  node_gives : (k : DefinitionKind) (start at : ℕ) → Gives (definition_node image texts pool names strings definitions k start) ws at (λ d n. DefinitionStands names strings pool k start d × (n ≡ at))
  unfolding definition_node
  node_gives DefinitionKind.Other start at = gives.given _ (refl, refl)
  node_gives DefinitionKind.Message start at = made pool start (exact_gives (message_exact names) pool start) TypeDef.message (DefinitionStands names strings pool DefinitionKind.Message start) (λ m s. (refl, s))
  node_gives DefinitionKind.GenericAlias start at =
      made pool start (exact_gives (generic_alias_exact names) pool start) TypeDef.generic_alias (DefinitionStands names strings pool DefinitionKind.GenericAlias start) (λ m s. (refl, s))
  node_gives DefinitionKind.Trait start at = made pool start (exact_gives (trait_exact names) pool start) TypeDef.trait (DefinitionStands names strings pool DefinitionKind.Trait start) (λ m s. (refl, s))
  node_gives DefinitionKind.Implementation start at =
      made pool start (exact_gives (implementation_exact names strings) pool start) TypeDef.implementation (DefinitionStands names strings pool DefinitionKind.Implementation start) (λ m s. (refl, s))
  node_gives DefinitionKind.Unknown start at = gives.failed

  -- the words from `at` on say d
  abbrev pub DefinitionAt : ℕ → TypeDef → Type 0
  DefinitionAt at d = DefinitionStands names strings pool (definition_kind (get_or ws at 0)) (get_or ws (at + 1) 0) d

  pub definition_gives : (at : ℕ) → Gives (definition_row image texts pool names strings definitions) ws at (λ d m. DefinitionAt at d × (m ≡ at + 2))
  unfolding definition_row
  definition_gives at =
      gives.word_then (λ kind a. gives.word_then (λ start b. gives.so_then (node_gives (definition_kind kind) start _) (λ d m s. (
        subst (λ (k : ℕ). DefinitionStands names strings pool (definition_kind k) (get_or ws (at + 1) 0) d) (sym a.is)
            (subst (λ (k : ℕ). DefinitionStands names strings pool (definition_kind kind) k d) (sym b.is) s.0),
        omega (arith, s.1),
      ))))
