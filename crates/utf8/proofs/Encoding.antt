-- A text is well-formed exactly when it is the encoding of a list of scalar values.
use Prim.Native.Nat.{ℕ, zero, suc, ◌+◌, ◌-◌, ◌*◌, ◌/◌, ◌%◌, ◌≤◌, ◌<◌}
use native.Mathlib.Omega.{arith}
use mathlib.Core.Path.{◌≡◌, refl, ap, ap₂, subst, ◌∙◌}
use mathlib.Core.Logic.{◌⊎◌, inl, inr}
use mathlib.Core.Bool.{Bool, true, false, ◌||◌}
use mathlib.Core.List.{List, [], ◌∷◌, ◌++◌}
use mathlib.Core.Option.{Option, none, some}
use lib.ListN.{length}
use lib.Dec.{ltb}
use borrow.Author.Tests.{ltb-true, ltb-false, lt-ltb, le-ltb}
use Rattle.rules.proofs.Clash.{clash}
use Rattle.rules.specs.Good.{All}
use Rattle.rules.specs.Utf8.{Range, ◌to◌, tail, inside, follow, well_formed_from, well_formed}
use Rattle.utf8.specs.Encoding.{surrogates, is_scalar, encode, encoded, Decoded, Meaning}
use Rattle.utf8.proofs.Table.{inside_true, inside_facts, row, by_row, start, next, due}

-- a number is below another or not
below_or_not : {P : Type 0} (a b : ℕ) → (a < b → P) → (b ≤ a → P) → P
below_or_not {P = P} a b f g = go (ltb a b) refl
  where
    go : (t : Bool) → ltb a b ≡ t → P
    go true e = f (ltb-true a b e)
    go false e = g (ltb-false a b e)

-- the encoding at each length
encode_1 : (c : ℕ) → c < 0x80 → encode c ≡ c ∷ []
unfolding encode
encode_1 c h = rw (lt-ltb c 0x80 h)

encode_2 : (c : ℕ) → 0x80 ≤ c → c < 0x800 → encode c ≡ (0xC0 + c / 64) ∷ (0x80 + c % 64) ∷ []
unfolding encode
encode_2 c l h = rw (le-ltb c 0x80 l, lt-ltb c 0x800 h)

encode_3 : (c : ℕ) → 0x800 ≤ c → c < 0x10000 → encode c ≡ (0xE0 + c / 64 / 64) ∷ (0x80 + c / 64 % 64) ∷ (0x80 + c % 64) ∷ []
unfolding encode
encode_3 c l h = rw (le-ltb c 0x80 (omega arith), le-ltb c 0x800 l, lt-ltb c 0x10000 h)

encode_4 : (c : ℕ) → 0x10000 ≤ c → encode c ≡ (0xF0 + c / 64 / 64 / 64) ∷ (0x80 + c / 64 / 64 % 64) ∷ (0x80 + c / 64 % 64) ∷ (0x80 + c % 64) ∷ []
unfolding encode
encode_4 c l = rw (le-ltb c 0x80 (omega arith), le-ltb c 0x800 (omega arith), le-ltb c 0x10000 l)

-- a scalar value, as facts
scalar_facts : (c : ℕ) → is_scalar c ≡ true → (P : Type 0) → (c < surrogates.least → P) → (0xE000 ≤ c → c ≤ 0x10FFFF → P) → P
scalar_facts c s P f g = go (ltb c surrogates.least) (inside (0xE000 to 0x10FFFF) c) refl refl s
  where
    go : (t u : Bool) → ltb c surrogates.least ≡ t → inside (0xE000 to 0x10FFFF) c ≡ u → (t || u) ≡ true → P
    go true u p q s = f (ltb-true c surrogates.least p)
    go false true p q s = let h = inside_facts (0xE000 to 0x10FFFF) c q in g h.0 h.1
    go false false p q s = clash (cc)

scalar_low : (c : ℕ) → c < surrogates.least → is_scalar c ≡ true
scalar_low c h = rw (lt-ltb c surrogates.least h)

scalar_high : (c : ℕ) → 0xE000 ≤ c → c ≤ 0x10FFFF → is_scalar c ≡ true
scalar_high c l h = rw (le-ltb c surrogates.least (omega arith), inside_true (0xE000 to 0x10FFFF) c l h)

-- one way: one character more in front
two_step : (a b : ℕ) (r : Range) (bs : List ℕ) → follow a ≡ some (r ∷ []) → r.least ≤ b → b ≤ r.most → well_formed (a ∷ b ∷ bs) ≡ well_formed bs
two_step a b r bs e l h = start a (b ∷ bs) (r ∷ []) e ∙ next r [] b bs l h

three_step : (a b c : ℕ) (r : Range) (bs : List ℕ) → follow a ≡ some (r ∷ tail ∷ []) → r.least ≤ b → b ≤ r.most → 0x80 ≤ c → c ≤ 0xBF
    → well_formed (a ∷ b ∷ c ∷ bs) ≡ well_formed bs
three_step a b c r bs e l h m k = start a (b ∷ c ∷ bs) (r ∷ tail ∷ []) e ∙ next r (tail ∷ []) b (c ∷ bs) l h ∙ next tail [] c bs m k

four_step : (a b c d : ℕ) (r : Range) (bs : List ℕ) → follow a ≡ some (r ∷ tail ∷ tail ∷ []) → r.least ≤ b → b ≤ r.most → 0x80 ≤ c → c ≤ 0xBF → 0x80 ≤ d → d ≤ 0xBF
    → well_formed (a ∷ b ∷ c ∷ d ∷ bs) ≡ well_formed bs
four_step a b c d r bs e l h m k n o =
    start a (b ∷ c ∷ d ∷ bs) (r ∷ tail ∷ tail ∷ []) e ∙ next r (tail ∷ tail ∷ []) b (c ∷ d ∷ bs) l h ∙ next tail (tail ∷ []) c (d ∷ bs) m k ∙ next tail [] d bs n o

skip_1 : (c : ℕ) (bs : List ℕ) → c < 0x80 → well_formed (encode c ++ bs) ≡ well_formed bs
skip_1 c bs h = ap (λ (xs : List ℕ). well_formed (xs ++ bs)) (encode_1 c h) ∙ start c bs [] (row 0 refl c (omega arith) (omega arith))

skip_2 : (c : ℕ) (bs : List ℕ) → 0x80 ≤ c → c < 0x800 → well_formed (encode c ++ bs) ≡ well_formed bs
skip_2 c bs l h =
    ap (λ (xs : List ℕ). well_formed (xs ++ bs)) (encode_2 c l h)
    ∙ two_step (0xC0 + c / 64) (0x80 + c % 64) tail bs (row 1 refl (0xC0 + c / 64) (omega arith) (omega arith)) (omega arith) (omega arith)

skip_3 : (c : ℕ) (bs : List ℕ) → 0x800 ≤ c → c < 0x10000 → (c < surrogates.least) ⊎ (0xE000 ≤ c) → well_formed (encode c ++ bs) ≡ well_formed bs
skip_3 c bs l h s = ap (λ (xs : List ℕ). well_formed (xs ++ bs)) (encode_3 c l h) ∙ rows s
  where
    by : (r : Range) → follow (0xE0 + c / 64 / 64) ≡ some (r ∷ tail ∷ []) → r.least ≤ 0x80 + c / 64 % 64 → 0x80 + c / 64 % 64 ≤ r.most
        → well_formed ((0xE0 + c / 64 / 64) ∷ (0x80 + c / 64 % 64) ∷ (0x80 + c % 64) ∷ bs) ≡ well_formed bs
    by r e p q = three_step (0xE0 + c / 64 / 64) (0x80 + c / 64 % 64) (0x80 + c % 64) r bs e p q (omega arith) (omega arith)

    rows : (c < surrogates.least) ⊎ (0xE000 ≤ c) → well_formed ((0xE0 + c / 64 / 64) ∷ (0x80 + c / 64 % 64) ∷ (0x80 + c % 64) ∷ bs) ≡ well_formed bs
    rows (inl k) =
        below_or_not c 0x1000 (λ (m : c < 0x1000). by (0xA0 to 0xBF) (row 2 refl (0xE0 + c / 64 / 64) (omega arith) (omega arith)) (omega arith) (omega arith))
        (λ (m : 0x1000 ≤ c). below_or_not c 0xD000 (λ (n : c < 0xD000). by tail (row 3 refl (0xE0 + c / 64 / 64) (omega arith) (omega arith)) (omega arith) (omega arith))
        (λ (n : 0xD000 ≤ c). by (0x80 to 0x9F) (row 4 refl (0xE0 + c / 64 / 64) (omega arith) (omega arith)) (omega arith) (omega arith)))
    rows (inr k) = by tail (row 5 refl (0xE0 + c / 64 / 64) (omega arith) (omega arith)) (omega arith) (omega arith)

skip_4 : (c : ℕ) (bs : List ℕ) → 0x10000 ≤ c → c ≤ 0x10FFFF → well_formed (encode c ++ bs) ≡ well_formed bs
skip_4 c bs l h = ap (λ (xs : List ℕ). well_formed (xs ++ bs)) (encode_4 c l) ∙ rows
  where
    by : (r : Range) → follow (0xF0 + c / 64 / 64 / 64) ≡ some (r ∷ tail ∷ tail ∷ []) → r.least ≤ 0x80 + c / 64 / 64 % 64 → 0x80 + c / 64 / 64 % 64 ≤ r.most
        → well_formed ((0xF0 + c / 64 / 64 / 64) ∷ (0x80 + c / 64 / 64 % 64) ∷ (0x80 + c / 64 % 64) ∷ (0x80 + c % 64) ∷ bs) ≡ well_formed bs
    by r e p q =
        four_step (0xF0 + c / 64 / 64 / 64) (0x80 + c / 64 / 64 % 64) (0x80 + c / 64 % 64) (0x80 + c % 64) r bs e p q (omega arith) (omega arith) (omega arith) (omega arith)

    rows : well_formed ((0xF0 + c / 64 / 64 / 64) ∷ (0x80 + c / 64 / 64 % 64) ∷ (0x80 + c / 64 % 64) ∷ (0x80 + c % 64) ∷ bs) ≡ well_formed bs
    rows =
        below_or_not c 0x40000 (λ (m : c < 0x40000). by (0x90 to 0xBF) (row 6 refl (0xF0 + c / 64 / 64 / 64) (omega arith) (omega arith)) (omega arith) (omega arith))
        (λ (m : 0x40000 ≤ c). below_or_not c 0x100000 (λ (n : c < 0x100000). by tail (row 7 refl (0xF0 + c / 64 / 64 / 64) (omega arith) (omega arith)) (omega arith) (omega arith))
        (λ (n : 0x100000 ≤ c). by (0x80 to 0x8F) (row 8 refl (0xF0 + c / 64 / 64 / 64) (omega arith) (omega arith)) (omega arith) (omega arith)))

skip : (c : ℕ) (bs : List ℕ) → is_scalar c ≡ true → well_formed (encode c ++ bs) ≡ well_formed bs
skip c bs s =
    below_or_not c 0x80 (skip_1 c bs)
    (λ (a : 0x80 ≤ c). below_or_not c 0x800 (skip_2 c bs a)
    (λ (b : 0x800 ≤ c). below_or_not c 0x10000 (λ (h : c < 0x10000). skip_3 c bs b h (scalar_facts c s ((c < surrogates.least) ⊎ (0xE000 ≤ c)) (λ p. inl p) (λ p q. inr p)))
    (λ (d : 0x10000 ≤ c). scalar_facts c s (well_formed (encode c ++ bs) ≡ well_formed bs) (λ (p : c < surrogates.least). absurd (omega arith)) (λ p q. skip_4 c bs d q))))

encoded_formed : (cs : List ℕ) → All (λ c. is_scalar c ≡ true) cs → well_formed (encoded cs) ≡ true
unfolding encoded well_formed_from
encoded_formed [] g = refl
encoded_formed (c ∷ cs) g = skip c (encoded cs) g.0 ∙ encoded_formed cs g.1

-- the other way: a text with its scalar values, and one character before it
more : (c : ℕ) (xs bs : List ℕ) → is_scalar c ≡ true → encode c ≡ xs → Decoded bs → Decoded (xs ++ bs)
unfolding encoded
more c xs bs s e d = record { values = c ∷ d.values; scalar = (s, d.scalar); is = ap₂ (λ (x y : List ℕ). x ++ y) e d.is }

-- the value of two, three, four bytes
abbrev value_2 : ℕ → ℕ → ℕ
value_2 a b = (a - 0xC0) * 64 + (b - 0x80)

abbrev value_3 : ℕ → ℕ → ℕ → ℕ
value_3 a b c = ((a - 0xE0) * 64 + (b - 0x80)) * 64 + (c - 0x80)

abbrev value_4 : ℕ → ℕ → ℕ → ℕ → ℕ
value_4 a b c d = (((a - 0xF0) * 64 + (b - 0x80)) * 64 + (c - 0x80)) * 64 + (d - 0x80)

encode_back_2 : (a b : ℕ) → 0xC2 ≤ a → a ≤ 0xDF → 0x80 ≤ b → b ≤ 0xBF → encode (value_2 a b) ≡ a ∷ b ∷ []
encode_back_2 a b l h m k = encode_2 (value_2 a b) (omega arith) (omega arith) ∙ ap₂ (λ (x y : ℕ). x ∷ y ∷ []) (omega arith) (omega arith)

encode_back_3 : (a b c : ℕ) → 0xE0 ≤ a → a ≤ 0xEF → 0x80 ≤ b → b ≤ 0xBF → 0x80 ≤ c → c ≤ 0xBF → 0x800 ≤ value_3 a b c → encode (value_3 a b c) ≡ a ∷ b ∷ c ∷ []
encode_back_3 a b c l h m k n o q =
    let v = value_3 a b c in
    let first : 0xE0 + v / 64 / 64 ≡ a = omega arith in
    let second : 0x80 + v / 64 % 64 ≡ b = omega arith in
    let third : 0x80 + v % 64 ≡ c = omega arith in
    encode_3 v q (omega arith) ∙ rw (first, second, third)

encode_back_4 : (a b c d : ℕ) → 0xF0 ≤ a → 0x80 ≤ b → b ≤ 0xBF → 0x80 ≤ c → c ≤ 0xBF → 0x80 ≤ d → d ≤ 0xBF → 0x10000 ≤ value_4 a b c d → encode (value_4 a b c d) ≡ a ∷ b ∷ c ∷ d ∷ []
encode_back_4 a b c d l m k n o p r q =
    let v = value_4 a b c d in
    let first : 0xF0 + v / 64 / 64 / 64 ≡ a = omega arith in
    let second : 0x80 + v / 64 / 64 % 64 ≡ b = omega arith in
    let third : 0x80 + v / 64 % 64 ≡ c = omega arith in
    let fourth : 0x80 + v % 64 ≡ d = omega arith in
    encode_4 v q ∙ rw (first, second, third, fourth)

-- behind a first byte whose row is known, where the bytes of shorter texts are known
module _ (n : ℕ) (shorter : (bs : List ℕ) → length bs ≤ n → well_formed bs ≡ true → Decoded bs) (a : ℕ) where
  one_byte : a ≤ 0x7F → (bs : List ℕ) → well_formed bs ≡ true → length bs ≤ n → Decoded (a ∷ bs)
  one_byte h bs w l = more a (a ∷ []) bs (scalar_low a (omega arith)) (encode_1 a (omega arith)) (shorter bs l w)

  two_bytes : 0xC2 ≤ a → a ≤ 0xDF → (bs : List ℕ) → well_formed_from (tail ∷ []) bs ≡ true → length bs ≤ n → Decoded (a ∷ bs)
  two_bytes l h = due (λ bs. length bs ≤ n → Decoded (a ∷ bs)) tail [] (λ b bs m k w s.
      more (value_2 a b) (a ∷ b ∷ []) bs (scalar_low (value_2 a b) (omega arith)) (encode_back_2 a b l h m k) (shorter bs (omega arith) w))

  -- the second byte's range says that the value is no short one and a scalar value
  three_bytes : (r : Range) → 0xE0 ≤ a → a ≤ 0xEF → 0x80 ≤ r.least → r.most ≤ 0xBF
      → ((b c : ℕ) → r.least ≤ b → b ≤ r.most → 0x80 ≤ c → c ≤ 0xBF → (0x800 ≤ value_3 a b c) × (is_scalar (value_3 a b c) ≡ true))
      → (bs : List ℕ) → well_formed_from (r ∷ tail ∷ []) bs ≡ true → length bs ≤ n → Decoded (a ∷ bs)
  three_bytes r l h p q f =
      due (λ bs. length bs ≤ n → Decoded (a ∷ bs)) r (tail ∷ [])
      (λ b bs m k. due (λ bs. length (b ∷ bs) ≤ n → Decoded (a ∷ b ∷ bs)) tail [] (λ c bs u v w s.
      more (value_3 a b c) (a ∷ b ∷ c ∷ []) bs (f b c m k u v).1 (encode_back_3 a b c l h (omega arith) (omega arith) u v (f b c m k u v).0) (shorter bs (omega arith) w)) bs)

  four_bytes : (r : Range) → 0xF0 ≤ a → 0x80 ≤ r.least → r.most ≤ 0xBF
      → ((b c d : ℕ) → r.least ≤ b → b ≤ r.most → 0x80 ≤ c → c ≤ 0xBF → 0x80 ≤ d → d ≤ 0xBF → (0x10000 ≤ value_4 a b c d) × (value_4 a b c d ≤ 0x10FFFF))
      → (bs : List ℕ) → well_formed_from (r ∷ tail ∷ tail ∷ []) bs ≡ true → length bs ≤ n → Decoded (a ∷ bs)
  four_bytes r l p q f =
      due (λ bs. length bs ≤ n → Decoded (a ∷ bs)) r (tail ∷ tail ∷ [])
      (λ b bs m k. due (λ bs. length (b ∷ bs) ≤ n → Decoded (a ∷ b ∷ bs)) tail (tail ∷ [])
      (λ c bs u v. due (λ bs. length (b ∷ c ∷ bs) ≤ n → Decoded (a ∷ b ∷ c ∷ bs)) tail [] (λ d bs x y w s.
      let g = f b c d m k u v x y in
      more (value_4 a b c d) (a ∷ b ∷ c ∷ d ∷ []) bs (scalar_high (value_4 a b c d) (omega arith) g.1)
      (encode_back_4 a b c d l (omega arith) (omega arith) u v x y g.0) (shorter bs (omega arith) w)) bs) bs)

  decode_first : (bs : List ℕ) → well_formed (a ∷ bs) ≡ true → length bs ≤ n → Decoded (a ∷ bs)
  unfolding well_formed_from
  decode_first bs =
      by_row (λ (o : Option (List Range)). (elim o as (λ _. Bool) [ none ↦ false | some rs ↦ well_formed_from rs bs ]) ≡ true → length bs ≤ n → Decoded (a ∷ bs)) a (
        λ l h. one_byte h bs,
        (
          λ l h. two_bytes l h bs,
          (
            λ l h. three_bytes (0xA0 to 0xBF) (omega arith) (omega arith) (omega arith) (omega arith) (λ b c m k u v. (omega arith, scalar_low (value_3 a b c) (omega arith))) bs,
            (
              λ l h. three_bytes tail (omega arith) (omega arith) (omega arith) (omega arith) (λ b c m k u v. (omega arith, scalar_low (value_3 a b c) (omega arith))) bs,
              (
                λ l h. three_bytes (0x80 to 0x9F) (omega arith) (omega arith) (omega arith) (omega arith) (λ b c m k u v. (omega arith, scalar_low (value_3 a b c) (omega arith))) bs,
                (
                  λ l h. three_bytes tail (omega arith) (omega arith) (omega arith) (omega arith) (λ b c m k u v. (omega arith, scalar_high (value_3 a b c) (omega arith) (omega arith))) bs,
                  (
                    λ l h. four_bytes (0x90 to 0xBF) (omega arith) (omega arith) (omega arith) (λ b c d m k u v x y. (omega arith, omega arith)) bs,
                    (
                      λ l h. four_bytes tail (omega arith) (omega arith) (omega arith) (λ b c d m k u v x y. (omega arith, omega arith)) bs,
                      (
                        λ l h. four_bytes (0x80 to 0x8F) (omega arith) (omega arith) (omega arith) (λ b c d m k u v x y. (omega arith, omega arith)) bs,
                        tt,
                      ),
                    ),
                  ),
                ),
              ),
            ),
          ),
        ),
      )
      (λ w. clash (cc))

no_bytes : (bs : List ℕ) → length bs ≤ 0 → Decoded bs
unfolding encoded
no_bytes [] l = record { values = []; scalar = tt; is = refl }
no_bytes (b ∷ bs) l = absurd (omega arith)

decode_to : (n : ℕ) (bs : List ℕ) → length bs ≤ n → well_formed bs ≡ true → Decoded bs
decode_to zero bs l w = no_bytes bs l
decode_to (suc n) [] l w = no_bytes [] (omega arith)
decode_to (suc n) (b ∷ bs) l w = decode_first n (decode_to n) b bs w (omega arith)

decode : (bs : List ℕ) → well_formed bs ≡ true → Decoded bs
decode bs w = decode_to (length bs) bs (omega arith) w

-- the table's meaning
pub meaning : Meaning
meaning text = (decode text, λ d. subst (λ (xs : List ℕ). well_formed xs ≡ true) d.is (encoded_formed d.values d.scalar))
