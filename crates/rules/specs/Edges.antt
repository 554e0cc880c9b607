-- At the edges: document 01's P cases as one table, a question with its answer's words in each row; rows that guard what is easy to get wrong; texts at the ends of what characters can be.
-- `Answered` is the claim that every row of a table holds.
use Rattle.std.specs.Prelude.{ℕ, zero, suc, ◌^◌, ◌+◌, ◌-◌, ◌/◌, ◌%◌, ◌≡◌, cond, List, [], ◌∷◌, ◌++◌, map, length}
use Rattle.std.proofs.Math.Option.{Option, none, some}
use Rattle.rules.specs.Words.{NONE, bytes_of}
use Rattle.rules.specs.Syntax.{ResolvedType, TypeExpr, Expr, FnBody, Param, ImplFnDef, TraitReturn, TraitFnDef, TypeDef, CompiledSchema, run}
use Rattle.rules.specs.Options.{is_some}
use Rattle.rules.specs.Image.{readable}
use Rattle.rules.specs.Types.{BOOL, STRING, I64}
use Rattle.rules.specs.Refusal.{Result, ok, err}
use Rattle.rules.specs.Substitute.{Counted, too_large, done, substitute_type}
use Rattle.rules.specs.Infer.{PortableExpr, infer_expr}
use Rattle.rules.specs.Output.{value_words}
use Rattle.rules.specs.Answer.{project_call}
use Rattle.rules.specs.Projone.{projone}

pub data Question : Type 0 where
  typing : List (Param ResolvedType) → Option ResolvedType → Expr → Question  -- locals, expected type, an expression of function 7, in context 3
  resolving : CompiledSchema → List (Param ResolvedType) → TypeExpr → Question
  projecting : ℕ → CompiledSchema → Question  -- an implementation's row
  printing : List ℕ → Question  -- what projone prints of an image, line after line
  holding : List ℕ → List ℕ → List ℕ → Question  -- a text between others, as the only row of an image: a name's, then a string's

-- typed: 0 and the value's words; refused: number, names, detail words
unfoldable pub typed_words : Result PortableExpr → List ℕ
typed_words (ok e) = 0 ∷ value_words e
typed_words (err r) = r.number ∷ r.function ∷ r.second ∷ r.detail

-- resolved: 0, the visits and the run; too large: 8
unfoldable pub counted_words : Counted ResolvedType → List ℕ
counted_words too_large = 8 ∷ []
counted_words (done visits t) = 0 ∷ visits ∷ run t

-- projected: 0, the visits and the output words; refused: as above
unfoldable pub projected_words : Result (ℕ × List ℕ) → List ℕ
projected_words (ok p) = 0 ∷ p.0 ∷ p.1
projected_words (err r) = r.number ∷ r.function ∷ r.second ∷ r.detail

-- lines, each with its count before it
unfoldable pub ruled : List (List ℕ) → List ℕ
ruled [] = []
ruled (l ∷ ls) = length l ∷ (l ++ ruled ls)

-- an image of its texts, one row of them and the trailer: the bytes before the row's text, the text, those behind it
abbrev one_name : List ℕ → List ℕ → List ℕ → List ℕ
one_name before text behind =
    let texts = before ++ text ++ behind in
    let n = length texts in
    texts ++ bytes_of (length before ∷ length text ∷ NONE ∷ NONE ∷ n ∷ (n + 16) ∷ (n + 16) ∷ (n + 16) ∷ 1 ∷ (n + 40) ∷ [])

abbrev one_string : List ℕ → List ℕ → List ℕ → List ℕ
one_string before text behind =
    let texts = before ++ text ++ behind in
    let n = length texts in
    texts ++ bytes_of (length before ∷ length text ∷ n ∷ n ∷ (n + 8) ∷ (n + 8) ∷ 1 ∷ (n + 32) ∷ [])

-- readable: 0; not: 2
unfoldable pub read_word : List ℕ → ℕ
read_word image = cond (is_some (readable image)) 0 2

unfoldable pub answer_to : Question → List ℕ
answer_to (typing locals expected e) = typed_words (infer_expr (record { function = 7; locals = locals; fields = []; self_type = ResolvedType.named 0 }) e expected 3)
answer_to (resolving schema params e) = counted_words (substitute_type schema params e)
answer_to (projecting row schema) = projected_words (project_call row schema)
answer_to (printing image) = ruled (projone image)
answer_to (holding before text behind) = read_word (one_name before text behind) ∷ read_word (one_string before text behind) ∷ []

-- Int and UInt of a number's 64 bits
abbrev int : ℕ → Expr
int n = Expr.literal 0 (n % 2 ^ 32) (n / 2 ^ 32)

abbrev uint : ℕ → Expr
uint n = Expr.literal 1 (n % 2 ^ 32) (n / 2 ^ 32)

-- -n in 64 bits
abbrev minus : ℕ → ℕ
minus n = 2 ^ 64 - n

abbrev under : ResolvedType → Expr → Question
under t e = typing [] (some t) e

abbrev I8 : ResolvedType
I8 = ResolvedType.plain 5

abbrev U8 : ResolvedType
U8 = ResolvedType.plain 1

-- names A (0) and T (1); A<T> = Optional<T> is definition 0
abbrev optional_alias : CompiledSchema
optional_alias = record {
  names = record { text = 65 ∷ []; definition = 0; alias = none } ∷ record { text = 84 ∷ []; definition = NONE; alias = none } ∷ [];
  strings = [];
  definitions = TypeDef.generic_alias (record { type_params = 1 ∷ []; target_type = TypeExpr.one 64 (TypeExpr.named 1) }) ∷ [];
}

-- the whole case: texts, names, pool, definitions, trailer
abbrev pub whole_image : List ℕ
whole_image =
    (103 ∷ 101 ∷ 116 ∷ 71 ∷ 77 ∷ [])
    ++ bytes_of (0 ∷ 3 ∷ NONE ∷ NONE ∷ 3 ∷ 1 ∷ 1 ∷ NONE ∷ 4 ∷ 1 ∷ 0 ∷ NONE
    ∷ 0 ∷ 1 ∷ 0 ∷ 1 ∷ 0 ∷ 0 ∷ 2 ∷ 1 ∷ 1 ∷ 1 ∷ 48 ∷ 0 ∷ 0 ∷ 1 ∷ 0 ∷ 0 ∷ 1 ∷ 1 ∷ 1 ∷ 1 ∷ 2 ∷ 1 ∷ 0 ∷ 5 ∷ 0
    ∷ 1 ∷ 0 ∷ 3 ∷ 1 ∷ 4 ∷ 8
    ∷ 5 ∷ 53 ∷ 53 ∷ 153 ∷ 1 ∷ 201 ∷ [])

pub record Row : Type 0 where
  pub question : Question
  pub answer : List ℕ

abbrev row : Question → List ℕ → Row
row q a = record { question = q; answer = a }

abbrev pub table : List Row
table =
    row (under I8 (int 127)) (0 ∷ 5 ∷ 0 ∷ 127 ∷ 0 ∷ [])
    ∷ row (under I8 (int 128)) (20 ∷ 7 ∷ NONE ∷ 0 ∷ 5 ∷ 8 ∷ [])
    ∷ row (under I8 (Expr.unary 0 (int 128))) (20 ∷ 7 ∷ NONE ∷ 0 ∷ 5 ∷ 8 ∷ [])
    ∷ row (under I8 (Expr.unary 0 (int (minus 128)))) (0 ∷ 5 ∷ 11 ∷ 0 ∷ 5 ∷ 0 ∷ 4294967168 ∷ 4294967295 ∷ [])
    ∷ row (under (ResolvedType.sub 1 1) (int (minus 2))) (20 ∷ 7 ∷ NONE ∷ 0 ∷ 16 ∷ 1 ∷ 1 ∷ 8 ∷ [])
    ∷ row (under (ResolvedType.sub 1 1) (int (minus 1))) (0 ∷ 16 ∷ 1 ∷ 1 ∷ 0 ∷ 4294967295 ∷ 4294967295 ∷ [])
    ∷ row (under (ResolvedType.sub 1 1) (int 0)) (0 ∷ 16 ∷ 1 ∷ 1 ∷ 0 ∷ 0 ∷ 0 ∷ [])
    ∷ row (under (ResolvedType.sub 1 1) (int 1)) (20 ∷ 7 ∷ NONE ∷ 0 ∷ 16 ∷ 1 ∷ 1 ∷ 8 ∷ [])
    ∷ row (under I8 (uint 127)) (0 ∷ 5 ∷ 1 ∷ 127 ∷ 0 ∷ [])
    ∷ row (under I8 (uint 128)) (20 ∷ 7 ∷ NONE ∷ 1 ∷ 5 ∷ 4 ∷ [])
    ∷ row (under (ResolvedType.sub 1 1) (uint 0)) (0 ∷ 16 ∷ 1 ∷ 1 ∷ 1 ∷ 0 ∷ 0 ∷ [])
    ∷ row (under (ResolvedType.sub 1 1) (uint 1)) (20 ∷ 7 ∷ NONE ∷ 1 ∷ 16 ∷ 1 ∷ 1 ∷ 4 ∷ [])
    ∷ row (under (ResolvedType.sub 0 64) (uint (2 ^ 64 - 1))) (0 ∷ 16 ∷ 0 ∷ 64 ∷ 1 ∷ 4294967295 ∷ 4294967295 ∷ [])
    ∷ row (under (ResolvedType.sub 1 64) (uint 9223372036854775807)) (0 ∷ 16 ∷ 1 ∷ 64 ∷ 1 ∷ 4294967295 ∷ 2147483647 ∷ [])
    ∷ row (under (ResolvedType.sub 1 64) (uint 9223372036854775808)) (20 ∷ 7 ∷ NONE ∷ 1 ∷ 16 ∷ 1 ∷ 64 ∷ 4 ∷ [])
    ∷ row (under BOOL (Expr.binary 6 (int 1) (int 2))) (0 ∷ 0 ∷ 10 ∷ 6 ∷ 8 ∷ 0 ∷ 1 ∷ 0 ∷ 8 ∷ 0 ∷ 2 ∷ 0 ∷ [])
    ∷ row (typing [] none (Expr.binary 0 (int 1) (uint 2))) (0 ∷ 8 ∷ 10 ∷ 0 ∷ 8 ∷ 0 ∷ 1 ∷ 0 ∷ 8 ∷ 1 ∷ 2 ∷ 0 ∷ [])
    ∷ row (typing [] none (Expr.unary 0 (uint 1))) (21 ∷ 7 ∷ NONE ∷ 10 ∷ 4 ∷ [])
    ∷ row (typing (record { name = 3; ty = U8 } ∷ []) none (Expr.binary 4 (Expr.bool 1) (Expr.local 3))) (20 ∷ 7 ∷ NONE ∷ 6 ∷ 1 ∷ 0 ∷ [])
    ∷ row (resolving optional_alias (record { name = 1; ty = STRING } ∷ []) (TypeExpr.two 68 (TypeExpr.generic 0 (TypeExpr.named 1)) (TypeExpr.named 1))) (0 ∷ 6 ∷ 68 ∷ 64 ∷ 32 ∷ 32 ∷ [])
    ∷ row (printing whole_image) (5 ∷ 0 ∷ NONE ∷ NONE ∷ 48 ∷ 1 ∷ 1 ∷ 1 ∷ 1 ∷ 0 ∷ 1 ∷ 0 ∷ 1 ∷ 1 ∷ 1 ∷ 1 ∷ 1 ∷ 1 ∷ 1 ∷ 2 ∷ 1 ∷ 1 ∷ 1 ∷ 1 ∷ 1 ∷ 0 ∷ 1 ∷ 5 ∷ 1 ∷ 0 ∷ [])
    ∷ []

-- names A (0), T (1), and B (2), which is an alias to u16 and a definition too; A<T> = A<T> is definition 0
abbrev cyclic_alias : CompiledSchema
cyclic_alias = record {
  names = record { text = 65 ∷ []; definition = 0; alias = none } ∷ record { text = 84 ∷ []; definition = NONE; alias = none }
      ∷ record { text = 66 ∷ []; definition = 0; alias = some (ResolvedType.plain 2) } ∷ [];
  strings = [];
  definitions = TypeDef.generic_alias (record { type_params = 1 ∷ []; target_type = TypeExpr.generic 0 (TypeExpr.named 1) }) ∷ [];
}

-- a trait (0) that asks for functions without parameters, a message (1), an implementation (2) that lists functions with empty bodies
abbrev asked : ℕ → TraitFnDef
asked f = record { name = f; params = []; return_type = TraitReturn.no_return }

abbrev empty : ℕ → ImplFnDef
empty f = record { name = f; params = []; return_type = none; body = FnBody.block [] }

abbrev implements : List TraitFnDef → List ImplFnDef → CompiledSchema
implements asks has = record {
  names = [];
  strings = [];
  definitions = TypeDef.trait (record { name = 0; type_params = []; functions = asks }) ∷ TypeDef.message (record { fields = [] })
      ∷ TypeDef.implementation (record { trait_id = 0; trait_name = 0; target_type = ResolvedType.named 1; type_args = []; functions = has }) ∷ [];
}

-- K<T> = bool is definition 0: K nested n deep takes 2 n + 1 visits
abbrev drops : CompiledSchema
drops = record {
  names = record { text = 75 ∷ []; definition = 0; alias = none } ∷ record { text = 84 ∷ []; definition = NONE; alias = none } ∷ [];
  strings = [];
  definitions = TypeDef.generic_alias (record { type_params = 1 ∷ []; target_type = TypeExpr.leaf BOOL }) ∷ [];
}

unfoldable pub nested : ℕ → TypeExpr
nested zero = TypeExpr.leaf BOOL
nested (suc n) = TypeExpr.generic 0 (nested n)

-- a run of n + 1 words
unfoldable pub optionals : ℕ → TypeExpr
optionals zero = TypeExpr.leaf BOOL
optionals (suc n) = TypeExpr.one 64 (optionals n)

-- 1,024 visits and 64 words pass, one more does not; an alias to a primitive before a definition; outer parameters hidden from a target; a cycle; u8 and sub-byte u8; of equal names the last; left's hint before right's; 9 before 10, 10 before 11; trait order
abbrev pub guards : List Row
guards =
    row (resolving drops [] (TypeExpr.one 64 (nested 511))) (0 ∷ 1024 ∷ 64 ∷ 0 ∷ [])
    ∷ row (resolving drops [] (nested 512)) (8 ∷ [])
    ∷ row (resolving drops [] (TypeExpr.generic 0 (optionals 63))) (0 ∷ 66 ∷ 0 ∷ [])
    ∷ row (resolving drops [] (TypeExpr.generic 0 (optionals 64))) (8 ∷ [])
    ∷ row (resolving cyclic_alias [] (TypeExpr.named 2)) (0 ∷ 1 ∷ 2 ∷ [])
    ∷ row (resolving optional_alias (record { name = 1; ty = STRING } ∷ []) (TypeExpr.generic 0 (TypeExpr.leaf I64))) (0 ∷ 4 ∷ 64 ∷ 8 ∷ [])
    ∷ row (resolving cyclic_alias [] (TypeExpr.generic 0 (TypeExpr.leaf I64))) (8 ∷ [])
    ∷ row (typing (record { name = 3; ty = ResolvedType.sub 0 8 } ∷ []) (some U8) (Expr.local 3)) (20 ∷ 7 ∷ NONE ∷ 3 ∷ 1 ∷ 16 ∷ 0 ∷ 8 ∷ [])
    ∷ row (typing (record { name = 3; ty = BOOL } ∷ record { name = 3; ty = U8 } ∷ []) none (Expr.local 3)) (0 ∷ 1 ∷ 5 ∷ 3 ∷ [])
    ∷ row (typing (record { name = 3; ty = BOOL } ∷ record { name = 4; ty = U8 } ∷ []) none (Expr.binary 4 (Expr.local 3) (Expr.local 4))) (20 ∷ 7 ∷ NONE ∷ 6 ∷ 0 ∷ 1 ∷ [])
    ∷ row (projecting 2 (implements (asked 4 ∷ []) (empty 5 ∷ empty 4 ∷ empty 4 ∷ []))) (9 ∷ 4 ∷ NONE ∷ [])
    ∷ row (projecting 2 (implements (asked 4 ∷ []) (empty 5 ∷ []))) (10 ∷ 5 ∷ NONE ∷ [])
    ∷ row (projecting 2 (implements (asked 4 ∷ asked 5 ∷ []) (empty 5 ∷ empty 4 ∷ []))) (0 ∷ 0 ∷ 2 ∷ 4 ∷ 0 ∷ 0 ∷ 0 ∷ 5 ∷ 0 ∷ 0 ∷ 0 ∷ [])
    ∷ []

-- a text that both rows may have, and one that neither may
abbrev good : List ℕ → Row
good text = row (holding [] text []) (0 ∷ 0 ∷ [])

abbrev bad : List ℕ → Row
bad text = row (holding [] text []) (2 ∷ 2 ∷ [])

-- two bytes for one, three for two, surrogates, four for three, past 10FFFF, no character's start, cut; the last of one byte, the first and the last of two, three and four, those beside the surrogates; U+0000 and U+FEFF;
-- a row that begins or ends inside a character; bytes beside the row, which are free; nothing inside a character, which is a string and no name
abbrev pub texts : List Row
texts =
    bad (0xC0 ∷ 0x80 ∷ [])
    ∷ bad (0xC1 ∷ 0xBF ∷ [])
    ∷ bad (0xE0 ∷ 0x9F ∷ 0xBF ∷ [])
    ∷ bad (0xED ∷ 0xA0 ∷ 0x80 ∷ [])
    ∷ bad (0xED ∷ 0xBF ∷ 0xBF ∷ [])
    ∷ bad (0xF0 ∷ 0x8F ∷ 0xBF ∷ 0xBF ∷ [])
    ∷ bad (0xF4 ∷ 0x90 ∷ 0x80 ∷ 0x80 ∷ [])
    ∷ bad (0xF5 ∷ 0x80 ∷ 0x80 ∷ 0x80 ∷ [])
    ∷ bad (0x80 ∷ [])
    ∷ bad (0xC2 ∷ [])
    ∷ bad (0xE1 ∷ 0x80 ∷ [])
    ∷ bad (0xF1 ∷ 0x80 ∷ 0x80 ∷ [])
    ∷ good (0x7F ∷ [])
    ∷ good (0xC2 ∷ 0x80 ∷ [])
    ∷ good (0xDF ∷ 0xBF ∷ [])
    ∷ good (0xE0 ∷ 0xA0 ∷ 0x80 ∷ [])
    ∷ good (0xED ∷ 0x9F ∷ 0xBF ∷ [])
    ∷ good (0xEE ∷ 0x80 ∷ 0x80 ∷ [])
    ∷ good (0xEF ∷ 0xBF ∷ 0xBF ∷ [])
    ∷ good (0xF0 ∷ 0x90 ∷ 0x80 ∷ 0x80 ∷ [])
    ∷ good (0xF4 ∷ 0x8F ∷ 0xBF ∷ 0xBF ∷ [])
    ∷ good (0x00 ∷ [])
    ∷ good (0xEF ∷ 0xBB ∷ 0xBF ∷ [])
    ∷ row (holding (0xC3 ∷ []) (0xA9 ∷ []) []) (2 ∷ 2 ∷ [])
    ∷ row (holding [] (0xC3 ∷ []) (0xA9 ∷ [])) (2 ∷ 2 ∷ [])
    ∷ row (holding (0xFF ∷ []) (0x41 ∷ []) (0xC3 ∷ [])) (0 ∷ 0 ∷ [])
    ∷ row (holding (0xC3 ∷ []) [] (0xA9 ∷ [])) (2 ∷ 0 ∷ [])
    ∷ []

-- every question of some rows has the answer beside it
abbrev pub Answered : List Row → Type 0
Answered rows = map (λ row. answer_to row.question) rows ≡ map (λ row. row.answer) rows
