-- What accepted projections promise, over document 01's rules: an output tells which body it came from.
-- The first three speak of a way to project or to write typed functions, so that a wrong way can be seen to break them; the last three of two answers.
use Rattle.std.specs.Prelude.{ℕ, ◌≡◌, ◌↔◌, List, ◌++◌, length}
use Rattle.std.proofs.Math.Option.{some}
use Rattle.rules.specs.Syntax.{ImplDef, CompiledSchema}
use Rattle.rules.specs.Refusal.{Result, ok}
use Rattle.rules.specs.Image.{readable}
use Rattle.rules.specs.Bodies.{PortableFunction}
use Rattle.rules.specs.Project.{find_implementation}
use Rattle.rules.specs.Answer.{project_answer}
use Rattle.promises.specs.Bare.{SameBodies}
use Rattle.promises.specs.Order.{Relisted}
use Rattle.promises.specs.Written.{written, Together}
use Rattle.promises.specs.Projects.{Bytes, Projects}

-- 1. Same words, same bodies: under every name the two implementations of an image list functions with the same statements, but for types written on lets
abbrev pub SameWordsSameBodies : (List PortableFunction → List ℕ) → Type 0
SameWordsSameBodies out =
    (image : List ℕ) (m n : ℕ) (i j : ImplDef) (fs gs : List PortableFunction) → Projects image m i fs → Projects image n j gs
    → out fs ≡ out gs → SameBodies i j

-- 2. No output begins another, be it of another image
abbrev pub NoneBeginsAnother : (List PortableFunction → List ℕ) → Type 0
NoneBeginsAnother out =
    (image image' : List ℕ) (m n : ℕ) (i j : ImplDef) (fs gs : List PortableFunction) → Projects image m i fs → Projects image' n j gs
    → (rest : List ℕ) → out fs ++ rest ≡ out gs → out fs ≡ out gs

-- 3. Order of listing does not matter: what one implementation projects to, the other does
abbrev pub OrderOfListing : (CompiledSchema → ImplDef → Result (ℕ × List PortableFunction)) → Type 0
OrderOfListing project =
    (schema : CompiledSchema) (i j : ImplDef) → Relisted i j → (p : ℕ × List PortableFunction) → (project schema i ≡ ok p) ↔ (project schema j ≡ ok p)

-- 1, of two accepted answers on one image that wrote the same bytes, into outputs of any lengths
abbrev pub SameBytesSameBodies : Type 0
SameBytesSameBodies =
    (image : List ℕ) (m n : ℕ) (output output' detail detail' : List ℕ) → Bytes image
    → (project_answer image m output detail).number ≡ 0 → (project_answer image n output' detail').number ≡ 0
    → written (project_answer image m output detail) ≡ written (project_answer image n output' detail')
    → (schema : CompiledSchema) (i j : ImplDef) → readable image ≡ some schema → find_implementation schema m ≡ ok i → find_implementation schema n ≡ ok j
    → SameBodies i j

-- 2, of two accepted answers on any images: where the bytes of one begin those of the other, they are the same
abbrev pub NoAnswerBeginsAnother : Type 0
NoAnswerBeginsAnother =
    (image image' : List ℕ) (m n : ℕ) (output output' detail detail' : List ℕ) → Bytes image → Bytes image'
    → (project_answer image m output detail).number ≡ 0 → (project_answer image' n output' detail').number ≡ 0
    → (rest : List ℕ) → written (project_answer image m output detail) ++ rest ≡ written (project_answer image' n output' detail')
    → written (project_answer image m output detail) ≡ written (project_answer image' n output' detail')

-- 3, of two answers on one image with equal room: accepted together with the same bytes, 24 together with the same need
abbrev pub AnswersTogether : Type 0
AnswersTogether =
    (image : List ℕ) (schema : CompiledSchema) (m n : ℕ) (i j : ImplDef) (output output' detail detail' : List ℕ)
    → readable image ≡ some schema → find_implementation schema m ≡ ok i → find_implementation schema n ≡ ok j → Relisted i j
    → length output ≡ length output' → length detail ≡ length detail'
    → Together (project_answer image m output detail) (project_answer image n output' detail')
