-- The promises hold.
use Prim.Native.Nat.{ℕ}
use mathlib.Core.Path.{◌≡◌, sym, ap, subst, ◌∙◌}
use mathlib.Core.List.{List, [], ◌++◌, append-nil}
use Rattle.rules.specs.Words.{bytes_of}
use Rattle.rules.specs.Syntax.{ImplDef, CompiledSchema}
use Rattle.rules.specs.Refusal.{ok}
use Rattle.rules.specs.Bodies.{PortableFunction}
use Rattle.rules.specs.Project.{find_implementation, project_impl}
use Rattle.rules.specs.Output.{functions_words}
use Rattle.rules.specs.Answer.{project_call}
use Rattle.promises.specs.Bare.{SameBodies}
use Rattle.promises.specs.Projects.{Projects}
use Rattle.promises.specs.Promises.{SameWordsSameBodies, NoneBeginsAnother, OrderOfListing, SameBytesSameBodies, NoAnswerBeginsAnother, AnswersTogether}
use Rattle.promises.proofs.Results.{steps, goes_on, same_ok}
use Rattle.promises.proofs.Listing.{same_bodies}
use Rattle.promises.proofs.Order.{relisted}
use Rattle.promises.proofs.Answers.{projected, together}
use Rattle.promises.proofs.Outputs.{same_functions, same_from_bytes}

-- implementations of one image with the same typed functions have the same bodies
one_image : {image : List ℕ} {m n : ℕ} {i j : ImplDef} {fs gs : List PortableFunction} → Projects image m i fs → Projects image n j gs → fs ≡ gs → SameBodies i j
one_image {image} {m} {n} {i} {j} {fs} {gs} p q e =
    let s : p.schema ≡ q.schema = cc in
    same_bodies q.schema i j p.visits q.visits gs
    (subst (λ (s : CompiledSchema). project_impl s i ≡ ok (p.visits, gs)) s (subst (λ (l : List PortableFunction). project_impl p.schema i ≡ ok (p.visits, l)) e p.is_projected)) q.is_projected

pub same_words_same_bodies : SameWordsSameBodies functions_words
same_words_same_bodies image m n i j fs gs p q e = one_image p q (same_functions p q [] (append-nil (functions_words fs) ∙ e))

pub none_begins_another : NoneBeginsAnother functions_words
none_begins_another image image' m n i j fs gs p q rest e = ap functions_words (same_functions p q rest e)

pub order_of_listing : OrderOfListing project_impl
order_of_listing = relisted

pub same_bytes_same_bodies : SameBytesSameBodies
same_bytes_same_bodies image m n output output' detail detail' b zero zero' e schema i j is_schema is_i is_j =
    let p = projected image m output detail zero in
    let q = projected image n output' detail' zero' in
    let fs = same_from_bytes p.projects q.projects b b [] (append-nil (bytes_of (functions_words p.functions)) ∙ sym p.bytes ∙ e ∙ q.bytes) in
    let s : p.projects.schema ≡ schema = cc in
    let t : q.projects.schema ≡ schema = cc in
    let x : i ≡ p.impl = same_ok _ _ (sym is_i ∙ ap (λ (s : CompiledSchema). find_implementation s m) (sym s) ∙ p.projects.is_impl) in
    let y : j ≡ q.impl = same_ok _ _ (sym is_j ∙ ap (λ (s : CompiledSchema). find_implementation s n) (sym t) ∙ q.projects.is_impl) in
    rw (x, y) (one_image p.projects q.projects fs)

pub no_answer_begins_another : NoAnswerBeginsAnother
no_answer_begins_another image image' m n output output' detail detail' b c zero zero' rest e =
    let p = projected image m output detail zero in
    let q = projected image' n output' detail' zero' in
    let fs = same_from_bytes p.projects q.projects b c rest (ap (λ (l : List ℕ). l ++ rest) (sym p.bytes) ∙ e ∙ q.bytes) in
    p.bytes ∙ ap (λ (l : List PortableFunction). bytes_of (functions_words l)) fs ∙ sym q.bytes

-- a call is accepted as its implementation is
module _ (schema : CompiledSchema) (m n : ℕ) (i j : ImplDef) (is_i : find_implementation schema m ≡ ok i) (is_j : find_implementation schema n ≡ ok j) where
  call_one_way : (p : ℕ × List ℕ) → ((q : ℕ × List PortableFunction) → project_impl schema i ≡ ok q → project_impl schema j ≡ ok q) → project_call m schema ≡ ok p → project_call n schema ≡ ok p
  unfolding project_call
  call_one_way p h e =
      let a = steps _ _ _ e in
      let b = steps _ _ _ a.behind in
      let k : i ≡ a.value = cc in
      goes_on _ _ _ _ is_j (goes_on _ _ _ _ (h b.value (rw k b.before)) b.behind)

pub answers_together : AnswersTogether
answers_together image schema m n i j output output' detail detail' e is_i is_j r room lent =
    together image schema m n output output' detail detail' e room lent (λ p.
    (call_one_way schema m n i j is_i is_j p (λ q. (relisted schema i j r q).0), call_one_way schema n m j i is_j is_i p (λ q. (relisted schema i j r q).1)))
