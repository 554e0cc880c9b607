-- One function: found, checked, its signature and its body. Assumes nothing.
use Prim.Native.Nat.{ℕ}
use mathlib.Core.Path.{◌≡◌, refl, sym, ap, subst, ◌∙◌}
use mathlib.Core.Bool.{true, false}
use mathlib.Core.List.{List}
use mathlib.Core.Option.{some}
use Rattle.std.specs.Prelude.{Some, None}
use Rattle.rules.specs.Syntax.{MessageDef, ImplDef}
use Rattle.rules.specs.Refusal.{in_function}
use Rattle.rules.specs.CheckSignature.{check_signature}
use Rattle.rules.specs.Project.{find_function}
use Rattle.rules.specs.Output.{signature_words}
use Rattle.image_layout.specs.declared.Layout.{Layout}
use Rattle.image_layout.specs.Open.{pool_words}
use Rattle.pool_bodies.specs.StatementAt.{BodyStands}
use Rattle.answers.specs.declared.answer.Outcome.{Outcome}
use Rattle.answers.specs.Refusals.{refusal_of}
use Rattle.write_words.specs.Written.{Written}
use Rattle.locals.specs.Rows.{Rows}
use Rattle.rules.specs.declared.ids.NameId.{NameId}
use Rattle.infer_context.specs.InContext.{InContext}
use Rattle.project_outcome.specs.Outcomes.{Passes, ComesTo}
use Rattle.impl_rows.specs.Found.{Finds}
use Rattle.impl_rows.proofs.Has.{Has, has, lacks}
use Rattle.project_function.specs.Made.{body_words_of}
use Rattle.project_outcome.proofs.Coming.{comes_same, comes_err, comes_behind}
use Rattle.impl_functions.specs.Functions.{FunctionHere}
use Rattle.project_functions.specs.declared.parts.Parts.{Parts}
use Rattle.project_functions.specs.Steps.{one_words}
use Rattle.project_functions.specs.Asked.{Stand, One}
use Rattle.project_functions.proofs.StepLaws.{found_name, context, one_missing, one_refused, one_goes}
use Rattle.project_outcome.proofs.Passing.{not_passed, was_passed}
use Rattle.project_functions.proofs.Entering.{same_name}

module _ {l : Layout} {params : List ℕ} {at : ℕ} (k : One l params at) (impl : ImplDef) (message : MessageDef)
    {name : ℕ} (named : name ≡ k.here.tree.name) where
  pub name_is : name ≡ k.signature.name
  name_is = named ∙ sym (same_name k)

  abbrev ComesHere : ℕ → ℕ → List ℕ → List ℕ → Outcome → Type 0
  ComesHere limit to old new o = ComesTo (one_words impl message k.signature) limit to old new o

  -- 11
  pub missing : Finds (FunctionHere l) (find_function name impl.functions) None → {o : Outcome} → o.ok ≡ false → refusal_of o.refusal ≡ in_function 11 name → {limit to : ℕ} {old new : List ℕ} → ComesHere limit to old new o
  missing found z e = comes_err (one_missing impl message k.signature (ap (λ (x : ℕ). find_function x impl.functions) (sym name_is) ∙ lacks found)) z (e ∙ ap (in_function 11) name_is)

  module _ {start : ℕ} (found : Finds (FunctionHere l) (find_function name impl.functions) (Some start)) where
    abbrev pub hit : Has (FunctionHere l) (find_function name impl.functions) start
    hit = has found

    is_found : find_function k.signature.name impl.functions ≡ some hit.a
    is_found = ap (λ (x : ℕ). find_function x impl.functions) (sym name_is) ∙ hit.is

    module _ {c : Outcome} (checked : Passes (check_signature hit.a k.signature) c) where
      pub not_alike : c.ok ≡ false → {limit to : ℕ} {old new : List ℕ} → ComesHere limit to old new c
      not_alike n = comes_err (one_refused impl message k.signature is_found (not_passed checked n)) n refl

      pub alike : c.ok ≡ true → {limit to a : ℕ} {old mid new : List ℕ} → Written limit to (signature_words name k.signature.params k.signature.return_type) old a mid
          → {r : Outcome} → ComesTo (body_words_of (context impl message k.signature hit.a) k.signature.return_type hit.a.body) limit a mid new r → ComesHere limit to old new r
      alike z {limit} {to} {a} {old} {mid} w b = comes_same (one_goes impl message k.signature is_found (was_passed checked z))
          (comes_behind (subst (λ (x : ℕ). Written limit to (signature_words x k.signature.params k.signature.return_type) old a mid) name_is w) b)

    -- the body's context
    pub in_context : {places : List ℕ} {parts : Parts} → Stand l places parts impl message → {names words lens : List ℕ} {f : NameId} {count : ℕ} → f.0 ≡ name → Rows l.names.rows names words lens count 0 k.signature.params
        → InContext l names words lens (record { function = f; fields = parts.fields; target = parts.target; count = count }) (context impl message k.signature hit.a)
    in_context s e t = record {
      function = e ∙ found_name name impl.functions hit.is;
      locals = t;
      fields_end = s.fields_end;
      fields = s.fields_at;
      target_end = s.target_end;
      target = s.target_at.words_at;
      stored = s.target_at.good;
    }

    pub body_at : {b : ℕ} → b ≡ hit.stands.parts.return_end → BodyStands l.names.rows l.strings.rows (pool_words l) hit.a.body b hit.behind
    body_at e = subst (λ (m : ℕ). BodyStands l.names.rows l.strings.rows (pool_words l) hit.a.body m hit.behind) (sym e) hit.stands.parts.body_at
