-- The words of typed output read back to it and nothing else does.
use Prim.Native.Nat.{ℕ, zero, suc, ◌≤◌}
use mathlib.Core.Path.{◌≡◌, refl, sym, ap, ap₂, subst, ◌∙◌}
use mathlib.Core.List.{List, [], ◌∷◌, ◌++◌}
use mathlib.Core.Option.{Option, none, some}
use native.Mathlib.Omega.{arith}
use Rattle.rules.specs.Syntax.{ResolvedType, run}
use Rattle.rules.specs.Reader.{Reader, many, maybe}
use Rattle.rules.specs.Kinds.{expr_kind, statement_kind}
use Rattle.rules.specs.ReadTypes.{resolved_type}
use Rattle.rules.specs.Types.{return_words}
use Rattle.rules.specs.Signatures.{PortableSignature}
use Rattle.rules.specs.Infer.{PortableExpr, PortableExprKind, typed}
use Rattle.rules.specs.Bodies.{PortableStatement, PortableFunction}
use Rattle.rules.specs.Output.{param_words, signature_words, value_words, kind_words, statement_words, function_words, functions_words, signatures_words}
use Rattle.rules.specs.declared.kinds.ExprKind.{ExprKind}
use Rattle.rules.specs.declared.kinds.StatementKind.{StatementKind}
use Rattle.rules.proofs.Codes.{ExprCode, expr_code, StatementCode, statement_code, literal_kind}
use Rattle.rules.specs.Exact.{Reads, Gives, Exact, Run, optional, Few}
use Rattle.rules.proofs.ReadBack.{give_reads, then_reads, last_reads, word_reads}
use Rattle.rules.proofs.Gives as gives
use Rattle.rules.proofs.Exact as exact
use Rattle.rules.proofs.Exact.{maybe_exact, few_exact}
use Rattle.rules.specs.Good.{Stored}
use Rattle.rules.proofs.Types.{type_exact, wide_then, wide_gives}
use Rattle.rules.specs.Typed.{typed_nesting, kind_nesting, TypedValue, TypedKind, TypedNested, TypedStatement, TypedParam, TypedSignature, TypedFunction, kind_node, value_tree, typed_statement_node, typed_statement, typed_param, typed_signature, typed_function}

module _ (names : ℕ) where
  at_kind : (f c : ℕ) (k : ExprKind) {t : ResolvedType} {ws : List ℕ} {x : PortableExprKind} → Stored names t → expr_kind c ≡ k
      → Reads (kind_node names (value_tree names f) k c) ws x → Reads (value_tree names (suc f)) (run t ++ c ∷ ws) (typed t x)
  unfolding value_tree
  at_kind f c k {t} {ws} {x} s q h =
      then_reads _ ((type_exact names).reads t s) (word_reads _ (last_reads _ (subst (λ (k : ExprKind). Reads (kind_node names (value_tree names f) k c) ws x) (sym q) h)))

  value_reads : (f : ℕ) (e : PortableExpr) → TypedValue names e → typed_nesting e ≤ f → Reads (value_tree names f) (value_words e) e
  unfolding value_words kind_words kind_node expr_kind
  value_reads zero (typed t k) g d = absurd (omega arith)
  value_reads (suc f) (typed t (PortableExprKind.literal c low high)) g d = at_kind f c ExprKind.Literal g.0 (literal_kind c g.1) (wide_then _ (give_reads _))
  value_reads (suc f) (typed t (PortableExprKind.bool b)) g d = at_kind f 3 ExprKind.Flag g.0 refl (word_reads _ (give_reads _))
  value_reads (suc f) (typed t (PortableExprKind.string b)) g d = at_kind f 4 ExprKind.Text g.0 refl (word_reads _ (give_reads _))
  value_reads (suc f) (typed t (PortableExprKind.local b)) g d = at_kind f 5 ExprKind.Local g.0 refl (word_reads _ (give_reads _))
  value_reads (suc f) (typed t PortableExprKind.self_ref) g d = at_kind f 6 ExprKind.SelfRef g.0 refl (give_reads _)
  value_reads (suc f) (typed t (PortableExprKind.self_field b)) g d = at_kind f 7 ExprKind.FieldAccess g.0 refl (word_reads _ (give_reads _))
  value_reads (suc f) (typed t (PortableExprKind.binary op l r)) g d =
      at_kind f 10 ExprKind.Binary g.0 refl (word_reads _ (then_reads _ (value_reads f l g.1.0 (omega arith)) (last_reads _ (value_reads f r g.1.1 (omega arith)))))
  value_reads (suc f) (typed t (PortableExprKind.unary op e)) g d = at_kind f 11 ExprKind.Unary g.0 refl (word_reads _ (last_reads _ (value_reads f e g.1 (omega arith))))

  -- what a kind gives, with its code in front
  record KindRun (f : ℕ) (k : PortableExprKind) (ws : List ℕ) : Type 0 where
    is : ws ≡ kind_words k
    good : TypedKind names k
    deep : kind_nesting k ≤ f

  node_gives : (f : ℕ) (part : Reader PortableExpr) → Gives part (Run value_words (TypedNested names f)) → (c : ℕ) (k : ExprKind) → ExprCode k c
      → Gives (kind_node names part k c) (λ x ws. KindRun f x (c ∷ ws))
  unfolding kind_words kind_node
  node_gives f part ih c ExprKind.Literal q = gives.last_gives _ wide_gives (λ n ws h. record { is = ap (λ (l : List ℕ). c ∷ l) h; good = q; deep = omega arith })
  node_gives f part ih c ExprKind.Flag q = gives.word_then (λ b. gives.give_gives _ _ (record { is = ap (λ (w : ℕ). w ∷ b ∷ []) q; good = tt; deep = omega arith }))
  node_gives f part ih c ExprKind.Text q = gives.word_then (λ b. gives.give_gives _ _ (record { is = ap (λ (w : ℕ). w ∷ b ∷ []) q; good = tt; deep = omega arith }))
  node_gives f part ih c ExprKind.Local q = gives.word_then (λ b. gives.give_gives _ _ (record { is = ap (λ (w : ℕ). w ∷ b ∷ []) q; good = tt; deep = omega arith }))
  node_gives f part ih c ExprKind.SelfRef q = gives.give_gives _ _ (record { is = ap (λ (w : ℕ). w ∷ []) q; good = tt; deep = omega arith })
  node_gives f part ih c ExprKind.FieldAccess q = gives.word_then (λ b. gives.give_gives _ _ (record { is = ap (λ (w : ℕ). w ∷ b ∷ []) q; good = tt; deep = omega arith }))
  node_gives f part ih c ExprKind.Call q = gives.fail_gives
  node_gives f part ih c ExprKind.TraitMethodCall q = gives.fail_gives
  node_gives f part ih c ExprKind.Binary q = gives.word_then (λ op. gives.then_gives ih (λ l vs h. gives.last_gives _ ih (λ r ws i.
      record { is = ap₂ (λ (w : ℕ) (l : List ℕ). w ∷ op ∷ l) q (ap₂ ◌++◌ h.is i.is); good = (h.good.good, i.good.good); deep = omega (arith, h.good.deep, i.good.deep) })))
  node_gives f part ih c ExprKind.Unary q = gives.word_then (λ op. gives.last_gives _ ih (λ e ws h.
      record { is = ap₂ (λ (w : ℕ) (l : List ℕ). w ∷ op ∷ l) q h.is; good = h.good.good; deep = omega (arith, h.good.deep) }))
  node_gives f part ih c ExprKind.Unknown q = gives.fail_gives

  value_gives : (f : ℕ) → Gives (value_tree names f) (Run value_words (TypedNested names f))
  unfolding value_tree value_words
  value_gives zero = gives.fail_gives
  value_gives (suc f) = gives.then_gives (type_exact names).gives (λ t vs h. gives.word_then (λ c. gives.last_gives _
      (node_gives f (value_tree names f) (value_gives f) c (expr_kind c) (expr_code c)) (λ k ws i.
      record { is = ap₂ ◌++◌ h.is i.is; good = record { good = (h.good, i.good); deep = omega (arith, i.deep) } })))

  pub value_exact : (f : ℕ) → Exact (value_tree names f) value_words (TypedNested names f)
  value_exact f = record { reads = λ e g. value_reads f e g.good g.deep; gives = value_gives f }

  at_statement : (c : ℕ) (k : StatementKind) {ws : List ℕ} {s : PortableStatement} → statement_kind c ≡ k → Reads (typed_statement_node names k) ws s
      → Reads (typed_statement names) (c ∷ ws) s
  unfolding typed_statement
  at_statement c k {ws} {s} q h = word_reads _ (subst (λ (k : StatementKind). Reads (typed_statement_node names k) ws s) (sym q) h)

  statement_reads : (s : PortableStatement) → TypedStatement names s → Reads (typed_statement names) (statement_words s) s
  unfolding statement_words typed_statement_node statement_kind
  statement_reads (PortableStatement.let_local x t e) g =
      at_statement 1 StatementKind.Let refl (word_reads _ (then_reads _ ((type_exact names).reads t g.0) (last_reads _ ((value_exact 32).reads e g.1))))
  statement_reads (PortableStatement.return none) g = at_statement 2 StatementKind.Return refl (last_reads _ ((maybe_exact (value_exact 32)).reads none tt))
  statement_reads (PortableStatement.return (some e)) g = at_statement 2 StatementKind.Return refl (last_reads _ ((maybe_exact (value_exact 32)).reads (some e) g))
  statement_reads (PortableStatement.assign_self_field f e) g = at_statement 3 StatementKind.Assign refl (word_reads _ (last_reads _ ((value_exact 32).reads e g)))

  -- a return's words, whatever it returns
  return_statement : (v : Option PortableExpr) → statement_words (PortableStatement.return v) ≡ 2 ∷ optional value_words v
  unfolding statement_words
  return_statement none = refl
  return_statement (some e) = refl

  statement_node_gives : (c : ℕ) (k : StatementKind) → StatementCode k c → Gives (typed_statement_node names k) (λ s ws. Run statement_words (TypedStatement names) s (c ∷ ws))
  unfolding statement_words typed_statement_node
  statement_node_gives c StatementKind.Expr q = gives.fail_gives
  statement_node_gives c StatementKind.Let q = gives.word_then (λ x. gives.then_gives (type_exact names).gives (λ t vs h. gives.last_gives _ (value_gives 32) (λ e ws i.
      record { is = ap₂ (λ (w : ℕ) (l : List ℕ). w ∷ x ∷ l) q (ap₂ ◌++◌ h.is i.is); good = (h.good, i.good) })))
  statement_node_gives c StatementKind.Return q = gives.last_gives _ (maybe_exact (value_exact 32)).gives (λ v ws h. record { is = ap₂ ◌∷◌ q h.is ∙ sym (return_statement v); good = h.good })
  statement_node_gives c StatementKind.Assign q = gives.word_then (λ f. gives.last_gives _ (value_gives 32) (λ e ws h.
      record { is = ap₂ (λ (w : ℕ) (l : List ℕ). w ∷ f ∷ l) q h.is; good = h.good }))
  statement_node_gives c StatementKind.Unknown q = gives.fail_gives

  pub typed_statement_exact : Exact (typed_statement names) statement_words (TypedStatement names)
  unfolding typed_statement
  typed_statement_exact = record { reads = statement_reads; gives = gives.word_then (λ c. statement_node_gives c (statement_kind c) (statement_code c)) }

  param_exact : Exact (typed_param names) param_words (TypedParam names)
  unfolding typed_param param_words
  param_exact = record {
    reads = λ p g. word_reads _ (last_reads _ ((type_exact names).reads p.ty g));
    gives = gives.word_then (λ x. gives.last_gives _ (type_exact names).gives (λ t ws h. record { is = ap (λ (l : List ℕ). x ∷ l) h.is; good = h.good }));
  }

  return_optional : (t : Option ResolvedType) → return_words t ≡ optional run t
  unfolding return_words
  return_optional none = refl
  return_optional (some t) = refl

  -- a signature's words, over the whole record
  abbrev pub one_signature : PortableSignature → List ℕ
  one_signature s = signature_words s.name s.params s.return_type

  pub typed_signature_exact : Exact (typed_signature names) one_signature (TypedSignature names)
  unfolding typed_signature signature_words
  typed_signature_exact =
      let params = few_exact param_exact 32 in
      let returns = maybe_exact (type_exact names) in
      record {
        reads = λ s g. word_reads _ (then_reads _ (params.reads s.params g.params)
            (last_reads _ (subst (λ (l : List ℕ). Reads (maybe (resolved_type names)) l s.return_type) (sym (return_optional s.return_type)) (returns.reads s.return_type g.return_type))));
        gives = gives.word_then (λ x. gives.then_gives params.gives (λ ps vs h. gives.last_gives _ returns.gives (λ t ws i.
            record { is = ap (λ (l : List ℕ). x ∷ l) (ap₂ ◌++◌ h.is (i.is ∙ sym (return_optional t))); good = record { params = h.good; return_type = i.good } })));
      }

  pub typed_function_exact : Exact (typed_function names) function_words (TypedFunction names)
  unfolding typed_function function_words
  typed_function_exact =
      let statements = few_exact typed_statement_exact 256 in
      record {
        reads = λ f g. then_reads _ (typed_signature_exact.reads (record { name = f.name; params = f.params; return_type = f.return_type }) (record { params = g.params; return_type = g.return_type }))
            (last_reads _ (statements.reads f.statements g.statements));
        gives = gives.then_gives typed_signature_exact.gives (λ s vs h. gives.last_gives _ statements.gives (λ ss ws i.
            record { is = ap₂ ◌++◌ h.is i.is; good = record { params = h.good.params; return_type = h.good.return_type; statements = i.good } }));
      }

  pub functions_exact : Exact (many 64 (typed_function names)) functions_words (Few 64 (TypedFunction names))
  unfolding functions_words
  functions_exact = few_exact typed_function_exact 64

  pub signatures_exact : Exact (many 64 (typed_signature names)) signatures_words (Few 64 (TypedSignature names))
  unfolding signatures_words
  signatures_exact = few_exact typed_signature_exact 64

  -- no output begins another
  pub functions_prefix_free : (fs gs : List PortableFunction) (a b : List ℕ) → Few 64 (TypedFunction names) fs → Few 64 (TypedFunction names) gs
      → functions_words fs ++ a ≡ functions_words gs ++ b → (fs ≡ gs) × (a ≡ b)
  functions_prefix_free fs gs a b g h e = exact.prefix_free functions_exact fs gs a b g h e

  pub signatures_prefix_free : (ss ts : List PortableSignature) (a b : List ℕ) → Few 64 (TypedSignature names) ss → Few 64 (TypedSignature names) ts
      → signatures_words ss ++ a ≡ signatures_words ts ++ b → (ss ≡ ts) × (a ≡ b)
  signatures_prefix_free ss ts a b g h e = exact.prefix_free signatures_exact ss ts a b g h e
