-- A function's parameters and its return: where they stand, and how large they get. Assumes nothing.
use Prim.Native.Nat.{ℕ, ◌+◌, ◌≤◌}
use mathlib.Core.Path.{◌≡◌, sym, subst}
use mathlib.Core.List.{List}
use native.Mathlib.Omega.{arith}
use Rattle.rules.specs.Syntax.{ResolvedType, TraitReturn, CompiledSchema, Param}
use Rattle.rules.specs.Signatures.{poisoned_params, resolve_params, resolve_return}
use Rattle.rules.specs.Output.{listed, param_words}
use Rattle.laws.specs.DefinitionRuns.{GoodReturn}
use Rattle.image_layout.specs.declared.Layout.{Layout}
use Rattle.image_layout.specs.Open.{pool_words}
use Rattle.pool_traits.specs.TraitAt.{TraitReturnAt}
use Rattle.expected_signature.specs.declared.part.Part.{Part}
use Rattle.expected_signature.specs.Here.{ParamsHere, ReturnHere, FunctionHere}
use Rattle.expected_signature.specs.Parts.{normal_words, normal_poisoned}
use Rattle.expected_signature.proofs.Says.{Made}
use Rattle.expected_signature.proofs.Sizes.{params_small, return_small}

module _ {l : Layout} {params : List ℕ} {at : ℕ} where
  abbrev pub params_of : FunctionHere l params at → ParamsHere l params (at + 1)
  params_of h = record {
    schema = h.schema;
    opened = h.opened;
    seen = h.seen;
    views = h.views;
    tree = h.tree.params;
    behind = h.stands.parts.params_end;
    stands = h.stands.parts.params_at;
  }

  abbrev pub return_of : (h : FunctionHere l params at) {n : ℕ} → n ≡ h.stands.parts.params_end → ReturnHere l params n
  return_of h e = record {
    schema = h.schema;
    opened = h.opened;
    seen = h.seen;
    views = h.views;
    tree = h.tree.return_type;
    behind = h.behind;
    stands = subst (λ (k : ℕ). TraitReturnAt l.names.rows (pool_words l) h.tree.return_type k h.behind) (sym e) h.stands.parts.return_at;
  }

  pub params_bound : (h : ParamsHere l params at) {to : ℕ} {old new : List ℕ} {r : Part}
      → Made (listed param_words) poisoned_params (resolve_params h.schema h.seen h.tree) h.behind to old new r → (r.visits ≤ 32768) × (r.to ≤ to + 8324)
  unfolding listed
  params_bound h m =
      let z = (params_small h.schema h.seen h.tree).holds m.v m.a m.is in
      (omega (arith, m.so.visits, z.0, h.stands.1), omega (arith, m.so.writes.place, z.1, h.stands.1))

pub return_bound : (names : ℕ) (schema : CompiledSchema) (ps : List (Param ResolvedType)) (t : TraitReturn) {n to : ℕ} {old new : List ℕ} {r : Part} → GoodReturn names t
    → Made normal_words normal_poisoned (resolve_return schema ps t) n to old new r → (r.visits ≤ 1024) × (r.to ≤ to + 260)
return_bound names schema ps t g m =
    let z = (return_small schema ps names t g).holds m.v m.a m.is in
    (omega (arith, m.so.visits, z.0), omega (arith, m.so.writes.place, z.1))
