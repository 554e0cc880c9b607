-- Contracts that are too long for a line, each called after its function.
use Rattle.std.specs.Prelude.{ℕ, List}
use Rattle.image_layout.specs.Open.{pool_words}
use Rattle.image_layout.specs.declared.Layout.{Layout}
use Rattle.rules.specs.Infer.{find_last}
use Rattle.rules.specs.Syntax.{ResolvedType, Param}
use Rattle.rules.specs.declared.ids.NameId.{NameId}
use Rattle.message_fields.specs.Fields.{Fields, Place}

-- the place of the type of the last field of that name, or 0
abbrev pub FindsField : Layout → ℕ → NameId → ℕ → Type 0
FindsField l at x r =
    (ps : List (Param ResolvedType)) (n : ℕ) → Fields l.names.rows (pool_words l) ps at n
    → Place l.names.rows (pool_words l) r (find_last x.0 ps)
