-- Type parameters and type arguments, as the pool holds them.
use Rattle.std.specs.Prelude.{ℕ, ◌≤◌, ◌≡◌, List, length}
use Rattle.rules.specs.Syntax.{ResolvedType}
use Rattle.image_words.specs.Gives.{BelowAt, Row}
use Rattle.image_layout.specs.declared.Layout.{Layout}
use Rattle.image_layout.specs.Open.{pool_words}
use Rattle.pool_types.specs.TypeAt.{TypeStands}

-- as many of both, at most 8
pub record Given (l : Layout) (params_at_lem types_at count : ℕ) : Type 0 where
  pub params : List ℕ
  pub params_end : ℕ
  pub params_row : Row (BelowAt (pool_words l) l.names.rows) params params_at_lem params_end
  pub types : List ResolvedType
  pub types_end : ℕ
  pub types_row : Row (TypeStands l.names.rows (pool_words l)) types types_at types_end
  pub params_count : length params ≡ count
  pub types_count : length types ≡ count
  pub few : count ≤ 8
