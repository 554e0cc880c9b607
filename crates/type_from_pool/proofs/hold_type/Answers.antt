-- `type_from_pool::hold_type` meets its contract. Assumes nothing.
use Prim.Native.Nat.{ℕ}
use mathlib.Core.Path.{sym, subst}
use Rattle.rules.specs.Syntax.{run}
use Rattle.rules.proofs.Types.{type_exact}
use Rattle.image_words.proofs.Gives.{of}
use Rattle.image_words.specs.Stands.{Stands}
use Rattle.image_layout.specs.Open.{pool_words}
use Rattle.pool_types.proofs.TypeAt.{type_gives}
use Rattle.image_words.proofs.Stands.{reads_at}
use Rattle.type_from_pool.proofs.hold_type.Goals as goal

pub returns : goal.returns
returns c t n s g =
    let a = c.args in
    let e = c.skip_type-n.ensures.resolved a.l.now.names.rows t n (of (type_gives a.l.now.names.rows _ _) (reads_at (type_exact a.l.now.names.rows) t g s)).1.parts in
    (c.copy.ensures a.l.now.names.rows t (subst (λ (k : ℕ). Stands (pool_words a.l.now) (run t) a.at k) (sym e) s) g, e)
