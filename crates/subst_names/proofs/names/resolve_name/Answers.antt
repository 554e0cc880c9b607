-- `subst_names::names::resolve_name` meets its contract. Assumes nothing.
use mathlib.Core.Path.{sym, subst}
use Rattle.rules.specs.Substitute.{find_param, lookup_primitive_alias}
use Rattle.type_words.specs.Holds.{Holds}
use Rattle.type_words.proofs.Trees.{named_holds}
use Rattle.subst_names.proofs.NamesLaws.{maybe_some, maybe_none, by_param, by_primitive, by_lookup}
use Rattle.subst_names.proofs.names.resolve_name.Goals as goal

pub returns-then-a : goal.returns-then-a
returns-then-a c s o ps w h =
    let a = c.args in
    let m = maybe_some a.l.now.names.rows c.find_param-a.result (find_param a.x.0 ps) (c.find_param-a.ensures a.l.now.names.rows ps w) c.if-a.true in
    subst (Holds a.l.now.names.rows c.find_param-a.result.ty) (sym (by_param s ps a.x.0 m.0 m.1)) m.2

pub returns-then-p : goal.returns-then-p
returns-then-p c s o ps w h =
    let a = c.args in
    let n = maybe_none a.l.now.names.rows c.find_param-a.result (find_param a.x.0 ps) (c.find_param-a.ensures a.l.now.names.rows ps w) c.if-a.false in
    let m = maybe_some a.l.now.names.rows c.lookup_primitive_alias-p.result (lookup_primitive_alias s a.x.0) (c.lookup_primitive_alias-p.ensures s o h) c.if-p.true in
    subst (Holds a.l.now.names.rows c.lookup_primitive_alias-p.result.ty) (sym (by_primitive s ps a.x.0 m.0 n m.1)) m.2

pub returns : goal.returns
returns c s o ps w h =
    let a = c.args in
    let n = maybe_none a.l.now.names.rows c.find_param-a.result (find_param a.x.0 ps) (c.find_param-a.ensures a.l.now.names.rows ps w) c.if-a.false in
    let m = maybe_none a.l.now.names.rows c.lookup_primitive_alias-p.result (lookup_primitive_alias s a.x.0) (c.lookup_primitive_alias-p.ensures s o h) c.if-p.false in
    subst (Holds a.l.now.names.rows c.named-named.result) (sym (by_lookup s ps a.x.0 c.lookup.result.0 n m (c.lookup.ensures s o h))) (named_holds a.l.now.names.rows c.named-named.ensures)
