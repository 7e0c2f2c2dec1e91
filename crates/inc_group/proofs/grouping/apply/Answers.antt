use Rattle.std.proofs.Common.{List, sym, subst}
use Rattle.nv_map.proofs.Values.{exact_order}
use Rattle.inc_table.specs.declared.delta.Change.{Change}
use Rattle.inc_group.specs.inner.Moves.{IsMoved}
use Rattle.inc_group.proofs.Grouped.{still_grouped, whole_grouped}
use Rattle.inc_group.proofs.grouping.apply.Goals as goal

pub regroup-requires : goal.regroup-requires
regroup-requires g c = whole_grouped g.met.G.Key.Ord.total (exact_order g.G.Key.PartialEq.eq g.G.Key.Ord.cmp g.met.G.Key.Ord.matches_eq g.met.G.Key.Kept.exact) g.G.Group.Ord.cmp g.G.Groups.groups_of c.args.inputs.now c.args.table.now c.requires.rise c.requires.grouped

pub returns-clause-grouped : goal.returns-clause-grouped
returns-clause-grouped g c =
    let P : List (g.row.G-Group.Denot × List (g.row.G-Key.Denot × Change g.row.G-Value.Denot)) → Type 0 = λ m. IsMoved g.G.Key.Ord.cmp g.G.Group.Ord.cmp g.G.Groups.groups_of c.args.inputs.now c.apply_to_inputs.new.inputs m in
    still_grouped g.met.G.Key.Ord.total (exact_order g.G.Key.PartialEq.eq g.G.Key.Ord.cmp g.met.G.Key.Ord.matches_eq g.met.G.Key.Kept.exact) g.G.Group.Ord.cmp g.G.Groups.groups_of c.args.inputs.now c.apply_to_inputs.new.inputs c.parts.result.now c.args.table.now c.regroup.new.table
    c.requires.rise c.in_ok-moves.ensures.rise (subst P (sym c.parts.ensures) c.in_ok-moves.ensures.moved) c.in_ok-changed.ensures.table c.in_ok-changed.ensures.whole c.in_ok-changed.ensures.rise c.requires.grouped
