use Rattle.std.proofs.Common.{◌∙◌, List, Option, ap, subst}
use Rattle.nv_map.proofs.Values.{exact_order}
use Rattle.inc_table.specs.Delta.{IsApplied}
use Rattle.inc_join.specs.Join.{joined, lefts_of}
use Rattle.inc_join.proofs.Joined.{all_put, rise_lefts}
use Rattle.inc_join.proofs.node.JoinNode.rebuild.Goals as goal

pub returns-clause-left : goal.returns-clause-left
returns-clause-left g c =
    let P : List (g.row.L-LeftKey.Denot × (g.row.L-Left.Denot × Option g.row.L-Right.Denot)) → Type 0 = λ t. IsApplied g.L.LeftKey.Ord.cmp c.in_ok-delta.delta (lefts_of t) (lefts_of c.apply_left.new.table) in
    let same = all_put g.met.L.LeftKey.Ord.total (exact_order g.L.LeftKey.PartialEq.eq g.L.LeftKey.Ord.cmp g.met.L.LeftKey.Ord.matches_eq g.met.L.LeftKey.Kept.exact) c.args.left.now (lefts_of c.apply_left.new.table) c.in_ok-delta.delta c.puts.ensures.rise (rise_lefts g.met.L.LeftKey.Ord.total (exact_order g.L.LeftKey.PartialEq.eq g.L.LeftKey.Ord.cmp g.met.L.LeftKey.Ord.matches_eq g.met.L.LeftKey.Kept.exact) c.apply_left.new.table c.in_ok-apply_left.ensures.rise) c.in_ok-delta.ensures.puts (subst P c.new.ensures c.in_ok-apply_left.ensures.left) in
    same

pub returns-clause-table : goal.returns-clause-table
returns-clause-table g c =
    let P : List (g.row.L-LeftKey.Denot × (g.row.L-Left.Denot × Option g.row.L-Right.Denot)) → Type 0 = λ t. IsApplied g.L.LeftKey.Ord.cmp c.in_ok-delta.delta (lefts_of t) (lefts_of c.apply_left.new.table) in
    let same = all_put g.met.L.LeftKey.Ord.total (exact_order g.L.LeftKey.PartialEq.eq g.L.LeftKey.Ord.cmp g.met.L.LeftKey.Ord.matches_eq g.met.L.LeftKey.Kept.exact) c.args.left.now (lefts_of c.apply_left.new.table) c.in_ok-delta.delta c.puts.ensures.rise (rise_lefts g.met.L.LeftKey.Ord.total (exact_order g.L.LeftKey.PartialEq.eq g.L.LeftKey.Ord.cmp g.met.L.LeftKey.Ord.matches_eq g.met.L.LeftKey.Kept.exact) c.apply_left.new.table c.in_ok-apply_left.ensures.rise) c.in_ok-delta.ensures.puts (subst P c.new.ensures c.in_ok-apply_left.ensures.left) in
    c.in_ok-apply_left.ensures.table
    ∙ ap (λ (l : List (g.row.L-LeftKey.Denot × g.row.L-Left.Denot)). joined g.L.RightKey.Ord.cmp g.L.Link.link_of l c.in_ok-self-inside.field-0) same
    ∙ ap (λ (r : List (g.row.L-RightKey.Denot × g.row.L-Right.Denot)). joined g.L.RightKey.Ord.cmp g.L.Link.link_of c.args.left.now r) c.in_ok-self-inside.ensures
