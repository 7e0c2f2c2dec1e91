use Rattle.std.proofs.Common.{◌≡◌, ◌++◌, OnOk, Option, subst}
use Rattle.nv_map.specs.Map.{value_at}
use Rattle.inc_table.specs.Delta.{change_between, told_at}
use Rattle.inc_table.proofs.remake.make_at.Goals as goal

pub returns-clause-told : goal.returns-clause-told
returns-clause-told g c =
    let P : Option g.row.M-Out.Denot → Type 0 = λ out. OnOk c.change_at.result (c.change_at.new.told ≡ c.args.changed.now ++ told_at c.args.key.now (change_between g.M.Out.PartialEq.eq (value_at g.M.Key.Ord.cmp c.args.key.now c.args.table.now) out)) in
    subst P c.in_ok-out.ensures.out c.change_at.ensures.told
