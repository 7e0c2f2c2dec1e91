use Rattle.std.proofs.Common.{None, Some}
use Rattle.nv_map.specs.Map.{value_at}
use Rattle.nv_map.proofs.Values.{exact_order}
use Rattle.inc_table.specs.Delta.{change_between}
use Rattle.inc_table.proofs.Changed.{told_where_done, above_where_done}
use Rattle.inc_table.proofs.owned.Owned.change_at.Goals as goal

pub returns-in-None-clause-difference : goal.returns-in-None-clause-difference
returns-in-None-clause-difference g c =
    told_where_done g.met.K.Ord.total g.V.PartialEq.eq (exact_order g.K.PartialEq.eq g.K.Ord.cmp g.met.K.Ord.matches_eq g.met.K.Kept.exact) g.met.V.Kept.exact c.strike.result c.args.self.now c.strike.new.self c.args.told.now c.strike.new.told c.args.key.now None c.requires c.strike.ensures.applied c.strike.ensures.told

pub returns-in-None-clause-above : goal.returns-in-None-clause-above
returns-in-None-clause-above g c =
    above_where_done g.met.K.Ord.total g.V.PartialEq.eq c.strike.result c.args.told.now c.strike.new.told c.args.key.now (change_between g.V.PartialEq.eq (value_at g.K.Ord.cmp c.args.key.now c.args.self.now) None) c.requires c.strike.ensures.told

pub returns-in-Some-clause-difference : goal.returns-in-Some-clause-difference
returns-in-Some-clause-difference g c =
    told_where_done g.met.K.Ord.total g.V.PartialEq.eq (exact_order g.K.PartialEq.eq g.K.Ord.cmp g.met.K.Ord.matches_eq g.met.K.Kept.exact) g.met.V.Kept.exact c.replace.result c.args.self.now c.replace.new.self c.args.told.now c.replace.new.told c.args.key.now (Some c.in-Some.value) c.requires c.replace.ensures.applied c.replace.ensures.told

pub returns-in-Some-clause-above : goal.returns-in-Some-clause-above
returns-in-Some-clause-above g c =
    above_where_done g.met.K.Ord.total g.V.PartialEq.eq c.replace.result c.args.told.now c.replace.new.told c.args.key.now (change_between g.V.PartialEq.eq (value_at g.K.Ord.cmp c.args.key.now c.args.self.now) (Some c.in-Some.value)) c.requires c.replace.ensures.told
