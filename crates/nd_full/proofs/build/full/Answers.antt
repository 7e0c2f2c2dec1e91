use Rattle.std.proofs.Common.{◌≡◌}
use Rattle.std.proofs.lemmas.Result.{IfOk-weaker}
use Rattle.sb_rows.specs.Row.{IsSetOf}
use Rattle.lr_units.specs.Network.{network_rows, rows_of_units}
use Rattle.lr_units.proofs.Whole.{network_apart, network_typed}
use Rattle.nd_full.proofs.Agree.{agree_as_one, all_typed, set_is_put}
use Rattle.nd_full.proofs.build.full.Goals as goal

-- the rows of the units of a sound network are apart and well-typed
pub of_all-requires-clause-agree : goal.of_all-requires-clause-agree
of_all-requires-clause-agree c = agree_as_one (rows_of_units c.args.records.now) _ c.in_ok-rows_of_units.ensures (network_apart c.args.records.now c.requires)

pub of_all-requires-clause-typed : goal.of_all-requires-clause-typed
of_all-requires-clause-typed c = all_typed (rows_of_units c.args.records.now) _ c.in_ok-rows_of_units.ensures (network_typed c.args.records.now c.requires)

-- they are made a set, which is these rows in row order
pub returns : goal.returns
unfolding network_rows
returns c =
    let new = c.in_ok-rows_of_units.field-0 in
    IfOk-weaker c.of_all.result (λ built. IsSetOf built new) (λ built. built ≡ network_rows c.args.records.now)
    (λ built set. set_is_put (rows_of_units c.args.records.now) new c.in_ok-rows_of_units.ensures built (network_apart c.args.records.now c.requires) set) c.of_all.ensures
