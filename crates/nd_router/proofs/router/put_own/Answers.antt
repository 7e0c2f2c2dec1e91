use Rattle.std.proofs.Common.{◌++◌, ap, ◌∙◌}
use Rattle.net_rows.specs.Unit.{said_by, unit_of_datapath}
use Rattle.lr_rows.specs.Nat.{router_nat_rules}
use Rattle.lr_rows.specs.declared.inputs.RouterNatInput.{RouterNatInput}
use Rattle.nd_router.specs.inner.Made.{own_rows}
use Rattle.nd_router.proofs.All.{three_parts}
use Rattle.nd_router.proofs.router.put_own.Goals as goal

pub returns : goal.returns
unfolding own_rows
returns c =
    three_parts c.args.rows.now c.put_unit.new.rows c.put_unit-2.new.rows c.put_unit-3.new.rows _ _ _ c.in_ok-put_unit.ensures c.in_ok-put_unit-2.ensures
    (c.in_ok-put_unit-3.ensures
    ∙ ap (λ (input : RouterNatInput). c.put_unit-2.new.rows ++ said_by (unit_of_datapath c.args.router.now.id) (router_nat_rules input)) c.router_nat_input.ensures)
