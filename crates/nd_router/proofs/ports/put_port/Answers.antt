use Rattle.std.proofs.Common.{◌++◌, ap, ◌∙◌}
use Rattle.nv_base.specs.declared.ip4.Ip4.{Ip4}
use Rattle.std.specs.Prelude.{List}
use Rattle.sb_model.specs.declared.row.Row.{Row}
use Rattle.nd_router.specs.inner.Made.{port_rows, reached_rows}
use Rattle.nd_router.proofs.All.{three_parts}
use Rattle.nd_router.proofs.External.{are_free}
use Rattle.nd_router.proofs.ports.put_port.Goals as goal

pub returns : goal.returns
unfolding port_rows
returns c =
    three_parts c.args.rows.now c.put_reached.new.rows c.put_bindings.new.rows c.put_neighbours.new.rows _ _ _
    (c.in_ok-put_reached.ensures ∙ ap (λ free. c.args.rows.now ++ reached free) (are_free c.args.records.now c.args.external.now c.args.port.now c.requires.external))
    c.in_ok-put_bindings.ensures c.in_ok-put_neighbours.ensures
  where
    reached : List Ip4 → List Row
    reached free =
        let port = c.args.port.now in
        reached_rows port.id (record { dp = port.router; name = port.name; enabled = port.enabled; mac = port.mac; nets = port.nets; free = free })
