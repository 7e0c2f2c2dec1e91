use Rattle.std.proofs.Common.{◌≡◌, ◌++◌, map, take}
use Rattle.lr_rows.specs.Routes.{network_rule}
use Rattle.net_rows.specs.Unit.{said_by}
use Rattle.lr_route.proofs.port_route.put_network_rules.Given as goal

-- the rows for the networks so far are after what was there
abbrev pub invariant-loop-net : goal.invariant-loop-net
invariant-loop-net l = l.rows ≡ l.initial.rows ++ said_by l.unit (map (network_rule l.input) (take l.net-index l.input.nets))
