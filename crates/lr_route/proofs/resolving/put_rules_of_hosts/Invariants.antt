use Rattle.std.proofs.Common.{◌≡◌, ◌++◌, map, take}
use Rattle.lr_rows.specs.Neighbours.{resolving_rule}
use Rattle.net_rows.specs.Unit.{said_by}
use Rattle.lr_route.proofs.resolving.put_rules_of_hosts.Given as goal

-- the rows for the hosts so far are after what was there
abbrev pub invariant-loop-host : goal.invariant-loop-host
invariant-loop-host l = l.rows ≡ l.initial.rows ++ said_by l.unit (map (resolving_rule 100 l.name) (take l.host-index l.hosts))
