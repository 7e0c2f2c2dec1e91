use Rattle.std.proofs.Common.{◌≡◌, ◌++◌, take}
use Rattle.std.specs.List.{flat_map}
use Rattle.net_rows.specs.Lookup.{arp_rules_of}
use Rattle.net_rows.specs.Unit.{said_by}
use Rattle.ls_l2.proofs.port_l2.put_rules_of_addresses.Given as goal

-- the rows for the addresses so far are after what was there
abbrev pub invariant-loop-addr : goal.invariant-loop-addr
invariant-loop-addr l = l.rows ≡ l.initial.rows ++ said_by l.unit (flat_map (arp_rules_of l.name) (take l.addr-index l.addresses))
