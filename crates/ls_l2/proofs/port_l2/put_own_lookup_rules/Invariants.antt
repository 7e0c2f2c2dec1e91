use Rattle.std.proofs.Common.{◌≡◌, ◌++◌, map, take}
use Rattle.std.specs.List.{flat_map}
use Rattle.nb_model.specs.Readable.{macs_of}
use Rattle.net_rows.specs.Lookup.{lookup_rule}
use Rattle.net_rows.specs.Unit.{said_by}
use Rattle.ls_l2.proofs.port_l2.put_own_lookup_rules.Given as goal

-- the rows for the addresses so far are after what was there
abbrev pub invariant-loop-addr : goal.invariant-loop-addr
invariant-loop-addr l = l.rows ≡ l.initial.rows ++ said_by l.unit (map (lookup_rule l.input.name) (flat_map macs_of (take l.addr-index l.input.addresses)))
