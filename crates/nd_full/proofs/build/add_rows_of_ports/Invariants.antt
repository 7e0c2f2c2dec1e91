use Rattle.std.proofs.Common.{◌≡◌, ◌&&◌, ◌||◌, ◌++◌, length}
use Rattle.std.specs.List.{flat_map, list_any}
use Rattle.nb_model.specs.Network.{same}
use Rattle.nb_model.specs.Ports.{takes_unknown}
use Rattle.net_rows.specs.Build.{has_unknown}
use Rattle.nd_full.specs.inner.Made.{port_units}
use Rattle.nd_full.specs.inner.Owners.{ports_on}
use Rattle.nv_table.proofs.Through.{these_after}
use Rattle.nd_full.proofs.build.add_rows_of_ports.Given as goal

-- the rows so far, and then those of the ports that are left, are all; and such a port was there, or is left, where there is one
abbrev pub invariant-loop-port : goal.invariant-loop-port
invariant-loop-port l = record {
  rows : l.made ++ flat_map (port_units l.records) (these_after (λ x. x.id) (λ x. same l.switch x.switch) l.last l.records.ports) ≡ l.fn.made ++ flat_map (port_units l.records) (ports_on l.records l.switch);
  unknown : (l.unknown || list_any (λ port. port.enabled && takes_unknown port) (these_after (λ x. x.id) (λ x. same l.switch x.switch) l.last l.records.ports)) ≡ has_unknown l.records l.switch;
}

abbrev pub decreases-loop-port : goal.decreases-loop-port
decreases-loop-port l = length (these_after (λ x. x.id) (λ x. same l.switch x.switch) l.last l.records.ports)
