-- What a command sets of a port of a switch.
use Rattle.std.specs.Prelude.{◌≡◌, refl}
use Rattle.nb_records.specs.declared.switch.Port.{Port}
use Rattle.nb_change.specs.declared.ports.PortChange.{PortChange}
use Rattle.nb_change.specs.declared.ports.PortChange.TheVariants as change

abbrev pub changed_by : PortChange → Port → Port
changed_by (change.Addresses list) port = record port { addresses = list }
changed_by (change.Security list) port = record port { security = list }
changed_by (change.Kind kind) port = record port { kind = kind }
changed_by (change.RouterPort name) port = record port { router_port = name }
changed_by (change.Enabled enabled) port = record port { enabled = enabled }

-- its number stays
pub keeps_number : (set : PortChange) (port : Port) → (changed_by set port).id ≡ port.id
keeps_number (change.Addresses list) port = refl
keeps_number (change.Security list) port = refl
keeps_number (change.Kind kind) port = refl
keeps_number (change.RouterPort name) port = refl
keeps_number (change.Enabled enabled) port = refl
