-- Where there is no group, no port of a switch has one.
use Rattle.std.proofs.Common.{◌≡◌, List, [], ◌∷◌, Option, None, refl, sym, ap, ◌∙◌}
use Rattle.std.specs.Prelude.{filter, fold}
use Rattle.nv_base.specs.declared.object.ObjId.{ObjId}
use Rattle.pkt_core.specs.Packet.{Values}
use Rattle.nb_records.specs.declared.acl.Acl.{Acl}
use Rattle.nb_records.specs.declared.acl.Way.{Way}
use Rattle.nb_records.specs.declared.sets.Group.{Group}
use Rattle.nb_records.specs.declared.switch.Port.{Port}
use Rattle.nb_model.specs.Belongs.{is_among}
use Rattle.nb_model.specs.Network.{Network}
use Rattle.nv_table.specs.Table.{record_after}
use Rattle.net_choice.specs.inner.Acls.{first_of, first_on, first_with, ports_on}

no_groups : (groups : List Group) → record_after (λ (g : Group). g.id) None groups ≡ None → groups ≡ []
no_groups [] none = refl
no_groups (group ∷ groups) none = absurd (cc)

-- so the ports of a switch change nothing
pub without_groups : (net : Network) (way : Way) (packet : Values) (best : Option Acl) (switch : ObjId) → record_after (λ (g : Group). g.id) None net.groups ≡ None → best ≡ first_on net way packet best switch
without_groups net way packet best switch none = sym (of_ports (ports_on net switch))
  where
    of_ports : (ports : List Port) → fold (λ b (port : Port). first_with net way packet b port.id) best ports ≡ best
    of_ports [] = refl
    of_ports (port ∷ ports) =
        ap
        (λ (groups : List Group). fold (λ b (p : Port). first_with net way packet b p.id) (fold (λ b (group : Group). first_of net way packet b group.id) best (filter (λ (g : Group). is_among port.id g.ports) groups)) ports)
        (no_groups net.groups none)
        ∙ of_ports ports
