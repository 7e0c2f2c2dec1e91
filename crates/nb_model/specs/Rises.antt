-- Of which kinds there can be more after an edit of a sound network: only their bounds need be tested (not from OVN).
use Rattle.std.specs.Prelude.{true, false, List, [], ◌∷◌}
use Rattle.nb_records.specs.declared.edit.Edit.{Edit}
use Rattle.nb_records.specs.declared.edit.Edit.TheVariants as edit
use Rattle.nb_records.specs.declared.refusal.Kind.{Kind}
use Rattle.nb_records.specs.declared.refusal.Kind.TheVariants as kind

-- The kinds of which there can be more after an edit, in the order in which their bounds are tested.
abbrev pub may_rise : Edit → List Kind
may_rise (edit.LsAdd name may) = kind.Switch ∷ []
may_rise (edit.LrAdd name may) = kind.Router ∷ []
may_rise (edit.LsDel name may) = kind.Neighbour ∷ []
may_rise (edit.LrDel name may) = []
may_rise (edit.LspAdd switch port may) = kind.Port ∷ []
may_rise (edit.LspDel port may) = kind.Neighbour ∷ []
may_rise (edit.LspSetAddresses port list) = kind.Address ∷ kind.Neighbour ∷ []
may_rise (edit.LspSetPortSecurity port list) = kind.Security ∷ []
may_rise (edit.LspSetType port own) = kind.Neighbour ∷ []
may_rise (edit.LspSetOptions port name) = kind.Neighbour ∷ []
may_rise (edit.LspSetEnabled port true) = kind.Neighbour ∷ []
may_rise (edit.LspSetEnabled port false) = []
may_rise (edit.LrpSetEnabled port enabled) = []
may_rise (edit.LrpAdd router port mac nets may) = kind.RouterPort ∷ kind.Network ∷ kind.Neighbour ∷ []
may_rise (edit.LrpDel port may) = []
may_rise (edit.LrRouteAdd router prefix nexthop port by) = kind.Route ∷ []
may_rise (edit.LrRouteDel router prefix may by) = []
may_rise (edit.LrNatAdd router own external logical) = kind.Nat ∷ []
may_rise (edit.LrNatDel router own at may) = []
may_rise (edit.LbAdd name at backends proto) = kind.Lb ∷ kind.Vip ∷ kind.Backend ∷ kind.VipDatapath ∷ []
may_rise (edit.LbDel name at may) = []
may_rise (edit.LsLbAdd switch name may) = kind.VipDatapath ∷ []
may_rise (edit.LrLbAdd router name may) = kind.VipDatapath ∷ []
may_rise (edit.LsLbDel switch name may) = []
may_rise (edit.LrLbDel router name may) = []
may_rise (edit.AclAdd name way priority matching verdict may of) = kind.Acl ∷ kind.AclSwitch ∷ kind.MatchText ∷ []
may_rise (edit.AclDel name way rule of) = []
may_rise (edit.PgAdd name ports) = kind.Set ∷ kind.Member ∷ []
may_rise (edit.PgSetPorts name ports) = kind.AclSwitch ∷ kind.Member ∷ kind.MatchText ∷ []
may_rise (edit.PgDel name may) = []
may_rise (edit.AsAdd name members) = kind.Set ∷ kind.Member ∷ []
may_rise (edit.AsSet name members) = kind.Member ∷ []
may_rise (edit.AsDel name may) = []
may_rise (edit.SmbAdd port addr mac) = kind.Binding ∷ []
may_rise (edit.SmbDel port addr may) = []
