-- The forms of the commands: what the manual page of ovn-nbctl(8) says of each, in this profile.
use Rattle.std.specs.Prelude.{ℕ, Bool, List, [], ◌∷◌, Option, codes}
use Rattle.std.specs.List.{find}
use Rattle.std.specs.Str.{bytes_eq}
use Rattle.nb_edit.specs.declared.form.Flag.{Flag}
use Rattle.nb_edit.specs.declared.form.Flag.TheVariants.{MayExist, IfExists, Policy, OwnerType}
use Rattle.nb_edit.specs.declared.form.Place.{Place}
use Rattle.nb_edit.specs.declared.form.Place.TheVariants.{Switch, Router, Port, Lb, Group, Set, Owner, Address, Guard, PortType, PortOption, State, Mac, Ip, Network, Prefix, Nexthop, NatType, Logical, Distributed, Vip, Backends, Protocol, Direction, Priority, Match, Verdict, Member}
use Rattle.nb_edit.specs.declared.form.Tail.{Tail}
use Rattle.nb_edit.specs.declared.form.Tail.TheVariants.{Ends, May, MayThen, MayThenBoth, Repeats}
use Rattle.nb_edit.specs.declared.verb.Verb.{Verb}
use Rattle.nb_edit.specs.declared.verb.Verb.TheVariants.{LsAdd, LrAdd, LsDel, LrDel, LspAdd, LspDel, LspSetAddresses, LspSetPortSecurity, LspSetType, LspSetOptions, LspSetEnabled, LrpSetEnabled, LrpAdd, LrpDel, LrRouteAdd, LrRouteDel, LrNatAdd, LrNatDel, LbAdd, LbDel, LsLbAdd, LrLbAdd, LsLbDel, LrLbDel, AclAdd, AclDel, PgAdd, PgSetPorts, PgDel, AsAdd, AsSet, AsDel, SmbAdd, SmbDel}

-- what is known of a command
pub record Known : Type 0 where
  pub name : List ℕ
  pub flags : List Flag  -- the options that it takes
  pub places : List Place  -- the words that it needs
  pub tail : Tail  -- those that may follow

-- a line of the table
abbrev pub known : List ℕ → List Flag → List Place → Tail → Known
known name flags places tail = record { name = name; flags = flags; places = places; tail = tail }

-- the table of the commands
abbrev pub form : Verb → Known
form LsAdd = known (codes "ls-add") (MayExist ∷ []) (Switch ∷ []) Ends
form LrAdd = known (codes "lr-add") (MayExist ∷ []) (Router ∷ []) Ends
form LsDel = known (codes "ls-del") (IfExists ∷ []) (Switch ∷ []) Ends
form LrDel = known (codes "lr-del") (IfExists ∷ []) (Router ∷ []) Ends
form LspAdd = known (codes "lsp-add") (MayExist ∷ []) (Switch ∷ Port ∷ []) Ends
form LspDel = known (codes "lsp-del") (IfExists ∷ []) (Port ∷ []) Ends
form LspSetAddresses = known (codes "lsp-set-addresses") [] (Port ∷ []) (Repeats Address)
form LspSetPortSecurity = known (codes "lsp-set-port-security") [] (Port ∷ []) (Repeats Guard)
form LspSetType = known (codes "lsp-set-type") [] (Port ∷ PortType ∷ []) Ends
form LspSetOptions = known (codes "lsp-set-options") [] (Port ∷ []) (Repeats PortOption)
form LspSetEnabled = known (codes "lsp-set-enabled") [] (Port ∷ State ∷ []) Ends
form LrpSetEnabled = known (codes "lrp-set-enabled") [] (Port ∷ State ∷ []) Ends
form LrpAdd = known (codes "lrp-add") (MayExist ∷ []) (Router ∷ Port ∷ Mac ∷ Network ∷ []) (Repeats Network)
form LrpDel = known (codes "lrp-del") (IfExists ∷ []) (Port ∷ []) Ends
form LrRouteAdd = known (codes "lr-route-add") (Policy ∷ []) (Router ∷ Prefix ∷ Nexthop ∷ []) (May Port)
form LrRouteDel = known (codes "lr-route-del") (IfExists ∷ Policy ∷ []) (Router ∷ []) (May Prefix)
form LrNatAdd = known (codes "lr-nat-add") [] (Router ∷ NatType ∷ Ip ∷ Logical ∷ []) (MayThen Distributed Distributed)
form LrNatDel = known (codes "lr-nat-del") (IfExists ∷ []) (Router ∷ []) (MayThen NatType Logical)
form LbAdd = known (codes "lb-add") [] (Lb ∷ Vip ∷ Backends ∷ []) (May Protocol)
form LbDel = known (codes "lb-del") (IfExists ∷ []) (Lb ∷ []) (May Vip)
form LsLbAdd = known (codes "ls-lb-add") (MayExist ∷ []) (Switch ∷ Lb ∷ []) Ends
form LrLbAdd = known (codes "lr-lb-add") (MayExist ∷ []) (Router ∷ Lb ∷ []) Ends
form LsLbDel = known (codes "ls-lb-del") (IfExists ∷ []) (Switch ∷ []) (May Lb)
form LrLbDel = known (codes "lr-lb-del") (IfExists ∷ []) (Router ∷ []) (May Lb)
form AclAdd = known (codes "acl-add") (MayExist ∷ OwnerType ∷ []) (Owner ∷ Direction ∷ Priority ∷ Match ∷ Verdict ∷ []) Ends
form AclDel = known (codes "acl-del") (OwnerType ∷ []) (Owner ∷ []) (MayThenBoth Direction Priority Match)
form PgAdd = known (codes "pg-add") [] (Group ∷ []) (Repeats Port)
form PgSetPorts = known (codes "pg-set-ports") [] (Group ∷ []) (Repeats Port)
form PgDel = known (codes "pg-del") (IfExists ∷ []) (Group ∷ []) Ends
form AsAdd = known (codes "as-add") [] (Set ∷ []) (Repeats Member)
form AsSet = known (codes "as-set") [] (Set ∷ []) (Repeats Member)
form AsDel = known (codes "as-del") (IfExists ∷ []) (Set ∷ []) Ends
form SmbAdd = known (codes "smb-add") [] (Port ∷ Ip ∷ Mac ∷ []) Ends
form SmbDel = known (codes "smb-del") (IfExists ∷ []) (Port ∷ Ip ∷ []) Ends

-- all the commands
unfoldable pub verbs : List Verb
verbs =
    LsAdd ∷ LrAdd ∷ LsDel ∷ LrDel ∷ LspAdd ∷ LspDel ∷ LspSetAddresses ∷ LspSetPortSecurity ∷
    LspSetType ∷ LspSetOptions ∷ LspSetEnabled ∷ LrpSetEnabled ∷ LrpAdd ∷ LrpDel ∷ LrRouteAdd ∷ LrRouteDel ∷
    LrNatAdd ∷ LrNatDel ∷ LbAdd ∷ LbDel ∷ LsLbAdd ∷ LrLbAdd ∷ LsLbDel ∷ LrLbDel ∷
    AclAdd ∷ AclDel ∷ PgAdd ∷ PgSetPorts ∷ PgDel ∷ AsAdd ∷ AsSet ∷ AsDel ∷
    SmbAdd ∷ SmbDel ∷ []

-- this is the command's name
abbrev pub is_named : Verb → List ℕ → Bool
is_named verb name = bytes_eq (form verb).name name

-- the command of that name
abbrev pub verb_of : List ℕ → Option Verb
verb_of name = find (λ verb. is_named verb name) verbs
