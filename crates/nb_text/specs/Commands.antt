-- The commands of a script as text.
use Rattle.std.specs.Prelude.{ℕ, List, [], ◌++◌, codes, decimal, Option, None, Some}
use Rattle.std.specs.List.{flat_map}
use Rattle.expr_core.specs.Text.{typed_text}
use Rattle.nv_base.specs.Ip4.{ip4_text}
use Rattle.nv_base.specs.Mac.{mac_text}
use Rattle.nv_base.specs.Prefix.{prefix_text}
use Rattle.nb_records.specs.Refusal.{spaced}
use Rattle.nb_records.specs.declared.balancer.Proto.{Proto}
use Rattle.nb_records.specs.declared.edit.Edit.{Edit}
use Rattle.nb_records.specs.declared.edit.Edit.TheVariants as edit
use Rattle.nb_records.specs.declared.router.RouteBy.{RouteBy}
use Rattle.nb_records.specs.declared.router.RouteBy.TheVariants.{Dst, Src}
use Rattle.nb_text.specs.Words.{in_quotes, each_spaced, net_text, addr_text, guard_text, member_text, service_text, backends_text, port_kind_text, state_text, nat_kind_text, proto_text, way_text, verdict_text, may_exist_text, policy_text, owner_text, maybe_spaced}

-- the option that names a router port, where it stands
abbrev pub router_port_text : Option (List ℕ) → List ℕ
router_port_text None = []
router_port_text (Some name) = spaced (codes "router-port=" ++ name)

-- the policy that a command names, where it is not the first one
abbrev pub policy : RouteBy → Option RouteBy
policy Dst = None
policy Src = Some Src

-- the protocol, where it stands
abbrev pub maybe_proto : Option Proto → List ℕ
maybe_proto None = []
maybe_proto (Some proto) = spaced (proto_text proto)

-- the command that asks for an edit of a dump; other edits have none here
abbrev pub command_text : Edit → List ℕ
command_text (edit.LsAdd name may) = may_exist_text may ++ codes "ls-add" ++ spaced name
command_text (edit.LspAdd switch port may) = may_exist_text may ++ codes "lsp-add" ++ spaced switch ++ spaced port
command_text (edit.LspSetType port kind) = codes "lsp-set-type" ++ spaced port ++ spaced (port_kind_text kind)
command_text (edit.LspSetOptions port router_port) = codes "lsp-set-options" ++ spaced port ++ router_port_text router_port
command_text (edit.LspSetAddresses port addresses) = codes "lsp-set-addresses" ++ spaced port ++ each_spaced addr_text addresses
command_text (edit.LspSetPortSecurity port guards) = codes "lsp-set-port-security" ++ spaced port ++ each_spaced guard_text guards
command_text (edit.LspSetEnabled port enabled) = codes "lsp-set-enabled" ++ spaced port ++ spaced (state_text enabled)
command_text (edit.LrAdd name may) = may_exist_text may ++ codes "lr-add" ++ spaced name
command_text (edit.LrpAdd router port mac nets may) =
    may_exist_text may ++ codes "lrp-add" ++ spaced router ++ spaced port ++ spaced (mac_text mac) ++ each_spaced prefix_text nets
command_text (edit.LrpSetEnabled port enabled) = codes "lrp-set-enabled" ++ spaced port ++ spaced (state_text enabled)
command_text (edit.LrRouteAdd router prefix nexthop port by) =
    policy_text by ++ codes "lr-route-add" ++ spaced router ++ spaced (prefix_text prefix) ++ spaced (ip4_text nexthop) ++ maybe_spaced port
command_text (edit.LrNatAdd router kind external logical) =
    codes "lr-nat-add" ++ spaced router ++ spaced (nat_kind_text kind) ++ spaced (ip4_text external) ++ spaced (net_text logical)
command_text (edit.SmbAdd port address mac) = codes "smb-add" ++ spaced port ++ spaced (ip4_text address) ++ spaced (mac_text mac)
command_text (edit.LbAdd name at backends proto) =
    codes "lb-add" ++ spaced name ++ spaced (service_text at.addr at.port) ++ spaced (backends_text [] backends) ++ maybe_proto proto
command_text (edit.LsLbAdd switch name may) = may_exist_text may ++ codes "ls-lb-add" ++ spaced switch ++ spaced name
command_text (edit.LrLbAdd router name may) = may_exist_text may ++ codes "lr-lb-add" ++ spaced router ++ spaced name
command_text (edit.AclAdd name way priority matching verdict may of) =
    owner_text of ++ may_exist_text may ++ codes "acl-add" ++ spaced name ++ spaced (way_text way) ++ spaced (decimal priority)
    ++ spaced (in_quotes (typed_text matching)) ++ spaced (verdict_text verdict)
command_text (edit.AsAdd name members) = codes "as-add" ++ spaced name ++ each_spaced member_text members
command_text (edit.PgAdd name ports) = codes "pg-add" ++ spaced name ++ each_spaced (λ port. port) ports
command_text (edit.PgSetPorts name ports) = codes "pg-set-ports" ++ spaced name ++ each_spaced (λ port. port) ports
command_text _ = []

-- a command on its line
abbrev pub command_line : Edit → List ℕ
command_line e = command_text e ++ codes "\n"

-- commands, each on its line
abbrev pub script : List Edit → List ℕ
script edits = flat_map command_line edits
