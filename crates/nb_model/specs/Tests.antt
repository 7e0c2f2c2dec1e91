-- The tests of an edit against a network, in their order, and the refusal: the first test that fails.
use Rattle.std.specs.Prelude.{ℕ, Bool, true, false, not, ◌&&◌, ◌||◌, ◌==◌, if◌then◌else◌, List, [], ◌∷◌, ◌++◌, map, Option, Some, None, is_some, option_map}
use Rattle.std.specs.List.{find, list_any}
use Rattle.nv_base.specs.Block.{Block}
use Rattle.expr_core.specs.Formula.{Formula}
use Rattle.expr_core.specs.declared.typed.TypedAtom.{TypedAtom}
use Rattle.nv_base.specs.declared.ip4.Ip4.{Ip4}
use Rattle.nv_base.specs.declared.object.ObjId.{ObjId}
use Rattle.nb_records.specs.declared.balancer.Frontend.{Frontend}
use Rattle.nb_records.specs.declared.balancer.Proto.{Proto}
use Rattle.nb_records.specs.declared.balancer.Proto.TheVariants.{Tcp, Udp}
use Rattle.nb_records.specs.declared.edit.Edit.{Edit}
use Rattle.nb_records.specs.declared.edit.Edit.TheVariants as edit
use Rattle.nb_records.specs.declared.edit.OwnerKind.{OwnerKind}
use Rattle.nb_records.specs.declared.edit.OwnerKind.TheVariants as owner
use Rattle.nb_records.specs.declared.refusal.Refusal.{Refusal}
use Rattle.nb_records.specs.declared.refusal.Refusal.TheVariants.{NoSuchObject, Exists, WrongKind, Duplicate}
use Rattle.nb_records.specs.declared.acl.Way.{Way}
use Rattle.nb_records.specs.declared.router.NatKind.{NatKind}
use Rattle.nb_records.specs.declared.router.RouteBy.{RouteBy}
use Rattle.nb_model.specs.Amounts.{over_limit}
use Rattle.nb_model.specs.Belongs.{is_number, is_among, same_frontend, same_policy, same_block, is_snat, owner_id}
use Rattle.nb_model.specs.Effect.{effect, acl_like, is_route, is_nat, is_binding, policy_or}
use Rattle.nb_model.specs.Network.{Network, switch_named, router_named, port_named, router_port_named, lb_named, set_named, group_named, router_id, lb_id, Lb}

-- the first test that fails
abbrev pub first_refusal : List (Option Refusal) → Option Refusal
first_refusal [] = None
first_refusal (Some refusal ∷ tests) = Some refusal
first_refusal (None ∷ tests) = first_refusal tests

-- An object of this name is wanted: it is there, another kind has the name, or none has.
abbrev pub wants : List ℕ → Bool → Bool → Option Refusal
wants name there other = if there then None else Some (if other then WrongKind name else NoSuchObject name)

abbrev pub wants_switch : Network → List ℕ → Option Refusal
wants_switch net name = wants name (is_some (switch_named net name)) (is_some (router_named net name))

abbrev pub wants_router : Network → List ℕ → Option Refusal
wants_router net name = wants name (is_some (router_named net name)) (is_some (switch_named net name))

abbrev pub wants_port : Network → List ℕ → Option Refusal
wants_port net name = wants name (is_some (port_named net name)) (is_some (router_port_named net name))

abbrev pub wants_router_port : Network → List ℕ → Option Refusal
wants_router_port net name = wants name (is_some (router_port_named net name)) (is_some (port_named net name))

abbrev pub wants_lb : Network → List ℕ → Option Refusal
wants_lb net name = wants name (is_some (lb_named net name)) false

abbrev pub wants_set : Network → List ℕ → Option Refusal
wants_set net name = wants name (is_some (set_named net name)) false

abbrev pub wants_group : Network → List ℕ → Option Refusal
wants_group net name = wants name (is_some (group_named net name)) false

-- An owner of ACLs is wanted. A router's name is of another kind where a switch could be meant.
abbrev pub wants_owner : Network → Option OwnerKind → List ℕ → Option Refusal
wants_owner net (Some owner.Switch) name = wants_switch net name
wants_owner net (Some owner.Group) name = wants_group net name
wants_owner net None name = wants name (is_some (owner_id net None name)) (is_some (router_named net name))

-- with `--if-exists` the object need not be there
abbrev pub if_exists : Bool → Option Refusal → Option Refusal
if_exists true (Some (NoSuchObject name)) = None
if_exists given test = test

-- there is one like it
abbrev pub duplicate : Option ObjId → Option Refusal
duplicate found = option_map Duplicate found

-- the name is free
abbrev pub wants_free : List ℕ → Bool → Option Refusal
wants_free name taken = if taken then Some (Exists name) else None

-- the name of a datapath, and of a port, is taken
abbrev pub is_datapath : Network → List ℕ → Bool
is_datapath net name = is_some (switch_named net name) || is_some (router_named net name)

abbrev pub is_any_port : Network → List ℕ → Bool
is_any_port net name = is_some (port_named net name) || is_some (router_port_named net name)

-- the object that has the name is at the same place, where it may be
abbrev pub is_in_place : {X : Type 0} → Bool → (X → Bool) → Option X → Bool
is_in_place may there None = false
is_in_place may there (Some x) = may && there x

-- something has to be there to be taken away
abbrev pub wants_some : List ℕ → Bool → Bool → Option Refusal
wants_some name given there = if given || there then None else Some (NoSuchObject name)

abbrev pub same_proto : Proto → Proto → Bool
same_proto Tcp Tcp = true
same_proto Udp Udp = true
same_proto _ _ = false

-- the load balancer takes another protocol
abbrev pub other_protocol : Option Proto → Lb → Bool
other_protocol None lb = false
other_protocol (Some proto) lb = not (same_proto proto lb.proto)

-- a load balancer that is there takes the protocol, and has no such VIP
abbrev pub wants_protocol : List ℕ → Option Proto → Option Lb → Option Refusal
wants_protocol name proto None = None
wants_protocol name proto (Some lb) = if other_protocol proto lb then Some (WrongKind name) else None

abbrev pub has_vip : Frontend → Option Lb → Bool
has_vip at None = false
has_vip at (Some lb) = list_any (λ vip. same_frontend at vip.at) lb.vips

abbrev pub duplicate_if : Bool → Option ObjId → Option Refusal
duplicate_if there number = if there then duplicate number else None

-- the load balancer is attached to the datapath that has these
abbrev pub is_attached : Option ObjId → Option (List ObjId) → Bool
is_attached None numbers = false
is_attached number None = false
is_attached (Some number) (Some numbers) = is_among number numbers

-- the load balancers of the datapath of this name
abbrev pub switch_lbs : Network → List ℕ → Option (List ObjId)
switch_lbs net name = option_map (λ switch. switch.lbs) (switch_named net name)

abbrev pub router_lbs : Network → List ℕ → Option (List ObjId)
router_lbs net name = option_map (λ router. router.lbs) (router_named net name)

-- the route, and the rule, that a new one would repeat
abbrev pub route_like : Network → List ℕ → Block → RouteBy → Option ObjId
route_like net router prefix by =
    option_map (λ route. route.id) (find (λ route. is_number (router_id net router) route.router && same_policy by route.by && same_block prefix route.prefix) net.routes)

abbrev pub nat_like : Network → List ℕ → NatKind → Ip4 → Block → Option ObjId
nat_like net router kind external logical =
    option_map (λ nat. nat.id) (find (λ nat. is_number (router_id net router) nat.router
    && (if is_snat kind then is_snat nat.kind && same_block logical nat.logical else not (is_snat nat.kind) && (external.0 == nat.external.0))) net.nats)

abbrev pub binding_like : Network → List ℕ → Ip4 → Option ObjId
binding_like net port addr = option_map (λ binding. binding.id) (find (is_binding net port addr) net.bindings)

-- the name that may be given is that of a router port
abbrev pub may_name_router_port : Network → Option (List ℕ) → Option Refusal
may_name_router_port net None = None
may_name_router_port net (Some name) = wants_router_port net name

-- the ACL of this owner, direction, priority and printed match
abbrev pub acl_number : Network → Option ObjId → Way → ℕ × Formula TypedAtom → Option ObjId
acl_number net None way rule = None
acl_number net (Some owner) way rule = option_map (λ acl. acl.id) (acl_like net owner way rule)

-- detaching names a load balancer that is there and attached, or none
abbrev pub wants_attached : Network → Option (List ℕ) → Bool → Option (List ObjId) → Option Refusal
wants_attached net None given numbers = None
wants_attached net (Some name) given numbers = wants_some name given (is_attached (lb_id net name) numbers)

-- The tests of each command but the last, which is the limits': those of the names from the left, then whether the name is free or the object new.
abbrev pub tests : Network → Edit → List (Option Refusal)
tests net (edit.LsAdd name may) = wants_free name (is_datapath net name && not (is_in_place may (λ switch. true) (switch_named net name))) ∷ []
tests net (edit.LrAdd name may) = wants_free name (is_datapath net name && not (is_in_place may (λ router. true) (router_named net name))) ∷ []
tests net (edit.LsDel name given) = if_exists given (wants_switch net name) ∷ []
tests net (edit.LrDel name given) = if_exists given (wants_router net name) ∷ []
tests net (edit.LspAdd switch port may) =
    wants_switch net switch ∷ wants_free port (is_any_port net port && not (is_in_place may (λ p. is_number (option_map (λ s. s.id) (switch_named net switch)) p.switch) (port_named net port))) ∷ []
tests net (edit.LspDel port given) = if_exists given (wants_port net port) ∷ []
tests net (edit.LspSetAddresses port list) = wants_port net port ∷ []
tests net (edit.LspSetPortSecurity port list) = wants_port net port ∷ []
tests net (edit.LspSetType port kind) = wants_port net port ∷ []
tests net (edit.LspSetOptions port name) = wants_port net port ∷ []
tests net (edit.LspSetEnabled port enabled) = wants_port net port ∷ []
tests net (edit.LrpSetEnabled port enabled) = wants_router_port net port ∷ []
tests net (edit.LrpAdd router port mac nets may) =
    wants_router net router ∷ wants_free port (is_any_port net port && not (is_in_place may (λ p. is_number (router_id net router) p.router) (router_port_named net port))) ∷ []
tests net (edit.LrpDel port given) = if_exists given (wants_router_port net port) ∷ []
tests net (edit.LrRouteAdd router prefix nexthop port by) = wants_router net router ∷ may_name_router_port net port ∷ duplicate (route_like net router prefix (policy_or by)) ∷ []
tests net (edit.LrRouteDel router None given by) = wants_router net router ∷ []
tests net (edit.LrRouteDel router (Some prefix) given by) = wants_router net router ∷ wants_some router given (list_any (is_route net router (Some prefix) by) net.routes) ∷ []
tests net (edit.LrNatAdd router kind external logical) = wants_router net router ∷ duplicate (nat_like net router kind external logical) ∷ []
tests net (edit.LrNatDel router kind None given) = wants_router net router ∷ []
tests net (edit.LrNatDel router kind (Some at) given) = wants_router net router ∷ wants_some router given (list_any (is_nat net router kind (Some at)) net.nats) ∷ []
tests net (edit.LbAdd name at backends proto) = wants_protocol name proto (lb_named net name) ∷ duplicate_if (has_vip at (lb_named net name)) (lb_id net name) ∷ []
tests net (edit.LbDel name None given) = if_exists given (wants_lb net name) ∷ []
tests net (edit.LbDel name (Some at) given) = wants_lb net name ∷ wants_some name given (has_vip at (lb_named net name)) ∷ []
tests net (edit.LsLbAdd switch name may) =
    wants_switch net switch ∷ wants_lb net name ∷ duplicate_if (not may && is_attached (lb_id net name) (switch_lbs net switch)) (lb_id net name) ∷ []
tests net (edit.LrLbAdd router name may) =
    wants_router net router ∷ wants_lb net name ∷ duplicate_if (not may && is_attached (lb_id net name) (router_lbs net router)) (lb_id net name) ∷ []
tests net (edit.LsLbDel switch name given) = wants_switch net switch ∷ wants_attached net name given (switch_lbs net switch) ∷ []
tests net (edit.LrLbDel router name given) = wants_router net router ∷ wants_attached net name given (router_lbs net router) ∷ []
tests net (edit.AclAdd name way priority matching verdict may of) =
    wants_owner net of name ∷ duplicate_if (not may) (acl_number net (owner_id net of name) way (priority, matching)) ∷ []
tests net (edit.AclDel name way rule of) = wants_owner net of name ∷ []
tests net (edit.PgAdd name ports) = map (wants_port net) ports ++ wants_free name (is_some (group_named net name)) ∷ []
tests net (edit.PgSetPorts name ports) = wants_group net name ∷ map (wants_port net) ports
tests net (edit.PgDel name given) = if_exists given (wants_group net name) ∷ []
tests net (edit.AsAdd name members) = wants_free name (is_some (set_named net name)) ∷ []
tests net (edit.AsSet name members) = wants_set net name ∷ []
tests net (edit.AsDel name given) = if_exists given (wants_set net name) ∷ []
tests net (edit.SmbAdd port addr mac) = wants_router_port net port ∷ duplicate (binding_like net port addr) ∷ []
tests net (edit.SmbDel port addr given) = wants_router_port net port ∷ wants_some port given (is_some (binding_like net port addr)) ∷ []

-- why an edit is refused, if it is: the last test is that of the limits, after the edit
abbrev pub refusal : Network → Edit → Option Refusal
refusal net edit = first_refusal (tests net edit ++ over_limit (effect net edit) ∷ [])
