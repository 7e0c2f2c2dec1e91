-- Records, and what they are made of, that are equal by `==` are one value.
use Rattle.std.proofs.Common.{◌≡◌, true, refl, ap, ◌∙◌}
use Rattle.std.proofs.lemmas.Bool.{false≢true, and_parts}
use denote.Enum.Bare.{sameb, same_true}
use Rattle.nv_base.specs.inner.Exact as tells
use Rattle.nv_base.specs.inner.Exact.{Tells}
use Rattle.expr_core.specs.inner.Exact as of_matches
use Rattle.nb_records.specs.contracts.switch.PortKind as port_kinds
use Rattle.nb_records.specs.declared.switch.PortKind.{PortKind}
use Rattle.nb_records.specs.contracts.router.RouteBy as route_bys
use Rattle.nb_records.specs.declared.router.RouteBy.{RouteBy}
use Rattle.nb_records.specs.contracts.router.NatKind as nat_kinds
use Rattle.nb_records.specs.declared.router.NatKind.{NatKind}
use Rattle.nb_records.specs.contracts.balancer.Proto as protos
use Rattle.nb_records.specs.declared.balancer.Proto.{Proto}
use Rattle.nb_records.specs.contracts.acl.Way as ways
use Rattle.nb_records.specs.declared.acl.Way.{Way}
use Rattle.nb_records.specs.contracts.acl.Verdict as verdicts
use Rattle.nb_records.specs.declared.acl.Verdict.{Verdict}
use Rattle.nb_records.specs.contracts.balancer.FrontendPartialEq.TheImpl as frontend_eq
use Rattle.nb_records.specs.contracts.balancer.BackendPartialEq.TheImpl as backend_eq
use Rattle.nb_records.specs.contracts.switch.AddrPartialEq.TheImpl as addr_eq
use Rattle.nb_records.specs.contracts.switch.GuardPartialEq.TheImpl as guard_eq
use Rattle.nb_records.specs.contracts.sets.MemberPartialEq.TheImpl as member_eq
use Rattle.nb_records.specs.contracts.balancer.VipPartialEq.TheImpl as vip_eq
use Rattle.nb_records.specs.contracts.switch.SwitchPartialEq.TheImpl as switch_eq
use Rattle.nb_records.specs.contracts.switch.PortPartialEq.TheImpl as port_eq
use Rattle.nb_records.specs.contracts.router.RouterPartialEq.TheImpl as router_eq
use Rattle.nb_records.specs.contracts.router.RouterPortPartialEq.TheImpl as router_port_eq
use Rattle.nb_records.specs.contracts.router.RoutePartialEq.TheImpl as route_eq
use Rattle.nb_records.specs.contracts.router.NatPartialEq.TheImpl as nat_eq
use Rattle.nb_records.specs.contracts.router.BindingPartialEq.TheImpl as binding_eq
use Rattle.nb_records.specs.contracts.balancer.LbPartialEq.TheImpl as lb_eq
use Rattle.nb_records.specs.contracts.acl.AclPartialEq.TheImpl as acl_eq
use Rattle.nb_records.specs.contracts.sets.AddrSetPartialEq.TheImpl as addr_set_eq
use Rattle.nb_records.specs.contracts.sets.GroupPartialEq.TheImpl as group_eq
use Rattle.nb_records.specs.contracts.tag.RulePartialEq.TheImpl as rule_eq
use Rattle.nb_records.specs.contracts.tag.TagPartialEq.TheImpl as tag_eq
use Rattle.nb_records.specs.declared.switch.Addr.TheVariants as addr_of
use Rattle.nb_records.specs.declared.sets.Member.TheVariants as member_of
use Rattle.nb_records.specs.declared.tag.Rule.TheVariants as rule_of
use Rattle.nb_records.specs.declared.tag.Tag.TheVariants as tag_of

pub port_kind : (a b : PortKind) → sameb port_kinds.the_type a b ≡ true → a ≡ b
port_kind = same_true port_kinds.the_type tt

pub route_by : (a b : RouteBy) → sameb route_bys.the_type a b ≡ true → a ≡ b
route_by = same_true route_bys.the_type tt

pub nat_kind : (a b : NatKind) → sameb nat_kinds.the_type a b ≡ true → a ≡ b
nat_kind = same_true nat_kinds.the_type tt

pub proto : (a b : Proto) → sameb protos.the_type a b ≡ true → a ≡ b
proto = same_true protos.the_type tt

pub way : (a b : Way) → sameb ways.the_type a b ≡ true → a ≡ b
way = same_true ways.the_type tt

pub verdict : (a b : Verdict) → sameb verdicts.the_type a b ≡ true → a ≡ b
verdict = same_true verdicts.the_type tt

pub frontend : Tells ((frontend_eq.ghosts).eq)
frontend a b e =
    let at0 = and_parts _ _ e in
    let same_addr : a.addr ≡ b.addr = tells.address _ _ at0.0 in
    let same_port : a.port ≡ b.port = tells.option _ tells.number _ _ at0.1 in
    λ i. record { addr = same_addr i; port = same_port i }

pub backend : Tells ((backend_eq.ghosts).eq)
backend a b e =
    let at0 = and_parts _ _ e in
    let same_addr : a.addr ≡ b.addr = tells.address _ _ at0.0 in
    let same_port : a.port ≡ b.port = tells.option _ tells.number _ _ at0.1 in
    λ i. record { addr = same_addr i; port = same_port i }

pub addr : Tells ((addr_eq.ghosts).eq)
addr addr_of.Unknown addr_of.Unknown e = refl
addr addr_of.Unknown _ e = absurd (false≢true e)
addr addr_of.Router addr_of.Router e = refl
addr addr_of.Router _ e = absurd (false≢true e)
addr (addr_of.Host a0 a1) (addr_of.Host b0 b1) e =
    let equal = and_parts _ _ e in
    ap (λ x. addr_of.Host x a1) (tells.number _ _ equal.0) ∙ ap (λ x. addr_of.Host b0 x) (tells.list _ tells.address _ _ equal.1)
addr (addr_of.Host a0 a1) _ e = absurd (false≢true e)

pub guard : Tells ((guard_eq.ghosts).eq)
guard a b e =
    let at0 = and_parts _ _ e in
    let same_mac : a.mac ≡ b.mac = tells.number _ _ at0.0 in
    let same_nets : a.nets ≡ b.nets = tells.list _ tells.block _ _ at0.1 in
    λ i. record { mac = same_mac i; nets = same_nets i }

pub member : Tells ((member_eq.ghosts).eq)
member (member_of.Mac a) (member_of.Mac b) e = ap member_of.Mac (tells.number _ _ e)
member (member_of.Mac a) _ e = absurd (false≢true e)
member (member_of.Net a) (member_of.Net b) e = ap member_of.Net (tells.block _ _ e)
member (member_of.Net a) _ e = absurd (false≢true e)

pub vip : Tells ((vip_eq.ghosts).eq)
vip a b e =
    let at0 = and_parts _ _ e in
    let same_at : a.at ≡ b.at = frontend _ _ at0.0 in
    let same_backends : a.backends ≡ b.backends = tells.list _ backend _ _ at0.1 in
    λ i. record { at = same_at i; backends = same_backends i }

pub switch : Tells ((switch_eq.ghosts).eq)
switch a b e =
    let at0 = and_parts _ _ e in
    let same_id : a.id ≡ b.id = tells.object _ _ at0.0 in
    let at1 = and_parts _ _ at0.1 in
    let same_name : a.name ≡ b.name = tells.list _ tells.number _ _ at1.0 in
    let same_lbs : a.lbs ≡ b.lbs = tells.list _ tells.object _ _ at1.1 in
    λ i. record { id = same_id i; name = same_name i; lbs = same_lbs i }

pub port : Tells ((port_eq.ghosts).eq)
port a b e =
    let at0 = and_parts _ _ e in
    let same_id : a.id ≡ b.id = tells.object _ _ at0.0 in
    let at1 = and_parts _ _ at0.1 in
    let same_switch : a.switch ≡ b.switch = tells.object _ _ at1.0 in
    let at2 = and_parts _ _ at1.1 in
    let same_name : a.name ≡ b.name = tells.list _ tells.number _ _ at2.0 in
    let at3 = and_parts _ _ at2.1 in
    let same_kind : a.kind ≡ b.kind = port_kind _ _ at3.0 in
    let at4 = and_parts _ _ at3.1 in
    let same_router_port : a.router_port ≡ b.router_port = tells.option _ (tells.list _ tells.number) _ _ at4.0 in
    let at5 = and_parts _ _ at4.1 in
    let same_addresses : a.addresses ≡ b.addresses = tells.list _ addr _ _ at5.0 in
    let at6 = and_parts _ _ at5.1 in
    let same_security : a.security ≡ b.security = tells.list _ guard _ _ at6.0 in
    let same_enabled : a.enabled ≡ b.enabled = tells.boolean _ _ at6.1 in
    λ i. record { id = same_id i; switch = same_switch i; name = same_name i; kind = same_kind i; router_port = same_router_port i; addresses = same_addresses i; security = same_security i; enabled = same_enabled i }

pub router : Tells ((router_eq.ghosts).eq)
router a b e =
    let at0 = and_parts _ _ e in
    let same_id : a.id ≡ b.id = tells.object _ _ at0.0 in
    let at1 = and_parts _ _ at0.1 in
    let same_name : a.name ≡ b.name = tells.list _ tells.number _ _ at1.0 in
    let same_lbs : a.lbs ≡ b.lbs = tells.list _ tells.object _ _ at1.1 in
    λ i. record { id = same_id i; name = same_name i; lbs = same_lbs i }

pub router_port : Tells ((router_port_eq.ghosts).eq)
router_port a b e =
    let at0 = and_parts _ _ e in
    let same_id : a.id ≡ b.id = tells.object _ _ at0.0 in
    let at1 = and_parts _ _ at0.1 in
    let same_router : a.router ≡ b.router = tells.object _ _ at1.0 in
    let at2 = and_parts _ _ at1.1 in
    let same_name : a.name ≡ b.name = tells.list _ tells.number _ _ at2.0 in
    let at3 = and_parts _ _ at2.1 in
    let same_mac : a.mac ≡ b.mac = tells.number _ _ at3.0 in
    let at4 = and_parts _ _ at3.1 in
    let same_nets : a.nets ≡ b.nets = tells.list _ tells.block _ _ at4.0 in
    let same_enabled : a.enabled ≡ b.enabled = tells.boolean _ _ at4.1 in
    λ i. record { id = same_id i; router = same_router i; name = same_name i; mac = same_mac i; nets = same_nets i; enabled = same_enabled i }

pub route : Tells ((route_eq.ghosts).eq)
route a b e =
    let at0 = and_parts _ _ e in
    let same_id : a.id ≡ b.id = tells.object _ _ at0.0 in
    let at1 = and_parts _ _ at0.1 in
    let same_router : a.router ≡ b.router = tells.object _ _ at1.0 in
    let at2 = and_parts _ _ at1.1 in
    let same_by : a.by ≡ b.by = route_by _ _ at2.0 in
    let at3 = and_parts _ _ at2.1 in
    let same_prefix : a.prefix ≡ b.prefix = tells.block _ _ at3.0 in
    let at4 = and_parts _ _ at3.1 in
    let same_nexthop : a.nexthop ≡ b.nexthop = tells.address _ _ at4.0 in
    let same_port : a.port ≡ b.port = tells.option _ (tells.list _ tells.number) _ _ at4.1 in
    λ i. record { id = same_id i; router = same_router i; by = same_by i; prefix = same_prefix i; nexthop = same_nexthop i; port = same_port i }

pub nat : Tells ((nat_eq.ghosts).eq)
nat a b e =
    let at0 = and_parts _ _ e in
    let same_id : a.id ≡ b.id = tells.object _ _ at0.0 in
    let at1 = and_parts _ _ at0.1 in
    let same_router : a.router ≡ b.router = tells.object _ _ at1.0 in
    let at2 = and_parts _ _ at1.1 in
    let same_kind : a.kind ≡ b.kind = nat_kind _ _ at2.0 in
    let at3 = and_parts _ _ at2.1 in
    let same_external : a.external ≡ b.external = tells.address _ _ at3.0 in
    let same_logical : a.logical ≡ b.logical = tells.block _ _ at3.1 in
    λ i. record { id = same_id i; router = same_router i; kind = same_kind i; external = same_external i; logical = same_logical i }

pub binding : Tells ((binding_eq.ghosts).eq)
binding a b e =
    let at0 = and_parts _ _ e in
    let same_id : a.id ≡ b.id = tells.object _ _ at0.0 in
    let at1 = and_parts _ _ at0.1 in
    let same_port : a.port ≡ b.port = tells.object _ _ at1.0 in
    let at2 = and_parts _ _ at1.1 in
    let same_addr : a.addr ≡ b.addr = tells.address _ _ at2.0 in
    let same_mac : a.mac ≡ b.mac = tells.number _ _ at2.1 in
    λ i. record { id = same_id i; port = same_port i; addr = same_addr i; mac = same_mac i }

pub lb : Tells ((lb_eq.ghosts).eq)
lb a b e =
    let at0 = and_parts _ _ e in
    let same_id : a.id ≡ b.id = tells.object _ _ at0.0 in
    let at1 = and_parts _ _ at0.1 in
    let same_name : a.name ≡ b.name = tells.list _ tells.number _ _ at1.0 in
    let at2 = and_parts _ _ at1.1 in
    let same_proto : a.proto ≡ b.proto = proto _ _ at2.0 in
    let same_vips : a.vips ≡ b.vips = tells.list _ vip _ _ at2.1 in
    λ i. record { id = same_id i; name = same_name i; proto = same_proto i; vips = same_vips i }

pub acl : Tells ((acl_eq.ghosts).eq)
acl a b e =
    let at0 = and_parts _ _ e in
    let same_id : a.id ≡ b.id = tells.object _ _ at0.0 in
    let at1 = and_parts _ _ at0.1 in
    let same_owner : a.owner ≡ b.owner = tells.object _ _ at1.0 in
    let at2 = and_parts _ _ at1.1 in
    let same_way : a.way ≡ b.way = way _ _ at2.0 in
    let at3 = and_parts _ _ at2.1 in
    let same_priority : a.priority ≡ b.priority = tells.number _ _ at3.0 in
    let at4 = and_parts _ _ at3.1 in
    let same_matching : a.matching ≡ b.matching = of_matches.formula _ of_matches.typed_atom _ _ at4.0 in
    let same_verdict : a.verdict ≡ b.verdict = verdict _ _ at4.1 in
    λ i. record { id = same_id i; owner = same_owner i; way = same_way i; priority = same_priority i; matching = same_matching i; verdict = same_verdict i }

pub addr_set : Tells ((addr_set_eq.ghosts).eq)
addr_set a b e =
    let at0 = and_parts _ _ e in
    let same_id : a.id ≡ b.id = tells.object _ _ at0.0 in
    let at1 = and_parts _ _ at0.1 in
    let same_name : a.name ≡ b.name = tells.list _ tells.number _ _ at1.0 in
    let same_members : a.members ≡ b.members = tells.list _ member _ _ at1.1 in
    λ i. record { id = same_id i; name = same_name i; members = same_members i }

pub group : Tells ((group_eq.ghosts).eq)
group a b e =
    let at0 = and_parts _ _ e in
    let same_id : a.id ≡ b.id = tells.object _ _ at0.0 in
    let at1 = and_parts _ _ at0.1 in
    let same_name : a.name ≡ b.name = tells.list _ tells.number _ _ at1.0 in
    let same_ports : a.ports ≡ b.ports = tells.list _ tells.object _ _ at1.1 in
    λ i. record { id = same_id i; name = same_name i; ports = same_ports i }

pub rule : Tells ((rule_eq.ghosts).eq)
rule (rule_of.Route a0 a1 a2) (rule_of.Route b0 b1 b2) e =
    let at0 = and_parts _ _ e in
    let at1 = and_parts _ _ at0.1 in
    ap (λ x. rule_of.Route x a1 a2) (route_by _ _ at0.0) ∙ ap (λ x. rule_of.Route b0 x a2) (tells.address _ _ at1.0) ∙ ap (λ x. rule_of.Route b0 b1 x) (tells.number _ _ at1.1)
rule (rule_of.Route a0 a1 a2) _ e = absurd (false≢true e)
rule (rule_of.Snat a0 a1) (rule_of.Snat b0 b1) e =
    let at0 = and_parts _ _ e in
    ap (λ x. rule_of.Snat x a1) (tells.address _ _ at0.0) ∙ ap (λ x. rule_of.Snat b0 x) (tells.number _ _ at0.1)
rule (rule_of.Snat a0 a1) _ e = absurd (false≢true e)
rule (rule_of.Dnat a) (rule_of.Dnat b) e = ap rule_of.Dnat (tells.address _ _ e)
rule (rule_of.Dnat a) _ e = absurd (false≢true e)
rule (rule_of.Acl a0 a1 a2) (rule_of.Acl b0 b1 b2) e =
    let at0 = and_parts _ _ e in
    let at1 = and_parts _ _ at0.1 in
    ap (λ x. rule_of.Acl x a1 a2) (way _ _ at0.0) ∙ ap (λ x. rule_of.Acl b0 x a2) (tells.number _ _ at1.0) ∙ ap (λ x. rule_of.Acl b0 b1 x) (tells.number _ _ at1.1)
rule (rule_of.Acl a0 a1 a2) _ e = absurd (false≢true e)
rule (rule_of.Binding a) (rule_of.Binding b) e = ap rule_of.Binding (tells.address _ _ e)
rule (rule_of.Binding a) _ e = absurd (false≢true e)

pub tag : Tells ((tag_eq.ghosts).eq)
tag (tag_of.Named a) (tag_of.Named b) e = ap tag_of.Named (tells.list _ tells.number _ _ e)
tag (tag_of.Named a) _ e = absurd (false≢true e)
tag (tag_of.Of a) (tag_of.Of b) e = ap tag_of.Of (tells.object _ _ e)
tag (tag_of.Of a) _ e = absurd (false≢true e)
tag (tag_of.Names a) (tag_of.Names b) e = ap tag_of.Names (tells.list _ tells.number _ _ e)
tag (tag_of.Names a) _ e = absurd (false≢true e)
tag (tag_of.Lists a) (tag_of.Lists b) e = ap tag_of.Lists (tells.object _ _ e)
tag (tag_of.Lists a) _ e = absurd (false≢true e)
tag (tag_of.Says a0 a1) (tag_of.Says b0 b1) e =
    let at0 = and_parts _ _ e in
    ap (λ x. tag_of.Says x a1) (tells.object _ _ at0.0) ∙ ap (λ x. tag_of.Says b0 x) (rule _ _ at0.1)
tag (tag_of.Says a0 a1) _ e = absurd (false≢true e)
tag (tag_of.Has a) (tag_of.Has b) e = ap tag_of.Has (tells.address _ _ e)
tag (tag_of.Has a) _ e = absurd (false≢true e)
tag tag_of.HasMany tag_of.HasMany e = refl
tag tag_of.HasMany _ e = absurd (false≢true e)
