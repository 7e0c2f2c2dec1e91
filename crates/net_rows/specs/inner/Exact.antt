-- Inputs of units that are equal by `==` are one value.
use Rattle.std.proofs.Common.{◌≡◌}
use Rattle.std.proofs.lemmas.Bool.{and_parts}
use Rattle.nv_base.specs.inner.Exact as tells
use Rattle.nv_base.specs.inner.Exact.{Tells}
use Rattle.expr_core.specs.inner.Exact as of_matches
use Rattle.nb_records.specs.inner.Exact as of_records
use Rattle.net_rows.specs.contracts.inputs.AclOnInputPartialEq.TheImpl as acl_on_eq
use Rattle.net_rows.specs.contracts.inputs.PortAclInputPartialEq.TheImpl as port_acl_eq
use Rattle.net_rows.specs.contracts.inputs.PortL2InputPartialEq.TheImpl as port_l2_eq
use Rattle.net_rows.specs.contracts.inputs.PortSecInputPartialEq.TheImpl as port_sec_eq
use Rattle.net_rows.specs.contracts.inputs.SwitchAclInputPartialEq.TheImpl as switch_acl_eq
use Rattle.net_rows.specs.contracts.inputs.SwitchL2InputPartialEq.TheImpl as switch_l2_eq
use Rattle.net_rows.specs.contracts.inputs.VipInputPartialEq.TheImpl as vip_eq

pub port_sec : Tells ((port_sec_eq.ghosts).eq)
port_sec a b e =
    let at0 = and_parts _ _ e in
    let same_dp : a.dp ≡ b.dp = tells.object _ _ at0.0 in
    let at1 = and_parts _ _ at0.1 in
    let same_name : a.name ≡ b.name = tells.list _ tells.number _ _ at1.0 in
    let at2 = and_parts _ _ at1.1 in
    let same_enabled : a.enabled ≡ b.enabled = tells.boolean _ _ at2.0 in
    let same_security : a.security ≡ b.security = tells.list _ of_records.guard _ _ at2.1 in
    λ i. record { dp = same_dp i; name = same_name i; enabled = same_enabled i; security = same_security i }

pub switch_acl : Tells ((switch_acl_eq.ghosts).eq)
switch_acl a b e =
    let at0 = and_parts _ _ e in
    let same_tracks : a.tracks ≡ b.tracks = tells.boolean _ _ at0.0 in
    let same_balances : a.balances ≡ b.balances = tells.boolean _ _ at0.1 in
    λ i. record { tracks = same_tracks i; balances = same_balances i }

pub port_acl : Tells ((port_acl_eq.ghosts).eq)
port_acl a b e =
    let at0 = and_parts _ _ e in
    let same_dp : a.dp ≡ b.dp = tells.object _ _ at0.0 in
    let same_name : a.name ≡ b.name = tells.list _ tells.number _ _ at0.1 in
    λ i. record { dp = same_dp i; name = same_name i }

pub acl_on : Tells ((acl_on_eq.ghosts).eq)
acl_on a b e =
    let at0 = and_parts _ _ e in
    let same_way : a.way ≡ b.way = of_records.way _ _ at0.0 in
    let at1 = and_parts _ _ at0.1 in
    let same_priority : a.priority ≡ b.priority = tells.number _ _ at1.0 in
    let at2 = and_parts _ _ at1.1 in
    let same_matching : a.matching ≡ b.matching = of_matches.formula _ of_matches.typed_atom _ _ at2.0 in
    let at3 = and_parts _ _ at2.1 in
    let same_verdict : a.verdict ≡ b.verdict = of_records.verdict _ _ at3.0 in
    let same_tracks : a.tracks ≡ b.tracks = tells.boolean _ _ at3.1 in
    λ i. record { way = same_way i; priority = same_priority i; matching = same_matching i; verdict = same_verdict i; tracks = same_tracks i }

pub switch_l2 : Tells ((switch_l2_eq.ghosts).eq)
switch_l2 a b e =
    let same_unknown : a.unknown ≡ b.unknown = tells.boolean _ _ e in
    λ i. record { unknown = same_unknown i }

pub port_l2 : Tells ((port_l2_eq.ghosts).eq)
port_l2 a b e =
    let at0 = and_parts _ _ e in
    let same_dp : a.dp ≡ b.dp = tells.object _ _ at0.0 in
    let at1 = and_parts _ _ at0.1 in
    let same_name : a.name ≡ b.name = tells.list _ tells.number _ _ at1.0 in
    let at2 = and_parts _ _ at1.1 in
    let same_enabled : a.enabled ≡ b.enabled = tells.boolean _ _ at2.0 in
    let at3 = and_parts _ _ at2.1 in
    let same_kind : a.kind ≡ b.kind = of_records.port_kind _ _ at3.0 in
    let at4 = and_parts _ _ at3.1 in
    let same_addresses : a.addresses ≡ b.addresses = tells.list _ of_records.addr _ _ at4.0 in
    let same_peer_mac : a.peer_mac ≡ b.peer_mac = tells.option _ tells.number _ _ at4.1 in
    λ i. record { dp = same_dp i; name = same_name i; enabled = same_enabled i; kind = same_kind i; addresses = same_addresses i; peer_mac = same_peer_mac i }

pub vip : Tells ((vip_eq.ghosts).eq)
vip a b e =
    let at0 = and_parts _ _ e in
    let same_at : a.at ≡ b.at = of_records.frontend _ _ at0.0 in
    let at1 = and_parts _ _ at0.1 in
    let same_proto : a.proto ≡ b.proto = of_records.proto _ _ at1.0 in
    let same_backends : a.backends ≡ b.backends = tells.list _ of_records.backend _ _ at1.1 in
    λ i. record { at = same_at i; proto = same_proto i; backends = same_backends i }
