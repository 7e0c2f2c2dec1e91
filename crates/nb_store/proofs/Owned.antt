-- Records that are found by what they belong to, by what they list, and by what they say.
use Rattle.std.proofs.Common.{◌≡◌, ℕ, Bool, true, false, ◌==◌, ◌&&◌, ◌||◌, not, if◌then◌else◌, List, [], ◌∷◌, ◌++◌, map, Option, Some, None, refl, ap, ◌∙◌}
use Rattle.std.specs.Cmp.{unsigned_tied}
use Rattle.std.specs.Prelude.{find}
use Rattle.std.specs.List.{flat_map, list_any}
use Rattle.std.specs.Ordering.{is_eq, nat_cmp, ordering_then}
use Rattle.std.specs.declared.cmp.Ordering.{Ordering}
use Rattle.std.specs.declared.cmp.Ordering.TheVariants.{Less, Equal, Greater}
use Rattle.expr_digest.specs.Digest.{digest}
use Rattle.nb_records.specs.contracts.acl.WayOrd.TheImpl as way_ord
use Rattle.nb_records.specs.contracts.router.RouteByOrd.TheImpl as route_by_ord
use Rattle.nv_base.specs.Block.{Block}
use Rattle.nv_base.specs.declared.ip4.Ip4.{Ip4}
use Rattle.nv_base.specs.declared.object.ObjId.{ObjId}
use Rattle.nb_records.specs.Tags.{tag_cmp, owned_tags, port_tags, peer_tags, ips_of, ip_tags, router_port_tags, route_tags, nat_tags, acl_tags, binding_tags, rule_of, route_rule, nat_rule, acl_rule, switch_tags, router_tags, group_tags}
use Rattle.nb_records.specs.declared.acl.Acl.{Acl}
use Rattle.nb_records.specs.declared.acl.Way.{Way}
use Rattle.nb_records.specs.declared.acl.Way.TheVariants.{From, To}
use Rattle.nb_records.specs.declared.router.Binding.{Binding}
use Rattle.nb_records.specs.declared.router.Nat.{Nat}
use Rattle.nb_records.specs.declared.router.NatKind.{NatKind}
use Rattle.nb_records.specs.declared.router.NatKind.TheVariants.{Snat, Dnat, DnatAndSnat}
use Rattle.nb_records.specs.declared.router.Route.{Route}
use Rattle.nb_records.specs.declared.router.RouteBy.{RouteBy}
use Rattle.nb_records.specs.declared.router.RouteBy.TheVariants.{Dst, Src}
use Rattle.nb_records.specs.declared.router.Router.{Router}
use Rattle.nb_records.specs.declared.router.RouterPort.{RouterPort}
use Rattle.nb_records.specs.declared.sets.Group.{Group}
use Rattle.nb_records.specs.declared.switch.Port.{Port}
use Rattle.nb_records.specs.declared.switch.PortKind.{PortKind}
use Rattle.nb_records.specs.declared.switch.PortKind.TheVariants as kind
use Rattle.nb_records.specs.declared.switch.Switch.{Switch}
use Rattle.nb_records.specs.declared.tag.Rule.{Rule}
use Rattle.nb_records.specs.declared.tag.Rule.TheVariants as rule
use Rattle.nb_records.specs.declared.tag.Tag.TheVariants.{Named, Of, Lists, Says}
use Rattle.nb_model.specs.Belongs.{is_among, same_policy, same_block, same_way, is_snat}
use Rattle.nb_model.specs.Network.{same}
use Rattle.nv_table.specs.Table.{has_tag, is_after}
use Rattle.nb_store.proofs.Found.{found_by, same_found, or_false, no_ip}

eq_then : (x y : Ordering) → is_eq (ordering_then x y) ≡ (is_eq x && is_eq y)
eq_then Less y = refl
eq_then Equal y = refl
eq_then Greater y = refl

all_of : (a b c : Bool) → (a && (b && c)) ≡ (a && b && c)
all_of true b c = refl
all_of false b c = refl

-- one number is the other
same_object : (a b : ObjId) → is_eq (nat_cmp a.0 b.0) ≡ same a b
same_object a b = unsigned_tied a.0 b.0

policies : (by own : RouteBy) → is_eq ((route_by_ord.ghosts).cmp by own) ≡ same_policy by own
policies Dst Dst = refl
policies Dst Src = refl
policies Src Dst = refl
policies Src Src = refl

ways : (way own : Way) → is_eq ((way_ord.ghosts).cmp way own) ≡ same_way way own
ways From From = refl
ways From To = refl
ways To From = refl
ways To To = refl

blocks : (p q : Block) → is_eq (ordering_then (nat_cmp p.base.0 q.base.0) (nat_cmp p.len q.len)) ≡ same_block p q
blocks p q = eq_then (nat_cmp p.base.0 q.base.0) (nat_cmp p.len q.len) ∙ (λ i. unsigned_tied p.base.0 q.base.0 i && unsigned_tied p.len q.len i)

-- what a record belongs to
pub is_owned : (owner own : ObjId) (rule : Rule) → list_any (λ tag. is_eq (tag_cmp (Of owner) tag)) (owned_tags own rule) ≡ same owner own
is_owned owner own rule = or_false _ false refl ∙ same_object owner own

pub is_on_switch : (owner own : ObjId) (name : List ℕ) (kind : PortKind) (peer : Option (List ℕ)) (ips : List Ip4)
    → list_any (λ tag. is_eq (tag_cmp (Of owner) tag)) (Named name ∷ Of own ∷ (peer_tags kind peer ++ ip_tags ips)) ≡ same owner own
is_on_switch owner own name kind.Router (Some peer) ips = or_false _ _ (no_ip (λ tag. is_eq (tag_cmp (Of owner) tag)) (λ ip. refl) refl ips) ∙ same_object owner own
is_on_switch owner own name kind.Router None ips = or_false _ _ (no_ip (λ tag. is_eq (tag_cmp (Of owner) tag)) (λ ip. refl) refl ips) ∙ same_object owner own
is_on_switch owner own name kind.Host peer ips = or_false _ _ (no_ip (λ tag. is_eq (tag_cmp (Of owner) tag)) (λ ip. refl) refl ips) ∙ same_object owner own

pub is_on_router : (owner own : ObjId) (name : List ℕ) → list_any (λ tag. is_eq (tag_cmp (Of owner) tag)) (Named name ∷ Of own ∷ []) ≡ same owner own
is_on_router owner own name = or_false _ false refl ∙ same_object owner own

-- what it lists
pub is_listed : (object : ObjId) (listed : List ObjId) → list_any (λ tag. is_eq (tag_cmp (Lists object) tag)) (map Lists listed) ≡ is_among object listed
is_listed object [] = refl
is_listed object (x ∷ listed) = λ i. same_object object x i || is_listed object listed i

-- what it says
pub says_route : (a b : ObjId) (by own : RouteBy) (p q : Block) → list_any (λ tag. is_eq (tag_cmp (Says a (rule.Route by p.base p.len)) tag)) (owned_tags b (rule.Route own q.base q.len)) ≡ (same a b && same_policy by own && same_block p q)
says_route a b by own p q =
    let blocks_cmp = ordering_then (nat_cmp p.base.0 q.base.0) (nat_cmp p.len q.len) in
    let by_cmp = (route_by_ord.ghosts).cmp by own in
    or_false _ false refl
    ∙ eq_then (nat_cmp a.0 b.0) (ordering_then by_cmp blocks_cmp)
    ∙ ap (λ e. is_eq (nat_cmp a.0 b.0) && e) (eq_then by_cmp blocks_cmp)
    ∙ all_of (is_eq (nat_cmp a.0 b.0)) (is_eq by_cmp) (is_eq blocks_cmp)
    ∙ (λ i. same_object a b i && policies by own i && blocks p q i)

pub says_acl : (a b : ObjId) (way own : Way) (p q d e : ℕ)
    → list_any (λ tag. is_eq (tag_cmp (Says a (rule.Acl way p d)) tag)) (owned_tags b (rule.Acl own q e)) ≡ (same a b && (same_way way own && ((p == q) && (d == e))))
says_acl a b way own p q d e =
    let way_cmp = (way_ord.ghosts).cmp way own in
    let last_cmp = ordering_then (nat_cmp p q) (nat_cmp d e) in
    or_false _ false refl
    ∙ eq_then (nat_cmp a.0 b.0) (ordering_then way_cmp last_cmp)
    ∙ ap (λ c. is_eq (nat_cmp a.0 b.0) && c) (eq_then way_cmp last_cmp)
    ∙ ap (λ c. is_eq (nat_cmp a.0 b.0) && (is_eq way_cmp && c)) (eq_then (nat_cmp p q) (nat_cmp d e))
    ∙ (λ i. same_object a b i && (ways way own i && (unsigned_tied p q i && unsigned_tied d e i)))

pub says_binding : (a b : ObjId) (p q : Ip4) → list_any (λ tag. is_eq (tag_cmp (Says a (rule.Binding p)) tag)) (owned_tags b (rule.Binding q)) ≡ (same a b && (p.0 == q.0))
says_binding a b p q = or_false _ false refl ∙ eq_then (nat_cmp a.0 b.0) (nat_cmp p.0 q.0) ∙ (λ i. same_object a b i && unsigned_tied p.0 q.0 i)

nat_said : (a : ObjId) (external : Ip4) (p : Block) (nat : Nat) (kind own : NatKind)
    → is_eq (tag_cmp (Says a (if is_snat kind then rule.Snat p.base p.len else rule.Dnat external)) (Says nat.router (rule_of nat own)))
    ≡ (same a nat.router && (if is_snat kind then is_snat own && same_block p nat.logical else not (is_snat own) && (external.0 == nat.external.0)))
nat_said a external p nat Snat Snat = eq_then (nat_cmp a.0 nat.router.0) _ ∙ (λ i. same_object a nat.router i && blocks p nat.logical i)
nat_said a external p nat Snat Dnat = eq_then (nat_cmp a.0 nat.router.0) Less ∙ (λ i. same_object a nat.router i && false)
nat_said a external p nat Snat DnatAndSnat = eq_then (nat_cmp a.0 nat.router.0) Less ∙ (λ i. same_object a nat.router i && false)
nat_said a external p nat Dnat Snat = eq_then (nat_cmp a.0 nat.router.0) Greater ∙ (λ i. same_object a nat.router i && false)
nat_said a external p nat Dnat Dnat = eq_then (nat_cmp a.0 nat.router.0) (nat_cmp external.0 nat.external.0) ∙ (λ i. same_object a nat.router i && unsigned_tied external.0 nat.external.0 i)
nat_said a external p nat Dnat DnatAndSnat = eq_then (nat_cmp a.0 nat.router.0) (nat_cmp external.0 nat.external.0) ∙ (λ i. same_object a nat.router i && unsigned_tied external.0 nat.external.0 i)
nat_said a external p nat DnatAndSnat Snat = eq_then (nat_cmp a.0 nat.router.0) Greater ∙ (λ i. same_object a nat.router i && false)
nat_said a external p nat DnatAndSnat Dnat = eq_then (nat_cmp a.0 nat.router.0) (nat_cmp external.0 nat.external.0) ∙ (λ i. same_object a nat.router i && unsigned_tied external.0 nat.external.0 i)
nat_said a external p nat DnatAndSnat DnatAndSnat = eq_then (nat_cmp a.0 nat.router.0) (nat_cmp external.0 nat.external.0) ∙ (λ i. same_object a nat.router i && unsigned_tied external.0 nat.external.0 i)

pub says_nat : (a : ObjId) (external : Ip4) (p : Block) (kind : NatKind) (nat : Nat)
    → has_tag nat_tags (tag_cmp (Says a (if is_snat kind then rule.Snat p.base p.len else rule.Dnat external))) nat
    ≡ (same a nat.router && (if is_snat kind then is_snat nat.kind && same_block p nat.logical else not (is_snat nat.kind) && (external.0 == nat.external.0)))
says_nat a external p kind nat = or_false _ false refl ∙ nat_said a external p nat kind nat.kind

abbrev pub port_on : ObjId → Option ObjId → List Port → Option Port
port_on switch after rs = find (λ s. is_after after s.id && same switch s.switch) rs

pub port_on_found : (switch : ObjId) (after : Option ObjId) (rs : List Port) → find (λ s. is_after after s.id && has_tag port_tags (tag_cmp (Of switch)) s) rs ≡ port_on switch after rs
port_on_found switch after rs = found_by (λ (s : Port). s.id) port_tags (tag_cmp (Of switch)) (λ s. same switch s.switch) after (λ s. is_on_switch switch s.switch s.name s.kind s.router_port (flat_map ips_of s.addresses)) rs

abbrev pub router_port_on : ObjId → Option ObjId → List RouterPort → Option RouterPort
router_port_on router after rs = find (λ s. is_after after s.id && same router s.router) rs

pub router_port_on_found : (router : ObjId) (after : Option ObjId) (rs : List RouterPort) → find (λ s. is_after after s.id && has_tag router_port_tags (tag_cmp (Of router)) s) rs ≡ router_port_on router after rs
router_port_on_found router after rs = found_by (λ (s : RouterPort). s.id) router_port_tags (tag_cmp (Of router)) (λ s. same router s.router) after (λ s. is_on_router router s.router s.name) rs

abbrev pub route_of : ObjId → Option ObjId → List Route → Option Route
route_of router after rs = find (λ s. is_after after s.id && same router s.router) rs

pub route_of_found : (router : ObjId) (after : Option ObjId) (rs : List Route) → find (λ s. is_after after s.id && has_tag route_tags (tag_cmp (Of router)) s) rs ≡ route_of router after rs
route_of_found router after rs = found_by (λ (s : Route). s.id) route_tags (tag_cmp (Of router)) (λ s. same router s.router) after (λ s. is_owned router s.router (route_rule s)) rs

abbrev pub nat_of : ObjId → Option ObjId → List Nat → Option Nat
nat_of router after rs = find (λ s. is_after after s.id && same router s.router) rs

pub nat_of_found : (router : ObjId) (after : Option ObjId) (rs : List Nat) → find (λ s. is_after after s.id && has_tag nat_tags (tag_cmp (Of router)) s) rs ≡ nat_of router after rs
nat_of_found router after rs = found_by (λ (s : Nat). s.id) nat_tags (tag_cmp (Of router)) (λ s. same router s.router) after (λ s. is_owned router s.router (nat_rule s)) rs

abbrev pub acl_of : ObjId → Option ObjId → List Acl → Option Acl
acl_of owner after rs = find (λ s. is_after after s.id && same owner s.owner) rs

pub acl_of_found : (owner : ObjId) (after : Option ObjId) (rs : List Acl) → find (λ s. is_after after s.id && has_tag acl_tags (tag_cmp (Of owner)) s) rs ≡ acl_of owner after rs
acl_of_found owner after rs = found_by (λ (s : Acl). s.id) acl_tags (tag_cmp (Of owner)) (λ s. same owner s.owner) after (λ s. is_owned owner s.owner (acl_rule s)) rs

abbrev pub binding_of : ObjId → Option ObjId → List Binding → Option Binding
binding_of port after rs = find (λ s. is_after after s.id && same port s.port) rs

pub binding_of_found : (port : ObjId) (after : Option ObjId) (rs : List Binding) → find (λ s. is_after after s.id && has_tag binding_tags (tag_cmp (Of port)) s) rs ≡ binding_of port after rs
binding_of_found port after rs = found_by (λ (s : Binding). s.id) binding_tags (tag_cmp (Of port)) (λ s. same port s.port) after (λ s. is_owned port s.port (rule.Binding s.addr)) rs

abbrev pub switch_with : ObjId → Option ObjId → List Switch → Option Switch
switch_with lb after rs = find (λ s. is_after after s.id && is_among lb s.lbs) rs

pub switch_with_found : (lb : ObjId) (after : Option ObjId) (rs : List Switch) → find (λ s. is_after after s.id && has_tag switch_tags (tag_cmp (Lists lb)) s) rs ≡ switch_with lb after rs
switch_with_found lb after rs = found_by (λ (s : Switch). s.id) switch_tags (tag_cmp (Lists lb)) (λ s. is_among lb s.lbs) after (λ s. is_listed lb s.lbs) rs

abbrev pub router_with : ObjId → Option ObjId → List Router → Option Router
router_with lb after rs = find (λ s. is_after after s.id && is_among lb s.lbs) rs

pub router_with_found : (lb : ObjId) (after : Option ObjId) (rs : List Router) → find (λ s. is_after after s.id && has_tag router_tags (tag_cmp (Lists lb)) s) rs ≡ router_with lb after rs
router_with_found lb after rs = found_by (λ (s : Router). s.id) router_tags (tag_cmp (Lists lb)) (λ s. is_among lb s.lbs) after (λ s. is_listed lb s.lbs) rs

abbrev pub group_with : ObjId → Option ObjId → List Group → Option Group
group_with port after rs = find (λ s. is_after after s.id && is_among port s.ports) rs

pub group_with_found : (port : ObjId) (after : Option ObjId) (rs : List Group) → find (λ s. is_after after s.id && has_tag group_tags (tag_cmp (Lists port)) s) rs ≡ group_with port after rs
group_with_found port after rs = found_by (λ (s : Group). s.id) group_tags (tag_cmp (Lists port)) (λ s. is_among port s.ports) after (λ s. is_listed port s.ports) rs

abbrev pub route_saying : ObjId → RouteBy → Block → List Route → Option Route
route_saying router by prefix rs = find (λ s. same router s.router && same_policy by s.by && same_block prefix s.prefix) rs

pub route_saying_found : (router : ObjId) (by : RouteBy) (prefix : Block) (rs : List Route) → find (λ s. has_tag route_tags (tag_cmp (Says router (rule.Route by prefix.base prefix.len))) s) rs ≡ route_saying router by prefix rs
route_saying_found router by prefix rs = same_found _ _ (λ (s : Route). says_route router s.router by s.by prefix s.prefix) rs

abbrev pub acl_saying : ObjId → Way → ℕ × ℕ → Option ObjId → List Acl → Option Acl
acl_saying owner way says after rs = find (λ s. is_after after s.id && (same owner s.owner && (same_way way s.way && ((says.0 == s.priority) && (says.1 == digest s.matching))))) rs

pub acl_saying_found : (owner : ObjId) (way : Way) (says : ℕ × ℕ) (after : Option ObjId) (rs : List Acl)
    → find (λ s. is_after after s.id && has_tag acl_tags (tag_cmp (Says owner (rule.Acl way says.0 says.1))) s) rs ≡ acl_saying owner way says after rs
acl_saying_found owner way says after rs =
    found_by (λ (s : Acl). s.id) acl_tags (tag_cmp (Says owner (rule.Acl way says.0 says.1))) (λ s. same owner s.owner && (same_way way s.way && ((says.0 == s.priority) && (says.1 == digest s.matching)))) after
    (λ s. says_acl owner s.owner way s.way says.0 s.priority says.1 (digest s.matching)) rs

abbrev pub binding_saying : ObjId → Ip4 → List Binding → Option Binding
binding_saying port addr rs = find (λ s. same port s.port && (addr.0 == s.addr.0)) rs

pub binding_saying_found : (port : ObjId) (addr : Ip4) (rs : List Binding) → find (λ s. has_tag binding_tags (tag_cmp (Says port (rule.Binding addr))) s) rs ≡ binding_saying port addr rs
binding_saying_found port addr rs = same_found _ _ (λ (s : Binding). says_binding port s.port addr s.addr) rs

abbrev pub nat_saying : ObjId → NatKind → Ip4 → Block → List Nat → Option Nat
nat_saying router kind external logical rs = find (λ s. same router s.router && (if is_snat kind then is_snat s.kind && same_block logical s.logical else not (is_snat s.kind) && (external.0 == s.external.0))) rs

pub nat_saying_found : (router : ObjId) (kind : NatKind) (external : Ip4) (logical : Block) (rs : List Nat) → find (λ s. has_tag nat_tags (tag_cmp (Says router (if is_snat kind then rule.Snat logical.base logical.len else rule.Dnat external))) s) rs ≡ nat_saying router kind external logical rs
nat_saying_found router kind external logical rs = same_found _ _ (λ (s : Nat). says_nat router external logical kind s) rs
