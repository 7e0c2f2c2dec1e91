-- No two rules of a unit of routers agree in stage, priority and match.
use Rattle.std.proofs.Common.{◌≡◌, ◌≢◌, ℕ, ◌+◌, ◌*◌, ◌≤◌, ◌<◌, Bool, true, false, eqb, nat_lt, ◌&&◌, List, [], ◌∷◌, ◌++◌, map, Option, Some, None, refl, sym, ap, ◌∙◌, arith}
use Rattle.std.specs.Prelude.{slice_get, if◌then◌else◌}
use Rattle.std.specs.Bool.{IsTrue}
use Rattle.std.specs.List.{AllByRecursion}
use Rattle.std.proofs.lemmas.Bool.{and_from, eq-eqb, false≢true, lt-ltb, or_right}
use Rattle.nv_base.specs.Block.{Block}
use Rattle.nv_base.specs.Name.{is_object_name}
use Rattle.nv_base.specs.declared.field.Field.TheVariants.{Ip4Dst}
use Rattle.nv_base.specs.declared.ip4.Ip4.{Ip4}
use Rattle.expr_core.specs.Formula.{Formula}
use Rattle.expr_core.specs.Formula.Formula.{Leaf, And}
use Rattle.expr_core.specs.Formula.Formulas.{Cons}
use Rattle.expr_core.specs.declared.comparison.Item.TheVariants.{Masked, Text}
use Rattle.expr_core.specs.declared.comparison.Right.TheVariants as right
use Rattle.expr_core.specs.declared.predicate.Pred.TheVariants as pred
use Rattle.expr_core.specs.declared.typed.TypedAtom.{TypedAtom}
use Rattle.expr_core.specs.declared.typed.TypedAtom.TheVariants.{Compare, Holds}
use Rattle.nb_records.specs.declared.router.NatKind.{NatKind}
use Rattle.nb_records.specs.declared.router.NatKind.TheVariants.{Snat, Dnat, DnatAndSnat}
use Rattle.nb_read.specs.Readings.{cleared}
use Rattle.nb_model.specs.Applies.{is_empty}
use Rattle.nb_model.specs.Belongs.{same_frontend, same_port}
use Rattle.nb_model.specs.Readable.{are_apart}
use Rattle.sb_model.specs.Make.{all_of, as_ip4, equals, is_predicate}
use Rattle.sb_model.specs.Stage.{stage_place}
use Rattle.sb_model.specs.declared.stage.Stage.{Stage}
use Rattle.sb_model.specs.declared.stage.Stage.TheVariants.{LrInAdmission, LrInIpInput, LrOutDelivery}
use Rattle.net_rows.specs.declared.rule.Rule.{Rule}
use Rattle.net_rows.proofs.Differ.{HasPrintable, RulesDiffer, by_match, by_number, by_place, by_priority, same_place}
use Rattle.net_rows.proofs.Elements.{every_append}
use Rattle.net_rows.proofs.Pairs.{Across, OfPairs, every_member, pairs_append, pairs_as, pairs_map, pairs_weaker}
use Rattle.net_rows.proofs.PortParts.{last_number, second_number}
use Rattle.net_rows.proofs.SoundObjects.{IsBlock, Unlike, unlike_pairs}
use Rattle.lr_rows.specs.Balancers.{balancing_rule, vip_addr_rules, vip_router_rules}
use Rattle.lr_rows.specs.Input.{address_rules, admitting_rules, by_first, expiring_rules, free_rules, port_in_rules, port_in_rules_from, router_in_rules}
use Rattle.lr_rows.specs.Make.{arp_rule_for}
use Rattle.lr_rows.specs.Nat.{connection_rules, nat_rules, passing_rules, router_nat_rules, translating_rules}
use Rattle.lr_rows.specs.Neighbours.{binding_rules, neighbour_rules, resolving_rule}
use Rattle.lr_rows.specs.Routes.{by_exit, delivery_rules, network_rule, own_address_rules, port_route_rules, port_route_rules_of, router_route_rules, static_route_rules, static_rule}
use Rattle.lr_rows.specs.declared.inputs.BindingInput.{BindingInput}
use Rattle.lr_rows.specs.declared.inputs.Exit.{Exit}
use Rattle.lr_rows.specs.declared.inputs.Host.{Host}
use Rattle.lr_rows.specs.declared.inputs.NatRuleInput.{NatRuleInput}
use Rattle.lr_rows.specs.declared.inputs.NeighbourInput.{NeighbourInput}
use Rattle.lr_rows.specs.declared.inputs.PortInInput.{PortInInput}
use Rattle.lr_rows.specs.declared.inputs.PortRouteInput.{PortRouteInput}
use Rattle.lr_rows.specs.declared.inputs.RouterNatInput.{RouterNatInput}
use Rattle.lr_rows.specs.declared.inputs.StaticRouteInput.{StaticRouteInput}
use Rattle.lr_rows.specs.declared.inputs.VipAddrInput.{VipAddrInput}
use Rattle.net_rows.specs.declared.inputs.VipInput.{VipInput}
use Rattle.lr_units.proofs.Matches.{HasLow, IsPort, address_printable, arp_printable, free_printable, network_printable, resolving_printable}
use Rattle.lr_units.proofs.SoundRouters.{OtherNets}
use Rattle.lr_units.proofs.Tests.{IsLow}

-- ---- places

-- rules of which a test of stage and priority holds, and rules of which it does not
abbrev pub Passes : (Stage → ℕ → Bool) → Bool → Rule → Type 0
Passes test b r = test r.stage r.priority ≡ b

pub by_test : (test : Stage → ℕ → Bool) (r s : Rule) → Passes test true r → Passes test false s → RulesDiffer r s
by_test test r s passes fails = record { never = λ stage priority text. false≢true (sym fails ∙ ap (λ st. test st s.priority) (sym stage) ∙ ap (λ (p : ℕ). test r.stage p) (sym priority) ∙ passes) }

pub across_test : (test : Stage → ℕ → Bool) (rules others : List Rule) → AllByRecursion (Passes test true) rules → AllByRecursion (Passes test false) others → Across RulesDiffer rules others
across_test test rules others pass fail r s in_rules in_others = by_test test r s (every_member (Passes test true) rules r pass in_rules) (every_member (Passes test false) others s fail in_others)

-- the other way round
pub across_back : (test : Stage → ℕ → Bool) (rules others : List Rule) → AllByRecursion (Passes test false) rules → AllByRecursion (Passes test true) others → Across RulesDiffer rules others
across_back test rules others fail pass r s in_rules in_others =
    let turned = by_test test s r (every_member (Passes test true) others s pass in_others) (every_member (Passes test false) rules r fail in_rules) in
    record { never = λ stage priority text. turned.never (sym stage) (sym priority) (sym text) }

-- no two are at one place
placed : (rules : List Rule) → are_apart same_place rules ≡ true → OfPairs RulesDiffer rules
placed rules apart = pairs_as (Unlike same_place) RulesDiffer rules by_place (unlike_pairs same_place rules apart)

-- ---- of a router

pub router_in_apart : OfPairs RulesDiffer router_in_rules
unfolding stage_place
router_in_apart = placed router_in_rules refl

pub router_route_apart : OfPairs RulesDiffer router_route_rules
unfolding stage_place
router_route_apart = placed router_route_rules refl

pub router_nat_apart : (input : RouterNatInput) → OfPairs RulesDiffer (router_nat_rules input)
unfolding router_nat_rules stage_place
router_nat_apart input = by input.dnats
  where
    by : (b : Bool) → OfPairs RulesDiffer (passing_rules ++ connection_rules b)
    by true = placed (passing_rules ++ connection_rules true) refl
    by false = placed (passing_rules ++ connection_rules false) refl

-- ---- of a port

abbrev is_admission : Stage → ℕ → Bool
is_admission LrInAdmission priority = true
is_admission other priority = false

-- what is answered or dropped after the rules of the addresses, and what is last
abbrev is_low_input : ℕ → Stage → ℕ → Bool
is_low_input below LrInIpInput priority = nat_lt priority below
is_low_input below other priority = false

alone : (enabled : Bool) (r : Rule) → OfPairs RulesDiffer (if enabled then r ∷ [] else [])
alone true r = (tt, tt)
alone false r = tt

-- a property of the rule that is there where the port is enabled
where_enabled : (P : Rule → Type 0) (enabled : Bool) (r : Rule) → P r → AllByRecursion P (if enabled then r ∷ [] else [])
where_enabled P true r is = (is, tt)
where_enabled P false r is = tt

-- an ARP request and an echo request are told apart by the first test
abbrev first_field : Formula TypedAtom → Bool
first_field (And (Cons (Leaf (Compare f bits rel (right.Set items))) ts)) = true
first_field other = false

-- TCP and UDP by the second
abbrev second_predicate : Formula TypedAtom → Bool
second_predicate (And (Cons t (Cons (Leaf (Holds pred.Tcp)) ts))) = true
second_predicate other = false

module _ (input : PortInInput) (is : IsPort input.name input.mac input.nets) (low : AllByRecursion IsLow input.free) (net : Block) (nets : List Block) (some : input.nets ≡ net ∷ nets) where
  address_apart : OfPairs RulesDiffer (address_rules input)
  unfolding stage_place
  address_apart =
      let can = address_printable input is low net nets some in (
        (by_place _ _ refl, (by_place _ _ refl, (by_place _ _ refl, tt))),
        (
          (by_place _ _ refl, (by_place _ _ refl, tt)),
          ((by_match _ _ can.1.1.0 can.1.1.1.0 (λ same. false≢true (ap first_field same)), tt), (tt, tt)),
        ),
      )

free_apart : (addrs : List Ip4) → AllByRecursion IsLow addrs → OfPairs RulesDiffer (free_rules addrs)
unfolding stage_place
free_apart [] low = tt
free_apart (addr ∷ addrs) low =
    let can = free_printable (addr ∷ addrs) low in
    ((by_match _ _ can.0 can.1.0 (λ same. false≢true (sym (ap second_predicate same))), (by_place _ _ refl, tt)), ((by_place _ _ refl, tt), (tt, tt)))

free_at : (P : Rule → Type 0) (addrs : List Ip4) → ((a : Ip4) (more : List Ip4) → AllByRecursion P (free_rules (a ∷ more))) → AllByRecursion P (free_rules addrs)
free_at P [] each = tt
free_at P (a ∷ addrs) each = each a addrs

pub port_in_apart : (input : PortInInput) → IsPort input.name input.mac input.nets → AllByRecursion IsLow input.free → OfPairs RulesDiffer (port_in_rules input)
unfolding port_in_rules
port_in_apart input is low = by input.nets refl
  where
    by : (nets : List Block) → input.nets ≡ nets → OfPairs RulesDiffer (by_first (port_in_rules_from input) (slice_get nets 0))
    by [] e = tt
    by (net ∷ nets) e =
        let admitting = admitting_rules input in
        let addresses = address_rules input in
        let free = free_rules input.free in
        let expiring = expiring_rules input.name net.base in
        let low_85 = is_low_input 85 in
        let low_50 = is_low_input 50 in
        pairs_append RulesDiffer (admitting ++ addresses ++ free) expiring
        (pairs_append RulesDiffer (admitting ++ addresses) free
        (pairs_append RulesDiffer admitting addresses (alone input.enabled _) (address_apart input is low net nets e)
        (across_test is_admission admitting addresses (where_enabled (Passes is_admission true) input.enabled _ refl) (refl, (refl, (refl, (refl, tt))))))
        (free_apart input.free low)
        (across_back low_85 (admitting ++ addresses) free
        (every_append (Passes low_85 false) admitting addresses (where_enabled (Passes low_85 false) input.enabled _ refl) (refl, (refl, (refl, (refl, tt)))))
        (free_at (Passes low_85 true) input.free (λ a more. (refl, (refl, (refl, tt)))))))
        (tt, tt)
        (across_back low_50 (admitting ++ addresses ++ free) expiring
        (every_append (Passes low_50 false) (admitting ++ addresses) free
        (every_append (Passes low_50 false) admitting addresses (where_enabled (Passes low_50 false) input.enabled _ refl) (refl, (refl, (refl, (refl, tt)))))
        (free_at (Passes low_50 false) input.free (λ a more. (refl, (refl, (refl, tt))))))
        (refl, tt))

-- ---- the networks of a port

-- the base of the network that a test compares with
abbrev base_of : Formula TypedAtom → ℕ
base_of (Leaf (Compare f bits rel (right.Item (Masked c m)))) = c.value
base_of other = 0

abbrev is_delivery : Stage → ℕ → Bool
is_delivery LrOutDelivery priority = true
is_delivery other priority = false

abbrev is_below_own : Stage → ℕ → Bool
is_below_own stage priority = nat_lt priority 200

module _ (input : PortRouteInput) (is : IsPort input.name input.mac input.nets) where
  two_networks : (m n : Block) → IsBlock m → IsBlock n → OtherNets m n → RulesDiffer (network_rule input m) (network_rule input n)
  two_networks m n of_m of_n other = by (eqb m.len n.len) refl
    where
      fours : (k l : ℕ) → 4 * k + 3 ≡ 4 * l + 3 → k ≡ l
      fours k l e = omega arith

      by : (b : Bool) → eqb m.len n.len ≡ b → RulesDiffer (network_rule input m) (network_rule input n)
      by false lens = by_priority _ _ (λ same. false≢true (sym lens ∙ eq-eqb m.len n.len (fours m.len n.len same)))
      by true lens =
          by_number base_of _ _ (network_printable input is m of_m) (network_printable input is n of_n)
          (λ same. false≢true (sym other ∙ or_right (eqb m.base.0 n.base.0) (eqb (cleared m).base.0 (cleared n).base.0 && eqb m.len n.len) (and_from (eqb (cleared m).base.0 (cleared n).base.0) (eqb m.len n.len) (eq-eqb _ _ same) lens)))

  networks_apart : (nets : List Block) → AllByRecursion IsBlock nets → OfPairs OtherNets nets → OfPairs RulesDiffer (map (network_rule input) nets)
  networks_apart nets all others =
      pairs_map RulesDiffer (network_rule input) nets (pairs_weaker IsBlock OtherNets (λ m n. RulesDiffer (network_rule input m) (network_rule input n)) nets two_networks all others)

  networks_low : (nets : List Block) → AllByRecursion IsBlock nets → AllByRecursion (Passes is_below_own true) (map (network_rule input) nets)
  networks_low [] all = tt
  networks_low (net ∷ nets) all = (lt-ltb (4 * net.len + 3) 200 (below net.len all.0.len), networks_low nets all.1)
    where
      below : (k : ℕ) → k ≤ 32 → 4 * k + 3 < 200
      below k short = omega arith

  networks_routed : (nets : List Block) → AllByRecursion (Passes is_delivery false) (map (network_rule input) nets)
  networks_routed [] = tt
  networks_routed (net ∷ nets) = (refl, networks_routed nets)

pub port_route_apart : (input : PortRouteInput) → IsPort input.name input.mac input.nets → OfPairs OtherNets input.nets → OfPairs RulesDiffer (port_route_rules input)
unfolding port_route_rules
port_route_apart input is others = by (is_empty input.nets)
  where
    by : (b : Bool) → OfPairs RulesDiffer (if b then [] else port_route_rules_of input)
    by true = tt
    by false =
        let own = own_address_rules input in
        let networks = map (network_rule input) input.nets in
        let delivery = delivery_rules input.enabled input.name in
        pairs_append RulesDiffer (own ++ networks) delivery
        (pairs_append RulesDiffer own networks (tt, tt) (networks_apart input is input.nets is.blocks others) (across_back is_below_own own networks (refl, tt) (networks_low input is input.nets is.blocks)))
        (alone input.enabled _)
        (across_back is_delivery (own ++ networks) delivery (every_append (Passes is_delivery false) own networks (refl, tt) (networks_routed input is input.nets)) (where_enabled (Passes is_delivery true) input.enabled _ refl))

-- ---- of what belongs to a router or to a port

pub static_route_apart : (input : StaticRouteInput) → OfPairs RulesDiffer (static_route_rules input)
unfolding static_route_rules
static_route_apart input = by input.found
  where
    by : (found : Option Exit) → OfPairs RulesDiffer (by_exit (static_rule input) found)
    by None = tt
    by (Some exit) = (tt, tt)

pub binding_apart : (input : BindingInput) → OfPairs RulesDiffer (binding_rules input)
unfolding binding_rules
binding_apart input = (tt, tt)

-- two hosts
abbrev pub OtherHosts : Host → Host → Type 0
OtherHosts h k = h.addr.0 ≢ k.addr.0

pub neighbour_apart : (input : NeighbourInput) → IsTrue (is_object_name input.name) → AllByRecursion HasLow input.hosts → OfPairs OtherHosts input.hosts → OfPairs RulesDiffer (neighbour_rules input)
unfolding neighbour_rules
neighbour_apart input named low others =
    pairs_map RulesDiffer (resolving_rule 100 input.name) input.hosts
    (pairs_weaker HasLow OtherHosts (λ h k. RulesDiffer (resolving_rule 100 input.name h) (resolving_rule 100 input.name k)) input.hosts
    (λ h k low_h low_k other. by_number last_number _ _ (resolving_printable 100 input.name h named low_h) (resolving_printable 100 input.name k named low_k) other) low others)

pub nat_apart : (input : NatRuleInput) → OfPairs RulesDiffer (nat_rules input)
unfolding nat_rules stage_place
nat_apart input = by input.kind
  where
    by : (kind : NatKind) → OfPairs RulesDiffer (arp_rule_for input.external ∷ translating_rules kind input)
    by Snat = placed (arp_rule_for input.external ∷ translating_rules Snat input) refl
    by Dnat = placed (arp_rule_for input.external ∷ translating_rules Dnat input) refl
    by DnatAndSnat = placed (arp_rule_for input.external ∷ translating_rules DnatAndSnat input) refl

pub vip_router_apart : (input : VipInput) → OfPairs RulesDiffer (vip_router_rules input)
unfolding vip_router_rules
vip_router_apart input = by (is_empty input.backends)
  where
    by : (b : Bool) → OfPairs RulesDiffer (if b then [] else balancing_rule input ∷ [])
    by true = tt
    by false = (tt, tt)

pub vip_addr_apart : (input : VipAddrInput) → OfPairs RulesDiffer (vip_addr_rules input)
unfolding vip_addr_rules
vip_addr_apart input = (tt, tt)

-- ---- of two addresses of VIPs of one load balancer

-- the rules of an address of VIPs are for that address
pub addrs_differ : (a b : Ip4) → IsLow a → IsLow b → a.0 ≢ b.0 → RulesDiffer (arp_rule_for a) (arp_rule_for b)
addrs_differ a b low_a low_b other = by_number last_number _ _ (arp_printable a low_a) (arp_printable b low_b) other

-- ---- of two router ports

-- the name of the port that a match asks for first
abbrev named : Formula TypedAtom → List ℕ
named (And (Cons (Leaf (Compare f bits rel (right.Item (Text name)))) ts)) = name
named other = []

-- the rules of neighbours across two ports
pub names_differ : (name other : List ℕ) (h k : Host) → IsTrue (is_object_name name) → IsTrue (is_object_name other) → HasLow h → HasLow k → name ≢ other → RulesDiffer (resolving_rule 100 name h) (resolving_rule 100 other k)
names_differ name other h k is_name is_other low_h low_k unlike = by_match _ _ (resolving_printable 100 name h is_name low_h) (resolving_printable 100 other k is_other low_k) (λ same. unlike (ap named same))
