-- Which stages the rules of switches are of, of their ports, of ACLs that apply to them, and of VIPs; and which rules there are where a switch
-- tracks no connections.
use Rattle.std.proofs.Common.{◌≡◌, ℕ, ◌+◌, Bool, true, false, cond, List, [], ◌∷◌, ◌++◌, map, eqb, sym, ap, refl, ◌∙◌, subst, ◌⊎◌, inl, inr}
use Rattle.std.specs.Prelude.{◌||◌}
use Rattle.std.specs.List.{AllByRecursion, Contains, filter, flat_map}
use Rattle.std.proofs.lemmas.Bool.{false≢true, and_parts, eq-eqb}
use Rattle.std.proofs.lemmas.List.Elements.{All-contains, All-from_recursion, Contains-append_cases}
use Rattle.nv_base.specs.declared.ip4.Ip4.{Ip4}
use Rattle.nv_base.specs.declared.object.ObjId.{ObjId}
use Rattle.nb_records.specs.declared.acl.Acl.{Acl}
use Rattle.nb_records.specs.declared.acl.Verdict.{Verdict}
use Rattle.nb_records.specs.declared.acl.Verdict.TheVariants.{Allow, AllowRelated, AllowStateless, Drop, Reject}
use Rattle.nb_records.specs.declared.acl.Way.{Way}
use Rattle.nb_records.specs.declared.acl.Way.TheVariants.{From, To}
use Rattle.nb_records.specs.declared.switch.Addr.{Addr}
use Rattle.nb_records.specs.declared.switch.Addr.TheVariants as addr
use Rattle.nb_records.specs.declared.switch.Guard.{Guard}
use Rattle.nb_records.specs.declared.switch.Port.{Port}
use Rattle.nb_model.specs.Belongs.{is_router_kind, is_to_router}
use Rattle.nb_model.specs.Network.{Network}
use Rattle.nb_model.specs.Readable.{is_priority}
use Rattle.nb_model.specs.Applies.{is_empty, tracks, balances}
use Rattle.sb_model.specs.Stage.{stage_place}
use Rattle.sb_model.specs.declared.stage.Stage.{Stage}
use Rattle.sb_model.specs.declared.stage.Stage.TheVariants.{LsInCheckPortSec, LsInPreAcl, LsInAclEval, LsInLb, LsInArpRsp, LsInL2Lkup, LsOutPreAcl, LsOutAclEval, LsOutCheckPortSec}
use Rattle.net_rows.specs.Acls.{switch_acl_rules, port_acl_rules, first_stage_of, stage_of, ending, tracked_rules, untracking_rules, acl_on_rules}
use Rattle.net_rows.specs.Build.{port_sec_input, port_acl_input, acl_rules_of_port, is_untracked, acl_on_input, has_unknown, port_l2_input, switch_rules, port_rules}
use Rattle.net_rows.specs.LoadBalancers.{switch_lb_rules, vip_switch_rule, vip_switch_rules}
use Rattle.net_rows.specs.Lookup.{switch_l2_rules, arp_rules, arp_rules_of, lookup_rule, looked_up, host_rules, port_l2_rules}
use Rattle.net_rows.specs.PortSecurity.{switch_sec_rules, open_rules, closed_rules, guard_rules, guarded_rules, disabled_rules, port_sec_rules}
use Rattle.net_rows.specs.Unit.{rule}
use Rattle.net_rows.specs.declared.inputs.AclOnInput.{AclOnInput}
use Rattle.net_rows.specs.declared.inputs.PortAclInput.{PortAclInput}
use Rattle.net_rows.specs.declared.inputs.PortL2Input.{PortL2Input}
use Rattle.net_rows.specs.declared.inputs.PortSecInput.{PortSecInput}
use Rattle.net_rows.specs.declared.inputs.VipInput.{VipInput}
use Rattle.net_rows.specs.declared.rule.Rule.{Rule}
use Rattle.net_rows.proofs.VipRules.{vip_switch_only}
use Rattle.net_rows.proofs.Elements.{one_first, one_of, one_of_none, every_append, Contains-filter, Contains-from_filter}

-- ---- the rules of a stage

abbrev pub is_at : Stage → Rule → Bool
is_at stage says = eqb (stage_place says.stage) (stage_place stage)

abbrev pub rules_at : Stage → List Rule → List Rule
rules_at stage rules = filter (is_at stage) rules

-- a rule of the stage is among them
pub among_rules_at : (stage : Stage) (rules : List Rule) (says : Rule) → Contains rules says → says.stage ≡ stage → Contains (rules_at stage rules) says
among_rules_at stage rules says there of = Contains-filter (is_at stage) rules says there (eq-eqb _ _ (ap stage_place of))

-- where these are the rules of the stage, each of these is a rule
pub from_rules_at : (stage : Stage) (rules some : List Rule) (says : Rule) → rules_at stage rules ≡ some → Contains some says → Contains rules says
from_rules_at stage rules some says are there = Contains-from_filter (is_at stage) rules says (subst (λ rs. Contains rs says) (sym are) there)

-- what is in a list of one is that one
pub the_only : {X : Type 0} (x y : X) → Contains (x ∷ []) y → y ≡ x
the_only x y there = by (one_of x [] y there)
  where
    by : (x ≡ y) ⊎ Contains [] y → y ≡ x
    by (inl is) = sym is
    by (inr none) = absurd (one_of_none y none)

-- what holds of each element holds of this one
pub each_of : {X : Type 0} (P : X → Type 0) (xs : List X) (x : X) → AllByRecursion P xs → Contains xs x → P x
each_of P xs x all there = All-contains P xs x (All-from_recursion P xs all) there

-- ---- kinds of stages

-- those of port security
abbrev pub is_of_security : Stage → Bool
is_of_security LsInCheckPortSec = true
is_of_security LsOutCheckPortSec = true
is_of_security _ = false

-- those of addresses of ports
abbrev pub is_of_addresses : Stage → Bool
is_of_addresses LsInArpRsp = true
is_of_addresses LsInL2Lkup = true
is_of_addresses _ = false

-- those of ACLs
abbrev pub is_of_acls : Stage → Bool
is_of_acls LsInPreAcl = true
is_of_acls LsInAclEval = true
is_of_acls LsOutPreAcl = true
is_of_acls LsOutAclEval = true
is_of_acls _ = false

-- those of them where it is asked what is tracked
abbrev pub is_first : Stage → Bool
is_first LsInPreAcl = true
is_first LsOutPreAcl = true
is_first _ = false

-- those where ACLs decide
abbrev pub is_of_decisions : Stage → Bool
is_of_decisions LsInAclEval = true
is_of_decisions LsOutAclEval = true
is_of_decisions _ = false

-- that of load balancers
abbrev pub is_of_balancing : Stage → Bool
is_of_balancing LsInLb = true
is_of_balancing _ = false

-- those of ports but of port security
abbrev pub is_later : Stage → Bool
is_later stage = is_first stage || is_of_addresses stage

-- those of ports before those of addresses
abbrev pub is_before_addresses : Stage → Bool
is_before_addresses stage = is_of_security stage || is_first stage

-- those of ports, and those where their switch tracks no connections
abbrev pub is_of_ports : Stage → Bool
is_of_ports stage = is_of_security stage || is_later stage

abbrev pub is_of_untracked_ports : Stage → Bool
is_of_untracked_ports stage = is_of_security stage || is_of_addresses stage

-- ---- the rules of ports

abbrev OfSecurity : Rule → Type 0
OfSecurity says = is_of_security says.stage ≡ true

abbrev OfAddresses : Rule → Type 0
OfAddresses says = is_of_addresses says.stage ≡ true

module _ (name : List ℕ) where
  of_disabled : (enabled : Bool) → AllByRecursion OfSecurity (disabled_rules enabled name)
  of_disabled true = tt
  of_disabled false = (refl, tt)

  of_guard : (guard : Guard) → AllByRecursion OfSecurity (guard_rules name guard)
  of_guard guard = by (is_empty guard.nets)
    where
      by : (b : Bool) → AllByRecursion OfSecurity (cond b (open_rules name guard) (closed_rules name guard))
      by true = (refl, (refl, tt))
      by false = (refl, (refl, (refl, (refl, (refl, (refl, tt))))))

  of_guards : (guards : List Guard) → AllByRecursion OfSecurity (flat_map (guard_rules name) guards)
  of_guards [] = tt
  of_guards (guard ∷ guards) = every_append OfSecurity (guard_rules name guard) (flat_map (guard_rules name) guards) (of_guard guard) (of_guards guards)

  of_guarded : (guards : List Guard) → AllByRecursion OfSecurity (guarded_rules name guards)
  of_guarded [] = tt
  of_guarded (guard ∷ guards) = (refl, (refl, of_guards (guard ∷ guards)))

  of_hosts : (mac : ℕ) (ips : List Ip4) → AllByRecursion OfAddresses (flat_map (arp_rules name mac) ips)
  of_hosts mac [] = tt
  of_hosts mac (ip ∷ ips) = (refl, (refl, of_hosts mac ips))

  of_address : (address : Addr) → AllByRecursion OfAddresses (arp_rules_of name address)
  of_address addr.Unknown = tt
  of_address addr.Router = tt
  of_address (addr.Host mac ips) = of_hosts mac ips

  of_addresses : (addresses : List Addr) → AllByRecursion OfAddresses (flat_map (arp_rules_of name) addresses)
  of_addresses [] = tt
  of_addresses (address ∷ addresses) = every_append OfAddresses (arp_rules_of name address) (flat_map (arp_rules_of name) addresses) (of_address address) (of_addresses addresses)

  of_macs : (macs : List ℕ) → AllByRecursion OfAddresses (map (lookup_rule name) macs)
  of_macs [] = tt
  of_macs (mac ∷ macs) = (refl, of_macs macs)

-- the rules of port security
pub of_port_sec : (input : PortSecInput) → AllByRecursion OfSecurity (port_sec_rules input)
unfolding port_sec_rules
of_port_sec input =
    every_append OfSecurity (disabled_rules input.enabled input.name) (guarded_rules input.name input.security) (of_disabled input.name input.enabled) (of_guarded input.name input.security)

-- and those of addresses
pub of_port_l2 : (input : PortL2Input) → AllByRecursion OfAddresses (port_l2_rules input)
unfolding port_l2_rules
of_port_l2 input = by input.enabled
  where
    hosts : AllByRecursion OfAddresses (host_rules input)
    hosts = if_router (is_router_kind input.kind)
      where
        if_router : (b : Bool) → AllByRecursion OfAddresses (cond b [] (flat_map (arp_rules_of input.name) input.addresses))
        if_router true = tt
        if_router false = of_addresses input.name input.addresses

    by : (b : Bool) → AllByRecursion OfAddresses (cond b (host_rules input ++ map (lookup_rule input.name) (looked_up input)) [])
    by true = every_append OfAddresses (host_rules input) (map (lookup_rule input.name) (looked_up input)) hosts (of_macs input.name (looked_up input))
    by false = tt

-- and those by which nothing is tracked
of_port_acl : (input : PortAclInput) → AllByRecursion (λ (says : Rule). is_first says.stage ≡ true) (port_acl_rules input)
unfolding port_acl_rules
of_port_acl input = (refl, (refl, tt))

either_way : (a : Bool) → (a || true) ≡ true
either_way true = refl
either_way false = refl

module _ (net : Network) (port : Port) where
  -- the rules of a port but those of port security
  abbrev pub later_rules : List Rule
  later_rules = acl_rules_of_port net port ++ port_l2_rules (port_l2_input net port)

  -- those by which nothing is tracked are of a port that leads to a router, where its switch tracks
  pub acl_rules_of_port-gives : (says : Rule) → Contains (acl_rules_of_port net port) says → (is_untracked net port ≡ true) × Contains (port_acl_rules (port_acl_input port)) says
  acl_rules_of_port-gives says there = by (is_untracked net port) refl there
    where
      by : (b : Bool) → is_untracked net port ≡ b → Contains (cond b (port_acl_rules (port_acl_input port)) []) says → (is_untracked net port ≡ true) × Contains (port_acl_rules (port_acl_input port)) says
      by true is at = (is, at)
      by false is at = absurd (one_of_none says at)

  module _ (says : Rule) where
    -- these are of two parts
    abbrev IsOfLater : Type 0
    IsOfLater = ((is_untracked net port ≡ true) × (is_first says.stage ≡ true)) ⊎ (is_of_addresses says.stage ≡ true)

    acl_rule_of_port_stage : Contains (acl_rules_of_port net port) says → is_first says.stage ≡ true
    acl_rule_of_port_stage at =
        each_of (λ (r : Rule). is_first r.stage ≡ true) (port_acl_rules (port_acl_input port)) says (of_port_acl (port_acl_input port)) (acl_rules_of_port-gives says at).1

    later_part : Contains later_rules says → IsOfLater
    later_part there = by (Contains-append_cases (acl_rules_of_port net port) (port_l2_rules (port_l2_input net port)) says there)
      where
        by : Contains (acl_rules_of_port net port) says ⊎ Contains (port_l2_rules (port_l2_input net port)) says → IsOfLater
        by (inl at) = inl ((acl_rules_of_port-gives says at).0, acl_rule_of_port_stage at)
        by (inr at) = inr (each_of OfAddresses (port_l2_rules (port_l2_input net port)) says (of_port_l2 (port_l2_input net port)) at)

    pub later_stage : Contains later_rules says → is_later says.stage ≡ true
    later_stage there = by (later_part there)
      where
        by : IsOfLater → is_later says.stage ≡ true
        by (inl untracked) = rw untracked.1 refl
        by (inr addresses) = rw addresses (either_way (is_first says.stage))

    -- a port has no other rules
    port_rule_part : Contains (port_rules net port) says → (is_of_security says.stage ≡ true) ⊎ Contains later_rules says
    port_rule_part there = by (Contains-append_cases (port_sec_rules (port_sec_input port)) later_rules says there)
      where
        by : Contains (port_sec_rules (port_sec_input port)) says ⊎ Contains later_rules says → (is_of_security says.stage ≡ true) ⊎ Contains later_rules says
        by (inl at) = inl (each_of OfSecurity (port_sec_rules (port_sec_input port)) says (of_port_sec (port_sec_input port)) at)
        by (inr at) = inr at

    pub port_rule_stage : Contains (port_rules net port) says → is_of_ports says.stage ≡ true
    port_rule_stage there = by (port_rule_part there)
      where
        by : (is_of_security says.stage ≡ true) ⊎ Contains later_rules says → is_of_ports says.stage ≡ true
        by (inl security) = rw security refl
        by (inr at) = rw (later_stage at) (either_way (is_of_security says.stage))

    -- the rules of addresses are after the others
    pub port_rule_parts : Contains (port_rules net port) says → (is_before_addresses says.stage ≡ true) ⊎ Contains (port_l2_rules (port_l2_input net port)) says
    port_rule_parts there = by (port_rule_part there)
      where
        later : Contains (acl_rules_of_port net port) says ⊎ Contains (port_l2_rules (port_l2_input net port)) says → (is_before_addresses says.stage ≡ true) ⊎ Contains (port_l2_rules (port_l2_input net port)) says
        later (inl at) = inl (rw (acl_rule_of_port_stage at) (either_way (is_of_security says.stage)))
        later (inr at) = inr at

        by : (is_of_security says.stage ≡ true) ⊎ Contains later_rules says → (is_before_addresses says.stage ≡ true) ⊎ Contains (port_l2_rules (port_l2_input net port)) says
        by (inl security) = inl (rw security refl)
        by (inr at) = later (Contains-append_cases (acl_rules_of_port net port) (port_l2_rules (port_l2_input net port)) says at)

    -- nor has it others where its switch tracks no connections
    pub untracked_port_stage : tracks net port.switch ≡ false → Contains (port_rules net port) says → is_of_untracked_ports says.stage ≡ true
    untracked_port_stage none there = by (port_rule_part there)
      where
        later : IsOfLater → is_of_untracked_ports says.stage ≡ true
        later (inl untracked) = absurd (false≢true (sym none ∙ (and_parts (is_to_router port) (tracks net port.switch) untracked.0).1))
        later (inr addresses) = rw addresses (either_way (is_of_security says.stage))

        by : (is_of_security says.stage ≡ true) ⊎ Contains later_rules says → is_of_untracked_ports says.stage ≡ true
        by (inl security) = rw security refl
        by (inr at) = later (later_part at)

-- ---- the rules of ACLs

-- an ACL has rules in the stage where it decides, and on a switch that tracks connections also in the first one of its direction
decides_there : (way : Way) → is_of_decisions (stage_of way) ≡ true
decides_there From = refl
decides_there To = refl

abbrev OfAcls : Rule → Type 0
OfAcls says = is_of_acls says.stage ≡ true

deciding_stage : (way : Way) → is_of_acls (stage_of way) ≡ true
deciding_stage From = refl
deciding_stage To = refl

first_stage : (way : Way) → is_of_acls (first_stage_of way) ≡ true
first_stage From = refl
first_stage To = refl

module _ (way : Way) (priority : ℕ) (matching : _) where
  of_untracking : (verdict : Verdict) → AllByRecursion OfAcls (untracking_rules way priority matching verdict)
  of_untracking Allow = tt
  of_untracking AllowRelated = tt
  of_untracking AllowStateless = (first_stage way, tt)
  of_untracking Drop = tt
  of_untracking Reject = tt

  of_tracked : (verdict : Verdict) → AllByRecursion OfAcls (tracked_rules (stage_of way) priority matching verdict)
  of_tracked Allow = (deciding_stage way, tt)
  of_tracked AllowRelated = (deciding_stage way, tt)
  of_tracked AllowStateless = (deciding_stage way, tt)
  of_tracked Drop = (deciding_stage way, (deciding_stage way, tt))
  of_tracked Reject = (deciding_stage way, (deciding_stage way, tt))

-- where connections are not tracked, its rule is this
abbrev pub untracked_rule : AclOnInput → Rule
untracked_rule input = rule (stage_of input.way) (input.priority + 1000) input.matching (ending input.verdict)

-- and where they are, its rules are these
abbrev pub rules_where_tracked : AclOnInput → List Rule
rules_where_tracked input =
    untracking_rules input.way (input.priority + 1000) input.matching input.verdict ++ tracked_rules (stage_of input.way) (input.priority + 1000) input.matching input.verdict

of_acl : (input : AclOnInput) → AllByRecursion OfAcls (acl_on_rules input)
unfolding acl_on_rules
of_acl input = by (is_priority input.priority) input.tracks
  where
    by : (b t : Bool) → AllByRecursion OfAcls (cond b (cond t (rules_where_tracked input) (untracked_rule input ∷ [])) [])
    by false t = tt
    by true true =
        every_append OfAcls (untracking_rules input.way (input.priority + 1000) input.matching input.verdict) (tracked_rules (stage_of input.way) (input.priority + 1000) input.matching input.verdict)
        (of_untracking input.way (input.priority + 1000) input.matching input.verdict) (of_tracked input.way (input.priority + 1000) input.matching input.verdict)
    by true false = (deciding_stage input.way, tt)

pub acl_rule_stage : (input : AclOnInput) (says : Rule) → Contains (acl_on_rules input) says → is_of_acls says.stage ≡ true
acl_rule_stage input says there = each_of OfAcls (acl_on_rules input) says (of_acl input) there

pub untracked_gives : (input : AclOnInput) (says : Rule) → input.tracks ≡ false → Contains (acl_on_rules input) says → says ≡ untracked_rule input
unfolding acl_on_rules
untracked_gives input says none there = by (is_priority input.priority) input.tracks none there
  where
    by : (b t : Bool) → t ≡ false → Contains (cond b (cond t (rules_where_tracked input) (untracked_rule input ∷ [])) []) says → says ≡ untracked_rule input
    by false t e at = absurd (one_of_none says at)
    by true true e at = absurd (false≢true (sym e))
    by true false e at = the_only (untracked_rule input) says at

-- ---- the rules of VIPs

-- a VIP that has backends has its rule
pub vip_rule-from : (input : VipInput) → is_empty input.backends ≡ false → Contains (vip_switch_rules input) (vip_switch_rule input)
unfolding vip_switch_rules
vip_rule-from input some = rw some (one_first (vip_switch_rule input) [] (vip_switch_rule input) refl)

-- which is of the stage of load balancers
pub vip_rule_stage : (input : VipInput) (says : Rule) → Contains (vip_switch_rules input) says → says.stage ≡ LsInLb
vip_rule_stage input says there = ap (λ (r : Rule). r.stage) (sym (vip_switch_only input says there))

-- ---- the rules of switches

-- those of a switch that tracks connections or not, to which load balancers are attached or not, with or without ports for unknown
-- addresses
abbrev pub rules_where : (tracking balances unknown : Bool) → List Rule
rules_where tracking balances unknown =
    switch_sec_rules ++ (switch_acl_rules (record { tracks = tracking; balances = balances }) ++ (switch_lb_rules ++ switch_l2_rules (record { unknown = unknown })))

-- where a switch tracks no connections
module _ (net : Network) (dp : ObjId) (none : tracks net dp ≡ false) where
  pub switch_rules-untracked : switch_rules net dp ≡ rules_where false (balances net dp) (has_unknown net dp)
  switch_rules-untracked = ap (λ (t : Bool). rules_where t (balances net dp) (has_unknown net dp)) none

  -- an ACL has one rule, in the stage where it decides
  pub acl_rule-gives : (acl : Acl) (says : Rule) → Contains (acl_on_rules (acl_on_input net acl dp)) says → says ≡ untracked_rule (acl_on_input net acl dp)
  acl_rule-gives acl says there = untracked_gives (acl_on_input net acl dp) says none there

  pub untracked_stage : (acl : Acl) (says : Rule) → Contains (acl_on_rules (acl_on_input net acl dp)) says → is_of_decisions says.stage ≡ true
  untracked_stage acl says there = ap (λ (r : Rule). is_of_decisions r.stage) (acl_rule-gives acl says there) ∙ decides_there acl.way
