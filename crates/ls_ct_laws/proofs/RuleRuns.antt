-- The machine runs the rules of switches, and which of them ask for no connection.
use Rattle.std.proofs.Common.{◌≡◌, ℕ, ◌+◌, ◌^◌, Bool, true, false, cond, List, [], ◌∷◌, ◌++◌, map, sym, ap, refl, inl, inr, subst}
use Rattle.std.specs.Prelude.{◌&&◌, ◌||◌, nat_lt, is_some}
use Rattle.std.specs.Bool.{IsTrue}
use Rattle.std.specs.List.{AllByRecursion, Contains, flat_map, list_all}
use Rattle.std.proofs.lemmas.Bool.{and_parts}
use Rattle.nv_base.specs.declared.ip4.Ip4.{Ip4}
use Rattle.nv_base.specs.declared.object.ObjId.{ObjId}
use Rattle.nv_base.specs.Name.{is_object_name, is_quotable}
use Rattle.expr_core.specs.Lookup.{Lookup}
use Rattle.act_core.specs.WellFormed.{is_step, is_well_formed}
use Rattle.nb_records.specs.declared.acl.Acl.{Acl}
use Rattle.nb_records.specs.declared.acl.Verdict.{Verdict}
use Rattle.nb_records.specs.declared.acl.Verdict.TheVariants.{Allow, AllowRelated, AllowStateless, Drop, Reject}
use Rattle.nb_records.specs.declared.acl.Way.{Way}
use Rattle.nb_records.specs.declared.acl.Way.TheVariants.{From, To}
use Rattle.nb_records.specs.declared.balancer.Lb.{Lb}
use Rattle.nb_records.specs.declared.balancer.Vip.{Vip}
use Rattle.nb_records.specs.declared.switch.Addr.{Addr}
use Rattle.nb_records.specs.declared.switch.Addr.TheVariants as addr
use Rattle.nb_records.specs.declared.switch.Guard.{Guard}
use Rattle.nb_records.specs.declared.switch.Port.{Port}
use Rattle.nb_records.specs.declared.switch.Switch.{Switch}
use Rattle.nb_model.specs.Addresses.{macs}
use Rattle.nb_model.specs.Applies.{balances, is_empty, lbs_on, tracks}
use Rattle.nb_model.specs.Belongs.{is_router_kind}
use Rattle.nb_model.specs.Names.{names}
use Rattle.nb_model.specs.Network.{Network}
use Rattle.nb_model.specs.Readable.{are_addresses, are_apart, are_guards, ips_of, is_ip4, is_mac, is_priority, macs_of, may_name, same_number}
use Rattle.nb_model.specs.Sound.{IsSound}
use Rattle.nb_model.proofs.Readable.{of_port}
use Rattle.net_rows.specs.Acls.{acl_on_rules, ending, port_acl_rules, stage_of, switch_acl_rules, tracked_rules, untracking_rules}
use Rattle.net_rows.specs.Build.{acl_on_input, acl_rules_of_port, has_unknown, is_untracked, port_acl_input, port_l2_input, port_rules, port_sec_input, switch_rules, vip_input}
use Rattle.net_rows.specs.LoadBalancers.{balances_to, vip_switch_rule, vip_switch_rules}
use Rattle.net_rows.specs.Lookup.{arp_rules, arp_rules_of, lookup_rule, looked_up, port_l2_rules, switch_l2_rules}
use Rattle.net_rows.specs.PortSecurity.{closed_rules, disabled_rules, guard_rules, guarded_rules, open_rules, port_sec_rules}
use Rattle.net_rows.specs.Unit.{rule}
use Rattle.net_rows.specs.declared.inputs.AclOnInput.{AclOnInput}
use Rattle.net_rows.specs.declared.inputs.PortAclInput.{PortAclInput}
use Rattle.net_rows.specs.declared.inputs.PortL2Input.{PortL2Input}
use Rattle.net_rows.specs.declared.inputs.PortSecInput.{PortSecInput}
use Rattle.net_rows.specs.declared.inputs.VipInput.{VipInput}
use Rattle.net_rows.specs.declared.rule.Rule.{Rule}
use Rattle.net_rows.proofs.Elements.{Contains-flat_map, every_append, one_first, one_later}
use Rattle.net_rows.proofs.Pairs.{every_member}
use Rattle.net_rows.proofs.Sound.{each_passes, port_of_sound}
use Rattle.net_rows.proofs.Units.{IsRow}
use Rattle.net_rows.proofs.VipRules.{vip_switch_only}
use Rattle.sb_model.specs.Make.{goes_on, goes_out, drops}
use Rattle.sb_model.specs.Stage.{all_stages, next_stage, stage_at}
use Rattle.sb_model.specs.declared.row.Row.{Row}
use Rattle.sb_model.specs.declared.stage.Stage.{Stage}
use Rattle.sb_model.specs.declared.stage.Stage.TheVariants.{LsInCheckPortSec, LsInPreStateful, LsInAclEval, LsInLb, LsInStateful, LsOutPreStateful, LsOutAclEval, LsOutStateful, LsOutCheckPortSec}
use Rattle.tr_stage.specs.Machine.{number_of}
use Rattle.tr_stage.proofs.PacketRuns as steps
use Rattle.tr_pipe.specs.Runnable.{are_run}
use Rattle.ls_laws.proofs.PortNames.{number_of_port}
use Rattle.ls_laws.proofs.ChosenVips.{vip_is}
use Rattle.ls_laws.proofs.RuleStages.{later_rules, rules_where, rules_where_tracked, untracked_rule}
use Rattle.ls_laws.proofs.Tables.{at_switch-gives, attached_tracks, is_attached_to}
use Rattle.ls_laws.proofs.VipTargets.{balances_formed}
use Rattle.lr_units.specs.Network.{network_rows}

-- the stages in which rules of a switch that tracks connections ask for connections
abbrev pub asks_for_connections : Stage → Bool
asks_for_connections LsInPreStateful = true
asks_for_connections LsInAclEval = true
asks_for_connections LsInLb = true
asks_for_connections LsInStateful = true
asks_for_connections LsOutPreStateful = true
asks_for_connections LsOutAclEval = true
asks_for_connections LsOutStateful = true
asks_for_connections _ = false

-- The machine runs the actions of the rule, which are well-formed; and they ask for no connection where none is tracked, or where the
-- stage asks for none.
pub record IsRun (known : Lookup) (tracking : Bool) (says : Rule) : Type 0 where
  pub formed : IsTrue (is_well_formed says.actions)
  pub run : IsTrue (are_run known says.stage says.actions)
  pub plain : (tracking && asks_for_connections says.stage) ≡ false → IsTrue (steps.are_run known says.stage says.actions)

abbrev pub AreRun : Lookup → Bool → List Rule → Type 0
AreRun known tracking rules = AllByRecursion (IsRun known tracking) rules

-- what holds of each piece holds of all
pub every_piece : {X Y : Type 0} (P : Y → Type 0) (f : X → List Y) (xs : List X) → ((x : X) → Contains xs x → AllByRecursion P (f x)) → AllByRecursion P (flat_map f xs)
every_piece P f [] each = tt
every_piece P f (x ∷ xs) each = every_append P (f x) (flat_map f xs) (each x (one_first x xs x refl)) (every_piece P f xs (λ y at. each y (one_later x xs y at)))

pub every_image : {X Y : Type 0} (P : Y → Type 0) (f : X → Y) (xs : List X) → ((x : X) → P (f x)) → AllByRecursion P (map f xs)
every_image P f [] each = tt
every_image P f (x ∷ xs) each = (each x, every_image P f xs each)

-- it can be seen of a rule that it is one of these
module _ (known : Lookup) (tracking : Bool) where
  abbrev is_plain_at : Rule → Bool
  is_plain_at says = tracking && asks_for_connections says.stage || steps.are_run known says.stage says.actions

  abbrev is_run : Rule → Bool
  is_run says = is_well_formed says.actions && (are_run known says.stage says.actions && is_plain_at says)

  one_run : (says : Rule) → IsTrue (is_run says) → IsRun known tracking says
  one_run says is =
      let parts = and_parts (is_well_formed says.actions) (are_run known says.stage says.actions && is_plain_at says) is in
      let runs = and_parts (are_run known says.stage says.actions) (is_plain_at says) parts.1 in
      record { formed = parts.0; run = runs.0; plain = λ none. subst (λ (b : Bool). IsTrue (b || steps.are_run known says.stage says.actions)) none runs.1 }

  all_run : (rules : List Rule) → IsTrue (list_all is_run rules) → AreRun known tracking rules
  all_run [] all = tt
  all_run (says ∷ rules) all = let parts = and_parts (is_run says) (list_all is_run rules) all in (one_run says parts.0, all_run rules parts.1)

module _ (known : Lookup) where
  -- ---- the rules of switches

  of_switch : (tracking balancing unknown : Bool) → AreRun known tracking (rules_where tracking balancing unknown)
  unfolding switch_acl_rules switch_l2_rules next_stage stage_at all_stages
  of_switch true true true = all_run known true (rules_where true true true) refl
  of_switch true true false = all_run known true (rules_where true true false) refl
  of_switch true false true = all_run known true (rules_where true false true) refl
  of_switch true false false = all_run known true (rules_where true false false) refl
  of_switch false balancing true = all_run known false (rules_where false balancing true) refl
  of_switch false balancing false = all_run known false (rules_where false balancing false) refl

  -- ---- those of ACLs

  module _ (priority : ℕ) (matching : _) where
    untracked_run : (way : Way) (verdict : Verdict) → IsRun known false (rule (stage_of way) priority matching (ending verdict))
    unfolding next_stage stage_at all_stages
    untracked_run From Allow = one_run known false _ refl
    untracked_run From AllowRelated = one_run known false _ refl
    untracked_run From AllowStateless = one_run known false _ refl
    untracked_run From Drop = one_run known false _ refl
    untracked_run From Reject = one_run known false _ refl
    untracked_run To Allow = one_run known false _ refl
    untracked_run To AllowRelated = one_run known false _ refl
    untracked_run To AllowStateless = one_run known false _ refl
    untracked_run To Drop = one_run known false _ refl
    untracked_run To Reject = one_run known false _ refl

    untracking_run : (way : Way) (verdict : Verdict) → AreRun known true (untracking_rules way priority matching verdict)
    unfolding next_stage stage_at all_stages
    untracking_run way Allow = tt
    untracking_run way AllowRelated = tt
    untracking_run From AllowStateless = (one_run known true _ refl, tt)
    untracking_run To AllowStateless = (one_run known true _ refl, tt)
    untracking_run way Drop = tt
    untracking_run way Reject = tt

    tracked_run : (way : Way) (verdict : Verdict) → AreRun known true (tracked_rules (stage_of way) priority matching verdict)
    unfolding next_stage stage_at all_stages
    tracked_run From Allow = (one_run known true _ refl, tt)
    tracked_run From AllowRelated = (one_run known true _ refl, tt)
    tracked_run From AllowStateless = (one_run known true _ refl, tt)
    tracked_run From Drop = (one_run known true _ refl, (one_run known true _ refl, tt))
    tracked_run From Reject = (one_run known true _ refl, (one_run known true _ refl, tt))
    tracked_run To Allow = (one_run known true _ refl, tt)
    tracked_run To AllowRelated = (one_run known true _ refl, tt)
    tracked_run To AllowStateless = (one_run known true _ refl, tt)
    tracked_run To Drop = (one_run known true _ refl, (one_run known true _ refl, tt))
    tracked_run To Reject = (one_run known true _ refl, (one_run known true _ refl, tt))

  of_acl : (input : AclOnInput) → AreRun known input.tracks (acl_on_rules input)
  unfolding acl_on_rules
  of_acl input = by (is_priority input.priority) input.tracks
    where
      by : (b t : Bool) → AreRun known t (cond b (cond t (rules_where_tracked input) (untracked_rule input ∷ [])) [])
      by false t = tt
      by true true =
          every_append (IsRun known true) (untracking_rules input.way (input.priority + 1000) input.matching input.verdict) (tracked_rules (stage_of input.way) (input.priority + 1000) input.matching input.verdict)
          (untracking_run (input.priority + 1000) input.matching input.way input.verdict) (tracked_run (input.priority + 1000) input.matching input.way input.verdict)
      by true false = (untracked_run (input.priority + 1000) input.matching input.way input.verdict, tt)

  -- ---- those of VIPs, where connections are tracked

  of_vip : (input : VipInput) → is_step (balances_to input.backends) ≡ true → IsRun known true (vip_switch_rule input)
  unfolding next_stage stage_at all_stages
  of_vip input formed = one_run known true (vip_switch_rule input) (rw formed refl)

  -- ---- those of port security, which ask for no connection

  lets_in : (priority : ℕ) (matching : _) → IsRun known false (rule LsInCheckPortSec priority matching goes_on)
  unfolding next_stage stage_at all_stages
  lets_in priority matching = one_run known false _ refl

  lets_out : (priority : ℕ) (matching : _) → IsRun known false (rule LsOutCheckPortSec priority matching goes_out)
  lets_out priority matching = one_run known false _ refl

  shuts_in : (priority : ℕ) (matching : _) → IsRun known false (rule LsInCheckPortSec priority matching drops)
  shuts_in priority matching = one_run known false _ refl

  shuts_out : (priority : ℕ) (matching : _) → IsRun known false (rule LsOutCheckPortSec priority matching drops)
  shuts_out priority matching = one_run known false _ refl

  of_guard : (name : List ℕ) (guard : Guard) → AreRun known false (guard_rules name guard)
  of_guard name guard = by (is_empty guard.nets)
    where
      by : (b : Bool) → AreRun known false (cond b (open_rules name guard) (closed_rules name guard))
      by true = (lets_in _ _, (lets_out _ _, tt))
      by false = (lets_in _ _, (lets_in _ _, (lets_in _ _, (lets_in _ _, (lets_out _ _, (lets_out _ _, tt))))))

  of_guards : (name : List ℕ) (guards : List Guard) → AreRun known false (guarded_rules name guards)
  of_guards name [] = tt
  of_guards name (guard ∷ guards) = (shuts_in _ _, (shuts_out _ _, every_piece (IsRun known false) (guard_rules name) (guard ∷ guards) (λ g at. of_guard name g)))

  of_security : (input : PortSecInput) → AreRun known false (port_sec_rules input)
  unfolding port_sec_rules
  of_security input = every_append (IsRun known false) (disabled_rules input.enabled input.name) (guarded_rules input.name input.security) (by input.enabled) (of_guards input.name input.security)
    where
      by : (b : Bool) → AreRun known false (disabled_rules b input.name)
      by true = tt
      by false = (shuts_in _ _, tt)

  -- ---- those of ports of which nothing is tracked

  of_port_acl : (input : PortAclInput) → AreRun known false (port_acl_rules input)
  unfolding port_acl_rules next_stage stage_at all_stages
  of_port_acl input = (one_run known false _ refl, (one_run known false _ refl, tt))

  of_untracked : (net : Network) (port : Port) → AreRun known false (acl_rules_of_port net port)
  of_untracked net port = by (is_untracked net port)
    where
      by : (b : Bool) → AreRun known false (cond b (port_acl_rules (port_acl_input port)) [])
      by true = of_port_acl (port_acl_input port)
      by false = tt

  -- ---- those of addresses, which ask for none either

  of_address : (name : List ℕ) (mac : ℕ) (ip : Ip4) → nat_lt mac (2 ^ 48) ≡ true → nat_lt ip.0 (2 ^ 32) ≡ true → AreRun known false (arp_rules name mac ip)
  unfolding next_stage stage_at all_stages
  of_address name mac ip mac_fits ip_fits = (one_run known false _ refl, (one_run known false _ (rw (mac_fits, ip_fits) refl), tt))

  of_addresses : (name : List ℕ) (addresses : List Addr) → IsTrue (list_all is_mac (flat_map macs_of addresses)) → IsTrue (list_all is_ip4 (flat_map ips_of addresses))
      → AreRun known false (flat_map (arp_rules_of name) addresses)
  of_addresses name addresses macs_fit ips_fit = every_piece (IsRun known false) (arp_rules_of name) addresses by
    where
      by : (a : Addr) → Contains addresses a → AreRun known false (arp_rules_of name a)
      by (addr.Host mac ips) there =
          let mac_is : IsTrue (is_mac mac) = each_passes is_mac (flat_map macs_of addresses) mac macs_fit (Contains-flat_map macs_of addresses (addr.Host mac ips) mac there (one_first mac [] mac refl)) in
          every_piece (IsRun known false) (arp_rules name mac) ips (λ ip at.
          of_address name mac ip (and_parts _ _ mac_is).0 (each_passes is_ip4 (flat_map ips_of addresses) ip ips_fit (Contains-flat_map ips_of addresses (addr.Host mac ips) ip there at)))
      by _ there = tt

  of_lookup : (name : List ℕ) (mac : ℕ) → is_quotable name ≡ true → IsTrue (is_some (number_of known name)) → IsRun known false (lookup_rule name mac)
  of_lookup name mac quotable there = one_run known false _ (rw (quotable, there) refl)

  of_l2 : (input : PortL2Input) → IsTrue (list_all is_mac (flat_map macs_of input.addresses)) → IsTrue (list_all is_ip4 (flat_map ips_of input.addresses)) → is_quotable input.name ≡ true
      → IsTrue (is_some (number_of known input.name)) → AreRun known false (port_l2_rules input)
  unfolding port_l2_rules
  of_l2 input macs_fit ips_fit quotable there = by input.enabled (is_router_kind input.kind)
    where
      by : (enabled router : Bool) → AreRun known false (cond enabled (cond router [] (flat_map (arp_rules_of input.name) input.addresses) ++ map (lookup_rule input.name) (looked_up input)) [])
      by false router = tt
      by true true = every_image (IsRun known false) (lookup_rule input.name) (looked_up input) (λ mac. of_lookup input.name mac quotable there)
      by true false =
          every_append (IsRun known false) (flat_map (arp_rules_of input.name) input.addresses) (map (lookup_rule input.name) (looked_up input)) (of_addresses input.name input.addresses macs_fit ips_fit)
          (every_image (IsRun known false) (lookup_rule input.name) (looked_up input) (λ mac. of_lookup input.name mac quotable there))

-- ---- the rules of a network

pub switch_rules_run : (net : Network) (dp : ObjId) → AreRun (names net) (tracks net dp) (switch_rules net dp)
switch_rules_run net dp = of_switch (names net) (tracks net dp) (balances net dp) (has_unknown net dp)

pub acl_rules_run : (net : Network) (acl : Acl) (dp : ObjId) → AreRun (names net) (tracks net dp) (acl_on_rules (acl_on_input net acl dp))
acl_rules_run net acl dp = of_acl (names net) (acl_on_input net acl dp)

-- a switch to which a load balancer is attached tracks connections
pub vip_rule_runs : (net : Network) → IsSound net → (dp : ObjId) (lb : Lb) → Contains (lbs_on net dp) lb → (vip : Vip) → Contains lb.vips vip → (says : Rule) → Contains (vip_switch_rules (vip_input lb vip)) says
    → IsRun (names net) (tracks net dp) says
vip_rule_runs net sound dp lb attached vip in_lb says there =
    subst (IsRun (names net) (tracks net dp)) (vip_switch_only (vip_input lb vip) says there)
    (subst (λ (b : Bool). IsRun (names net) b (vip_switch_rule (vip_input lb vip))) (sym (attached_tracks net dp lb attached))
    (of_vip (names net) (vip_input lb vip) (balances_formed vip (vip_is net sound (is_attached_to net dp) lb attached vip in_lb))))

-- those of ports ask for no connection
pub port_rules_run : (net : Network) → IsSound net → (port : Port) → Contains net.ports port → AreRun (names net) false (port_rules net port)
port_rules_run net sound port there =
    let of = port_of_sound net sound port there in
    every_append (IsRun (names net) false) (port_sec_rules (port_sec_input port)) (later_rules net port) (of_security (names net) (port_sec_input port))
    (every_append (IsRun (names net) false) (acl_rules_of_port net port) (port_l2_rules (port_l2_input net port)) (of_untracked (names net) net port)
    (of_l2 (names net) (port_l2_input net port) of.unicast ips_fit (rw of.named refl) (rw (number_of_port net port sound there) refl)))
  where
    ips_fit : IsTrue (list_all is_ip4 (flat_map ips_of port.addresses))
    ips_fit =
        let ips = flat_map ips_of port.addresses in
        let all = each_passes of_port net.ports port sound.readable.ports there in
        let named = and_parts (is_object_name port.name && may_name port.router_port && are_addresses port.addresses) (are_guards port.security) all in
        let addresses = and_parts (is_object_name port.name && may_name port.router_port) (are_addresses port.addresses) named.0 in
        let fit = and_parts (list_all is_mac (macs port) && are_apart same_number (macs port) && list_all is_ip4 ips) _ addresses.1 in
        (and_parts (list_all is_mac (macs port) && are_apart same_number (macs port)) (list_all is_ip4 ips) fit.0).1

-- ---- its rows

module _ (net : Network) (sound : IsSound net) (row : Row) where
  said : (tracking : Bool) (says : Rule) → IsRun (names net) tracking says → says.stage ≡ row.stage → says.actions ≡ row.actions → IsTrue (is_well_formed row.actions) × IsTrue (are_run (names net) row.stage row.actions)
  said tracking says is stage actions =
      (subst (λ done. IsTrue (is_well_formed done)) actions is.formed, subst (λ s. IsTrue (are_run (names net) s row.actions)) stage (subst (λ done. IsTrue (are_run (names net) says.stage done)) actions is.run))

  -- the machine runs the actions of each, which are well-formed
  pub row_runs : IsRow net row → IsTrue (is_well_formed row.actions) × IsTrue (are_run (names net) row.stage row.actions)
  row_runs (inl at) =
      let dp = at.switch.id in
      said (tracks net dp) at.says (every_member (IsRun (names net) (tracks net dp)) (switch_rules net dp) at.says (switch_rules_run net dp) at.in_rules) (ap (λ (r : Row). r.stage) at.is) (ap (λ (r : Row). r.actions) at.is)
  row_runs (inr (inl at)) =
      said false at.says (every_member (IsRun (names net) false) (port_rules net at.port) at.says (port_rules_run net sound at.port at.among) at.in_rules) (ap (λ (r : Row). r.stage) at.is) (ap (λ (r : Row). r.actions) at.is)
  row_runs (inr (inr (inl at))) =
      let dp = at.switch.id in
      said (tracks net dp) at.says (every_member (IsRun (names net) (tracks net dp)) (acl_on_rules (acl_on_input net at.acl dp)) at.says (acl_rules_run net at.acl dp) at.in_rules) (ap (λ (r : Row). r.stage) at.is) (ap (λ (r : Row). r.actions) at.is)
  row_runs (inr (inr (inr at))) =
      let dp = at.switch.id in
      said (tracks net dp) at.says (vip_rule_runs net sound dp at.lb at.attached at.vip at.in_lb at.says at.in_rules) (ap (λ (r : Row). r.stage) at.is) (ap (λ (r : Row). r.actions) at.is)

-- so does it run the actions of each row of the network at a switch
pub row_at_switch_runs : (net : Network) → IsSound net → (switch : Switch) → Contains net.switches switch → (row : Row) → Contains (network_rows net) row → row.dp ≡ switch.id
    → IsTrue (is_well_formed row.actions) × IsTrue (are_run (names net) row.stage row.actions)
row_at_switch_runs net sound switch among row there of_dp = row_runs net sound row (at_switch-gives net sound switch among row there of_dp)
