-- What a row of the table of a switch and a stage is: what a rule of the switch says in that stage, or one of a port of the switch, or one
-- of an ACL that applies to it, or one of a VIP of a load balancer that is attached to it. The rows of routers are on other datapaths.
use Rattle.std.proofs.Common.{◌≡◌, Bool, true, false, cond, List, [], ◌∷◌, sym, ap, ◌∙◌, ◌⊎◌, inl, inr, subst, refl}
use Rattle.std.specs.Prelude.{◌&&◌, ◌||◌, not}
use Rattle.std.specs.List.{Contains, filter, list_any}
use Rattle.std.proofs.lemmas.Bool.{and_from, and_parts, eqb-true, false≢true}
use Rattle.std.proofs.lemmas.List.Elements.{Contains-append_cases, Contains-append_left}
use Rattle.nv_base.specs.declared.object.ObjId.{ObjId}
use Rattle.sb_model.specs.declared.stage.Stage.{Stage}
use Rattle.sb_model.specs.declared.row.Row.{Row}
use Rattle.sb_rows.specs.Match.{is_in_table}
use Rattle.sb_rows.proofs.Tables.{in_table-gives}
use Rattle.nb_records.specs.declared.acl.Acl.{Acl}
use Rattle.nb_records.specs.declared.balancer.Lb.{Lb}
use Rattle.nb_records.specs.declared.balancer.Vip.{Vip}
use Rattle.nb_records.specs.declared.switch.Port.{Port}
use Rattle.nb_records.specs.declared.switch.Switch.{Switch}
use Rattle.nb_model.specs.Network.{Network, same}
use Rattle.nb_model.specs.Applies.{applies, is_empty, is_related, lbs_on, switches_of_acl, tracks}
use Rattle.nb_model.specs.Belongs.{is_among}
use Rattle.nb_model.specs.Sound.{IsSound, router_ids}
use Rattle.net_rows.specs.Acls.{acl_on_rules}
use Rattle.net_rows.specs.Build.{acl_on_input, all_rows, switch_rules, port_rules, vip_input}
use Rattle.net_rows.specs.LoadBalancers.{vip_switch_rules}
use Rattle.net_rows.specs.Unit.{unit_of, unit_of_datapath, row_of}
use Rattle.net_rows.specs.declared.rule.Rule.{Rule}
use Rattle.net_rows.proofs.Elements.{any_from, any_gives, one_of, one_of_none, Contains-map}
use Rattle.net_rows.proofs.Units.{IsSwitchRow, IsPortRow, IsAclRow, IsLbRow, IsRow, all_rows-gives, rows-switch, rows-port, rows-acl, rows-lb}
use Rattle.lr_units.specs.Build.{router_rows}
use Rattle.lr_units.specs.Network.{network_rows}
use Rattle.lr_units.proofs.Datapaths.{row_on_router}
use Rattle.lr_units.proofs.Numbers.{switch_is_no_router}
use Rattle.lr_units.proofs.Whole.{network_members}
use Rattle.ls_laws.proofs.RuleStages.{is_of_balancing, vip_rule_stage}

pub record IsSwitchRule (net : Network) (dp : ObjId) (stage : Stage) (row : Row) : Type 0 where
  pub says : Rule
  pub in_rules : Contains (switch_rules net dp) says
  pub of_stage : says.stage ≡ stage
  pub is : row ≡ row_of (unit_of_datapath dp) says

pub record IsPortRule (net : Network) (dp : ObjId) (stage : Stage) (row : Row) : Type 0 where
  pub port : Port
  pub among : Contains net.ports port
  pub of_switch : port.switch ≡ dp
  pub says : Rule
  pub in_rules : Contains (port_rules net port) says
  pub of_stage : says.stage ≡ stage
  pub is : row ≡ row_of (unit_of dp port.id) says

pub record IsAclRule (net : Network) (dp : ObjId) (stage : Stage) (row : Row) : Type 0 where
  pub acl : Acl
  pub among : Contains net.acls acl
  pub applied : applies net dp acl ≡ true
  pub says : Rule
  pub in_rules : Contains (acl_on_rules (acl_on_input net acl dp)) says
  pub of_stage : says.stage ≡ stage
  pub is : row ≡ row_of (unit_of dp acl.id) says

pub record IsVipRule (net : Network) (dp : ObjId) (stage : Stage) (row : Row) : Type 0 where
  pub lb : Lb
  pub attached : Contains (lbs_on net dp) lb
  pub vip : Vip
  pub in_lb : Contains lb.vips vip
  pub says : Rule
  pub in_rules : Contains (vip_switch_rules (vip_input lb vip)) says
  pub of_stage : says.stage ≡ stage
  pub is : row ≡ row_of (unit_of dp lb.id) says

-- one of these
abbrev pub IsRule : Network → ObjId → Stage → Row → Type 0
IsRule net dp stage row = IsSwitchRule net dp stage row ⊎ (IsPortRule net dp stage row ⊎ (IsAclRule net dp stage row ⊎ IsVipRule net dp stage row))

-- one of a VIP is of the stage of load balancers
pub of_no_vip : (net : Network) (dp : ObjId) (stage : Stage) (row : Row) → is_of_balancing stage ≡ false → IsVipRule net dp stage row → ⊥
of_no_vip net dp stage row other of =
    false≢true (sym other ∙ sym (ap is_of_balancing of.of_stage) ∙ ap is_of_balancing (vip_rule_stage (vip_input of.lb of.vip) of.says of.in_rules))

-- what a filter lets through passes its test
pub filter_passes : {X : Type 0} (p : X → Bool) (xs : List X) (x : X) → Contains (filter p xs) x → p x ≡ true
filter_passes p [] x there = absurd (one_of_none x there)
filter_passes {X} p (z ∷ xs) x there = by (p z) refl there (filter_passes p xs x)
  where
    first : p z ≡ true → (z ≡ x) ⊎ Contains (filter p xs) x → (Contains (filter p xs) x → p x ≡ true) → p x ≡ true
    first is (inl same_one) rest = sym (ap p same_one) ∙ is
    first is (inr later) rest = rest later

    by : (b : Bool) → p z ≡ b → Contains (cond b (z ∷ filter p xs) (filter p xs)) x → (Contains (filter p xs) x → p x ≡ true) → p x ≡ true
    by true is at rest = first is (one_of z (filter p xs) x at) rest
    by false is at rest = rest at

-- a load balancer is attached to a switch
abbrev pub is_attached_to : Network → ObjId → Lb → Bool
is_attached_to net dp lb = list_any (λ (s : Switch). same s.id dp && is_among lb.id s.lbs) net.switches

-- a switch to which one is attached tracks connections
pub attached_tracks : (net : Network) (dp : ObjId) (lb : Lb) → Contains (lbs_on net dp) lb → tracks net dp ≡ true
attached_tracks net dp lb attached =
    let own = any_gives (λ (s : Switch). same s.id dp && is_among lb.id s.lbs) net.switches (filter_passes (is_attached_to net dp) net.lbs lb attached) in
    let parts = and_parts (same own.0.id dp) (is_among lb.id own.0.lbs) own.2 in
    ap (λ b. list_any (λ (acl : Acl). applies net dp acl && is_related acl.verdict) net.acls || b) (any_from (λ (s : Switch). same s.id dp && not (is_empty s.lbs)) net.switches own.0 own.1 (and_from (same own.0.id dp) (not (is_empty own.0.lbs)) parts.0 (some own.0.lbs parts.1)))
    ∙ either (list_any (λ (acl : Acl). applies net dp acl && is_related acl.verdict) net.acls)
  where
    some : (lbs : List ObjId) → is_among lb.id lbs ≡ true → not (is_empty lbs) ≡ true
    some [] is = absurd (false≢true is)
    some (other ∷ lbs) is = refl

    either : (b : Bool) → (b || true) ≡ true
    either true = refl
    either false = refl

module _ (net : Network) (dp : ObjId) (stage : Stage) (row : Row) (of : (row.dp ≡ dp) × (row.stage ≡ stage)) where
  from_switch : IsSwitchRow net row → IsSwitchRule net dp stage row
  from_switch at =
      let of_dp : at.switch.id ≡ dp = ap (λ (r : Row). r.dp) at.is ∙ of.0 in
      record {
        says = at.says;
        in_rules = subst (λ d. Contains (switch_rules net d) at.says) of_dp at.in_rules;
        of_stage = ap (λ (r : Row). r.stage) at.is ∙ of.1;
        is = sym at.is ∙ ap (λ d. row_of (unit_of_datapath d) at.says) of_dp;
      }

  from_port : IsPortRow net row → IsPortRule net dp stage row
  from_port at =
      let of_dp : at.port.switch ≡ dp = ap (λ (r : Row). r.dp) at.is ∙ of.0 in
      record {
        port = at.port;
        among = at.among;
        of_switch = of_dp;
        says = at.says;
        in_rules = at.in_rules;
        of_stage = ap (λ (r : Row). r.stage) at.is ∙ of.1;
        is = sym at.is ∙ ap (λ d. row_of (unit_of d at.port.id) at.says) of_dp;
      }

  from_acl : IsAclRow net row → IsAclRule net dp stage row
  from_acl at =
      let of_dp : at.switch.id ≡ dp = ap (λ (r : Row). r.dp) at.is ∙ of.0 in
      record {
        acl = at.acl;
        among = at.among;
        applied = subst (λ d. applies net d at.acl ≡ true) of_dp (filter_passes (λ (s : Switch). applies net s.id at.acl) net.switches at.switch at.applied);
        says = at.says;
        in_rules = subst (λ d. Contains (acl_on_rules (acl_on_input net at.acl d)) at.says) of_dp at.in_rules;
        of_stage = ap (λ (r : Row). r.stage) at.is ∙ of.1;
        is = sym at.is ∙ ap (λ d. row_of (unit_of d at.acl.id) at.says) of_dp;
      }

  from_vip : IsLbRow net row → IsVipRule net dp stage row
  from_vip at =
      let of_dp : at.switch.id ≡ dp = ap (λ (r : Row). r.dp) at.is ∙ of.0 in
      record {
        lb = at.lb;
        attached = subst (λ d. Contains (lbs_on net d) at.lb) of_dp at.attached;
        vip = at.vip;
        in_lb = at.in_lb;
        says = at.says;
        in_rules = at.in_rules;
        of_stage = ap (λ (r : Row). r.stage) at.is ∙ of.1;
        is = sym at.is ∙ ap (λ d. row_of (unit_of d at.lb.id) at.says) of_dp;
      }

  pub from_row : IsRow net row → IsRule net dp stage row
  from_row (inl at) = inl (from_switch at)
  from_row (inr (inl at)) = inr (inl (from_port at))
  from_row (inr (inr (inl at))) = inr (inr (inl (from_acl at)))
  from_row (inr (inr (inr at))) = inr (inr (inr (from_vip at)))

-- at a switch
module _ (net : Network) (sound : IsSound net) (switch : Switch) (among : Contains net.switches switch) where
  -- each row is of the units of switches
  pub at_switch-gives : (row : Row) → Contains (network_rows net) row → row.dp ≡ switch.id → IsRow net row
  at_switch-gives row there of_dp = by (Contains-append_cases (all_rows net) (router_rows net) row ((network_members net row).0 there))
    where
      by : Contains (all_rows net) row ⊎ Contains (router_rows net) row → IsRow net row
      by (inl at) = all_rows-gives net row at
      by (inr at) =
          let router = any_gives (same row.dp) (router_ids net) (row_on_router net sound row at) in
          let apart = switch_is_no_router net sound switch.id router.0 (Contains-map (λ (s : Switch). s.id) net.switches switch among) router.1 in
          absurd (apart (sym (ap (λ (o : ObjId). o.0) of_dp) ∙ eqb-true row.dp.0 router.0.0 router.2))

  -- and no other row is in a table
  pub table-gives : (stage : Stage) (row : Row) → Contains (network_rows net) row → is_in_table switch.id stage row ≡ true → IsRule net switch.id stage row
  table-gives stage row there in_it = let of = in_table-gives switch.id stage row in_it in from_row net switch.id stage row of (at_switch-gives row there of.0)

-- ---- the rows of each rule are there

module _ (net : Network) where
  in_network : (row : Row) → Contains (all_rows net) row → Contains (network_rows net) row
  in_network row there = (network_members net row).1 (Contains-append_left (all_rows net) (router_rows net) row there)

  -- of each switch
  pub row_of_switch : (switch : Switch) (says : Rule) → Contains net.switches switch → Contains (switch_rules net switch.id) says → Contains (network_rows net) (row_of (unit_of_datapath switch.id) says)
  row_of_switch switch says there in_it = in_network (row_of (unit_of_datapath switch.id) says) (rows-switch net switch says there in_it)

  -- of each port
  pub row_of_port : (port : Port) (says : Rule) → Contains net.ports port → Contains (port_rules net port) says → Contains (network_rows net) (row_of (unit_of port.switch port.id) says)
  row_of_port port says there in_it = in_network (row_of (unit_of port.switch port.id) says) (rows-port net port says there in_it)

  -- of each ACL on each switch to which it applies
  pub row_of_acl : (acl : Acl) (switch : Switch) (says : Rule) → Contains net.acls acl → Contains (switches_of_acl net acl) switch → Contains (acl_on_rules (acl_on_input net acl switch.id)) says
      → Contains (network_rows net) (row_of (unit_of switch.id acl.id) says)
  row_of_acl acl switch says there applied in_it = in_network (row_of (unit_of switch.id acl.id) says) (rows-acl net acl switch says there applied in_it)

  -- of each VIP on each switch to which its load balancer is attached
  pub row_of_vip : (switch : Switch) (lb : Lb) (vip : Vip) (says : Rule) → Contains net.switches switch → Contains (lbs_on net switch.id) lb → Contains lb.vips vip → Contains (vip_switch_rules (vip_input lb vip)) says
      → Contains (network_rows net) (row_of (unit_of switch.id lb.id) says)
  row_of_vip switch lb vip says there attached in_lb in_it = in_network (row_of (unit_of switch.id lb.id) says) (rows-lb net switch lb vip says there attached in_lb in_it)
