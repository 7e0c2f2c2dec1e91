-- Which rules a router itself has in a stage, and in which stages the rules of its ports, routes, bindings and neighbours are.
use Rattle.std.proofs.Common.{◌≡◌, Bool, true, false, List, [], sym, ap, refl, ◌∙◌, subst}
use Rattle.std.specs.Prelude.{Option, Some, None}
use Rattle.std.specs.List.{Contains}
use Rattle.sb_model.specs.declared.stage.Stage.{Stage}
use Rattle.sb_model.specs.declared.stage.Stage.TheVariants.{LrInAdmission, LrInLearnNeighbor, LrInIpInput, LrInIpRouting, LrInArpResolve, LrOutDelivery}
use Rattle.net_rows.specs.declared.rule.Rule.{Rule}
use Rattle.net_rows.proofs.Elements.{Contains-from_map}
use Rattle.nb_model.specs.Network.{Network}
use Rattle.nb_records.specs.declared.router.RouterPort.{RouterPort}
use Rattle.lr_rows.specs.Neighbours.{binding_rules, neighbour_rules, resolving_rule}
use Rattle.lr_rows.specs.Routes.{by_exit, static_route_rules, static_rule}
use Rattle.lr_rows.specs.declared.inputs.BindingInput.{BindingInput}
use Rattle.lr_rows.specs.declared.inputs.Exit.{Exit}
use Rattle.lr_rows.specs.declared.inputs.NeighbourInput.{NeighbourInput}
use Rattle.lr_rows.specs.declared.inputs.StaticRouteInput.{StaticRouteInput}
use Rattle.ls_laws.proofs.RuleStages.{among_rules_at, rules_at}
use Rattle.lr_laws.proofs.Members.{of_first, of_none}
use Rattle.lr_laws.proofs.PortRules.{IsPortSays, stage_is, stage_said}
use Rattle.lr_laws.proofs.PortRules.IsPortSays.{Admits, Learns, OwnAddress, ToNetwork, DeliversTo}
use Rattle.lr_laws.proofs.Tables.{own_rules}

-- where these are the rules of the router in a stage, each rule of it in the stage is among them
pub own_rule-gives : (stage : Stage) (some : List Rule) (says : Rule) (dnats : Bool) → ((dnats : Bool) → rules_at stage (own_rules dnats) ≡ some) → Contains (own_rules dnats) says → says.stage ≡ stage → Contains some says
own_rule-gives stage some says dnats are there of_stage = subst (λ rs. Contains rs says) (are dnats) (among_rules_at stage (own_rules dnats) says there of_stage)

-- the stages of rules of ports
abbrev pub is_of_ports : Stage → Bool
is_of_ports LrInAdmission = true
is_of_ports LrInLearnNeighbor = true
is_of_ports LrInIpInput = true
is_of_ports LrInIpRouting = true
is_of_ports LrOutDelivery = true
is_of_ports _ = false

said_of_ports : (net : Network) (port : RouterPort) (says : Rule) (of : IsPortSays net port says) → is_of_ports (stage_said of) ≡ true
said_of_ports net port says (Admits enabled is) = refl
said_of_ports net port says (Learns is) = refl
said_of_ports net port says (OwnAddress is) = refl
said_of_ports net port says (ToNetwork own there is) = refl
said_of_ports net port says (DeliversTo enabled is) = refl
said_of_ports net port says _ = refl

pub port_stage : (net : Network) (port : RouterPort) (says : Rule) → IsPortSays net port says → is_of_ports says.stage ≡ true
port_stage net port says of = ap is_of_ports (stage_is net port says of) ∙ said_of_ports net port says of

-- those of routes
abbrev pub is_of_routes : Stage → Bool
is_of_routes LrInIpRouting = true
is_of_routes _ = false

-- the rule of a static route with a port
pub record IsStaticRule (input : StaticRouteInput) (says : Rule) : Type 0 where
  pub exit : Exit
  pub found : input.found ≡ Some exit
  pub is : says ≡ static_rule input exit

pub static_rule-gives : (input : StaticRouteInput) (says : Rule) → Contains (static_route_rules input) says → IsStaticRule input says
unfolding static_route_rules
static_rule-gives input says there = by input.found refl there
  where
    by : (found : Option Exit) → input.found ≡ found → Contains (by_exit (static_rule input) found) says → IsStaticRule input says
    by None is at = of_none says at
    by (Some exit) is at = of_first (static_rule input exit) [] says (λ same. record { exit = exit; found = is; is = same }) (of_none says) at

pub route_stage : (input : StaticRouteInput) (says : Rule) → Contains (static_route_rules input) says → is_of_routes says.stage ≡ true
route_stage input says there = let at = static_rule-gives input says there in ap (λ (r : Rule). is_of_routes r.stage) at.is

-- those of bindings and neighbours
abbrev pub is_of_hosts : Stage → Bool
is_of_hosts LrInArpResolve = true
is_of_hosts _ = false

pub binding_rule-gives : (input : BindingInput) (says : Rule) → Contains (binding_rules input) says → says ≡ resolving_rule 150 input.name input.host
unfolding binding_rules
binding_rule-gives input says there = of_first (resolving_rule 150 input.name input.host) [] says (λ same. same) (of_none says) there

pub binding_stage : (input : BindingInput) (says : Rule) → Contains (binding_rules input) says → is_of_hosts says.stage ≡ true
binding_stage input says there = ap (λ (r : Rule). is_of_hosts r.stage) (binding_rule-gives input says there)

pub neighbour_stage : (input : NeighbourInput) (says : Rule) → Contains (neighbour_rules input) says → is_of_hosts says.stage ≡ true
unfolding neighbour_rules
neighbour_stage input says there = let at = Contains-from_map (resolving_rule 100 input.name) input.hosts says there in ap (λ (r : Rule). is_of_hosts r.stage) (sym at.2)

-- ports, routes and hosts have no rule in a stage
pub record HasNoOther (stage : Stage) : Type 0 where
  pub port : is_of_ports stage ≡ false
  pub route : is_of_routes stage ≡ false
  pub host : is_of_hosts stage ≡ false
