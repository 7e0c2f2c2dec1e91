-- An enabled port of a router delivers.
use Rattle.std.proofs.Common.{◌≡◌, Bool, true, false, List, [], ◌∷◌, sym, ap, refl, ◌∙◌, lit<}
use Rattle.std.specs.Prelude.{◌||◌, Some}
use Rattle.std.proofs.lemmas.Bool.{false≢true}
use Rattle.nv_base.specs.declared.field.Field.TheVariants.{Outport}
use Rattle.expr_eval.specs.MatchMeaning.{holds}
use Rattle.nb_records.specs.declared.router.Router.{Router}
use Rattle.nb_records.specs.declared.router.RouterPort.{RouterPort}
use Rattle.nb_model.specs.Names.{names}
use Rattle.nb_model.specs.Network.{Network}
use Rattle.sb_model.specs.Make.{drops, takes_each}
use Rattle.sb_model.specs.Stage.{pipeline_of, stage_place}
use Rattle.sb_model.specs.declared.row.Row.{Row}
use Rattle.sb_model.specs.declared.stage.Stage.{Stage}
use Rattle.sb_model.specs.declared.stage.Stage.TheVariants.{LrOutDelivery}
use Rattle.net_meaning.specs.declared.cause.Cause.TheVariants as cause
use Rattle.net_rows.specs.Unit.{row_of, rule, unit_of, unit_of_datapath}
use Rattle.net_rows.specs.declared.rule.Rule.{Rule}
use Rattle.net_rows.proofs.Elements.{one_first, one_later}
use Rattle.lr_rows.specs.Nat.{router_nat_rules}
use Rattle.lr_rows.specs.Routes.{router_route_rules}
use Rattle.lr_units.specs.Units.{binding_input, neighbour_input, static_route_input}
use Rattle.ls_laws.proofs.RuleStages.{from_rules_at, rules_at, the_only}
use Rattle.tr_stage.specs.declared.outcome.Outcome.TheVariants as outcomes
use Rattle.tr_pipe.specs.Machine.{StageEnd, run_actions, step}
use Rattle.tr_pipe.specs.Machine.StageEnd.{Ends}
use Rattle.tr_pipe.specs.Tracking.{Flight}
use Rattle.lr_laws.specs.Steps.{Delivers, GoesOut, IsOnRouter, IsPortOf, delivered, flows_at}
use Rattle.lr_laws.proofs.Layers.{IsOfLayer, Layer, layer}
use Rattle.lr_laws.proofs.OwnRules.{binding_stage, is_of_hosts, is_of_routes, neighbour_stage, own_rule-gives, route_stage}
use Rattle.lr_laws.proofs.PortRules.{IsPortSays, delivers-from, delivery_rule, port_has_net, port_rule-gives, stage_is, stage_said}
use Rattle.lr_laws.proofs.Ports.{at_port-from, at_port-gives, same_port}
use Rattle.lr_laws.proofs.StageLayers.{does, HasRow, have_rows, step_by_layers}
use Rattle.nb_router.specs.Vocabulary.{dnats}
use Rattle.lr_laws.proofs.Tables.{IsPortRule, IsRule, own_rules, rows-port_route, rows-router_route}
use Rattle.lr_laws.proofs.Tables.IsRule.{OfRouter, OfPort, OfRoute, OfBinding, OfNeighbour, OfTranslation}
use Rattle.lr_laws.proofs.TranslationRules.{translation_stage}

-- the rule of a router
abbrev last_rule : Rule
last_rule = rule LrOutDelivery 0 takes_each drops

own : (dnats : Bool) → rules_at LrOutDelivery (own_rules dnats) ≡ last_rule ∷ []
unfolding router_nat_rules stage_place
own true = refl
own false = refl

of_routes : rules_at LrOutDelivery router_route_rules ≡ last_rule ∷ []
unfolding stage_place
of_routes = refl

-- the rule of a port
abbrev is_delivery : Stage → Bool
is_delivery LrOutDelivery = true
is_delivery _ = false

module _ (net : Network) (port : RouterPort) (rule : Rule) where
  by_said : (of : IsPortSays net port rule) → is_delivery (stage_said of) ≡ true → (port.enabled ≡ true) × (rule ≡ delivery_rule port.name)
  by_said (IsPortSays.DeliversTo enabled is) stage = (enabled, is)
  by_said _ stage = absurd (false≢true stage)

  delivery-gives : IsPortSays net port rule → rule.stage ≡ LrOutDelivery → (port.enabled ≡ true) × (rule ≡ delivery_rule port.name)
  delivery-gives of of_stage = by_said of (ap is_delivery (sym (stage_is net port rule of) ∙ of_stage))

module _ (net : Network) (router : Router) (flight : Flight) (on : IsOnRouter net router flight.packet) (port : RouterPort) (its : IsPortOf net router port) (at : GoesOut port flight.packet) where
  abbrev goes : StageEnd
  goes = Ends (Some (outcomes.Deliver flight.packet)) flight.state

  abbrev dropped : StageEnd
  dropped = Ends (Some (outcomes.Drop cause.Delivery)) flight.state

  abbrev port_layer : Layer StageEnd
  port_layer = layer 100 port.enabled goes

  abbrev last_layer : Layer StageEnd
  last_layer = layer 0 true dropped

  abbrev layers : List (Layer StageEnd)
  layers = port_layer ∷ last_layer ∷ []

  abbrev OfLayer : Row → Type 0
  OfLayer row = IsOfLayer (does net router flight on LrOutDelivery) layers row

  it_goes : run_actions (names net) router.id LrOutDelivery (delivery_rule port.name).actions flight ≡ goes
  unfolding pipeline_of
  it_goes = refl

  by_port : (row : Row) → IsPortRule net router.id LrOutDelivery row → holds (names net) flight.packet row.matching ≡ true → OfLayer row
  by_port row of takes =
      let gives = delivery-gives net of.port of.says (port_rule-gives net of.port (port_has_net net on.sound of.port of.among) of.says of.in_rules) of.of_stage in
      let row_is : row ≡ row_of (unit_of router.id of.port.id) (delivery_rule of.port.name) = of.is ∙ ap (row_of (unit_of router.id of.port.id)) gives.1 in
      let number = at_port-gives net on.sound of.port of.among flight.packet Outport refl (sym (ap (λ (r : Row). holds (names net) flight.packet r.matching) row_is) ∙ takes) in
      let same : of.port ≡ port = same_port net on.sound of.port port of.among its.0 (sym number ∙ at) in
      record {
        layer = port_layer;
        among = one_first port_layer (last_layer ∷ []) port_layer refl;
        holds = sym (ap (λ (p : RouterPort). p.enabled) same) ∙ gives.0;
        priority = ap (λ (r : Row). r.priority) row_is;
        done = ap (does net router flight on LrOutDelivery) row_is ∙ it_goes;
      }

  taker : (row : Row) → IsRule net router.id LrOutDelivery row → holds (names net) flight.packet row.matching ≡ true → OfLayer row
  taker row (OfRouter of) takes =
      let is = the_only last_rule of.says (own_rule-gives LrOutDelivery (last_rule ∷ []) of.says (dnats net router.id) own of.in_rules of.of_stage) in
      let row_is : row ≡ row_of (unit_of_datapath router.id) last_rule = of.is ∙ ap (row_of (unit_of_datapath router.id)) is in
      record {
        layer = last_layer;
        among = one_later port_layer (last_layer ∷ []) last_layer (one_first last_layer [] last_layer refl);
        holds = refl;
        priority = ap (λ (r : Row). r.priority) row_is;
        done = ap (does net router flight on LrOutDelivery) row_is;
      }
  taker row (OfPort of) takes = by_port row of takes
  taker row (OfRoute of) takes = absurd (false≢true (ap is_of_routes (sym of.of_stage) ∙ route_stage (static_route_input net of.route) of.says of.in_rules))
  taker row (OfBinding of) takes = absurd (false≢true (ap is_of_hosts (sym of.of_stage) ∙ binding_stage (binding_input of.port of.binding) of.says of.in_rules))
  taker row (OfNeighbour of) takes = absurd (false≢true (ap is_of_hosts (sym of.of_stage) ∙ neighbour_stage (neighbour_input net of.port of.other) of.says of.in_rules))
  taker row (OfTranslation of) takes = absurd (false≢true (translation_stage net router.id LrOutDelivery row of))

  port_row : port.enabled ≡ true → HasRow net router flight on LrOutDelivery port_layer
  port_row enabled = record {
    row = row_of (unit_of port.router port.id) (delivery_rule port.name);
    among = rows-port_route net port (delivery_rule port.name) its.0 (delivers-from net port (port_has_net net on.sound port its.0) enabled);
    of_dp = its.1;
    of_stage = refl;
    takes = at_port-from net on.sound port its.0 flight.packet Outport refl at;
    priority = refl;
  }

  last_row : HasRow net router flight on LrOutDelivery last_layer
  last_row = record {
    row = row_of (unit_of_datapath router.id) last_rule;
    among = rows-router_route net router last_rule on.among (from_rules_at LrOutDelivery router_route_rules (last_rule ∷ []) last_rule of_routes (one_first last_rule [] last_rule refl));
    of_dp = refl;
    of_stage = refl;
    takes = refl;
    priority = refl;
  }

  by_layers : step (flows_at net router.id) LrOutDelivery flight ≡ delivered port flight
  by_layers = step_by_layers net router flight on LrOutDelivery layers dropped ((lit< tt, tt), (tt, tt)) taker (have_rows net router flight on LrOutDelivery layers (port_row, ((λ test. last_row), tt))) (some port.enabled)
    where
      some : (a : Bool) → (a || (true || false)) ≡ true
      some true = refl
      some false = refl

pub delivers : Delivers
delivers net router flight on port its at = by_layers net router flight on port its at
