-- Where the MAC of the next host is not known, an ARP request takes the place of the packet.
use Rattle.std.proofs.Common.{◌≡◌, ℕ, Bool, true, false, List, [], ◌∷◌, eqb, sym, ap, refl, ◌∙◌, lit<}
use Rattle.std.specs.Prelude.{◌||◌, Some}
use Rattle.std.specs.List.{Contains}
use Rattle.std.proofs.lemmas.Bool.{false≢true}
use Rattle.nv_base.specs.declared.field.Field.{Field}
use Rattle.nv_base.specs.declared.field.Field.TheVariants.{EthSrc, EthDst, EthType, ArpOp, ArpSpa, ArpSha, ArpTpa, Reg0, Reg1}
use Rattle.pkt_core.specs.Packet.{Values, is_working, value, with_values, workings}
use Rattle.pkt_core.proofs.Only.{length-only, only_value}
use Rattle.expr_eval.specs.MatchMeaning.{holds}
use Rattle.act_core.specs.declared.action.Action.TheVariants as action
use Rattle.nb_records.specs.declared.router.Router.{Router}
use Rattle.nb_model.specs.Names.{names}
use Rattle.nb_model.specs.Network.{Network}
use Rattle.sb_model.specs.Make.{as_mac, equals, goes_out, takes_each}
use Rattle.sb_model.specs.Stage.{pipeline_of, stage_place}
use Rattle.sb_model.specs.declared.row.Row.{Row}
use Rattle.sb_model.specs.declared.stage.Stage.TheVariants.{LrInArpRequest}
use Rattle.net_meaning.specs.declared.answer.Answer.TheVariants as answer
use Rattle.net_rows.specs.Unit.{row_of, rule, unit_of_datapath}
use Rattle.net_rows.specs.declared.rule.Rule.{Rule}
use Rattle.net_rows.proofs.Elements.{one_first, one_later}
use Rattle.lr_rows.specs.Nat.{router_nat_rules}
use Rattle.lr_rows.specs.Routes.{asks_for_mac, router_route_rules}
use Rattle.lr_units.specs.Units.{binding_input, neighbour_input, static_route_input}
use Rattle.ls_laws.proofs.RuleStages.{from_rules_at, rules_at}
use Rattle.tr_stage.specs.declared.outcome.Outcome.TheVariants as outcomes
use Rattle.tr_pipe.specs.Machine.{StageEnd, run_actions, step}
use Rattle.tr_pipe.specs.Machine.StageEnd.{Ends}
use Rattle.tr_pipe.specs.Tracking.{Flight}
use Rattle.lr_laws.specs.Steps.{Asks, IsOnRouter, asked, asking, flows_at}
use Rattle.lr_laws.proofs.Changes.{changed_value, number_after, same_changes}
use Rattle.lr_laws.proofs.Layers.{IsOfLayer, Layer, layer}
use Rattle.lr_laws.proofs.Members.{of_first, of_none}
use Rattle.lr_laws.proofs.OwnRules.{binding_stage, is_of_hosts, is_of_ports, is_of_routes, neighbour_stage, own_rule-gives, port_stage, route_stage}
use Rattle.lr_laws.proofs.PortRules.{port_has_net, port_rule-gives}
use Rattle.lr_laws.proofs.StageLayers.{does, HasRow, have_rows, step_by_layers}
use Rattle.nb_router.specs.Vocabulary.{dnats}
use Rattle.lr_laws.proofs.Tables.{IsRule, own_rules, rows-router_route}
use Rattle.lr_laws.proofs.Tables.IsRule.{OfRouter, OfPort, OfRoute, OfBinding, OfNeighbour, OfTranslation}
use Rattle.lr_laws.proofs.TranslationRules.{translation_stage}

-- ---- the request

module _ (packet : Values) where
  -- what the request begins with
  abbrev base : Values
  base = workings packet

  abbrev before_source : List (Field × ℕ)
  before_source =
      (EthSrc, value packet EthSrc) ∷ (EthDst, value packet EthDst) ∷ (EthType, 0x806) ∷ (ArpSha, value packet EthSrc) ∷ (EthDst, 0xffff_ffff_ffff) ∷ (ArpOp, 1) ∷ []

  abbrev before_target : ℕ → List (Field × ℕ)
  before_target source =
      (EthSrc, value packet EthSrc) ∷ (EthDst, value packet EthDst) ∷ (EthType, 0x806) ∷ (ArpSha, value packet EthSrc) ∷ (EthDst, 0xffff_ffff_ffff) ∷ (ArpOp, 1) ∷ (ArpSpa, source) ∷ []

  abbrev all_changes : ℕ → ℕ → List (Field × ℕ)
  all_changes source target =
      (EthSrc, value packet EthSrc) ∷ (EthDst, value packet EthDst) ∷ (EthType, 0x806) ∷ (ArpSha, value packet EthSrc) ∷ (EthDst, 0xffff_ffff_ffff)
      ∷ (ArpOp, 1) ∷ (ArpSpa, source) ∷ (ArpTpa, target) ∷ []

  -- those of the request
  abbrev asking_changes : List (Field × ℕ)
  asking_changes =
      (EthSrc, value packet EthSrc) ∷ (EthDst, 0xffff_ffff_ffff) ∷ (EthType, 0x806) ∷ (ArpOp, 1) ∷ (ArpSpa, value packet Reg1) ∷ (ArpSha, value packet EthSrc) ∷ (ArpTpa, value packet Reg0) ∷ []

  -- where the assignments of the row have the addresses from
  abbrev source : ℕ
  source = value (with_values base before_source) Reg1

  abbrev target : ℕ
  target = value (with_values base (before_target source)) Reg0

  source_is : source ≡ value packet Reg1
  source_is = changed_value base before_source Reg1 (length-only packet is_working) ∙ only_value packet is_working Reg1

  target_is : target ≡ value packet Reg0
  target_is = changed_value base (before_target source) Reg0 (length-only packet is_working) ∙ only_value packet is_working Reg0

  made : with_values base (all_changes source target) ≡ asking packet
  made =
      (λ i. with_values base (all_changes (source_is i) (target_is i)))
      ∙ same_changes base (all_changes (value packet Reg1) (value packet Reg0))
      asking_changes (length-only packet is_working) by
    where
      by : (field : Field) (old : ℕ) → number_after (all_changes (value packet Reg1) (value packet Reg0)) field old ≡ number_after asking_changes field old
      by EthSrc old = refl
      by _ old = refl

-- ---- the stage

abbrev asking_rule : Rule
asking_rule = rule LrInArpRequest 100 (equals EthDst (as_mac 0)) (action.Arp asks_for_mac ∷ [])

abbrev last_rule : Rule
last_rule = rule LrInArpRequest 0 takes_each goes_out

own : (dnats : Bool) → rules_at LrInArpRequest (own_rules dnats) ≡ asking_rule ∷ last_rule ∷ []
unfolding router_nat_rules stage_place
own true = refl
own false = refl

of_routes : rules_at LrInArpRequest router_route_rules ≡ asking_rule ∷ last_rule ∷ []
unfolding stage_place
of_routes = refl

module _ (net : Network) (router : Router) (flight : Flight) (on : IsOnRouter net router flight.packet) where
  abbrev unknown : Bool
  unknown = eqb (value flight.packet EthDst) 0

  abbrev request : StageEnd
  request = Ends (Some (outcomes.Made (asking flight.packet) 0 answer.Arp)) flight.state

  abbrev leaves : StageEnd
  leaves = Ends (Some (outcomes.Leave flight.packet 0)) flight.state

  abbrev asking_layer : Layer StageEnd
  asking_layer = layer 100 unknown request

  abbrev last_layer : Layer StageEnd
  last_layer = layer 0 true leaves

  abbrev layers : List (Layer StageEnd)
  layers = asking_layer ∷ last_layer ∷ []

  abbrev OfLayer : Row → Type 0
  OfLayer row = IsOfLayer (does net router flight on LrInArpRequest) layers row

  it_asks : run_actions (names net) router.id LrInArpRequest asking_rule.actions flight ≡ request
  unfolding pipeline_of
  it_asks = ap (λ p. Ends (Some (outcomes.Made p 0 answer.Arp)) flight.state) (made flight.packet)

  it_leaves : run_actions (names net) router.id LrInArpRequest goes_out flight ≡ leaves
  unfolding pipeline_of
  it_leaves = refl

  by_own : (row : Row) (says : Rule) → row ≡ row_of (unit_of_datapath router.id) says → holds (names net) flight.packet row.matching ≡ true → Contains (asking_rule ∷ last_rule ∷ []) says → OfLayer row
  by_own row says is takes =
      of_first asking_rule (last_rule ∷ []) says
      (λ same.
      let row_is : row ≡ row_of (unit_of_datapath router.id) asking_rule = is ∙ ap (row_of (unit_of_datapath router.id)) same in
      record {
        layer = asking_layer;
        among = one_first asking_layer (last_layer ∷ []) asking_layer refl;
        holds = sym (ap (λ (r : Row). holds (names net) flight.packet r.matching) row_is) ∙ takes;
        priority = ap (λ (r : Row). r.priority) row_is;
        done = ap (does net router flight on LrInArpRequest) row_is ∙ it_asks;
      })
      (of_first last_rule [] says
      (λ same.
      let row_is : row ≡ row_of (unit_of_datapath router.id) last_rule = is ∙ ap (row_of (unit_of_datapath router.id)) same in
      record {
        layer = last_layer;
        among = one_later asking_layer (last_layer ∷ []) last_layer (one_first last_layer [] last_layer refl);
        holds = refl;
        priority = ap (λ (r : Row). r.priority) row_is;
        done = ap (does net router flight on LrInArpRequest) row_is ∙ it_leaves;
      }) (of_none says))

  taker : (row : Row) → IsRule net router.id LrInArpRequest row → holds (names net) flight.packet row.matching ≡ true → OfLayer row
  taker row (OfRouter of) takes = by_own row of.says of.is takes (own_rule-gives LrInArpRequest (asking_rule ∷ last_rule ∷ []) of.says (dnats net router.id) own of.in_rules of.of_stage)
  taker row (OfPort of) takes =
      absurd (false≢true (ap is_of_ports (sym of.of_stage) ∙ port_stage net of.port of.says (port_rule-gives net of.port (port_has_net net on.sound of.port of.among) of.says of.in_rules)))
  taker row (OfRoute of) takes = absurd (false≢true (ap is_of_routes (sym of.of_stage) ∙ route_stage (static_route_input net of.route) of.says of.in_rules))
  taker row (OfBinding of) takes = absurd (false≢true (ap is_of_hosts (sym of.of_stage) ∙ binding_stage (binding_input of.port of.binding) of.says of.in_rules))
  taker row (OfNeighbour of) takes = absurd (false≢true (ap is_of_hosts (sym of.of_stage) ∙ neighbour_stage (neighbour_input net of.port of.other) of.says of.in_rules))
  taker row (OfTranslation of) takes = absurd (false≢true (translation_stage net router.id LrInArpRequest row of))

  own_row : (says : Rule) → Contains (asking_rule ∷ last_rule ∷ []) says → says.stage ≡ LrInArpRequest → holds (names net) flight.packet says.matching ≡ true → (l : Layer StageEnd) → says.priority ≡ l.priority
      → HasRow net router flight on LrInArpRequest l
  own_row says there of_stage takes l priority =
      record {
        row = row_of (unit_of_datapath router.id) says;
        among = rows-router_route net router says on.among (from_rules_at LrInArpRequest router_route_rules (asking_rule ∷ last_rule ∷ []) says of_routes there);
        of_dp = refl;
        of_stage = of_stage;
        takes = takes;
        priority = priority;
      }

  by_layers : step (flows_at net router.id) LrInArpRequest flight ≡ asked flight
  by_layers =
      step_by_layers net router flight on LrInArpRequest layers leaves ((lit< tt, tt), (tt, tt)) taker
      (have_rows net router flight on LrInArpRequest layers (
        (λ test. own_row asking_rule (one_first asking_rule (last_rule ∷ []) asking_rule refl) refl test asking_layer refl),
        ((λ test. own_row last_rule (one_later asking_rule (last_rule ∷ []) last_rule (one_first last_rule [] last_rule refl)) refl refl last_layer refl), tt),
      ))
      (some unknown)
    where
      some : (a : Bool) → (a || (true || false)) ≡ true
      some true = refl
      some false = refl

pub asks : Asks
asks net router flight on = by_layers net router flight on
