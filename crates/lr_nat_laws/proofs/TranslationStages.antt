-- What the stages of translation have in common: their rows are those of the router itself, and those by which it translates.
use Rattle.std.proofs.Common.{◌≡◌, true, sym, ap, refl, ◌∙◌}
use Rattle.std.specs.Prelude.{Some}
use Rattle.std.specs.List.{Contains}
use Rattle.std.proofs.lemmas.Bool.{false≢true}
use Rattle.expr_eval.specs.MatchMeaning.{holds}
use Rattle.nb_records.specs.declared.router.Router.{Router}
use Rattle.nb_model.specs.Names.{names}
use Rattle.nb_model.specs.Network.{Network}
use Rattle.nb_router.specs.Vocabulary.{dnats}
use Rattle.sb_model.specs.Make.{goes_on}
use Rattle.sb_model.specs.Stage.{next_stage}
use Rattle.sb_model.specs.declared.row.Row.{Row}
use Rattle.sb_model.specs.declared.stage.Stage.{Stage}
use Rattle.net_rows.specs.Unit.{row_of, unit_of_datapath}
use Rattle.net_rows.specs.declared.rule.Rule.{Rule}
use Rattle.lr_rows.specs.Nat.{router_nat_rules}
use Rattle.lr_units.specs.Units.{binding_input, neighbour_input, static_route_input}
use Rattle.tr_pipe.specs.Machine.{StageEnd, ended, run_actions}
use Rattle.tr_pipe.specs.Machine.StageEnd.{On}
use Rattle.tr_pipe.specs.Tracking.{Flight}
use Rattle.tr_stage.specs.Machine as packets
use Rattle.lr_laws.specs.Steps.{IsOnRouter}
use Rattle.lr_laws.proofs.Layers.{Layer}
use Rattle.lr_laws.proofs.OwnRules.{HasNoOther, binding_stage, is_of_hosts, is_of_ports, is_of_routes, neighbour_stage, port_stage, route_stage}
use Rattle.lr_laws.proofs.PortRules.{port_has_net, port_rule-gives}
use Rattle.lr_laws.proofs.StageLayers.{HasRow}
use Rattle.lr_laws.proofs.Tables.{IsOwnRule, IsRule, Translates, rows-router_nat}
use Rattle.lr_laws.proofs.Tables.IsRule.{OfRouter, OfPort, OfRoute, OfBinding, OfNeighbour, OfTranslation}

module _ (net : Network) (router : Router) (flight : Flight) (on : IsOnRouter net router flight.packet) (stage : Stage) where
  -- by where a row of the stage comes from, where ports, routes and neighbours have no rules in it
  pub by_origin : {A : Type 0} → HasNoOther stage → (row : Row) → (IsOwnRule net router.id stage row → A) → (Translates net router.id stage row → A) → IsRule net router.id stage row → A
  by_origin no_other row own translates (OfRouter of) = own of
  by_origin no_other row own translates (OfPort of) =
      absurd (false≢true (sym no_other.port ∙ sym (ap is_of_ports of.of_stage) ∙ port_stage net of.port of.says (port_rule-gives net of.port (port_has_net net on.sound of.port of.among) of.says of.in_rules)))
  by_origin no_other row own translates (OfRoute of) = absurd (false≢true (sym no_other.route ∙ sym (ap is_of_routes of.of_stage) ∙ route_stage (static_route_input net of.route) of.says of.in_rules))
  by_origin no_other row own translates (OfBinding of) = absurd (false≢true (sym no_other.host ∙ sym (ap is_of_hosts of.of_stage) ∙ binding_stage (binding_input of.port of.binding) of.says of.in_rules))
  by_origin no_other row own translates (OfNeighbour of) =
      absurd (false≢true (sym no_other.host ∙ sym (ap is_of_hosts of.of_stage) ∙ neighbour_stage (neighbour_input net of.port of.other) of.says of.in_rules))
  by_origin no_other row own translates (OfTranslation of) = translates of

  -- a rule of the router itself has its row
  pub own_row : (says : Rule) → Contains (router_nat_rules (record { dnats = dnats net router.id })) says → says.stage ≡ stage → holds (names net) flight.packet says.matching ≡ true → (l : Layer StageEnd) → says.priority ≡ l.priority
      → HasRow net router flight on stage l
  own_row says there of_stage takes l priority =
      record {
        row = row_of (unit_of_datapath router.id) says;
        among = rows-router_nat net router says on.among there;
        of_dp = refl;
        of_stage = of_stage;
        takes = takes;
        priority = priority;
      }

  -- what goes on comes to the next stage
  pub goes_to : (next : Stage) → next_stage stage ≡ Some next → run_actions (names net) router.id stage goes_on flight ≡ On next flight
  goes_to next follows = ap (λ s. ended flight (packets.on_to s flight.packet)) follows
