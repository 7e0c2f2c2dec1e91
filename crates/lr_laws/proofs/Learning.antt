-- What a packet tells of a neighbour is learnt, as the meaning says.
use Rattle.std.proofs.Common.{◌≡◌, ℕ, zero, suc, ◌<◌, ◌/◌, ◌%◌, ◌^◌, Bool, true, false, cond, List, [], ◌∷◌, eqb, sym, ap, refl, ◌∙◌, lit<, ◌⊎◌, inl, inr, arith}
use Rattle.std.specs.Prelude.{◌&&◌, ◌||◌, not}
use Rattle.std.specs.List.{Contains, list_any}
use Rattle.std.proofs.lemmas.Bool.{false≢true, and_from, and_parts}
use Rattle.nv_base.specs.Ip4.{address}
use Rattle.nv_base.specs.declared.field.Field.TheVariants.{Inport, ArpSpa, ArpSha}
use Rattle.nv_base.specs.declared.field.Prerequisite.TheVariants.{Arp}
use Rattle.nv_base.specs.declared.object.ObjId.{ObjId}
use Rattle.pkt_core.specs.Packet.{Values, value}
use Rattle.pkt_core.specs.Prerequisite.{meets}
use Rattle.ct_core.specs.Neighbours.{learnt}
use Rattle.ct_core.specs.State.{State}
use Rattle.expr_eval.specs.MatchMeaning.{holds}
use Rattle.nb_records.specs.declared.router.Router.{Router}
use Rattle.nb_records.specs.declared.router.RouterPort.{RouterPort}
use Rattle.nb_model.specs.Names.{names}
use Rattle.nb_model.specs.Network.{Network}
use Rattle.sb_model.specs.Make.{goes_on, is_port}
use Rattle.sb_model.specs.Stage.{all_stages, next_stage, stage_at, stage_place}
use Rattle.sb_model.specs.declared.row.Row.{Row}
use Rattle.sb_model.specs.declared.stage.Stage.{Stage}
use Rattle.sb_model.specs.declared.stage.Stage.TheVariants.{LrInLearnNeighbor, LrInIpInput}
use Rattle.net_meaning.specs.Address.{is_multicast}
use Rattle.net_router.specs.Input.{after_learning, is_in_network, tells_neighbour, told_neighbour}
use Rattle.net_rows.specs.Unit.{row_of, unit_of, unit_of_datapath}
use Rattle.net_rows.specs.declared.rule.Rule.{Rule}
use Rattle.net_rows.proofs.Elements.{one_first, one_later}
use Rattle.lr_rows.specs.Input.{learning_rule, router_in_rules}
use Rattle.lr_rows.specs.Nat.{router_nat_rules}
use Rattle.lr_units.specs.Units.{binding_input, neighbour_input, port_in_input, static_route_input}
use Rattle.lr_units.proofs.SoundRouters.{router_port_is_sound}
use Rattle.ls_laws.proofs.PassingStages.{passing}
use Rattle.ls_laws.proofs.RuleStages.{from_rules_at, rules_at, the_only}
use Rattle.tr_pipe.specs.Machine.{StageEnd, run_actions, step}
use Rattle.tr_pipe.specs.Machine.StageEnd.{On}
use Rattle.tr_pipe.specs.Tracking.{Flight}
use Rattle.lr_laws.specs.Steps.{CameIn, IsOnRouter, IsPortOf, Learns, flows_at}
use Rattle.lr_laws.proofs.Layers.{IsOfLayer, Layer, layer}
use Rattle.lr_laws.proofs.Networks.{networks_item}
use Rattle.lr_laws.proofs.OwnRules.{binding_stage, is_of_hosts, is_of_routes, neighbour_stage, own_rule-gives, route_stage}
use Rattle.lr_laws.proofs.PortRules.{IsPortSays, learns-from, port_has_net, port_rule-gives, stage_is, stage_said}
use Rattle.lr_laws.proofs.Ports.{at_port-from, at_port-gives, same_port}
use Rattle.lr_laws.proofs.StageLayers.{does, HasRow, have_rows, step_by_layers}
use Rattle.nb_router.specs.Vocabulary.{dnats}
use Rattle.lr_laws.proofs.Tables.{IsPortRule, IsRule, own_rules, rows-port_in, rows-router_in}
use Rattle.lr_laws.proofs.Tables.IsRule.{OfRouter, OfPort, OfRoute, OfBinding, OfNeighbour, OfTranslation}
use Rattle.lr_laws.proofs.TranslationRules.{translation_stage}

-- the rule of a router
abbrev last_rule : Rule
last_rule = passing LrInLearnNeighbor

own : (dnats : Bool) → rules_at LrInLearnNeighbor (own_rules dnats) ≡ last_rule ∷ []
unfolding router_nat_rules stage_place
own true = refl
own false = refl

of_input : rules_at LrInLearnNeighbor router_in_rules ≡ last_rule ∷ []
unfolding stage_place
of_input = refl

-- the rule of a port
abbrev is_learning : Stage → Bool
is_learning LrInLearnNeighbor = true
is_learning _ = false

module _ (net : Network) (port : RouterPort) (rule : Rule) where
  by_said : (of : IsPortSays net port rule) → is_learning (stage_said of) ≡ true → rule ≡ learning_rule (port_in_input net port)
  by_said (IsPortSays.Learns is) stage = is
  by_said _ stage = absurd (false≢true stage)

  learning-gives : IsPortSays net port rule → rule.stage ≡ LrInLearnNeighbor → rule ≡ learning_rule (port_in_input net port)
  learning-gives of of_stage = by_said of (ap is_learning (sym (stage_is net port rule of) ∙ of_stage))

-- ---- what the rule asks for

-- a bit is 0 where it is not 1
not_one : (n : ℕ) → eqb (n % 2) 0 ≡ not (eqb (n % 2) 1)
not_one n = by (n % 2) (mod_below n)
  where
    mod_below : (m : ℕ) → (m % 2 ≡ 0) ⊎ (m % 2 ≡ 1)
    mod_below m = by_two (m % 2) (omega arith)
      where
        by_two : (r : ℕ) → r < 2 → (r ≡ 0) ⊎ (r ≡ 1)
        by_two zero low = inl refl
        by_two (suc zero) low = inr refl
        by_two (suc (suc r)) low = absurd (omega (arith, low))

    by : (r : ℕ) → (r ≡ 0) ⊎ (r ≡ 1) → eqb r 0 ≡ not (eqb r 1)
    by r (inl is) = rw is refl
    by r (inr is) = rw is refl

-- each field of ARP asks for ARP
arp_fields : (arp covered single known : Bool) → (arp && covered) && ((arp && single) && ((arp && known) && true)) ≡ (arp && covered && single && known)
arp_fields false covered single known = refl
arp_fields true false single known = refl
arp_fields true true false known = refl
arp_fields true true true true = refl
arp_fields true true true false = refl

module _ (net : Network) (router : Router) (flight : Flight) (on : IsOnRouter net router flight.packet) where
  abbrev packet : Values
  packet = flight.packet

  -- the match of the rule of a port
  port_match : (p : RouterPort) → Contains net.router_ports p → holds (names net) packet (learning_rule (port_in_input net p)).matching ≡ (holds (names net) packet (is_port Inport p.name) && tells_neighbour p packet)
  port_match p there =
      ap (λ b. holds (names net) packet (is_port Inport p.name) && b)
      ((λ i. (meets packet Arp && networks_item (names net) (value packet ArpSpa) (on.formed.fits ArpSpa) p.nets (router_port_is_sound net on.sound p there).is.blocks i)
      && ((meets packet Arp && not_one (value packet ArpSha / 2 ^ 40) i) && ((meets packet Arp && not (eqb (value packet ArpSha) 0)) && true)))
      ∙ arp_fields (meets packet Arp) (list_any (is_in_network (value packet ArpSpa)) p.nets) (not (is_multicast (value packet ArpSha))) (not (eqb (value packet ArpSha) 0)))

  module _ (port : RouterPort) (its : IsPortOf net router port) (at : CameIn port flight.packet) where
    -- the state in which it is learnt
    abbrev learnt_state : State
    learnt_state = record flight.state { nbrs = learnt (told_neighbour port packet) flight.state.nbrs }

    abbrev learns_it : StageEnd
    learns_it = On LrInIpInput (record flight { state = learnt_state })

    abbrev goes : StageEnd
    goes = On LrInIpInput flight

    abbrev port_layer : Layer StageEnd
    port_layer = layer 100 (tells_neighbour port packet) learns_it

    abbrev last_layer : Layer StageEnd
    last_layer = layer 0 true goes

    abbrev layers : List (Layer StageEnd)
    layers = port_layer ∷ last_layer ∷ []

    abbrev OfLayer : Row → Type 0
    OfLayer row = IsOfLayer (does net router flight on LrInLearnNeighbor) layers row

    arrival : record { 0 = value packet Inport } ≡ port.id
    arrival = λ i. record { 0 = at i }

    it_learns : run_actions (names net) router.id LrInLearnNeighbor (learning_rule (port_in_input net port)).actions flight ≡ learns_it
    unfolding next_stage stage_at all_stages
    it_learns =
        ap (λ (number : ObjId). On LrInIpInput (record flight { state = record flight.state { nbrs = learnt (record { port = number; addr = address (value packet ArpSpa); mac = value packet ArpSha }) flight.state.nbrs } }))
        arrival

    it_goes : run_actions (names net) router.id LrInLearnNeighbor goes_on flight ≡ goes
    unfolding next_stage stage_at all_stages
    it_goes = refl

    by_port : (row : Row) → IsPortRule net router.id LrInLearnNeighbor row → holds (names net) packet row.matching ≡ true → OfLayer row
    by_port row of takes =
        let gives = learning-gives net of.port of.says (port_rule-gives net of.port (port_has_net net on.sound of.port of.among) of.says of.in_rules) of.of_stage in
        let row_is : row ≡ row_of (unit_of router.id of.port.id) (learning_rule (port_in_input net of.port)) = of.is ∙ ap (row_of (unit_of router.id of.port.id)) gives in
        let parts =
        and_parts (holds (names net) packet (is_port Inport of.port.name)) (tells_neighbour of.port packet)
        (sym (port_match of.port of.among) ∙ (sym (ap (λ (r : Row). holds (names net) packet r.matching) row_is) ∙ takes)) in
        let number = at_port-gives net on.sound of.port of.among packet Inport refl parts.0 in
        by of.port (same_port net on.sound of.port port of.among its.0 (sym number ∙ at)) parts.1 row_is
      where
        by : (p : RouterPort) → p ≡ port → tells_neighbour p packet ≡ true → row ≡ row_of (unit_of router.id p.id) (learning_rule (port_in_input net p)) → OfLayer row
        by p same tells row_is =
            record {
              layer = port_layer;
              among = one_first port_layer (last_layer ∷ []) port_layer refl;
              holds = sym (ap (λ (q : RouterPort). tells_neighbour q packet) same) ∙ tells;
              priority = ap (λ (r : Row). r.priority) row_is;
              done = ap (does net router flight on LrInLearnNeighbor) row_is ∙ it_learns;
            }

    taker : (row : Row) → IsRule net router.id LrInLearnNeighbor row → holds (names net) packet row.matching ≡ true → OfLayer row
    taker row (OfRouter of) takes =
        let is = the_only last_rule of.says (own_rule-gives LrInLearnNeighbor (last_rule ∷ []) of.says (dnats net router.id) own of.in_rules of.of_stage) in
        let row_is : row ≡ row_of (unit_of_datapath router.id) last_rule = of.is ∙ ap (row_of (unit_of_datapath router.id)) is in
        record {
          layer = last_layer;
          among = one_later port_layer (last_layer ∷ []) last_layer (one_first last_layer [] last_layer refl);
          holds = refl;
          priority = ap (λ (r : Row). r.priority) row_is;
          done = ap (does net router flight on LrInLearnNeighbor) row_is ∙ it_goes;
        }
    taker row (OfPort of) takes = by_port row of takes
    taker row (OfRoute of) takes = absurd (false≢true (ap is_of_routes (sym of.of_stage) ∙ route_stage (static_route_input net of.route) of.says of.in_rules))
    taker row (OfBinding of) takes = absurd (false≢true (ap is_of_hosts (sym of.of_stage) ∙ binding_stage (binding_input of.port of.binding) of.says of.in_rules))
    taker row (OfNeighbour of) takes = absurd (false≢true (ap is_of_hosts (sym of.of_stage) ∙ neighbour_stage (neighbour_input net of.port of.other) of.says of.in_rules))
    taker row (OfTranslation of) takes = absurd (false≢true (translation_stage net router.id LrInLearnNeighbor row of))

    port_row : tells_neighbour port packet ≡ true → HasRow net router flight on LrInLearnNeighbor port_layer
    port_row test =
        let says = learning_rule (port_in_input net port) in
        record {
          row = row_of (unit_of port.router port.id) says;
          among = rows-port_in net port says its.0 (learns-from net port (port_has_net net on.sound port its.0));
          of_dp = its.1;
          of_stage = refl;
          takes = port_match port its.0 ∙ and_from (holds (names net) packet (is_port Inport port.name)) (tells_neighbour port packet) (at_port-from net on.sound port its.0 packet Inport refl at) test;
          priority = refl;
        }

    last_row : HasRow net router flight on LrInLearnNeighbor last_layer
    last_row = record {
      row = row_of (unit_of_datapath router.id) last_rule;
      among = rows-router_in net router last_rule on.among (from_rules_at LrInLearnNeighbor router_in_rules (last_rule ∷ []) last_rule of_input (one_first last_rule [] last_rule refl));
      of_dp = refl;
      of_stage = refl;
      takes = refl;
      priority = refl;
    }

    by_layers : step (flows_at net router.id) LrInLearnNeighbor flight ≡ On LrInIpInput (record flight { state = after_learning port packet flight.state })
    by_layers =
        step_by_layers net router flight on LrInLearnNeighbor layers goes ((lit< tt, tt), (tt, tt)) taker (have_rows net router flight on LrInLearnNeighbor layers (port_row, ((λ test. last_row), tt)))
        (some (tells_neighbour port packet))
        ∙ end_is (tells_neighbour port packet)
      where
        some : (a : Bool) → (a || (true || false)) ≡ true
        some true = refl
        some false = refl

        end_is : (a : Bool) → cond a learns_it (cond true goes goes) ≡ On LrInIpInput (record flight { state = cond a learnt_state flight.state })
        end_is true = refl
        end_is false = refl

pub learns : Learns
learns net router flight on port its at = by_layers net router flight on port its at
