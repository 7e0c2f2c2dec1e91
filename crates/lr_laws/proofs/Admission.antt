-- A router admits at a port what the meaning says.
use Rattle.std.proofs.Common.{◌≡◌, Bool, true, false, cond, List, [], ◌∷◌, eqb, sym, ap, refl, ◌∙◌, lit<}
use Rattle.std.specs.Prelude.{◌&&◌, ◌||◌, not, Some}
use Rattle.std.specs.List.{Contains}
use Rattle.std.proofs.lemmas.Bool.{false≢true, and_from, and_parts}
use Rattle.nv_base.specs.declared.field.Field.TheVariants.{Inport, EthSrc, EthDst, Reg6}
use Rattle.pkt_core.specs.Packet.{Values, value, with_value}
use Rattle.expr_eval.specs.MatchMeaning.{holds}
use Rattle.nb_records.specs.declared.router.Router.{Router}
use Rattle.nb_records.specs.declared.router.RouterPort.{RouterPort}
use Rattle.nb_model.specs.Names.{names}
use Rattle.nb_model.specs.Network.{Network}
use Rattle.sb_model.specs.Make.{bit, drops, is_port, takes_each}
use Rattle.sb_model.specs.Stage.{all_stages, next_stage, stage_at, stage_place}
use Rattle.sb_model.specs.declared.row.Row.{Row}
use Rattle.sb_model.specs.declared.stage.Stage.{Stage}
use Rattle.sb_model.specs.declared.stage.Stage.TheVariants.{LrInAdmission, LrInLearnNeighbor}
use Rattle.net_meaning.specs.Address.{is_multicast}
use Rattle.net_meaning.specs.declared.cause.Cause.TheVariants.{Admission}
use Rattle.net_rows.specs.Unit.{row_of, rule, unit_of, unit_of_datapath}
use Rattle.net_rows.specs.declared.rule.Rule.{Rule}
use Rattle.net_rows.proofs.Elements.{one_first, one_later}
use Rattle.lr_rows.specs.Input.{router_in_rules}
use Rattle.lr_rows.specs.Nat.{router_nat_rules}
use Rattle.lr_units.specs.Units.{binding_input, neighbour_input, port_in_input, static_route_input}
use Rattle.ls_laws.proofs.RuleStages.{from_rules_at, rules_at}
use Rattle.tr_stage.specs.declared.outcome.Outcome.TheVariants as outcomes
use Rattle.tr_pipe.specs.Machine.{StageEnd, run_actions, step}
use Rattle.tr_pipe.specs.Machine.StageEnd.{On, Ends}
use Rattle.tr_pipe.specs.Tracking.{Flight, with_packet}
use Rattle.lr_laws.specs.Steps.{Admits, CameIn, IsOnRouter, IsPortOf, admitted, flows_at}
use Rattle.lr_laws.proofs.Layers.{IsOfLayer, Layer, layer}
use Rattle.lr_laws.proofs.Members.{of_first, of_none}
use Rattle.lr_laws.proofs.OwnRules.{binding_stage, is_of_hosts, is_of_routes, neighbour_stage, own_rule-gives, route_stage}
use Rattle.lr_laws.proofs.PortRules.{IsPortSays, admits-from, admitting_rule, port_has_net, port_rule-gives, stage_is, stage_said}
use Rattle.lr_laws.proofs.Ports.{at_port-from, at_port-gives, same_port}
use Rattle.lr_laws.proofs.StageLayers.{does, HasRow, have_rows, step_by_layers}
use Rattle.nb_router.specs.Vocabulary.{dnats}
use Rattle.lr_laws.proofs.Tables.{IsPortRule, IsRule, own_rules, rows-port_in, rows-router_in}
use Rattle.lr_laws.proofs.Tables.IsRule.{OfRouter, OfPort, OfRoute, OfBinding, OfNeighbour, OfTranslation}
use Rattle.lr_laws.proofs.TranslationRules.{translation_stage}

-- the rules of a router
abbrev many_rule : Rule
many_rule = rule LrInAdmission 100 (bit EthSrc 40) drops

abbrev last_rule : Rule
last_rule = rule LrInAdmission 0 takes_each drops

own : (dnats : Bool) → rules_at LrInAdmission (own_rules dnats) ≡ many_rule ∷ last_rule ∷ []
unfolding router_nat_rules stage_place
own true = refl
own false = refl

of_input : rules_at LrInAdmission router_in_rules ≡ many_rule ∷ last_rule ∷ []
unfolding stage_place
of_input = refl

-- the rule of a port
abbrev is_admission : Stage → Bool
is_admission LrInAdmission = true
is_admission _ = false

module _ (net : Network) (port : RouterPort) (rule : Rule) where
  by_said : (of : IsPortSays net port rule) → is_admission (stage_said of) ≡ true → (port.enabled ≡ true) × (rule ≡ admitting_rule (port_in_input net port))
  by_said (IsPortSays.Admits enabled is) stage = (enabled, is)
  by_said _ stage = absurd (false≢true stage)

  admitting-gives : IsPortSays net port rule → rule.stage ≡ LrInAdmission → (port.enabled ≡ true) × (rule ≡ admitting_rule (port_in_input net port))
  admitting-gives of of_stage = by_said of (ap is_admission (sym (stage_is net port rule of) ∙ of_stage))

-- ---- truth values

for_port_or_many : (a b : Bool) → (a || (b || false || false)) && true ≡ (a || b)
for_port_or_many true b = refl
for_port_or_many false true = refl
for_port_or_many false false = refl

either_end : {A : Type 0} (drop on : A) (many enabled for_it : Bool) → cond many drop (cond (enabled && for_it) on (cond true drop drop)) ≡ cond (not many && enabled && for_it) on drop
either_end drop on true enabled for_it = refl
either_end drop on false true for_it = refl
either_end drop on false false for_it = refl

-- ---- the stage

module _ (net : Network) (router : Router) (flight : Flight) (on : IsOnRouter net router flight.packet) (port : RouterPort) (its : IsPortOf net router port) (at : CameIn port flight.packet) where
  abbrev packet : Values
  packet = flight.packet

  abbrev many : Bool
  many = is_multicast (value packet EthSrc)

  abbrev for_it : Bool
  for_it = eqb (value packet EthDst) port.mac || is_multicast (value packet EthDst)

  abbrev dropped : StageEnd
  dropped = Ends (Some (outcomes.Drop Admission)) flight.state

  abbrev goes : StageEnd
  goes = On LrInLearnNeighbor (with_packet flight (with_value packet Reg6 port.mac))

  abbrev many_layer : Layer StageEnd
  many_layer = layer 100 many dropped

  abbrev port_layer : Layer StageEnd
  port_layer = layer 50 (port.enabled && for_it) goes

  abbrev last_layer : Layer StageEnd
  last_layer = layer 0 true dropped

  abbrev layers : List (Layer StageEnd)
  layers = many_layer ∷ port_layer ∷ last_layer ∷ []

  abbrev OfLayer : Row → Type 0
  OfLayer row = IsOfLayer (does net router flight on LrInAdmission) layers row

  -- what the rules of the stage do
  it_goes : run_actions (names net) router.id LrInAdmission (admitting_rule (port_in_input net port)).actions flight ≡ goes
  unfolding next_stage stage_at all_stages
  it_goes = refl

  by_own : (row : Row) (says : Rule) → row ≡ row_of (unit_of_datapath router.id) says → holds (names net) packet row.matching ≡ true → Contains (many_rule ∷ last_rule ∷ []) says → OfLayer row
  by_own row says is takes there =
      of_first many_rule (last_rule ∷ []) says
      (λ same.
      let row_is : row ≡ row_of (unit_of_datapath router.id) many_rule = is ∙ ap (row_of (unit_of_datapath router.id)) same in
      record {
        layer = many_layer;
        among = one_first many_layer (port_layer ∷ last_layer ∷ []) many_layer refl;
        holds = sym (ap (λ (r : Row). holds (names net) packet r.matching) row_is) ∙ takes;
        priority = ap (λ (r : Row). r.priority) row_is;
        done = ap (does net router flight on LrInAdmission) row_is;
      })
      (of_first last_rule [] says
      (λ same.
      let row_is : row ≡ row_of (unit_of_datapath router.id) last_rule = is ∙ ap (row_of (unit_of_datapath router.id)) same in
      record {
        layer = last_layer;
        among = one_later many_layer (port_layer ∷ last_layer ∷ []) last_layer (one_later port_layer (last_layer ∷ []) last_layer (one_first last_layer [] last_layer refl));
        holds = refl;
        priority = ap (λ (r : Row). r.priority) row_is;
        done = ap (does net router flight on LrInAdmission) row_is;
      }) (of_none says))
      there

  -- the match of the rule of a port
  port_match : (p : RouterPort) → holds (names net) packet (admitting_rule (port_in_input net p)).matching ≡ (holds (names net) packet (is_port Inport p.name) && (eqb (value packet EthDst) p.mac || is_multicast (value packet EthDst)))
  port_match p = ap (λ b. holds (names net) packet (is_port Inport p.name) && b) (for_port_or_many (eqb (value packet EthDst) p.mac) (is_multicast (value packet EthDst)))

  by_port : (row : Row) → IsPortRule net router.id LrInAdmission row → holds (names net) packet row.matching ≡ true → OfLayer row
  by_port row of takes =
      let gives = admitting-gives net of.port of.says (port_rule-gives net of.port (port_has_net net on.sound of.port of.among) of.says of.in_rules) of.of_stage in
      let row_is : row ≡ row_of (unit_of router.id of.port.id) (admitting_rule (port_in_input net of.port)) = of.is ∙ ap (row_of (unit_of router.id of.port.id)) gives.1 in
      let does_match = sym (port_match of.port) ∙ (sym (ap (λ (r : Row). holds (names net) packet r.matching) row_is) ∙ takes) in
      let parts = and_parts (holds (names net) packet (is_port Inport of.port.name)) (eqb (value packet EthDst) of.port.mac || is_multicast (value packet EthDst)) does_match in
      let number = at_port-gives net on.sound of.port of.among packet Inport refl parts.0 in
      let same : of.port ≡ port = same_port net on.sound of.port port of.among its.0 (sym number ∙ at) in
      by of.port same gives.0 parts.1 row_is
    where
      by : (p : RouterPort) → p ≡ port → p.enabled ≡ true → (eqb (value packet EthDst) p.mac || is_multicast (value packet EthDst)) ≡ true → row ≡ row_of (unit_of router.id p.id) (admitting_rule (port_in_input net p)) → OfLayer row
      by p same enabled for_p row_is =
          record {
            layer = port_layer;
            among = one_later many_layer (port_layer ∷ last_layer ∷ []) port_layer (one_first port_layer (last_layer ∷ []) port_layer refl);
            holds =
                and_from port.enabled for_it (sym (ap (λ (q : RouterPort). q.enabled) same) ∙ enabled)
                (sym (ap (λ (q : RouterPort). eqb (value packet EthDst) q.mac || is_multicast (value packet EthDst)) same) ∙ for_p);
            priority = ap (λ (r : Row). r.priority) row_is;
            done =
                ap (does net router flight on LrInAdmission) row_is
                ∙ ap (λ (q : RouterPort). run_actions (names net) router.id LrInAdmission (admitting_rule (port_in_input net q)).actions flight) same ∙ it_goes;
          }

  taker : (row : Row) → IsRule net router.id LrInAdmission row → holds (names net) packet row.matching ≡ true → OfLayer row
  taker row (OfRouter of) takes = by_own row of.says of.is takes (own_rule-gives LrInAdmission (many_rule ∷ last_rule ∷ []) of.says (dnats net router.id) own of.in_rules of.of_stage)
  taker row (OfPort of) takes = by_port row of takes
  taker row (OfRoute of) takes = absurd (false≢true (ap is_of_routes (sym of.of_stage) ∙ route_stage (static_route_input net of.route) of.says of.in_rules))
  taker row (OfBinding of) takes = absurd (false≢true (ap is_of_hosts (sym of.of_stage) ∙ binding_stage (binding_input of.port of.binding) of.says of.in_rules))
  taker row (OfNeighbour of) takes = absurd (false≢true (ap is_of_hosts (sym of.of_stage) ∙ neighbour_stage (neighbour_input net of.port of.other) of.says of.in_rules))
  taker row (OfTranslation of) takes = absurd (false≢true (translation_stage net router.id LrInAdmission row of))

  -- ---- the rows

  own_row : (says : Rule) → Contains (many_rule ∷ last_rule ∷ []) says → says.stage ≡ LrInAdmission → holds (names net) packet says.matching ≡ true → (l : Layer StageEnd) → says.priority ≡ l.priority → HasRow net router flight on LrInAdmission l
  own_row says there of_stage takes l priority =
      record {
        row = row_of (unit_of_datapath router.id) says;
        among = rows-router_in net router says on.among (from_rules_at LrInAdmission router_in_rules (many_rule ∷ last_rule ∷ []) says of_input there);
        of_dp = refl;
        of_stage = of_stage;
        takes = takes;
        priority = priority;
      }

  port_row : (port.enabled && for_it) ≡ true → HasRow net router flight on LrInAdmission port_layer
  port_row test =
      let parts = and_parts port.enabled for_it test in
      let says = admitting_rule (port_in_input net port) in
      record {
        row = row_of (unit_of port.router port.id) says;
        among = rows-port_in net port says its.0 (admits-from net port (port_has_net net on.sound port its.0) parts.0);
        of_dp = its.1;
        of_stage = refl;
        takes = port_match port ∙ and_from (holds (names net) packet (is_port Inport port.name)) for_it (at_port-from net on.sound port its.0 packet Inport refl at) parts.1;
        priority = refl;
      }

  rows_are : (l : Layer StageEnd) → Contains layers l → l.test ≡ true → HasRow net router flight on LrInAdmission l
  rows_are =
      have_rows net router flight on LrInAdmission layers (
        (λ test. own_row many_rule (one_first many_rule (last_rule ∷ []) many_rule refl) refl test many_layer refl),
        (
          port_row,
          ((λ test. own_row last_rule (one_later many_rule (last_rule ∷ []) last_rule (one_first last_rule [] last_rule refl)) refl refl last_layer refl), tt),
        ),
      )

  by_layers : step (flows_at net router.id) LrInAdmission flight ≡ admitted port flight
  by_layers =
      step_by_layers net router flight on LrInAdmission layers dropped ((lit< tt, (lit< tt, tt)), ((lit< tt, tt), (tt, tt))) taker rows_are (some many (port.enabled && for_it))
      ∙ either_end dropped goes many port.enabled for_it
    where
      some : (a b : Bool) → (a || (b || (true || false))) ≡ true
      some true b = refl
      some false true = refl
      some false false = refl

pub admits : Admits
admits net router flight on port its at = by_layers net router flight on port its at
