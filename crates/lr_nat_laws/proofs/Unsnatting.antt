-- A reply to an external address of a router gets its destination back.
use Rattle.std.proofs.Common.{◌≡◌, Bool, true, false, cond, List, [], ◌∷◌, eqb, sym, ap, refl, ◌∙◌, lit<}
use Rattle.std.specs.Prelude.{◌&&◌, ◌||◌}
use Rattle.std.specs.List.{list_any}
use Rattle.std.proofs.lemmas.Bool.{false≢true, and_from, and_parts, eq-eqb, eqb-true}
use Rattle.nv_base.specs.declared.field.Field.TheVariants.{Ip4Dst}
use Rattle.pkt_core.specs.Packet.{Values, value}
use Rattle.pkt_core.specs.Prerequisite.{is_ip4}
use Rattle.ct_core.specs.Look.{look}
use Rattle.ct_core.specs.Translation.{back}
use Rattle.ct_core.specs.declared.zone.Zone.TheVariants.{Snat}
use Rattle.expr_eval.specs.MatchMeaning.{holds}
use Rattle.nb_records.specs.declared.router.Nat.{Nat}
use Rattle.nb_records.specs.declared.router.Router.{Router}
use Rattle.nb_model.specs.Names.{names}
use Rattle.nb_model.specs.Network.{Network}
use Rattle.nb_router.specs.Vocabulary.{dnats, nats_of}
use Rattle.sb_model.specs.Make.{goes_on}
use Rattle.sb_model.specs.Stage.{all_stages, next_stage, stage_at, stage_place}
use Rattle.sb_model.specs.declared.row.Row.{Row}
use Rattle.sb_model.specs.declared.stage.Stage.{Stage}
use Rattle.sb_model.specs.declared.stage.Stage.TheVariants.{LrInUnsnat, LrInDefrag}
use Rattle.net_router.specs.Translation.{changes_source, unsnatted}
use Rattle.net_rows.specs.Build.{vip_input}
use Rattle.net_rows.specs.Unit.{row_of, unit_of, unit_of_datapath}
use Rattle.net_rows.specs.declared.rule.Rule.{Rule}
use Rattle.net_rows.proofs.Elements.{any_from, any_gives, one_first, one_later}
use Rattle.lr_rows.specs.Nat.{router_nat_rules}
use Rattle.lr_rows.specs.declared.inputs.NatRuleInput.{NatRuleInput}
use Rattle.lr_units.specs.Units.{nat_rule_input, vip_addr_input}
use Rattle.ls_laws.proofs.PassingStages.{passing}
use Rattle.ls_laws.proofs.RuleStages.{from_rules_at, rules_at, the_only}
use Rattle.tr_pipe.specs.Machine.{StageEnd, run_actions, step}
use Rattle.tr_pipe.specs.Machine.StageEnd.{On}
use Rattle.tr_pipe.specs.Tracking.{Flight, with_packet}
use Rattle.lr_laws.specs.Steps.{IsOnRouter, flows_at}
use Rattle.lr_nat_laws.specs.Steps.{Unsnats}
use Rattle.lr_laws.proofs.Layers.{IsOfLayer, Layer, layer}
use Rattle.lr_laws.proofs.OwnRules.{own_rule-gives}
use Rattle.lr_laws.proofs.StageLayers.{does, HasRow, have_rows, step_by_layers}
use Rattle.lr_laws.proofs.Tables.{IsNatRule, IsOwnRule, IsRule, Translates, nat_of, own_rules, rows-nat}
use Rattle.lr_laws.proofs.Tables.Translates.{OfNat, OfVip, OfVipAddr}
use Rattle.lr_laws.proofs.TranslationRules.{IsNatSays, back-from, back_rule, nat_rule-gives, vip_addr_rule-gives, vip_rule-gives}
use Rattle.lr_laws.proofs.TranslationRules.IsNatSays.{Answers, GivesBack, Hides, Redirects}
use Rattle.lr_nat_laws.proofs.TranslationStages.{by_origin, goes_to, own_row}

-- the rule of a router
abbrev last_rule : Rule
last_rule = passing LrInUnsnat

of_router : (dnats : Bool) → rules_at LrInUnsnat (own_rules dnats) ≡ last_rule ∷ []
unfolding router_nat_rules stage_place
of_router true = refl
of_router false = refl

of_translation : (dnats : Bool) → rules_at LrInUnsnat (router_nat_rules (record { dnats = dnats })) ≡ last_rule ∷ []
unfolding router_nat_rules stage_place
of_translation true = refl
of_translation false = refl

-- the stage
abbrev is_here : Stage → Bool
is_here LrInUnsnat = true
is_here _ = false

module _ (net : Network) (router : Router) (flight : Flight) (on : IsOnRouter net router flight.packet) (ip4 : is_ip4 flight.packet ≡ true) where
  abbrev packet : Values
  packet = flight.packet

  -- the packet with its destination given back
  abbrev restored : Values
  restored = back flight.state.conns packet (look flight.state.conns (Snat router.id) packet)

  -- a rule changes sources to the address to which the packet is
  abbrev answers : Nat → Bool
  answers nat = changes_source nat.kind && eqb nat.external.0 (value packet Ip4Dst)

  abbrev back_layer : Layer StageEnd
  back_layer = layer 90 (list_any answers (nats_of net router.id)) (On LrInDefrag (with_packet flight restored))

  abbrev last_layer : Layer StageEnd
  last_layer = layer 0 true (On LrInDefrag flight)

  abbrev layers : List (Layer StageEnd)
  layers = back_layer ∷ last_layer ∷ []

  abbrev OfLayer : Row → Type 0
  OfLayer row = IsOfLayer (does net router flight on LrInUnsnat) layers row

  -- what the rules do
  it_gives_back : (input : NatRuleInput) → run_actions (names net) router.id LrInUnsnat (back_rule input).actions flight ≡ On LrInDefrag (with_packet flight restored)
  unfolding next_stage stage_at all_stages
  it_gives_back input = ap (λ b. On LrInDefrag (cond b (with_packet flight restored) flight)) ip4

  it_goes : run_actions (names net) router.id LrInUnsnat goes_on flight ≡ On LrInDefrag flight
  unfolding next_stage stage_at all_stages
  it_goes = goes_to net router flight on LrInUnsnat LrInDefrag refl

  -- what they ask for
  back_match : (input : NatRuleInput) → holds (names net) packet (back_rule input).matching ≡ eqb (value packet Ip4Dst) input.external.0
  back_match input = ap (λ b. b && eqb (value packet Ip4Dst) input.external.0) ip4

  -- ---- the rows

  by_own : (row : Row) → IsOwnRule net router.id LrInUnsnat row → OfLayer row
  by_own row of =
      let is = the_only last_rule of.says (own_rule-gives LrInUnsnat (last_rule ∷ []) of.says (dnats net router.id) of_router of.in_rules of.of_stage) in
      let row_is : row ≡ row_of (unit_of_datapath router.id) last_rule = of.is ∙ ap (row_of (unit_of_datapath router.id)) is in
      record {
        layer = last_layer;
        among = one_later back_layer (last_layer ∷ []) last_layer (one_first last_layer [] last_layer refl);
        holds = refl;
        priority = ap (λ (r : Row). r.priority) row_is;
        done = ap (does net router flight on LrInUnsnat) row_is ∙ it_goes;
      }

  by_nat : (row : Row) → IsNatRule net router.id LrInUnsnat row → holds (names net) packet row.matching ≡ true → OfLayer row
  by_nat row of takes = by (nat_rule-gives input of.says of.in_rules)
    where
      input : NatRuleInput
      input = nat_rule_input of.nat

      elsewhere : (other : Rule) → of.says ≡ other → is_here other.stage ≡ false → OfLayer row
      elsewhere other is apart = absurd (false≢true (sym apart ∙ ap (λ (r : Rule). is_here r.stage) (sym is) ∙ ap is_here of.of_stage))

      by : IsNatSays (nat_rule_input of.nat) of.says → OfLayer row
      by (Answers is) = elsewhere _ is refl
      by (GivesBack changes is) =
          let row_is : row ≡ row_of (unit_of router.id of.nat.id) (back_rule (nat_rule_input of.nat)) = of.is ∙ ap (row_of (unit_of router.id of.nat.id)) is in
          let number = eqb-true (value packet Ip4Dst) of.nat.external.0 (sym (back_match (nat_rule_input of.nat)) ∙ (sym (ap (λ (r : Row). holds (names net) packet r.matching) row_is) ∙ takes)) in
          record {
            layer = back_layer;
            among = one_first back_layer (last_layer ∷ []) back_layer refl;
            holds = any_from answers (nats_of net router.id) of.nat of.among (and_from (changes_source of.nat.kind) (eqb of.nat.external.0 (value packet Ip4Dst)) changes (eq-eqb of.nat.external.0 (value packet Ip4Dst) (sym number)));
            priority = ap (λ (r : Row). r.priority) row_is;
            done = ap (does net router flight on LrInUnsnat) row_is ∙ it_gives_back (nat_rule_input of.nat);
          }
      by (Hides changes is) = elsewhere _ is refl
      by (Redirects changes is) = elsewhere _ is refl

  by_translation : (row : Row) → Translates net router.id LrInUnsnat row → holds (names net) packet row.matching ≡ true → OfLayer row
  by_translation row (OfNat of) takes = by_nat row of takes
  by_translation row (OfVip of) takes =
      absurd (false≢true (ap (λ (r : Rule). is_here r.stage) (sym (vip_rule-gives (vip_input of.lb of.vip) of.says of.in_rules).is) ∙ ap is_here of.of_stage))
  by_translation row (OfVipAddr of) takes =
      absurd (false≢true (ap (λ (r : Rule). is_here r.stage) (sym (vip_addr_rule-gives (vip_addr_input of.addr) of.says of.in_rules)) ∙ ap is_here of.of_stage))

  taker : (row : Row) → IsRule net router.id LrInUnsnat row → holds (names net) packet row.matching ≡ true → OfLayer row
  taker row of takes = by_origin net router flight on LrInUnsnat (record { port = refl; route = refl; host = refl }) row (by_own row) (λ translates. by_translation row translates takes) of

  back_row : list_any answers (nats_of net router.id) ≡ true → HasRow net router flight on LrInUnsnat back_layer
  back_row test =
      let found = any_gives answers (nats_of net router.id) test in
      let its = nat_of net router.id found.0 found.1 in
      let parts = and_parts (changes_source found.0.kind) (eqb found.0.external.0 (value packet Ip4Dst)) found.2 in
      let number = eqb-true found.0.external.0 (value packet Ip4Dst) parts.1 in
      record {
        row = row_of (unit_of found.0.router found.0.id) (back_rule (nat_rule_input found.0));
        among = rows-nat net found.0 (back_rule (nat_rule_input found.0)) its.0 (back-from (nat_rule_input found.0) parts.0);
        of_dp = its.1;
        of_stage = refl;
        takes = back_match (nat_rule_input found.0) ∙ eq-eqb (value packet Ip4Dst) found.0.external.0 (sym number);
        priority = refl;
      }

  last_row : HasRow net router flight on LrInUnsnat last_layer
  last_row =
      own_row net router flight on LrInUnsnat last_rule
      (from_rules_at LrInUnsnat (router_nat_rules (record { dnats = dnats net router.id })) (last_rule ∷ []) last_rule (of_translation (dnats net router.id)) (one_first last_rule [] last_rule refl)) refl refl last_layer refl

  by_layers : step (flows_at net router.id) LrInUnsnat flight ≡ On LrInDefrag (with_packet flight (unsnatted net router.id flight.state.conns packet))
  by_layers =
      step_by_layers net router flight on LrInUnsnat layers (On LrInDefrag flight) ((lit< tt, tt), (tt, tt)) taker (have_rows net router flight on LrInUnsnat layers (back_row, ((λ test. last_row), tt)))
      (some (list_any answers (nats_of net router.id)))
      ∙ end_is (list_any answers (nats_of net router.id))
    where
      some : (a : Bool) → (a || (true || false)) ≡ true
      some true = refl
      some false = refl

      end_is : (a : Bool) → cond a (On LrInDefrag (with_packet flight restored)) (cond true (On LrInDefrag flight) (On LrInDefrag flight)) ≡ On LrInDefrag (with_packet flight (cond a restored packet))
      end_is true = refl
      end_is false = refl

pub unsnats : Unsnats
unsnats net router flight on ip4 = by_layers net router flight on ip4
