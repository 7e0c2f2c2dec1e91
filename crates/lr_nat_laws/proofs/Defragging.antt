-- Where a router changes destinations, a packet is looked up on arriving and on leaving.
use Rattle.std.proofs.Common.{◌≡◌, Bool, true, false, cond, List, [], ◌∷◌, sym, ap, refl, ◌∙◌, subst, lit<}
use Rattle.std.specs.Prelude.{◌&&◌, ◌||◌, Some}
use Rattle.std.specs.List.{Contains}
use Rattle.std.proofs.lemmas.Bool.{false≢true, and_from, and_parts}
use Rattle.pkt_core.specs.Packet.{Values}
use Rattle.pkt_core.specs.Prerequisite.{is_ip4}
use Rattle.ct_core.specs.Look.{look}
use Rattle.ct_core.specs.Translation.{back, forth}
use Rattle.ct_core.specs.declared.zone.Zone.TheVariants.{Dnat}
use Rattle.expr_core.specs.declared.predicate.Pred.TheVariants as is
use Rattle.expr_eval.specs.MatchMeaning.{holds}
use Rattle.act_core.specs.declared.step.Step.TheVariants as act
use Rattle.nb_records.specs.declared.router.Router.{Router}
use Rattle.nb_model.specs.Names.{names}
use Rattle.nb_model.specs.Network.{Network}
use Rattle.nb_router.specs.Vocabulary.{dnats}
use Rattle.sb_model.specs.Make.{is_predicate, steps}
use Rattle.sb_model.specs.Stage.{all_stages, next_stage, pipeline_of, stage_at, stage_place}
use Rattle.sb_model.specs.declared.row.Row.{Row}
use Rattle.sb_model.specs.declared.stage.Stage.{Stage}
use Rattle.sb_model.specs.declared.stage.Stage.TheVariants.{LrInDefrag, LrInDnat, LrOutUndnat, LrOutSnat}
use Rattle.net_rows.specs.Unit.{row_of, rule, unit_of_datapath}
use Rattle.net_rows.specs.declared.rule.Rule.{Rule}
use Rattle.net_rows.proofs.Elements.{one_first, one_later}
use Rattle.lr_rows.specs.Nat.{router_nat_rules}
use Rattle.ls_laws.proofs.PassingStages.{passing}
use Rattle.ls_laws.proofs.RuleStages.{among_rules_at, from_rules_at, rules_at}
use Rattle.tr_pipe.specs.Machine.{StageEnd, on_to, run_actions, step}
use Rattle.tr_pipe.specs.Machine.StageEnd.{On}
use Rattle.tr_pipe.specs.Tracking.{Flight}
use Rattle.tr_pipe.specs.Translating.{Change, changed_by, tracked_by, way_of}
use Rattle.lr_laws.specs.Steps.{IsOnRouter, flows_at}
use Rattle.lr_nat_laws.specs.Steps.{Defrags, Undnats}
use Rattle.lr_laws.proofs.InputMatches.{ip4_match}
use Rattle.lr_laws.proofs.Layers.{IsOfLayer, Layer, layer}
use Rattle.lr_laws.proofs.Members.{of_first, of_none}
use Rattle.lr_laws.proofs.OwnRules.{HasNoOther}
use Rattle.lr_laws.proofs.StageLayers.{does, HasRow, have_rows, step_by_layers}
use Rattle.lr_laws.proofs.Tables.{IsOwnRule, IsRule, own_rules}
use Rattle.lr_laws.proofs.TranslationRules.{is_of_translation, translation_stage}
use Rattle.lr_nat_laws.proofs.TranslationStages.{by_origin, goes_to, own_row}

-- the rule by which a packet is looked up
abbrev looking : Stage → Rule
looking stage = rule stage 100 (is_predicate is.Ip4) (steps (act.CtDnat ∷ []))

-- the rules of a router in the stage, which changes destinations or changes none
abbrev its_rules : Stage → Bool → List Rule
its_rules stage dnats = passing stage ∷ cond dnats (looking stage ∷ []) []

-- a stage in which a router has these rules, and nothing else of it has any; what a look-up there makes of a packet
record IsLooking (stage next : Stage) (change : Change) : Type 0 where
  of_router : (dnats : Bool) → rules_at stage (own_rules dnats) ≡ its_rules stage dnats
  of_translation : (dnats : Bool) → rules_at stage (router_nat_rules (record { dnats = dnats })) ≡ its_rules stage dnats
  no_other : HasNoOther stage
  not_translated : is_of_translation stage ≡ false
  follows : next_stage stage ≡ Some next
  way : way_of (pipeline_of stage) ≡ change

module _ (net : Network) (router : Router) (flight : Flight) (on : IsOnRouter net router flight.packet) (stage next : Stage) (change : Change) (of_stage : IsLooking stage next change) where
  abbrev packet : Values
  packet = flight.packet

  abbrev changes : Bool
  changes = dnats net router.id

  -- the packet, looked up
  abbrev found : Flight
  found = tracked_by change (Dnat router.id) flight

  abbrev looking_layer : Layer StageEnd
  looking_layer = layer 100 (changes && is_ip4 packet) (On next found)

  abbrev last_layer : Layer StageEnd
  last_layer = layer 0 true (On next flight)

  abbrev layers : List (Layer StageEnd)
  layers = looking_layer ∷ last_layer ∷ []

  abbrev OfLayer : Row → Type 0
  OfLayer row = IsOfLayer (does net router flight on stage) layers row

  -- what the rule does
  it_looks : run_actions (names net) router.id stage (looking stage).actions flight ≡ On next found
  it_looks = ap (λ s. on_to s (tracked_by (way_of (pipeline_of stage)) (Dnat router.id) flight)) of_stage.follows ∙ ap (λ (way : Change). On next (tracked_by way (Dnat router.id) flight)) of_stage.way

  -- ---- the rows

  by_own : (row : Row) → IsOwnRule net router.id stage row → holds (names net) packet row.matching ≡ true → OfLayer row
  by_own row of takes = of_first (passing stage) (cond changes (looking stage ∷ []) []) of.says last (λ later. by changes refl later) there
    where
      there : Contains (its_rules stage changes) of.says
      there = subst (λ rs. Contains rs of.says) (of_stage.of_router changes) (among_rules_at stage (own_rules changes) of.says of.in_rules of.of_stage)

      row_is : (says : Rule) → of.says ≡ says → row ≡ row_of (unit_of_datapath router.id) says
      row_is says is = of.is ∙ ap (row_of (unit_of_datapath router.id)) is

      last : of.says ≡ passing stage → OfLayer row
      last is =
          record {
            layer = last_layer;
            among = one_later looking_layer (last_layer ∷ []) last_layer (one_first last_layer [] last_layer refl);
            holds = refl;
            priority = ap (λ (r : Row). r.priority) (row_is (passing stage) is);
            done = ap (does net router flight on stage) (row_is (passing stage) is) ∙ goes_to net router flight on stage next of_stage.follows;
          }

      looks : changes ≡ true → of.says ≡ looking stage → OfLayer row
      looks change_some is =
          let is_one = sym (ip4_match (names net) packet on.formed) ∙ (sym (ap (λ (r : Row). holds (names net) packet r.matching) (row_is (looking stage) is)) ∙ takes) in
          record {
            layer = looking_layer;
            among = one_first looking_layer (last_layer ∷ []) looking_layer refl;
            holds = and_from changes (is_ip4 packet) change_some is_one;
            priority = ap (λ (r : Row). r.priority) (row_is (looking stage) is);
            done = ap (does net router flight on stage) (row_is (looking stage) is) ∙ it_looks;
          }

      by : (b : Bool) → changes ≡ b → Contains (cond b (looking stage ∷ []) []) of.says → OfLayer row
      by true is later = of_first (looking stage) [] of.says (looks is) (of_none of.says) later
      by false is later = of_none of.says later

  taker : (row : Row) → IsRule net router.id stage row → holds (names net) packet row.matching ≡ true → OfLayer row
  taker row of takes =
      by_origin net router flight on stage of_stage.no_other row (λ own. by_own row own takes)
      (λ translates. absurd (false≢true (sym of_stage.not_translated ∙ translation_stage net router.id stage row translates))) of

  -- a rule of the router is one of its rules of translation
  own_rule : (says : Rule) → Contains (its_rules stage changes) says → Contains (router_nat_rules (record { dnats = changes })) says
  own_rule says there = from_rules_at stage (router_nat_rules (record { dnats = changes })) (its_rules stage changes) says (of_stage.of_translation changes) there

  looking_row : (changes && is_ip4 packet) ≡ true → HasRow net router flight on stage looking_layer
  looking_row test =
      let parts = and_parts changes (is_ip4 packet) test in
      let there = subst (λ b. Contains (its_rules stage b) (looking stage)) (sym parts.0) (one_later (passing stage) (looking stage ∷ []) (looking stage) (one_first (looking stage) [] (looking stage) refl)) in
      own_row net router flight on stage (looking stage) (own_rule (looking stage) there) refl (ip4_match (names net) packet on.formed ∙ parts.1) looking_layer refl

  last_row : HasRow net router flight on stage last_layer
  last_row =
      own_row net router flight on stage (passing stage)
      (own_rule (passing stage) (one_first (passing stage) (cond changes (looking stage ∷ []) []) (passing stage) refl)) refl refl last_layer refl

  looks_up : step (flows_at net router.id) stage flight ≡ On next (cond changes found flight)
  looks_up =
      step_by_layers net router flight on stage layers (On next flight) ((lit< tt, tt), (tt, tt)) taker (have_rows net router flight on stage layers (looking_row, ((λ test. last_row), tt)))
      (some (changes && is_ip4 packet))
      ∙ end_is changes (is_ip4 packet) refl
    where
      some : (a : Bool) → (a || (true || false)) ≡ true
      some true = refl
      some false = refl

      end_is : (a ip4 : Bool) → is_ip4 packet ≡ ip4 → cond (a && ip4) (On next found) (cond true (On next flight) (On next flight)) ≡ On next (cond a found flight)
      end_is true true is = refl
      end_is true false is = sym (ap (λ b. On next (cond b (changed_by change (look flight.state.conns (Dnat router.id) packet) flight) flight)) is)
      end_is false ip4 is = refl

-- ---- the laws

at_defrag : IsLooking LrInDefrag LrInDnat forth
unfolding router_nat_rules stage_place next_stage stage_at all_stages pipeline_of
at_defrag =
    record {
      of_router = by_router;
      of_translation = by_translation;
      no_other = record { port = refl; route = refl; host = refl };
      not_translated = refl;
      follows = refl;
      way = refl;
    }
  where
    by_router : (dnats : Bool) → rules_at LrInDefrag (own_rules dnats) ≡ its_rules LrInDefrag dnats
    by_router true = refl
    by_router false = refl

    by_translation : (dnats : Bool) → rules_at LrInDefrag (router_nat_rules (record { dnats = dnats })) ≡ its_rules LrInDefrag dnats
    by_translation true = refl
    by_translation false = refl

at_undnat : IsLooking LrOutUndnat LrOutSnat back
unfolding router_nat_rules stage_place next_stage stage_at all_stages pipeline_of
at_undnat =
    record {
      of_router = by_router;
      of_translation = by_translation;
      no_other = record { port = refl; route = refl; host = refl };
      not_translated = refl;
      follows = refl;
      way = refl;
    }
  where
    by_router : (dnats : Bool) → rules_at LrOutUndnat (own_rules dnats) ≡ its_rules LrOutUndnat dnats
    by_router true = refl
    by_router false = refl

    by_translation : (dnats : Bool) → rules_at LrOutUndnat (router_nat_rules (record { dnats = dnats })) ≡ its_rules LrOutUndnat dnats
    by_translation true = refl
    by_translation false = refl

pub defrags : Defrags
defrags net router flight on = looks_up net router flight on LrInDefrag LrInDnat forth at_defrag

pub undnats : Undnats
undnats net router flight on = looks_up net router flight on LrOutUndnat LrOutSnat back at_undnat
