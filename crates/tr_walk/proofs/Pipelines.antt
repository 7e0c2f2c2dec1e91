-- The pipelines of a switch do its parts.
use Rattle.std.proofs.Common.{◌≡◌, ℕ, suc, Bool, true, false, cond, List, [], ◌∷◌, sym, ap, refl, subst, ◌∙◌}
use Rattle.std.specs.Prelude.{Option, Some, None, not, ◌&&◌}
use Rattle.std.specs.List.{Contains}
use Rattle.std.proofs.lemmas.Option.{none-some}
use Rattle.nv_base.specs.declared.object.ObjId.{ObjId}
use Rattle.nv_base.specs.declared.field.Field.TheVariants.{Inport, Outport, EthDst, ArpTpa}
use Rattle.nv_base.specs.Object.{flood_number, unknown_number}
use Rattle.pkt_core.specs.declared.tuple.Tuple.{Tuple}
use Rattle.pkt_core.specs.Packet.{Values, IsPacket, value}
use Rattle.pkt_core.specs.Prerequisite.{is_ip4}
use Rattle.pkt_core.specs.Replies.{arp_reply}
use Rattle.ct_core.specs.declared.look.Look.{Look}
use Rattle.ct_core.specs.declared.look.Look.TheVariants.{Invalid, New, Found}
use Rattle.ct_core.specs.State.{State}
use Rattle.nb_records.specs.declared.acl.Way.{Way}
use Rattle.nb_records.specs.declared.balancer.Lb.{Lb}
use Rattle.nb_records.specs.declared.acl.Way.TheVariants.{From, To}
use Rattle.nb_records.specs.declared.switch.Port.{Port}
use Rattle.nb_records.specs.declared.switch.Switch.{Switch}
use Rattle.nb_model.specs.Applies.{lbs_on, tracks}
use Rattle.nb_model.specs.Network.{Network}
use Rattle.nb_model.specs.Sound.{IsSound}
use Rattle.sb_model.specs.declared.stage.DatapathKind.TheVariants as kinds
use Rattle.sb_model.specs.declared.stage.Pipeline.TheVariants.{Ingress, Egress}
use Rattle.sb_model.specs.declared.stage.Stage.{Stage}
use Rattle.sb_model.specs.declared.stage.Stage.TheVariants.{LsInCheckPortSec, LsInPreAcl, LsInLb, LsInStateful, LsInArpRsp, LsInL2Lkup, LsInL2Unknown, LsOutPreAcl, LsOutCheckPortSec}
use Rattle.sb_model.specs.Stage.{all_stages, last_table, stage_at}
use Rattle.net_meaning.specs.Address.{is_multicast}
use Rattle.net_meaning.specs.Balancing.{balanced_tuple}
use Rattle.net_meaning.specs.Guards.{is_let_in, is_let_out}
use Rattle.net_meaning.specs.Places.{datapath_at}
use Rattle.net_meaning.specs.Switches as means
use Rattle.net_meaning.specs.Switches.{Did, after_acls, mac_with, is_answering, answering, port_for, open_ports, unknown_ports, to_unknown, to_port, sent_on, turned_back, is_request, asked, arriving_at, leaving_by, leaving_late, let_out}
use Rattle.net_meaning.specs.Tracked.{ruled, to_backend}
use Rattle.net_meaning.specs.Walk.{Passed, carried}
use Rattle.net_meaning.specs.Walk.Passed.{GoesOn, Drops}
use Rattle.net_meaning.specs.Walk.Target.{OnePort, Ports}
use Rattle.net_meaning.specs.declared.cause.Cause.TheVariants.{PortSec}
use Rattle.tr_stage.specs.declared.outcome.Outcome.{Outcome}
use Rattle.tr_stage.specs.declared.outcome.Outcome.TheVariants.{Leave, Deliver, Drop}
use Rattle.tr_stage.specs.Machine as packets
use Rattle.tr_stage.specs.Machine.{Flows, kind_of}
use Rattle.tr_pipe.specs.Machine.{PipelineRun, bound, ended, go_on, run_from, run_pipeline, step}
use Rattle.tr_pipe.specs.Machine.StageEnd.{On}
use Rattle.tr_pipe.specs.Tracking.{Flight, coming, zone_of}
use Rattle.tr_pipe.proofs.Steps.{pipeline_begins}
use Rattle.ls_laws.specs.Steps as laws
use Rattle.ls_laws.specs.Steps.{IsOn, IsPortOf, answered_for, flows_at, found_at, leaves_by, sent_back, sent_unknown}
use Rattle.ls_laws.proofs.AclEval.{decides_in, decides_out}
use Rattle.ls_laws.proofs.ArpReplies.{answers_requests}
use Rattle.ls_laws.proofs.LookUp.{looks_up, finds_none}
use Rattle.ls_laws.proofs.Packets.{set_value}
use Rattle.ls_laws.proofs.PassingStages.{passes-LsInPreAcl, passes-LsInPreStateful, passes-LsInLb, passes-LsInStateful, passes-LsOutPreAcl, passes-LsOutPreStateful, passes-LsOutStateful}
use Rattle.ls_laws.proofs.PortSecurity.{checks_in, checks_out}
use Rattle.ls_laws.proofs.Tables.{attached_tracks}
use Rattle.net_rows.proofs.Elements.{one_first}
use Rattle.ls_ct_laws.specs.Tracking.{IsNoted, balanced, kept_no_more}
use Rattle.ls_ct_laws.proofs.Noted.{AreAlike}
use Rattle.ls_ct_laws.proofs.Onward.{same_asked, same_out}
use Rattle.ls_ct_laws.proofs.PlainSteps.{plain_stage_of, plain_where_untracked}
use Rattle.ls_ct_laws.proofs.RuleRuns.{asks_for_connections}
use Rattle.ls_ct_laws.proofs.TrackedAcls.{rules_of}
use Rattle.ls_ct_laws.proofs.Connections.{asks_of, looks_up_of, keeps_of}
use Rattle.ls_ct_laws.proofs.Balancing.{balances_new}
use Rattle.tr_walk.specs.Machine.{numbered, target_of, after_ingress, after_egress, late_table}
use Rattle.tr_walk.specs.Refined.{IsFresh}
use Rattle.tr_router.specs.Parts.{IsState}
use Rattle.tr_walk.proofs.AclParts.{Does, Follows, LawsElsewhere, LawsWhereTracked, after_step, acl_part, does_same, goes_to}
use Rattle.tr_walk.proofs.Carried.{carried_outport, carried_back, back_outport}
use Rattle.tr_walk.proofs.Formed.{replied, replied_inport}
use Rattle.tr_walk.proofs.Kept.{mac_fits}
use Rattle.tr_walk.proofs.Datapaths.{late_of_switch, port_on_switch, switch_there}
use Rattle.tr_walk.proofs.NetworkPorts.{find_gives, goes_to_port, its_port, on_switch}

-- what is done, and the state that is left
abbrev done : Passed → State → Did
done passed left = record { passed = passed; state = left }

module _ (net : Network) (sound : IsSound net) (port : Port) (there : Contains net.ports port) where
  of : (switch : Switch) × Contains net.switches switch × (switch.id ≡ port.switch)
  of = switch_there net port sound there

  abbrev dp : ObjId
  dp = port.switch

  abbrev flows : Flows
  flows = flows_at net dp

  its_port_of : IsPortOf net of.0 port
  its_port_of = (there, sym of.2)

  of_switch : kind_of flows ≡ kinds.Switch
  of_switch = port_on_switch net sound port there

  last_is : late_table net dp ≡ last_table kinds.Switch
  last_is = late_of_switch net sound port there

  pub at_dp : datapath_at net port.id ≡ dp
  at_dp = on_switch net sound port there

  -- a packet to the number of a port goes to that port
  to_one_port : (q : Port) → Contains net.ports q → target_of net dp q.id.0 ≡ OnePort q.id
  to_one_port q at = goes_to_port net sound dp q.id (its_port net q at)

  on : (packet : Values) → IsPacket packet → IsOn net of.0 packet
  on packet formed = record { sound = sound; among = of.1; formed = formed }

  -- what the law of a stage that asks for no connection says, said of the port's own switch
  here : (flight : Flight) (stage : Stage) (end : ObjId → packets.StageEnd) → asks_for_connections stage ≡ false → laws.Does net of.0 stage flight.packet (end of.0.id) → step flows stage flight ≡ ended flight (end dp)
  here flight stage end asks_none does =
      subst (λ (d : ObjId). step (flows_at net d) stage flight ≡ ended flight (end d)) of.2 (plain_stage_of net sound of.0 of.1 stage asks_none flight ∙ ap (ended flight) does)

  -- ---- the stages of ACLs and of connections

  module _ (switch : Switch) (among : Contains net.switches switch) where
    on_it : (packet : Values) → IsPacket packet → IsOn net switch packet
    on_it packet formed = record { sound = sound; among = among; formed = formed }

    -- where the switch tracks
    tracking_laws : IsPortOf net switch port → tracks net switch.id ≡ true → (way : Way) → LawsWhereTracked net switch.id way port
    tracking_laws own is way = record {
      pre_acl_is = λ flight formed at. asks_of way net switch flight port own at (on_it flight.packet formed) is;
      pre_stateful_is = λ flight formed. looks_up_of way net switch flight (on_it flight.packet formed) is;
      acl_eval_is = λ flight formed noted. rules_of way net switch flight noted (on_it flight.packet formed) is;
      stateful_is = λ flight formed. keeps_of way net switch flight (on_it flight.packet formed) is;
    }

    -- where it does not
    elsewhere : tracks net switch.id ≡ false → (stage : Stage) (flight : Flight) (end : packets.StageEnd) → laws.Does net switch stage flight.packet end → step (flows_at net switch.id) stage flight ≡ ended flight end
    elsewhere is stage flight end does = plain_where_untracked net sound switch among stage is flight ∙ ap (ended flight) does

    other_laws : tracks net switch.id ≡ false → (way : Way) → LawsElsewhere net switch.id way
    other_laws is From = record {
      pre_acl_is = λ flight formed. elsewhere is _ flight _ (passes-LsInPreAcl net switch flight.packet (on_it flight.packet formed) is);
      pre_stateful_is = λ flight formed. elsewhere is _ flight _ (passes-LsInPreStateful net switch flight.packet (on_it flight.packet formed) is);
      acl_eval_is = λ flight formed. elsewhere is _ flight _ (decides_in net switch flight.packet (on_it flight.packet formed) is);
      stateful_is = λ flight formed. elsewhere is _ flight _ (passes-LsInStateful net switch flight.packet (on_it flight.packet formed) is);
    }
    other_laws is To = record {
      pre_acl_is = λ flight formed. elsewhere is _ flight _ (passes-LsOutPreAcl net switch flight.packet (on_it flight.packet formed) is);
      pre_stateful_is = λ flight formed. elsewhere is _ flight _ (passes-LsOutPreStateful net switch flight.packet (on_it flight.packet formed) is);
      acl_eval_is = λ flight formed. elsewhere is _ flight _ (decides_out net switch flight.packet (on_it flight.packet formed) is);
      stateful_is = λ flight formed. elsewhere is _ flight _ (passes-LsOutStateful net switch flight.packet (on_it flight.packet formed) is);
    }

  where_tracked : (way : Way) → tracks net dp ≡ true → LawsWhereTracked net dp way port
  where_tracked way is = subst (λ (d : ObjId). LawsWhereTracked net d way port) of.2 (tracking_laws of.0 of.1 its_port_of (subst (λ (d : ObjId). tracks net d ≡ true) (sym of.2) is) way)

  where_not : (way : Way) → tracks net dp ≡ false → LawsElsewhere net dp way
  where_not way is = subst (λ (d : ObjId). LawsElsewhere net d way) of.2 (other_laws of.0 of.1 (subst (λ (d : ObjId). tracks net d ≡ false) (sym of.2) is) way)

  -- ---- ingress

  -- what the walk sees of an outcome of ingress
  abbrev seen : Option Outcome → Option Passed
  seen = after_ingress net dp

  module _ (flight : Flight) (formed : IsPacket flight.packet) where
    abbrev packet : Values
    packet = flight.packet

    abbrev does : PipelineRun → Passed → Type 0
    does run passed = Does seen run (done passed flight.state)

    -- a packet that leaves by a number
    leaves_to : (budget number : ℕ) → does (go_on (run_from flows budget) (ended flight (leaves_by packet number))) (GoesOn (target_of net dp number) packet)
    leaves_to budget number = record { passes = rw (set_value packet Outport number formed.count, carried_outport packet number) refl; leaves = refl }

    -- what no port has, with at least one step left; and so on for each stage before
    unknown_is : (more : ℕ) → does (run_from flows (suc more) LsInL2Unknown flight) (to_unknown (unknown_ports net dp) packet)
    unknown_is more =
        after_step seen flows more LsInL2Unknown flight _ (done (to_unknown (unknown_ports net dp) packet) flight.state)
        (here flight LsInL2Unknown (λ d. sent_unknown packet (unknown_ports net d)) refl (finds_none net of.0 packet (on packet formed))) (by (unknown_ports net dp) refl)
      where
        by : (ports : List ObjId) → unknown_ports net dp ≡ ports → does (go_on (run_from flows more) (ended flight (sent_unknown packet ports))) (to_unknown ports packet)
        by [] is = record { passes = refl; leaves = refl }
        by (p ∷ ports) is =
            does_same seen (go_on (run_from flows more) (ended flight (leaves_by packet unknown_number))) (done (GoesOn (target_of net dp unknown_number) packet) flight.state) (done (GoesOn (Ports (p ∷ ports)) packet) flight.state)
            (ap (λ all. GoesOn (Ports all) (carried packet)) is) refl (leaves_to more unknown_number)

    -- the lookup
    lookup_is : (more : ℕ) → does (run_from flows (suc (suc more)) LsInL2Lkup flight) (sent_on net dp packet)
    lookup_is more =
        after_step seen flows (suc more) LsInL2Lkup flight _ (done (sent_on net dp packet) flight.state)
        (here flight LsInL2Lkup (λ d. cond (is_multicast (value packet EthDst)) (leaves_by packet flood_number) (found_at packet (port_for net d (value packet EthDst)))) refl (looks_up net of.0 packet (on packet formed)))
        (by (is_multicast (value packet EthDst)) (port_for net dp (value packet EthDst)) refl)
      where
        by : (many : Bool) (found : Option Port) → port_for net dp (value packet EthDst) ≡ found
            → does (go_on (run_from flows (suc more)) (ended flight (cond many (leaves_by packet flood_number) (found_at packet found)))) (cond many (GoesOn (Ports (open_ports net dp)) packet) (to_port found (unknown_ports net dp) packet))
        by true found is = leaves_to (suc more) flood_number
        by false None is = unknown_is more
        by false (Some q) is =
            does_same seen (go_on (run_from flows (suc more)) (ended flight (leaves_by packet q.id.0))) (done (GoesOn (target_of net dp q.id.0) packet) flight.state) (done (GoesOn (OnePort q.id) packet) flight.state)
            (ap (λ target. GoesOn target (carried packet)) (to_one_port q (find_gives _ net.ports q is).0)) refl (leaves_to (suc more) q.id.0)

    -- ARP replies
    module _ (from : value packet Inport ≡ port.id.0) where
      -- a packet that goes back by the port that it came in by
      goes_back : (budget : ℕ) (k : Values) → IsPacket k → value k Inport ≡ value packet Inport
          → does (go_on (run_from flows budget) (ended flight (packets.StageEnd.Ends (Some (Leave (sent_back k) 0))))) (GoesOn (OnePort port.id) (turned_back k))
      goes_back budget k is same_port = record {
        passes = rw (back_outport k is ∙ same_port ∙ from, carried_back k is) (ap (λ target. Some (GoesOn target (carried (turned_back k)))) (to_one_port port there));
        leaves = refl;
      }

      arp_is : (more : ℕ) → does (run_from flows (suc (suc (suc more))) LsInArpRsp flight) (asked net port packet)
      arp_is more =
          after_step seen flows (suc (suc more)) LsInArpRsp flight _ (done (asked net port packet) flight.state)
          (here flight LsInArpRsp (λ d. cond (is_request packet && not (is_answering d (value packet ArpTpa) port)) (answered_for packet (answering net d (value packet ArpTpa))) (packets.StageEnd.On LsInL2Lkup packet)) refl
          (answers_requests net of.0 packet (on packet formed) port its_port_of from))
          (by (is_request packet && not (is_answering dp (value packet ArpTpa) port)) (answering net dp (value packet ArpTpa)) refl)
        where
          by : (asks : Bool) (found : Option Port) → answering net dp (value packet ArpTpa) ≡ found
              → does (go_on (run_from flows (suc (suc more))) (ended flight (cond asks (answered_for packet found) (packets.StageEnd.On LsInL2Lkup packet)))) (cond asks (means.answered_for net port packet found) (sent_on net dp packet))
          by true None is = lookup_is more
          by true (Some q) is =
              let mac = mac_with (value packet ArpTpa) q.addresses in
              let fits = mac_fits net sound q (find_gives _ net.ports q is).0 (value packet ArpTpa) in
              goes_back (suc (suc more)) (arp_reply packet mac) (replied packet mac formed fits) (replied_inport packet mac)
          by false found is = lookup_is more

  -- the stages after those of connections, for a packet in which more is noted, with at least three steps left
  rest_in : (more : ℕ) (packet : Values) (flight : Flight) → value packet Inport ≡ port.id.0 → IsPacket flight.packet → AreAlike flight.packet packet
      → Does seen (run_from flows (suc (suc (suc more))) LsInArpRsp flight) (done (asked net port packet) flight.state)
  rest_in more packet flight from is alike =
      does_same seen (run_from flows (suc (suc (suc more))) LsInArpRsp flight) (done (asked net port flight.packet) flight.state) (done (asked net port packet) flight.state) (same_asked flight.packet packet alike net port) refl
      (arp_is flight is (alike.same Inport refl ∙ from) more)

  -- what follows the step of load balancing, where the switch tracks connections
  balanced_is : tracks net dp ≡ true → (flight : Flight) → IsPacket flight.packet → IsNoted flight.look flight.packet
      → step flows LsInLb flight ≡ cond (is_ip4 flight.packet) (balanced (balanced_tuple (lbs_on net dp) flight.packet) flight flight.look) (On LsInStateful flight)
  balanced_is tracking flight is noted =
      subst (λ (d : ObjId). tracks net d ≡ true → step (flows_at net d) LsInLb flight ≡ cond (is_ip4 flight.packet) (balanced (balanced_tuple (lbs_on net d) flight.packet) flight flight.look) (On LsInStateful flight)) of.2
      (λ its. balances_new net of.0 flight noted (on flight.packet is) its) tracking

  through_lb : (budget : ℕ) (flight : Flight) (did : Did) → IsPacket flight.packet → IsNoted flight.look flight.packet → goes_to flight.look (to_backend net From dp flight.packet) ≡ None
      → Does seen (run_from flows budget LsInStateful flight) did → Does seen (run_from flows (suc budget) LsInLb flight) did
  through_lb budget flight did is noted none rest = by (tracks net dp) refl
    where
      goes_by : (t : Option Tuple) (found : Option Look) → goes_to found t ≡ None → balanced t flight found ≡ On LsInStateful flight
      goes_by (Some t) (Some New) some = absurd (none-some t (sym some))
      goes_by None (Some New) none_at = refl
      goes_by (Some t) None none_at = refl
      goes_by None None none_at = refl
      goes_by (Some t) (Some Invalid) none_at = refl
      goes_by None (Some Invalid) none_at = refl
      goes_by (Some t) (Some (Found place side related blocked)) none_at = refl
      goes_by None (Some (Found place side related blocked)) none_at = refl

      passes : (b : Bool) → cond b (balanced (balanced_tuple (lbs_on net dp) flight.packet) flight flight.look) (On LsInStateful flight) ≡ On LsInStateful flight
      passes true = goes_by (balanced_tuple (lbs_on net dp) flight.packet) flight.look none
      passes false = refl

      by : (t : Bool) → tracks net dp ≡ t → Does seen (run_from flows (suc budget) LsInLb flight) did
      by true tracking = after_step seen flows budget LsInLb flight (On LsInStateful flight) did (balanced_is tracking flight is noted ∙ passes (is_ip4 flight.packet)) rest
      by false untracked =
          after_step seen flows budget LsInLb flight (On LsInStateful flight) did
          (subst (λ (d : ObjId). tracks net d ≡ false → step (flows_at net d) LsInLb flight ≡ On LsInStateful flight) of.2
          (λ its. elsewhere of.0 of.1 its LsInLb flight (packets.StageEnd.On LsInStateful flight.packet) (passes-LsInLb net of.0 flight.packet (on flight.packet is) its)) untracked) rest

  binding_lb : (budget : ℕ) (flight : Flight) (t : Tuple) (did : Did) → IsPacket flight.packet → IsNoted flight.look flight.packet → is_ip4 flight.packet ≡ true → flight.look ≡ Some New → to_backend net From dp flight.packet ≡ Some t
      → Does seen (go_on (run_from flows budget) (bound (Some LsInStateful) (zone_of Ingress flight.packet) t (kept_no_more flight))) did → Does seen (run_from flows (suc budget) LsInLb flight) did
  binding_lb budget flight t did is noted ip4 new to rest =
      after_step seen flows budget LsInLb flight (bound (Some LsInStateful) (zone_of Ingress flight.packet) t (kept_no_more flight)) did
      (balanced_is (by (tracks net dp) refl) flight is noted ∙ ap (λ b. cond b (balanced (balanced_tuple (lbs_on net dp) flight.packet) flight flight.look) (On LsInStateful flight)) ip4
      ∙ ap (λ tuple. balanced tuple flight flight.look) to ∙ ap (balanced (Some t) flight) new) rest
    where
      -- a switch that balances load tracks connections
      by : (b : Bool) → tracks net dp ≡ b → tracks net dp ≡ true
      by true tracking = tracking
      by false untracked = from (lbs_on net dp) refl
        where
          from : (lbs : List Lb) → lbs_on net dp ≡ lbs → tracks net dp ≡ true
          from [] none_on = absurd (none-some t (sym (ap (λ lbs. balanced_tuple lbs flight.packet) none_on) ∙ to))
          from (lb ∷ lbs) some_on = attached_tracks net dp lb (subst (λ all. Contains all lb) (sym some_on) (one_first lb lbs lb refl))

  follows_in : (more : ℕ) → Follows net sound port last_is From (asked net port) (suc (suc (suc more))) (suc (suc (suc (suc (suc more)))))
  follows_in more = record {
    rest = λ packet flight from is alike. rest_in more packet flight from is alike;
    through = through_lb (suc (suc (suc (suc more))));
    binding = binding_lb (suc (suc (suc (suc more))));
  }

  module _ (packet : Values) (state : State) (are : IsState state) (formed : IsPacket packet) (fresh : IsFresh packet) (from : value packet Inport ≡ port.id.0) where
    begins_in : run_pipeline flows Ingress 0 packet state ≡ run_from flows 128 LsInCheckPortSec (coming packet state)
    unfolding stage_at all_stages
    begins_in = pipeline_begins flows Ingress 0 packet state LsInCheckPortSec (ap (λ kind. stage_at kind Ingress 0) of_switch)

    pub ingress_is : Does seen (run_pipeline flows Ingress 0 packet state) (arriving_at net port packet state)
    ingress_is =
        subst (λ run. Does seen run (arriving_at net port packet state)) (sym begins_in)
        (after_step seen flows 127 LsInCheckPortSec (coming packet state) _ (arriving_at net port packet state)
        (here (coming packet state) LsInCheckPortSec (λ d. cond (is_let_in port packet) (packets.StageEnd.On LsInPreAcl packet) (packets.StageEnd.Ends (Some (Drop PortSec)))) refl (checks_in net of.0 packet (on packet formed) port its_port_of from))
        (by (is_let_in port packet)))
      where
        by : (b : Bool) → Does seen (go_on (run_from flows 127) (ended (coming packet state) (cond b (packets.StageEnd.On LsInPreAcl packet) (packets.StageEnd.Ends (Some (Drop PortSec))))))
            (cond b (after_acls (ruled net From port packet state) (asked net port)) (done (Drops PortSec) state))
        by true = acl_part net sound port last_is From (asked net port) 122 124 (follows_in 119) packet state formed fresh from are (where_tracked From) (where_not From)
        by false = record { passes = refl; leaves = refl }

  -- ---- egress

  -- and of one of egress
  abbrev seen_out : Option Outcome → Option Passed
  seen_out = after_egress net dp

  -- the last step
  checked_out : (flight : Flight) → IsPacket flight.packet → value flight.packet Outport ≡ port.id.0 → (budget : ℕ) → Does seen_out (run_from flows (suc budget) LsOutCheckPortSec flight) (done (let_out port flight.packet) flight.state)
  checked_out flight is to budget =
      after_step seen_out flows budget LsOutCheckPortSec flight _ (done (let_out port flight.packet) flight.state)
      (here flight LsOutCheckPortSec (λ d. cond (is_let_out port flight.packet) (packets.StageEnd.Ends (Some (Deliver flight.packet))) (packets.StageEnd.Ends (Some (Drop PortSec)))) refl (checks_out net of.0 flight.packet (on flight.packet is) port its_port_of to))
      (by (is_let_out port flight.packet))
    where
      by : (b : Bool) → Does seen_out (go_on (run_from flows budget) (ended flight (cond b (packets.StageEnd.Ends (Some (Deliver flight.packet))) (packets.StageEnd.Ends (Some (Drop PortSec))))))
          (done (cond b (GoesOn (OnePort port.id) flight.packet) (Drops PortSec)) flight.state)
      by true = record { passes = ap (λ n. Some (GoesOn (OnePort (numbered n)) (carried flight.packet))) to; leaves = refl }
      by false = record { passes = refl; leaves = refl }

  rest_out : (more : ℕ) (packet : Values) (flight : Flight) → value packet Outport ≡ port.id.0 → IsPacket flight.packet → AreAlike flight.packet packet
      → Does seen_out (run_from flows (suc more) LsOutCheckPortSec flight) (done (let_out port packet) flight.state)
  rest_out more packet flight to is alike =
      does_same seen_out (run_from flows (suc more) LsOutCheckPortSec flight) (done (let_out port flight.packet) flight.state) (done (let_out port packet) flight.state) (same_out flight.packet packet alike port) refl
      (checked_out flight is (alike.same Outport refl ∙ to) more)

  -- on leaving nothing is balanced
  follows_out : (more : ℕ) → Follows net sound port last_is To (let_out port) (suc more) (suc (suc more))
  follows_out more = record {
    rest = λ packet flight to is alike. rest_out more packet flight to is alike;
    through = λ flight did is noted none rest. rest;
    binding = λ flight t did is noted ip4 new none rest. absurd (none-some t none);
  }

  module _ (packet : Values) (state : State) (formed : IsPacket packet) (to : value packet Outport ≡ port.id.0) where
    begins_out : run_pipeline flows Egress 0 packet state ≡ run_from flows 128 LsOutPreAcl (coming packet state)
    unfolding stage_at all_stages
    begins_out = pipeline_begins flows Egress 0 packet state LsOutPreAcl (ap (λ kind. stage_at kind Egress 0) of_switch)

    begins_late : run_pipeline flows Egress (last_table kinds.Switch) packet state ≡ run_from flows 128 LsOutCheckPortSec (coming packet state)
    unfolding stage_at all_stages
    begins_late = pipeline_begins flows Egress (last_table kinds.Switch) packet state LsOutCheckPortSec (ap (λ kind. stage_at kind Egress (last_table kinds.Switch)) of_switch)

    pub egress_is : IsState state → IsFresh packet → Does seen_out (run_pipeline flows Egress 0 packet state) (leaving_by net port packet state)
    egress_is are fresh =
        subst (λ run. Does seen_out run (leaving_by net port packet state)) (sym begins_out)
        (acl_part net sound port last_is To (let_out port) 124 125 (follows_out 123) packet state formed fresh to are (where_tracked To) (where_not To))

    pub late_is : Does seen_out (run_pipeline flows Egress (last_table kinds.Switch) packet state) (leaving_late port packet state)
    late_is = subst (λ run. Does seen_out run (leaving_late port packet state)) (sym begins_late) (checked_out (coming packet state) formed to 127)
