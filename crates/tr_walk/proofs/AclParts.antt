-- The stages of ACLs and of connections do with a packet what the ACLs of a direction do with it, and leave the state that these leave.
use Rattle.std.proofs.Common.{◌≡◌, ℕ, suc, Bool, true, false, cond, sym, ap, refl, subst, ◌∙◌, ◌⊎◌, inl, inr, ◌<◌, ◌^◌, List, lit<}
use Rattle.std.specs.Prelude.{Option, Some, None, option_map, not, ◌&&◌, ◌==◌}
use Rattle.std.proofs.lemmas.Bool.{and_parts}
use Rattle.std.proofs.lemmas.Option.{same_Some, none-some}
use Rattle.nv_base.specs.declared.field.Field.{Field}
use Rattle.nv_base.specs.declared.object.ObjId.{ObjId}
use Rattle.nv_base.specs.declared.field.Field.TheVariants.{Inport, Outport, EthDst, Reg0, CtState, CtMarkBlocked}
use Rattle.pkt_core.specs.declared.tuple.Tuple.{Tuple}
use Rattle.pkt_core.specs.Packet.{Values, IsPacket, value, with_value}
use Rattle.pkt_core.specs.Prerequisite.{is_ip4}
use Rattle.pkt_core.specs.Tuple.{swap, tuple, with_tuple}
use Rattle.pkt_core.specs.Replies.{is_answerable}
use Rattle.ct_core.specs.declared.entry.Entry.{Entry}
use Rattle.ct_core.specs.declared.look.Look.{Look}
use Rattle.ct_core.specs.declared.look.Look.TheVariants.{Invalid, New, Found}
use Rattle.ct_core.specs.declared.look.Side.TheVariants.{Orig, Reply}
use Rattle.ct_core.specs.declared.zone.Zone.{Zone}
use Rattle.ct_core.specs.declared.zone.Zone.TheVariants as zones
use Rattle.ct_core.specs.Changes.{IsTuple, recorded}
use Rattle.ct_core.specs.Look.{flags_of, is_marked, look}
use Rattle.ct_core.specs.State.{State, with_conns}
use Rattle.ct_core.specs.Translation.{begun_as, followed}
use Rattle.expr_core.specs.Width.{bits_of}
use Rattle.expr_core.specs.declared.part.Bits.TheVariants.{Bit}
use Rattle.nb_records.specs.declared.acl.Acl.{Acl}
use Rattle.nb_records.specs.declared.acl.Way.{Way}
use Rattle.nb_records.specs.declared.acl.Way.TheVariants.{From, To}
use Rattle.nb_records.specs.declared.switch.Port.{Port}
use Rattle.nb_model.specs.Applies.{balances, lbs_on, tracks}
use Rattle.nb_model.specs.Belongs.{is_to_router}
use Rattle.nb_model.specs.Network.{Network}
use Rattle.nb_model.specs.Sound.{IsSound}
use Rattle.sb_model.specs.declared.stage.DatapathKind.TheVariants as kinds
use Rattle.sb_model.specs.declared.stage.Stage.{Stage}
use Rattle.sb_model.specs.Stage.{last_table}
use Rattle.net_meaning.specs.AclVerdict.{Decision, deciding, decided_by, decision}
use Rattle.net_meaning.specs.AclVerdict.Decision.{Allowed, Dropped, Rejected, Full}
use Rattle.net_meaning.specs.Address.{is_multicast}
use Rattle.net_meaning.specs.Switches as means
use Rattle.net_meaning.specs.Switches.{Did, rejection, turned_back}
use Rattle.net_meaning.specs.Tracked.{Ruled, as_found, asked_again, asked_new, begins, is_to_keep, is_tracked, kept_as_is, passes_untracked, ruled, ruled_after, ruled_as, ruled_by, sent_to, to_backend, with_one}
use Rattle.net_meaning.specs.Walk.{Passed, carrying}
use Rattle.net_meaning.specs.Walk.Passed.{Drops, Makes}
use Rattle.net_meaning.specs.declared.answer.Answer.TheVariants.{Reject}
use Rattle.net_meaning.specs.declared.cause.Cause.{Cause}
use Rattle.net_meaning.specs.declared.cause.Cause.TheVariants.{Acl as acl_cause, CtFull}
use Rattle.net_rows.proofs.Elements.{Contains-from_filter}
use Rattle.tr_stage.specs.Machine as packets
use Rattle.tr_stage.specs.Machine.{Flows}
use Rattle.tr_stage.specs.Part.{replaced, with_part}
use Rattle.tr_stage.specs.declared.outcome.Outcome.{Outcome}
use Rattle.tr_stage.specs.declared.outcome.Outcome.TheVariants.{Made, Drop}
use Rattle.tr_pipe.specs.Machine.{PipelineRun, StageEnd, after, bound, ended, go_on, kept, run_from, step, where_room}
use Rattle.tr_pipe.specs.Machine.StageEnd.{On, Ends}
use Rattle.tr_pipe.specs.Tracking.{Flight, bit, coming, committed, marked_by, seen as seen_by, tracked, with_packet, zone_of}
use Rattle.tr_pipe.specs.Translating.{changed_by, tracked_by}
use Rattle.tr_router.specs.Parts.{IsState}
use Rattle.tr_router.proofs.Changed.{balanced_is}
use Rattle.tr_router.proofs.Translated.{marked_is, of_followed, stays, with_tuple_is, with_tuple_stays}
use Rattle.ls_laws.specs.Steps as steps
use Rattle.ls_laws.specs.Steps.{decided, flows_at, sent_back}
use Rattle.ls_laws.proofs.Packets.{set_value, other_value, with_length, fits_with}
use Rattle.ls_ct_laws.specs.Tracking.{IsNoted, acl_eval, after_acls, after_stateful, goes, goes_again, has_bit, keeps, kept_no_more, looked_up, marking, pipeline_for, port_field, pre_acl, pre_stateful, ruled_on, stateful, with_bit}
use Rattle.ls_ct_laws.proofs.Alike.{same_ip4, same_look, same_tuple}
use Rattle.ls_ct_laws.proofs.Independent.{same_deciding}
use Rattle.ls_ct_laws.proofs.Onward.{same_rejected}
use Rattle.ls_ct_laws.proofs.Noted.{AreAlike, alike_noted, alike_self}
use Rattle.tr_walk.specs.Machine.{after_ingress, after_egress, late_table, numbered, part_of}
use Rattle.tr_walk.specs.Refined.{DoesPart, IsFresh}
use Rattle.tr_walk.proofs.Carried.{carried_back, back_outport}
use Rattle.tr_walk.proofs.Followed.{alike_followed, alike_with_tuple, same_balanced}
use Rattle.tr_walk.proofs.Formed.{rejection_is, rejection_inport}

abbrev pub outcome_after : Network → ObjId → Way → Option Outcome → Option Passed
outcome_after net dp From = after_ingress net dp
outcome_after net dp To = after_egress net dp

-- ---- what stages do where the switch tracks connections, and where it does not

pub record LawsWhereTracked (net : Network) (dp : ObjId) (way : Way) (port : Port) : Type 0 where
  pub pre_acl_is : (flight : Flight) → IsPacket flight.packet → value flight.packet (port_field way) ≡ port.id.0
      → step (flows_at net dp) (pre_acl way) flight ≡ On (pre_stateful way) (cond (is_tracked net way port flight.packet) (with_bit 0 flight) flight)
  pub pre_stateful_is : (flight : Flight) → IsPacket flight.packet
      → step (flows_at net dp) (pre_stateful way) flight ≡ On (acl_eval way) (cond (has_bit 0 flight.packet) (looked_up net dp (zone_of (pipeline_for way) flight.packet) flight) flight)
  pub acl_eval_is : (flight : Flight) → IsPacket flight.packet → IsNoted flight.look flight.packet
      → step (flows_at net dp) (acl_eval way) flight ≡ ruled_on (deciding net dp way flight.packet) (after_acls way) flight flight.look
  pub stateful_is : (flight : Flight) → IsPacket flight.packet → step (flows_at net dp) (stateful way) flight ≡ cond (has_bit 1 flight.packet) (keeps way flight) (On (after_stateful way) flight)

pub record LawsElsewhere (net : Network) (dp : ObjId) (way : Way) : Type 0 where
  pub pre_acl_is : (flight : Flight) → IsPacket flight.packet → step (flows_at net dp) (pre_acl way) flight ≡ On (pre_stateful way) flight
  pub pre_stateful_is : (flight : Flight) → IsPacket flight.packet → step (flows_at net dp) (pre_stateful way) flight ≡ On (acl_eval way) flight
  pub acl_eval_is : (flight : Flight) → IsPacket flight.packet → step (flows_at net dp) (acl_eval way) flight ≡ ended flight (decided (decision net dp way flight.packet) (after_acls way) flight.packet)
  pub stateful_is : (flight : Flight) → IsPacket flight.packet → step (flows_at net dp) (stateful way) flight ≡ On (after_stateful way) flight

-- the tuple that a packet gets which begins a connection
abbrev pub goes_to : Option Look → Option Tuple → Option Tuple
goes_to (Some New) t = t
goes_to found t = None

-- ---- a run that does a part

-- a run of which the walk sees what a part does
abbrev pub Does : (Option Outcome → Option Passed) → PipelineRun → Did → Type 0
Does seen run did = DoesPart (part_of seen run) did

-- so does the run from a stage on, where it does so after the step
pub after_step : (seen : Option Outcome → Option Passed) (flows : Flows) (budget : ℕ) (stage : Stage) (flight : Flight) (end : StageEnd) (did : Did) → step flows stage flight ≡ end
    → Does seen (go_on (run_from flows budget) end) did → Does seen (run_from flows (suc budget) stage flight) did
unfolding run_from
after_step seen flows budget stage flight end did is rest = record {
  passes = ap (λ e. option_map carrying (seen (go_on (run_from flows budget) e).outcome)) is ∙ rest.passes;
  leaves = ap (λ e. (go_on (run_from flows budget) e).state) is ∙ rest.leaves;
}

-- what is done is this too
pub does_same : (seen : Option Outcome → Option Passed) (run : PipelineRun) (one other : Did) → carrying one.passed ≡ carrying other.passed → one.state ≡ other.state → Does seen run one → Does seen run other
does_same seen run one other passed state does = record { passes = does.passes ∙ ap Some passed; leaves = does.leaves ∙ state }

-- a commit of a packet that differs in notes alone leaves the same
same_committed : (a b : Values) → AreAlike a b → (zone : Zone) (state : State) (found : Option Look) → committed zone false a state found ≡ committed zone false b state found
same_committed a b alike zone state None = refl
same_committed a b alike zone state (Some Invalid) = refl
same_committed a b alike zone state (Some New) =
    ap (λ t. option_map (λ conns. with_conns conns state) (recorded (record { zone = zone; orig = t; reply = swap t; blocked = false }) state.conns)) (same_tuple a b alike)
same_committed a b alike zone state (Some (Found place Orig true blocked)) = refl
same_committed a b alike zone state (Some (Found place Orig false blocked)) = refl
same_committed a b alike zone state (Some (Found place Reply true blocked)) = refl
same_committed a b alike zone state (Some (Found place Reply false blocked)) = refl

module _ (net : Network) (sound : IsSound net) (port : Port) (last_is : late_table net port.switch ≡ last_table kinds.Switch) (way : Way) (onward : Values → Passed) where
  abbrev dp : ObjId
  dp = port.switch

  abbrev flows : Flows
  flows = flows_at net dp

  abbrev seen : Option Outcome → Option Passed
  seen = outcome_after net dp way

  abbrev zone : Zone
  zone = zones.Port port.id

  abbrev done : Passed → State → Did
  done passed left = record { passed = passed; state = left }

  -- a packet at the port
  abbrev pub IsHere : Values → Type 0
  IsHere packet = value packet (port_field way) ≡ port.id.0

  -- the zone is that of the port
  zone_is : (packet : Values) → IsHere packet → zone_of (pipeline_for way) packet ≡ zone
  zone_is packet = by way
    where
      by : (w : Way) → value packet (port_field w) ≡ port.id.0 → zone_of (pipeline_for w) packet ≡ zone
      by From at = ap (λ n. zones.Port (numbered n)) at
      by To at = ap (λ n. zones.Port (numbered n)) at

  -- so is a packet that differs in notes alone
  alike_here : (one packet : Values) → AreAlike one packet → IsHere packet → IsHere one
  alike_here one packet alike at = by way at
    where
      by : (w : Way) → value packet (port_field w) ≡ port.id.0 → value one (port_field w) ≡ port.id.0
      by From from = alike.same Inport refl ∙ from
      by To to = alike.same Outport refl ∙ to

  -- a field of which translation leaves the number
  stays_here : (one packet : Values) → ((field : Field) → stays field ≡ true → value one field ≡ value packet field) → IsHere packet → IsHere one
  stays_here one packet same at = by way at
    where
      by : (w : Way) → value packet (port_field w) ≡ port.id.0 → value one (port_field w) ≡ port.id.0
      by From from = same Inport refl ∙ from
      by To to = same Outport refl ∙ to

  -- What the stages after those of connections do, and those between ACLs and connections: what goes to no backend passes them, and what goes to
  -- one is bound.
  pub record Follows (left_over budget : ℕ) : Type 0 where
    pub rest : (packet : Values) (flight : Flight) → IsHere packet → IsPacket flight.packet → AreAlike flight.packet packet → Does seen (run_from flows left_over (after_stateful way) flight) (done (onward packet) flight.state)
    pub through : (flight : Flight) (did : Did) → IsPacket flight.packet → IsNoted flight.look flight.packet → goes_to flight.look (to_backend net way dp flight.packet) ≡ None
        → Does seen (run_from flows (suc left_over) (stateful way) flight) did → Does seen (run_from flows budget (after_acls way) flight) did
    pub binding : (flight : Flight) (t : Tuple) (did : Did) → IsPacket flight.packet → IsNoted flight.look flight.packet → is_ip4 flight.packet ≡ true → flight.look ≡ Some New → to_backend net way dp flight.packet ≡ Some t
        → Does seen (go_on (run_from flows (suc left_over)) (bound (Some (stateful way)) (zone_of (pipeline_for way) flight.packet) t (kept_no_more flight))) did
        → Does seen (run_from flows budget (after_acls way) flight) did

  -- ---- packets that are refused

  drops_seen : (cause : Cause) → seen (Some (Drop cause)) ≡ Some (Drops cause)
  drops_seen cause = by way
    where
      by : (w : Way) → outcome_after net dp w (Some (Drop cause)) ≡ Some (Drops cause)
      by From = refl
      by To = refl

  answer_seen : (k : Values) → IsPacket k → (may : Bool)
      → option_map carrying (seen (cond may (Some (Made (sent_back (rejection k)) (last_table kinds.Switch) Reject)) (Some (Drop acl_cause))))
      ≡ Some (carrying (cond may (Makes Reject (numbered (value k Inport)) (turned_back (rejection k))) (Drops acl_cause)))
  answer_seen k is true = by way
    where
      by : (w : Way) → option_map carrying (outcome_after net dp w (Some (Made (sent_back (rejection k)) (last_table kinds.Switch) Reject))) ≡ Some (carrying (Makes Reject (numbered (value k Inport)) (turned_back (rejection k))))
      by From = rw (last_is, back_outport (rejection k) (rejection_is k is) ∙ rejection_inport k, carried_back (rejection k) (rejection_is k is)) refl
      by To = rw (last_is, back_outport (rejection k) (rejection_is k is) ∙ rejection_inport k, carried_back (rejection k) (rejection_is k is)) refl
  answer_seen k is false = ap (option_map carrying) (drops_seen acl_cause)

  -- the packet ends here, with this state
  dropped : (budget : ℕ) (cause : Cause) (left : State) → Does seen (go_on (run_from flows budget) (Ends (Some (Drop cause)) left)) (done (Drops cause) left)
  dropped budget cause left = record { passes = ap (option_map carrying) (drops_seen cause); leaves = refl }

  rejected : (budget : ℕ) (packet : Values) (flight : Flight) → IsPacket flight.packet → AreAlike flight.packet packet
      → Does seen (go_on (run_from flows budget) (ended flight (steps.rejected flight.packet))) (done (means.rejected packet) flight.state)
  rejected budget packet flight is alike = does_same seen _ (done (means.rejected flight.packet) flight.state) (done (means.rejected packet) flight.state) (same_rejected flight.packet packet alike) refl (by (is_answerable flight.packet) refl)
    where
      by : (may : Bool) → is_answerable flight.packet ≡ may
          → Does seen (go_on (run_from flows budget) (ended flight (cond may (packets.StageEnd.Ends (Some (Made (sent_back (rejection flight.packet)) (last_table kinds.Switch) Reject))) (packets.StageEnd.Ends (Some (Drop acl_cause))))))
          (done (cond may (Makes Reject (numbered (value flight.packet Inport)) (turned_back (rejection flight.packet))) (Drops acl_cause)) flight.state)
      by true may = record { passes = answer_seen flight.packet is true; leaves = refl }
      by false may = record { passes = answer_seen flight.packet is false; leaves = refl }

  -- ---- the stage of ACLs, where the switch tracks

  module _ (left_over budget : ℕ) (follows : Follows left_over budget) (laws : LawsWhereTracked net dp way port) (packet : Values) (state : State) (at_port : IsHere packet) where
    abbrev acl : Option Acl
    acl = deciding net dp way packet

    abbrev backend : Option Tuple
    backend = to_backend net way dp packet

    abbrev as_ruled : Ruled → Did
    as_ruled ruling = means.after_acls ruling onward

    -- the packet in the stage of ACLs
    pub record IsReady (flight : Flight) (found : Option Look) : Type 0 where
      pub looked : flight.look ≡ found
      pub left : flight.state ≡ state
      pub alike : AreAlike flight.packet packet
      pub is : IsPacket flight.packet
      pub noted : IsNoted flight.look flight.packet
      pub register : (value flight.packet Reg0 ≡ 0) ⊎ (value flight.packet Reg0 ≡ 1)
      pub of_ip4 : flight.look ≡ Some New → is_ip4 packet ≡ true

    -- the backend that it goes to is the packet's
    same_backend : (k : Values) → AreAlike k packet → to_backend net way dp k ≡ backend
    same_backend k alike = by way
      where
        by : (w : Way) → to_backend net w dp k ≡ to_backend net w dp packet
        by From = same_balanced k packet alike (lbs_on net dp)
        by To = refl

    -- a packet that is not to be kept
    goes_on : (flight : Flight) → IsPacket flight.packet → AreAlike flight.packet packet → IsNoted flight.look flight.packet → has_bit 1 flight.packet ≡ false → goes_to flight.look backend ≡ None
        → Does seen (run_from flows budget (after_acls way) flight) (done (onward packet) flight.state)
    goes_on flight is alike noted unkept none =
        follows.through flight (done (onward packet) flight.state) is noted (ap (goes_to flight.look) (same_backend flight.packet alike) ∙ none)
        (after_step seen flows left_over (stateful way) flight (On (after_stateful way) flight) (done (onward packet) flight.state)
        (laws.stateful_is flight is ∙ ap (λ b. cond b (keeps way flight) (On (after_stateful way) flight)) unkept) (follows.rest packet flight at_port is alike))

    -- what becomes of one that is to be kept, by the state after that
    abbrev kept_as : State → Option State → Did
    kept_as before (Some later) = done (onward packet) later
    kept_as before None = done (Drops CtFull) before

    goes_kept : (flight : Flight) → IsPacket flight.packet → AreAlike flight.packet packet → IsNoted flight.look flight.packet → has_bit 1 flight.packet ≡ true → goes_to flight.look backend ≡ None
        → Does seen (run_from flows budget (after_acls way) flight) (kept_as flight.state (committed zone false packet flight.state flight.look))
    goes_kept flight is alike noted to_keep none =
        follows.through flight _ is noted (ap (goes_to flight.look) (same_backend flight.packet alike) ∙ none)
        (after_step seen flows left_over (stateful way) flight (keeps way flight) _ (laws.stateful_is flight is ∙ ap (λ b. cond b (keeps way flight) (On (after_stateful way) flight)) to_keep)
        (subst (λ found. Does seen (go_on (run_from flows left_over) (after (kept flight found) (On (after_stateful way)))) (kept_as flight.state (committed zone false packet flight.state flight.look)))
        (sym (ap (λ z. committed z false flight.packet flight.state flight.look) (zone_is flight.packet (alike_here flight.packet packet alike at_port)) ∙ same_committed flight.packet packet alike zone flight.state flight.look))
        (by (committed zone false packet flight.state flight.look))))
      where
        by : (found : Option State) → Does seen (go_on (run_from flows left_over) (after (kept flight found) (On (after_stateful way)))) (kept_as flight.state found)
        by (Some later) = follows.rest packet (record flight { state = later }) at_port is alike
        by None = dropped left_over CtFull flight.state

    -- what a bit of the register leaves of a packet
    record HasRegister (k : Values) (flight : Flight) (n : ℕ) : Type 0 where
      is : IsPacket k
      alike : AreAlike k packet
      noted : IsNoted flight.look k
      number : value k Reg0 ≡ n

    with_register : (flight : Flight) (n : ℕ) → n < 2 ^ 32 → IsPacket flight.packet → AreAlike flight.packet packet → IsNoted flight.look flight.packet → HasRegister (with_value flight.packet Reg0 n) flight n
    with_register flight n fits is alike noted = record {
      is = fits_with flight.packet Reg0 n is fits;
      alike = alike_noted flight.packet packet Reg0 n refl alike;
      noted = record {
        flags = other_value flight.packet Reg0 CtState n refl ∙ noted.flags;
        mark = other_value flight.packet Reg0 CtMarkBlocked n refl ∙ noted.mark;
      };
      number = set_value flight.packet Reg0 n is.count;
    }

    -- the packet with the note that it is to be kept
    keeping : (flight : Flight) → IsPacket flight.packet → AreAlike flight.packet packet → IsNoted flight.look flight.packet → (value flight.packet Reg0 ≡ 0) ⊎ (value flight.packet Reg0 ≡ 1)
        → HasRegister (with_bit 1 flight).packet flight 2 ⊎ HasRegister (with_bit 1 flight).packet flight 3
    unfolding replaced
    keeping flight is alike noted (inl zero_is) =
        inl (subst (λ k. HasRegister k flight 2) (sym (ap (λ m. with_value flight.packet Reg0 (replaced 1 1 m 1)) zero_is)) (with_register flight 2 (lit< tt) is alike noted))
    keeping flight is alike noted (inr one_is) =
        inr (subst (λ k. HasRegister k flight 3) (sym (ap (λ m. with_value flight.packet Reg0 (replaced 1 1 m 1)) one_is)) (with_register flight 3 (lit< tt) is alike noted))

    -- and without it
    no_more : (flight : Flight) (n : ℕ) → HasRegister flight.packet flight n → replaced 1 1 n 0 < 2 ^ 32 → HasRegister (kept_no_more flight).packet flight (replaced 1 1 n 0)
    no_more flight n has fits =
        subst (λ k. HasRegister k flight (replaced 1 1 n 0)) (sym (ap (λ m. with_value flight.packet Reg0 (replaced 1 1 m 0)) has.number)) (with_register flight (replaced 1 1 n 0) fits has.is has.alike has.noted)

    -- ---- a packet that goes to a backend

    abbrev ruled_to : Tuple → State → Ruled
    ruled_to t left = with_one (sent_to zone t packet) packet left (recorded (begun_as zone t packet) left.conns)

    module _ (t : Tuple) (fits : IsTuple t) where
      goes_there : (flight : Flight) → IsPacket flight.packet → AreAlike flight.packet packet → has_bit 1 flight.packet ≡ false
          → Does seen (go_on (run_from flows (suc left_over)) (bound (Some (stateful way)) zone t flight)) (as_ruled (ruled_to t flight.state))
      goes_there flight is alike unkept =
          subst (λ (room : Option (List Entry)). Does seen (go_on (run_from flows (suc left_over)) (where_room (Some (stateful way)) there room)) (as_ruled (ruled_to t flight.state))) (sym same_room)
          (by (recorded (begun_as zone t packet) flight.state.conns))
        where
          there : Flight
          there = with_packet flight (with_tuple flight.packet t)

          same_room : recorded (begun_as zone t flight.packet) flight.state.conns ≡ recorded (begun_as zone t packet) flight.state.conns
          same_room = ap (λ (own : Tuple). recorded (record { zone = zone; orig = own; reply = swap t; blocked = false }) flight.state.conns) (same_tuple flight.packet packet alike)

          there_is : IsPacket (with_tuple flight.packet t)
          there_is = with_tuple_is flight.packet t is fits

          unnoted : has_bit 1 (with_tuple flight.packet t) ≡ false
          unnoted = ap (λ m. bits_of (Bit 1) m == 1) (with_tuple_stays flight.packet t Reg0 is.count refl) ∙ unkept

          by : (room : Option (List Entry)) → Does seen (go_on (run_from flows (suc left_over)) (where_room (Some (stateful way)) there room)) (as_ruled (with_one (sent_to zone t packet) packet flight.state room))
          by None = dropped (suc left_over) CtFull flight.state
          by (Some conns) =
              let on : Flight = record there { state = with_conns conns flight.state } in
              after_step seen flows left_over (stateful way) on (On (after_stateful way) on) (done (onward (with_tuple packet t)) on.state)
              (laws.stateful_is on there_is ∙ ap (λ b. cond b (keeps way on) (On (after_stateful way) on)) unnoted)
              (follows.rest (with_tuple packet t) on (stays_here (with_tuple packet t) packet (λ field kept. with_tuple_stays packet t field alike.long_b kept) at_port) there_is (alike_with_tuple flight.packet packet alike t))

      -- whatever its first register says
      is_sent : (flight : Flight) (n : ℕ) → HasRegister flight.packet flight n → replaced 1 1 n 0 < 2 ^ 32 → bits_of (Bit 1) (replaced 1 1 n 0) == 1 ≡ false → is_ip4 packet ≡ true → flight.look ≡ Some New → backend ≡ Some t
          → Does seen (run_from flows budget (after_acls way) flight) (as_ruled (ruled_to t flight.state))
      is_sent flight n has low unset ip4 new to =
          let cleared = no_more flight n has low in
          follows.binding flight t (as_ruled (ruled_to t flight.state)) has.is has.noted (same_ip4 flight.packet packet has.alike ∙ ip4) new (same_backend flight.packet has.alike ∙ to)
          (subst (λ z. Does seen (go_on (run_from flows (suc left_over)) (bound (Some (stateful way)) z t (kept_no_more flight))) (as_ruled (ruled_to t flight.state)))
          (sym (zone_is flight.packet (alike_here flight.packet packet has.alike at_port)))
          (goes_there (kept_no_more flight) cleared.is cleared.alike (ap (λ m. bits_of (Bit 1) m == 1) cleared.number ∙ unset)))

    -- ---- a packet that ACLs let pass

    module _ (flight : Flight) (found : Option Look) (ready : IsReady flight found) where
      unkept : has_bit 1 flight.packet ≡ false
      unkept = by ready.register
        where
          by : (value flight.packet Reg0 ≡ 0) ⊎ (value flight.packet Reg0 ≡ 1) → has_bit 1 flight.packet ≡ false
          by (inl none) = ap (λ m. bits_of (Bit 1) m == 1) none
          by (inr one) = ap (λ m. bits_of (Bit 1) m == 1) one

      to_keep : goes_to found backend ≡ None → Does seen (run_from flows budget (after_acls way) (with_bit 1 flight)) (kept_as flight.state (committed zone false packet flight.state found))
      to_keep none =
          subst (λ l. Does seen (run_from flows budget (after_acls way) (with_bit 1 flight)) (kept_as flight.state (committed zone false packet flight.state l))) ready.looked
          (by (keeping flight ready.is ready.alike ready.noted ready.register))
        where
          no_backend : goes_to flight.look backend ≡ None
          no_backend = ap (λ l. goes_to l backend) ready.looked ∙ none

          by : HasRegister (with_bit 1 flight).packet flight 2 ⊎ HasRegister (with_bit 1 flight).packet flight 3
              → Does seen (run_from flows budget (after_acls way) (with_bit 1 flight)) (kept_as flight.state (committed zone false packet flight.state flight.look))
          by (inl has) = goes_kept (with_bit 1 flight) has.is has.alike has.noted (ap (λ m. bits_of (Bit 1) m == 1) has.number) no_backend
          by (inr has) = goes_kept (with_bit 1 flight) has.is has.alike has.noted (ap (λ m. bits_of (Bit 1) m == 1) has.number) no_backend

      -- one that goes on without a note
      let_pass : goes_to found backend ≡ None → Does seen (run_from flows budget (after_acls way) flight) (done (onward packet) flight.state)
      let_pass none = goes_on flight ready.is ready.alike ready.noted unkept (ap (λ l. goes_to l backend) ready.looked ∙ none)

      -- and one that goes to a backend, with a note or without
      module _ (t : Tuple) (fits : IsTuple t) (new : found ≡ Some New) (to : backend ≡ Some t) where
        is_new : flight.look ≡ Some New
        is_new = ready.looked ∙ new

        sent_unkept : Does seen (run_from flows budget (after_acls way) flight) (as_ruled (ruled_to t flight.state))
        unfolding replaced
        sent_unkept = by ready.register
          where
            has_number : (n : ℕ) → value flight.packet Reg0 ≡ n → HasRegister flight.packet flight n
            has_number n number = record { is = ready.is; alike = ready.alike; noted = ready.noted; number = number }

            by : (value flight.packet Reg0 ≡ 0) ⊎ (value flight.packet Reg0 ≡ 1) → Does seen (run_from flows budget (after_acls way) flight) (as_ruled (ruled_to t flight.state))
            by (inl none) = is_sent t fits flight 0 (has_number 0 none) (lit< tt) refl (ready.of_ip4 is_new) is_new to
            by (inr one) = is_sent t fits flight 1 (has_number 1 one) (lit< tt) refl (ready.of_ip4 is_new) is_new to

        sent_kept : Does seen (run_from flows budget (after_acls way) (with_bit 1 flight)) (as_ruled (ruled_to t flight.state))
        unfolding replaced
        sent_kept = by (keeping flight ready.is ready.alike ready.noted ready.register)
          where
            by : HasRegister (with_bit 1 flight).packet flight 2 ⊎ HasRegister (with_bit 1 flight).packet flight 3 → Does seen (run_from flows budget (after_acls way) (with_bit 1 flight)) (as_ruled (ruled_to t flight.state))
            by (inl has) = is_sent t fits (with_bit 1 flight) 2 (record { is = has.is; alike = has.alike; noted = has.noted; number = has.number }) (lit< tt) refl (ready.of_ip4 is_new) is_new to
            by (inr has) = is_sent t fits (with_bit 1 flight) 3 (record { is = has.is; alike = has.alike; noted = has.noted; number = has.number }) (lit< tt) refl (ready.of_ip4 is_new) is_new to

      -- ---- what the stage of ACLs does with a packet that is ready

      abbrev after_stage : StageEnd → PipelineRun
      after_stage end = go_on (run_from flows budget) end

      -- of no connection
      untracked : found ≡ None → (keep : Bool) (what : Decision) → Does seen (after_stage (goes keep what (after_acls way) flight)) (as_ruled (ruled_as what packet flight.state))
      untracked none true Allowed =
          subst (λ l. Does seen (run_from flows budget (after_acls way) (with_bit 1 flight)) (kept_as flight.state (committed zone false packet flight.state l))) none (to_keep (ap (λ l. goes_to l backend) none))
      untracked none false Allowed = let_pass (ap (λ l. goes_to l backend) none)
      untracked none true Dropped = dropped budget acl_cause flight.state
      untracked none false Dropped = dropped budget acl_cause flight.state
      untracked none true Rejected = rejected budget packet flight ready.is ready.alike
      untracked none false Rejected = rejected budget packet flight ready.is ready.alike
      untracked none true Full = dropped budget CtFull flight.state
      untracked none false Full = dropped budget CtFull flight.state

      -- one that may begin a connection
      new : found ≡ Some New → (to : Option Tuple) → backend ≡ to → ((t : Tuple) → to ≡ Some t → IsTuple t) → (keep : Bool) (what : Decision)
          → Does seen (after_stage (goes keep what (after_acls way) flight)) (as_ruled (asked_new (begins keep to zone packet) what packet flight.state))
      new is None to_is fits true Allowed =
          by (recorded (begun_as zone (tuple packet) packet) flight.state.conns)
          (subst (λ l. Does seen (run_from flows budget (after_acls way) (with_bit 1 flight)) (kept_as flight.state (committed zone false packet flight.state l))) is (to_keep (ap (λ l. goes_to l backend) is ∙ to_is)))
        where
          by : (conns : Option (List Entry)) → Does seen (run_from flows budget (after_acls way) (with_bit 1 flight)) (kept_as flight.state (option_map (λ list. with_conns list flight.state) conns))
              → Does seen (run_from flows budget (after_acls way) (with_bit 1 flight)) (as_ruled (with_one (kept_as_is zone packet) packet flight.state conns))
          by (Some conns) does = does
          by None does = does
      new is None to_is fits false Allowed = let_pass (ap (λ l. goes_to l backend) is ∙ to_is)
      new is (Some t) to_is fits true Allowed = sent_kept t (fits t refl) is to_is
      new is (Some t) to_is fits false Allowed = sent_unkept t (fits t refl) is to_is
      new is None to_is fits true Dropped = dropped budget acl_cause flight.state
      new is None to_is fits false Dropped = dropped budget acl_cause flight.state
      new is (Some t) to_is fits true Dropped = dropped budget acl_cause flight.state
      new is (Some t) to_is fits false Dropped = dropped budget acl_cause flight.state
      new is None to_is fits true Rejected = rejected budget packet flight ready.is ready.alike
      new is None to_is fits false Rejected = rejected budget packet flight ready.is ready.alike
      new is (Some t) to_is fits true Rejected = rejected budget packet flight ready.is ready.alike
      new is (Some t) to_is fits false Rejected = rejected budget packet flight ready.is ready.alike
      new is None to_is fits true Full = dropped budget CtFull flight.state
      new is None to_is fits false Full = dropped budget CtFull flight.state
      new is (Some t) to_is fits true Full = dropped budget CtFull flight.state
      new is (Some t) to_is fits false Full = dropped budget CtFull flight.state

      -- one in the original direction of a connection
      again : (place : ℕ) (blocked : Bool) → found ≡ Some (Found place Orig false blocked) → (keep : Bool) (what : Decision)
          → Does seen (after_stage (goes_again keep what place (after_acls way) flight)) (as_ruled (asked_again keep what place packet flight.state))
      again place blocked is true Allowed =
          subst (λ l. Does seen (run_from flows budget (after_acls way) (with_bit 1 flight)) (kept_as flight.state (committed zone false packet flight.state l))) is (to_keep (ap (λ l. goes_to l backend) is))
      again place blocked is false Allowed = let_pass (ap (λ l. goes_to l backend) is)
      again place blocked is true Dropped = dropped budget acl_cause (marking place true flight).state
      again place blocked is false Dropped = dropped budget acl_cause (marking place true flight).state
      again place blocked is true Rejected = rejected budget packet (marking place true flight) ready.is ready.alike
      again place blocked is false Rejected = rejected budget packet (marking place true flight) ready.is ready.alike
      again place blocked is true Full = dropped budget CtFull (marking place true flight).state
      again place blocked is false Full = dropped budget CtFull (marking place true flight).state

      -- an answer, or one that is refused whatever ACLs say
      answer : goes_to found backend ≡ None → (blocked : Bool)
          → Does seen (after_stage (cond blocked (Ends (Some (Drop acl_cause)) flight.state) (On (after_acls way) flight))) (as_ruled (ruled_as (cond blocked Dropped Allowed) packet flight.state))
      answer none true = dropped budget acl_cause flight.state
      answer none false = let_pass none

      -- what is done with the packet, by what its look-up told
      abbrev pub ruled_found : Option Acl → State → Option Look → Ruled
      ruled_found a left None = ruled_as (decided_by a) packet left
      ruled_found a left (Some l) = ruled_by a (begins (is_to_keep a) backend zone packet) packet left l

      ruled_as_found : ((t : Tuple) → backend ≡ Some t → IsTuple t) → (l : Option Look) → found ≡ l → (a : Option Acl) → Does seen (after_stage (ruled_on a (after_acls way) flight l)) (as_ruled (ruled_found a flight.state l))
      ruled_as_found fits None is a = untracked is (is_to_keep a) (decided_by a)
      ruled_as_found fits (Some Invalid) is a = dropped budget acl_cause flight.state
      ruled_as_found fits (Some New) is a = new is backend refl fits (is_to_keep a) (decided_by a)
      ruled_as_found fits (Some (Found place Orig false blocked)) is a = again place blocked is (is_to_keep a) (decided_by a)
      ruled_as_found fits (Some (Found place Orig true blocked)) is a = answer (ap (λ l. goes_to l backend) is) blocked
      ruled_as_found fits (Some (Found place Reply true blocked)) is a = answer (ap (λ l. goes_to l backend) is) blocked
      ruled_as_found fits (Some (Found place Reply false blocked)) is a = answer (ap (λ l. goes_to l backend) is) blocked

      pub acls_tracked : ((t : Tuple) → backend ≡ Some t → IsTuple t) → Does seen (run_from flows (suc budget) (acl_eval way) flight) (as_ruled (ruled_found acl state found))
      acls_tracked fits =
          after_step seen flows budget (acl_eval way) flight (ruled_on acl (after_acls way) flight found) _
          (laws.acl_eval_is flight ready.is ready.noted ∙ ap (λ l. ruled_on (deciding net dp way flight.packet) (after_acls way) flight l) ready.looked
          ∙ ap (λ a. ruled_on a (after_acls way) flight found) (same_deciding net sound flight.packet packet ready.alike dp way))
          (subst (λ s. Does seen (after_stage (ruled_on acl (after_acls way) flight found)) (as_ruled (ruled_found acl s found))) ready.left (ruled_as_found fits found refl acl))

  -- ---- where the switch does not track

  module _ (left_over budget : ℕ) (follows : Follows left_over budget) (packet : Values) (state : State) (formed : IsPacket packet) (fresh : IsFresh packet) (here : IsHere packet) where
    abbrev begins_as : Flight
    begins_as = coming packet state

    not_noted : IsNoted None packet
    not_noted = record { flags = fresh.flags; mark = fresh.mark }

    module _ (laws : LawsElsewhere net dp way) where
      passed_on : Does seen (run_from flows budget (after_acls way) begins_as) (done (onward packet) state)
      passed_on =
          follows.through begins_as (done (onward packet) state) formed not_noted refl
          (after_step seen flows left_over (stateful way) begins_as (On (after_stateful way) begins_as) (done (onward packet) state) (laws.stateful_is begins_as formed) (follows.rest packet begins_as here formed (alike_self packet formed.count)))

      ended_as : (what : Decision) → Does seen (go_on (run_from flows budget) (ended begins_as (decided what (after_acls way) packet))) (done (means.decided what packet (onward packet)) state)
      ended_as Allowed = passed_on
      ended_as Dropped = dropped budget acl_cause state
      ended_as Rejected = rejected budget packet begins_as formed (alike_self packet formed.count)
      ended_as Full = dropped budget CtFull state

      acls_elsewhere : Does seen (run_from flows (suc (suc (suc budget))) (pre_acl way) begins_as) (means.after_acls (ruled_as (decided_by (deciding net dp way packet)) packet state) onward)
      acls_elsewhere =
          after_step seen flows (suc (suc budget)) (pre_acl way) begins_as (On (pre_stateful way) begins_as) _ (laws.pre_acl_is begins_as formed)
          (after_step seen flows (suc budget) (pre_stateful way) begins_as (On (acl_eval way) begins_as) _ (laws.pre_stateful_is begins_as formed)
          (after_step seen flows budget (acl_eval way) begins_as (ended begins_as (decided (decided_by (deciding net dp way packet)) (after_acls way) packet)) _ (laws.acl_eval_is begins_as formed) (ended_as (decided_by (deciding net dp way packet)))))

    -- ---- the stages before, where it tracks

    module _ (laws : LawsWhereTracked net dp way port) (are : IsState state) where
      abbrev asked_flight : Flight
      asked_flight = with_bit 0 (coming packet state)

      asked_is : asked_flight.packet ≡ with_value packet Reg0 1
      unfolding replaced
      asked_is = ap (λ m. with_value packet Reg0 (replaced 0 1 m 1)) fresh.register

      asked_alike : AreAlike asked_flight.packet packet
      asked_alike = alike_noted packet packet Reg0 (replaced 0 1 (value packet Reg0) 1) refl (alike_self packet formed.count)

      asked_fits : IsPacket asked_flight.packet
      asked_fits = subst IsPacket (sym asked_is) (fits_with packet Reg0 1 formed (lit< tt))

      asked_register : value asked_flight.packet Reg0 ≡ 1
      asked_register = ap (λ k. value k Reg0) asked_is ∙ set_value packet Reg0 1 formed.count

      -- what the look-up tells, and the packet after it
      abbrev told : Look
      told = look state.conns zone packet

      abbrev now : Values
      now = as_found net way port state.conns packet told

      abbrev marked : Values
      marked = marked_by told asked_flight.packet

      -- where the switch balances load it is translated
      abbrev flight_where : Bool → Flight
      flight_where balancing = record { packet = cond balancing (followed state.conns marked told) marked; look = Some told; state = state }

      marked_alike : AreAlike marked packet
      marked_alike =
          let k = asked_flight.packet in
          alike_noted (with_value k CtState (flags_of told)) packet CtMarkBlocked (bit (is_marked told)) refl (alike_noted k packet CtState (flags_of told) refl asked_alike)

      marked_fits : IsPacket marked
      marked_fits = marked_is told asked_flight.packet asked_fits

      -- the numbers that the look-up notes
      record IsMarked (k : Values) : Type 0 where
        flags : value k CtState ≡ flags_of told
        mark : value k CtMarkBlocked ≡ bit (is_marked told)
        register : value k Reg0 ≡ 1

      marked_is_marked : IsMarked marked
      marked_is_marked =
          let k = asked_flight.packet in
          let flagged = with_value k CtState (flags_of told) in
          record {
            flags = other_value flagged CtMarkBlocked CtState (bit (is_marked told)) refl ∙ set_value k CtState (flags_of told) asked_fits.count;
            mark = set_value flagged CtMarkBlocked (bit (is_marked told)) (with_length k CtState (flags_of told) asked_fits.count);
            register = other_value flagged CtMarkBlocked Reg0 (bit (is_marked told)) refl ∙ other_value k CtState Reg0 (flags_of told) refl ∙ asked_register;
          }

      -- they stay where it is translated
      record IsFoundAs (k other : Values) : Type 0 where
        is : IsPacket k
        alike : AreAlike k other
        marks : IsMarked k
        is_here : IsHere other

      found_where : (balancing : Bool) → IsFoundAs (flight_where balancing).packet (cond balancing (followed state.conns packet told) packet)
      found_where true = record {
        is = of_followed.formed state.conns marked told are.conns marked_fits;
        alike = alike_followed marked packet marked_alike state.conns told;
        marks = record {
          flags = of_followed.leaves state.conns marked told CtState marked_fits.count refl ∙ marked_is_marked.flags;
          mark = of_followed.leaves state.conns marked told CtMarkBlocked marked_fits.count refl ∙ marked_is_marked.mark;
          register = of_followed.leaves state.conns marked told Reg0 marked_fits.count refl ∙ marked_is_marked.register;
        };
        is_here = stays_here (followed state.conns packet told) packet (λ field kept. of_followed.leaves state.conns packet told field formed.count kept) here;
      }
      found_where false = record { is = marked_fits; alike = marked_alike; marks = marked_is_marked; is_here = here }

      of_ip4 : is_tracked net way port packet ≡ true → is_ip4 packet ≡ true
      of_ip4 is =
          let parts = and_parts (tracks net dp && is_ip4 packet && not (is_multicast (value packet EthDst)) && not (is_to_router port)) (not (passes_untracked net dp way packet)) is in
          let more = and_parts (tracks net dp && is_ip4 packet && not (is_multicast (value packet EthDst))) (not (is_to_router port)) parts.0 in
          (and_parts (tracks net dp) (is_ip4 packet) (and_parts (tracks net dp && is_ip4 packet) (not (is_multicast (value packet EthDst))) more.0).0).1

      -- a new packet is not translated
      new_as_it_was : (found : Look) → Some found ≡ Some New → as_found net way port state.conns packet found ≡ packet
      new_as_it_was found is = subst (λ l. as_found net way port state.conns packet l ≡ packet) (sym (same_Some found New is)) (by (balances net dp))
        where
          by : (b : Bool) → cond b packet packet ≡ packet
          by true = refl
          by false = refl

      looked_up_ready : is_tracked net way port packet ≡ true → IsReady left_over budget follows laws now state (found_where (balances net dp)).is_here (flight_where (balances net dp)) (Some told)
      looked_up_ready is =
          let found = found_where (balances net dp) in
          record {
            looked = refl;
            left = refl;
            alike = found.alike;
            is = found.is;
            noted = record { flags = found.marks.flags; mark = found.marks.mark };
            register = inr found.marks.register;
            of_ip4 = λ new. ap is_ip4 (new_as_it_was told new) ∙ of_ip4 is;
          }

      not_looked_up : IsReady left_over budget follows laws packet state here (coming packet state) None
      not_looked_up = record {
        looked = refl;
        left = refl;
        alike = alike_self packet formed.count;
        is = formed;
        noted = not_noted;
        register = inl fresh.register;
        of_ip4 = λ none. absurd (none-some New none);
      }

      -- where the packet is tracked, and where it is not
      asked_for : is_tracked net way port packet ≡ true → step flows (pre_stateful way) asked_flight ≡ On (acl_eval way) (flight_where (balances net dp))
      asked_for is =
          laws.pre_stateful_is asked_flight asked_fits
          ∙ ap (λ b. On (acl_eval way) (cond b (looked_up net dp (zone_of (pipeline_for way) asked_flight.packet) asked_flight) asked_flight)) (ap (λ m. bits_of (Bit 0) m == 1) asked_register)
          ∙ ap (λ z. On (acl_eval way) (looked_up net dp z asked_flight)) (zone_is asked_flight.packet (alike_here asked_flight.packet packet asked_alike here))
          ∙ ap (On (acl_eval way)) (by (balances net dp) (same_ip4 asked_flight.packet packet asked_alike ∙ of_ip4 is) (same_look asked_flight.packet packet asked_alike state.conns zone))
        where
          by : (b : Bool) → is_ip4 asked_flight.packet ≡ true → look state.conns zone asked_flight.packet ≡ told → cond b (tracked_by followed zone asked_flight) (tracked zone asked_flight) ≡ flight_where b
          by true ip4 same_one =
              ap (λ c. cond c (changed_by followed (look state.conns zone asked_flight.packet) asked_flight) asked_flight) ip4 ∙ ap (λ l. changed_by followed l asked_flight) same_one
          by false ip4 same_one =
              ap (λ c. cond c (seen_by (look state.conns zone asked_flight.packet) asked_flight) asked_flight) ip4 ∙ ap (λ l. seen_by l asked_flight) same_one

      not_asked_for : step flows (pre_stateful way) (coming packet state) ≡ On (acl_eval way) (coming packet state)
      not_asked_for =
          laws.pre_stateful_is (coming packet state) formed
          ∙ ap (λ b. On (acl_eval way) (cond b (looked_up net dp (zone_of (pipeline_for way) packet) (coming packet state)) (coming packet state))) (ap (λ m. bits_of (Bit 0) m == 1) fresh.register)

      -- the tuple of a packet that goes to a backend fits
      backend_fits : (k : Values) → IsPacket k → (t : Tuple) → to_backend net way dp k ≡ Some t → IsTuple t
      backend_fits k is t = by way
        where
          by : (w : Way) → to_backend net w dp k ≡ Some t → IsTuple t
          by From to = balanced_is net sound (lbs_on net dp) (λ lb there. Contains-from_filter _ net.lbs lb there) k is t to
          by To none = absurd (none-some t none)

      now_is : IsPacket now
      now_is = by (balances net dp)
        where
          by : (b : Bool) → IsPacket (cond b (followed state.conns packet told) packet)
          by true = of_followed.formed state.conns packet told are.conns formed
          by false = formed

      abbrev ruled_where : Bool → Ruled
      ruled_where b = cond b (ruled_after net way port now state told) (ruled_as (decided_by (deciding net dp way packet)) packet state)

      acls_where : (b : Bool) → is_tracked net way port packet ≡ b
          → Does seen (run_from flows (suc (suc (suc budget))) (pre_acl way) (coming packet state)) (means.after_acls (ruled_where b) onward)
      acls_where true is =
          after_step seen flows (suc (suc budget)) (pre_acl way) (coming packet state) (On (pre_stateful way) asked_flight) _
          (laws.pre_acl_is (coming packet state) formed here ∙ ap (λ b. On (pre_stateful way) (cond b asked_flight (coming packet state))) is)
          (after_step seen flows (suc budget) (pre_stateful way) asked_flight (On (acl_eval way) (flight_where (balances net dp))) _ (asked_for is)
          (acls_tracked left_over budget follows laws now state (found_where (balances net dp)).is_here (flight_where (balances net dp)) (Some told) (looked_up_ready is) (backend_fits now now_is)))
      acls_where false is =
          after_step seen flows (suc (suc budget)) (pre_acl way) (coming packet state) (On (pre_stateful way) (coming packet state)) _
          (laws.pre_acl_is (coming packet state) formed here ∙ ap (λ b. On (pre_stateful way) (cond b asked_flight (coming packet state))) is)
          (after_step seen flows (suc budget) (pre_stateful way) (coming packet state) (On (acl_eval way) (coming packet state)) _ not_asked_for
          (acls_tracked left_over budget follows laws packet state here (coming packet state) None not_looked_up (backend_fits packet formed)))

    -- ---- all of them

    abbrev DoesAcls : Ruled → Type 0
    DoesAcls ruling = Does seen (run_from flows (suc (suc (suc budget))) (pre_acl way) (coming packet state)) (means.after_acls ruling onward)

    pub acl_part : IsState state → (tracks net dp ≡ true → LawsWhereTracked net dp way port) → (tracks net dp ≡ false → LawsElsewhere net dp way) → DoesAcls (ruled net way port packet state)
    acl_part are where_tracked elsewhere = by (tracks net dp) refl
      where
        by : (t : Bool) → tracks net dp ≡ t → DoesAcls (ruled net way port packet state)
        by true is = at (is_tracked net way port packet) refl
          where
            at : (b : Bool) → is_tracked net way port packet ≡ b → DoesAcls (ruled net way port packet state)
            at b told_so =
                subst DoesAcls (sym (ap (λ c. cond c (ruled_after net way port (as_found net way port state.conns packet (look state.conns zone packet)) state (look state.conns zone packet)) (ruled_as (decided_by (deciding net dp way packet)) packet state)) told_so))
                (acls_where (where_tracked is) are b told_so)
        by false is =
            subst DoesAcls (sym (ap (λ c. cond c (ruled_after net way port (as_found net way port state.conns packet (look state.conns zone packet)) state (look state.conns zone packet)) (ruled_as (decided_by (deciding net dp way packet)) packet state)) none_tracked))
            (acls_elsewhere (elsewhere is))
          where
            none_tracked : is_tracked net way port packet ≡ false
            none_tracked = rw is refl
