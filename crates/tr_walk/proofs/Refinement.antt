-- Where the pipelines do their parts, the rows do what the network means.
use Rattle.std.proofs.Common.{Bool, ◌≡◌, ℕ, map, sym, ap, refl, ◌∙◌, subst, inl, inr, ◌⊎◌}
use Rattle.std.specs.Prelude.{Some}
use Rattle.std.specs.List.{Contains}
use Rattle.nv_base.specs.declared.object.ObjId.{ObjId}
use Rattle.nv_base.specs.declared.field.Field.TheVariants.{Inport, Outport}
use Rattle.pkt_core.specs.Packet.{Values, IsPacket, value}
use Rattle.ct_core.specs.State.{State}
use Rattle.nb_records.specs.declared.router.RouterPort.{RouterPort}
use Rattle.nb_records.specs.declared.switch.Port.{Port}
use Rattle.nb_model.specs.Network.{Network}
use Rattle.nb_model.specs.Sound.{IsSound}
use Rattle.sb_model.specs.Stage.{last_table}
use Rattle.sb_model.specs.declared.stage.DatapathKind.TheVariants as datapath
use Rattle.net_meaning.specs.Switches.{Did, arriving_at, leaving_by, leaving_late, part_of}
use Rattle.net_meaning.specs.Walk.{Part, carrying}
use Rattle.net_router.specs.Meaning.{at_port, direct_parts, meaning}
use Rattle.net_router.specs.Routers as routers
use Rattle.net_walks.specs.Alike.{Agree, IsClean, IsInside, IsKept, IsPort, SamePart, SameParts}
use Rattle.net_walks.proofs.Congruence.{walks_agree}
use Rattle.tr_stage.specs.declared.outcome.Hit.{Hit}
use Rattle.tr_router.specs.Parts.{DoArrive, DoLeave, DoLeaveLate, IsState}
use Rattle.tr_router.proofs.Egress.{do_leave, do_leave_late}
use Rattle.tr_router.proofs.Ingress.{do_arrive}
use Rattle.tr_walk.specs.Events.{event_of, told_only, without_hits}
use Rattle.tr_walk.specs.Machine.{ingress, egress, late_egress, late_table, machine, pipelines}
use Rattle.tr_walk.specs.Refined.{DoesPart, IsIngress, IsEgress, IsLate, Trace, IsMeant, IsRefined, KeepsStates}
use Rattle.tr_walk.proofs.Datapaths.{late_of_switch}
use Rattle.tr_walk.proofs.Hits.{left_out}
use Rattle.tr_walk.proofs.Kept.{are_packets, arriving_kept, is_fresh, leaving_kept, let_out_kept}
use Rattle.tr_walk.proofs.ToldHits.{same_without}
use Rattle.tr_walk.proofs.States.{arriving_state, leaving_state}
use Rattle.tr_walk.proofs.NetworkPorts.{OfRouter, OfSwitch, on_switch, switch_port_at, whose}
use Rattle.tr_walk.proofs.Parts as parts
use Rattle.tr_walk.proofs.RouterParts.{arrives_same, late_same, leaves_same}

module _ (net : Network) (sound : IsSound net) where
  abbrev Same : Part Hit State → Part (Unit {0}) State → Type 0
  Same part other = SamePart net IsState part other

  -- the port of a number, where the packet came in by it
  came_by : (number : ObjId) (packet : Values) → IsPort net number → value packet Inport ≡ number.0 → IsPort net (record { 0 = value packet Inport })
  came_by number packet is from = subst (λ n. IsPort net (record { 0 = n })) (sym from) is

  -- ---- switches

  -- what is done at a port of a switch
  at_switch : (of_switch : Port → Values → State → Did) (of_router : RouterPort → Values → State → Did) (port : Port) (packet : Values) (state : State) → Contains net.ports port
      → at_port net of_switch of_router port.id packet state ≡ part_of state (Some (of_switch port packet state))
  at_switch of_switch of_router port packet state there = rw (switch_port_at net sound port there) refl

  -- a part of the machine that does it
  same_at : (of_switch : Port → Values → State → Did) (of_router : RouterPort → Values → State → Did) (port : Port) (packet : Values) (state : State) → Contains net.ports port → (part : Part Hit State)
      → DoesPart part (of_switch port packet state) → IsKept net (Some (carrying (of_switch port packet state).passed)) → IsState (of_switch port packet state).state → Same part (at_port net of_switch of_router port.id packet state)
  same_at of_switch of_router port packet state there part is kept are =
      subst (λ (other : Part (Unit {0}) State). Same part other) (sym (at_switch of_switch of_router port packet state there))
      (record { passed = is.passes; state = is.leaves; kept = kept; holds = are })

  -- by the last table of its switch
  late_does : (port : Port) (packet : Values) (state : State) → Contains net.ports port → DoesPart (egress net (last_table datapath.Switch) port.id packet state) (leaving_late port packet state) → DoesPart (late_egress net port.id packet state) (leaving_late port packet state)
  late_does port packet state there does = subst (λ table. DoesPart (egress net table port.id packet state) (leaving_late port packet state)) (sym (ap (late_table net) (on_switch net sound port there) ∙ late_of_switch net sound port there)) does

  -- ---- ports of either kind

  module _ (of_ingress : IsIngress net) (of_egress : IsEgress net) (of_late : IsLate net) (arrive : DoArrive net) (leave : DoLeave net) (leave_late : DoLeaveLate net) where
    module _ (packet : Values) (state : State) (are : IsState state) where
      abbrev Arrives : ObjId → Type 0
      Arrives number = value packet Inport ≡ number.0 → Same (ingress net number packet state) ((direct_parts net).arriving number packet state)

      arriving_same : (number : ObjId) → IsPort net number → IsPacket packet → IsClean packet → Arrives number
      arriving_same number is formed clean = by (whose net number is)
        where
          by : OfSwitch net number ⊎ OfRouter net number → Arrives number
          by (inl own) =
              subst Arrives own.is
              (λ from. same_at (arriving_at net) (routers.arriving_at net) own.port packet state own.among _ (of_ingress own.port packet state own.among are formed (is_fresh packet clean) from)
              (arriving_kept net sound packet formed (came_by own.port.id packet (subst (IsPort net) (sym own.is) is) from) own.port own.among state are) (arriving_state net sound own.port own.among packet state formed are))
          by (inr own) =
              subst Arrives own.is
              (λ from. arrives_same net sound own.port own.among packet state are formed arrive (is_fresh packet clean).flags from (came_by own.port.id packet (subst (IsPort net) (sym own.is) is) from))

      module _ (inside : IsInside net packet) where
        abbrev Leaves : ObjId → Type 0
        Leaves number = value packet Outport ≡ number.0 → Same (egress net 0 number packet state) ((direct_parts net).leaving number packet state)

        leaving_same : (number : ObjId) → IsPort net number → Leaves number
        leaving_same number is = by (whose net number is)
          where
            by : OfSwitch net number ⊎ OfRouter net number → Leaves number
            by (inl own) =
                subst Leaves own.is
                (λ to. same_at (leaving_by net) (routers.leaving_by net) own.port packet state own.among _ (of_egress own.port packet state own.among are inside.formed (is_fresh packet inside.clean) to)
                (leaving_kept net sound packet inside.formed inside.by own.port own.among state are) (leaving_state net sound own.port own.among packet state inside.formed are))
            by (inr own) = subst Leaves own.is (λ to. leaves_same net sound own.port own.among packet state are inside.formed leave (is_fresh packet inside.clean).flags to inside.by)

        abbrev LeavesLate : ObjId → Type 0
        LeavesLate number = value packet Outport ≡ number.0 → Same (late_egress net number packet state) ((direct_parts net).late number packet state)

        leaving_late_same : (number : ObjId) → IsPort net number → LeavesLate number
        leaving_late_same number is = by (whose net number is)
          where
            by : OfSwitch net number ⊎ OfRouter net number → LeavesLate number
            by (inl own) =
                subst LeavesLate own.is
                (λ to. same_at leaving_late routers.leaving_late own.port packet state own.among _ (late_does own.port packet state own.among (of_late own.port packet state own.among inside.formed to))
                (let_out_kept net sound packet inside.formed inside.by own.port own.among) are)
            by (inr own) = subst LeavesLate own.is (λ to. late_same net sound own.port own.among packet state are inside.formed leave_late to inside.by)

    same_parts : SameParts net IsState (pipelines net) (direct_parts net)
    same_parts = record {
      arriving = λ port packet state is formed clean from are. arriving_same packet state are port is formed clean from;
      leaving = λ port packet state is inside to are. leaving_same packet state are inside port is to;
      late = λ port packet state is inside to are. leaving_late_same packet state are inside port is to;
    }

    -- so do the walks
    pub walks_refined : (hops : ℕ) (arrival : ObjId) (packet : Values) (state : State) → IsPort net arrival → IsPacket packet → IsState state
        → Agree IsState (machine net hops arrival packet state) (meaning net hops arrival packet state)
    walks_refined = walks_agree net IsState (pipelines net) (direct_parts net) same_parts (are_packets net sound)

-- ---- all sound networks

module _ (net : Network) (sound : IsSound net) where
  walks_meant : (hops : ℕ) (arrival : ObjId) (packet : Values) (state : State) → IsPort net arrival → IsPacket packet → IsState state
      → Agree IsState (machine net hops arrival packet state) (meaning net hops arrival packet state)
  walks_meant =
      walks_refined net sound (parts.of_ingress net sound) (parts.of_egress net sound) (parts.of_late net sound)
      (do_arrive net sound) (do_leave net sound) (do_leave_late net sound)

  -- so the rows do what the network means
  pub is_refined : IsRefined net
  is_refined hops arrival packet state is formed are = (walks_meant hops arrival packet state is formed are).alike

  -- and what packets leave is a state
  pub keeps_states : KeepsStates net
  keeps_states hops arrival packet state is formed are =
      let agree = walks_meant hops arrival packet state is formed are in
      subst IsState (sym agree.alike.left) agree.holds

-- and so is what is told of its walks
pub told_meant : (net : Network) → IsSound net → (hops : ℕ) (port : ObjId) (packet : Values) (minimal : Bool) (trace : Trace) → IsState trace.before → IsPacket packet
    → trace.told ≡ told_only minimal (map event_of (machine net hops port packet trace.before).told)
    → trace.after ≡ (machine net hops port packet trace.before).state → IsMeant net hops port packet trace
told_meant net sound hops port packet minimal trace are formed told left is =
    let alike = is_refined net sound hops port packet trace.before is formed are in
    record {
      told = ap without_hits told ∙ same_without minimal (map event_of (machine net hops port packet trace.before).told) ∙ left_out (machine net hops port packet trace.before).told ∙ alike.told;
      left = left ∙ alike.left;
    }
