-- What the pipelines of a router do, as parts of a walk.
use Rattle.std.proofs.Common.{◌≡◌, ℕ, ap, refl, sym, subst}
use Rattle.std.specs.Prelude.{Option, Some, option_map}
use Rattle.std.specs.List.{Contains}
use Rattle.nv_base.specs.declared.field.Field.TheVariants.{Inport, Outport}
use Rattle.nv_base.specs.declared.object.ObjId.{ObjId}
use Rattle.pkt_core.specs.Packet.{Values, IsPacket, value}
use Rattle.ct_core.specs.State.{State}
use Rattle.nb_records.specs.declared.router.RouterPort.{RouterPort}
use Rattle.nb_records.specs.declared.switch.Port.{Port}
use Rattle.nb_model.specs.Network.{Network}
use Rattle.nb_model.specs.Sound.{IsSound}
use Rattle.sb_model.specs.Stage.{last_table}
use Rattle.sb_model.specs.declared.stage.DatapathKind.TheVariants as kinds
use Rattle.sb_model.specs.declared.stage.Pipeline.TheVariants.{Ingress, Egress}
use Rattle.net_meaning.specs.Switches as switches
use Rattle.net_meaning.specs.Switches.{Did, part_of}
use Rattle.net_meaning.specs.Walk.{Part, Passed, carrying}
use Rattle.net_meaning.specs.Walk.Passed.{GoesOn, Drops, Makes}
use Rattle.net_meaning.specs.Walk.Target.{OnePort, Ports, Late}
use Rattle.net_meaning.specs.declared.answer.Answer.TheVariants as answer
use Rattle.net_router.specs.Meaning.{at_port, direct_parts}
use Rattle.net_router.specs.Routers.{arriving_at, leaving_by, leaving_late}
use Rattle.net_walks.specs.Alike.{IsKept, IsPort, SamePart}
use Rattle.ls_laws.specs.Steps.{flows_at}
use Rattle.tr_stage.specs.declared.outcome.Hit.{Hit}
use Rattle.tr_stage.specs.declared.outcome.Outcome.{Outcome}
use Rattle.tr_pipe.specs.Machine.{run_pipeline}
use Rattle.tr_router.specs.Parts.{Arrives, DoArrive, DoLeave, DoLeaveLate, IsState, IsUnseen, Leaves}
use Rattle.tr_walk.specs.Machine as walks
use Rattle.tr_walk.specs.Machine.{after_egress, after_ingress, egress, ingress, late_egress, late_table}
use Rattle.tr_walk.proofs.Datapaths.{late_of_router}
use Rattle.tr_walk.proofs.NetworkPorts.{no_switch_port_at, on_router, router_port_at, goes_to_port}
use Rattle.tr_walk.proofs.RouterKept.{arriving_kept, arriving_state, late_kept, leaving_kept, leaving_state}

module _ (net : Network) (sound : IsSound net) where
  -- ---- outcomes

  module _ (dp : ObjId) (last_is : late_table net dp ≡ last_table kinds.Router) where
    arrives_seen : (outcome : Option Outcome) (passed : Passed) → IsKept net (Some (carrying passed)) → Arrives outcome passed → option_map carrying (after_ingress net dp outcome) ≡ Some (carrying passed)
    arrives_seen outcome (Drops cause) kept is = ap (λ o. option_map carrying (after_ingress net dp o)) is
    arrives_seen outcome (GoesOn (OnePort port) packet) kept is = rw (is.1, is.2.by_port, is.2.alike, goes_to_port net sound dp port kept.0) refl
    arrives_seen outcome (GoesOn (Late port) packet) kept is = rw (is.1, last_is, is.2.by_port, is.2.alike) refl
    arrives_seen outcome (GoesOn (Ports ports) packet) kept is = absurd is
    arrives_seen outcome (Makes answer.Reject port packet) kept is = rw (is.1, last_is, is.2.by_port, is.2.alike) refl
    arrives_seen outcome (Makes answer.Arp port packet) kept is = rw (is.1, is.2.by_port, is.2.alike) refl

    leaves_seen : (outcome : Option Outcome) (passed : Passed) → Leaves outcome passed → option_map carrying (after_egress net dp outcome) ≡ Some (carrying passed)
    leaves_seen outcome (Drops cause) is = ap (λ o. option_map carrying (after_egress net dp o)) is
    leaves_seen outcome (GoesOn (OnePort port) packet) is = rw (is.1, is.2.by_port, is.2.alike) refl
    leaves_seen outcome (GoesOn (Late port) packet) is = absurd is
    leaves_seen outcome (GoesOn (Ports ports) packet) is = absurd is
    leaves_seen outcome (Makes why port packet) is = absurd is

  -- ---- parts

  module _ (port : RouterPort) (there : Contains net.router_ports port) where
    late_is : late_table net port.router ≡ last_table kinds.Router
    late_is = late_of_router net sound port there

    -- what is done at its number
    at_number : (of_switch : Port → Values → State → Did) (of_router : RouterPort → Values → State → Did) (packet : Values) (state : State)
        → at_port net of_switch of_router port.id packet state ≡ part_of state (Some (of_router port packet state))
    at_number of_switch of_router packet state = rw (no_switch_port_at net sound port there, router_port_at net sound port there) refl

    -- the part of the machine, on the router of the port
    module _ (packet : Values) (state : State) (are : IsState state) where
      abbrev IsSame : Part Hit State → Part (Unit {0}) State → Type 0
      IsSame part other = SamePart net IsState part other

      abbrev ingress_on : ObjId → Part Hit State
      ingress_on dp = walks.part_of (after_ingress net dp) (run_pipeline (flows_at net dp) Ingress 0 packet state)

      abbrev egress_on : ObjId → Part Hit State
      egress_on dp = walks.part_of (after_egress net dp) (run_pipeline (flows_at net dp) Egress 0 packet state)

      abbrev late_on : ObjId → Part Hit State
      late_on dp = walks.part_of (after_egress net dp) (run_pipeline (flows_at net dp) Egress (late_table net dp) packet state)

      module _ (formed : IsPacket packet) where
        pub arrives_same : DoArrive net → IsUnseen packet → value packet Inport ≡ port.id.0 → IsPort net (record { 0 = value packet Inport }) → IsSame (ingress net port.id packet state) ((direct_parts net).arriving port.id packet state)
        arrives_same does unseen from by =
            let did = does port packet state there formed unseen are from in
            let kept = arriving_kept net sound port there packet state formed by are in
            subst (λ (dp : ObjId). IsSame (ingress_on dp) ((direct_parts net).arriving port.id packet state)) (sym (on_router net sound port there))
            (subst (λ (other : Part (Unit {0}) State). IsSame (ingress_on port.router) other) (sym (at_number (switches.arriving_at net) (arriving_at net) packet state))
            (record {
              passed = arrives_seen port.router late_is _ (arriving_at net port packet state).passed kept did.passes;
              state = did.leaves;
              kept = kept;
              holds = arriving_state net sound port there packet state formed by are;
            }))

        pub leaves_same : DoLeave net → IsUnseen packet → value packet Outport ≡ port.id.0 → IsPort net (record { 0 = value packet Inport }) → IsSame (egress net 0 port.id packet state) ((direct_parts net).leaving port.id packet state)
        leaves_same does unseen to by =
            let did = does port packet state there formed unseen are to in
            subst (λ (dp : ObjId). IsSame (egress_on dp) ((direct_parts net).leaving port.id packet state)) (sym (on_router net sound port there))
            (subst (λ (other : Part (Unit {0}) State). IsSame (egress_on port.router) other) (sym (at_number (switches.leaving_by net) (leaving_by net) packet state))
            (record {
              passed = leaves_seen port.router late_is _ (leaving_by net port packet state).passed did.passes;
              state = did.leaves;
              kept = leaving_kept net sound port there packet formed by state are;
              holds = leaving_state net sound port there packet formed by state are;
            }))

        pub late_same : DoLeaveLate net → value packet Outport ≡ port.id.0 → IsPort net (record { 0 = value packet Inport }) → IsSame (late_egress net port.id packet state) ((direct_parts net).late port.id packet state)
        late_same does to by =
            let did = does port packet state there formed to in
            subst (λ (dp : ObjId). IsSame (late_on dp) ((direct_parts net).late port.id packet state)) (sym (on_router net sound port there))
            (subst (λ (other : Part (Unit {0}) State). IsSame (late_on port.router) other) (sym (at_number switches.leaving_late leaving_late packet state))
            (record {
              passed = by_table (late_table net port.router) late_is did.passes;
              state = of_table (late_table net port.router) late_is did.leaves;
              kept = late_kept net sound port there packet state formed by are;
              holds = are;
            }))
          where
            by_table : (table : ℕ) → table ≡ last_table kinds.Router → Leaves (run_pipeline (flows_at net port.router) Egress (last_table kinds.Router) packet state).outcome (leaving_late port packet state).passed
                → option_map carrying (after_egress net port.router (run_pipeline (flows_at net port.router) Egress table packet state).outcome) ≡ Some (carrying (leaving_late port packet state).passed)
            by_table table is passes = rw is (leaves_seen port.router late_is _ (leaving_late port packet state).passed passes)

            of_table : (table : ℕ) → table ≡ last_table kinds.Router → (run_pipeline (flows_at net port.router) Egress (last_table kinds.Router) packet state).state ≡ state → (run_pipeline (flows_at net port.router) Egress table packet state).state ≡ state
            of_table table is leaves = rw is leaves
