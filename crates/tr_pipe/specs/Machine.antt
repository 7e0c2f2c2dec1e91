-- The run of a packet through one pipeline of a datapath, a step for each stage, with the connections that it is tracked in and the
-- neighbours that are known (ovn-sb(5), 'Logical_Flow TABLE'; ovn-architecture(7)).
use Rattle.std.specs.Prelude.{ℕ, zero, suc, if◌then◌else◌, List, [], ◌∷◌, ◌++◌, Option, Some, None}
use Rattle.nv_base.specs.declared.ip4.Ip4.{Ip4}
use Rattle.nv_base.specs.declared.object.ObjId.{ObjId}
use Rattle.pkt_core.specs.declared.tuple.Tuple.{Tuple}
use Rattle.pkt_core.specs.Packet.{Values}
use Rattle.pkt_core.specs.Prerequisite.{is_ip4}
use Rattle.pkt_core.specs.Tuple.{tuple, with_tuple}
use Rattle.ct_core.specs.declared.entry.Entry.{Entry}
use Rattle.ct_core.specs.declared.look.Look.{Look}
use Rattle.ct_core.specs.declared.look.Look.TheVariants.{New}
use Rattle.ct_core.specs.declared.zone.Zone.{Zone}
use Rattle.ct_core.specs.declared.zone.Zone.TheVariants.{Dnat, Snat}
use Rattle.ct_core.specs.Changes.{recorded}
use Rattle.ct_core.specs.Look.{look}
use Rattle.ct_core.specs.State.{State, with_conns}
use Rattle.ct_core.specs.Translation.{begun_as, followed, forth, snat_port, with_source}
use Rattle.expr_core.specs.Lookup.{Lookup}
use Rattle.act_core.specs.declared.action.Action.{Action}
use Rattle.act_core.specs.declared.action.Action.TheVariants as action
use Rattle.act_core.specs.declared.step.Step.{Step}
use Rattle.act_core.specs.declared.step.Step.TheVariants.{CtNext, CtLb, CtLbTo, CtCommit, CtSnat, CtSnatTo, CtDnat, CtDnatTo, PutArp, GetArp}
use Rattle.sb_model.specs.declared.stage.Stage.{Stage}
use Rattle.sb_model.specs.declared.stage.Pipeline.{Pipeline}
use Rattle.sb_model.specs.declared.row.Row.{Row}
use Rattle.sb_model.specs.Stage.{pipeline_of, stage_at, next_stage}
use Rattle.net_meaning.specs.declared.cause.Cause.TheVariants.{CtFull, NoPort}
use Rattle.tr_stage.specs.declared.outcome.Hit.{Hit}
use Rattle.tr_stage.specs.declared.outcome.Outcome.{Outcome}
use Rattle.tr_stage.specs.declared.outcome.Outcome.TheVariants.{Drop}
use Rattle.tr_stage.specs.Machine as packets
use Rattle.tr_stage.specs.Machine.{Flows, acting, hit_at, kind_of, step_budget}
use Rattle.tr_pipe.specs.Learning.{resolved, with_sender}
use Rattle.tr_pipe.specs.Tracking.{Flight, coming, committed, tracked, with_packet, zone_of}
use Rattle.tr_pipe.specs.Translating.{balanced_to, redirected_to, tracked_by, unhidden, way_of, zone_at}

-- How a packet's step through a stage ends: it goes on at a stage, or it comes to the end of the pipeline, which leaves a state.
pub data StageEnd : Type 0 where
  On : Stage → Flight → StageEnd
  Ends : Option Outcome → State → StageEnd

-- on to the stage, if there is one
abbrev pub on_to : Option Stage → Flight → StageEnd
on_to (Some stage) flight = On stage flight
on_to None flight = Ends None flight.state

-- what an action does: it changes the packet or the state, or it ends the step
pub data Effect : Type 0 where
  Changed : Flight → Effect
  Done : StageEnd → Effect

-- what asks for no connection and no neighbour does to the packet what it does to any, and leaves the state
abbrev pub ended : Flight → packets.StageEnd → StageEnd
ended flight (packets.StageEnd.On stage packet) = On stage (with_packet flight packet)
ended flight (packets.StageEnd.Ends outcome) = Ends outcome flight.state

abbrev pub done : Flight → packets.Effect → Effect
done flight (packets.Effect.Changed packet) = Changed (with_packet flight packet)
done flight (packets.Effect.Done end) = Done (ended flight end)

-- the packet goes on with the state that a commit leaves; where there was no room, it is dropped
abbrev pub kept : Flight → Option State → Effect
kept flight (Some state) = Changed (record flight { state = state })
kept flight None = Done (Ends (Some (Drop CtFull)) flight.state)

-- a packet that begins a connection goes on with the connections that are left; where there was no room, it is dropped
abbrev pub where_room : Option Stage → Flight → Option (List Entry) → StageEnd
where_room next flight (Some conns) = on_to next (record flight { state = with_conns conns flight.state })
where_room next flight None = Ends (Some (Drop CtFull)) flight.state

-- a packet gets a tuple, and begins a connection in a zone; where there is none for it, it goes on as it is
abbrev pub bound : Option Stage → Zone → Tuple → Flight → StageEnd
bound next zone t flight = where_room next (with_packet flight (with_tuple flight.packet t)) (recorded (begun_as zone t flight.packet) flight.state.conns)

abbrev pub bound_if : Option Stage → Zone → Option Tuple → Flight → StageEnd
bound_if next zone (Some t) flight = bound next zone t flight
bound_if next zone None flight = on_to next flight

-- a packet that begins a connection gets an external address and the port that is chosen; where none is free, it is dropped
abbrev pub with_port : Option Stage → Zone → Ip4 → Option ℕ → Flight → StageEnd
with_port next zone external (Some port) flight = bound next zone (with_source external port (tuple flight.packet)) flight
with_port next zone external None flight = Ends (Some (Drop NoPort)) flight.state

abbrev pub hidden_by : Option Stage → Zone → Ip4 → Flight → Look → StageEnd
hidden_by next zone external flight New = with_port next zone external (snat_port flight.state.conns zone (tuple flight.packet) external) flight
hidden_by next zone external flight found = on_to next (with_packet flight (forth flight.state.conns flight.packet found))

-- a packet of IPv4 is looked up in a zone, and comes from an external address; what else is known of it stays
abbrev pub hidden : Option Stage → Zone → Ip4 → Flight → StageEnd
hidden next zone external flight =
    if is_ip4 flight.packet then hidden_by next zone external flight (look flight.state.conns zone flight.packet) else on_to next flight

-- what an action of a row in a stage of a datapath does
abbrev pub effect : Lookup → ObjId → Stage → Step → Flight → Effect
effect net dp stage CtNext flight = Done (on_to (next_stage stage) (tracked (zone_of (pipeline_of stage) flight.packet) flight))
effect net dp stage CtLb flight = Done (on_to (next_stage stage) (tracked_by followed (zone_at dp stage flight.packet) flight))
effect net dp stage (CtLbTo targets) flight = Done (bound_if (next_stage stage) (zone_at dp stage flight.packet) (balanced_to targets flight.packet) flight)
effect net dp stage (CtCommit blocked) flight = kept flight (committed (zone_of (pipeline_of stage) flight.packet) blocked flight.packet flight.state flight.look)
effect net dp stage CtSnat flight = Done (on_to (next_stage stage) (unhidden (Snat dp) flight))
effect net dp stage (CtSnatTo external) flight = Done (hidden (next_stage stage) (Snat dp) external flight)
effect net dp stage CtDnat flight = Done (on_to (next_stage stage) (tracked_by (way_of (pipeline_of stage)) (Dnat dp) flight))
effect net dp stage (CtDnatTo addr) flight = Done (bound (next_stage stage) (Dnat dp) (redirected_to addr flight.packet) flight)
effect net dp stage PutArp flight = Changed (record flight { state = with_sender flight.packet flight.state })
effect net dp stage GetArp flight = Changed (with_packet flight (resolved flight.state.nbrs flight.packet))
effect net dp stage step flight = done flight (packets.effect net stage step flight.packet)

-- after an action: the others follow, or none does
abbrev pub after : Effect → (Flight → StageEnd) → StageEnd
after (Changed flight) others = others flight
after (Done end) others = end

-- what actions do, one after the other; nothing follows a block
abbrev pub run_actions : Lookup → ObjId → Stage → List Action → Flight → StageEnd
run_actions net dp stage [] flight = Ends None flight.state
run_actions net dp stage (action.Step step ∷ others) flight = after (effect net dp stage step flight) (run_actions net dp stage others)
run_actions net dp stage (block ∷ []) flight = ended flight (packets.run_actions net stage (block ∷ []) flight.packet)
run_actions net dp stage (_ ∷ others) flight = Ends None flight.state

-- what a row does
abbrev pub acted : Lookup → ObjId → Stage → Flight → Option Row → StageEnd
acted net dp stage flight (Some row) = run_actions net dp stage row.actions flight
acted net dp stage flight None = Ends None flight.state

-- a packet's step through a stage
unfoldable pub step : Flows → Stage → Flight → StageEnd
step flows stage flight = acted flows.net flows.dp stage flight (acting flows stage flight.packet)

-- a packet's run through a pipeline: the hits, in order, the outcome, if there is one, and the state that is left
pub record PipelineRun : Type 0 where
  pub hits : List Hit
  pub outcome : Option Outcome
  pub state : State

-- a run that begins with these hits
abbrev pub after_hits : List Hit → PipelineRun → PipelineRun
after_hits hits rest = record rest { hits = hits ++ rest.hits }

-- a run that is over
abbrev pub over : Option Outcome → State → PipelineRun
over outcome state = record { hits = []; outcome = outcome; state = state }

-- how a run goes on after a step; `run_at` gives the run from a stage on
abbrev pub go_on : (Stage → Flight → PipelineRun) → StageEnd → PipelineRun
go_on run_at (On stage flight) = run_at stage flight
go_on run_at (Ends outcome state) = over outcome state

-- the run from a stage on, in at most this many steps
unfoldable pub run_from : Flows → ℕ → Stage → Flight → PipelineRun
run_from flows zero stage flight = over None flight.state
run_from flows (suc budget) stage flight = after_hits (hit_at flows stage flight.packet) (go_on (run_from flows budget) (step flows stage flight))

-- the run of a packet through a pipeline of the datapath, from this table on
unfoldable pub run_pipeline : Flows → Pipeline → ℕ → Values → State → PipelineRun
run_pipeline flows pipeline table packet state = go_on (run_from flows step_budget) (on_to (stage_at (kind_of flows) pipeline table) (coming packet state))
