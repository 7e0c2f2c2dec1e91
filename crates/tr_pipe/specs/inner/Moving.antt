-- A packet within a pipeline as the machine has it, and how a step ends with it.
use Rattle.std.specs.Prelude.{Option, Some, None}
use Rattle.std.specs.declared.ops.ControlFlow.{ControlFlow}
use Rattle.std.specs.declared.ops.ControlFlow.TheVariants.{Continue, Break}
use Rattle.pkt_core.specs.Packet.{Values}
use Rattle.ct_core.specs.State.{State}
use Rattle.sb_model.specs.declared.stage.Stage.{Stage}
use Rattle.tr_stage.specs.Machine as packets
use Rattle.tr_stage.specs.declared.outcome.Outcome.{Outcome}
use Rattle.tr_stage.specs.declared.act.Ending.{Ending}
use Rattle.tr_stage.specs.Ending.{with_packet}
use Rattle.tr_pipe.specs.declared.moving.Moving.{Moving}
use Rattle.tr_pipe.specs.Machine.{Effect, StageEnd, ended}
use Rattle.tr_pipe.specs.Machine.Effect.{Changed, Done}
use Rattle.tr_pipe.specs.Tracking.{Flight}

-- with the state beside it
abbrev pub in_flight : Moving → State → Flight
in_flight moving state = record { packet = moving.packet; look = moving.look; state = state }

-- the ending with this packet
abbrev pub with_flight : Ending → Flight → StageEnd
with_flight ending flight = ended flight (with_packet ending flight.packet)

-- the effect of an action after which the packet goes on, or the step ends
abbrev pub effect_of : Option Ending → Flight → Effect
effect_of None flight = Changed flight
effect_of (Some ending) flight = Done (with_flight ending flight)

-- a packet goes on at a stage, or this becomes of it
abbrev pub end_of : ControlFlow Outcome Stage → Values → packets.StageEnd
end_of (Continue stage) packet = packets.StageEnd.On stage packet
end_of (Break outcome) packet = packets.StageEnd.Ends (Some outcome)
