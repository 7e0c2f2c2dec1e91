-- How a step of the machine ends, where the packet is told apart.
use Rattle.std.specs.Prelude.{Some}
use Rattle.pkt_core.specs.Packet.{Values}
use Rattle.tr_stage.specs.declared.act.Ending.{Ending}
use Rattle.tr_stage.specs.declared.act.Ending.TheVariants as endings
use Rattle.tr_stage.specs.declared.outcome.Outcome.TheVariants as outcomes
use Rattle.tr_stage.specs.Machine.{StageEnd, sent}
use Rattle.tr_stage.specs.Machine.StageEnd.{On, Ends}

-- the ending with this packet
abbrev pub with_packet : Ending → Values → StageEnd
with_packet (endings.On stage) packet = On stage packet
with_packet (endings.Sent pipeline) packet = Ends (Some (sent pipeline packet))
with_packet (endings.Left table) packet = Ends (Some (outcomes.Leave packet table))
with_packet (endings.Made table answer) packet = Ends (Some (outcomes.Made packet table answer))
with_packet (endings.Dropped cause) packet = Ends (Some (outcomes.Drop cause))
