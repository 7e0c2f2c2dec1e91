use Rattle.nb_cmds.proofs.CommandReadings.{command_readable}
use Rattle.nb_cmds.proofs.readings.what_commands_ask_for_is_readable.Goals as goal

pub returns : goal.returns
returns c = command_readable
