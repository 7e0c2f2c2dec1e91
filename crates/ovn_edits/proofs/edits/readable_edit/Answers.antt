use Rattle.ovn_edits.proofs.Asked.{asked_readable}
use Rattle.ovn_edits.proofs.edits.readable_edit.Goals as goal

pub returns : goal.returns
returns c = asked_readable c.args.command.now c.read_command.result c.read_command.ensures.read
