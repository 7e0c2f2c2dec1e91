-- How a run ends.
use Rattle.std.specs.Prelude.{ℕ}
use Rattle.nv_input.specs.declared.status.Status.{Status}
use Rattle.nv_input.specs.declared.status.Status.TheVariants.{Done, SomeRefused, Usage, ReadFault, WriteFault, InputTooLong, OutOfMemory}

-- the exit status of the process
abbrev pub exit_status : Status → ℕ
exit_status Done = 0
exit_status SomeRefused = 1
exit_status Usage = 2
exit_status ReadFault = 3
exit_status WriteFault = 4
exit_status InputTooLong = 5
exit_status OutOfMemory = 6
