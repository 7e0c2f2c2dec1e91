-- How a run ends, by its arguments and its status: what was given, what was written, and why.
use Rattle.std.specs.Prelude.{◌≡◌, true, false, List, []}
use Rattle.clap.specs.Words.{Text}
use Rattle.nv_options.specs.Options.{accepts}
use Rattle.nv_input.specs.declared.status.Status.{Status}
use Rattle.nv_input.specs.declared.status.Status.TheVariants.{Done, SomeRefused, Usage, ReadFault, WriteFault, InputTooLong, OutOfMemory}
use Rattle.nv_input.specs.Ends.{States, Bytes, Finished, ReadFaulted, WriteFaulted, TooLong, NoMemory}
use Rattle.nv_serve.specs.Output.{opened, output, usage_line}

-- where the arguments are accepted, the lines of the input are answered; else nothing is read, and how the program is called is told
abbrev pub Ends : List Text → States → States → Bytes → Status → Type 0
Ends words old new moved Done = (accepts words ≡ true) × Finished (opened words) old new moved false
Ends words old new moved SomeRefused = (accepts words ≡ true) × Finished (opened words) old new moved true
Ends words old new moved Usage = (accepts words ≡ false) × (new.0 ≡ old.0) × (moved.0 ≡ []) × (moved.1 ≡ usage_line)
Ends words old new moved ReadFault = (accepts words ≡ true) × ReadFaulted (opened words) old new moved
Ends words old new moved WriteFault = WriteFaulted (output words) old new moved
Ends words old new moved InputTooLong = (accepts words ≡ true) × TooLong (opened words) old new moved
Ends words old new moved OutOfMemory = NoMemory (output words) old new moved
