-- Which statuses are ends of the input.
use Rattle.nv_input.specs.declared.status.Status.{Status}
use Rattle.nv_input.specs.declared.status.Status.TheVariants.{Done, SomeRefused, Usage, ReadFault, WriteFault, InputTooLong, OutOfMemory}

-- the input was read to its end
abbrev pub IsFinished : Status → Type 0
IsFinished Done = Unit {0}
IsFinished SomeRefused = Unit {0}
IsFinished Usage = ⊥
IsFinished ReadFault = ⊥
IsFinished WriteFault = ⊥
IsFinished InputTooLong = ⊥
IsFinished OutOfMemory = ⊥
