-- What the refusal of arguments puts.
use Rattle.std.specs.Prelude.{ℕ, List}
use Rattle.nv_io.specs.Passed.{IsPrefix}
use Rattle.nv_input.specs.declared.status.Status.{Status}
use Rattle.nv_input.specs.declared.status.Status.TheVariants.{Done, SomeRefused, Usage, ReadFault, WriteFault, InputTooLong, OutOfMemory}
use Rattle.nv_serve.specs.Output.{usage_line}

-- by its status: what it is to write a text, and to fail after one
abbrev pub Refuses : (List ℕ → Type 0) → (List ℕ → Type 0) → Status → Type 0
Refuses wrote failed Done = ⊥
Refuses wrote failed SomeRefused = ⊥
Refuses wrote failed Usage = wrote usage_line
Refuses wrote failed ReadFault = ⊥
Refuses wrote failed WriteFault = (part : List ℕ) × IsPrefix part usage_line × failed part
Refuses wrote failed InputTooLong = ⊥
Refuses wrote failed OutOfMemory = ⊥
