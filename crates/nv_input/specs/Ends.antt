-- What is true at the end of an input: by what the source and the sink told before and after it, the bytes given and the bytes written.
use Rattle.std.specs.Prelude.{◌≡◌, ℕ, ◌<◌, ◌≤◌, Bool, true, false, List, length, take}
use Rattle.std.specs.Io.KnownBytes.{IsAtEnd}
use Rattle.nv_io.specs.Counts.{Rose}
use Rattle.nv_io.specs.State.{SourceState, SinkState}
use Rattle.nv_reply.specs.Reply.{some_refused}
use Rattle.nv_input.specs.declared.status.Status.{Status}
use Rattle.nv_input.specs.declared.status.Status.TheVariants.{Done, SomeRefused, Usage, ReadFault, WriteFault, InputTooLong, OutOfMemory}
use Rattle.nv_input.specs.Calls.{BeginsDue, told_left}
use Rattle.nv_input.specs.Lines.{lines_of, complete_lines, input_limit}
use Rattle.nv_input.specs.Opening.{Opening, written_for}

-- what the source and the sink tell
abbrev pub States : Type 0
States = SourceState × SinkState

-- no call failed
pub record IsQuiet (old new : States) : Type 0 where
  pub source : new.0.faults ≡ old.0.faults
  pub sink : new.1.faults ≡ old.1.faults

-- the bytes given, and those written
abbrev pub Bytes : Type 0
Bytes = List ℕ × List ℕ

-- the input was read to its end
pub record Finished (first : Opening) (old new : States) (moved : Bytes) (refused : Bool) : Type 0 where
  pub quiet : IsQuiet old new
  pub at_end : IsAtEnd new.0.left
  pub within : length moved.0 ≤ input_limit
  pub whole : moved.1 ≡ written_for first (lines_of moved.0)
  pub refused_is : refused ≡ some_refused first.session (lines_of moved.0)

-- a take failed
pub record ReadFaulted (first : Opening) (old new : States) (moved : Bytes) : Type 0 where
  pub rose : Rose old.0.faults new.0.faults
  pub quiet : new.1.faults ≡ old.1.faults
  pub within : length moved.0 ≤ input_limit
  pub whole : moved.1 ≡ written_for first (complete_lines moved.0)

-- a put failed, where this text is due for an input
pub record WriteFaulted (due : List ℕ → List ℕ) (old new : States) (moved : Bytes) : Type 0 where
  pub rose : Rose old.1.faults new.1.faults
  pub begins : BeginsDue due moved.0 (told_left new.0.left) moved.1

-- the source gave more bytes than an input may have
pub record TooLong (first : Opening) (old new : States) (moved : Bytes) : Type 0 where
  pub quiet : IsQuiet old new
  pub over : input_limit < length moved.0
  pub whole : moved.1 ≡ written_for first (complete_lines (take input_limit moved.0))

-- memory ran out, where this text is due for an input
pub record NoMemory (due : List ℕ → List ℕ) (old new : States) (moved : Bytes) : Type 0 where
  pub quiet : IsQuiet old new
  pub begins : BeginsDue due moved.0 (told_left new.0.left) moved.1

-- what is due for an input
abbrev pub all_written : Opening → List ℕ → List ℕ
all_written first input = written_for first (lines_of input)

-- an input whose lines are answered after this opening, by its status
abbrev pub InputEnds : Opening → States → States → Bytes → Status → Type 0
InputEnds first old new moved Done = Finished first old new moved false
InputEnds first old new moved SomeRefused = Finished first old new moved true
InputEnds first old new moved Usage = ⊥
InputEnds first old new moved ReadFault = ReadFaulted first old new moved
InputEnds first old new moved WriteFault = WriteFaulted (all_written first) old new moved
InputEnds first old new moved InputTooLong = TooLong first old new moved
InputEnds first old new moved OutOfMemory = NoMemory (all_written first) old new moved
