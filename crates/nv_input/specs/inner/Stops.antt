-- What is true where no more lines are run.
use Rattle.std.specs.Prelude.{ℕ, List, Result}
use Rattle.nv_io.specs.declared.sink.SinkFailed.{SinkFailed}
use Rattle.nv_io.specs.declared.source.SourceFailed.{SourceFailed}
use Rattle.nv_reply.specs.declared.stop.Stop.{Stop}
use Rattle.nv_reply.specs.declared.stop.Stop.TheVariants as stops
use Rattle.nv_input.specs.declared.status.Status.{Status}
use Rattle.nv_input.specs.declared.status.Status.TheVariants.{ReadFault, WriteFault, InputTooLong, OutOfMemory}
use Rattle.nv_input.specs.Calls.{Point, Calls, LastTakeFails, LastPutFails}
use Rattle.nv_input.specs.Ends.{States, Bytes, ReadFaulted, WriteFaulted, TooLong, NoMemory, all_written}
use Rattle.nv_input.specs.Opening.{Opening}

-- the status of a run that is stopped
abbrev pub status_of : Stop → Status
status_of stops.ReadFault = ReadFault
status_of stops.WriteFault = WriteFault
status_of stops.InputTooLong = InputTooLong
status_of stops.OutOfMemory = OutOfMemory

-- a run that is stopped
abbrev pub StopEnds : Opening → States → States → Bytes → Stop → Type 0
StopEnds first old new moved stops.ReadFault = ReadFaulted first old new moved
StopEnds first old new moved stops.WriteFault = WriteFaulted (all_written first) old new moved
StopEnds first old new moved stops.InputTooLong = TooLong first old new moved
StopEnds first old new moved stops.OutOfMemory = NoMemory (all_written first) old new moved

-- its calls
abbrev pub StopCalls : {S K : Type 0} → (S → List ℕ → Result ℕ SourceFailed → S → Type 0) → (K → List ℕ → Result ℕ SinkFailed → K → Type 0) → Point S K → Point S K → Stop → Type 0
StopCalls take_gives put_gives start end stops.ReadFault = LastTakeFails take_gives put_gives start end
StopCalls take_gives put_gives start end stops.WriteFault = LastPutFails take_gives put_gives start end
StopCalls take_gives put_gives start end stops.InputTooLong = Calls take_gives put_gives start end
StopCalls take_gives put_gives start end stops.OutOfMemory = Calls take_gives put_gives start end
