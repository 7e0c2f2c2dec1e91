-- What the end of a conversation says of its status.
use Rattle.std.proofs.Common.{◌≡◌, ℕ, Bool, true, false, List, Result, subst}
use Rattle.nv_io.specs.State.{SourceState, SinkState}
use Rattle.nv_io.specs.declared.sink.SinkFailed.{SinkFailed}
use Rattle.nv_io.specs.declared.source.SourceFailed.{SourceFailed}
use Rattle.nv_reply.specs.declared.stop.Stop.{Stop}
use Rattle.nv_reply.specs.declared.stop.Stop.TheVariants as stops
use Rattle.nv_input.specs.declared.status.Status.{Status}
use Rattle.nv_input.specs.declared.status.Status.TheVariants.{Done, SomeRefused}
use Rattle.nv_input.specs.Calls.{Moved, start_at, LastTakeGivesNothing, NothingFollowsAFault}
use Rattle.nv_input.specs.Ends.{Finished, InputEnds}
use Rattle.nv_input.specs.Opening.{Opening}
use Rattle.nv_input.specs.inner.Stops.{status_of, StopEnds, StopCalls}

module _ {S K : Type 0} (takes : S → List ℕ → Result ℕ SourceFailed → S → Type 0) (source_state : S → SourceState) (puts : K → List ℕ → Result ℕ SinkFailed → K → Type 0) (sink_state : K → SinkState) (s : S) (k : K) (t : S) (l : K) where
  -- an input that ended so
  abbrev pub EndedFrom : Opening → Status → Type 0
  EndedFrom first status =
      Moved source_state sink_state (s, k) (t, l) (λ given written.
      InputEnds first (source_state s, sink_state k) (source_state t, sink_state l) (given, written) status
      × NothingFollowsAFault takes puts (start_at first s k) (record { first = first; source = t; sink = l; given = given; written = written }) status)

  -- a conversation that is stopped
  abbrev pub StoppedFrom : Opening → Stop → Type 0
  StoppedFrom first stop =
      Moved source_state sink_state (s, k) (t, l) (λ given written.
      StopEnds first (source_state s, sink_state k) (source_state t, sink_state l) (given, written) stop
      × StopCalls takes puts (start_at first s k) (record { first = first; source = t; sink = l; given = given; written = written }) stop)

  stopped_so : (first : Opening) (stop : Stop) → StoppedFrom first stop → EndedFrom first (status_of stop)
  stopped_so first stops.ReadFault ends = ends
  stopped_so first stops.WriteFault ends = ends
  stopped_so first stops.InputTooLong ends = ends
  stopped_so first stops.OutOfMemory ends = ends

  pub stopped : (first other : Opening) (stop : Stop) → other ≡ first → StoppedFrom other stop → EndedFrom first (status_of stop)
  stopped first other stop is ends = stopped_so first stop (subst (λ from. StoppedFrom from stop) is ends)

  -- a conversation that reads its input to the end
  abbrev pub FinishedFrom : Opening → Bool → Type 0
  FinishedFrom first refused =
      Moved source_state sink_state (s, k) (t, l) (λ given written.
      Finished first (source_state s, sink_state k) (source_state t, sink_state l) (given, written) refused
      × LastTakeGivesNothing takes puts (start_at first s k) (record { first = first; source = t; sink = l; given = given; written = written }))

  pub all_done : (first other : Opening) (refused : Bool) → other ≡ first → refused ≡ false → FinishedFrom other refused → EndedFrom first Done
  all_done first other refused is none ends = subst (λ some. FinishedFrom first some) none (subst (λ from. FinishedFrom from refused) is ends)

  pub done_but_some : (first other : Opening) (refused : Bool) → other ≡ first → refused ≡ true → FinishedFrom other refused → EndedFrom first SomeRefused
  done_but_some first other refused is some ends = subst (λ some. FinishedFrom first some) some (subst (λ from. FinishedFrom from refused) is ends)
