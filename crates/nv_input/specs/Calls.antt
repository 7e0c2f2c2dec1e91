-- The calls that a run makes of its source and its sink, and the bytes that they pass.
use Rattle.std.specs.Prelude.{◌≡◌, ℕ, ◌≤◌, List, [], ◌++◌, length, take, Option, Some, None, Result, Ok, Err}
use Rattle.nv_io.specs.Passed.{IsPrefix, Gave, Took, Puts}
use Rattle.nv_io.specs.State.{SourceState, SinkState}
use Rattle.nv_io.specs.declared.sink.SinkFailed.{SinkFailed}
use Rattle.nv_io.specs.declared.source.SourceFailed.{SourceFailed}
use Rattle.nv_input.specs.Lines.{complete_lines}
use Rattle.nv_input.specs.Opening.{Opening, written_for}
use Rattle.nv_input.specs.declared.status.Status.{Status}
use Rattle.nv_input.specs.declared.status.Status.TheVariants.{Done, SomeRefused, Usage, ReadFault, WriteFault, InputTooLong, OutOfMemory}

-- the source gave some bytes and the sink took some, of which this holds
abbrev pub Moved : {S K : Type 0} → (S → SourceState) → (K → SinkState) → S × K → S × K → (List ℕ → List ℕ → Type 0) → Type 0
Moved source_state sink_state old new P =
    (given : List ℕ) × (written : List ℕ) × Gave (source_state old.0) (source_state new.0) given × Took (sink_state old.1) (sink_state new.1) written × P given written

-- a text that begins what is due both for the bytes given and for these with those that follow
abbrev pub BeginsDue : (List ℕ → List ℕ) → List ℕ → List ℕ → List ℕ → Type 0
BeginsDue due given following written = IsPrefix written (due given) × IsPrefix written (due (given ++ following))

-- the bytes still to come, where the source tells them
abbrev pub told_left : Option (List ℕ) → List ℕ
told_left None = []
told_left (Some bytes) = bytes

-- how far a run is: what it began with, its source and its sink, the bytes given so far, and those written so far
pub record Point (S K : Type 0) : Type 0 where
  pub first : Opening
  pub source : S
  pub sink : K
  pub given : List ℕ
  pub written : List ℕ

-- before the first call
abbrev pub start_at : {S K : Type 0} → Opening → S → K → Point S K
start_at first source sink = record { first = first; source = source; sink = sink; given = []; written = [] }

-- no more bytes than this are read at a time
abbrev pub piece_limit : ℕ
piece_limit = 4096

-- A take may be made now, into a buffer of this size: each complete line of what was given is answered.
pub record IsReady {S K : Type 0} (point : Point S K) (size : ℕ) : Type 0 where
  pub small : size ≤ piece_limit
  pub answered : point.written ≡ written_for point.first (complete_lines point.given)

-- takes and puts that all succeeded, in this order, lead from the start to a point
pub data Calls {S K : Type 0} (take_gives : S → List ℕ → Result ℕ SourceFailed → S → Type 0) (put_gives : K → List ℕ → Result ℕ SinkFailed → K → Type 0) (start : Point S K) : Point S K → Type 0 where
  no_call : Calls take_gives put_gives start start
  and_take : {p : Point S K} {n : ℕ} {s : S} (into : List ℕ) → Calls take_gives put_gives start p → IsReady p (length into) → take_gives p.source into (Ok n) s
      → Calls take_gives put_gives start (record p { source = s; given = p.given ++ take n into })
  and_puts : {p : Point S K} {k : K} (text : List ℕ) → Calls take_gives put_gives start p → Puts put_gives p.sink text k
      → Calls take_gives put_gives start (record p { sink = k; written = p.written ++ text })

module _ {S K : Type 0} (take_gives : S → List ℕ → Result ℕ SourceFailed → S → Type 0) (put_gives : K → List ℕ → Result ℕ SinkFailed → K → Type 0) where
  -- the last take gave nothing, and only puts follow it
  pub record LastTakeGivesNothing (start end : Point S K) : Type 0 where
    pub last : Point S K
    pub calls : Calls take_gives put_gives start last
    pub into : List ℕ
    pub ready : IsReady last (length into)
    pub ended : take_gives last.source into (Ok 0) end.source
    pub text : List ℕ
    pub puts : Puts put_gives last.sink text end.sink
    pub given : end.given ≡ last.given
    pub written : end.written ≡ last.written ++ text

  -- the last call is a take, and it alone failed
  pub record LastTakeFails (start end : Point S K) : Type 0 where
    pub last : Point S K
    pub calls : Calls take_gives put_gives start last
    pub into : List ℕ
    pub ready : IsReady last (length into)
    pub failed : take_gives last.source into (Err (record {})) end.source
    pub same : end ≡ record last { source = end.source }

  -- the last call is a put, and it alone failed
  pub record LastPutFails (start end : Point S K) : Type 0 where
    pub last : Point S K
    pub calls : Calls take_gives put_gives start last
    pub offered : List ℕ
    pub failed : put_gives last.sink offered (Err (record {})) end.sink
    pub same : end ≡ record last { sink = end.sink }

-- The calls of a run, by its status. All succeeded, but that a fault is the answer of the very last.
abbrev pub NothingFollowsAFault : {S K : Type 0} → (S → List ℕ → Result ℕ SourceFailed → S → Type 0) → (K → List ℕ → Result ℕ SinkFailed → K → Type 0) → Point S K → Point S K → Status → Type 0
NothingFollowsAFault take_gives put_gives start end Done = LastTakeGivesNothing take_gives put_gives start end
NothingFollowsAFault take_gives put_gives start end SomeRefused = LastTakeGivesNothing take_gives put_gives start end
NothingFollowsAFault take_gives put_gives start end Usage = Calls take_gives put_gives start end
NothingFollowsAFault take_gives put_gives start end ReadFault = LastTakeFails take_gives put_gives start end
NothingFollowsAFault take_gives put_gives start end WriteFault = LastPutFails take_gives put_gives start end
NothingFollowsAFault take_gives put_gives start end InputTooLong = Calls take_gives put_gives start end
NothingFollowsAFault take_gives put_gives start end OutOfMemory = Calls take_gives put_gives start end
