-- The bytes that a source gives and a sink takes.
use Rattle.std.specs.Prelude.{◌≡◌, ℕ, List, [], ◌++◌, length, take, Result, Ok}
use Rattle.std.specs.Io.KnownBytes.{Appends, Consumes}
use Rattle.nv_io.specs.Counts.{count_after}
use Rattle.nv_io.specs.State.{SourceState, SinkState}
use Rattle.nv_io.specs.declared.sink.SinkFailed.{SinkFailed}

-- a text that begins another
abbrev pub IsPrefix : List ℕ → List ℕ → Type 0
IsPrefix part whole = (more : List ℕ) × (whole ≡ part ++ more)

-- the source gave these bytes
pub record Gave (old new : SourceState) (bytes : List ℕ) : Type 0 where
  pub told : Consumes old.left new.left bytes
  pub amount : new.given ≡ count_after old.given (length bytes)

-- the sink took these bytes
pub record Took (old new : SinkState) (bytes : List ℕ) : Type 0 where
  pub told : Appends old.taken new.taken bytes
  pub amount : new.amount ≡ count_after old.amount (length bytes)

-- puts that all succeeded lead from one sink to another, and passed these bytes
pub data Puts {K : Type 0} (put_gives : K → List ℕ → Result ℕ SinkFailed → K → Type 0) (old : K) : List ℕ → K → Type 0 where
  no_put : Puts put_gives old [] old
  and_put : {k l : K} {n : ℕ} {written : List ℕ} (offered : List ℕ) → Puts put_gives old written k → put_gives k offered (Ok n) l → Puts put_gives old (written ++ take n offered) l
