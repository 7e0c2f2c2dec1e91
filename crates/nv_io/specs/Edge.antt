-- What clauses see of an adapter of a standard stream.
use Rattle.std.specs.Prelude.{◌≡◌, ℕ, List, take, Option, Result, Ok, Err}
use Rattle.std.specs.Io.KnownBytes.{Appends, Consumes, Keeps}
use Rattle.nv_io.specs.Counts.{next_count, count_after}
use Rattle.nv_io.specs.declared.sink.SinkFailed.{SinkFailed}
use Rattle.nv_io.specs.declared.source.SourceFailed.{SourceFailed}

-- the reader or the writer inside, and the counts of the bytes that passed, of calls and of faults
pub record Edge (R : Type 0) : Type 0 where
  pub inner : R
  pub amount : ℕ
  pub calls : ℕ
  pub faults : ℕ

-- the counts after a call that passed this many bytes
abbrev pub Passed : {R : Type 0} → Edge R → ℕ → Edge R → Type 0
Passed old n new = (new.amount ≡ count_after old.amount n) × (new.calls ≡ next_count old.calls) × (new.faults ≡ old.faults)

-- the counts after a call that failed
abbrev pub Failed : {R : Type 0} → Edge R → Edge R → Type 0
Failed old new = (new.amount ≡ old.amount) × (new.calls ≡ next_count old.calls) × (new.faults ≡ next_count old.faults)

-- One take of a reader that tells its bytes, or some of them, by remaining.
abbrev pub IsEdgeTake : {R : Type 0} → (R → Option (List ℕ)) → Edge R → List ℕ → Result ℕ SourceFailed → Edge R → Type 0
IsEdgeTake remaining old into (Ok n) new = Consumes (remaining old.inner) (remaining new.inner) (take n into) × Passed old n new
IsEdgeTake remaining old into (Err failed) new = Keeps (remaining old.inner) (remaining new.inner) × Failed old new

-- One put of a writer that tells its bytes, or some of them, by contents.
abbrev pub IsEdgePut : {W : Type 0} → (W → Option (List ℕ)) → Edge W → List ℕ → Result ℕ SinkFailed → Edge W → Type 0
IsEdgePut contents old bytes (Ok n) new = Appends (contents old.inner) (contents new.inner) (take n bytes) × Passed old n new
IsEdgePut contents old bytes (Err failed) new = Keeps (contents old.inner) (contents new.inner) × Failed old new
