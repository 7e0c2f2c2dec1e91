-- What putting a text does to the sink.
use Rattle.std.specs.Prelude.{◌≡◌, ℕ, List, Result, Err}
use Rattle.nv_io.specs.Counts.{Rose}
use Rattle.nv_io.specs.State.{SinkState}
use Rattle.nv_io.specs.declared.sink.SinkFailed.{SinkFailed}
use Rattle.nv_io.specs.Passed.{Took, Puts}

module _ {K : Type 0} (put_gives : K → List ℕ → Result ℕ SinkFailed → K → Type 0) (state : K → SinkState) where
  -- the sink took this text, and no put failed
  pub record Wrote (old new : K) (text : List ℕ) : Type 0 where
    pub puts : Puts put_gives old text new
    pub took : Took (state old) (state new) text
    pub quiet : (state new).faults ≡ (state old).faults

  -- the sink took this text, and then a put failed, which was the last
  pub record PutFailed (old new : K) (text : List ℕ) : Type 0 where
    pub before : K
    pub puts : Puts put_gives old text before
    pub offered : List ℕ
    pub failed : put_gives before offered (Err (record {})) new
    pub took : Took (state old) (state new) text
    pub rose : Rose (state old).faults (state new).faults
