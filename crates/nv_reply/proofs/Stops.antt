-- What is due where no more lines are run.
use Rattle.std.proofs.Common.{◌≡◌, ℕ, List, [], ◌++◌, Result, refl, sym, ap, ◌∙◌, append_assoc}
use Rattle.nv_io.specs.State.{SinkState}
use Rattle.nv_io.specs.Writing.{Wrote, PutFailed}
use Rattle.nv_io.specs.declared.sink.SinkFailed.{SinkFailed}
use Rattle.nv_io.proofs.Writing.{wrote_nothing, wrote_after, failed_after}
use Rattle.nv_reply.specs.Stops.{StopsWithin}
use Rattle.nv_reply.specs.declared.stop.Stop.{Stop}
use Rattle.nv_reply.specs.declared.stop.Stop.TheVariants.{ReadFault, WriteFault, InputTooLong, OutOfMemory}

module _ {K : Type 0} (gives : K → List ℕ → Result ℕ SinkFailed → K → Type 0) (state : K → SinkState) where
  pub stops_after : (k l m : K) (a text : List ℕ) (stop : Stop) → Wrote gives state k l a → StopsWithin (Wrote gives state l m) (PutFailed gives state l m) text stop → StopsWithin (Wrote gives state k m) (PutFailed gives state k m) (a ++ text) stop
  stops_after k l m a text WriteFault first (part, begins, failed) =
      (a ++ part, (begins.0, ap (λ t. a ++ t) begins.1 ∙ sym (append_assoc a part begins.0)), failed_after gives state k l m a part first failed)
  stops_after k l m a text OutOfMemory first (part, begins, wrote) =
      (a ++ part, (begins.0, ap (λ t. a ++ t) begins.1 ∙ sym (append_assoc a part begins.0)), wrote_after gives state k l m a part first wrote)
  stops_after k l m a text ReadFault first none = none
  stops_after k l m a text InputTooLong first none = none

-- the same where more is due
pub stops_before : (wrote failed : List ℕ → Type 0) (text more : List ℕ) (stop : Stop) → StopsWithin wrote failed text stop → StopsWithin wrote failed (text ++ more) stop
stops_before wrote failed text more WriteFault (part, (rest, is), failed_so) = (part, (rest ++ more, ap (λ t. t ++ more) is ∙ append_assoc part rest more), failed_so)
stops_before wrote failed text more OutOfMemory (part, (rest, is), wrote_so) = (part, (rest ++ more, ap (λ t. t ++ more) is ∙ append_assoc part rest more), wrote_so)
stops_before wrote failed text more ReadFault none = none
stops_before wrote failed text more InputTooLong none = none

-- memory ran out before the first put
pub stopped_first : {K : Type 0} (gives : K → List ℕ → Result ℕ SinkFailed → K → Type 0) (state : K → SinkState) (k : K) (text : List ℕ)
    → StopsWithin (Wrote gives state k k) (PutFailed gives state k k) text OutOfMemory
stopped_first gives state k text = ([], (text, refl), wrote_nothing gives state k)
