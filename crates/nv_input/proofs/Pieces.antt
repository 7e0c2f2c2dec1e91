-- How a line more, or the rest of a piece, goes on with what was run of it.
use Rattle.std.proofs.Common.{◌≡◌, ℕ, Bool, ◌||◌, List, [], ◌∷◌, ◌++◌, Result, refl, sym, ap, ◌∙◌, subst, append_assoc}
use Rattle.std.proofs.lemmas.List.{append-nil}
use Rattle.nv_io.specs.State.{SinkState}
use Rattle.nv_io.specs.declared.sink.SinkFailed.{SinkFailed}
use Rattle.nv_reply.specs.declared.stop.Stop.{Stop}
use Rattle.nv_reply.specs.declared.stop.Stop.TheVariants.{OutOfMemory}
use Rattle.nv_reply.specs.Session.{Session}
use Rattle.nv_reply.specs.Reply.{reply, replies}
use Rattle.nv_input.specs.Lines.{lines_of, complete_lines}
use Rattle.nv_io.specs.Writing.{Wrote, PutFailed}
use Rattle.nv_reply.specs.Stops.{StopsWithin}
use Rattle.nv_input.specs.inner.StateAfter.{IsStateAfter, IsKeptAfter, and_kept, EndsNoLine, CutsLine}
use Rattle.nv_input.specs.inner.Pieces.{IsDue, BeginsOutput}
use Rattle.nv_io.proofs.Writing.{wrote_nothing, wrote_after}
use Rattle.nv_reply.proofs.Stops.{stops_after}
use Rattle.nv_input.proofs.Kept.{reply_kept, kept_more}
use Rattle.nv_input.proofs.StateAfter.{stands_same, written_same, stands_more, written_more, written_prefix}

module _ {K : Type 0} (gives : K → List ℕ → Result ℕ SinkFailed → K → Type 0) (state : K → SinkState) (first : Session) where
  -- the replies to the lines that an input ends, and to all of its lines
  abbrev complete : List ℕ → List ℕ
  complete input = replies first (complete_lines input)

  abbrev all : List ℕ → List ℕ
  all input = replies first (lines_of input)

  -- Of these bytes, which come after others, all but the rest were run, and the replies due were put.
  pub record Fed (old new : K) (before bytes rest : List ℕ) (session : Session) (kept : List ℕ) (refused : Bool) : Type 0 where
    pub done : List ℕ
    pub whole : bytes ≡ done ++ rest
    pub stands : IsKeptAfter first session kept refused (before ++ done)
    pub text : List ℕ
    pub due : IsDue first before done text
    pub wrote : Wrote gives state old new text

  -- the program stopped within a text that is due
  abbrev pub Stopped : K → K → List ℕ → List ℕ → Stop → Type 0
  Stopped old new before bytes stop = (text : List ℕ) × BeginsOutput first before bytes text × StopsWithin (Wrote gives state old new) (PutFailed gives state old new) text stop

  -- before the first byte
  pub fed_nothing : (k : K) (before bytes : List ℕ) (session : Session) (kept : List ℕ) (refused : Bool) → IsKeptAfter first session kept refused before → Fed k k before bytes bytes session kept refused
  fed_nothing k before bytes session kept refused stands = record {
    done = [];
    whole = refl;
    stands = rw (append-nil before) stands;
    text = [];
    due = ap complete (append-nil before) ∙ sym (append-nil (complete before));
    wrote = wrote_nothing gives state k;
  }

  module _ (k l : K) (before bytes rest : List ℕ) (session : Session) (kept : List ℕ) (refused : Bool) (fed : Fed k l before bytes rest session kept refused) where
    -- the line, of which as much is kept
    abbrev line : List ℕ
    line = fed.stands.line

    stands : IsStateAfter first session line refused (before ++ fed.done)
    stands = fed.stands.stands

    -- the rest ends no line
    pub fed_all : EndsNoLine rest → IsKeptAfter first session (and_kept kept rest) refused (before ++ bytes) × ((text : List ℕ) × IsDue first before bytes text × Wrote gives state k l text)
    fed_all ends_none = (
      record {
        line = line ++ rest;
        stands =
            subst (λ all. IsStateAfter first session (line ++ rest) refused all) (sym (ap (λ b. before ++ b) fed.whole ∙ sym (append_assoc before fed.done rest)))
            (stands_same first session line refused (before ++ fed.done) stands rest ends_none);
        kept_is = kept_more line kept rest fed.stands.kept_is;
      },
      (
        fed.text,
        ap (λ b. complete (before ++ b)) fed.whole ∙ ap complete (sym (append_assoc before fed.done rest)) ∙ written_same first session line refused (before ++ fed.done) stands rest ends_none ∙ fed.due,
        fed.wrote,
      ),
    )

    -- the bytes that were run, and all that follow
    goes_on : (rest' more : List ℕ) → rest ≡ rest' → before ++ bytes ++ more ≡ (before ++ fed.done) ++ (rest' ++ more)
    goes_on rest' more same =
        ap (λ b. before ++ b ++ more) (fed.whole ∙ ap (λ r. fed.done ++ r) same)
        ∙ ap (λ b. b ++ more) (sym (append_assoc before fed.done rest')) ∙ append_assoc (before ++ fed.done) rest' more

    -- no memory is left
    pub stopped_here : Stopped k l before bytes OutOfMemory
    stopped_here = (
      fed.text,
      λ more. let written = written_prefix first session line refused (before ++ fed.done) stands (rest ++ more) in
          (written.0, ap all (goes_on rest more refl) ∙ written.1 ∙ ap (λ t. t ++ written.0) fed.due),
      (fed.text, ([], sym (append-nil fed.text)), fed.wrote),
    )

    module _ (part after : List ℕ) (cut : CutsLine rest part after) where
      -- the state at the line's end
      at_line : IsStateAfter first session (line ++ part) refused ((before ++ fed.done) ++ part)
      at_line = stands_same first session line refused (before ++ fed.done) stands part cut.ends_no_line

      -- with the line's newline
      line_end : List ℕ
      line_end = ((before ++ fed.done) ++ part) ++ 10 ∷ []

      fed_bytes : before ++ (fed.done ++ (part ++ 10 ∷ [])) ≡ ((before ++ fed.done) ++ part) ++ 10 ∷ []
      fed_bytes = sym (append_assoc before fed.done (part ++ 10 ∷ [])) ∙ sym (append_assoc (before ++ fed.done) part (10 ∷ []))

      line_due : complete (((before ++ fed.done) ++ part) ++ 10 ∷ []) ≡ complete before ++ (fed.text ++ (reply session (line ++ part)).text)
      line_due =
          written_more first session (line ++ part) refused ((before ++ fed.done) ++ part) at_line
          ∙ ap (λ t. t ++ (reply session (line ++ part)).text) (written_same first session line refused (before ++ fed.done) stands part cut.ends_no_line ∙ fed.due)
          ∙ append_assoc (complete before) fed.text (reply session (line ++ part)).text

      at_end : IsStateAfter first (reply session (line ++ part)).after [] (refused || (reply session (line ++ part)).refused) (((before ++ fed.done) ++ part) ++ 10 ∷ [])
      at_end = stands_more first session (line ++ part) refused ((before ++ fed.done) ++ part) at_line

      -- what is kept of it has the same reply
      same_reply : reply session (and_kept kept part) ≡ reply session (line ++ part)
      same_reply = reply_kept session (line ++ part) (and_kept kept part) (kept_more line kept part fed.stands.kept_is)

      fed_whole : (m : K) → Wrote gives state l m (reply session (line ++ part)).text → Fed k m before bytes after (reply session (line ++ part)).after [] (refused || (reply session (line ++ part)).refused)
      fed_whole m wrote = record {
        done = fed.done ++ (part ++ 10 ∷ []);
        whole = fed.whole ∙ ap (λ r. fed.done ++ r) (cut.whole ∙ sym (append_assoc part (10 ∷ []) after)) ∙ sym (append_assoc fed.done (part ++ 10 ∷ []) after);
        stands = record { line = []; stands = rw fed_bytes at_end; kept_is = refl };
        text = fed.text ++ (reply session (line ++ part)).text;
        due = ap complete fed_bytes ∙ line_due;
        wrote = wrote_after gives state k l m fed.text (reply session (line ++ part)).text fed.wrote wrote;
      }

      -- a line more
      pub fed_line : (m : K) → Wrote gives state l m (reply session (and_kept kept part)).text
          → Fed k m before bytes after (reply session (and_kept kept part)).after [] (refused || (reply session (and_kept kept part)).refused)
      fed_line m = rw same_reply (fed_whole m)

      stopped_whole : (m : K) (stop : Stop) → StopsWithin (Wrote gives state l m) (PutFailed gives state l m) (reply session (line ++ part)).text stop → Stopped k m before bytes stop
      stopped_whole m stop stops = (
        fed.text ++ (reply session (line ++ part)).text,
        λ more.
            let written = written_prefix first (reply session (line ++ part)).after [] (refused || (reply session (line ++ part)).refused) (((before ++ fed.done) ++ part) ++ 10 ∷ []) at_end (after ++ more) in (
              written.0,
              ap all (goes_on ((part ++ 10 ∷ []) ++ after) more (cut.whole ∙ sym (append_assoc part (10 ∷ []) after)) ∙ ap (λ b. (before ++ fed.done) ++ b) (append_assoc (part ++ 10 ∷ []) after more) ∙ sym (append_assoc (before ++ fed.done) (part ++ 10 ∷ []) (after ++ more)) ∙ ap (λ b. b ++ (after ++ more)) (sym (append_assoc (before ++ fed.done) part (10 ∷ []))))
                  ∙ written.1 ∙ ap (λ t. t ++ written.0) line_due,
            ),
        stops_after gives state k l m fed.text (reply session (line ++ part)).text stop fed.wrote stops,
      )

      -- the reply to the line could not all be put
      pub stopped_line : (m : K) (stop : Stop) → StopsWithin (Wrote gives state l m) (PutFailed gives state l m) (reply session (and_kept kept part)).text stop → Stopped k m before bytes stop
      stopped_line m stop = rw same_reply (stopped_whole m stop)
