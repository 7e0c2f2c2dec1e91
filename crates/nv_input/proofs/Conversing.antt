-- How a take more, and what is run of its piece, goes on with a conversation.
use Rattle.std.proofs.Common.{◌≡◌, ℕ, ◌+◌, ◌-◌, ◌<◌, ◌≤◌, Bool, ◌||◌, List, [], ◌++◌, Option, Some, None, Result, Ok, Err, length, take, drop, refl, sym, ap, ◌∙◌, subst, append_assoc, arith}
use Rattle.std.specs.Io.KnownBytes.{IsAtEnd}
use Rattle.std.proofs.lemmas.List.{append-nil, length-append, take-append-drop, take-take}
use Rattle.std.proofs.Math.Seq.{take-append-add}
use Rattle.nv_io.specs.Counts.{Rose}
use Rattle.nv_io.specs.State.{SourceState, SinkState}
use Rattle.nv_io.specs.declared.sink.SinkFailed.{SinkFailed}
use Rattle.nv_io.specs.declared.source.SourceFailed.{SourceFailed}
use Rattle.nv_reply.specs.declared.stop.Stop.{Stop}
use Rattle.nv_reply.specs.declared.stop.Stop.TheVariants as stops
use Rattle.nv_reply.specs.Session.{Session}
use Rattle.nv_reply.specs.Reply.{reply, replies, some_refused}
use Rattle.nv_input.specs.Lines.{lines_of, complete_lines, input_limit}
use Rattle.nv_input.specs.Opening.{Opening, written_for}
use Rattle.nv_io.specs.Passed.{IsPrefix, Gave, Took}
use Rattle.nv_input.specs.Calls.{BeginsDue, Moved, told_left, Point, start_at, IsReady, piece_limit, Calls, no_call, and_take, and_puts, LastTakeGivesNothing}
use Rattle.nv_input.specs.inner.Pieces.{IsDue, BeginsOutput}
use Rattle.nv_input.specs.inner.StateAfter.{IsKeptAfter}
use Rattle.nv_io.specs.Writing.{Wrote, PutFailed}
use Rattle.nv_reply.specs.Stops.{StopsWithin}
use Rattle.nv_input.specs.Ends.{Finished}
use Rattle.nv_input.specs.inner.Stops.{StopEnds, StopCalls}
use Rattle.nv_io.proofs.Writing.{gave_nothing, gave_more, gave_still, took_more}
use Rattle.nv_input.proofs.Kept.{reply_kept}
use Rattle.nv_input.proofs.StateAfter.{written_end, refused_end}

-- at the end none is left
none_left : (told : Option (List ℕ)) → IsAtEnd told → told_left told ≡ []
none_left None at_end = refl
none_left (Some bytes) at_end = at_end

module _ {S K : Type 0} (takes : S → List ℕ → Result ℕ SourceFailed → S → Type 0) (source_state : S → SourceState) (puts : K → List ℕ → Result ℕ SinkFailed → K → Type 0) (sink_state : K → SinkState) (first : Opening) where
  -- what is written once the lines that an input ends are answered, and all of its lines
  abbrev complete : List ℕ → List ℕ
  complete input = written_for first (complete_lines input)

  abbrev all : List ℕ → List ℕ
  all input = written_for first (lines_of input)

  -- what is due after other replies is due after the opening's text and these
  after_text : (replied text all_replied : List ℕ) → all_replied ≡ replied ++ text → first.text ++ all_replied ≡ (first.text ++ replied) ++ text
  after_text replied text all_replied due = ap (λ t. first.text ++ t) due ∙ sym (append_assoc first.text replied text)

  begins_after_text : (replied text all_replied : List ℕ) → IsPrefix (replied ++ text) all_replied → IsPrefix ((first.text ++ replied) ++ text) (first.text ++ all_replied)
  begins_after_text replied text all_replied (more, is) = (more, after_text (replied ++ text) more all_replied is ∙ ap (λ t. t ++ more) (sym (append_assoc first.text replied text)))

  due_after : (before bytes text : List ℕ) → IsDue first.session before bytes text → complete (before ++ bytes) ≡ complete before ++ text
  due_after before bytes text due = after_text (replies first.session (complete_lines before)) text (replies first.session (complete_lines (before ++ bytes))) due

  begins_after : (before bytes text more : List ℕ) → BeginsOutput first.session before bytes text → IsPrefix (complete before ++ text) (all (before ++ bytes ++ more))
  begins_after before bytes text more due = begins_after_text (replies first.session (complete_lines before)) text (replies first.session (lines_of (before ++ bytes ++ more))) (due more)

  -- a point of the run
  abbrev at_point : S → K → List ℕ → List ℕ → Point S K
  at_point s k given written = record { first = first; source = s; sink = k; given = given; written = written }

  -- how a run from here to there ends
  abbrev pub FinishedAt : S → K → S → K → Bool → Type 0
  FinishedAt s k t l refused =
      Moved source_state sink_state (s, k) (t, l) (λ given written.
      Finished first (source_state s, sink_state k) (source_state t, sink_state l) (given, written) refused × LastTakeGivesNothing takes puts (start_at first s k) (at_point t l given written))

  abbrev pub StopsAt : S → K → S → K → Stop → Type 0
  StopsAt s k t l stop =
      Moved source_state sink_state (s, k) (t, l) (λ given written.
      StopEnds first (source_state s, sink_state k) (source_state t, sink_state l) (given, written) stop × StopCalls takes puts (start_at first s k) (at_point t l given written) stop)

  -- what was given so far was run, and each reply that is due was put
  pub record Conversed (s : S) (k : K) (t : S) (l : K) (session : Session) (line : List ℕ) (refused : Bool) (room : ℕ) : Type 0 where
    pub given : List ℕ
    pub calls : Calls takes puts (start_at first s k) (at_point t l given (complete given))
    pub gave : Gave (source_state s) (source_state t) given
    pub took : Took (sink_state k) (sink_state l) (complete given)
    pub source_quiet : (source_state t).faults ≡ (source_state s).faults
    pub sink_quiet : (sink_state l).faults ≡ (sink_state k).faults
    pub stands : IsKeptAfter first.session session line refused given
    pub limited : length given + room ≡ input_limit
    pub numbered : session.network.next + length line ≤ first.session.network.next + length given

  -- the opening's text was put, and nothing is given yet
  pub conversed_first : (s : S) (k l : K) (line : List ℕ) (refused : Bool) → IsKeptAfter first.session first.session line refused [] → length line ≡ 0 → Wrote puts sink_state k l first.text
      → Conversed s k s l first.session line refused input_limit
  conversed_first s k l line refused stands none wrote = record {
    given = [];
    calls = subst (λ w. Calls takes puts (start_at first s k) (at_point s l [] w)) (sym (append-nil first.text)) (and_puts first.text no_call wrote.puts);
    gave = gave_nothing (source_state s);
    took = subst (λ w. Took (sink_state k) (sink_state l) w) (sym (append-nil first.text)) wrote.took;
    source_quiet = refl;
    sink_quiet = wrote.quiet;
    stands = stands;
    limited = refl;
    numbered = omega (arith, none);
  }

  -- the opening's text could not be put
  pub opening_failed : (s : S) (k l : K) → StopsWithin (Wrote puts sink_state k l) (PutFailed puts sink_state k l) first.text stops.WriteFault → StopsAt s k s l stops.WriteFault
  opening_failed s k l (part, (rest, begins), failed) = (
    [],
    part,
    gave_nothing (source_state s),
    failed.took,
    (
      record { rose = failed.rose; begins = (within [], within (told_left (source_state s).left)) },
      record { last = at_point s failed.before [] part; calls = and_puts part no_call failed.puts; offered = failed.offered; failed = failed.failed; same = refl },
    ),
  )
    where
      within : (input : List ℕ) → IsPrefix part (all input)
      within input =
          let replied = replies first.session (lines_of input) in
          (rest ++ replied, ap (λ t. t ++ replied) begins ∙ append_assoc part rest replied)

  module _ (s : S) (k : K) (t : S) (l : K) (session : Session) (line : List ℕ) (refused : Bool) (room : ℕ) (so_far : Conversed s k t l session line refused room) where
    -- a take may be made
    ready : (into : List ℕ) → length into ≤ piece_limit → IsReady (at_point t l so_far.given (complete so_far.given)) (length into)
    ready into small = record { small = small; answered = refl }

    pub read_faulted : (u : S) (into : List ℕ) → length into ≤ piece_limit → takes t into (Err (record {})) u → (source_state u).left ≡ (source_state t).left → (source_state u).given ≡ (source_state t).given → Rose (source_state t).faults (source_state u).faults → StopsAt s k u l stops.ReadFault
    read_faulted u into small failed kept amount rose = (
      so_far.given,
      complete so_far.given,
      gave_still (source_state s) (source_state t) (source_state u) so_far.given kept amount so_far.gave,
      so_far.took,
      (
        record { rose = rw (sym so_far.source_quiet) rose; quiet = so_far.sink_quiet; within = omega (arith, so_far.limited); whole = refl },
        record { last = at_point t l so_far.given (complete so_far.given); calls = so_far.calls; into = into; ready = ready into small; failed = failed; same = refl },
      ),
    )

    -- a piece was run, and its replies were put
    abbrev Fed : K → K → List ℕ → Session → List ℕ → Bool → Type 0
    Fed before after bytes session' line' refused' = IsKeptAfter first.session session' line' refused' (so_far.given ++ bytes) × ((text : List ℕ) × IsDue first.session so_far.given bytes text × Wrote puts sink_state before after text)

    -- the program stopped within it
    abbrev Stopped : K → K → List ℕ → Stop → Type 0
    Stopped before after bytes stop = (text : List ℕ) × BeginsOutput first.session so_far.given bytes text × StopsWithin (Wrote puts sink_state before after) (PutFailed puts sink_state before after) text stop

    module _ (u : S) (into : List ℕ) (n : ℕ) (step : takes t into (Ok n) u) (gave : Gave (source_state t) (source_state u) (take n into)) (quiet : (source_state u).faults ≡ (source_state t).faults) (small : length into ≤ piece_limit) where
      gave_in_all : Gave (source_state s) (source_state u) (so_far.given ++ take n into)
      gave_in_all = gave_more _ _ _ so_far.given (take n into) so_far.gave gave

      -- the calls with this take
      taken_calls : Calls takes puts (start_at first s k) (at_point u l (so_far.given ++ take n into) (complete so_far.given))
      taken_calls = and_take into so_far.calls (ready into small) step

      -- all of the piece was run
      pub conversed_more : (m : K) (session' : Session) (line' : List ℕ) (refused' : Bool) → n ≤ room → length (take n into) ≡ n → session'.network.next + length line' ≤ session.network.next + length line + n → Fed l m (take n into) session' line' refused' → Conversed s k u m session' line' refused' (room - n)
      conversed_more m session' line' refused' fits long next (stands, (text, due, wrote)) = record {
        given = so_far.given ++ take n into;
        calls = subst (λ w. Calls takes puts (start_at first s k) (at_point u m (so_far.given ++ take n into) w)) (sym (due_after so_far.given (take n into) text due)) (and_puts text taken_calls wrote.puts);
        gave = gave_in_all;
        took = subst (λ w. Took (sink_state k) (sink_state m) w) (sym (due_after so_far.given (take n into) text due)) (took_more _ _ _ (complete so_far.given) text so_far.took wrote.took);
        source_quiet = quiet ∙ so_far.source_quiet;
        sink_quiet = wrote.quiet ∙ so_far.sink_quiet;
        stands = stands;
        limited = omega (arith, so_far.limited, length-append so_far.given (take n into), long);
        numbered = omega (arith, so_far.numbered, next, length-append so_far.given (take n into), long);
      }

      -- a part of a text that is due begins the output
      begins_within : (bytes rest after : List ℕ) → take n into ≡ bytes ++ rest → (text part : List ℕ) → IsPrefix part text → IsPrefix (complete so_far.given ++ text) (all (so_far.given ++ bytes ++ (rest ++ after))) → IsPrefix (complete so_far.given ++ part) (all ((so_far.given ++ take n into) ++ after))
      begins_within bytes rest after cut text part (after_it, part_of) (more, whole) = (
        after_it ++ more,
        ap all (append_assoc so_far.given (take n into) after ∙ ap (λ b. so_far.given ++ (b ++ after)) cut ∙ ap (λ b. so_far.given ++ b) (append_assoc bytes rest after)) ∙ sym (ap all (append_assoc so_far.given bytes (rest ++ after))) ∙ whole
            ∙ ap (λ t. (complete so_far.given ++ t) ++ more) part_of
            ∙ ap (λ t. t ++ more) (sym (append_assoc (complete so_far.given) part after_it))
            ∙ append_assoc (complete so_far.given ++ part) after_it more,
      )

      -- both of what was given and of the whole input
      begins_due : (bytes rest : List ℕ) → take n into ≡ bytes ++ rest → (text part : List ℕ) → IsPrefix part text → BeginsOutput first.session so_far.given bytes text → BeginsDue all (so_far.given ++ take n into) (told_left (source_state u).left) (complete so_far.given ++ part)
      begins_due bytes rest cut text part begins due = (
        subst (λ input. IsPrefix (complete so_far.given ++ part) (all input)) (append-nil (so_far.given ++ take n into)) (begins_within bytes rest [] cut text part begins (begins_after so_far.given bytes text (rest ++ []) due)),
        begins_within bytes rest (told_left (source_state u).left) cut text part begins (begins_after so_far.given bytes text (rest ++ told_left (source_state u).left) due),
      )

      -- what is within the limit of a piece
      shorter : room ≤ n → take room (take n into) ≡ take room into
      shorter fits = take-take room n into fits

      pub parted : room ≤ n → take n into ≡ take room into ++ drop room (take n into)
      parted fits = sym (take-append-drop room (take n into)) ∙ ap (λ front. front ++ drop room (take n into)) (shorter fits)

      -- a put failed after a part, or memory ran out
      put_failed : (m : K) (given part : List ℕ) → Calls takes puts (start_at first s k) (at_point u l given (complete so_far.given)) → Gave (source_state s) (source_state u) given
          → BeginsDue all given (told_left (source_state u).left) (complete so_far.given ++ part) → PutFailed puts sink_state l m part → StopsAt s k u m stops.WriteFault
      put_failed m given part calls gave begins failed = (
        given,
        complete so_far.given ++ part,
        gave,
        took_more _ _ _ (complete so_far.given) part so_far.took failed.took,
        (
          record { rose = rw (sym so_far.sink_quiet) failed.rose; begins = begins },
          record { last = at_point u failed.before given (complete so_far.given ++ part); calls = and_puts part calls failed.puts; offered = failed.offered; failed = failed.failed; same = refl },
        ),
      )

      no_memory : (m : K) (given part : List ℕ) → Calls takes puts (start_at first s k) (at_point u l given (complete so_far.given)) → Gave (source_state s) (source_state u) given
          → BeginsDue all given (told_left (source_state u).left) (complete so_far.given ++ part) → Wrote puts sink_state l m part → StopsAt s k u m stops.OutOfMemory
      no_memory m given part calls gave begins wrote = (
        given,
        complete so_far.given ++ part,
        gave,
        took_more _ _ _ (complete so_far.given) part so_far.took wrote.took,
        (
          record { quiet = record { source = quiet ∙ so_far.source_quiet; sink = wrote.quiet ∙ so_far.sink_quiet }; begins = begins },
          and_puts part calls wrote.puts,
        ),
      )

      -- stopped within a piece
      pub stopped_within : (m : K) (bytes rest : List ℕ) (stop : Stop) → take n into ≡ bytes ++ rest → Stopped l m bytes stop → StopsAt s k u m stop
      stopped_within m bytes rest stops.WriteFault cut (text, due, (part, begins, failed)) =
          put_failed m _ part taken_calls gave_in_all (begins_due bytes rest cut text part begins due) failed
      stopped_within m bytes rest stops.OutOfMemory cut (text, due, (part, begins, wrote)) =
          no_memory m _ part taken_calls gave_in_all (begins_due bytes rest cut text part begins due) wrote
      stopped_within m bytes rest stops.ReadFault cut (text, due, none) = absurd none
      stopped_within m bytes rest stops.InputTooLong cut (text, due, none) = absurd none

      -- the piece ends after the limit
      pub too_long : (m : K) (session' : Session) (line' : List ℕ) (refused' : Bool) → room < n → length (take n into) ≡ n → Fed l m (take room into) session' line' refused' → StopsAt s k u m stops.InputTooLong
      too_long m session' line' refused' over long (stands, (text, due, wrote)) =
          let cut : take input_limit (so_far.given ++ take n into) ≡ so_far.given ++ take room into =
          ap (λ i. take i (so_far.given ++ take n into)) (sym so_far.limited) ∙ take-append-add so_far.given (take n into) room ∙ ap (λ b. so_far.given ++ b) (shorter (omega arith)) in (
            so_far.given ++ take n into,
            complete so_far.given ++ text,
            gave_in_all,
            took_more _ _ _ (complete so_far.given) text so_far.took wrote.took,
            (
              record {
                quiet = record { source = quiet ∙ so_far.source_quiet; sink = wrote.quiet ∙ so_far.sink_quiet };
                over = omega (arith, so_far.limited, length-append so_far.given (take n into), long);
                whole = sym (due_after so_far.given (take room into) text due) ∙ ap complete (sym cut);
              },
              and_puts text taken_calls wrote.puts,
            ),
          )

      -- a take that gave nothing
      none_more : n ≡ 0 → so_far.given ++ take n into ≡ so_far.given
      none_more none = ap (λ i. so_far.given ++ take i into) none ∙ append-nil so_far.given

      gave_none : n ≡ 0 → Gave (source_state s) (source_state u) so_far.given
      gave_none none = subst (λ g. Gave (source_state s) (source_state u) g) (none_more none) gave_in_all

      calls_none : n ≡ 0 → Calls takes puts (start_at first s k) (at_point u l so_far.given (complete so_far.given))
      calls_none none = subst (λ g. Calls takes puts (start_at first s k) (at_point u l g (complete so_far.given))) (none_more none) taken_calls

      -- the reply to what is kept of the last line
      last_written : all so_far.given ≡ complete so_far.given ++ (reply session line).text
      last_written =
          after_text (replies first.session (complete_lines so_far.given)) (reply session so_far.stands.line).text (replies first.session (lines_of so_far.given))
          (written_end first.session session so_far.stands.line refused so_far.given so_far.stands.stands)
          ∙ ap (λ r. complete so_far.given ++ r.text) (sym (reply_kept session so_far.stands.line line so_far.stands.kept_is))

      last_refused : some_refused first.session (lines_of so_far.given) ≡ (refused || (reply session line).refused)
      last_refused =
          refused_end first.session session so_far.stands.line refused so_far.given so_far.stands.stands
          ∙ ap (λ r. refused || r.refused) (sym (reply_kept session so_far.stands.line line so_far.stands.kept_is))

      -- the source is at its end
      pub finished : (m : K) → n ≡ 0 → IsAtEnd (source_state u).left → Wrote puts sink_state l m (reply session line).text → FinishedAt s k u m (refused || (reply session line).refused)
      finished m none at_end wrote = (
        so_far.given,
        complete so_far.given ++ (reply session line).text,
        gave_none none,
        took_more _ _ _ (complete so_far.given) (reply session line).text so_far.took wrote.took,
        (
          record {
            quiet = record { source = quiet ∙ so_far.source_quiet; sink = wrote.quiet ∙ so_far.sink_quiet };
            at_end = at_end;
            within = omega (arith, so_far.limited);
            whole = sym last_written;
            refused_is = sym last_refused;
          },
          record {
            last = at_point t l so_far.given (complete so_far.given);
            calls = so_far.calls;
            into = into;
            ready = ready into small;
            ended = subst (λ i. takes t into (Ok i) u) none step;
            text = (reply session line).text;
            puts = wrote.puts;
            given = refl;
            written = refl;
          },
        ),
      )

      -- a part of the last reply begins the output
      begins_at_end : (part : List ℕ) → IsPrefix part (reply session line).text → IsPrefix (complete so_far.given ++ part) (all so_far.given)
      begins_at_end part (following, part_of) = (
        following,
        last_written ∙ ap (λ t. complete so_far.given ++ t) part_of ∙ sym (append_assoc (complete so_far.given) part following),
      )

      begins_due_at_end : IsAtEnd (source_state u).left → (part : List ℕ) → IsPrefix part (reply session line).text → BeginsDue all so_far.given (told_left (source_state u).left) (complete so_far.given ++ part)
      begins_due_at_end at_end part begins =
          let part_begins = begins_at_end part begins in
          let nothing_left : so_far.given ++ told_left (source_state u).left ≡ so_far.given = ap (λ b. so_far.given ++ b) (none_left (source_state u).left at_end) ∙ append-nil so_far.given in
          (part_begins, subst (λ input. IsPrefix (complete so_far.given ++ part) (all input)) (sym nothing_left) part_begins)

      pub stopped_at_end : (m : K) (stop : Stop) → n ≡ 0 → IsAtEnd (source_state u).left → StopsWithin (Wrote puts sink_state l m) (PutFailed puts sink_state l m) (reply session line).text stop → StopsAt s k u m stop
      stopped_at_end m stops.WriteFault none at_end (part, begins, failed) = put_failed m so_far.given part (calls_none none) (gave_none none) (begins_due_at_end at_end part begins) failed
      stopped_at_end m stops.OutOfMemory none at_end (part, begins, wrote) = no_memory m so_far.given part (calls_none none) (gave_none none) (begins_due_at_end at_end part begins) wrote
      stopped_at_end m stops.ReadFault none at_end stops = absurd stops
      stopped_at_end m stops.InputTooLong none at_end stops = absurd stops
