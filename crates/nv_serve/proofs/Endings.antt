-- What the end of a run says.
use Rattle.std.proofs.Common.{◌≡◌, ℕ, ◌+◌, ◌<◌, ◌≤◌, ◌⊎◌, inl, inr, ◌∙◌, true, false, List, [], ◌++◌, Option, Some, None, Result, length, min, take, sum_by, refl, sym, ap, subst, arith, IfSome, IsSomeAnd}
use Rattle.std.specs.Prelude.{if◌then◌else◌}
use Rattle.std.specs.Io.KnownBytes.{Consumes}
use Rattle.std.proofs.lemmas.Bool.{true≢false}
use Rattle.std.proofs.lemmas.List.{length-append, length-take}
use Rattle.std.proofs.lemmas.List.Sums.{sum_by-append}
use Rattle.clap.specs.Words.{Text}
use Rattle.nv_generate.specs.Generated.{most_ports}
use Rattle.nv_options.specs.Options.{accepts, generate_in, hops_in}
use Rattle.nv_io.specs.Counts.{Rose, count_after}
use Rattle.nv_io.specs.State.{SourceState, SinkState}
use Rattle.nv_io.specs.declared.sink.SinkFailed.{SinkFailed}
use Rattle.nv_io.specs.declared.source.SourceFailed.{SourceFailed}
use Rattle.nv_input.specs.declared.status.Status.{Status}
use Rattle.nv_input.specs.declared.status.Status.TheVariants.{Done, SomeRefused, Usage, ReadFault, WriteFault, InputTooLong, OutOfMemory}
use Rattle.nv_serve.specs.Output.{first_lines, opened, opening, output, said_of, session_from, usage_line}
use Rattle.nv_input.specs.Lines.{lines_of, input_limit}
use Rattle.nv_input.specs.Opening.{Opening, opening_of, written_for}
use Rattle.nv_reply.specs.Session.{Session}
use Rattle.nv_io.specs.Passed.{IsPrefix}
use Rattle.nv_input.specs.Calls.{Moved, told_left, start_at, no_call, and_puts, NothingFollowsAFault}
use Rattle.nv_serve.specs.Run.{IsFinished}
use Rattle.nv_input.specs.Ends.{InputEnds}
use Rattle.nv_serve.specs.Traced.{TracesAreMeant}
use Rattle.nv_io.specs.Writing.{Wrote, PutFailed}
use Rattle.nv_serve.specs.Ends.{Ends}
use Rattle.nv_serve.specs.inner.Refused.{Refuses}
use Rattle.nv_io.proofs.Writing.{gave_nothing, took_nothing}
use Rattle.nv_serve.proofs.Lengths.{lines_longer}
use Rattle.nv_serve.proofs.Opened.{first_room}
use Rattle.nv_serve.proofs.Traced.{none_traced, traces_meant}

-- what is due where the arguments are accepted, and where they are not
output_is : (words : List Text) → accepts words ≡ true → (given : List ℕ) → written_for (opened words) (lines_of given) ≡ output words given
output_is words few given = sym (ap (λ b. if b then written_for (opened words) (lines_of given) else usage_line) few)

usage_is : (words : List Text) → accepts words ≡ false → (given : List ℕ) → usage_line ≡ output words given
usage_is words many given = sym (ap (λ b. if b then written_for (opened words) (lines_of given) else usage_line) many)

-- a part of what is due
usage_part : (words : List Text) → accepts words ≡ false → (given part : List ℕ) → IsPrefix part usage_line → IsPrefix part (output words given)
usage_part words many given part begins = subst (λ due. IsPrefix part due) (usage_is words many given) begins

output_part : (words : List Text) → accepts words ≡ true → (given part : List ℕ) → IsPrefix part (written_for (opened words) (lines_of given)) → IsPrefix part (output words given)
output_part words few given part begins = subst (λ due. IsPrefix part due) (output_is words few given) begins

-- no more is given than was left
given_within : (told still : Option (List ℕ)) (given : List ℕ) → Consumes told still given → IsSomeAnd told (λ input. length input ≤ input_limit) → length given ≤ input_limit
given_within None still given gave within = absurd within
given_within (Some input) None given gave within = absurd gave
given_within (Some input) (Some rest) given gave within = omega (arith, within, ap length gave, length-append given rest)

-- what is taken is no more
taken : (limit : ℕ) (given : List ℕ) → length (take limit given) ≤ limit
taken limit given = subst (λ n. n ≤ limit) (sym (length-take limit given)) (at_most (length given))
  where
    at_most : (n : ℕ) → min limit n ≤ limit
    at_most n = omega arith

-- each trace of an input that is no longer than it may be
all_meant : (words : List Text) (given : List ℕ) → IfSome (generate_in words) (λ ports. ports ≤ most_ports) → length given ≤ input_limit → TracesAreMeant words (lines_of given)
all_meant words given few within =
    let first = first_lines (generate_in words) in
    let lines = lines_of given in
    traces_meant words lines (omega (arith, sum_by-append length first lines, first_room (generate_in words) (sum_by length lines) few (omega (arith, within, lines_longer given))))

module _ {S K : Type 0} (takes : S → List ℕ → Result ℕ SourceFailed → S → Type 0) (source_state : S → SourceState) (puts : K → List ℕ → Result ℕ SinkFailed → K → Type 0) (sink_state : K → SinkState) where
  -- an input whose lines are answered after an opening
  abbrev pub EndedFrom : S → K → S → K → Opening → Status → Type 0
  EndedFrom s k t l first status =
      Moved source_state sink_state (s, k) (t, l) (λ given written.
      InputEnds first (source_state s, sink_state k) (source_state t, sink_state l) (given, written) status
      × NothingFollowsAFault takes puts (start_at first s k) (record { first = first; source = t; sink = l; given = given; written = written }) status)

  -- after the one that was made
  pub begun : (s : S) (k : K) (t : S) (l : K) (text : List ℕ) (session : Session) (hops : ℕ) (ports : Option ℕ) (status : Status) → session ≡ session_from hops ports → text ≡ said_of ports (session_from hops ports)
      → EndedFrom s k t l (opening_of text session) status → EndedFrom s k t l (opening hops ports) status
  begun s k t l text session hops ports status session_is text_is ends =
      subst (λ w. EndedFrom s k t l (opening_of w (session_from hops ports)) status) text_is (subst (λ from. EndedFrom s k t l (opening_of text from) status) session_is ends)

  -- memory ran out before one was made
  pub not_opened : (first : Opening) (s : S) (k : K) → EndedFrom s k s k first OutOfMemory
  not_opened first s k = ([], [], gave_nothing (source_state s), took_nothing (sink_state k), (record { quiet = record { source = refl; sink = refl }; begins = ((_, refl), (_, refl)) }, no_call))

module _ {S K : Type 0} (takes : S → List ℕ → Result ℕ SourceFailed → S → Type 0) (source_state : S → SourceState) (puts : K → List ℕ → Result ℕ SinkFailed → K → Type 0) (sink_state : K → SinkState) (words : List Text) where
  abbrev EndedAt : S → K → S → K → Status → Type 0
  EndedAt s k t l status =
      Moved source_state sink_state (s, k) (t, l) (λ given written.
      Ends words (source_state s, sink_state k) (source_state t, sink_state l) (given, written) status
      × TracesAreMeant words (lines_of (take input_limit given))
      × NothingFollowsAFault takes puts (start_at (opened words) s k) (record { first = opened words; source = t; sink = l; given = given; written = written }) status)

  -- the line of usage was put, or a part of it
  pub refuses : (s : S) (k l : K) (status : Status) → accepts words ≡ false → Refuses (Wrote puts sink_state k l) (PutFailed puts sink_state k l) status
      → EndedAt s k s l status × ((accepts words ≡ false → (s ≡ s) × ((status ≡ Usage) ⊎ (status ≡ WriteFault) ⊎ (status ≡ OutOfMemory))) × Unit {0})
  refuses s k l Usage many wrote = (
    ([], usage_line, gave_nothing (source_state s), wrote.took, ((many, refl, refl, refl), none_traced words, and_puts usage_line no_call wrote.puts)),
    (λ more. (refl, inl refl), tt),
  )
  refuses s k l WriteFault many (part, begins, failed) = (
    (
      [],
      part,
      gave_nothing (source_state s),
      failed.took,
      (
        record { rose = failed.rose; begins = (usage_part words many [] part begins, usage_part words many (told_left (source_state s).left) part begins) },
        none_traced words,
        record { last = record { first = opened words; source = s; sink = failed.before; given = []; written = part }; calls = and_puts part no_call failed.puts; offered = failed.offered; failed = failed.failed; same = refl },
      ),
    ),
    (λ more. (refl, inr (inl refl)), tt),
  )
  refuses s k l Done many none = absurd none
  refuses s k l SomeRefused many none = absurd none
  refuses s k l ReadFault many none = absurd none
  refuses s k l InputTooLong many none = absurd none
  refuses s k l OutOfMemory many none = absurd none

  -- memory ran out before the first call
  pub no_memory : (s : S) (k : K) → EndedAt s k s k OutOfMemory × ((accepts words ≡ false → (s ≡ s) × ((OutOfMemory ≡ Usage) ⊎ (OutOfMemory ≡ WriteFault) ⊎ (OutOfMemory ≡ OutOfMemory))) × Unit {0})
  no_memory s k = (
    ([], [], gave_nothing (source_state s), took_nothing (sink_state k), (record { quiet = record { source = refl; sink = refl }; begins = ((_, refl), (_, refl)) }, none_traced words, no_call)),
    (λ more. (refl, inr (inr refl)), tt),
  )

  module _ (s : S) (k : K) (t : S) (l : K) where
    opened_so : (status : Status) (given written : List ℕ) → accepts words ≡ true → InputEnds (opened words) (source_state s, sink_state k) (source_state t, sink_state l) (given, written) status
        → Ends words (source_state s, sink_state k) (source_state t, sink_state l) (given, written) status
    opened_so Done given written few ends = (few, ends)
    opened_so SomeRefused given written few ends = (few, ends)
    opened_so Usage given written few none = absurd none
    opened_so ReadFault given written few ends = (few, ends)
    opened_so WriteFault given written few ends = record {
      rose = ends.rose;
      begins = (output_part words few given written ends.begins.0, output_part words few (given ++ told_left (source_state t).left) written ends.begins.1);
    }
    opened_so InputTooLong given written few ends = (few, ends)
    opened_so OutOfMemory given written few ends = record {
      quiet = ends.quiet;
      begins = (output_part words few given written ends.begins.0, output_part words few (given ++ told_left (source_state t).left) written ends.begins.1);
    }

    opened_ends : (status : Status) → accepts words ≡ true → IfSome (generate_in words) (λ ports. ports ≤ most_ports) → EndedFrom takes source_state puts sink_state s k t l (opened words) status → EndedAt s k t l status
    opened_ends status accepted few (given, written, gave, took, (ends, calls)) =
        (given, written, gave, took, (opened_so status given written accepted ends, all_meant words (take input_limit given) few (taken input_limit given), calls))

    -- with what accepted arguments ask for
    pub answered : (hops : ℕ) (ports : Option ℕ) (status : Status) → hops ≡ hops_in words → ports ≡ generate_in words → accepts words ≡ true → IfSome ports (λ n. n ≤ most_ports) → EndedFrom takes source_state puts sink_state s k t l (opening hops ports) status
        → EndedAt s k t l status
    answered hops ports status hops_is ports_is accepted few ends =
        opened_ends status accepted (subst (λ p. IfSome p (λ n. n ≤ most_ports)) ports_is few)
        (subst (λ h. EndedFrom takes source_state puts sink_state s k t l (opening h (generate_in words)) status) hops_is
        (subst (λ p. EndedFrom takes source_state puts sink_state s k t l (opening hops p) status) ports_is ends))

    pub input_too_long_cause : (status : Status) → EndedAt s k t l status → status ≡ InputTooLong → count_after (source_state s).given (input_limit + 1) ≤ (source_state t).given
    input_too_long_cause status ends is = by (subst (EndedAt s k t l) is ends)
      where
        by : EndedAt s k t l InputTooLong → count_after (source_state s).given (input_limit + 1) ≤ (source_state t).given
        by (given, written, gave, took, ((few, ends), traces, calls)) = omega (arith, gave.amount, ends.over)

    -- where no call failed and the input is no longer than it may be, only memory keeps a run from the end of its input
    pub complete : (status : Status) → EndedAt s k t l status → accepts words ≡ true → (Rose (source_state s).faults (source_state t).faults → ⊥) → (Rose (sink_state k).faults (sink_state l).faults → ⊥)
        → IsSomeAnd (source_state s).left (λ input. length input ≤ input_limit) ⊎ ((source_state t).given < count_after (source_state s).given (input_limit + 1)) → IsFinished status ⊎ (status ≡ OutOfMemory)
    complete Done ends few quiet_source quiet_sink within = inl tt
    complete SomeRefused ends few quiet_source quiet_sink within = inl tt
    complete Usage ends few quiet_source quiet_sink within = absurd (true≢false (sym few ∙ ends.4.0.0))
    complete ReadFault ends few quiet_source quiet_sink within = absurd (quiet_source ends.4.0.1.rose)
    complete WriteFault ends few quiet_source quiet_sink within = absurd (quiet_sink ends.4.0.rose)
    complete InputTooLong ends few quiet_source quiet_sink (inl within) = absurd (omega (arith, ends.4.0.1.over, given_within _ _ _ ends.2.told within))
    complete InputTooLong ends few quiet_source quiet_sink (inr below) = absurd (omega (arith, below, input_too_long_cause InputTooLong ends refl))
    complete OutOfMemory ends few quiet_source quiet_sink within = inr refl
