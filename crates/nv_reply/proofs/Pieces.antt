-- Text that is put piece by piece: what is due is what was put, and then what is kept.
use Rattle.std.proofs.Common.{◌≡◌, ℕ, ◌+◌, ◌<◌, List, [], ◌∷◌, ◌++◌, Result, length, get_or, take, drop, refl, sym, ap, ◌∙◌, subst, append_assoc}
use Rattle.std.proofs.lemmas.List.{append-nil, take-append-drop, take_more}
use Rattle.std.proofs.lemmas.List.Concat.{flat_map-append}
use Rattle.nv_io.specs.State.{SinkState}
use Rattle.nv_io.specs.Writing.{Wrote, PutFailed}
use Rattle.nv_io.specs.declared.sink.SinkFailed.{SinkFailed}
use Rattle.nv_io.proofs.Writing.{wrote_nothing, wrote_after}
use Rattle.nb_model.specs.Network.{Network}
use Rattle.tr_walk.specs.declared.event.Event.{Event}
use Rattle.nv_reply.specs.Events.{event_line, event_lines}
use Rattle.nv_reply.specs.Stops.{StopsWithin}
use Rattle.nv_reply.specs.declared.stop.Stop.{Stop}
use Rattle.nv_reply.specs.declared.stop.Stop.TheVariants.{OutOfMemory}
use Rattle.nv_reply.proofs.Stops.{stops_after, stops_before}

-- the lines with those of an event more
lines_at : (net : Network) (events : List Event) (i : ℕ) (event : Event) → i < length events → event ≡ get_or events i event
    → event_lines net (take (i + 1) events) ≡ event_lines net (take i events) ++ event_line net event
lines_at net events i event within is =
    ap (event_lines net) (take_more events i event within ∙ ap (λ e. take i events ++ e ∷ []) (sym is))
    ∙ flat_map-append (event_line net) (take i events) (event ∷ [])
    ∙ ap (λ line. event_lines net (take i events) ++ line) (append-nil (event_line net event))

-- the first lines, and the others
lines_cut : (net : Network) (events : List Event) (i : ℕ) → event_lines net events ≡ event_lines net (take i events) ++ event_lines net (drop i events)
lines_cut net events i = ap (event_lines net) (sym (take-append-drop i events)) ∙ flat_map-append (event_line net) (take i events) (drop i events)

module _ {K : Type 0} (gives : K → List ℕ → Result ℕ SinkFailed → K → Type 0) (state : K → SinkState) where
  -- of what is due all was put but what is kept
  abbrev pub PutBut : K → K → List ℕ → List ℕ → Type 0
  PutBut old new due kept = (part : List ℕ) × (due ≡ part ++ kept) × Wrote gives state old new part

  pub put_none : (k : K) (due : List ℕ) → PutBut k k due due
  put_none k due = ([], refl, wrote_nothing gives state k)

  module _ (k l : K) (due kept : List ℕ) (so_far : PutBut k l due kept) where
    -- memory ran out before more was put
    put_memory : (rest : List ℕ) → StopsWithin (Wrote gives state k l) (PutFailed gives state k l) (due ++ rest) OutOfMemory
    put_memory rest = (so_far.0, (kept ++ rest, ap (λ text. text ++ rest) so_far.1 ∙ append_assoc so_far.0 kept rest), so_far.2)

    -- what is kept could not all be put
    put_stop : (m : K) (stop : Stop) → StopsWithin (Wrote gives state l m) (PutFailed gives state l m) kept stop → StopsWithin (Wrote gives state k m) (PutFailed gives state k m) due stop
    put_stop m stop stops =
        subst (λ text. StopsWithin (Wrote gives state k m) (PutFailed gives state k m) text stop) (sym so_far.1) (stops_after gives state k l m so_far.0 kept stop so_far.2 stops)

    -- it was put, but for what is kept of it
    put_next : (m : K) (now : List ℕ) → PutBut l m kept now → PutBut k m due now
    put_next m now (part, is, wrote) =
        (so_far.0 ++ part, so_far.1 ∙ ap (λ text. so_far.0 ++ text) is ∙ sym (append_assoc so_far.0 part now), wrote_after gives state k l m so_far.0 part so_far.2 wrote)

    -- all of it was put
    put_rest : (m : K) → Wrote gives state l m kept → Wrote gives state k m due
    put_rest m wrote = subst (λ text. Wrote gives state k m text) (sym so_far.1) (wrote_after gives state k l m so_far.0 kept so_far.2 wrote)

    -- more is due, and kept
    put_due : (line : List ℕ) → PutBut k l (due ++ line) (kept ++ line)
    put_due line = (so_far.0, ap (λ text. text ++ line) so_far.1 ∙ append_assoc so_far.0 kept line, so_far.2)

  module _ (net : Network) (events : List Event) (k l : K) (i : ℕ) (kept : List ℕ) (so_far : PutBut k l (event_lines net (take i events)) kept) where
    -- memory ran out
    pub events_memory : StopsWithin (Wrote gives state k l) (PutFailed gives state k l) (event_lines net events) OutOfMemory
    events_memory =
        subst (λ text. StopsWithin (Wrote gives state k l) (PutFailed gives state k l) text OutOfMemory) (sym (lines_cut net events i))
        (put_memory k l (event_lines net (take i events)) kept so_far (event_lines net (drop i events)))

    module _ (event : Event) (within : i < length events) (is : event ≡ get_or events i event) where
      -- an event more
      with_line : PutBut k l (event_lines net (take (i + 1) events)) (kept ++ event_line net event)
      with_line =
          subst (λ due. PutBut k l due (kept ++ event_line net event)) (sym (lines_at net events i event within is))
          (put_due k l (event_lines net (take i events)) kept so_far (event_line net event))

      pub events_stop : (m : K) (stop : Stop) → StopsWithin (Wrote gives state l m) (PutFailed gives state l m) (kept ++ event_line net event) stop
          → StopsWithin (Wrote gives state k m) (PutFailed gives state k m) (event_lines net events) stop
      events_stop m stop stops =
          subst (λ text. StopsWithin (Wrote gives state k m) (PutFailed gives state k m) text stop) (sym (lines_cut net events (i + 1)))
          (stops_before (Wrote gives state k m) (PutFailed gives state k m) (event_lines net (take (i + 1) events)) (event_lines net (drop (i + 1) events)) stop
          (put_stop k l (event_lines net (take (i + 1) events)) (kept ++ event_line net event) with_line m stop stops))

      pub events_next : (m : K) (now : List ℕ) → PutBut l m (kept ++ event_line net event) now → PutBut k m (event_lines net (take (i + 1) events)) now
      events_next m now more = put_next k l (event_lines net (take (i + 1) events)) (kept ++ event_line net event) with_line m now more

    module _ (all : take i events ≡ events) where
      -- the last piece
      due_all : event_lines net (take i events) ≡ event_lines net events
      due_all = ap (event_lines net) all

      pub events_end : (m : K) → Wrote gives state l m kept → Wrote gives state k m (event_lines net events)
      events_end m wrote = subst (λ text. Wrote gives state k m text) due_all (put_rest k l (event_lines net (take i events)) kept so_far m wrote)

      pub events_end_stop : (m : K) (stop : Stop) → StopsWithin (Wrote gives state l m) (PutFailed gives state l m) kept stop
          → StopsWithin (Wrote gives state k m) (PutFailed gives state k m) (event_lines net events) stop
      events_end_stop m stop stops =
          subst (λ text. StopsWithin (Wrote gives state k m) (PutFailed gives state k m) text stop) due_all
          (put_stop k l (event_lines net (take i events)) kept so_far m stop stops)
