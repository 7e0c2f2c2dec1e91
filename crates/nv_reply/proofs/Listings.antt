-- The listing of some datapaths after that of others.
use Rattle.std.proofs.Common.{◌≡◌, ℕ, Bool, true, false, cond, List, [], ◌∷◌, ◌++◌, Option, Some, None, Result, refl, sym, ap, ◌∙◌, subst, append_assoc}
use Rattle.std.specs.Prelude.{filter}
use Rattle.std.specs.List.{flat_map}
use Rattle.std.proofs.lemmas.List.{append-nil}
use Rattle.nv_base.specs.declared.object.ObjId.{ObjId}
use Rattle.nv_io.specs.State.{SinkState}
use Rattle.nv_io.specs.declared.sink.SinkFailed.{SinkFailed}
use Rattle.nb_model.specs.Network.{Network}
use Rattle.sb_model.specs.declared.row.Row.{Row}
use Rattle.sb_rows.specs.Row.{rows_of}
use Rattle.sb_rows.specs.Listing.{datapath_listing, is_asked_for, listing}
use Rattle.nv_reply.specs.declared.stop.Stop.{Stop}
use Rattle.nv_reply.specs.declared.stop.Stop.TheVariants.{OutOfMemory}
use Rattle.nv_reply.specs.Reply.{datapaths}
use Rattle.nv_reply.specs.inner.Left.{left}
use Rattle.nv_reply.proofs.Datapaths.{all_at_first}
use Rattle.nv_io.specs.Writing.{Wrote, PutFailed}
use Rattle.nv_reply.specs.Stops.{StopsWithin}
use Rattle.nv_io.proofs.Writing.{wrote_nothing, wrote_after}
use Rattle.nv_reply.proofs.Stops.{stops_after, stops_before, stopped_first}

-- a datapath's number and name
abbrev pub Datapath : Type 0
Datapath = ObjId × List ℕ

module _ (rows : List Row) (only : Option ObjId) where
  -- the listing of one of them
  abbrev one_listing : Datapath → List ℕ
  one_listing d = datapath_listing (rows_of d.0 rows) d.1

  listing-append : (some others : List Datapath) → listing rows (some ++ others) only ≡ listing rows some only ++ listing rows others only
  listing-append [] others = refl
  listing-append (d ∷ some) others = by (is_asked_for only d.0) (listing-append some others)
    where
      asked : List Datapath → List Datapath
      asked all = filter (λ (x : Datapath). is_asked_for only x.0) all

      listed : List Datapath → List ℕ
      listed all = flat_map one_listing all

      by : (b : Bool) → listed (asked (some ++ others)) ≡ listed (asked some) ++ listed (asked others)
          → listed (cond b (d ∷ asked (some ++ others)) (asked (some ++ others))) ≡ listed (cond b (d ∷ asked some) (asked some)) ++ listed (asked others)
      by true rest = ap (λ text. one_listing d ++ text) rest ∙ sym (append_assoc (one_listing d) (listed (asked some)) (listed (asked others)))
      by false rest = rest

  module _ {K : Type 0} (gives : K → List ℕ → Result ℕ SinkFailed → K → Type 0) (state : K → SinkState) where
    -- of these datapaths all but the rest were listed
    abbrev pub Listed : K → K → List Datapath → List Datapath → Type 0
    Listed old new all rest = (listed : List Datapath) × (all ≡ listed ++ rest) × Wrote gives state old new (listing rows listed only)

    -- some were listed, and others were not
    abbrev pub ListedOf : K → K → List Datapath → List Datapath → Type 0
    ListedOf old new some others = (part : List Datapath) × (some ≡ part ++ others) × Wrote gives state old new (listing rows part only)

    -- none was
    pub none_of : (k : K) (some : List Datapath) → ListedOf k k some some
    none_of k some = ([], refl, wrote_nothing gives state k)

    module _ (k l : K) (all rest : List Datapath) (so_far : Listed k l all rest) where
      -- some more were listed
      listed_next : (m : K) (part others : List Datapath) → rest ≡ part ++ others → Wrote gives state l m (listing rows part only) → Listed k m all others
      listed_next m part others cut wrote = (
        so_far.0 ++ part,
        so_far.1 ∙ ap (λ more. so_far.0 ++ more) cut ∙ sym (append_assoc so_far.0 part others),
        subst (λ text. Wrote gives state k m text) (sym (listing-append so_far.0 part)) (wrote_after gives state k l m (listing rows so_far.0 only) (listing rows part only) so_far.2 wrote),
      )

      -- some more could not all be listed
      listed_stop : (m : K) (part others : List Datapath) (stop : Stop) → rest ≡ part ++ others
          → StopsWithin (Wrote gives state l m) (PutFailed gives state l m) (listing rows part only) stop
          → StopsWithin (Wrote gives state k m) (PutFailed gives state k m) (listing rows all only) stop
      listed_stop m part others stop cut stops =
          let whole : listing rows all only ≡ listing rows so_far.0 only ++ (listing rows part only ++ listing rows others only) =
          ap (λ d. listing rows d only) (so_far.1 ∙ ap (λ more. so_far.0 ++ more) cut) ∙ listing-append so_far.0 (part ++ others) ∙ ap (λ t. listing rows so_far.0 only ++ t) (listing-append part others) in
          subst (λ text. StopsWithin (Wrote gives state k m) (PutFailed gives state k m) text stop) (sym whole)
          (stops_after gives state k l m (listing rows so_far.0 only) (listing rows part only ++ listing rows others only) stop so_far.2
          (stops_before (Wrote gives state l m) (PutFailed gives state l m) (listing rows part only) (listing rows others only) stop stops))

    -- all were listed
    listed_all : (k l : K) (all : List Datapath) → Listed k l all [] → Wrote gives state k l (listing rows all only)
    listed_all k l all (listed, whole, wrote) = subst (λ d. Wrote gives state k l (listing rows d only)) (sym (whole ∙ append-nil listed)) wrote

    module _ (net : Network) where
      -- all datapaths
      abbrev all : List Datapath
      all = datapaths net.switches net.routers

      -- all but some, and but those after the last of them, were listed
      abbrev pub ListedTo : K → K → List Datapath → Option ObjId → Type 0
      ListedTo old new some last = Listed old new all (some ++ left last net)

      pub listed_first : (k : K) → ListedTo k k [] None
      listed_first k = ([], sym (all_at_first net), wrote_nothing gives state k)

      module _ (k l : K) (some : List Datapath) (last : Option ObjId) (so_far : ListedTo k l some last) where
        -- memory ran out
        pub listed_memory : StopsWithin (Wrote gives state k l) (PutFailed gives state k l) (listing rows all only) OutOfMemory
        listed_memory = listed_stop k l all (some ++ left last net) so_far l [] (some ++ left last net) OutOfMemory refl (stopped_first gives state l [])

        module _ (d : Datapath) (next : left last net ≡ d ∷ left (Some d.0) net) where
          -- with the one after the last
          abbrev more : List Datapath
          more = some ++ d ∷ []

          with_one : some ++ left last net ≡ more ++ left (Some d.0) net
          with_one = ap (λ rest. some ++ rest) next ∙ sym (append_assoc some (d ∷ []) (left (Some d.0) net))

          pub listed_more : (m : K) (others : List Datapath) → ListedOf l m more others → ListedTo k m others (Some d.0)
          listed_more m others (part, parts, wrote) =
              listed_next k l all (some ++ left last net) so_far m part (others ++ left (Some d.0) net)
              (with_one ∙ ap (λ these. these ++ left (Some d.0) net) parts ∙ append_assoc part others (left (Some d.0) net)) wrote

          pub stopped_more : (m : K) (stop : Stop) → StopsWithin (Wrote gives state l m) (PutFailed gives state l m) (listing rows more only) stop
              → StopsWithin (Wrote gives state k m) (PutFailed gives state k m) (listing rows all only) stop
          stopped_more m stop stops = listed_stop k l all (some ++ left last net) so_far m more (left (Some d.0) net) stop with_one stops

        module _ (none : left last net ≡ []) where
          -- none is after the last
          with_none : some ++ left last net ≡ some ++ []
          with_none = ap (λ rest. some ++ rest) none

          pub listed_end : (m : K) → Wrote gives state l m (listing rows some only) → Wrote gives state k m (listing rows all only)
          listed_end m wrote = listed_all k m all (listed_next k l all (some ++ left last net) so_far m some [] with_none wrote)

          pub stopped_end : (m : K) (stop : Stop) → StopsWithin (Wrote gives state l m) (PutFailed gives state l m) (listing rows some only) stop
              → StopsWithin (Wrote gives state k m) (PutFailed gives state k m) (listing rows all only) stop
          stopped_end m stop stops = listed_stop k l all (some ++ left last net) so_far m some [] stop with_none stops
