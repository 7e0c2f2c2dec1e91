-- The steps of a walk by rows tell what the walk tells.
use Rattle.std.proofs.Common.{◌≡◌, ℕ, zero, suc, ◌+◌, ◌-◌, ◌<◌, ◌≤◌, Bool, true, false, cond, List, [], ◌∷◌, ◌++◌, length, drop, get_or, map, append_assoc, append-nil, sym, ap, refl, subst, ◌∙◌, arith}
use Rattle.std.specs.Prelude.{Option, IsSome, not, ◌&&◌}
use Rattle.std.proofs.lemmas.List.{drop_all, drop_more}
use Rattle.nv_base.specs.declared.object.ObjId.{ObjId}
use Rattle.nv_base.specs.declared.field.Field.TheVariants.{Outport}
use Rattle.pkt_core.specs.Packet.{Values, value, with_value}
use Rattle.pkt_core.specs.Replies.{start}
use Rattle.nb_model.specs.Network.{Network, same}
use Rattle.sb_model.specs.Stage.{all_stages, stage_at}
use Rattle.sb_model.specs.declared.stage.DatapathKind.{DatapathKind}
use Rattle.sb_model.specs.declared.stage.DatapathKind.TheVariants as kinds
use Rattle.sb_model.specs.declared.stage.Pipeline.TheVariants.{Ingress, Egress}
use Rattle.net_meaning.specs.Places.{Side, datapath_at, side_of}
use Rattle.net_meaning.specs.Places.Side.{Peer}
use Rattle.net_meaning.specs.Walk.{Part, Told, Walked, told_of, after_told, carried, then_part, delivered_to, left, arrived}
use Rattle.net_meaning.specs.Walk.Target.{Ports}
use Rattle.net_meaning.specs.Walk.Told.{Note}
use Rattle.net_meaning.specs.declared.answer.Answer.{Answer}
use Rattle.net_meaning.specs.declared.answer.Answer.TheVariants.{Reject, Arp}
use Rattle.ct_core.specs.State.{State}
use Rattle.tr_pipe.specs.Machine.{PipelineRun, run_pipeline}
use Rattle.tr_stage.specs.declared.outcome.Hit.{Hit}
use Rattle.tr_stage.specs.declared.outcome.Outcome.{Outcome}
use Rattle.ls_laws.specs.Steps.{flows_at}
use Rattle.tr_walk.specs.declared.event.Event.{Event}
use Rattle.tr_walk.specs.declared.event.Event.TheVariants as events
use Rattle.tr_walk.specs.Events.{event_of, is_hit, told_only}
use Rattle.tr_walk.specs.Machine.{numbered, after_ingress, egress, late_table, part_of, pipelines}
use Rattle.tr_walk.specs.inner.Telling.{events_of, onward, egress_table, is_late, entering, arriving, sending, leaving, going_out, delivering, answering}
use Rattle.sb_model.specs.Stage.{last_table}

-- ---- events

pub told_append : (one more : List (Told Hit)) → map event_of (one ++ more) ≡ map event_of one ++ map event_of more
told_append [] more = refl
told_append (first ∷ one) more = ap (λ rest. event_of first ∷ rest) (told_append one more)

-- of events one after the other those are told that are told of each
only_append : (minimal : Bool) (one more : List Event) → told_only minimal (one ++ more) ≡ told_only minimal one ++ told_only minimal more
only_append minimal [] more = refl
only_append minimal (event ∷ one) more = by (not (is_hit event && minimal)) (only_append minimal one more)
  where
    by : (b : Bool) → told_only minimal (one ++ more) ≡ told_only minimal one ++ told_only minimal more
        → cond b (event ∷ told_only minimal (one ++ more)) (told_only minimal (one ++ more)) ≡ cond b (event ∷ told_only minimal one) (told_only minimal one) ++ told_only minimal more
    by true rest = ap (λ all. event ∷ all) rest
    by false rest = rest

events_append : (minimal : Bool) (one more : List (Told Hit)) → told_only minimal (map event_of (one ++ more)) ≡ told_only minimal (map event_of one) ++ told_only minimal (map event_of more)
events_append minimal one more = ap (told_only minimal) (told_append one more) ∙ only_append minimal (map event_of one) (map event_of more)

-- hits are the notes of a walk by rows
noted_all : (hits : List Hit) (more : List (Told Hit)) → map event_of (map Note hits ++ more) ≡ map events.Hit hits ++ map event_of more
noted_all [] more = refl
noted_all (hit ∷ hits) more = ap (λ rest. events.Hit hit ∷ rest) (noted_all hits more)

noted : (minimal : Bool) (hits : List Hit) (more : List (Told Hit)) → told_only minimal (map event_of (map Note hits ++ more)) ≡ told_only minimal (map events.Hit hits) ++ told_only minimal (map event_of more)
noted minimal hits more = ap (told_only minimal) (noted_all hits more) ∙ only_append minimal (map events.Hit hits) (map event_of more)

-- the hits of a part, and then more events, are what is told
part_told : (minimal : Bool) (old mid new : List Event) (hits : List Hit) (more : List (Told Hit)) → mid ≡ old ++ told_only minimal (map events.Hit hits) → new ≡ mid ++ told_only minimal (map event_of more)
    → new ≡ old ++ told_only minimal (map event_of (map Note hits ++ more))
part_told minimal old mid new hits more first then =
    then ∙ ap (λ front. front ++ told_only minimal (map event_of more)) first ∙ append_assoc old (told_only minimal (map events.Hit hits)) (told_only minimal (map event_of more))
    ∙ ap (λ all. old ++ all) (sym (noted minimal hits more))

-- what is told after the old events, and the state that is left, are those of a walk
pub record Tells (minimal : Bool) (old now : List Event) (after : State) (walked : Walked Hit State) : Type 0 where
  pub all : now ≡ old ++ events_of minimal walked
  pub left : after ≡ walked.state

-- what is told of one walk after these events is what is told of the other after those, and the same state is left
pub record SameEnd (minimal : Bool) (one : List Event) (walked : Walked Hit State) (other : List Event) (whole : Walked Hit State) : Type 0 where
  pub all : one ++ events_of minimal walked ≡ other ++ events_of minimal whole
  pub left : walked.state ≡ whole.state

-- a run whose hits were told, with what became of the packet and the state that it left
pub record IsTold (minimal : Bool) (old mid : List Event) (outcome : Option Outcome) (state : State) (run : PipelineRun) : Type 0 where
  pub hits : mid ≡ old ++ told_only minimal (map events.Hit run.hits)
  pub outcome_is : outcome ≡ run.outcome
  pub state_is : state ≡ run.state

module _ (minimal : Bool) (net : Network) (hops : ℕ) where
  -- ---- parts

  module _ (state later : State) (arrival : ObjId) (packet from : Values) (outcome : Option Outcome) (old mid : List Event) (starts : from ≡ start packet arrival.0)
      (is : IsTold minimal old mid outcome later (run_pipeline (flows_at net (datapath_at net arrival)) Ingress 0 from state)) where
    abbrev ingress_from : Values → Part Hit State
    ingress_from p = part_of (after_ingress net (datapath_at net arrival)) (run_pipeline (flows_at net (datapath_at net arrival)) Ingress 0 p state)

    abbrev then_arrived : Values → Walked Hit State
    then_arrived p = then_part (ingress_from p) (arrived net (pipelines net) (onward net hops) arrival)

    abbrev run_in : PipelineRun
    run_in = run_pipeline (flows_at net (datapath_at net arrival)) Ingress 0 from state

    arrives : Option Outcome → State → Walked Hit State
    arrives o s = arriving net hops s arrival o

    pub entered : SameEnd minimal mid (arriving net hops later arrival outcome) old (entering net hops state arrival packet)
    unfolding arrives
    entered = record {
      all =
          part_told minimal old mid _ run_in.hits (arriving net hops run_in.state arrival run_in.outcome).told is.hits
          (ap (λ o. mid ++ events_of minimal (arrives o later)) is.outcome_is ∙ ap (λ s. mid ++ events_of minimal (arrives run_in.outcome s)) is.state_is)
          ∙ ap (λ (p : Values). old ++ events_of minimal (then_arrived p)) starts;
      left =
          ap (λ o. (arrives o later).state) is.outcome_is ∙ ap (λ s. (arrives run_in.outcome s).state) is.state_is
          ∙ ap (λ (p : Values). (then_arrived p).state) starts;
    }

  module _ (state later : State) (arrival port : ObjId) (table : ℕ) (packet out : Values) (outcome : Option Outcome) (old mid : List Event) (leaves : out ≡ with_value packet Outport port.0)
      (is : IsTold minimal old mid outcome later (run_pipeline (flows_at net (datapath_at net port)) Egress table out state)) where
    abbrev then_left : Values → Walked Hit State
    then_left p = then_part (egress net table port p state) (left net (pipelines net) (onward net hops) arrival port)

    abbrev run_out : PipelineRun
    run_out = run_pipeline (flows_at net (datapath_at net port)) Egress table out state

    goes : Option Outcome → State → Walked Hit State
    goes o s = going_out net hops s arrival port o

    pub has_left : SameEnd minimal mid (going_out net hops later arrival port outcome) old (leaving net hops state arrival port table packet)
    unfolding goes
    has_left = record {
      all =
          part_told minimal old mid _ run_out.hits (going_out net hops run_out.state arrival port run_out.outcome).told is.hits
          (ap (λ o. mid ++ events_of minimal (goes o later)) is.outcome_is ∙ ap (λ s. mid ++ events_of minimal (goes run_out.outcome s)) is.state_is)
          ∙ ap (λ (p : Values). old ++ events_of minimal (then_left p)) leaves;
      left =
          ap (λ o. (goes o later).state) is.outcome_is ∙ ap (λ s. (goes run_out.outcome s).state) is.state_is
          ∙ ap (λ (p : Values). (then_left p).state) leaves;
    }

  -- ---- copies

  copied : (state : State) (arrival port : ObjId) (ports : List ObjId) (packet : Values) → same port arrival ≡ false
      → sending net hops state arrival (Ports (port ∷ ports)) packet
      ≡ after_told (leaving net hops state arrival port 0 packet).told (sending net hops (leaving net hops state arrival port 0 packet).state arrival (Ports ports) packet)
  copied state arrival port ports packet is = rw is refl

  module _ (arrival : ObjId) (packet : Values) (ports : List ObjId) (index : ℕ) (state : State) (items old : List Event) (whole : Walked Hit State)
      (is : SameEnd minimal items (sending net hops state arrival (Ports (drop index ports)) packet) old whole) where
    -- where no port is left, what was told is all
    pub all_told : length ports ≤ index → Tells minimal old items state whole
    all_told past =
        let none : sending net hops state arrival (Ports (drop index ports)) packet ≡ sending net hops state arrival (Ports []) packet = ap (λ (rest : List ObjId). sending net hops state arrival (Ports rest) packet) (drop_all index ports past) in
        record {
          all = sym (append-nil items) ∙ ap (λ (w : Walked Hit State). items ++ events_of minimal w) (sym none) ∙ is.all;
          left = ap (λ (w : Walked Hit State). w.state) (sym none) ∙ is.left;
        }

    module _ (within : index < length ports) where
      abbrev here : ObjId
      here = get_or ports index (record { 0 = 0 })

      next : SameEnd minimal items (sending net hops state arrival (Ports (here ∷ drop (index + 1) ports)) packet) old whole
      next = subst (λ (rest : List ObjId). SameEnd minimal items (sending net hops state arrival (Ports rest) packet) old whole) (drop_more ports index (record { 0 = 0 }) within) is

      -- no copy goes back by the port that the packet came in by
      pub skips : same here arrival ≡ true → SameEnd minimal items (sending net hops state arrival (Ports (drop (index + 1) ports)) packet) old whole
      skips back = subst (λ (w : Walked Hit State). SameEnd minimal items w old whole) (skipped back) next
        where
          skipped : same here arrival ≡ true → sending net hops state arrival (Ports (here ∷ drop (index + 1) ports)) packet ≡ sending net hops state arrival (Ports (drop (index + 1) ports)) packet
          skipped e = rw e refl

      -- what one copy tells comes before what the others do
      pub one_more : (new : List Event) (later : State) → same here arrival ≡ false → new ≡ items ++ events_of minimal (leaving net hops state arrival here 0 packet)
          → later ≡ (leaving net hops state arrival here 0 packet).state → SameEnd minimal new (sending net hops later arrival (Ports (drop (index + 1) ports)) packet) old whole
      one_more new later differ one leaves_it =
          subst (λ s. SameEnd minimal new (sending net hops s arrival (Ports (drop (index + 1) ports)) packet) old whole) (sym leaves_it)
          (by (subst (λ (w : Walked Hit State). SameEnd minimal items w old whole) (copied state arrival here (drop (index + 1) ports) packet differ) next))
        where
          by : SameEnd minimal items (after_told (leaving net hops state arrival here 0 packet).told (sending net hops (leaving net hops state arrival here 0 packet).state arrival (Ports (drop (index + 1) ports)) packet)) old whole
              → SameEnd minimal new (sending net hops (leaving net hops state arrival here 0 packet).state arrival (Ports (drop (index + 1) ports)) packet) old whole
          by both =
              let first = leaving net hops state arrival here 0 packet in
              let others = sending net hops first.state arrival (Ports (drop (index + 1) ports)) packet in
              record {
                all =
                    ap (λ front. front ++ events_of minimal others) one
                    ∙ append_assoc items (events_of minimal first) (events_of minimal others)
                    ∙ ap (λ events. items ++ events) (sym (events_append minimal first.told others.told))
                    ∙ both.all;
                left = both.left;
              }

-- ---- a packet is delivered

pub by_side : (net : Network) (hops : ℕ) (state : State) (port : ObjId) (packet : Values) (side : Side) → side ≡ side_of net port → delivered_to net (pipelines net) (onward net hops) port packet state side ≡ delivering net hops state port packet
by_side net hops state port packet side is = ap (λ s. delivered_to net (pipelines net) (onward net hops) port packet state s) is

-- ---- hops

one_less : (n : ℕ) → suc n - 1 ≡ n
one_less n = omega arith

-- a packet goes over to a peer, where there is a hop left
hop_over : (net : Network) (state : State) (port : ObjId) (packet : Values) (hops : ℕ) (peer : ObjId) → (hops ≡ 0 → ⊥) → delivered_to net (pipelines net) (onward net hops) port packet state (Peer peer) ≡ entering net (hops - 1) state peer packet
hop_over net state out packet zero peer some = absurd (some refl)
hop_over net state out packet (suc hops) peer some = ap (λ (n : ℕ). entering net n state peer packet) (sym (one_less hops))

pub goes_over : (net : Network) (state : State) (port : ObjId) (packet : Values) (hops : ℕ) (peer : ObjId) → (hops ≡ 0 → ⊥) → Peer peer ≡ side_of net port → entering net (hops - 1) state peer packet ≡ delivering net hops state port packet
goes_over net state port packet hops peer some is = sym (hop_over net state port packet hops peer some) ∙ by_side net hops state port packet (Peer peer) is

-- and so does a packet that is made
module _ (minimal : Bool) (net : Network) (state : State) (arrival : ObjId) (packet : Values) (old mid : List Event) where
  abbrev leaves_by : ℕ → ObjId → ℕ → Values → Walked Hit State
  leaves_by hops port table taken = leaving net hops state arrival port table taken

  -- the port that it leaves by, and the table
  abbrev out : ObjId
  out = numbered (value packet Outport)

  abbrev IsSame : ℕ → Answer → Walked Hit State → Type 0
  IsSame hops answer walked = SameEnd minimal mid walked old (answering net hops state arrival answer packet)

  made_leaves : (hops : ℕ) (answer : Answer) → (hops ≡ 0 → ⊥) → mid ≡ old ++ map event_of (told_of answer arrival)
      → IsSame hops answer (leaves_by (hops - 1) out (egress_table net out (is_late answer)) (carried packet))
  made_leaves zero answer some first = absurd (some refl)
  made_leaves (suc hops) Reject some first =
      let late = late_table net (datapath_at net out) in
      subst (λ (n : ℕ). IsSame (suc hops) Reject (leaves_by n out late (carried packet))) (sym (one_less hops))
      (record { all = ap (λ front. front ++ events_of minimal (leaves_by hops out late (carried packet))) first ∙ append_assoc old (events.Reject arrival ∷ []) _; left = refl })
  made_leaves (suc hops) Arp some first =
      subst (λ (n : ℕ). IsSame (suc hops) Arp (leaves_by n out 0 (carried packet))) (sym (one_less hops))
      (record { all = ap (λ front. front ++ events_of minimal (leaves_by hops out 0 (carried packet))) first ∙ append_assoc old [] _; left = refl })

  pub replies : (hops : ℕ) (answer : Answer) (port : ObjId) (late : Bool) (taken : Values) → (hops ≡ 0 → ⊥) → mid ≡ old ++ map event_of (told_of answer arrival)
      → port ≡ out → late ≡ is_late answer → taken ≡ carried packet → IsSame hops answer (leaves_by (hops - 1) port (egress_table net port late) taken)
  replies hops answer port late taken some first port_is late_is taken_is =
      subst (λ (p : ObjId). IsSame hops answer (leaves_by (hops - 1) p (egress_table net p late) taken)) (sym port_is)
      (subst (λ (l : Bool). IsSame hops answer (leaves_by (hops - 1) out (egress_table net out l) taken)) (sym late_is)
      (subst (λ (q : Values). IsSame hops answer (leaves_by (hops - 1) out (egress_table net out (is_late answer)) q)) (sym taken_is)
      (made_leaves hops answer some first)))

-- ---- tables

-- each datapath has a first table of ingress, and of egress a first and a last one
pub ingress_begins : (kind : DatapathKind) → IsSome (stage_at kind Ingress 0)
unfolding stage_at all_stages
ingress_begins kinds.Switch = refl
ingress_begins kinds.Router = refl

pub egress_begins : (kind : DatapathKind) → IsSome (stage_at kind Egress 0)
unfolding stage_at all_stages
egress_begins kinds.Switch = refl
egress_begins kinds.Router = refl

pub egress_ends : (kind : DatapathKind) → IsSome (stage_at kind Egress (last_table kind))
unfolding stage_at all_stages
egress_ends kinds.Switch = refl
egress_ends kinds.Router = refl
