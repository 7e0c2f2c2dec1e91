-- How the stages that change addresses end, beside what the router makes of the packet.
use Rattle.std.proofs.Common.{◌≡◌, ℕ, Bool, true, false, eqb, sym, ap, refl, subst, ◌∙◌}
use Rattle.std.proofs.lemmas.Bool.{false≢true}
use Rattle.std.specs.Prelude.{Some}
use Rattle.nv_base.specs.Field.{field_count}
use Rattle.nv_base.specs.declared.field.Field.{Field}
use Rattle.nv_base.specs.declared.field.Field.TheVariants.{Inport, Outport, FlagsLoopback, EthType, IpTtl, CtState, CtMarkBlocked}
use Rattle.pkt_core.specs.Packet.{Values, IsPacket, place, value}
use Rattle.ct_core.specs.declared.look.Look.{Look}
use Rattle.ct_core.specs.State.{State}
use Rattle.sb_model.specs.declared.stage.Stage.{Stage}
use Rattle.net_router.specs.Translation.{Changed}
use Rattle.net_router.specs.Translation.Changed.{Onward, Stopped}
use Rattle.tr_stage.specs.declared.outcome.Outcome.TheVariants as outcomes
use Rattle.tr_pipe.specs.Machine.{StageEnd}
use Rattle.tr_pipe.specs.Machine.StageEnd.{On, Ends}
use Rattle.tr_pipe.specs.Tracking.{Flight, marked_by}
use Rattle.tr_pipe.specs.Translating.{Change}
use Rattle.lr_nat_laws.specs.Steps.{changed_to}
use Rattle.tr_router.specs.Parts.{IsState}
use Rattle.tr_router.proofs.Alike.{StandsFor}
use Rattle.tr_router.proofs.Changed.{BothChange, IsLeftOf, KeepsRest}
use Rattle.tr_router.proofs.Translated.{IsTranslation, both_marked, marked_is, marked_stays, stays}

-- ---- fields that neither a change of addresses nor a look-up changes

abbrev pub lasts : Field → Bool
lasts Inport = true
lasts Outport = true
lasts FlagsLoopback = true
lasts EthType = true
lasts IpTtl = true
lasts _ = false

abbrev pub Lasting : Values → Values → Type 0
Lasting before packet = (field : Field) → lasts field ≡ true → value packet field ≡ value before field

pub lasting_stays : (field : Field) → lasts field ≡ true → stays field ≡ true
lasting_stays Inport is = refl
lasting_stays Outport is = refl
lasting_stays FlagsLoopback is = refl
lasting_stays EthType is = refl
lasting_stays IpTtl is = refl
lasting_stays _ is = absurd (false≢true is)

no_flag : (field : Field) → lasts field ≡ true → eqb (place CtState) (place field) ≡ false
no_flag Inport is = refl
no_flag Outport is = refl
no_flag FlagsLoopback is = refl
no_flag EthType is = refl
no_flag IpTtl is = refl
no_flag _ is = absurd (false≢true is)

no_mark : (field : Field) → lasts field ≡ true → eqb (place CtMarkBlocked) (place field) ≡ false
no_mark Inport is = refl
no_mark Outport is = refl
no_mark FlagsLoopback is = refl
no_mark EthType is = refl
no_mark IpTtl is = refl
no_mark _ is = absurd (false≢true is)

pub marked_lasts : (found : Look) (packet : Values) → IsPacket packet → Lasting packet (marked_by found packet)
marked_lasts found packet is field lasting = marked_stays found packet field is.count (no_flag field lasting) (no_mark field lasting)

pub rest_lasts : (before packet : Values) → KeepsRest before packet → Lasting before packet
rest_lasts before packet kept field lasting = kept field (lasting_stays field lasting)

pub lasting_on : (first before packet : Values) → Lasting first before → Lasting before packet → Lasting first packet
lasting_on first before packet one two field lasting = two field lasting ∙ one field lasting

-- ---- what comes to the next stage

-- a packet of the rows, which began as another, with a state, for that of the router
pub record IsReached (began : Values) (out : ℕ) (flight : Flight) (packet : Values) (state : State) : Type 0 where
  pub stands : StandsFor out flight.packet packet
  pub formed : IsPacket flight.packet
  pub are : IsState flight.state
  pub state_is : flight.state ≡ state
  pub lasting : Lasting began flight.packet

-- the packet comes to the next stage, or is dropped, as the router's is
module _ (began : Values) (next : Stage) (before : State) where
  abbrev pub Comes : StageEnd → Changed → Type 0
  Comes end (Onward packet state) = (flight : Flight) × (end ≡ On next flight) × IsReached began (value began Outport) flight packet state
  Comes end (Stopped cause) = end ≡ Ends (Some (outcomes.Drop cause)) before

  -- with what its addresses became
  pub changed_comes : (flight : Flight) (own packet : Values) → flight.state ≡ before → Lasting began own → (of_rows of_router : Changed) → BothChange (value began Outport) of_rows of_router → IsLeftOf own of_rows
      → Comes (changed_to next flight of_rows) of_router
  changed_comes flight own packet state_is lasting (Onward x after) (Onward y later) both left = (
    record flight { packet = x; state = after },
    refl,
    record {
      stands = both.0;
      formed = left.0;
      are = left.1;
      state_is = both.1;
      lasting = lasting_on began own x lasting (rest_lasts own x left.2);
    },
  )
  changed_comes flight own packet state_is lasting (Stopped why) (Stopped cause) both left = λ i. Ends (Some (outcomes.Drop (both i))) (state_is i)
  changed_comes flight own packet state_is lasting (Onward x after) (Stopped cause) both left = absurd both
  changed_comes flight own packet state_is lasting (Stopped why) (Onward y later) both left = absurd both
