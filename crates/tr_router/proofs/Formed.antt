-- Packets stay packets where their fields get numbers that fit, and learning leaves a state.
use Rattle.std.proofs.Common.{ℕ, ◌<◌, ◌^◌, Bool, true, false, cond, List, [], ◌∷◌}
use Rattle.std.specs.List.{AllByRecursion}
use Rattle.nv_base.specs.Field.{field_width}
use Rattle.nv_base.specs.declared.field.Field.{Field}
use Rattle.nv_base.specs.declared.field.Field.TheVariants.{ArpSpa, ArpSha}
use Rattle.pkt_core.specs.Packet.{Values, IsPacket, with_value, with_values}
use Rattle.ct_core.specs.Neighbours.{learnt}
use Rattle.ct_core.specs.State.{State}
use Rattle.ct_core.proofs.Learnt.{keeps_learnt}
use Rattle.nb_records.specs.declared.router.RouterPort.{RouterPort}
use Rattle.net_router.specs.Input.{after_learning, tells_neighbour, told_neighbour}
use Rattle.ls_laws.proofs.Packets.{fits_with}
use Rattle.tr_router.specs.Parts.{IsState}

-- numbers that fit their fields
abbrev pub Fit : List (Field × ℕ) → Type 0
Fit numbers = AllByRecursion (λ (p : Field × ℕ). p.1 < 2 ^ field_width p.0) numbers

pub fits_values : (packet : Values) (numbers : List (Field × ℕ)) → IsPacket packet → Fit numbers → IsPacket (with_values packet numbers)
fits_values packet [] is fit = is
fits_values packet (p ∷ numbers) is fit = fits_values (with_value packet p.0 p.1) numbers (fits_with packet p.0 p.1 is fit.0) fit.1

-- ---- what is learnt

-- what a packet tells of a neighbour leaves a state
pub learning_state : (port : RouterPort) (packet : Values) (state : State) → port.id.0 < 2 ^ 32 → IsPacket packet → IsState state → IsState (after_learning port packet state)
learning_state port packet state numbered formed are = by (tells_neighbour port packet)
  where
    by : (b : Bool) → IsState (cond b (record state { nbrs = learnt (told_neighbour port packet) state.nbrs }) state)
    by true = record { conns = are.conns; nbrs = keeps_learnt (told_neighbour port packet) state.nbrs are.nbrs (record { port = numbered; addr = formed.fits ArpSpa; mac = formed.fits ArpSha }) }
    by false = are
