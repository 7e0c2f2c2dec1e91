-- What a packet's step through the stages of a router that translate addresses does: their stage laws.
use Rattle.std.specs.Prelude.{◌≡◌, ◌&&◌, not, Bool, true, false, if◌then◌else◌, Option, Some, None}
use Rattle.std.specs.Option.{option_map_or}
use Rattle.nv_base.specs.declared.field.Field.TheVariants.{CtState}
use Rattle.nv_base.specs.declared.object.ObjId.{ObjId}
use Rattle.pkt_core.specs.Packet.{value}
use Rattle.pkt_core.specs.Prerequisite.{is_ip4}
use Rattle.ct_core.specs.declared.look.Look.{Look}
use Rattle.ct_core.specs.declared.look.Look.TheVariants.{New}
use Rattle.ct_core.specs.declared.zone.Zone.TheVariants.{Dnat}
use Rattle.ct_core.specs.Look.{flags_of}
use Rattle.ct_core.specs.Translation.{back, forth, is_reply}
use Rattle.nb_records.specs.declared.router.Router.{Router}
use Rattle.nb_model.specs.Network.{Network}
use Rattle.nb_router.specs.Vocabulary.{dnats}
use Rattle.sb_model.specs.declared.stage.Stage.{Stage}
use Rattle.sb_model.specs.declared.stage.Stage.TheVariants.{LrInUnsnat, LrInDefrag, LrInDnat, LrInIpRouting, LrOutUndnat, LrOutSnat, LrOutDelivery}
use Rattle.net_router.specs.Translation.{Changed, bound_if, hidden_by, new_tuple, source_rule, unsnatted}
use Rattle.net_router.specs.Translation.Changed.{Onward, Stopped}
use Rattle.tr_stage.specs.declared.outcome.Outcome.TheVariants as outcomes
use Rattle.tr_pipe.specs.Machine.{StageEnd}
use Rattle.tr_pipe.specs.Machine.StageEnd.{On, Ends}
use Rattle.tr_pipe.specs.Tracking.{Flight, with_packet}
use Rattle.tr_pipe.specs.Translating.{tracked_by}
use Rattle.lr_laws.specs.Steps.{Does, IsOnRouter}

-- the look-up, if there was one, is noted in the packet's `ct_state`
abbrev pub IsFlagged : Flight → Type 0
IsFlagged flight = value flight.packet CtState ≡ option_map_or flags_of flight.look 0

-- a packet goes on with what its addresses became, or it is dropped and leaves the state as it was
abbrev pub changed_to : Stage → Flight → Changed → StageEnd
changed_to next flight (Onward packet state) = On next (record flight { packet = packet; state = state })
changed_to next flight (Stopped cause) = Ends (Some (outcomes.Drop cause)) flight.state

-- ---- arriving

-- a reply to an external address gets its destination back
abbrev pub Unsnats : Type 0
Unsnats =
    (net : Network) (router : Router) (flight : Flight) → IsOnRouter net router flight.packet → is_ip4 flight.packet ≡ true
    → Does net router LrInUnsnat flight (On LrInDefrag (with_packet flight (unsnatted net router.id flight.state.conns flight.packet)))

-- where destinations change the packet is looked up, and gets that of its connection
abbrev pub Defrags : Type 0
Defrags =
    (net : Network) (router : Router) (flight : Flight) → IsOnRouter net router flight.packet
    → Does net router LrInDefrag flight (On LrInDnat (if dnats net router.id then tracked_by forth (Dnat router.id) flight else flight))

-- what begins a connection may get another destination
abbrev pub redirected_by : Network → ObjId → Flight → Option Look → StageEnd
redirected_by net router flight (Some New) = changed_to LrInIpRouting flight (bound_if (Dnat router) (new_tuple net router flight.packet) flight.packet flight.state)
redirected_by net router flight _ = On LrInIpRouting flight

abbrev pub Redirects : Type 0
Redirects =
    (net : Network) (router : Router) (flight : Flight) → IsOnRouter net router flight.packet → is_ip4 flight.packet ≡ true → IsFlagged flight
    → Does net router LrInDnat flight (redirected_by net router.id flight flight.look)

-- ---- leaving

-- where destinations change the packet is looked up, and a reply comes from what it was sent to
abbrev pub Undnats : Type 0
Undnats =
    (net : Network) (router : Router) (flight : Flight) → IsOnRouter net router flight.packet
    → Does net router LrOutUndnat flight (On LrOutSnat (if dnats net router.id then tracked_by back (Dnat router.id) flight else flight))

-- whether it was found to be a reply
abbrev pub is_answer : Option Look → Bool
is_answer (Some found) = is_reply found
is_answer None = false

-- a rule may change the source of a packet of IPv4 that is no reply
abbrev pub Hides : Type 0
Hides =
    (net : Network) (router : Router) (flight : Flight) → IsOnRouter net router flight.packet → IsFlagged flight
    → Does net router LrOutSnat flight
    (if is_ip4 flight.packet && not (is_answer flight.look)
    then changed_to LrOutDelivery flight (hidden_by router.id (source_rule net router.id flight.packet) flight.packet flight.state)
    else On LrOutDelivery flight)
