-- What a packet has that has what is asked.
use Rattle.std.proofs.Common.{◌≡◌, ℕ, List, ap, sym, subst, refl, ◌∙◌, ◌⊎◌, inl, inr}
use Rattle.std.specs.Prelude.{Option, Some, None}
use Rattle.expr_core.specs.Lookup.{Lookup}
use Rattle.pkt_core.specs.Packet.{Values, value}
use Rattle.sb_rows.specs.declared.asks.Asks.{Asks}
use Rattle.sb_rows.specs.declared.asks.Called.{Called}
use Rattle.sb_rows.specs.declared.asks.Shape.{Shape}
use Rattle.sb_rows.specs.declared.asks.Side.{Side}
use Rattle.sb_rows.specs.inner.Asks.{HasAsked, IsNamed, bucket_by, bucket_of, name_bucket, name_of, numbers_at, numbers_of, port_bucket, port_field, shape_of, side_of}

-- its numbers are those that are asked
pub asked_numbers : (asks : Asks) (shape : Shape) (net : Lookup) (packet : Values) → shape_of asks ≡ shape → HasAsked asks net packet → numbers_of asks ≡ numbers_at shape packet
asked_numbers asks shape net packet shaped has =
    let own : numbers_of asks ≡ numbers_at (shape_of asks) packet = λ i. (sym has.first i, sym has.second i, sym has.third i) in
    own ∙ ap (λ (s : Shape). numbers_at s packet) shaped

-- where the name of a port is asked for, that port has it
pub asked_name : (asks : Asks) (shape : Shape) (side : Side) (net : Lookup) (packet : Values) → shape_of asks ≡ shape → shape.port ≡ Some side → HasAsked asks net packet
    → (name : List ℕ) × ((net.port name ≡ Some (record { 0 = value packet (port_field side) })) × ((name_of asks.port ≡ Some name) × (port_bucket asks.port ≡ name_bucket name)))
asked_name asks shape side net packet shaped is has = by asks.port (ap (λ (s : Shape). s.port) shaped ∙ is) has.named
  where
    by : (port : Option (Side × Called)) → side_of port ≡ Some side → IsNamed port net packet
        → (name : List ℕ) × ((net.port name ≡ Some (record { 0 = value packet (port_field side) })) × ((name_of port ≡ Some name) × (port_bucket port ≡ name_bucket name)))
    by None none named = absurd (cc)
    by (Some port) same named =
        let own : port.0 ≡ side = cc in
        (port.1.name.now, (subst (λ (s : Side). net.port port.1.name.now ≡ Some (record { 0 = value packet (port_field s) })) own named.0, (refl, named.1)))

-- where none is asked for, none is there
pub asked_no_name : (asks : Asks) (shape : Shape) → shape_of asks ≡ shape → shape.port ≡ None → (name_of asks.port ≡ None) × (port_bucket asks.port ≡ 0)
asked_no_name asks shape shaped is = by asks.port (ap (λ (s : Shape). s.port) shaped ∙ is)
  where
    by : (port : Option (Side × Called)) → side_of port ≡ None → (name_of port ≡ None) × (port_bucket port ≡ 0)
    by None none = (refl, refl)
    by (Some port) some = absurd (cc)

-- the bucket of what is asked is that of its shape, of its name, and of its numbers
pub asked_bucket : (asks : Asks) (shape : Shape) (name : ℕ) (numbers : ℕ × ℕ × ℕ) → shape_of asks ≡ shape → port_bucket asks.port ≡ name → numbers_of asks ≡ numbers → bucket_of asks ≡ bucket_by shape name numbers
asked_bucket asks shape name numbers shaped named numbered i = bucket_by (shaped i) (named i) (numbered i)

-- what follows from each of two follows from either
pub from_either : {A B C : Type 0} → A ⊎ B → (A → C) → (B → C) → C
from_either (inl a) f g = f a
from_either (inr b) f g = g b
