-- What a packet carries from part to part does not depend on its `outport`.
use Rattle.std.proofs.Common.{◌≡◌, ℕ, Bool, true, false, cond, [], ◌∷◌, eqb, sym, refl, ◌∙◌}
use Rattle.std.proofs.lemmas.Bool.{false≢true}
use Rattle.nv_base.specs.declared.field.Field.{Field}
use Rattle.nv_base.specs.declared.field.Field.TheVariants.{Inport, Outport, FlagsLoopback}
use Rattle.nv_base.specs.Field.{is_header}
use Rattle.pkt_core.specs.Packet.{Values, IsPacket, place, value, with_value, with_values, headers}
use Rattle.pkt_core.proofs.Only.{only_value, length-only}
use Rattle.net_meaning.specs.Switches.{turned_back}
use Rattle.net_meaning.specs.Walk.{carried}
use Rattle.ls_laws.specs.Steps.{sent_back}
use Rattle.ls_laws.proofs.Packets.{set_value, other_value, with_length, same_packets}

-- packets with the same header fields
same_headers : (a b : Values) → ((field : Field) → is_header field ≡ true → value a field ≡ value b field) → headers a ≡ headers b
same_headers a b same =
    same_packets (headers a) (headers b) (length-only a is_header) (length-only b is_header) (λ field. only_value a is_header field ∙ by field (is_header field) refl ∙ sym (only_value b is_header field))
  where
    by : (field : Field) (b' : Bool) → is_header field ≡ b' → cond b' (value a field) 0 ≡ cond b' (value b field) 0
    by field true is = same field is
    by field false is = refl

-- `outport` and `flags.loopback` are no header fields
outport_not : (field : Field) → is_header field ≡ true → eqb (place Outport) (place field) ≡ false
outport_not Inport header = absurd (false≢true header)
outport_not Outport header = absurd (false≢true header)
outport_not _ header = refl

loopback_not : (field : Field) → is_header field ≡ true → eqb (place FlagsLoopback) (place field) ≡ false
loopback_not FlagsLoopback header = absurd (false≢true header)
loopback_not _ header = refl

headers_outport : (packet : Values) (number : ℕ) → headers (with_value packet Outport number) ≡ headers packet
headers_outport packet number = same_headers (with_value packet Outport number) packet (λ field header. other_value packet Outport field number (outport_not field header))

headers_loopback : (packet : Values) (number : ℕ) → headers (with_value packet FlagsLoopback number) ≡ headers packet
headers_loopback packet number = same_headers (with_value packet FlagsLoopback number) packet (λ field header. other_value packet FlagsLoopback field number (loopback_not field header))

-- another `outport` changes nothing
pub carried_outport : (packet : Values) (number : ℕ) → carried (with_value packet Outport number) ≡ carried packet
carried_outport packet number = rw (headers_outport packet number, other_value packet Outport Inport number refl, other_value packet Outport FlagsLoopback number refl) refl

-- nor does that of a packet that goes back
turned : (packet : Values) (number : ℕ) → IsPacket packet → carried (with_values packet ((Outport, number) ∷ (FlagsLoopback, 1) ∷ [])) ≡ with_values (headers packet) ((Inport, value packet Inport) ∷ (FlagsLoopback, 1) ∷ [])
turned packet number is =
    let out = with_value packet Outport number in
    rw (
      headers_loopback out 1 ∙ headers_outport packet number,
      other_value out FlagsLoopback Inport 1 refl ∙ other_value packet Outport Inport number refl,
      set_value out FlagsLoopback 1 (with_length packet Outport number is.count),
    ) refl

meant : (packet : Values) → IsPacket packet → carried (turned_back packet) ≡ with_values (headers packet) ((Inport, value packet Inport) ∷ (FlagsLoopback, 1) ∷ [])
meant packet is =
    rw (
      headers_loopback packet 1,
      other_value packet FlagsLoopback Inport 1 refl,
      set_value packet FlagsLoopback 1 is.count,
    ) refl

pub carried_back : (packet : Values) → IsPacket packet → carried (sent_back packet) ≡ carried (turned_back packet)
carried_back packet is = turned packet (value packet Inport) is ∙ sym (meant packet is)

-- the `outport` of a packet that goes back is its `inport`
pub back_outport : (packet : Values) → IsPacket packet → value (sent_back packet) Outport ≡ value packet Inport
back_outport packet is =
    other_value (with_value packet Outport (value packet Inport)) FlagsLoopback Outport 1 refl ∙ set_value packet Outport (value packet Inport) is.count
