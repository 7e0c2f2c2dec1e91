-- A packet as text: the match of ovn-sb(5) that says its header fields.
use Rattle.std.specs.Prelude.{ℕ, ◌==◌, Bool, false, true, List, [], ◌∷◌, ◌++◌, codes, decimal, if◌then◌else◌}
use Rattle.std.specs.List.{filter}
use Rattle.nv_base.specs.declared.field.Field.{Field}
use Rattle.nv_base.specs.declared.field.Printed.{Printed}
use Rattle.nv_base.specs.declared.field.Printed.TheVariants.{PortName, Decimal, Hexadecimal, MacAddress, Ip4Address}
use Rattle.nv_base.specs.Field.{field_name, field_printed, is_header, all_fields}
use Rattle.nv_base.specs.Ip4.{address, ip4_text}
use Rattle.nv_base.specs.Mac.{mac_text}
use Rattle.nv_base.specs.Number.{hexadecimal}
use Rattle.pkt_core.specs.Packet.{Values, value}

-- the fields that the text says, in their order
unfoldable pub header_fields : List Field
header_fields = filter is_header all_fields

-- a number as a match writes it; of a port, whose name no packet holds, in decimal
abbrev pub number_text : Printed → ℕ → List ℕ
number_text PortName n = decimal n
number_text Decimal n = decimal n
number_text Hexadecimal n = hexadecimal n
number_text MacAddress n = mac_text n
number_text Ip4Address n = ip4_text (address n)

-- the condition that the field has this number
abbrev pub condition_text : Field → ℕ → List ℕ
condition_text field n = field_name field ++ codes " == " ++ number_text (field_printed field) n

-- the text in front of a condition: `&&` after another one
abbrev pub separator : Bool → List ℕ
separator before = if before then codes " && " else []

-- the text at the end: `1`, which always holds, after no condition
abbrev pub ending : Bool → List ℕ
ending before = if before then [] else codes "1"

-- a condition for each of the fields whose number is not zero, maybe after another condition
abbrev pub conditions : Values → List Field → Bool → List ℕ
conditions packet [] before = ending before
conditions packet (f ∷ fs) before = if value packet f == 0 then conditions packet fs before else (separator before ++ condition_text f (value packet f) ++ conditions packet fs true)

-- the match that says the packet's header fields
abbrev pub packet_text : Values → List ℕ
packet_text packet = conditions packet header_fields false
