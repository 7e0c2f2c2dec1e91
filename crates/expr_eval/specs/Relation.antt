-- When a number is in a relation to a right side (ovn-sb(5), 'Logical_Flow TABLE').
use Rattle.std.specs.Prelude.{ℕ, ◌%◌, ◌^◌, ◌==◌, Bool, false, not, nat_lt, nat_le, bit_and, Option, Some, None}
use Rattle.std.specs.List.{list_any}
use Rattle.nv_base.specs.declared.object.ObjId.{ObjId}
use Rattle.expr_core.specs.Lookup.{Lookup}
use Rattle.expr_core.specs.Width.{mask_of}
use Rattle.expr_core.specs.declared.comparison.Item.{Item}
use Rattle.expr_core.specs.declared.comparison.Item.TheVariants.{One, Masked, Text, AddrSet, Group}
use Rattle.expr_core.specs.declared.comparison.Rel.{Rel}
use Rattle.expr_core.specs.declared.comparison.Rel.TheVariants.{Eq, Ne, Lt, Le, Gt, Ge}
use Rattle.expr_core.specs.declared.comparison.Right.{Right}
use Rattle.expr_core.specs.declared.comparison.Right.TheVariants as right_of

-- the port of this number; numbers of ports have 32 bits
abbrev pub port_numbered : ℕ → ObjId
port_numbered n = record { 0 = n % 2 ^ 32 }

-- the number is that of the port, where there is one
abbrev pub is_of_port : ℕ → Option ObjId → Bool
is_of_port n None = false
is_of_port n (Some port) = n == port.0

-- The number, of a field of this width, equals the item. Bits outside a mask are ignored on both sides. A name that no
-- port has equals no port.
abbrev pub equals_item : Lookup → ℕ → ℕ → Item → Bool
equals_item net width n (One c) = n == c.value
equals_item net width n (Masked c m) = bit_and n (mask_of c m) == bit_and c.value (mask_of c m)
equals_item net width n (Text name) = is_of_port n (net.port name)
equals_item net width n (AddrSet name) = net.in_set name width n
equals_item net width n (Group name) = net.in_group name (port_numbered n)

-- The number equals the item, or one of the items
abbrev pub equals : Lookup → ℕ → ℕ → Right → Bool
equals net width n (right_of.Item i) = equals_item net width n i
equals net width n (right_of.Set is) = list_any (equals_item net width n) is

-- the number is in the relation to another
abbrev pub compares : ℕ → Rel → ℕ → Bool
compares n Eq c = n == c
compares n Ne c = not (n == c)
compares n Lt c = nat_lt n c
compares n Le c = nat_le n c
compares n Gt c = nat_lt c n
compares n Ge c = nat_le c n

-- The number, of a field of this width, is in the relation to the right side. Only one number is in an order.
abbrev pub relates : Lookup → ℕ → ℕ → Rel → Right → Bool
relates net width n rel (right_of.Item (One c)) = compares n rel c.value
relates net width n Eq right = equals net width n right
relates net width n Ne right = not (equals net width n right)
relates net width n rel right = false
