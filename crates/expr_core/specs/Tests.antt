-- What predicates and prerequisites mean: tests of parts of a packet.
use Rattle.std.specs.Prelude.{ℕ, List, [], ◌∷◌}
use Rattle.nv_base.specs.declared.field.Field.{Field}
use Rattle.nv_base.specs.declared.field.Field.TheVariants.{EthDst, EthType, IpProto, Ip4Dst, Icmp4Type, CtState}
use Rattle.nv_base.specs.declared.field.Prerequisite.{Prerequisite}
use Rattle.nv_base.specs.declared.field.Prerequisite.TheVariants as needs
use Rattle.expr_core.specs.declared.part.Bits.{Bits}
use Rattle.expr_core.specs.declared.part.Bits.TheVariants.{Whole, Bit, Range}
use Rattle.expr_core.specs.declared.predicate.Pred.{Pred}
use Rattle.expr_core.specs.declared.predicate.Pred.TheVariants as pred
use Rattle.expr_core.specs.declared.test.Test.{Test}

-- the part of the field has this number
abbrev pub test : Field → Bits → ℕ → Test
test field bits number = record { field = field; bits = bits; number = number }

-- a predicate holds where one of these tests does (ovn-sb(5), predicates)
abbrev pub tests : Pred → List Test
tests pred.EthMcast = test EthDst (Bit 40) 1 ∷ []
tests pred.EthBcast = test EthDst Whole 0xffff_ffff_ffff ∷ []
tests pred.Ip4 = test EthType Whole 0x800 ∷ []
tests pred.Arp = test EthType Whole 0x806 ∷ []
tests pred.Ip6 = test EthType Whole 0x86dd ∷ []
tests pred.Ip = test EthType Whole 0x800 ∷ test EthType Whole 0x86dd ∷ []
tests pred.Tcp = test IpProto Whole 6 ∷ []
tests pred.Udp = test IpProto Whole 17 ∷ []
tests pred.Icmp4 = test IpProto Whole 1 ∷ []
tests pred.Icmp = test IpProto Whole 1 ∷ []
tests pred.Ip4Mcast = test Ip4Dst (Range 28 31) 0xe ∷ []
tests pred.CtNew = test CtState (Bit 0) 1 ∷ []
tests pred.CtEst = test CtState (Bit 1) 1 ∷ []
tests pred.CtRel = test CtState (Bit 2) 1 ∷ []
tests pred.CtRpl = test CtState (Bit 3) 1 ∷ []
tests pred.CtInv = test CtState (Bit 4) 1 ∷ []
tests pred.CtTrk = test CtState (Bit 5) 1 ∷ []

-- a packet meets a prerequisite where of each of these lists one test holds
abbrev pub prerequisite_tests : Prerequisite → List (List Test)
prerequisite_tests needs.Nothing = []
prerequisite_tests needs.Ip4 = tests pred.Ip4 ∷ []
prerequisite_tests needs.Arp = tests pred.Arp ∷ []
prerequisite_tests needs.Tcp = tests pred.Ip4 ∷ tests pred.Tcp ∷ []
prerequisite_tests needs.Udp = tests pred.Ip4 ∷ tests pred.Udp ∷ []
prerequisite_tests needs.Icmp4 = tests pred.Ip4 ∷ tests pred.Icmp4 ∷ []
prerequisite_tests needs.IcmpError = tests pred.Ip4 ∷ tests pred.Icmp4 ∷ (test Icmp4Type Whole 3 ∷ test Icmp4Type Whole 11 ∷ []) ∷ []
