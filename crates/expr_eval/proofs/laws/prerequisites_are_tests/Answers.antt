use Rattle.std.proofs.Common.{◌≡◌, Bool, true, false, ◌&&◌, ◌||◌, ◌==◌, refl}
use Rattle.std.specs.List.{list_any, list_all}
use Rattle.nv_base.specs.declared.field.Field.TheVariants.{IpProto, Icmp4Type}
use Rattle.nv_base.specs.declared.field.Prerequisite.{Prerequisite}
use Rattle.nv_base.specs.declared.field.Prerequisite.TheVariants.{Nothing, Ip4, Arp, Tcp, Udp, Icmp4, IcmpError}
use Rattle.pkt_core.specs.Packet.{Values, value}
use Rattle.pkt_core.specs.Prerequisite.{is_ip4, meets}
use Rattle.expr_core.specs.Tests.{prerequisite_tests}
use Rattle.expr_eval.specs.MatchMeaning.{passes}
use Rattle.expr_eval.proofs.laws.prerequisites_are_tests.Goals as goal

one : (a : Bool) → a ≡ ((a || false) && true)
one true = refl
one false = refl

two : (a b : Bool) → (a && b) ≡ ((a || false) && ((b || false) && true))
two true b = one b
two false b = refl

three : (a b c d : Bool) → ((a && b) && (c || d)) ≡ ((a || false) && ((b || false) && ((c || (d || false)) && true)))
three true true true d = refl
three true true false d = one d
three true false c d = refl
three false b c d = refl

by_kind : (packet : Values) (needed : Prerequisite) → meets packet needed ≡ list_all (list_any (passes packet)) (prerequisite_tests needed)
by_kind packet Nothing = refl
by_kind packet Ip4 = one _
by_kind packet Arp = one _
by_kind packet Tcp = two _ _
by_kind packet Udp = two _ _
by_kind packet Icmp4 = two _ _
by_kind packet IcmpError = three (is_ip4 packet) (value packet IpProto == 1) (value packet Icmp4Type == 3) (value packet Icmp4Type == 11)

pub returns : goal.returns
returns c = by_kind
