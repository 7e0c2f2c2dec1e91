-- The predicates (ovn-sb(5), 'Logical_Flow TABLE', predicates; what `ip4.mcast` and `icmp` are is not from OVN).
use Rattle.std.specs.Prelude.{ℕ, List, [], ◌∷◌, Option, codes, nat_eq}
use Rattle.std.specs.List.{find}
use Rattle.std.specs.Cmp.Lexicographic.{pointwise}
use Rattle.expr_core.specs.declared.predicate.Pred.{Pred}
use Rattle.expr_core.specs.declared.predicate.Pred.TheVariants.{EthMcast, EthBcast, Ip4, Arp, Ip6, Ip, Tcp, Udp, Icmp4, Icmp, Ip4Mcast, CtNew, CtEst, CtRel, CtRpl, CtInv, CtTrk}

-- its name in a match
abbrev pub pred_name : Pred → List ℕ
pred_name EthMcast = codes "eth.mcast"
pred_name EthBcast = codes "eth.bcast"
pred_name Ip4 = codes "ip4"
pred_name Arp = codes "arp"
pred_name Ip6 = codes "ip6"
pred_name Ip = codes "ip"
pred_name Tcp = codes "tcp"
pred_name Udp = codes "udp"
pred_name Icmp4 = codes "icmp4"
pred_name Icmp = codes "icmp"
pred_name Ip4Mcast = codes "ip4.mcast"
pred_name CtNew = codes "ct.new"
pred_name CtEst = codes "ct.est"
pred_name CtRel = codes "ct.rel"
pred_name CtRpl = codes "ct.rpl"
pred_name CtInv = codes "ct.inv"
pred_name CtTrk = codes "ct.trk"

-- all of them
abbrev pub predicates : List Pred
predicates = EthMcast ∷ EthBcast ∷ Ip4 ∷ Arp ∷ Ip6 ∷ Ip ∷ Tcp ∷ Udp ∷ Icmp4 ∷ Icmp ∷ Ip4Mcast ∷ CtNew ∷ CtEst ∷ CtRel ∷ CtRpl ∷ CtInv ∷ CtTrk ∷ []

-- the predicate of this name
abbrev pub pred_of : List ℕ → Option Pred
pred_of text = find (λ p. pointwise nat_eq (pred_name p) text) predicates
