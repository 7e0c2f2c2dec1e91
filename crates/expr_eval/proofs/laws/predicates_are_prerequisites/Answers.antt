use Rattle.std.proofs.Math.Bool.{or-false}
use Rattle.expr_eval.proofs.laws.predicates_are_prerequisites.Goals as goal

pub returns : goal.returns
returns c = record {
  ip4 = λ net packet. or-false _;
  arp = λ net packet. or-false _;
  tcp = λ net packet. or-false _;
  udp = λ net packet. or-false _;
  icmp4 = λ net packet. or-false _;
}
