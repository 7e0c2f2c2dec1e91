use Rattle.std.proofs.Common.{ap, ◌∙◌}
use Rattle.pkt_core.specs.Packet.{with_value}
use Rattle.pkt_core.proofs.packet.Packet.exchange.Goals as goal

pub returns-clause-exchanged : goal.returns-clause-exchanged
returns-clause-exchanged c =
    let first = c.set.ensures.set ∙ ap (with_value c.args.self.now c.args.one) c.get.ensures.value in
    c.set-2.ensures.set ∙ (λ i. with_value (first i) c.args.other (c.get-number.ensures.value i))

pub returns-clause-other : goal.returns-clause-other
returns-clause-other c = c.set-2.ensures.value ∙ c.get-number.ensures.value

pub returns-clause-rest : goal.returns-clause-rest
returns-clause-rest c = λ field apart_one apart_other. c.set-2.ensures.others field apart_other ∙ c.set.ensures.others field apart_one
