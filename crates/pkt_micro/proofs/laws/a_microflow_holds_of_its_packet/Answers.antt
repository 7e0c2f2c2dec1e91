use Rattle.pkt_micro.proofs.Holding.{match_holds}
use Rattle.pkt_micro.proofs.laws.a_microflow_holds_of_its_packet.Goals as goal

pub returns : goal.returns
returns c = λ net t m es port typed says made known quotes. match_holds net t m es port typed says made known quotes
