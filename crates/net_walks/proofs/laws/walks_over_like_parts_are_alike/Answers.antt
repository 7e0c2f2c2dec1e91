use Rattle.net_walks.proofs.Congruence.{walks_agree}
use Rattle.net_walks.proofs.laws.walks_over_like_parts_are_alike.Goals as goal

pub returns : goal.returns
returns g c = λ net packets ps qs same. walks_agree net g.S.States.holds ps qs same packets
