use Rattle.nv_map.proofs.Changes.{rise_with_value}
use Rattle.nv_map.proofs.map.Map.exchange.Goals as goal

pub invariant_of-self : goal.invariant_of-self
invariant_of-self g c = rw c.exchange_in.ensures.new (rise_with_value g.K.Ord.cmp c.args.key.now c.args.value _ c.self.invariant)
