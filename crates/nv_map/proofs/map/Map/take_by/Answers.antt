use Rattle.nv_map.proofs.Changes.{rise_without_by}
use Rattle.nv_map.proofs.map.Map.take_by.Goals as goal

pub invariant_of-self : goal.invariant_of-self
invariant_of-self g c =
    rw (c.replace.ensures.after, c.take_from-taken.ensures.rest, c.take.ensures.value) (rise_without_by g.K.Ord.cmp (g.P.Probe.order c.args.probe.now) _ c.self.invariant)
