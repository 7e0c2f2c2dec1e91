use Rattle.nv_map.proofs.Changes.{rise_with_entry}
use Rattle.nv_map.proofs.map.Map.put.Goals as goal

pub invariant_of-self : goal.invariant_of-self
invariant_of-self g c =
    rw (c.replace.ensures.after, c.put_into-root.ensures, c.take.ensures.value) (rise_with_entry g.met.K.Ord.total c.args.entry _ c.self.invariant)
