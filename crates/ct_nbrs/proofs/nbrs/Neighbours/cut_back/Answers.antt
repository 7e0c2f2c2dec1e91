use Rattle.std.proofs.Common.{◌≡◌, ◌∙◌, take, ap, subst, sym}
use Rattle.std.specs.List.{take-map}
use Rattle.ct_core.specs.Neighbours.{AreNeighbours}
use Rattle.ct_nbrs.specs.Held.{neighbour_in, neighbours_of}
use Rattle.ct_nbrs.proofs.Back.{keeps_take}
use Rattle.ct_nbrs.proofs.nbrs.Neighbours.cut_back.Goals as goal

pub invariant_of-self : goal.invariant_of-self
invariant_of-self c =
    let entries = c.self.inside.macs.entries in
    let left : neighbours_of c.truncate.new.self.entries ≡ take c.args.len (neighbours_of entries) = ap neighbours_of c.truncate.ensures.entries ∙ sym (take-map neighbour_in c.args.len entries) in
    subst AreNeighbours (sym left) (keeps_take c.args.len (neighbours_of entries) c.self.invariant)

pub returns : goal.returns
returns c =
    let entries = c.self.inside.macs.entries in
    ap neighbours_of c.truncate.ensures.entries ∙ sym (take-map neighbour_in c.args.len entries) ∙ ap (take c.args.len) c.self.view_is
