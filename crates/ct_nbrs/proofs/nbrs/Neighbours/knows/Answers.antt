use Rattle.std.proofs.Common.{◌∙◌, ap}
use Rattle.ct_core.specs.Neighbours.{is_known}
use Rattle.ct_nbrs.proofs.Changed.{there}
use Rattle.ct_nbrs.proofs.nbrs.Neighbours.knows.Goals as goal

pub returns : goal.returns
returns c =
    let pair = c.args.pair.now in
    c.contains_key.ensures ∙ there pair c.self.inside.macs.entries ∙ ap (is_known pair.port pair.addr) c.self.view_is
