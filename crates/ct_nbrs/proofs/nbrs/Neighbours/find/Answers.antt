use Rattle.std.proofs.Common.{◌∙◌, ap}
use Rattle.std.specs.Option.{option_map}
use Rattle.ct_core.specs.Neighbours.{neighbour_of}
use Rattle.ct_nbrs.specs.declared.pair.Pair.{Pair}
use Rattle.ct_nbrs.proofs.Changed.{found}
use Rattle.ct_nbrs.proofs.nbrs.Neighbours.find.Goals as goal

pub returns : goal.returns
returns c =
    let pair : Pair = record { port = c.args.port; addr = c.args.addr } in
    c.copied.ensures ∙ c.get.ensures.value ∙ found pair c.self.inside.macs.entries ∙ ap (λ nbrs. option_map (λ n. n.mac) (neighbour_of nbrs c.args.port c.args.addr)) c.self.view_is
