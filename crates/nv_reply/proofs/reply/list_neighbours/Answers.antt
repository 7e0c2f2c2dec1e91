use Rattle.std.proofs.Common.{◌++◌, ◌∙◌, ap}
use Rattle.nv_reply.specs.Neighbours.{neighbour_lines}
use Rattle.nv_reply.proofs.Answering.{accepted}
use Rattle.nv_reply.proofs.reply.list_neighbours.Goals as goal

pub returns : goal.returns
returns c =
    let session = c.args.session.now in
    accepted session (neighbour_lines session.network session.state.nbrs) c.args.out.now.items c.put_neighbours.new.out.items _ c.accept.result
    (c.in_ok-put_neighbours.ensures
    ∙ ap (λ net. c.args.out.now.items ++ neighbour_lines net c.nbrs.result.now) c.records.ensures.records
    ∙ ap (λ nbrs. c.args.out.now.items ++ neighbour_lines session.network nbrs) c.nbrs.ensures)
    c.accept.ensures.text c.accept.ensures.accepted
