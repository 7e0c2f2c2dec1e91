use Rattle.std.proofs.Common.{◌++◌, ◌∙◌, ap}
use Rattle.nv_reply.specs.Connections.{connection_lines}
use Rattle.nv_reply.proofs.Answering.{accepted}
use Rattle.nv_reply.proofs.reply.list_connections.Goals as goal

pub returns : goal.returns
returns c =
    let session = c.args.session.now in
    accepted session (connection_lines session.network session.state.conns) c.args.out.now.items c.put_connections.new.out.items _ c.accept.result
    (c.in_ok-put_connections.ensures
    ∙ ap (λ net. c.args.out.now.items ++ connection_lines net c.conns.result.now) c.records.ensures.records
    ∙ ap (λ conns. c.args.out.now.items ++ connection_lines session.network conns) c.conns.ensures)
    c.accept.ensures.text c.accept.ensures.accepted
