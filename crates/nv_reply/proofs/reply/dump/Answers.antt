use Rattle.std.proofs.Common.{◌++◌, ◌∙◌, ap}
use Rattle.nb_dump.specs.Dump.{dump}
use Rattle.nv_reply.proofs.Answering.{accepted}
use Rattle.nv_reply.proofs.reply.dump.Goals as goal

pub returns : goal.returns
returns c =
    accepted c.args.session.now (dump c.args.session.now.network) c.args.out.now.items c.put_dump.new.out.items _ c.accept.result
    (c.in_ok-put_dump.ensures.ok ∙ ap (λ net. c.args.out.now.items ++ dump net) c.records.ensures.records)
    c.accept.ensures.text c.accept.ensures.accepted
