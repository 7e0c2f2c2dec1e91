use Rattle.pkt_micro.proofs.Judged.{said_is}
use Rattle.pkt_micro.proofs.Fitting.{list_fits}
use Rattle.pkt_micro.proofs.microflow.packet_of.Goals as goal

pub packet_with-requires : goal.packet_with-requires
packet_with-requires c =
    let listed = rw c.new-list.ensures at c.in_ok-put_said.ensures.ok in
    rw c.as_slice-equalities.ensures (list_fits c.args.typed.now _ c.requires (said_is _ _ listed))
