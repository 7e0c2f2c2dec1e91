use Rattle.std.proofs.Common.{sym, subst}
use Rattle.pkt_micro.specs.inner.Listed.{Fits}
use Rattle.pkt_micro.proofs.Fitting.{fits_at}
use Rattle.pkt_micro.proofs.judge.packet_with.Goals as goal

pub set-requires : goal.set-requires
set-requires c =
    let fit = fits_at c.args.equalities.now c.loop-equality.equality-index c.equality-item.result c.loop-equality-test.true c.requires in
    rw c.number.ensures (subst (λ e. Fits e) (sym c.equality-item.is) fit)
