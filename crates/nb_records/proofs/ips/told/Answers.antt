use Rattle.std.proofs.Common.{◌<◌, ◌-◌, length, subst}
use Rattle.nb_records.specs.Tags.{ips_of}
use Rattle.nb_records.proofs.Told.{too_many}
use Rattle.nb_records.proofs.ips.told.Goals as goal

pub returns-then-more-count : goal.returns-then-more-count
returns-then-more-count c =
    too_many ips_of c.args.addresses.now c.loop-addr.addr-index c.loop-addr.count c.addr-item.result c.loop-addr-test.true c.addr-item.is c.loop-addr.invariant.0
    (subst (λ l. 256 - c.loop-addr.count < length l) c.ips_of-more.ensures c.if-more-count.true)
