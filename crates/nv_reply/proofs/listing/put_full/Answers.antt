use Rattle.nv_reply.proofs.Listings.{none_of}
use Rattle.nv_reply.proofs.listing.put_full.Goals as goal

pub returns-then-len-lt-DATAPATHS-clause-put : goal.returns-then-len-lt-DATAPATHS-clause-put
returns-then-len-lt-DATAPATHS-clause-put g c = none_of c.args.rows.now c.args.only g.K.Sink.put_gives g.K.Sink.state c.args.sink.now c.args.some.now.items
