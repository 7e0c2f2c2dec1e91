use Rattle.nv_reply.proofs.Pieces.{put_none}
use Rattle.nv_reply.proofs.events.put_piece.Goals as goal

-- too short a text stays
pub returns-then-len-lt-PIECE-clause-put : goal.returns-then-len-lt-PIECE-clause-put
returns-then-len-lt-PIECE-clause-put g c = put_none g.K.Sink.put_gives g.K.Sink.state c.args.sink.now c.args.text.now.items
