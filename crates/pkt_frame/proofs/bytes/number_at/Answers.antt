use Rattle.std.proofs.Common.{◌+◌}
use Rattle.std.proofs.lemmas.List.{get_or-drop, take_rest}
use Rattle.byteorder.specs.Numbers.{big_from-lt}
use Rattle.pkt_frame.proofs.bytes.number_at.Goals as goal

pub returns-clause-fits : goal.returns-clause-fits
returns-clause-fits c =
    let bytes = c.args.bytes.now in
    rw (c.from.ensures, c.read_uint.ensures) (big_from-lt 0 c.args.count _ (λ k. rw (take_rest bytes c.args.place, get_or-drop c.args.place bytes k 0) (c.type_inv.bytes (c.args.place + k)).fits))
