use Rattle.std.proofs.Common.{[], ◌∷◌, codes, decimal}
use Rattle.nv_generate.specs.Generated.{numbered, switch_count}
use Rattle.nv_generate.proofs.Joined.{joined_after}
use Rattle.nv_generate.proofs.summary.put_summary.Goals as goal

pub returns : goal.returns
returns c =
    rw (c.in_ok-push.ensures.items, c.in_ok-put_dec.ensures.ok, c.in_ok-extend_from_slice.ensures.items, c.in_ok-put_with_number-2.ensures, c.in_ok-put_with_number.ensures, c.switch_count.ensures)
    (joined_after c.args.out.now.items (numbered (codes "generated switches=") (switch_count c.args.ports))
    (numbered (codes " ports=") c.args.ports ∷ codes " rows=" ∷ decimal c.args.rows ∷ codes "\n" ∷ []))
