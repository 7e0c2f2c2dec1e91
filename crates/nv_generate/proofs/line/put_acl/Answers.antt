use Rattle.std.proofs.Common.{[], ◌∷◌, codes}
use Rattle.nv_generate.specs.Generated.{numbered}
use Rattle.nv_generate.proofs.Joined.{joined_after}
use Rattle.nv_generate.proofs.line.put_acl.Goals as goal

pub returns : goal.returns
returns c =
    rw (c.in_ok-extend_from_slice.ensures.items, c.in_ok-put_with_number.ensures)
    (joined_after c.args.out.now.items (numbered (codes "acl-add g") c.args.switch) (codes " to-lport 1000 'ip4 && tcp.dst == 22' drop" ∷ []))
