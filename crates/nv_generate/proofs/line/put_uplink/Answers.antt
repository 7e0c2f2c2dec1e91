use Rattle.std.proofs.Common.{[], ◌∷◌, codes}
use Rattle.nv_generate.specs.Generated.{numbered}
use Rattle.nv_generate.proofs.Joined.{joined_after}
use Rattle.nv_generate.proofs.line.put_uplink.Goals as goal

pub returns : goal.returns
returns c =
    let k = c.args.switch in
    rw (c.in_ok-put_with_number-6.ensures, c.in_ok-put_with_number-5.ensures, c.in_ok-put_with_number-4.ensures, c.in_ok-put_with_number-3.ensures, c.in_ok-put_with_number-2.ensures, c.in_ok-put_with_number.ensures)
    (joined_after c.args.out.now.items (numbered (codes "lsp-add g") k)
    (numbered (codes " s") k ∷ numbered (codes " -- lsp-set-type s") k ∷ numbered (codes " router -- lsp-set-addresses s") k ∷ numbered (codes " router -- lsp-set-options s") k ∷ numbered (codes " router-port=r") k ∷ []))
