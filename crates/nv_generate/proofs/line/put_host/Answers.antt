use Rattle.std.proofs.Common.{◌+◌, ◌/◌, ◌%◌, [], ◌∷◌, codes}
use Rattle.nv_base.specs.Mac.{mac_text}
use Rattle.nv_generate.specs.Generated.{address_text, numbered}
use Rattle.nv_generate.proofs.Joined.{joined_after}
use Rattle.nv_generate.proofs.line.put_host.Goals as goal

pub returns : goal.returns
returns c =
    let i = c.args.host in
    rw (c.in_ok-push-2.ensures.items, c.in_ok-put_address.ensures, c.in_ok-push.ensures.items, c.in_ok-put_numbered_mac.ensures, c.in_ok-extend_from_slice.ensures.items, c.in_ok-put_with_number-3.ensures, c.in_ok-put_with_number-2.ensures, c.in_ok-put_with_number.ensures)
    (joined_after c.args.out.now.items (numbered (codes "lsp-add g") (i / 100))
    (numbered (codes " p") i ∷ numbered (codes " -- lsp-set-addresses p") i ∷ codes " '" ∷ mac_text (0x020000000000 + i) ∷ codes " " ∷ address_text (i / 100) (i % 100 + 2) ∷ codes "'" ∷ []))
