use Rattle.std.proofs.Common.{◌++◌, append_assoc, ap, sym, ◌∙◌}
use Rattle.nv_base.specs.Block.{Block}
use Rattle.lr_rows.specs.Input.{admitting_rules, address_rules, free_rules, expiring_rules}
use Rattle.net_rows.specs.Unit.{said_by}
use Rattle.lr_rows.proofs.Said.{and_then}
use Rattle.lr_in.proofs.port_in.put_rules_from.Goals as goal

pub returns : goal.returns
returns c =
    let unit = c.args.unit in
    let input = c.args.input.now in
    let expiring = expiring_rules input.name c.args.first.base in
    let free = free_rules input.free in
    let put_free = c.in_ok-put_free_rules.ensures ∙ ap (λ addrs. c.put_address_rules.new.rows ++ said_by unit (free_rules addrs)) c.as_slice.ensures in
    let put_expiring = c.in_ok-put_expiring_rules.ensures ∙ ap (λ (b : Block). c.put_free_rules.new.rows ++ said_by unit (expiring_rules input.name b.base)) c.first.view_is in
    let admitting = admitting_rules input in
    let address = address_rules input in
    let all = sym (append_assoc (admitting ++ address) free expiring ∙ append_assoc admitting address (free ++ expiring)) in
    and_then unit admitting c.args.rows.now _ c.in_ok-put_admitting_rules.ensures (address ++ free ++ expiring) _
    (and_then unit address _ _ c.in_ok-put_address_rules.ensures (free ++ expiring) _
    (and_then unit free _ _ put_free expiring _ put_expiring))
    ∙ ap (λ rules. c.args.rows.now ++ said_by unit rules) all
