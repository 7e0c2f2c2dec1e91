use Rattle.std.proofs.Common.{◌++◌, map}
use Rattle.lr_rows.specs.Routes.{own_address_rules, network_rule, delivery_rules}
use Rattle.lr_rows.proofs.Said.{and_then}
use Rattle.lr_route.proofs.port_route.put_rules_of.Goals as goal

pub returns : goal.returns
returns c =
    let unit = c.args.unit in
    let input = c.args.input.now in
    let networks = map (network_rule input) input.nets in
    let delivery = delivery_rules input.enabled input.name in
    and_then unit (own_address_rules input) c.args.rows.now _ c.in_ok-put_own_address_rules.ensures (networks ++ delivery) _
    (and_then unit networks _ _ c.in_ok-put_network_rules.ensures delivery _ c.in_ok-put_delivery_rules.ensures)
