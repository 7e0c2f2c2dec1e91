use Rattle.expr_const.proofs.Numbers.{constant_is_number, constant_is_mac, constant_is_address}
use Rattle.expr_const.proofs.constant.constant_of.Goals as goal

pub returns-in-Some : goal.returns-in-Some
returns-in-Some c = constant_is_number c.args.text.now _ c.in-Some.ensures

pub returns-in-Some-mac_of : goal.returns-in-Some-mac_of
returns-in-Some-mac_of c = constant_is_mac c.args.text.now _ c.in_default.ensures c.in-Some-mac_of.ensures

pub returns : goal.returns
returns c = constant_is_address c.args.text.now _ c.in_default.ensures c.in_default-mac_of.ensures c.ip4_of.ensures
