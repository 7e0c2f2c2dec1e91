use Rattle.std.proofs.Common.{◌≡◌, false, true, [], ◌∷◌, ◌++◌, map, append-nil, ap, sym, ◌∙◌, subst}
use Rattle.std.specs.Prelude.{OnOk}
use Rattle.net_rows.specs.Lookup.{lookup_rule}
use Rattle.net_rows.specs.Unit.{row_of, said_by}
use Rattle.ls_l2.proofs.Macs.{more_where}
use Rattle.ls_l2.proofs.port_l2.put_more_lookup_rules.Goals as goal

pub returns-then-has_mac : goal.returns-then-has_mac
returns-then-has_mac c =
    let none = more_where c.has_mac.result true c.args.input.now.peer_mac c.in-Some.mac c.as_slice.result.now c.args.input.now.addresses c.in-Some.is c.as_slice.ensures c.has_mac.ensures c.if-has_mac.true in
    sym (append-nil c.args.rows.now) ∙ ap (λ macs. c.args.rows.now ++ said_by c.args.unit (map (lookup_rule c.args.input.now.name) macs)) (sym none)

pub returns-in_ok-lookup_rule-in-Some : goal.returns-in_ok-lookup_rule-in-Some
returns-in_ok-lookup_rule-in-Some c =
    let one = more_where c.has_mac.result false c.args.input.now.peer_mac c.in-Some.mac c.as_slice.result.now c.args.input.now.addresses c.in-Some.is c.as_slice.ensures c.has_mac.ensures c.if-has_mac.false in
    subst (λ macs. OnOk c.put.result (c.put.new.rows ≡ c.args.rows.now ++ said_by c.args.unit (map (lookup_rule c.args.input.now.name) macs))) (sym one)
    (subst (λ r. OnOk c.put.result (c.put.new.rows ≡ c.args.rows.now ++ row_of c.args.unit r ∷ [])) c.in_ok-lookup_rule-in-Some.ensures c.put.ensures.ok)
