use Rattle.std.proofs.Common.{◌≡◌, true, false, arith, append-nil, sym}
use Rattle.std.proofs.lemmas.Bool.Decides.{nat_tests}
use Rattle.nb_model.specs.Readable.{is_priority}
use Rattle.net_rows.specs.Acls.{acl_on_rules}
use Rattle.ls_acl.proofs.acl_on.put_acl_on_rules.Goals as goal

pub returns-in_ok-put_rules_at : goal.returns-in_ok-put_rules_at
unfolding acl_on_rules
returns-in_ok-put_rules_at c =
    let is : is_priority c.args.acl.now.priority ≡ true = grind (arith, nat_tests, c.if-acl-le-GREATEST_PRIORITY.true) in
    rw is c.in_ok-put_rules_at.ensures

pub returns-else-acl-le-GREATEST_PRIORITY : goal.returns-else-acl-le-GREATEST_PRIORITY
unfolding acl_on_rules
returns-else-acl-le-GREATEST_PRIORITY c =
    let is : is_priority c.args.acl.now.priority ≡ false = grind (arith, nat_tests, c.if-acl-le-GREATEST_PRIORITY.false) in
    rw is (sym (append-nil c.args.rows.now))
