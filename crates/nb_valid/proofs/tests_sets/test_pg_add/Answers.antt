use Rattle.std.proofs.Common.{rules}
use Rattle.nb_valid.proofs.Members.{port_fails, name_fails, name_passes}
use Rattle.nb_valid.proofs.tests_sets.test_pg_add.Goals as goal

pub returns-in_err-want_ports-clause-refused : goal.returns-in_err-want_ports-clause-refused
returns-in_err-want_ports-clause-refused c = search (rules, port_fails)

pub returns-in_err-name-clause-refused : goal.returns-in_err-name-clause-refused
returns-in_err-name-clause-refused c = search (rules, name_fails)

pub returns-clause-ok : goal.returns-clause-ok
returns-clause-ok c = search (rules, name_passes)
