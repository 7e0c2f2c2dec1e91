use Rattle.lr_nat.proofs.nat_rule.put_translating_rules.Goals as goal

pub returns-in-Snat : goal.returns-in-Snat
returns-in-Snat c = rw c.in-Snat.is c.put_source_rules.ensures

pub returns-in-DnatAndSnat : goal.returns-in-DnatAndSnat
returns-in-DnatAndSnat c = rw c.in-DnatAndSnat.is c.put_both.ensures
