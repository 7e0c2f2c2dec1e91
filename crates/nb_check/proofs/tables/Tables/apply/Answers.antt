use Rattle.nb_check.proofs.tables.Tables.apply.Goals as goal

pub returns-clause-refused : goal.returns-clause-refused
returns-clause-refused c = rw (← c.self.view_is) c.apply.ensures.refused
