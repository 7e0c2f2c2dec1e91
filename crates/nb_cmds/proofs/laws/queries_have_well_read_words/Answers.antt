use Rattle.std.proofs.Common.{Some}
use Rattle.nb_cmds.proofs.QueryWords.{query_well_read}
use Rattle.nb_cmds.proofs.laws.queries_have_well_read_words.Goals as goal
use Rattle.nb_cmds.specs.declared.query.Query.TheVariants.{FlowList, Trace}

pub returns-clause-flow_list : goal.returns-clause-flow_list
returns-clause-flow_list c = λ text dp. query_well_read text (FlowList (Some dp))

pub returns-clause-trace : goal.returns-clause-trace
returns-clause-trace c = λ text dp minimal micro. query_well_read text (Trace minimal dp micro)
