use Rattle.ls_laws.proofs.PassingStages.{passes-LsInPreAcl, passes-LsInPreStateful, passes-LsInLb, passes-LsInStateful, passes-LsOutPreAcl, passes-LsOutPreStateful, passes-LsOutStateful}
use Rattle.ls_laws.proofs.passing.stages_without_connections_pass.Goals as goal

pub returns : goal.returns
returns c = record {
  ls_in_pre_acl = passes-LsInPreAcl;
  ls_in_pre_stateful = passes-LsInPreStateful;
  ls_in_lb = passes-LsInLb;
  ls_in_stateful = passes-LsInStateful;
  ls_out_pre_acl = passes-LsOutPreAcl;
  ls_out_pre_stateful = passes-LsOutPreStateful;
  ls_out_stateful = passes-LsOutStateful;
}
