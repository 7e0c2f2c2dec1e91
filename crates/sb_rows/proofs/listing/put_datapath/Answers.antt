use Rattle.nv_base.proofs.Growth.{grown_more, on_err, appended_twice}
use Rattle.sb_rows.proofs.listing.put_datapath.Goals as goal

pub returns-clause-ok : goal.returns-clause-ok
returns-clause-ok c = appended_twice _ _ _ _ _ c.in_ok-put_pipeline.ensures.ok c.in_ok-put_pipeline-2.ensures.ok

pub returns-in_err-put_pipeline-2-clause-err : goal.returns-in_err-put_pipeline-2-clause-err
returns-in_err-put_pipeline-2-clause-err c = on_err _ _ (grown_more _ _ _ _ c.in_ok-put_pipeline.ensures.ok c.in_err-put_pipeline-2.ensures.err)
