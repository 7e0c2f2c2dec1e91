use Rattle.std.proofs.Common.{◌∙◌}
use Rattle.nv_base.proofs.Growth.{on_err}
use Rattle.nb_records.proofs.Fronts.{in_front}
use Rattle.nb_records.proofs.refusal.put_number.Goals as goal

pub returns-in_err-put_dec-clause-err : goal.returns-in_err-put_dec-clause-err
returns-in_err-put_dec-clause-err c = on_err _ _ (in_front c.args.out.now.items _ _ c.args.out.now.ok.0 (_, c.in_err-put_dec.ensures.err ∙ c.in_ok-push.ensures.items))
