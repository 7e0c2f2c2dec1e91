use Rattle.std.proofs.Common.{refl, ap, ◌∙◌, inl}
use Rattle.tr_pipe.specs.Machine.{done}
use Rattle.tr_pipe.specs.inner.Moving.{in_flight}
use Rattle.tr_pipe.proofs.Acts.{other_change}
use Rattle.tr_pipe.proofs.Plain.{plain_effect}
use Rattle.tr_pipe.proofs.act.do_step.Goals as goal

pub returns-in_default : goal.returns-in_default
returns-in_default g c =
    let net = g.E.Env.lookup c.args.env.now in
    let flight = in_flight c.args.moving.now c.args.work.now.state in
    record {
      effect = plain_effect net c.args.dp c.args.stage c.args.step.now flight (inl (other_change net c.args.step.now c.in_default.not-CtCommit c.in_default.not-PutArp c.in_default.not-GetArp c.requires.change)) ∙ ap (done flight) (c.change.ensures c.args.stage);
      back = refl;
    }
