use Rattle.std.proofs.Common.{sym, subst}
use Rattle.std.proofs.lemmas.Result.{IfOk-weaker}
use Rattle.nb_model.specs.Effect.{effect}
use Rattle.nb_limits.specs.Ceilings.{AreCeilings}
use Rattle.nb_limits.proofs.KnownAfter.{but_limits, known_holds}
use Rattle.nb_limits.proofs.ceilings.Ceilings.after.Goals as goal

pub known_after-requires : goal.known_after-requires
known_after-requires c = record { limitless = but_limits c.args.records.now c.requires.sound }

pub returns : goal.returns
returns c =
    IfOk-weaker c.known_after.result _ _
    (λ known is. subst (AreCeilings (effect c.args.records.now c.args.edit.now)) (sym is) (known_holds c.args.records.now c.args.self c.args.edit.now c.requires.sound c.requires.known)) c.known_after.ensures
