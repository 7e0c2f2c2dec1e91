use Rattle.std.proofs.Common.{◌≡◌, sym, ap, ◌∙◌, subst}
use Rattle.std.proofs.lemmas.Result.{err_from_is_err_and}
use Rattle.nb_model.specs.Amounts.{first_over}
use Rattle.nb_model.specs.Effect.{effect}
use Rattle.nb_model.specs.Rises.{may_rise}
use Rattle.nb_limits.specs.Ceilings.{AreCeilings}
use Rattle.nb_limits.specs.Limitless.{IsSoundButLimits}
use Rattle.nb_check.proofs.Edited.{sound_but_limits, few_limits, limits_decide, sound_after, test_refuses, limits_refuse}
use Rattle.nb_check.proofs.apply.apply.Goals as goal

pub returns-in_err-edit-clause-refused : goal.returns-in_err-edit-clause-refused
returns-in_err-edit-clause-refused c =
    let p = err_from_is_err_and c.from_residual.result c.from_residual.ensures.1 in
    rw (p.1, p.2) (test_refuses c.args.records.now c.args.edit c.in_err-edit.field-0.0 c.in_err-edit.ensures.refused)

pub keep-requires : goal.keep-requires
keep-requires c =
    let done : c.edit.new.records ≡ effect c.args.records.now c.args.edit = c.in_ok-done.ensures.ok ∙ ap (effect c.args.records.now) c.in_ok-edit.ensures.ok.0 in
    record {
      limitless = subst IsSoundButLimits (sym done) (sound_but_limits c.args.records.now c.args.edit c.requires.sound c.requires.readable c.requires.room c.in_ok-edit.ensures.ok.1);
      known = subst (λ net. AreCeilings net c.in-Ok.after) (sym c.in_ok-done.ensures.ok)
          c.in-Ok.ensures;
    }

pub returns-clause-accepted : goal.returns-clause-accepted
returns-clause-accepted c =
    let done : c.edit.new.records ≡ effect c.args.records.now c.args.edit = c.in_ok-done.ensures.ok ∙ ap (effect c.args.records.now) c.in_ok-edit.ensures.ok.0 in
    let rise : c.may_rise-kinds.result.now ≡ may_rise c.args.edit = c.may_rise-kinds.ensures ∙ ap may_rise c.in_ok-edit.ensures.ok.0 in
    limits_decide c.args.records.now c.edit.new.records c.args.edit c.may_rise-kinds.result.now c.requires.sound c.in_ok-edit.ensures.ok.1 rise done ∙ c.in_ok-undo.ensures.within

pub returns-in_err-undo-clause-refused : goal.returns-in_err-undo-clause-refused
returns-in_err-undo-clause-refused c =
    let done : c.edit.new.records ≡ effect c.args.records.now c.args.edit = c.in_ok-done.ensures.ok ∙ ap (effect c.args.records.now) c.in_ok-edit.ensures.ok.0 in
    let rise : c.may_rise-kinds.result.now ≡ may_rise c.args.edit = c.may_rise-kinds.ensures ∙ ap may_rise c.in_ok-edit.ensures.ok.0 in
    let p = err_from_is_err_and c.from_residual-in_err-undo.result c.from_residual-in_err-undo.ensures.1 in
    rw (p.1, p.2) (limits_refuse c.args.records.now c.edit.new.records c.args.edit (first_over c.may_rise-kinds.result.now c.edit.new.records) c.in_err-undo.field-0.0
    (limits_decide c.args.records.now c.edit.new.records c.args.edit c.may_rise-kinds.result.now c.requires.sound c.in_ok-edit.ensures.ok.1 rise done) c.in_err-undo.ensures.refused)

pub returns-clause-sound : goal.returns-clause-sound
returns-clause-sound c =
    let done : c.edit.new.records ≡ effect c.args.records.now c.args.edit = c.in_ok-done.ensures.ok ∙ ap (effect c.args.records.now) c.in_ok-edit.ensures.ok.0 in
    let rise : c.may_rise-kinds.result.now ≡ may_rise c.args.edit = c.may_rise-kinds.ensures ∙ ap may_rise c.in_ok-edit.ensures.ok.0 in
    sound_after c.args.records.now c.keep.new.records c.args.edit
    (sound_but_limits c.args.records.now c.args.edit c.requires.sound c.requires.readable c.requires.room c.in_ok-edit.ensures.ok.1)
    (few_limits c.args.records.now c.edit.new.records c.args.edit c.may_rise-kinds.result.now c.requires.sound rise done ∙ c.in_ok-undo.ensures.within)
    (c.in_ok-undo.ensures.same ∙ done)
