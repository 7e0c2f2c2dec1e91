use Rattle.std.proofs.Common.{rules, ◌∙◌}
use Rattle.nb_check.proofs.Going.{none_since, since_next}
use Rattle.nb_check.proofs.apply.apply_each.Goals as goal

pub loop-edit-init : goal.loop-edit-init
loop-edit-init c = record {
  left = search rules;
  sound = c.requires.sound;
  known = c.requires.known;
  readable = search rules;
  room = search rules;
  same = search rules;
  back = search rules;
  first = c.requires.first;
  gone = none_since c.args.records.now c.args.gone.now.objects c.requires.none;
}

pub loop-edit-preserved : goal.loop-edit-preserved
loop-edit-preserved c = record {
  left = search rules;
  sound = c.in_ok-apply_next.ensures.sound;
  known = c.in_ok-apply_next.ensures.known;
  readable = search rules;
  room = search rules;
  same = search rules;
  back = c.in_ok-apply_next.ensures.back ∙ c.loop-edit.invariant.back;
  first = c.in_ok-apply_next.ensures.first ∙ c.loop-edit.invariant.first;
  gone = since_next c.args.records.now c.loop-edit.records c.apply_next.new.records c.in-Some.edit c.loop-edit.gone.objects c.apply_next.new.gone.objects c.loop-edit.gone.first c.requires.sound
      c.loop-edit.invariant.sound c.loop-edit.invariant.gone c.loop-edit.invariant.first c.in_ok-apply_next.ensures.done c.in_ok-apply_next.ensures.gone;
}
