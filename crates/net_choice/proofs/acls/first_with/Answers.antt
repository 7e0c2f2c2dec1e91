use Rattle.nb_records.specs.declared.sets.Group.{Group}
use Rattle.nb_model.specs.Belongs.{is_among}
use Rattle.net_choice.specs.inner.Acls.{first_of}
use Rattle.net_choice.proofs.Sound.{groups_rise}
use Rattle.net_choice.proofs.Through.{fewer_left, fold_next, fold_whole}
use Rattle.net_choice.proofs.acls.first_with.Goals as goal

pub loop-group-smaller : goal.loop-group-smaller
loop-group-smaller c = fewer_left (λ (x : Group). x.id) (λ (x : Group). is_among c.args.port x.ports) c.loop-group.last c.in-Some.group.now c.args.records.now.groups (groups_rise c.args.records.now c.requires) c.in-Some.ensures

pub loop-group-preserved : goal.loop-group-preserved
loop-group-preserved c =
    fold_next (λ (x : Group). x.id) (λ (x : Group). is_among c.args.port x.ports) (λ best (x : Group). first_of c.args.records.now c.args.way c.args.packet.now best x.id) c.loop-group.last c.args.records.now.groups
    _ _ c.loop-group.invariant c.in-Some.group.now (groups_rise c.args.records.now c.requires) c.in-Some.ensures _ c.first_of-best.ensures

pub returns : goal.returns
returns c =
    fold_whole (λ (x : Group). x.id) (λ (x : Group). is_among c.args.port x.ports) (λ best (x : Group). first_of c.args.records.now c.args.way c.args.packet.now best x.id) c.loop-group.last c.args.records.now.groups
    _ _ c.loop-group.invariant c.in_default.ensures
