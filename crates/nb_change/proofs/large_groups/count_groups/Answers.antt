use Rattle.nb_records.specs.declared.sets.Group.{Group}
use Rattle.nb_model.specs.Belongs.{is_among}
use Rattle.nv_table.proofs.Through.{these_fewer}
use Rattle.nb_change.proofs.large_groups.count_groups.Goals as goal

pub loop-group-smaller : goal.loop-group-smaller
loop-group-smaller c =
    these_fewer (λ (x : Group). x.id) (λ (x : Group). is_among c.args.port x.ports) c.loop-group.after c.args.records.now.groups c.in-Some.group.now c.requires c.in-Some.ensures
