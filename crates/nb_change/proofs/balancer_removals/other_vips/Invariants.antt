use Rattle.std.proofs.Common.{◌≡◌, take}
use Rattle.nb_model.specs.Belongs.{same_frontend}
use Rattle.nb_model.specs.Effect.{without}
use Rattle.nb_change.proofs.balancer_removals.other_vips.Given as goal

abbrev pub invariant-loop-vip : goal.invariant-loop-vip
invariant-loop-vip l = l.left ≡ without (λ vip. same_frontend l.at vip.at) (take l.vip-index l.vips)
