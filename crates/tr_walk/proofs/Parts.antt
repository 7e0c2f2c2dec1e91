-- The pipelines of a network do its parts.
use Rattle.nb_model.specs.Network.{Network}
use Rattle.nb_model.specs.Sound.{IsSound}
use Rattle.tr_walk.specs.Refined.{IsIngress, IsEgress, IsLate}
use Rattle.tr_walk.proofs.Pipelines.{at_dp, ingress_is, egress_is, late_is}

module _ (net : Network) (sound : IsSound net) where
  pub of_ingress : IsIngress net
  of_ingress port packet state there are formed fresh from = rw (at_dp net sound port there) (ingress_is net sound port there packet state are formed fresh from)

  pub of_egress : IsEgress net
  of_egress port packet state there are formed fresh to = rw (at_dp net sound port there) (egress_is net sound port there packet state formed to are fresh)

  pub of_late : IsLate net
  of_late port packet state there formed to = rw (at_dp net sound port there) (late_is net sound port there packet state formed to)
