-- A network that is sound but that it may be over a limit: what an edit leaves that no test of names refuses.
use Rattle.nb_model.specs.Network.{Network}
use Rattle.nb_model.specs.Sound.{AreNumbered, AreNamed, Refer, AreApart, AreReadable}

pub record IsSoundButLimits (net : Network) : Type 0 where
  pub numbered : AreNumbered net
  pub named : AreNamed net
  pub refers : Refer net
  pub apart : AreApart net
  pub readable : AreReadable net
