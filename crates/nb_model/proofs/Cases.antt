-- What holds of a network after a change holds where the change is made only for an object that is there.
use Rattle.std.proofs.Common.{◌≡◌, Some, None, Option, refl}
use Rattle.nb_model.specs.Effect.{where_there}
use Rattle.nb_model.specs.Network.{Network}

pub where_found : {X : Type 0} (P : Network → Type 0) (found : Option X) (change : X → Network) (net : Network) → P net
    → ((x : X) → found ≡ Some x → P (change x)) → P (where_there found change net)
where_found P None change net left changed = left
where_found P (Some x) change net left changed = changed x refl
