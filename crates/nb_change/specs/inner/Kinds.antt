-- The list of a kind of records in the network.
use Rattle.std.specs.Prelude.{◌≡◌, List}
use Rattle.nb_model.specs.Network.{Network}

-- one list of a network, and the network with another one in its place
pub record IsList {R : Type 0} (list : Network → List R) (with_list : List R → Network → Network) : Type 0 where
  pub read : (all : List R) (net : Network) → list (with_list all net) ≡ all
  pub again : (all before : List R) (net : Network) → with_list all (with_list before net) ≡ with_list all net
  pub same : (net : Network) → with_list (list net) net ≡ net
