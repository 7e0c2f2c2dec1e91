-- What a run keeps from line to line.
use Rattle.std.specs.Prelude.{ℕ}
use Rattle.ct_core.specs.State.{State, empty_state}
use Rattle.nb_model.specs.Network.{Network, empty_network}

-- the network, how many hops a traced packet may take, and what packets left for later ones
pub record Session : Type 0 where
  pub network : Network
  pub hops : ℕ
  pub state : State

-- before the first line
abbrev pub new_session : ℕ → Session
new_session hops = record { network = empty_network; hops = hops; state = empty_state }

-- with another state
abbrev pub with_state : State → Session → Session
with_state state session = record session { state = state }
