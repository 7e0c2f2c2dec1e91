-- How many neighbours there are, where ports and router ports change.
use Rattle.std.proofs.Common.{◌≡◌, ℕ, ◌≤◌, Bool, true, false, not, ◌&&◌, Some, None, Option, List, [], ◌∷◌, ◌++◌, map, refl, sym, ap, ◌∙◌, subst}
use Rattle.std.specs.Prelude.{IsTrue, find, length, option_map, if◌then◌else◌}
use Rattle.std.proofs.lemmas.Bool.{and_parts, and_from}
use Rattle.nb_records.specs.declared.refusal.Kind.TheVariants as kind
use Rattle.nb_model.specs.Amounts.{amount, total, net_count, pair_count, neighbours_across, ip_count}
use Rattle.nb_model.specs.Belongs.{is_to_router, is_name, is_port, peer_port, peer_router_port}
use Rattle.nb_model.specs.Network.{Network, same, RouterPort, Port}
use Rattle.nb_model.proofs.AnyOf.{find_push, find_changed, all_true}
use Rattle.nb_model.proofs.Totals.{total_le, total_changed, total_kept_push, total_fewer, total_fewer_changed, le_self, le_equal}

-- a port is the peer of a router port of this name
abbrev pub is_peer_of : List ℕ → Port → Bool
is_peer_of name port = is_to_router port && is_name port.router_port name

-- a port of these is one that a router port knows across this peer
abbrev pub is_across : Port → Port → Bool
is_across peer port = port.enabled && (same port.switch peer.switch && not (same port.id peer.id))

-- One more port of kind Host, without addresses.

more_peers : (net : Network) (new : Port) (next : ℕ) → is_to_router new ≡ false → (port : RouterPort)
    → peer_port (record net { ports = net.ports ++ new ∷ []; next = next }) port ≡ peer_port net port
more_peers net new next host port = find_push (is_peer_of port.name) net.ports new (ap (λ is. is && is_name new.router_port port.name) host)

more_pairs : (net : Network) (new : Port) (next : ℕ) → is_to_router new ≡ false → (port : Port)
    → pair_count (record net { ports = net.ports ++ new ∷ []; next = next }) port ≡ pair_count net port
more_pairs net new next host port =
    λ i. if is_to_router port then net_count (find (λ other. is_port port (more_peers net new next host other i)) net.router_ports) else total ip_count port.addresses

more_across : (net : Network) (new : Port) (next : ℕ) → is_to_router new ≡ false → total ip_count new.addresses ≡ 0 → (peer : Option Port)
    → neighbours_across (record net { ports = net.ports ++ new ∷ []; next = next }) peer ≤ neighbours_across net peer
more_across net new next host nothing None = le_self 0
more_across net new next host nothing (Some peer) =
    let after : Network = record net { ports = net.ports ++ new ∷ []; next = next } in
    total_kept_push (pair_count after) (pair_count net) (is_across peer) net.ports new
    (ap (λ is. if is then net_count (peer_router_port after new) else total ip_count new.addresses) host ∙ nothing)
    (λ port. le_equal (pair_count after port) (pair_count net port) (more_pairs net new next host port))

pub port_more : (net : Network) (new : Port) (next : ℕ) → is_to_router new ≡ false → total ip_count new.addresses ≡ 0
    → amount (record net { ports = net.ports ++ new ∷ []; next = next }) kind.Neighbour ≤ amount net kind.Neighbour
port_more net new next host nothing =
    let after : Network = record net { ports = net.ports ++ new ∷ []; next = next } in
    total_le (λ port. neighbours_across after (peer_port after port)) (λ port. neighbours_across net (peer_port net port)) (λ port. true) net.router_ports (all_true net.router_ports)
    (λ port of. subst (λ peer. neighbours_across after peer ≤ neighbours_across net (peer_port net port)) (sym (more_peers net new next host port))
    (more_across net new next host nothing (peer_port net port)))

-- Ports that are changed in nothing that a router knows of them, but that they may be disabled.

pub record IsKnownAsBefore (change : Port → Port) : Type 0 where
  pub id : (port : Port) → (change port).id ≡ port.id
  pub switch : (port : Port) → (change port).switch ≡ port.switch
  pub to_router : (port : Port) → is_to_router (change port) ≡ is_to_router port
  pub router_port : (port : Port) → (change port).router_port ≡ port.router_port
  pub addresses : (port : Port) → (change port).addresses ≡ port.addresses
  pub enabled : (port : Port) → IsTrue (change port).enabled → IsTrue port.enabled

changed_peers : (net : Network) (change : Port → Port) → IsKnownAsBefore change → (port : RouterPort)
    → peer_port (record net { ports = map change net.ports }) port ≡ option_map change (peer_port net port)
changed_peers net change keeps port =
    find_changed (is_peer_of port.name) (is_peer_of port.name) change net.ports (λ other. λ i. keeps.to_router other i && is_name (keeps.router_port other i) port.name)

-- the same port is that one
changed_is : (change : Port → Port) → IsKnownAsBefore change → (port : Port) (found : Option Port) → is_port (change port) (option_map change found) ≡ is_port port found
changed_is change keeps port None = refl
changed_is change keeps port (Some peer) = λ i. same (keeps.id port i) (keeps.id peer i)

changed_pairs : (net : Network) (change : Port → Port) → IsKnownAsBefore change → (port : Port)
    → pair_count (record net { ports = map change net.ports }) (change port) ≡ pair_count net port
changed_pairs net change keeps port =
    let after : Network = record net { ports = map change net.ports } in
    let peer : (other : RouterPort) → is_port (change port) (peer_port after other) ≡ is_port port (peer_port net other) = λ other.
    ap (is_port (change port)) (changed_peers net change keeps other) ∙ changed_is change keeps port (peer_port net other) in
    λ i. if keeps.to_router port i then net_count (find (λ other. peer other i) net.router_ports) else total ip_count (keeps.addresses port i)

-- a port that a router port knows across the peer afterwards was known before
still_across : (change : Port → Port) → IsKnownAsBefore change → (peer port : Port) → IsTrue (is_across (change peer) (change port)) → IsTrue (is_across peer port)
still_across change keeps peer port is =
    let other : Bool = same (change port).switch (change peer).switch && not (same (change port).id (change peer).id) in
    let parts = and_parts (change port).enabled other is in
    and_from port.enabled (same port.switch peer.switch && not (same port.id peer.id)) (keeps.enabled port parts.0)
    (sym (λ i. same (keeps.switch port i) (keeps.switch peer i) && not (same (keeps.id port i) (keeps.id peer i))) ∙ parts.1)

changed_across : (net : Network) (change : Port → Port) → IsKnownAsBefore change → (peer : Option Port)
    → neighbours_across (record net { ports = map change net.ports }) (option_map change peer) ≤ neighbours_across net peer
changed_across net change keeps None = le_self 0
changed_across net change keeps (Some peer) =
    let after : Network = record net { ports = map change net.ports } in
    total_fewer_changed (pair_count after) (pair_count net) change (is_across (change peer)) (is_across peer) net.ports (still_across change keeps peer)
    (λ port. le_equal (pair_count after (change port)) (pair_count net port) (changed_pairs net change keeps port))

pub ports_known : (net : Network) (change : Port → Port) → IsKnownAsBefore change
    → amount (record net { ports = map change net.ports }) kind.Neighbour ≤ amount net kind.Neighbour
ports_known net change keeps =
    let after : Network = record net { ports = map change net.ports } in
    total_le (λ port. neighbours_across after (peer_port after port)) (λ port. neighbours_across net (peer_port net port)) (λ port. true) net.router_ports (all_true net.router_ports)
    (λ port of. subst (λ peer. neighbours_across after peer ≤ neighbours_across net (peer_port net port)) (sym (changed_peers net change keeps port))
    (changed_across net change keeps (peer_port net port)))

-- Router ports that keep their names and networks.

kept_peers : (net : Network) (change : RouterPort → RouterPort) → ((port : RouterPort) → (change port).name ≡ port.name) → (port : RouterPort)
    → peer_port (record net { router_ports = map change net.router_ports }) (change port) ≡ peer_port net port
kept_peers net change names port = λ i. find (is_peer_of (names port i)) net.ports

kept_count : (change : RouterPort → RouterPort) → ((port : RouterPort) → (change port).nets ≡ port.nets) → (found : Option RouterPort) → net_count (option_map change found) ≡ net_count found
kept_count change nets None = refl
kept_count change nets (Some port) = λ i. length (nets port i)

kept_pairs : (net : Network) (change : RouterPort → RouterPort) → ((port : RouterPort) → (change port).name ≡ port.name) → ((port : RouterPort) → (change port).nets ≡ port.nets) → (port : Port)
    → pair_count (record net { router_ports = map change net.router_ports }) port ≡ pair_count net port
kept_pairs net change names nets port =
    let after : Network = record net { router_ports = map change net.router_ports } in
    let found : peer_router_port after port ≡ option_map change (peer_router_port net port) =
    find_changed (λ other. is_port port (peer_port after other)) (λ other. is_port port (peer_port net other)) change net.router_ports
    (λ other. λ i. is_port port (kept_peers net change names other i)) in
    let count : net_count (peer_router_port after port) ≡ net_count (peer_router_port net port) = ap net_count found ∙ kept_count change nets (peer_router_port net port) in
    λ i. if is_to_router port then count i else total ip_count port.addresses

kept_across : (net : Network) (change : RouterPort → RouterPort) → ((port : RouterPort) → (change port).name ≡ port.name) → ((port : RouterPort) → (change port).nets ≡ port.nets) → (peer : Option Port)
    → neighbours_across (record net { router_ports = map change net.router_ports }) peer ≤ neighbours_across net peer
kept_across net change names nets None = le_self 0
kept_across net change names nets (Some peer) =
    let after : Network = record net { router_ports = map change net.router_ports } in
    total_fewer (pair_count after) (pair_count net) (is_across peer) (is_across peer) net.ports (λ port is. is)
    (λ port. le_equal (pair_count after port) (pair_count net port) (kept_pairs net change names nets port))

pub router_ports_known : (net : Network) (change : RouterPort → RouterPort) → ((port : RouterPort) → (change port).name ≡ port.name) → ((port : RouterPort) → (change port).nets ≡ port.nets)
    → amount (record net { router_ports = map change net.router_ports }) kind.Neighbour ≤ amount net kind.Neighbour
router_ports_known net change names nets =
    let after : Network = record net { router_ports = map change net.router_ports } in
    total_changed (λ port. neighbours_across after (peer_port after port)) (λ port. neighbours_across net (peer_port net port)) change net.router_ports
    (λ port. subst (λ peer. neighbours_across after peer ≤ neighbours_across net (peer_port net port)) (sym (kept_peers net change names port))
    (kept_across net change names nets (peer_port net port)))
