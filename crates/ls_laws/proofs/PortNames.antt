-- The name of each port of a sound network leads to its number.
use Rattle.std.proofs.Common.{◌≡◌, ℕ, Bool, true, false, cond, List, [], ◌∷◌, ◌++◌, map, sym, ap, refl, ◌∙◌, ◌⊎◌, inl, inr}
use Rattle.std.specs.Prelude.{not, nat_eq, codes, Some}
use Rattle.std.specs.Bool.{IsTrue}
use Rattle.std.specs.List.{Contains, find, list_all, starts_with}
use Rattle.std.specs.Str.{bytes_eq}
use Rattle.std.proofs.lemmas.Bool.{false≢true, false_from_ne_true, and_parts, not-true}
use Rattle.std.proofs.lemmas.List.Elements.{Contains-append_left}
use Rattle.std.proofs.lemmas.Slice.Eq.{bytes_eq-Decides}
use Rattle.nv_base.specs.Name.{is_object_name}
use Rattle.nb_records.specs.declared.router.RouterPort.{RouterPort}
use Rattle.nb_records.specs.declared.switch.Port.{Port}
use Rattle.nb_model.specs.Names.{names}
use Rattle.nb_model.specs.Network.{Network}
use Rattle.nb_model.specs.Readable.{are_apart}
use Rattle.nb_model.specs.Sound.{IsSound}
use Rattle.net_rows.proofs.Elements.{one_of, one_of_none, Contains-map}
use Rattle.net_rows.proofs.Sound.{each_passes, port_of_sound}
use Rattle.tr_stage.specs.Machine.{number_of}

-- of ports with names of their own, each is the one of its name
pub own_name : (ports : List Port) (others : List (List ℕ)) (port : Port) → IsTrue (are_apart bytes_eq (map (λ (p : Port). p.name) ports ++ others)) → Contains ports port
    → find (λ (p : Port). bytes_eq p.name port.name) ports ≡ Some port
own_name [] others port apart there = absurd (one_of_none port there)
own_name (p ∷ ports) others port apart there = by (one_of p ports port there) (own_name ports others port parts.1)
  where
    names_after : List (List ℕ)
    names_after = map (λ (q : Port). q.name) ports ++ others

    parts : IsTrue (list_all (λ name. not (bytes_eq p.name name)) names_after) × IsTrue (are_apart bytes_eq names_after)
    parts = and_parts (list_all (λ name. not (bytes_eq p.name name)) names_after) (are_apart bytes_eq names_after) apart

    by : (p ≡ port) ⊎ Contains ports port → (Contains ports port → find (λ (q : Port). bytes_eq q.name port.name) ports ≡ Some port)
        → cond (bytes_eq p.name port.name) (Some p) (find (λ (q : Port). bytes_eq q.name port.name) ports) ≡ Some port
    by (inl same) rest = rw ((bytes_eq-Decides p.name port.name).1 (ap (λ (q : Port). q.name) same)) (ap Some same)
    by (inr later) rest =
        let named = Contains-append_left (map (λ (q : Port). q.name) ports) others port.name (Contains-map (λ (q : Port). q.name) ports port later) in
        rw (not-true (bytes_eq p.name port.name) (each_passes (λ name. not (bytes_eq p.name name)) names_after port.name parts.0 named)) (rest later)

-- the name of an object is not that of a multicast group
pub no_group : (name : List ℕ) → IsTrue (is_object_name name) → starts_with nat_eq name (codes "_MC_") ≡ false
no_group name is = by (starts_with nat_eq name (codes "_MC_")) (and_parts _ (not (starts_with nat_eq name (codes "_MC_"))) is).1
  where
    by : (b : Bool) → not b ≡ true → b ≡ false
    by true e = absurd (false≢true e)
    by false e = refl

not_named : (name group : List ℕ) → starts_with nat_eq name (codes "_MC_") ≡ false → starts_with nat_eq group (codes "_MC_") ≡ true → bytes_eq name group ≡ false
not_named name group other is = false_from_ne_true (bytes_eq name group) (λ same. false≢true (sym other ∙ ap (λ n. starts_with nat_eq n (codes "_MC_")) ((bytes_eq-Decides name group).0 same) ∙ is))

-- so each port's name leads to the port's number
pub number_of_port : (net : Network) (port : Port) → IsSound net → Contains net.ports port → number_of (names net) port.name ≡ Some port.id.0
number_of_port net port sound there =
    let other = no_group port.name (port_of_sound net sound port there).named in
    rw (not_named port.name (codes "_MC_flood") other refl, not_named port.name (codes "_MC_unknown") other refl, other, own_name net.ports (map (λ (p : RouterPort). p.name) net.router_ports) port sound.named.ports there) refl
