-- The ports of routers of a sound network: the name of each leads to its number, and ports of one number are one.
use Rattle.std.proofs.Common.{◌≡◌, ℕ, ◌<◌, true, false, cond, List, [], ◌∷◌, ◌++◌, map, sym, ap, refl, ◌∙◌, ◌⊎◌, inl, inr, arith}
use Rattle.std.specs.Prelude.{not, nat_eq, codes, Some, None}
use Rattle.std.specs.Bool.{IsTrue}
use Rattle.std.specs.List.{Contains, find, list_all, starts_with}
use Rattle.std.specs.Str.{bytes_eq}
use Rattle.std.proofs.lemmas.Bool.{false≢true, false_from_ne_true, and_parts, eq-eqb, eqb-true, not-true}
use Rattle.std.proofs.lemmas.List.Elements.{Contains-append_right}
use Rattle.std.proofs.lemmas.Slice.Eq.{bytes_eq-Decides}
use Rattle.nv_base.specs.Field.{field_prerequisite}
use Rattle.nv_base.specs.declared.field.Field.{Field}
use Rattle.nv_base.specs.declared.field.Prerequisite.TheVariants.{Nothing}
use Rattle.nv_base.specs.declared.object.ObjId.{ObjId}
use Rattle.pkt_core.specs.Packet.{Values, value}
use Rattle.pkt_core.specs.Prerequisite.{is_there}
use Rattle.expr_eval.specs.MatchMeaning.{holds}
use Rattle.expr_eval.specs.Relation.{is_of_port}
use Rattle.nb_records.specs.declared.router.RouterPort.{RouterPort}
use Rattle.nb_records.specs.declared.switch.Port.{Port}
use Rattle.nb_model.specs.Names.{names, port_number}
use Rattle.nb_model.specs.Network.{Network}
use Rattle.nb_model.specs.Readable.{are_apart}
use Rattle.nb_model.specs.Sound.{IsSound}
use Rattle.sb_model.specs.Make.{is_port}
use Rattle.net_rows.proofs.Elements.{one_of, one_of_none, Contains-map}
use Rattle.net_rows.proofs.Pairs.{OfPairs, every_member}
use Rattle.net_rows.proofs.Sound.{each_passes}
use Rattle.lr_units.proofs.Numbers.{Before, router_ports_rise}
use Rattle.lr_units.proofs.SoundRouters.{router_port_is_sound}
use Rattle.tr_stage.specs.Machine.{number_of}
use Rattle.ls_laws.proofs.AtPort.{always_there}
use Rattle.ls_laws.proofs.PortNames.{no_group}

-- ---- names

-- of names that are apart, one among the others is no port's before them
not_before : (ports : List Port) (others : List (List ℕ)) (name : List ℕ) → IsTrue (are_apart bytes_eq (map (λ (p : Port). p.name) ports ++ others)) → Contains others name
    → find (λ (p : Port). bytes_eq p.name name) ports ≡ None
not_before [] others name apart there = refl
not_before (p ∷ ports) others name apart there =
    let names_after = map (λ (q : Port). q.name) ports ++ others in
    let parts = and_parts (list_all (λ n. not (bytes_eq p.name n)) names_after) (are_apart bytes_eq names_after) apart in
    let after = Contains-append_right (map (λ (q : Port). q.name) ports) others name there in
    rw (not-true (bytes_eq p.name name) (each_passes (λ n. not (bytes_eq p.name n)) names_after name parts.0 after)) (not_before ports others name parts.1 there)

pub apart_after : (xs ys : List (List ℕ)) → IsTrue (are_apart bytes_eq (xs ++ ys)) → IsTrue (are_apart bytes_eq ys)
apart_after [] ys apart = apart
apart_after (x ∷ xs) ys apart = apart_after xs ys (and_parts (list_all (λ n. not (bytes_eq x n)) (xs ++ ys)) (are_apart bytes_eq (xs ++ ys)) apart).1

-- of ports with names of their own, each is the one of its name
pub own_name : (ports : List RouterPort) (port : RouterPort) → IsTrue (are_apart bytes_eq (map (λ (p : RouterPort). p.name) ports)) → Contains ports port → find (λ (p : RouterPort). bytes_eq p.name port.name) ports ≡ Some port
own_name [] port apart there = absurd (one_of_none port there)
own_name (p ∷ ports) port apart there = by (one_of p ports port there) (own_name ports port parts.1)
  where
    names_after : List (List ℕ)
    names_after = map (λ (q : RouterPort). q.name) ports

    parts : IsTrue (list_all (λ name. not (bytes_eq p.name name)) names_after) × IsTrue (are_apart bytes_eq names_after)
    parts = and_parts (list_all (λ name. not (bytes_eq p.name name)) names_after) (are_apart bytes_eq names_after) apart

    by : (p ≡ port) ⊎ Contains ports port → (Contains ports port → find (λ (q : RouterPort). bytes_eq q.name port.name) ports ≡ Some port)
        → cond (bytes_eq p.name port.name) (Some p) (find (λ (q : RouterPort). bytes_eq q.name port.name) ports) ≡ Some port
    by (inl same) rest = rw ((bytes_eq-Decides p.name port.name).1 (ap (λ (q : RouterPort). q.name) same)) (ap Some same)
    by (inr later) rest =
        let named = Contains-map (λ (q : RouterPort). q.name) ports port later in
        rw (not-true (bytes_eq p.name port.name) (each_passes (λ name. not (bytes_eq p.name name)) names_after port.name parts.0 named)) (rest later)

not_named : (name group : List ℕ) → starts_with nat_eq name (codes "_MC_") ≡ false → starts_with nat_eq group (codes "_MC_") ≡ true → bytes_eq name group ≡ false
not_named name group other is = false_from_ne_true (bytes_eq name group) (λ same. false≢true (sym other ∙ ap (λ n. starts_with nat_eq n (codes "_MC_")) ((bytes_eq-Decides name group).0 same) ∙ is))

module _ (net : Network) (sound : IsSound net) (port : RouterPort) (there : Contains net.router_ports port) where
  abbrev switch_names : List (List ℕ)
  switch_names = map (λ (p : Port). p.name) net.ports

  abbrev router_names : List (List ℕ)
  router_names = map (λ (p : RouterPort). p.name) net.router_ports

  of_no_group : starts_with nat_eq port.name (codes "_MC_") ≡ false
  of_no_group = no_group port.name (router_port_is_sound net sound port there).is.named

  -- the name leads to the port
  pub port_by_name : port_number net port.name ≡ Some port.id
  port_by_name =
      rw (
        of_no_group,
        not_before net.ports router_names port.name sound.named.ports (Contains-map (λ (p : RouterPort). p.name) net.router_ports port there),
        own_name net.router_ports port (apart_after switch_names router_names sound.named.ports) there,
      ) refl

  -- and so what `outport` becomes for it is its number
  pub number_of_port : number_of (names net) port.name ≡ Some port.id.0
  number_of_port = rw (not_named port.name (codes "_MC_flood") of_no_group refl, not_named port.name (codes "_MC_unknown") of_no_group refl, port_by_name) refl

  module _ (packet : Values) (field : Field) (plain : field_prerequisite field ≡ Nothing) where
    -- the field has the number of the port where the match on its name holds
    pub at_port-gives : holds (names net) packet (is_port field port.name) ≡ true → value packet field ≡ port.id.0
    at_port-gives does =
        let parts = and_parts (is_there packet field) (is_of_port (value packet field) (port_number net port.name)) does in
        eqb-true (value packet field) port.id.0 (sym (ap (is_of_port (value packet field)) port_by_name) ∙ parts.1)

    -- and where it has it, the match holds
    pub at_port-from : value packet field ≡ port.id.0 → holds (names net) packet (is_port field port.name) ≡ true
    at_port-from is = rw (always_there packet field plain, port_by_name) (eq-eqb (value packet field) port.id.0 is)

-- ---- numbers

-- of records whose numbers rise, those of one number are one
pub one_of_number : {R : Type 0} (number : R → ObjId) (rs : List R) → OfPairs (Before number) rs → (x y : R) → Contains rs x → Contains rs y → (number x).0 ≡ (number y).0 → x ≡ y
one_of_number number [] rise x y at_x at_y same = absurd (one_of_none x at_x)
one_of_number {R} number (r ∷ rs) rise x y at_x at_y same = by (one_of r rs x at_x) (one_of r rs y at_y) (λ later_x later_y. one_of_number number rs rise.1 x y later_x later_y same)
  where
    above : (z : R) → Contains rs z → (number r).0 < (number z).0
    above z at = every_member (Before number r) rs z rise.0 at

    by : (r ≡ x) ⊎ Contains rs x → (r ≡ y) ⊎ Contains rs y → (Contains rs x → Contains rs y → x ≡ y) → x ≡ y
    by (inl is_x) (inl is_y) rest = sym is_x ∙ is_y
    by (inl is_x) (inr later) rest = let below = above y later in let here : (number r).0 ≡ (number x).0 = ap (λ z. (number z).0) is_x in absurd (omega (arith, below, here, same))
    by (inr later) (inl is_y) rest = let below = above x later in let here : (number r).0 ≡ (number y).0 = ap (λ z. (number z).0) is_y in absurd (omega (arith, below, here, same))
    by (inr later_x) (inr later_y) rest = rest later_x later_y

pub same_port : (net : Network) → IsSound net → (p q : RouterPort) → Contains net.router_ports p → Contains net.router_ports q → p.id.0 ≡ q.id.0 → p ≡ q
same_port net sound p q at_p at_q same = one_of_number (λ (r : RouterPort). r.id) net.router_ports (router_ports_rise net sound) p q at_p at_q same
