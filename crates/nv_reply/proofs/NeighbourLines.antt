-- No line of a neighbour begins as a refusal does: a port may be named `refused`, but what follows its name is an address.
use Rattle.std.proofs.Common.{◌≡◌, ℕ, ◌+◌, ◌/◌, ◌%◌, ◌<◌, ◌≤◌, ◌&&◌, Bool, true, false, cond, eqb, nat_lt, List, [], ◌∷◌, ◌++◌, map, Some, None, Option, append_assoc, decimal, refl, sym, ap, ◌∙◌, subst, arith}
use Rattle.std.specs.Prelude.{codes, length, nat_eq, nat_le, not, option_map, unwrap_or}
use Rattle.std.specs.Bool.{IsTrue}
use Rattle.std.specs.List.{starts_with, flat_map, list_all, join_with_byte, All}
use Rattle.std.proofs.lemmas.Bool.{and_parts, eq-eqb, false≢true, ltb-true, ne_eqb}
use Rattle.std.proofs.lemmas.List.Elements.{recursion_from_All}
use Rattle.nv_base.specs.declared.object.ObjId.{ObjId}
use Rattle.nv_base.specs.declared.ip4.Ip4.{Ip4}
use Rattle.nv_base.specs.Ip4.{ip4_text}
use Rattle.nv_base.specs.Mac.{mac_text}
use Rattle.nv_base.specs.Name.{is_name_byte, is_object_name, is_quote}
use Rattle.nv_base.proofs.ByteTrips.{Clear, decimal_is_clear}
use Rattle.ct_core.specs.declared.neighbour.Neighbour.{Neighbour}
use Rattle.nb_records.specs.declared.router.RouterPort.{RouterPort}
use Rattle.nb_records.specs.declared.switch.Port.{Port}
use Rattle.nb_model.specs.Belongs.{either}
use Rattle.nb_model.specs.Network.{Network}
use Rattle.nb_model.specs.Readable.{are_addresses, are_guards, are_networks, is_mac, may_name}
use Rattle.nb_model.specs.Sound.{IsSound}
use Rattle.nv_table.specs.Table.{has_number, record_of}
use Rattle.nv_reply.specs.Events.{port_name}
use Rattle.nv_reply.specs.Neighbours.{learnt_text, neighbour_line, neighbour_lines}
use Rattle.nv_reply.specs.Reply.{ok_line}

-- ---- names

-- no byte of the name is a space
abbrev IsPlain : List ℕ → Type 0
IsPlain name = list_all is_name_byte name ≡ true

-- what begins with such a name, a space and this does not begin so
abbrev Differs : List ℕ → List ℕ → Type 0
Differs prefix more = (name : List ℕ) → IsPlain name → starts_with nat_eq (name ++ 32 ∷ more) prefix ≡ false

-- a byte that is no space
step : (c : ℕ) (rest more : List ℕ) → nat_eq c 32 ≡ false → Differs rest more → Differs (c ∷ rest) more
step c rest more other differs [] plain = ap (λ b. b && starts_with nat_eq more rest) other
step c rest more other differs (a ∷ name) plain = by (nat_eq c a) (differs name (and_parts (is_name_byte a) (list_all is_name_byte name) plain).1)
  where
    by : (b : Bool) → starts_with nat_eq (name ++ 32 ∷ more) rest ≡ false → (b && starts_with nat_eq (name ++ 32 ∷ more) rest) ≡ false
    by true differs = differs
    by false differs = refl

-- a space is in no name
no_space : (a : ℕ) → is_name_byte a ≡ true → nat_eq 32 a ≡ false
no_space a plain =
    let parts = and_parts (nat_lt 32 a && nat_lt a 127 && not (is_quote a)) (not (eqb a 92)) plain in
    let low = and_parts (nat_lt 32 a && nat_lt a 127) (not (is_quote a)) parts.0 in
    ne_eqb 32 a (λ is. absurd (omega (arith, is, ltb-true 32 a (and_parts (nat_lt 32 a) (nat_lt a 127) low.0).0)))

-- a space, and a byte that does not follow
last : (c : ℕ) (more : List ℕ) → starts_with nat_eq more (c ∷ []) ≡ false → Differs (32 ∷ c ∷ []) more
last c more none [] plain = none
last c more none (a ∷ name) plain =
    ap (λ b. b && starts_with nat_eq (name ++ 32 ∷ more) (c ∷ [])) (no_space a (and_parts (is_name_byte a) (list_all is_name_byte name) plain).0)

-- the first bytes of a refusal
refusal : (more : List ℕ) → starts_with nat_eq more (69 ∷ []) ≡ false → Differs (codes "refused E") more
refusal more none = step 114 (101 ∷ 102 ∷ 117 ∷ 115 ∷ 101 ∷ 100 ∷ 32 ∷ 69 ∷ []) more refl (step 101 (102 ∷ 117 ∷ 115 ∷ 101 ∷ 100 ∷ 32 ∷ 69 ∷ []) more refl (step 102 (117 ∷ 115 ∷ 101 ∷ 100 ∷ 32 ∷ 69 ∷ []) more refl (step 117 (115 ∷ 101 ∷ 100 ∷ 32 ∷ 69 ∷ []) more refl (step 115 (101 ∷ 100 ∷ 32 ∷ 69 ∷ []) more refl (step 101 (100 ∷ 32 ∷ 69 ∷ []) more refl (step 100 (32 ∷ 69 ∷ []) more refl (last 69 more none)))))))

-- ---- addresses

-- a text without this byte, and then another one
clear_first : (p rest a b c d : List ℕ) → Clear 69 p → starts_with nat_eq (((((p ++ 46 ∷ rest) ++ a) ++ b) ++ c) ++ d) (69 ∷ []) ≡ false
clear_first [] rest a b c d clear = refl
clear_first (byte ∷ p) rest a b c d clear = ap (λ e. e && true) (turned byte 69 (recursion_from_All (λ x. eqb x 69 ≡ false) (byte ∷ p) clear).0)
  where
    turned : (x y : ℕ) → eqb x y ≡ false → eqb y x ≡ false
    turned x y differs = ne_eqb y x (λ is. absurd (false≢true (sym differs ∙ eq-eqb x y (sym is))))

address_first : (ip : Ip4) (a b c d : List ℕ) → starts_with nat_eq ((((ip4_text ip ++ a) ++ b) ++ c) ++ d) (69 ∷ []) ≡ false
address_first ip a b c d = clear_first (decimal (ip.0 / 16777216 % 256)) _ a b c d (decimal_is_clear 69 (ip.0 / 16777216 % 256) (omega arith) (omega arith))

-- ---- lines

found_passes : {R : Type 0} (number : R → ObjId) (p : R → Bool) (n : ObjId) (records : List R) (r : R) → list_all p records ≡ true → record_of number n records ≡ Some r → p r ≡ true
found_passes number p n [] r all found = absurd (cc)
found_passes {R} number p n (x ∷ records) r all found = by (has_number number n x) found (found_passes number p n records r parts.1)
  where
    parts : (p x ≡ true) × (list_all p records ≡ true)
    parts = and_parts (p x) (list_all p records) all

    by : (b : Bool) → cond b (Some x) (record_of number n records) ≡ Some r → (record_of number n records ≡ Some r → p r ≡ true) → p r ≡ true
    by true is rest = let same : x ≡ r = cc in subst (λ y. p y ≡ true) same parts.0
    by false is rest = rest is

-- the bytes of the name of an object
bytes_of : (name : List ℕ) → is_object_name name ≡ true → IsPlain name
bytes_of name is =
    let sized = nat_lt 0 (length name) && nat_le (length name) 127 in
    let no_group = and_parts (sized && list_all is_name_byte name && not (starts_with nat_eq name (codes "-"))) (not (starts_with nat_eq name (codes "_MC_"))) is in
    let no_option = and_parts (sized && list_all is_name_byte name) (not (starts_with nat_eq name (codes "-"))) no_group.0 in
    (and_parts sized (list_all is_name_byte name) no_option.0).1

module _ (net : Network) (sound : IsSound net) where
  -- the name of a port, if there is one
  plain_name : (number : ObjId) → IsPlain (port_name net number)
  plain_name number = by (record_of (λ (p : Port). p.id) number net.ports) refl (record_of (λ (p : RouterPort). p.id) number net.router_ports) refl
    where
      by : (port : Option Port) → record_of (λ (p : Port). p.id) number net.ports ≡ port → (other : Option RouterPort) → record_of (λ (p : RouterPort). p.id) number net.router_ports ≡ other
          → IsPlain (unwrap_or (either (option_map (λ (p : Port). p.name) port) (option_map (λ (p : RouterPort). p.name) other)) [])
      by (Some port) found other is = bytes_of port.name (found_named port found)
        where
          found_named : (p : Port) → record_of (λ (q : Port). q.id) number net.ports ≡ Some p → is_object_name p.name ≡ true
          found_named p at =
              let all = found_passes (λ (q : Port). q.id) (λ (q : Port). is_object_name q.name && may_name q.router_port && are_addresses q.addresses && are_guards q.security) number net.ports p sound.readable.ports at in
              let addressed = and_parts (is_object_name p.name && may_name p.router_port && are_addresses p.addresses) (are_guards p.security) all in
              let named = and_parts (is_object_name p.name && may_name p.router_port) (are_addresses p.addresses) addressed.0 in
              (and_parts (is_object_name p.name) (may_name p.router_port) named.0).0
      by None none (Some port) found = bytes_of port.name (found_named port found)
        where
          found_named : (p : RouterPort) → record_of (λ (q : RouterPort). q.id) number net.router_ports ≡ Some p → is_object_name p.name ≡ true
          found_named p at =
              let all = found_passes (λ (q : RouterPort). q.id) (λ (q : RouterPort). is_object_name q.name && is_mac q.mac && are_networks q.nets) number net.router_ports p sound.readable.router_ports at in
              let named = and_parts (is_object_name p.name && is_mac p.mac) (are_networks p.nets) all in
              (and_parts (is_object_name p.name) (is_mac p.mac) named.0).0
      by None none None nothing = refl

  pub neighbours_say : (nbrs : List Neighbour) → false ≡ starts_with nat_eq (neighbour_lines net nbrs ++ ok_line) (codes "refused E")
  neighbours_say [] = refl
  neighbours_say (n ∷ nbrs) =
      let others = neighbour_lines net nbrs in
      let name = port_name net n.port in
      let after = ((ip4_text n.addr ++ codes " ") ++ mac_text n.mac) ++ codes "\n" in
      sym (refusal (after ++ (others ++ ok_line)) (address_first n.addr (codes " ") (mac_text n.mac) (codes "\n") (others ++ ok_line)) name (plain_name n.port))
      ∙ ap (λ text. starts_with nat_eq text (codes "refused E")) (sym (append_assoc (neighbour_line net n) others ok_line ∙ append_assoc name (learnt_text n) (others ++ ok_line)))
