-- The first of the ACLs of a switch and of the groups of its ports is the one that decides.
use Rattle.std.proofs.Common.{◌≡◌, Bool, true, false, cond, ◌&&◌, Option, None, arith, refl, sym, ◌∙◌, subst, ◌⊎◌, inl, inr, ◌↔◌}
use Rattle.std.specs.Prelude.{filter, option_map}
use Rattle.std.specs.List.{Contains, list_any}
use Rattle.std.proofs.lemmas.Bool.{and_from, and_parts, or_cases, or_left, or_right, false≢true}
use Rattle.std.proofs.lemmas.Bool.Decides.{nat_tests}
use Rattle.nv_base.specs.declared.object.ObjId.{ObjId}
use Rattle.pkt_core.specs.Packet.{Values}
use Rattle.expr_eval.specs.MatchMeaning.{holds}
use Rattle.nb_records.specs.declared.acl.Acl.{Acl}
use Rattle.nb_records.specs.declared.acl.Way.{Way}
use Rattle.nb_records.specs.declared.sets.Group.{Group}
use Rattle.nb_records.specs.declared.switch.Port.{Port}
use Rattle.nb_model.specs.Belongs.{is_among, same_way}
use Rattle.nb_model.specs.Names.{names}
use Rattle.nb_model.specs.Network.{Network, same}
use Rattle.nb_model.specs.Sound.{IsSound}
use Rattle.nv_table.proofs.Tagged.{any_is, any_there}
use Rattle.net_meaning.specs.AclVerdict.{deciding}
use Rattle.nb_model.specs.Applies.{acls, applies}
use Rattle.net_choice.specs.inner.Acls.{acls_of, first, first_of, first_on, first_taking, first_with, groups_with, ports_on, takes}
use Rattle.net_choice.proofs.First.{first_among_same, first_through, first_with_one, one_first, IsFirst, OfOne}
use Rattle.net_choice.proofs.Kept.{kept_from, kept_passes, kept_rise, kept_there}
use Rattle.net_choice.proofs.Order.{by_rising_number}
use Rattle.net_choice.proofs.Sound.{acls_rise}

-- numbers are compared in either order
same_turned : (a b : ObjId) → same a b ≡ same b a
same_turned a b = grind (arith, nat_tests)

module _ (net : Network) (way : Way) (packet : Values) where
  -- an ACL of the owner that is for the packet
  abbrev IsOf : ObjId → Acl → Type 0
  IsOf owner acl = Contains net.acls acl × (same owner acl.owner ≡ true) × (takes net way packet acl ≡ true)

  -- the ACL itself, where it is for the packet
  abbrev IsItself : Acl → Acl → Type 0
  IsItself acl a = (takes net way packet acl ≡ true) × (acl ≡ a)

  step_taking : (S : Acl → Type 0) (best : Option Acl) (acl : Acl) → IsFirst S best → IsFirst (λ a. S a ⊎ IsItself acl a) (first_taking net way packet best acl)
  step_taking S best acl is = by (takes net way packet acl) refl
    where
      is_new : takes net way packet acl ≡ true → (a : Acl) → (S a ⊎ (acl ≡ a)) ↔ (S a ⊎ IsItself acl a)
      is_new taken a = (to, back)
        where
          to : S a ⊎ (acl ≡ a) → S a ⊎ IsItself acl a
          to (inl there) = inl there
          to (inr same) = inr (taken, same)

          back : S a ⊎ IsItself acl a → S a ⊎ (acl ≡ a)
          back (inl there) = inl there
          back (inr own) = inr own.1

      is_old : takes net way packet acl ≡ false → (a : Acl) → S a ↔ (S a ⊎ IsItself acl a)
      is_old left a = (λ there. inl there, back)
        where
          back : S a ⊎ IsItself acl a → S a
          back (inl there) = there
          back (inr own) = absurd (false≢true (sym left ∙ own.0))

      by : (b : Bool) → takes net way packet acl ≡ b → IsFirst (λ a. S a ⊎ IsItself acl a) (cond b (first best acl) best)
      by true taken = first_among_same (λ a. S a ⊎ (acl ≡ a)) (λ a. S a ⊎ IsItself acl a) (first best acl) (is_new taken) (first_with_one S best acl is)
      by false left = first_among_same S (λ a. S a ⊎ IsItself acl a) best (is_old left) is

  step_of : (owner : ObjId) (S : Acl → Type 0) (best : Option Acl) → IsFirst S best → IsFirst (λ a. S a ⊎ IsOf owner a) (first_of net way packet best owner)
  step_of owner S best is =
      first_among_same (λ a. S a ⊎ OfOne (first_taking net way packet) IsItself (acls_of net owner) a) (λ a. S a ⊎ IsOf owner a) (first_of net way packet best owner) same_ones
      (first_through (first_taking net way packet) IsItself step_taking (acls_of net owner) S best is)
    where
      owned : Acl → Bool
      owned acl = same owner acl.owner

      to : (a : Acl) → S a ⊎ OfOne (first_taking net way packet) IsItself (acls_of net owner) a → S a ⊎ IsOf owner a
      to a (inl there) = inl there
      to a (inr of) =
          inr (subst (λ (x : Acl). Contains net.acls x) of.2.1 (kept_there owned net.acls of.0 of.1), subst (λ (x : Acl). owned x ≡ true) of.2.1 (kept_passes owned net.acls of.0 of.1), subst (λ (x : Acl). takes net way packet x ≡ true) of.2.1 of.2.0)

      back : (a : Acl) → S a ⊎ IsOf owner a → S a ⊎ OfOne (first_taking net way packet) IsItself (acls_of net owner) a
      back a (inl there) = inl there
      back a (inr of) = inr (a, kept_from owned net.acls a of.0 of.1, (of.2, refl))

      same_ones : (a : Acl) → (S a ⊎ OfOne (first_taking net way packet) IsItself (acls_of net owner) a) ↔ (S a ⊎ IsOf owner a)
      same_ones a = (to a, back a)

  -- an ACL of one of the groups of a port
  abbrev IsOfGroups : Port → Acl → Type 0
  IsOfGroups port acl = OfOne (λ b (group : Group). first_of net way packet b group.id) (λ group. IsOf group.id) (groups_with net port.id) acl

  step_with : (S : Acl → Type 0) (best : Option Acl) (port : Port) → IsFirst S best → IsFirst (λ a. S a ⊎ IsOfGroups port a) (first_with net way packet best port.id)
  step_with S best port is = first_through (λ b (group : Group). first_of net way packet b group.id) (λ group. IsOf group.id) (λ S' b group. step_of group.id S' b) (groups_with net port.id) S best is

  module _ (switch : ObjId) where
    -- an ACL of the switch, or of a group of one of its ports
    abbrev IsOfSwitch : Acl → Type 0
    IsOfSwitch acl = (⊥ ⊎ IsOf switch acl) ⊎ OfOne (λ b (port : Port). first_with net way packet b port.id) IsOfGroups (ports_on net switch) acl

    walked : IsFirst IsOfSwitch (first_on net way packet (first_of net way packet None switch) switch)
    walked =
        first_through (λ b (port : Port). first_with net way packet b port.id) IsOfGroups step_with (ports_on net switch) (λ a. ⊥ ⊎ IsOf switch a) (first_of net way packet None switch)
        (step_of switch (λ a. ⊥) None (λ a none. none))

    abbrev held : Acl → Bool
    held acl = holds (names net) packet acl.matching

    abbrev applied : Acl → Bool
    applied acl = applies net switch acl && same_way acl.way way

    -- an ACL that the definition looks at
    abbrev IsLookedAt : Acl → Type 0
    IsLookedAt acl = ⊥ ⊎ OfOne first (λ x a. x ≡ a) (filter held (acls net switch way)) acl

    decided : IsSound net → IsFirst IsLookedAt (deciding net switch way packet)
    decided sound =
        subst (IsFirst IsLookedAt)
        (sym (by_rising_number (filter held (acls net switch way)) None (kept_rise held (λ (a : Acl). a.id) (acls net switch way) (kept_rise applied (λ (a : Acl). a.id) net.acls (acls_rise net sound))) tt))
        (first_through first (λ x a. x ≡ a) first_with_one (filter held (acls net switch way)) (λ a. ⊥) None (λ a none. none))

    -- the port is on the switch and in the group
    abbrev is_in : Group → Port → Bool
    is_in group port = same port.switch switch && is_among port.id group.ports

    -- the group owns the ACL, and has a port on the switch
    abbrev is_owner : Acl → Group → Bool
    is_owner acl group = same group.id acl.owner && list_any (is_in group) net.ports

    looked_at : (acl : Acl) → Contains net.acls acl → applies net switch acl ≡ true → takes net way packet acl ≡ true → IsLookedAt acl
    looked_at acl at applies_to taken =
        let parts = and_parts (same_way acl.way way) (held acl) taken in
        let kept = kept_from applied net.acls acl at (and_from (applies net switch acl) (same_way acl.way way) applies_to parts.0) in
        inr (acl, kept_from held (acls net switch way) acl kept parts.1, refl)

    to : (acl : Acl) → IsOfSwitch acl → IsLookedAt acl
    to acl (inl (inl none)) = absurd none
    to acl (inl (inr own)) = looked_at acl own.0 (or_left (same switch acl.owner) (list_any (is_owner acl) net.groups) own.1) own.2
    to acl (inr of_port) =
        let port = of_port.0 in
        let group = of_port.2.0 in
        let own = of_port.2.2 in
        let on_switch : same port.switch switch ≡ true = same_turned port.switch switch ∙ kept_passes (λ (p : Port). same switch p.switch) net.ports port of_port.1 in
        let in_group : is_among port.id group.ports ≡ true = kept_passes (λ (g : Group). is_among port.id g.ports) net.groups group of_port.2.1 in
        let some_port : list_any (is_in group) net.ports ≡ true = any_there (is_in group) net.ports port (kept_there (λ (p : Port). same switch p.switch) net.ports port of_port.1) (and_from (same port.switch switch) (is_among port.id group.ports) on_switch in_group) in
        let some_group : list_any (is_owner acl) net.groups ≡ true =
        any_there (is_owner acl) net.groups group (kept_there (λ (g : Group). is_among port.id g.ports) net.groups group of_port.2.1) (and_from (same group.id acl.owner) (list_any (is_in group) net.ports) own.1 some_port) in
        looked_at acl own.0 (or_right (same switch acl.owner) (list_any (is_owner acl) net.groups) some_group) own.2

    of_switch : (acl : Acl) → Contains net.acls acl → takes net way packet acl ≡ true → (same switch acl.owner ≡ true) ⊎ (list_any (is_owner acl) net.groups ≡ true) → IsOfSwitch acl
    of_switch acl at taken (inl own) = inl (inr (at, own, taken))
    of_switch acl at taken (inr some) =
        let at_group = any_is (is_owner acl) net.groups some in
        let group = at_group.0 in
        let of_group = and_parts (same group.id acl.owner) (list_any (is_in group) net.ports) at_group.2 in
        let at_port = any_is (is_in group) net.ports of_group.1 in
        let port = at_port.0 in
        let of_port = and_parts (same port.switch switch) (is_among port.id group.ports) at_port.2 in
        inr (port, kept_from (λ (p : Port). same switch p.switch) net.ports port at_port.1 (same_turned switch port.switch ∙ of_port.0), (group, kept_from (λ (g : Group). is_among port.id g.ports) net.groups group at_group.1 of_port.1, (at, of_group.0, taken)))

    back : (acl : Acl) → IsLookedAt acl → IsOfSwitch acl
    back acl (inl none) = absurd none
    back acl (inr of) = subst IsOfSwitch of.2 (of_switch of.0 (kept_there applied net.acls of.0 kept) (and_from (same_way of.0.way way) (held of.0) passes.1 (kept_passes held (acls net switch way) of.0 of.1)) (or_cases (same switch of.0.owner) (list_any (is_owner of.0) net.groups) passes.0))
      where
        kept : Contains (acls net switch way) of.0
        kept = kept_there held (acls net switch way) of.0 of.1

        passes : (applies net switch of.0 ≡ true) × (same_way of.0.way way ≡ true)
        passes = and_parts (applies net switch of.0) (same_way of.0.way way) (kept_passes applied net.acls of.0 kept)

    -- the walk by the owners finds the number of the ACL that decides
    pub found_decides : IsSound net → option_map (λ acl. acl.id) (first_on net way packet (first_of net way packet None switch) switch) ≡ option_map (λ acl. acl.id) (deciding net switch way packet)
    found_decides sound = one_first IsOfSwitch IsLookedAt (first_on net way packet (first_of net way packet None switch) switch) (deciding net switch way packet) (λ acl. (to acl, back acl)) walked (decided sound)
