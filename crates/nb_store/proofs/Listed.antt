-- Of the groups that list a port, the first from the number of a group on is that group exactly where it lists the port.
use Rattle.std.proofs.Common.{◌≡◌, ℕ, ◌<◌, Bool, true, false, cond, ◌==◌, ◌-◌, ◌&&◌, List, [], ◌∷◌, Some, None, refl, sym, ap, ◌∙◌, subst, arith}
use Rattle.std.specs.Prelude.{find}
use Rattle.std.specs.List.{AllByRecursion}
use Rattle.std.specs.Str.{bytes_eq}
use Rattle.std.proofs.lemmas.Bool.Decides.{nat_tests}
use Rattle.nv_base.specs.declared.object.ObjId.{ObjId}
use Rattle.nb_records.specs.declared.sets.Group.{Group}
use Rattle.nb_model.specs.Belongs.{is_among}
use Rattle.nb_model.specs.Names.{group_has, ports_of_group}
use Rattle.nb_model.specs.Network.{Network, group_named}
use Rattle.nv_table.specs.Table.{is_after, NumbersRise}
use Rattle.nb_store.specs.inner.Listed.{before, is_it}

-- a number below is not from this one on, and the number itself is
earlier_is_not : (n g : ObjId) → n.0 < g.0 → is_after (before g) n ≡ false
earlier_is_not n g below = by (g.0 == 0) refl
  where
    by : (b : Bool) → (g.0 == 0) ≡ b → is_after (cond b None (Some (record { 0 = g.0 - 1 }))) n ≡ false
    by true e = absurd (grind (arith, nat_tests, e, below))
    by false e = grind (arith, nat_tests, e, below)

itself_is : (g : ObjId) → is_after (before g) g ≡ true
itself_is g = by (g.0 == 0) refl
  where
    by : (b : Bool) → (g.0 == 0) ≡ b → is_after (cond b None (Some (record { 0 = g.0 - 1 }))) g ≡ true
    by true e = refl
    by false e = grind (arith, nat_tests, e)

module _ (port : ObjId) (g : ObjId) where
  abbrev listing : Group → Bool
  listing x = is_after (before g) x.id && is_among port x.ports

  -- none of the later ones is it
  later : (groups : List Group) → AllByRecursion (λ (x : Group). g.0 < x.id.0) groups → is_it g (find listing groups) ≡ false
  later [] all = refl
  later (x ∷ groups) all = by (listing x) (later groups all.1)
    where
      by : (b : Bool) → is_it g (find listing groups) ≡ false → is_it g (cond b (Some x) (find listing groups)) ≡ false
      by true rest = grind (arith, nat_tests, all.0)
      by false rest = rest

  -- a group that is found is later than those before it
  found_later : (name : List ℕ) (low : ObjId) (groups : List Group) (group : Group) → AllByRecursion (λ (x : Group). low.0 < x.id.0) groups
      → find (λ (x : Group). bytes_eq x.name name) groups ≡ Some group → low.0 < group.id.0
  found_later name low [] group all is = absurd cc
  found_later name low (x ∷ groups) group all is = by (bytes_eq x.name name) is (λ e. found_later name low groups group all.1 e)
    where
      by : (b : Bool) → cond b (Some x) (find (λ (x : Group). bytes_eq x.name name) groups) ≡ Some group
          → (find (λ (x : Group). bytes_eq x.name name) groups ≡ Some group → low.0 < group.id.0) → low.0 < group.id.0
      by true e rest = let same : x ≡ group = cc in subst (λ (y : Group). low.0 < y.id.0) same all.0
      by false e rest = rest e

  -- the group itself, and what follows it
  at_group : (group : Group) (groups : List Group) → group.id ≡ g → AllByRecursion (λ (x : Group). group.id.0 < x.id.0) groups → is_it g (find listing (group ∷ groups)) ≡ is_among port group.ports
  at_group group groups is all =
      ap (λ b. is_it g (cond (b && is_among port group.ports) (Some group) (find listing groups))) (ap (is_after (before g)) is ∙ itself_is g) ∙ by (is_among port group.ports)
    where
      by : (b : Bool) → is_it g (cond b (Some group) (find listing groups)) ≡ b
      by true = grind (arith, nat_tests, is)
      by false = later groups (subst (λ (n : ObjId). AllByRecursion (λ (x : Group). n.0 < x.id.0) groups) is all)

  pub first_listed : (name : List ℕ) (groups : List Group) (group : Group) → NumbersRise (λ (x : Group). x.id) groups → group.id ≡ g
      → find (λ (x : Group). bytes_eq x.name name) groups ≡ Some group → is_it g (find listing groups) ≡ is_among port group.ports
  first_listed name [] group rise is found = absurd cc
  first_listed name (x ∷ groups) group rise is found = by (bytes_eq x.name name) found (λ e. first_listed name groups group rise.1 is e)
    where
      by : (b : Bool) → cond b (Some x) (find (λ (x : Group). bytes_eq x.name name) groups) ≡ Some group
          → (find (λ (x : Group). bytes_eq x.name name) groups ≡ Some group → is_it g (find listing groups) ≡ is_among port group.ports)
          → is_it g (find listing (x ∷ groups)) ≡ is_among port group.ports
      by true e rest = let same : x ≡ group = cc in subst (λ (y : Group). is_it g (find listing (y ∷ groups)) ≡ is_among port group.ports) (sym same) (at_group group groups is (subst (λ (y : Group). AllByRecursion (λ (z : Group). y.id.0 < z.id.0) groups) same rise.0))
      by false e rest =
          ap (λ b. is_it g (cond (b && is_among port x.ports) (Some x) (find listing groups))) (earlier_is_not x.id g (subst (λ (n : ObjId). x.id.0 < n.0) is (found_later name x.id groups group rise.0 e)))
          ∙ rest e

-- the group of a name has a port exactly where it is the first of those from its number on that list the port
pub listed : (net : Network) (name : List ℕ) (port : ObjId) (group : Group) → NumbersRise (λ (x : Group). x.id) net.groups → group_named net name ≡ Some group
    → is_it group.id (find (λ (x : Group). is_after (before group.id) x.id && is_among port x.ports) net.groups) ≡ group_has net name port
listed net name port group rise found = first_listed port group.id name net.groups group rise refl found ∙ sym (ap (λ o. is_among port (ports_of_group o)) found)

pub no_group : (net : Network) (name : List ℕ) (port : ObjId) → group_named net name ≡ None → false ≡ group_has net name port
no_group net name port none = sym (ap (λ o. is_among port (ports_of_group o)) none)
