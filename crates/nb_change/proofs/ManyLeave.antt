-- Ports of a switch that leave a group before they go.
use Rattle.std.proofs.Common.{◌≡◌, ◌==◌, ℕ, ◌<◌, Bool, true, false, cond, not, ◌&&◌, ◌||◌, List, [], ◌∷◌, ◌++◌, append-nil, map, Option, Some, None, arith, refl, sym, ap, ◌∙◌}
use Rattle.std.proofs.lemmas.Bool.{eqb-true}
use Rattle.std.proofs.lemmas.Bool.Decides.{nat_tests}
use Rattle.std.specs.List.{list_any, AllByRecursion}
use Rattle.nv_base.specs.declared.object.ObjId.{ObjId}
use Rattle.nb_records.specs.declared.sets.Group.{Group}
use Rattle.nb_records.specs.declared.switch.Port.{Port}
use Rattle.nb_model.specs.Effect.{each_where, without, without_ports}
use Rattle.nb_model.specs.Network.{Network, same}
use Rattle.nv_table.specs.Table.{NumbersRise, has_number, record_of, with_exchanged}
use Rattle.nb_store.proofs.Relisted.{group_stored}
use Rattle.nb_change.proofs.Goes.{without_both}
use Rattle.nb_change.proofs.Removed.{without_twice, either_same}

-- ---- the port of a number

abbrev pub test_of : {R : Type 0} → (R → Bool) → Option R → Bool
test_of p None = false
test_of p (Some r) = p r

turn : (a b : ℕ) → (a == b) ≡ (b == a)
turn a b = grind (arith, nat_tests)

none_later : (n : ObjId) (p : Port → Bool) (x : Port) (ports : List Port) → AllByRecursion (λ (y : Port). x.id.0 < y.id.0) ports → n.0 ≡ x.id.0 → list_any (λ (port : Port). same port.id n && p port) ports ≡ false
none_later n p x [] later e = refl
none_later n p x (y ∷ ports) later e =
    let other : same y.id n ≡ false = grind (arith, nat_tests, later.0, e) in
    ap (λ b. (b && p y) || list_any (λ (port : Port). same port.id n && p port) ports) other ∙ none_later n p x ports later.1 e

-- a test passes of the one port of a number
pub of_number : (n : ObjId) (p : Port → Bool) (ports : List Port) → NumbersRise (λ (x : Port). x.id) ports
    → list_any (λ (port : Port). same port.id n && p port) ports ≡ test_of p (record_of (λ (x : Port). x.id) n ports)
of_number n p [] rise = refl
of_number n p (x ∷ ports) rise = by (has_number (λ (y : Port). y.id) n x) refl (of_number n p ports rise.1)
  where
    or_false : (b : Bool) → (b || false) ≡ b
    or_false true = refl
    or_false false = refl

    by : (b : Bool) → has_number (λ (y : Port). y.id) n x ≡ b → list_any (λ (port : Port). same port.id n && p port) ports ≡ test_of p (record_of (λ (y : Port). y.id) n ports)
        → ((same x.id n && p x) || list_any (λ (port : Port). same port.id n && p port) ports) ≡ test_of p (cond b (Some x) (record_of (λ (y : Port). y.id) n ports))
    by true e more =
        ap (λ b. (b && p x) || list_any (λ (port : Port). same port.id n && p port) ports) (turn x.id.0 n.0 ∙ e)
        ∙ ap (λ b. p x || b) (none_later n p x ports rise.0 (eqb-true _ _ e)) ∙ or_false (p x)
    by false e more = ap (λ b. (b && p x) || list_any (λ (port : Port). same port.id n && p port) ports) (turn x.id.0 n.0 ∙ e) ∙ more

-- where there is none, or it is the one that was found
pub none_on : (n switch : ObjId) (ports : List Port) → NumbersRise (λ (x : Port). x.id) ports → None ≡ record_of (λ (x : Port). x.id) n ports
    → false ≡ list_any (λ (port : Port). same port.id n && same switch port.switch) ports
none_on n switch ports rise none = sym (of_number n (λ (port : Port). same switch port.switch) ports rise ∙ ap (test_of (λ (port : Port). same switch port.switch)) (sym none))

pub found_on : (n switch : ObjId) (port : Port) (ports : List Port) → NumbersRise (λ (x : Port). x.id) ports → Some port ≡ record_of (λ (x : Port). x.id) n ports
    → same switch port.switch ≡ list_any (λ (other : Port). same other.id n && same switch other.switch) ports
found_on n switch port ports rise found = sym (of_number n (λ (other : Port). same switch other.switch) ports rise ∙ ap (test_of (λ (other : Port). same switch other.switch)) (sym found))

-- ---- ports that stay, and ports that go

pub one_stays : (p : ObjId → Bool) (xs : List ObjId) (n : ObjId) → p n ≡ false → without p (xs ++ n ∷ []) ≡ without p xs ++ n ∷ []
one_stays p xs n e = without_both p xs (n ∷ []) ∙ ap (λ b. without p xs ++ cond (not b) (n ∷ []) []) e

pub one_goes : (p : ObjId → Bool) (xs : List ObjId) (n : ObjId) → p n ≡ true → without p (xs ++ n ∷ []) ≡ without p xs
one_goes p xs n e = without_both p xs (n ∷ []) ∙ ap (λ b. without p xs ++ cond (not b) (n ∷ []) []) e ∙ append-nil (without p xs)

-- ---- a group that some ports leave

abbrev pub parted : (ObjId → Bool) → Group → Group
parted gone group = record group { ports = without gone group.ports }

parted_twice : (gone : ObjId → Bool) (group : Group) → parted gone (parted gone group) ≡ parted gone group
parted_twice gone group = ap (λ (ports : List ObjId). let g : Group = record group { ports = ports } in g) (without_twice gone gone gone (λ n. either_same (gone n)) group.ports)

parted_some : (gone : ObjId → Bool) (holds : Group → Bool) (groups : List Group) → map (parted gone) (each_where holds (parted gone) groups) ≡ map (parted gone) groups
parted_some gone holds [] = refl
parted_some gone holds (g ∷ groups) = ap (λ h. h ∷ map (parted gone) (each_where holds (parted gone) groups)) (by (holds g)) ∙ ap (λ l. parted gone g ∷ l) (parted_some gone holds groups)
  where
    by : (b : Bool) → parted gone (cond b (parted gone g) g) ≡ parted gone g
    by true = parted_twice gone g
    by false = refl

-- without the ports the network is what it was
pub still_without : (net : Network) (switch n : ObjId) (held new : Group) → Some held ≡ record_of (λ (x : Group). x.id) n net.groups → NumbersRise (λ (x : Group). x.id) net.groups
    → new ≡ parted (λ number. list_any (λ (port : Port). same port.id number && same switch port.switch) net.ports) held
    → without_ports (λ port. same switch port.switch) (record net { groups = with_exchanged (λ x. x.id) new net.groups }) ≡ without_ports (λ port. same switch port.switch) net
still_without net switch n held new found rise is =
    let gone : ObjId → Bool = λ number. list_any (λ (port : Port). same port.id number && same switch port.switch) net.ports in
    ap (without_ports (λ port. same switch port.switch)) (group_stored net n (without gone) held found rise new is)
    ∙ ap (λ (groups : List Group). let left = without_ports (λ port. same switch port.switch) net in record left { groups = groups }) (parted_some gone (λ x. same n x.id) net.groups)
