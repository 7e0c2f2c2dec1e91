-- Ports that leave their groups and their switch.
use Rattle.std.proofs.Common.{◌≡◌, ℕ, ◌+◌, ◌<◌, Bool, true, false, cond, not, ◌&&◌, ◌||◌, List, [], ◌∷◌, ◌++◌, map, Some, None, arith, refl, sym, ap, ◌∙◌, subst, length}
use Rattle.std.proofs.lemmas.List.{length-append}
use Rattle.std.proofs.lemmas.List.Elements.{filter-append}
use Rattle.std.proofs.lemmas.List.Folds.{list_any-append, find-append}
use Rattle.std.specs.Prelude.{find, filter}
use Rattle.std.specs.Bool.{IsTrue}
use Rattle.std.specs.List.{list_any, AllByRecursion}
use Rattle.std.specs.Option.{option_or}
use Rattle.std.specs.Str.{bytes_eq}
use Rattle.nv_base.specs.declared.object.ObjId.{ObjId}
use Rattle.nb_records.specs.declared.sets.Group.{Group}
use Rattle.nb_records.specs.declared.switch.Port.{Port}
use Rattle.nb_model.specs.Effect.{without, without_ports, delete_port}
use Rattle.nb_model.specs.Network.{Network, same, port_named}
use Rattle.nb_model.specs.Readable.{are_apart}
use Rattle.nb_model.proofs.RecordLists.{found_holds}
use Rattle.nv_table.specs.Table.{NumbersRise, without_number}
use Rattle.nv_table.proofs.Undone.{rise_without}
use Rattle.nb_change.specs.inner.Leaving.{leave, leaving}
use Rattle.nb_store.proofs.PlacedRecords.{IsPlaced, placed, none_without, named_once}

-- Filters, one after another.

pub without_twice : {X : Type 0} (p q r : X → Bool) → ((x : X) → r x ≡ (p x || q x)) → (xs : List X) → without q (without p xs) ≡ without r xs
without_twice p q r both [] = refl
without_twice {X} p q r both (x ∷ xs) = by (p x) (both x) (without_twice p q r both xs)
  where
    by : (a : Bool) → r x ≡ (a || q x) → without q (without p xs) ≡ without r xs
        → without q (cond (not a) (x ∷ without p xs) (without p xs)) ≡ cond (not (r x)) (x ∷ without r xs) (without r xs)
    by true e more = more ∙ sym (ap (λ c. cond (not c) (x ∷ without r xs) (without r xs)) e)
    by false e more = ap (λ c. cond (not c) (x ∷ without q (without p xs)) (without q (without p xs))) (sym e) ∙ ap (λ l. cond (not (r x)) (x ∷ l) l) more

pub none_listed : {X : Type 0} (p : X → Bool) (xs : List X) → list_any p xs ≡ false → find p xs ≡ None
none_listed p [] none = refl
none_listed {X} p (x ∷ xs) none = by (p x) none (none_listed p xs)
  where
    by : (b : Bool) → (b || list_any p xs) ≡ false → (list_any p xs ≡ false → find p xs ≡ None) → cond b (Some x) (find p xs) ≡ None
    by true e more = absurd (cc)
    by false e more = more e

map_twice : {X : Type 0} (f g h : X → X) → ((x : X) → f (g x) ≡ h x) → (xs : List X) → map f (map g xs) ≡ map h xs
map_twice f g h both [] = refl
map_twice f g h both (x ∷ xs) = ap (λ y. y ∷ map f (map g xs)) (both x) ∙ ap (λ l. h x ∷ l) (map_twice f g h both xs)

pub map_same : {X : Type 0} (f : X → X) → ((x : X) → f x ≡ x) → (xs : List X) → map f xs ≡ xs
map_same f is [] = refl
map_same f is (x ∷ xs) = ap (λ y. y ∷ map f xs) (is x) ∙ ap (λ l. x ∷ l) (map_same f is xs)

pub gone : {X : Type 0} (p : X → Bool) (xs : List X) → list_any p (without p xs) ≡ false
gone p [] = refl
gone {X} p (x ∷ xs) = by (p x) refl (gone p xs)
  where
    by : (b : Bool) → p x ≡ b → list_any p (without p xs) ≡ false → list_any p (cond (not b) (x ∷ without p xs) (without p xs)) ≡ false
    by true e more = more
    by false e more = ap (λ b. b || list_any p (without p xs)) e ∙ more

pub either_same : (a : Bool) → a ≡ (a || a)
either_same true = refl
either_same false = refl

-- Ports that leave their switch.

pub none_passes : {X : Type 0} (p : X → Bool) (n : ObjId) (key : X → ObjId) (xs : List X) → find p xs ≡ None → list_any (λ x. same (key x) n && p x) xs ≡ false
none_passes p n key [] none = refl
none_passes {X} p n key (x ∷ xs) none = by (p x) none (none_passes p n key xs)
  where
    by : (b : Bool) → cond b (Some x) (find p xs) ≡ None → (find p xs ≡ None → list_any (λ x. same (key x) n && p x) xs ≡ false) → ((same (key x) n && b) || list_any (λ x. same (key x) n && p x) xs) ≡ false
    by true e more = absurd (cc)
    by false e more = ap (λ b. b || list_any (λ x. same (key x) n && p x) xs) (no_and (same (key x) n)) ∙ more e
      where
        no_and : (a : Bool) → (a && false) ≡ false
        no_and true = refl
        no_and false = refl

pub all_stay : {X : Type 0} (p : X → Bool) → ((x : X) → p x ≡ false) → (xs : List X) → without p xs ≡ xs
all_stay p none [] = refl
all_stay p none (x ∷ xs) = ap (λ b. cond (not b) (x ∷ without p xs) (without p xs)) (none x) ∙ ap (λ l. x ∷ l) (all_stay p none xs)

-- no such port is there
pub none_gone : (gone : Port → Bool) (net : Network) → find gone net.ports ≡ None → without_ports gone net ≡ net
none_gone gone net none =
    ap (λ (all : List Port). record (without_ports gone net) { ports = all }) (none_without gone net.ports none)
    ∙ ap (λ (all : List Group). record net { groups = all }) (map_same _ stays net.groups)
  where
    listed : ObjId → Bool
    listed n = list_any (λ port. same port.id n && gone port) net.ports

    stays : (group : Group) → (let g : Group = record group { ports = without listed group.ports } in g) ≡ group
    stays group = ap (λ (ports : List ObjId). let g : Group = record group { ports = ports } in g) (all_stay listed (λ n. none_passes gone n (λ (x : Port). x.id) net.ports none) group.ports)

pub shuffle : (a b c d : Bool) → d ≡ true → (a || ((b && d) || c)) ≡ (b || (a || c))
shuffle true true c d is = refl
shuffle true false c d is = refl
shuffle false true c true is = refl
shuffle false false c true is = refl
shuffle false b c false is = absurd (cc)

-- the network without a port, which leaves its groups
abbrev pub less_port : ObjId → Network → Network
less_port port net = record net { ports = without_number (λ x. x.id) port net.ports; groups = leaving port net.groups }

module _ (gone : Port → Bool) (net : Network) (port : Port) (place : IsPlaced (λ (x : Port). x.id) gone port net.ports) (is : gone port ≡ true) where
  abbrev listed_in : List Port → ObjId → Bool
  listed_in ports n = list_any (λ (x : Port). same x.id n && gone x) ports

  ports_left : without gone (without_number (λ (x : Port). x.id) port.id net.ports) ≡ without gone net.ports
  ports_left =
      let p = λ (x : Port). not (gone x) in
      ap (without gone) place.left
      ∙ filter-append p place.before place.after
      ∙ sym (ap (λ b. filter p place.before ++ cond (not b) (port ∷ filter p place.after) (filter p place.after)) is)
      ∙ sym (filter-append p place.before (port ∷ place.after))
      ∙ ap (without gone) (sym place.whole)

  listed_more : (n : ObjId) → listed_in net.ports n ≡ (same port.id n || listed_in (without_number (λ (x : Port). x.id) port.id net.ports) n)
  listed_more n =
      let q = λ (x : Port). same x.id n && gone x in
      ap (list_any q) place.whole
      ∙ list_any-append q place.before (port ∷ place.after)
      ∙ shuffle (list_any q place.before) (same port.id n) (list_any q place.after) (gone port) is
      ∙ sym (ap (λ b. same port.id n || b) (ap (list_any q) place.left ∙ list_any-append q place.before place.after))

  leaves_all : (group : Group) → (let g : Group = record group { ports = without (listed_in (without_number (λ (x : Port). x.id) port.id net.ports)) (leave port.id group).ports } in g)
      ≡ record group { ports = without (listed_in net.ports) group.ports }
  leaves_all group = ap (λ (ports : List ObjId). let g : Group = record group { ports = ports } in g)
      (without_twice (same port.id) (listed_in (without_number (λ (x : Port). x.id) port.id net.ports)) (listed_in net.ports) listed_more group.ports)

  -- one of these ports is gone already
  pub one_gone : without_ports gone (less_port port.id net) ≡ without_ports gone net
  one_gone =
      ap (λ (all : List Port). record (without_ports gone (less_port port.id net)) { ports = all }) ports_left
      ∙ ap (λ (all : List Group). record net { ports = without gone net.ports; groups = all }) (map_twice _ (leave port.id) _ leaves_all net.groups)

-- one record less
pub one_less : {R : Type 0} (number : R → ObjId) (p : R → Bool) (x : R) (rs : List R) → Some x ≡ find p rs → NumbersRise number rs → length (without_number number (number x) rs) < length rs
one_less number p x rs found rise =
    let place = placed number p x rs (sym found) rise in
    let now : length (without_number number (number x) rs) ≡ length place.before + length place.after = ap length place.left ∙ length-append place.before place.after in
    let was : length rs ≡ length place.before + length (x ∷ place.after) = ap length place.whole ∙ length-append place.before (x ∷ place.after) in
    omega (arith, now, was)

-- without one of those that go anyway
pub less_goes : {R : Type 0} (number : R → ObjId) (p : R → Bool) (x : R) (rs : List R) → Some x ≡ find p rs → NumbersRise number rs → without p (without_number number (number x) rs) ≡ without p rs
less_goes {R} number p x rs found rise =
    let place = placed number p x rs (sym found) rise in
    let q = λ (y : R). not (p y) in
    ap (without p) place.left
    ∙ filter-append q place.before place.after
    ∙ sym (ap (λ b. filter q place.before ++ cond (not b) (x ∷ filter q place.after) (filter q place.after)) (found_holds p rs x (sym found)))
    ∙ sym (filter-append q place.before (x ∷ place.after))
    ∙ ap (without p) (sym place.whole)

-- the port of a name is gone
pub named_gone : (net : Network) (name : List ℕ) (port : Port) → Some port ≡ port_named net name → NumbersRise (λ (x : Port). x.id) net.ports → IsTrue (are_apart bytes_eq (map (λ (x : Port). x.name) net.ports))
    → less_port port.id net ≡ delete_port net name
named_gone net name port found rise apart =
    let gone = λ (x : Port). bytes_eq x.name name in
    let place = placed (λ (x : Port). x.id) gone port net.ports (sym found) rise in
    let is = found_holds gone net.ports port (sym found) in
    let none : find gone (less_port port.id net).ports ≡ None =
    ap (find gone) place.left ∙ find-append gone place.before place.after ∙ ap (λ o. option_or o (find gone place.after)) place.first
    ∙ named_once (λ (x : Port). x.name) name place.before port place.after (subst (λ l. IsTrue (are_apart bytes_eq (map (λ (x : Port). x.name) l))) place.whole apart) is in
    sym (none_gone gone (less_port port.id net) none) ∙ one_gone gone net port place is

above_leaving : (n : ℕ) (port : ObjId) (groups : List Group) → AllByRecursion (λ (g : Group). n < g.id.0) groups → AllByRecursion (λ (g : Group). n < g.id.0) (leaving port groups)
above_leaving n port [] all = tt
above_leaving n port (g ∷ groups) all = (all.0, above_leaving n port groups all.1)

rise_leaving : (port : ObjId) (groups : List Group) → NumbersRise (λ (g : Group). g.id) groups → NumbersRise (λ (g : Group). g.id) (leaving port groups)
rise_leaving port [] rise = tt
rise_leaving port (g ∷ groups) rise = (above_leaving g.id.0 port groups rise.0, rise_leaving port groups rise.1)

-- A switch has one port less.
module _ (switch : ObjId) (net now : Network) (port : Port) (found : Some port ≡ find (λ p. same switch p.switch) net.ports) (ports : NumbersRise (λ (p : Port). p.id) net.ports)
    (groups : NumbersRise (λ (g : Group). g.id) net.groups) (now_is : now ≡ less_port port.id net) where
  pub port_rise : NumbersRise (λ (p : Port). p.id) now.ports
  port_rise = subst (λ (it : Network). NumbersRise (λ (p : Port). p.id) it.ports) (sym now_is) (rise_without (λ (p : Port). p.id) port.id net.ports ports)

  pub port_groups : NumbersRise (λ (g : Group). g.id) now.groups
  port_groups = subst (λ (it : Network). NumbersRise (λ (g : Group). g.id) it.groups) (sym now_is) (rise_leaving port.id net.groups groups)

  pub port_same : without_ports (λ p. same switch p.switch) now ≡ without_ports (λ p. same switch p.switch) net
  port_same =
      let gone = λ (p : Port). same switch p.switch in
      ap (without_ports gone) now_is ∙ one_gone gone net port (placed (λ (p : Port). p.id) gone port net.ports (sym found) ports) (found_holds gone net.ports port (sym found))

  pub port_smaller : length now.ports < length net.ports
  port_smaller = subst (λ (it : Network). length it.ports < length net.ports) (sym now_is) (one_less (λ (p : Port). p.id) (λ p. same switch p.switch) port net.ports found ports)

pub ports_done : (switch : ObjId) (net : Network) → None ≡ find (λ (p : Port). same switch p.switch) net.ports → net ≡ without_ports (λ p. same switch p.switch) net
ports_done switch net none = sym (none_gone (λ (p : Port). same switch p.switch) net (sym none))
