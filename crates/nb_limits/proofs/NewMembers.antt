-- By how much other ports of a group raise the amounts of ACLs.
use Rattle.std.proofs.Common.{◌≡◌, ℕ, ◌+◌, ◌*◌, ◌-◌, ◌≤◌, min, ⊎_elim, Bool, true, false, cond, not, ◌&&◌, ◌||◌, List, [], ◌∷◌, Option, Some, None, arith, refl, sym, ap, ◌∙◌, subst, length}
use Rattle.std.proofs.lemmas.Bool.{and_from, and_parts, false≢true, or_cases, or_left, or_right}
use Rattle.std.proofs.lemmas.Nat.{mul-le}
use Rattle.std.proofs.Math.Nat.{le-min}
use Rattle.std.specs.Prelude.{IsTrue, filter, find}
use Rattle.std.specs.List.{list_any, filter_map, cons_option, AllByRecursion}
use Rattle.std.specs.Str.{bytes_eq}
use Rattle.nv_base.specs.declared.object.ObjId.{ObjId}
use Rattle.nb_records.specs.declared.acl.Acl.{Acl}
use Rattle.nb_records.specs.declared.refusal.Kind.TheVariants as kind
use Rattle.nb_records.specs.declared.sets.Group.{Group}
use Rattle.nb_records.specs.declared.switch.Switch.{Switch}
use Rattle.nb_model.specs.Amounts.{amount, total}
use Rattle.nb_model.specs.Applies.{switches_of_acl}
use Rattle.nb_model.specs.Belongs.{once}
use Rattle.nb_model.specs.Effect.{each_where, named_port_ids}
use Rattle.nb_model.specs.Network.{Network, port_id, same}
use Rattle.nb_model.specs.Sound.{group_ids}
use Rattle.nb_model.proofs.AnyOf.{all_true}
use Rattle.nb_model.proofs.Lists.{same_is}
use Rattle.nb_model.proofs.RecordLists.{found_holds}
use Rattle.nb_model.proofs.RisesApplies.{applies, has_port}
use Rattle.nb_model.proofs.Totals.{le_self, le_trans, length_fewer, length_kept, total_le}
use Rattle.nb_store.proofs.Peering.{found_is_record}
use Rattle.nb_store.proofs.PlacedRecords.{rises}
use Rattle.nv_table.specs.Table.{record_of}
use Rattle.nb_limits.specs.Limitless.{IsSoundButLimits}
use Rattle.nb_limits.specs.inner.GroupSwitches.{switch_count, has_port_on}
use Rattle.nb_limits.specs.inner.Weights.{weight, acl_weight, of_owner}
use Rattle.nb_limits.specs.declared.acl_limits.Measure.{Measure}
use Rattle.nb_limits.specs.declared.acl_limits.Measure.TheVariants.{Count, Text}
use Rattle.nb_limits.proofs.AclSums.{count_weight, groups_rise, no_switch}
use Rattle.nb_limits.proofs.Counted.{found_list, of_number}
use Rattle.nb_limits.proofs.Every.{each_is_record, every_as}
use Rattle.nb_limits.proofs.FewSwitches.{either_length, few_switches}
use Rattle.nb_limits.proofs.Raised.{group_there, none_there as no_switch_there}
use Rattle.nb_limits.proofs.Swapped.{total_filter, total_plus}

-- The ports of a list of names are no more than the names.

once_fewer : (numbers : List ObjId) → length (once numbers) ≤ length numbers
once_fewer [] = le_self 0
once_fewer (n ∷ numbers) = one_more (filter (λ other. not (same n other)) (once numbers)) (once numbers) (length_kept (λ other. not (same n other)) (once numbers)) (once_fewer numbers)
  where
    one_more : (kept all : List ObjId) → length kept ≤ length all → length all ≤ length numbers → length (n ∷ kept) ≤ length (n ∷ numbers)
    one_more kept all low high = omega (arith, low, high)

found_fewer : {X Y : Type 0} (look : X → Option Y) (xs : List X) → length (filter_map look xs) ≤ length xs
found_fewer look [] = le_self 0
found_fewer {X} {Y} look (x ∷ xs) = by (look x) (found_fewer look xs)
  where
    by : (one : Option Y) → length (filter_map look xs) ≤ length xs → length (cons_option one (filter_map look xs)) ≤ length (x ∷ xs)
    by None low = omega (arith, low)
    by (Some y) low = omega (arith, low)

named_fewer : (net : Network) (names : List (List ℕ)) → length (named_port_ids net names) ≤ length names
named_fewer net names =
    le_trans (length (named_port_ids net names)) (length (filter_map (port_id net) names)) (length names)
    (once_fewer (filter_map (port_id net) names)) (found_fewer (port_id net) names)

-- Those of a list of names are on no more switches than there are names, and than there are at all.
module _ (net : Network) (limitless : IsSoundButLimits net) where
  pub named_on : (names : List (List ℕ)) → length (filter (λ (s : Switch). has_port net.ports s.id (named_port_ids net names)) net.switches) ≤ min (length names) (length net.switches)
  named_on names =
      le-min
      (le_trans (length (filter on net.switches)) (length (named_port_ids net names)) (length names) (few_switches net limitless (named_port_ids net names)) (named_fewer net names))
      (length_kept on net.switches)
    where
      on : Switch → Bool
      on s = has_port net.ports s.id (named_port_ids net names)

-- Where a group has other ports, an ACL of it applies to their switches besides, and another to none more.

abbrev pub with_members : List ObjId → Group → Group
with_members members group = record group { ports = members }

-- none changes where none is found
pub none_changed : {X : Type 0} (holds : X → Bool) (change : X → X) (xs : List X) → find holds xs ≡ None → each_where holds change xs ≡ xs
none_changed holds change [] none = refl
none_changed {X} holds change (x ∷ xs) none = by (holds x) none (none_changed holds change xs)
  where
    by : (here : Bool) → cond here (Some x) (find holds xs) ≡ None → (find holds xs ≡ None → each_where holds change xs ≡ xs) → (cond here (change x) x ∷ each_where holds change xs) ≡ x ∷ xs
    by true is more = absurd (cc)
    by false is more = ap (λ (ys : List X). x ∷ ys) (more is)

-- an owner has a port on a switch then only where it had one, or is the group and one of its new ports is there
owner_after : (has : List ObjId → Bool) (owner : ObjId) (named : Group → Bool) (members : List ObjId) (own : Group) (groups : List Group) → AllByRecursion (λ (g : Group). IsTrue (named g) → g ≡ own) groups
    → IsTrue (list_any (λ g. same g.id owner && has g.ports) (each_where named (with_members members) groups))
    → IsTrue (list_any (λ g. same g.id owner && has g.ports) groups || (same own.id owner && has members))
owner_after has owner named members own [] only there = absurd (false≢true there)
owner_after has owner named members own (g ∷ groups) only there = by (named g) only.0 there (owner_after has owner named members own groups only.1)
  where
    before : Bool
    before = list_any (λ (x : Group). same x.id owner && has x.ports) groups

    after : Bool
    after = list_any (λ (x : Group). same x.id owner && has x.ports) (each_where named (with_members members) groups)

    new : Bool
    new = same own.id owner && has members

    here : (a b c : Bool) → IsTrue c → IsTrue ((a || b) || c)
    here true b c is = refl
    here false true c is = refl
    here false false c is = is

    old : (a b c : Bool) → IsTrue a → IsTrue ((a || b) || c)
    old true b c is = refl
    old false b c is = absurd (false≢true is)

    later : (a b c : Bool) → IsTrue (b || c) → IsTrue ((a || b) || c)
    later true b c is = refl
    later false b c is = is

    by : (is : Bool) → (IsTrue is → g ≡ own) → IsTrue ((same (cond is (with_members members g) g).id owner && has (cond is (with_members members g) g).ports) || after)
        → (IsTrue after → IsTrue (before || new)) → IsTrue (((same g.id owner && has g.ports) || before) || new)
    by true is there more =
        ⊎_elim (λ first. here (same g.id owner && has g.ports) before new (subst (λ (x : Group). IsTrue (same x.id owner && has members)) (is refl) first))
        (λ rest. later (same g.id owner && has g.ports) before new (more rest)) (or_cases (same g.id owner && has members) after there)
    by false is there more =
        ⊎_elim (λ first. old (same g.id owner && has g.ports) before new first)
        (λ rest. later (same g.id owner && has g.ports) before new (more rest)) (or_cases (same g.id owner && has g.ports) after there)

-- a sum in which some are raised by at most so much
raised_sum : {X : Type 0} (w f g : X → ℕ) (q : X → Bool) (more : ℕ) → ((x : X) → f x ≤ g x + cond (q x) more 0) → (xs : List X)
    → total (λ x. w x * f x) xs ≤ total (λ x. w x * g x) xs + total (λ x. w x * more) (filter q xs)
raised_sum {X} w f g q more less xs =
    subst (λ n. total (λ x. w x * f x) xs ≤ n)
    (total_plus (λ x. w x * g x) (λ x. cond (q x) (w x * more) 0) xs ∙ ap (λ n. total (λ x. w x * g x) xs + n) (sym (total_filter (λ x. w x * more) q xs)))
    (total_le (λ x. w x * f x) (λ x. w x * g x + cond (q x) (w x * more) 0) (λ x. true) xs (all_true xs) (λ x is. each x (q x) (less x)))
  where
    both : (w f g m : ℕ) → f ≤ g + m → w * f ≤ w * g + w * m
    both w f g m low = subst (λ n. w * f ≤ n) (spread w g m) (mul-le w f w (g + m) (le_self w) low)
      where
        spread : (w g m : ℕ) → w * (g + m) ≡ w * g + w * m
        spread w g m = grind arith

    none : (w f g : ℕ) → f ≤ g + 0 → w * f ≤ w * g + 0
    none w f g low = subst (λ n. w * f ≤ n) (plus_none (w * g)) (mul-le w f w g (le_self w) (omega (arith, low)))
      where
        plus_none : (n : ℕ) → n ≡ n + 0
        plus_none n = omega arith

    each : (x : X) (is : Bool) → f x ≤ g x + cond is more 0 → w x * f x ≤ w x * g x + cond is (w x * more) 0
    each x true low = both (w x) (f x) (g x) more low
    each x false low = none (w x) (f x) (g x) low

-- those of the only group of its name and number are the new ones
members_only : (has : List ObjId → Bool) (named : Group → Bool) (members : List ObjId) (own : Group) (groups : List Group) → named own ≡ true → AllByRecursion (λ (g : Group). IsTrue (same g.id own.id) → g ≡ own) groups
    → IsTrue (list_any (λ g. same g.id own.id && has g.ports) (each_where named (with_members members) groups)) → IsTrue (has members)
members_only has named members own [] is alike there = absurd (false≢true there)
members_only has named members own (g ∷ groups) is alike there = by (named g) refl there (members_only has named members own groups is alike.1)
  where
    after : Bool
    after = list_any (λ (x : Group). same x.id own.id && has x.ports) (each_where named (with_members members) groups)

    by : (b : Bool) → named g ≡ b → IsTrue ((same (cond b (with_members members g) g).id own.id && has (cond b (with_members members g) g).ports) || after) → (IsTrue after → IsTrue (has members)) → IsTrue (has members)
    by true e any more = ⊎_elim (λ first. (and_parts (same g.id own.id) (has members) first).1) more (or_cases (same g.id own.id && has members) after any)
    by false e any more =
        ⊎_elim (λ first. absurd (false≢true (sym e ∙ ap named (alike.0 (and_parts (same g.id own.id) (has g.ports) first).0) ∙ is))) more (or_cases (same g.id own.id && has g.ports) after any)

-- what is found makes any pass
any_found : {X : Type 0} (p q : X → Bool) (xs : List X) (x : X) → find q xs ≡ Some x → IsTrue (p x) → IsTrue (list_any p xs)
any_found p q [] x found passes = absurd (cc)
any_found {X} p q (y ∷ xs) x found passes = by (q y) found (any_found p q xs x)
  where
    by : (b : Bool) → cond b (Some y) (find q xs) ≡ Some x → (find q xs ≡ Some x → IsTrue (p x) → IsTrue (list_any p xs)) → IsTrue (p y || list_any p xs)
    by true f more = let is : y ≡ x = cc in or_left (p y) (list_any p xs) (subst (λ z. IsTrue (p z)) (sym is) passes)
    by false f more = or_right (p y) (list_any p xs) (more f passes)

module _ (net : Network) (limitless : IsSoundButLimits net) (name : List ℕ) (own : Group) (found : find (λ (g : Group). bytes_eq g.name name) net.groups ≡ Some own)
    (only : AllByRecursion (λ (g : Group). IsTrue (bytes_eq g.name name) → g ≡ own) net.groups) (members : List ObjId) (most : ℕ)
    (few : length (filter (λ (s : Switch). has_port net.ports s.id members) net.switches) ≤ most) where
  abbrev changed : Network
  changed = record net { groups = each_where (λ group. bytes_eq group.name name) (with_members members) net.groups }

  own_record : record_of (λ (g : Group). g.id) own.id net.groups ≡ Some own
  own_record = found_is_record (λ (g : Group). g.id) (λ g. bytes_eq g.name name) net.groups own (groups_rise net limitless) found

  -- the group is the only one of its number
  alike : AllByRecursion (λ (g : Group). IsTrue (same g.id own.id) → g ≡ own) net.groups
  alike =
      every_as (λ (g : Group). record_of (λ (x : Group). x.id) g.id net.groups ≡ Some g) (λ g. IsTrue (same g.id own.id) → g ≡ own) net.groups
      (λ g there is. let both : Some g ≡ Some own = sym there ∙ ap (λ (n : ObjId). record_of (λ (x : Group). x.id) n net.groups) (same_is g.id own.id is) ∙ own_record in cc)
      (each_is_record (λ (g : Group). g.id) net.groups (groups_rise net limitless))

  -- and no switch has it
  not_a_switch : length (filter (λ (s : Switch). same s.id own.id) net.switches) ≡ 0
  not_a_switch =
      ap length (of_number (λ (s : Switch). s.id) own.id net.switches (rises (λ (s : Switch). s.id) net.switches limitless.numbered.order.switches)
      ∙ ap (found_list (λ (s : Switch). s.id) own.id) (no_switch_there own.id (group_ids net) net.switches (group_there own.id net.groups own own_record) (no_switch net limitless)))

  -- where an ACL of an owner applies then
  owned_after : (owner switch : ObjId) → IsTrue (applies net.ports changed.groups owner switch)
      → IsTrue (applies net.ports net.groups owner switch || (same own.id owner && has_port net.ports switch members))
  owned_after owner switch there =
      by (same switch owner) (list_any (λ (g : Group). same g.id owner && has_port net.ports switch g.ports) net.groups) (same own.id owner && has_port net.ports switch members)
      (⊎_elim (λ is. or_left (same switch owner) _ is) (λ is. or_right (same switch owner) _ (owner_after (has_port net.ports switch) owner (λ group. bytes_eq group.name name) members own net.groups only is))
      (or_cases (same switch owner) (list_any (λ (g : Group). same g.id owner && has_port net.ports switch g.ports) changed.groups) there))
    where
      by : (a b c : Bool) → IsTrue (a || (b || c)) → IsTrue ((a || b) || c)
      by true b c is = refl
      by false b c is = is

  -- more than before by so many
  abbrev more : ℕ
  more = most - switch_count net own

  switches_after : (acl : Acl) → length (switches_of_acl changed acl) ≤ length (switches_of_acl net acl) + cond (same own.id acl.owner) more 0
  switches_after acl = by (same own.id acl.owner) refl
    where
      left : (a b c : Bool) → c ≡ false → IsTrue (a || (c && b)) → IsTrue a
      left a b c is there = ⊎_elim (λ first. first) (λ second. absurd (false≢true (sym (ap (λ x. x && b) is) ∙ second))) (or_cases a (c && b) there)

      low : (a b k : ℕ) → a ≤ most → k ≤ b → a ≤ b + (most - k)
      low a b k e f = omega (arith, e, f)

      both : (a b c : ℕ) → a ≤ b + c → b ≡ 0 → c ≤ most → a ≤ most
      both a b c e f g = omega (arith, e, f, g)

      plus_none : (n : ℕ) → n ≡ n + 0
      plus_none n = omega arith

      here : same own.id acl.owner ≡ true → (s : Switch) → IsTrue (applies net.ports changed.groups acl.owner s.id) → IsTrue (same s.id own.id || has_port net.ports s.id members)
      here is s there =
          ⊎_elim (λ first. or_left (same s.id own.id) (has_port net.ports s.id members) (subst (λ (n : ObjId). IsTrue (same s.id n)) (sym (same_is own.id acl.owner is)) first))
          (λ second. or_right (same s.id own.id) (has_port net.ports s.id members)
          (members_only (has_port net.ports s.id) (λ group. bytes_eq group.name name) members own net.groups (found_holds (λ (g : Group). bytes_eq g.name name) net.groups own found) alike
          (subst (λ (n : ObjId). IsTrue (list_any (λ (g : Group). same g.id n && has_port net.ports s.id g.ports) changed.groups)) (sym (same_is own.id acl.owner is)) second)))
          (or_cases (same s.id acl.owner) (list_any (λ (g : Group). same g.id acl.owner && has_port net.ports s.id g.ports) changed.groups) there)

      before : same own.id acl.owner ≡ true → (s : Switch) → IsTrue (has_port_on net own s.id) → IsTrue (applies net.ports net.groups acl.owner s.id)
      before is s there =
          or_right (same s.id acl.owner) (list_any (λ (g : Group). same g.id acl.owner && has_port net.ports s.id g.ports) net.groups)
          (any_found (λ (g : Group). same g.id acl.owner && has_port net.ports s.id g.ports) (λ g. bytes_eq g.name name) net.groups own found (and_from (same own.id acl.owner) (has_port net.ports s.id own.ports) is there))

      by : (b : Bool) → same own.id acl.owner ≡ b → length (switches_of_acl changed acl) ≤ length (switches_of_acl net acl) + cond b more 0
      by true is =
          low (length (switches_of_acl changed acl)) (length (switches_of_acl net acl)) (switch_count net own)
          (both (length (switches_of_acl changed acl)) (length (filter (λ (s : Switch). same s.id own.id) net.switches)) (length (filter (λ (s : Switch). has_port net.ports s.id members) net.switches))
          (le_trans (length (switches_of_acl changed acl)) (length (filter (λ (s : Switch). same s.id own.id || has_port net.ports s.id members) net.switches)) _
          (length_fewer (λ (s : Switch). applies net.ports changed.groups acl.owner s.id) (λ s. same s.id own.id || has_port net.ports s.id members) net.switches (here is))
          (either_length (λ (s : Switch). same s.id own.id) (λ s. has_port net.ports s.id members) net.switches)) not_a_switch few)
          (length_fewer (λ (s : Switch). has_port_on net own s.id) (λ s. applies net.ports net.groups acl.owner s.id) net.switches (before is))
      by false is =
          subst (λ n. length (switches_of_acl changed acl) ≤ n) (plus_none (length (switches_of_acl net acl)))
          (length_fewer (λ (s : Switch). applies net.ports changed.groups acl.owner s.id) (λ s. applies net.ports net.groups acl.owner s.id) net.switches
          (λ s there. left (applies net.ports net.groups acl.owner s.id) (has_port net.ports s.id members) (same own.id acl.owner) is (owned_after acl.owner s.id there)))

  weight_after : (measure : Measure) → acl_weight measure changed ≤ acl_weight measure net + of_owner measure net own.id more
  weight_after measure = raised_sum (weight measure) (λ acl. length (switches_of_acl changed acl)) (λ acl. length (switches_of_acl net acl)) (λ acl. same own.id acl.owner) more switches_after net.acls

  pub set_switches : amount changed kind.AclSwitch ≤ amount net kind.AclSwitch + of_owner Count net own.id more * 1
  set_switches =
      once_more (amount changed kind.AclSwitch) (acl_weight Count changed) (acl_weight Count net) (amount net kind.AclSwitch) (of_owner Count net own.id more) (sym (count_weight changed)) (count_weight net) (weight_after Count)
    where
      once_more : (a b c d n : ℕ) → a ≡ b → c ≡ d → b ≤ c + n → a ≤ d + n * 1
      once_more a b c d n e f low = omega (arith, e, f, low)

  pub set_text : amount changed kind.MatchText ≤ amount net kind.MatchText + of_owner Text net own.id more * 1
  set_text = once_more (amount changed kind.MatchText) (amount net kind.MatchText) (of_owner Text net own.id more) (weight_after Text)
    where
      once_more : (a d n : ℕ) → a ≤ d + n → a ≤ d + n * 1
      once_more a d n low = omega (arith, low)
