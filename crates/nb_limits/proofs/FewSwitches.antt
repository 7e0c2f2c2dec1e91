-- Ports are on no more switches than there are of them.
use Rattle.std.proofs.Common.{◌≡◌, ℕ, ◌+◌, ◌≤◌, min, Bool, true, false, cond, ◌&&◌, ◌||◌, List, [], ◌∷◌, Option, Some, None, arith, refl, sym, ap, ◌∙◌, subst, length}
use Rattle.std.proofs.Math.Nat.{le-min}
use Rattle.std.specs.Prelude.{filter}
use Rattle.nv_base.specs.declared.object.ObjId.{ObjId}
use Rattle.nb_records.specs.declared.sets.Group.{Group}
use Rattle.nb_records.specs.declared.switch.Port.{Port}
use Rattle.nb_records.specs.declared.switch.Switch.{Switch}
use Rattle.nb_model.specs.Belongs.{is_among}
use Rattle.nb_model.specs.Network.{Network, same}
use Rattle.nb_model.proofs.Alike.{same_sym}
use Rattle.nb_model.proofs.RisesApplies.{has_port}
use Rattle.nb_model.proofs.Totals.{le_self, length_kept}
use Rattle.nb_store.proofs.PlacedRecords.{rises}
use Rattle.nv_table.specs.Table.{record_of}
use Rattle.nb_limits.specs.Limitless.{IsSoundButLimits}
use Rattle.nb_limits.specs.inner.GroupSwitches.{switch_count}
use Rattle.nb_limits.proofs.Counted.{any_or, any_same, any_of_number, found_list, holds_of, none_kept, of_number}
use Rattle.nb_limits.proofs.Noted.{none_there}
use Rattle.nb_limits.proofs.Rest.{same_kept}

-- what passes one of two tests is no more than what passes either
pub either_length : {X : Type 0} (p q : X → Bool) (xs : List X) → length (filter (λ x. p x || q x) xs) ≤ length (filter p xs) + length (filter q xs)
either_length p q [] = le_self 0
either_length {X} p q (x ∷ xs) = by (p x) (q x) (filter (λ y. p y || q y) xs) (filter p xs) (filter q xs) (either_length p q xs)
  where
    by : (c d : Bool) (some ones others : List X) → length some ≤ length ones + length others → length (cond (c || d) (x ∷ some) some) ≤ length (cond c (x ∷ ones) ones) + length (cond d (x ∷ others) others)
    by true true some ones others low = omega (arith, low)
    by true false some ones others low = omega (arith, low)
    by false true some ones others low = omega (arith, low)
    by false false some ones others low = low

module _ (net : Network) (limitless : IsSoundButLimits net) where
  -- the switches of one port
  one_switch : (found : Option Port) → length (filter (λ (s : Switch). holds_of (λ (port : Port). same port.switch s.id) found) net.switches) ≤ 1
  one_switch None = subst (λ n. n ≤ 1) (sym (none_kept net.switches)) (omega arith)
  one_switch (Some port) =
      subst (λ (l : List Switch). length l ≤ 1)
      (sym (same_kept (λ (s : Switch). same port.switch s.id) (λ s. same s.id port.switch) net.switches (λ s. same_sym port.switch s.id)
      ∙ of_number (λ (s : Switch). s.id) port.switch net.switches (rises (λ (s : Switch). s.id) net.switches limitless.numbered.order.switches)))
      (alone (record_of (λ (s : Switch). s.id) port.switch net.switches))
    where
      alone : (found : Option Switch) → length (found_list (λ (s : Switch). s.id) port.switch found) ≤ 1
      alone None = omega arith
      alone (Some s) = omega arith

  pub few_switches : (numbers : List ObjId) → length (filter (λ (s : Switch). has_port net.ports s.id numbers) net.switches) ≤ length numbers
  few_switches [] =
      subst (λ n. n ≤ 0) (sym (ap length (same_kept (λ (s : Switch). has_port net.ports s.id []) (λ s. false) net.switches (λ s. sym (none_there s.id net.ports))) ∙ none_kept net.switches)) (le_self 0)
  few_switches (n ∷ numbers) =
      subst (λ (l : List Switch). length l ≤ length (n ∷ numbers)) (sym (same_kept (λ (s : Switch). has_port net.ports s.id (n ∷ numbers)) (λ s. first s.id || has_port net.ports s.id numbers) net.switches (λ s. parts s.id)))
      (grown (length (filter (λ (s : Switch). first s.id || has_port net.ports s.id numbers) net.switches)) (length (filter (λ (s : Switch). first s.id) net.switches)) (length (filter (λ (s : Switch). has_port net.ports s.id numbers) net.switches))
      (either_length (λ (s : Switch). first s.id) (λ s. has_port net.ports s.id numbers) net.switches) (one_switch (record_of (λ (port : Port). port.id) n net.ports)) (few_switches numbers))
    where
      -- the first port is on this switch
      first : ObjId → Bool
      first switch = holds_of (λ (port : Port). same port.switch switch) (record_of (λ (port : Port). port.id) n net.ports)

      spread : (a b c : Bool) → (a && (b || c)) ≡ ((b && a) || (a && c))
      spread true true c = refl
      spread true false c = refl
      spread false true c = refl
      spread false false c = refl

      parts : (switch : ObjId) → has_port net.ports switch (n ∷ numbers) ≡ (first switch || has_port net.ports switch numbers)
      parts switch =
          any_same (λ (port : Port). same port.switch switch && is_among port.id (n ∷ numbers)) (λ port. (same port.id n && same port.switch switch) || (same port.switch switch && is_among port.id numbers)) net.ports
          (λ port. spread (same port.switch switch) (same port.id n) (is_among port.id numbers))
          ∙ any_or (λ (port : Port). same port.id n && same port.switch switch) (λ port. same port.switch switch && is_among port.id numbers) net.ports
          ∙ ap (λ b. b || has_port net.ports switch numbers)
          (any_of_number (λ (port : Port). port.id) n (λ port. same port.switch switch) net.ports (rises (λ (port : Port). port.id) net.ports limitless.numbered.order.ports))

      grown : (all one more : ℕ) → all ≤ one + more → one ≤ 1 → more ≤ length numbers → all ≤ length (n ∷ numbers)
      grown all one more low first rest = omega (arith, low, first, rest)

  -- nor are those of a group
  pub few_of_group : (group : Group) → switch_count net group ≤ min (length group.ports) (length net.switches)
  few_of_group group = le-min (few_switches group.ports) (length_kept (λ (s : Switch). has_port net.ports s.id group.ports) net.switches)
