-- The ports for unknown destinations, as they are kept and asked for.
use Rattle.std.proofs.Common.{◌≡◌, Bool, true, false, ◌&&◌, ◌||◌, ◌==◌, List, refl, sym, ap, ◌∙◌, arith}
use Rattle.std.specs.Prelude.{Option, None, Some, is_some}
use Rattle.std.proofs.lemmas.Bool.Decides.{nat_tests}
use Rattle.std.specs.Cmp.{unsigned_tied}
use Rattle.std.specs.Option.{option_map}
use Rattle.std.specs.Ordering.{is_eq}
use Rattle.nv_base.specs.declared.object.ObjId.{ObjId}
use Rattle.nv_map.specs.Map.{value_at}
use Rattle.nv_table.specs.Table.{record_of}
use Rattle.nv_table.proofs.Undone.{found_number}
use Rattle.nb_records.specs.declared.switch.Port.{Port}
use Rattle.nb_records.specs.declared.switch.Switch.{Switch}
use Rattle.nb_model.specs.Network.{Network, same}
use Rattle.nb_model.specs.Ports.{is_open, takes_unknown}
use Rattle.nb_model.specs.Sound.{IsSound}
use Rattle.nb_store.specs.Touched.{AreAlikeBut}
use Rattle.net_rows.specs.Build.{has_unknown, switch_l2_input}
use Rattle.net_units.specs.Keys.{by_number}
use Rattle.net_units.specs.Units.{switch_l2_units}
use Rattle.nd_inputs.proofs.Any.{any_agree}
use Rattle.nd_inputs.proofs.Sound.{ports_rise}
use Rattle.nd_owners.specs.Owners.{HasFirstOfEach}
use Rattle.nd_owners.proofs.Kept.{first_there}
use Rattle.nd_touched.proofs.Stay.{value_given}
use Rattle.nd_ports.specs.Unknown.{is_for_unknown, unknown_ports}
use Rattle.nd_ports.specs.inner.Found.{input_where}

open_unknown : (n : ObjId) (port : Port) → (is_for_unknown port && (is_eq (by_number n port.switch) || false)) ≡ (is_open n port && takes_unknown port)
open_unknown n port = by (is_eq (by_number n port.switch)) (same port.switch n) port.enabled (takes_unknown port) tied
  where
    tied : is_eq (by_number n port.switch) ≡ same port.switch n
    tied = unsigned_tied n.0 port.switch.0 ∙ turned
      where
        turned : n.0 == port.switch.0 ≡ same port.switch n
        turned = grind (arith, nat_tests)

    by : (a b enabled takes : Bool) → a ≡ b → ((enabled && takes) && (a || false)) ≡ ((b && enabled) && takes)
    by true true true true e = refl
    by true true true false e = refl
    by true true false true e = refl
    by true true false false e = refl
    by false false true true e = refl
    by false false true false e = refl
    by false false false true e = refl
    by false false false false e = refl
    by true false enabled takes e = absurd (cc)
    by false true enabled takes e = absurd (cc)

-- a switch has such a port where the table has a first one of it
unknown_there : (net : Network) (ports table : List (ObjId × ObjId)) → IsSound net → HasFirstOfEach (unknown_ports net) ports table → (n : ObjId) → has_unknown net n ≡ is_some (value_at by_number n table)
unknown_there net ports table sound known n =
    sym (any_agree (λ port. is_for_unknown port && (is_eq (by_number n port.switch) || false)) (λ port. is_open n port && takes_unknown port) (open_unknown n) net.ports)
    ∙ first_there (λ (port : Port). port.id) (λ (port : Port). port.switch) is_for_unknown net.ports ports table (ports_rise net sound) known n

-- what the unit of a switch has
pub l2_at : (net : Network) (ports table : List (ObjId × ObjId)) → IsSound net → HasFirstOfEach (unknown_ports net) ports table → (n : ObjId)
    → value_at by_number n (switch_l2_units net) ≡ input_where (value_at by_number n table) (record_of (λ x. x.id) n net.switches)
l2_at net ports table sound known n = value_given (λ (x : Switch). x.id) (λ (x : Switch). switch_l2_input net x.id) n net.switches ∙ by (record_of (λ (x : Switch). x.id) n net.switches) refl
  where
    by : (o : Option Switch) → record_of (λ (x : Switch). x.id) n net.switches ≡ o → option_map (λ (x : Switch). switch_l2_input net x.id) o ≡ input_where (value_at by_number n table) o
    by None is = refl
    by (Some switch) is =
        ap (λ (m : ObjId). Some (switch_l2_input net m)) (sym (found_number (λ (x : Switch). x.id) n switch net.switches is))
        ∙ ap (λ b. Some (record { unknown = b })) (unknown_there net ports table sound known n)

-- records that are alike but for what they list have one input
pub input_alike : {S : Type 0} (moved : ObjId → Type 0) (lists : Switch → List ObjId) (rest : Switch → S) (first : Option ObjId) (a b : Option Switch) → AreAlikeBut moved lists rest a b → input_where first a ≡ input_where first b
input_alike moved lists rest first None None alike = refl
input_alike moved lists rest first (Some a) (Some b) alike = refl
input_alike moved lists rest first None (Some b) alike = absurd alike
input_alike moved lists rest first (Some a) None alike = absurd alike
