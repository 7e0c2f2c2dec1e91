-- No key stands twice among the units of the switches of a sound network.
use Rattle.std.proofs.Common.{◌≡◌, ◌≢◌, ℕ, true, eqb, List, [], ◌∷◌, refl, sym, ap, ◌∙◌}
use Rattle.std.specs.Prelude.{Option, Some, None}
use Rattle.std.specs.List.{Contains, filter}
use Rattle.std.proofs.lemmas.Bool.{and_from, eq-eqb, false≢true}
use Rattle.nv_base.specs.declared.object.ObjId.{ObjId}
use Rattle.nb_records.specs.declared.acl.Acl.{Acl}
use Rattle.nb_records.specs.declared.balancer.Frontend.{Frontend}
use Rattle.nb_records.specs.declared.balancer.Lb.{Lb}
use Rattle.nb_records.specs.declared.balancer.Vip.{Vip}
use Rattle.nb_records.specs.declared.switch.Port.{Port}
use Rattle.nb_records.specs.declared.switch.Switch.{Switch}
use Rattle.nb_model.specs.Applies.{applies, lbs_on, switches_of_acl}
use Rattle.nb_model.specs.Belongs.{same_frontend, same_port}
use Rattle.nb_model.specs.Network.{Network}
use Rattle.nb_model.specs.Sound.{IsSound}
use Rattle.nb_model.proofs.Rising.{rises}
use Rattle.nv_table.specs.Table.{NumbersRise}
use Rattle.net_rows.specs.Build.{acl_on_input, is_untracked, port_acl_input, port_l2_input, port_sec_input, switch_acl_input, switch_l2_input, vip_input}
use Rattle.net_rows.proofs.Pairs.{OfPairs, pairs_as, pairs_filter}
use Rattle.net_rows.proofs.SoundVips.{OtherVips, balancer_on, vips_apart}
use Rattle.lr_units.proofs.Numbers.{Before, lbs_rise, ports_rise}
use Rattle.net_units.specs.Keys.{KeysStandOnce, by_number, by_numbers, by_vip}
use Rattle.net_units.specs.Units.{acl_on_units, port_acl_units, port_l2_units, port_sec_units, switch_acl_units, switch_l2_units, switch_units, vip_switch_units}
use Rattle.net_units.proofs.Distinct.{number_exact, numbers_exact, of_balancers_once, of_pieces_once, of_records_once, stand_once, vip_exact}

-- of records whose numbers rise an earlier one has the lower number
earlier : {R : Type 0} (number : R → ObjId) (rs : List R) → NumbersRise number rs → OfPairs (Before number) rs
earlier number [] rise = tt
earlier number (r ∷ rs) rise = (rise.0, earlier number rs rise.1)

-- a frontend is the same as itself
port_itself : (port : Option ℕ) → same_port port port ≡ true
port_itself None = refl
port_itself (Some port) = eq-eqb port port refl

itself : (at : Frontend) → same_frontend at at ≡ true
itself at = and_from (eqb at.addr.0 at.addr.0) (same_port at.port at.port) (eq-eqb at.addr.0 at.addr.0 refl) (port_itself at.port)

module _ (net : Network) (sound : IsSound net) where
  -- two VIPs of a load balancer are at two frontends
  pub frontends_apart : (lb : Lb) → Contains net.lbs lb → OfPairs (λ (a b : Vip). a.at ≢ b.at) lb.vips
  frontends_apart lb there =
      pairs_as (OtherVips net sound) _ lb.vips
      (λ a b other e. false≢true (sym other ∙ ap (λ (at : Frontend). same_frontend a.at at) (sym e) ∙ itself a.at))
      (vips_apart net sound lb there)

  switches_rise : OfPairs (Before (λ (s : Switch). s.id)) net.switches
  switches_rise = earlier (λ (s : Switch). s.id) net.switches (rises (λ (s : Switch). s.id) net.switches sound.numbered.order.switches)

  acls_rise : OfPairs (Before (λ (a : Acl). a.id)) net.acls
  acls_rise = earlier (λ (a : Acl). a.id) net.acls (rises (λ (a : Acl). a.id) net.acls sound.numbered.order.acls)

  -- ---- kinds

  pub switches_once : KeysStandOnce by_number (switch_units net)
  switches_once = stand_once number_exact (switch_units net) (of_records_once (λ (s : Switch). s.id) _ net.switches switches_rise)

  pub port_sec_once : KeysStandOnce by_number (port_sec_units net)
  port_sec_once = stand_once number_exact (port_sec_units net) (of_records_once (λ (p : Port). p.id) port_sec_input net.ports (ports_rise net sound))

  pub switch_acl_once : KeysStandOnce by_number (switch_acl_units net)
  switch_acl_once = stand_once number_exact (switch_acl_units net) (of_records_once (λ (s : Switch). s.id) (λ s. switch_acl_input net s.id) net.switches switches_rise)

  pub port_acl_once : KeysStandOnce by_number (port_acl_units net)
  port_acl_once =
      stand_once number_exact (port_acl_units net)
      (of_records_once (λ (p : Port). p.id) port_acl_input (filter (is_untracked net) net.ports) (pairs_filter (Before (λ (p : Port). p.id)) (is_untracked net) net.ports (ports_rise net sound)))

  pub acl_on_once : KeysStandOnce by_numbers (acl_on_units net)
  acl_on_once =
      stand_once numbers_exact (acl_on_units net)
      (of_pieces_once (λ (a : Acl). a.id) (λ (s : Switch). s.id) (switches_of_acl net) (λ acl switch. acl_on_input net acl switch.id) net.acls acls_rise
      (λ acl. pairs_filter (Before (λ (s : Switch). s.id)) (λ (s : Switch). applies net s.id acl) net.switches switches_rise))

  pub vip_switch_once : KeysStandOnce by_vip (vip_switch_units net)
  vip_switch_once =
      stand_once vip_exact (vip_switch_units net)
      (of_balancers_once (λ (s : Switch). s.id) (λ s. lbs_on net s.id) (λ (lb : Lb). lb.vips) (λ (vip : Vip). vip.at) vip_input net.switches switches_rise
      (λ s. pairs_filter (Before (λ (b : Lb). b.id)) _ net.lbs (lbs_rise net sound)) (λ s lb of_s. frontends_apart lb (balancer_on net s.id lb of_s)))

  pub switch_l2_once : KeysStandOnce by_number (switch_l2_units net)
  switch_l2_once = stand_once number_exact (switch_l2_units net) (of_records_once (λ (s : Switch). s.id) (λ s. switch_l2_input net s.id) net.switches switches_rise)

  pub port_l2_once : KeysStandOnce by_number (port_l2_units net)
  port_l2_once = stand_once number_exact (port_l2_units net) (of_records_once (λ (p : Port). p.id) (port_l2_input net) net.ports (ports_rise net sound))
