-- The backends of a VIP of a sound network are targets of a well-formed action.
use Rattle.std.proofs.Common.{◌≡◌, ℕ, Bool, true, false, List, [], ◌∷◌, length, map, ap, refl, ◌∙◌}
use Rattle.std.specs.Prelude.{◌&&◌, ◌||◌, Option, Some, None, is_none, is_some, nat_lt}
use Rattle.std.specs.List.{list_all}
use Rattle.std.proofs.lemmas.Bool.{and_from, and_parts, false≢true}
use Rattle.act_core.specs.WellFormed.{has_one, have_ports_or_none, is_address, is_port, is_step, is_target}
use Rattle.act_core.specs.declared.step.Target.{Target}
use Rattle.nb_records.specs.declared.balancer.Backend.{Backend}
use Rattle.nb_records.specs.declared.balancer.Vip.{Vip}
use Rattle.nb_model.specs.Readable.{is_backend, is_frontend, is_ip4, is_service, is_vip, same_truth}
use Rattle.net_rows.specs.LoadBalancers.{balances_to, target_of}

one_there : (backends : List Backend) → nat_lt 0 (length backends) ≡ true → has_one (map target_of backends) ≡ true
one_there [] some = absurd (false≢true some)
one_there (backend ∷ others) some = refl

port_fits : (port : Option ℕ) → is_service port ≡ true → is_port port ≡ true
port_fits None is = refl
port_fits (Some port) is = (and_parts (nat_lt 0 port) (nat_lt port 65536) is).1

with_port : (port : Option ℕ) → same_truth (is_some port) true ≡ true → is_some port ≡ true
with_port None is = absurd (false≢true is)
with_port (Some port) is = refl

without_port : (port : Option ℕ) → same_truth (is_some port) false ≡ true → is_none port ≡ true
without_port None is = refl
without_port (Some port) is = absurd (false≢true is)

-- what is asked of each backend
record IsBackend (has_port : Bool) (backend : Backend) : Type 0 where
  addr : is_ip4 backend.addr ≡ true
  port : is_service backend.port ≡ true
  like_its_vip : same_truth (is_some backend.port) has_port ≡ true

backend_is : (has_port : Bool) (backend : Backend) → is_backend has_port backend ≡ true → IsBackend has_port backend
backend_is has_port backend is =
    let last = and_parts (is_ip4 backend.addr && is_service backend.port) (same_truth (is_some backend.port) has_port) is in
    let both = and_parts (is_ip4 backend.addr) (is_service backend.port) last.0 in
    record { addr = both.0; port = both.1; like_its_vip = last.1 }

-- what holds of the target of each backend holds of all
all_targets : (has_port : Bool) (p : Target → Bool) → ((backend : Backend) → IsBackend has_port backend → p (target_of backend) ≡ true) → (backends : List Backend) → list_all (is_backend has_port) backends ≡ true
    → list_all p (map target_of backends) ≡ true
all_targets has_port p each [] all = refl
all_targets has_port p each (backend ∷ others) all =
    let parts = and_parts (is_backend has_port backend) (list_all (is_backend has_port) others) all in
    and_from (p (target_of backend)) (list_all p (map target_of others)) (each backend (backend_is has_port backend parts.0)) (all_targets has_port p each others parts.1)

ports_or_none : (has_port : Bool) (backends : List Backend) → list_all (is_backend has_port) backends ≡ true → have_ports_or_none (map target_of backends) ≡ true
ports_or_none true backends all = ap (λ b. b || list_all (λ t. is_none t.port) (map target_of backends)) (all_targets true (λ t. is_some t.port) (λ backend is. with_port backend.port is.like_its_vip) backends all)
ports_or_none false backends all =
    ap (λ b. list_all (λ t. is_some t.port) (map target_of backends) || b) (all_targets false (λ t. is_none t.port) (λ backend is. without_port backend.port is.like_its_vip) backends all)
    ∙ by (list_all (λ t. is_some t.port) (map target_of backends))
  where
    by : (b : Bool) → (b || true) ≡ true
    by true = refl
    by false = refl

targets_formed : (has_port : Bool) (backends : List Backend) → nat_lt 0 (length backends) ≡ true → list_all (is_backend has_port) backends ≡ true → is_step (balances_to backends) ≡ true
targets_formed has_port backends some all =
    and_from (has_one (map target_of backends) && list_all is_target (map target_of backends)) (have_ports_or_none (map target_of backends))
    (and_from (has_one (map target_of backends)) (list_all is_target (map target_of backends)) (one_there backends some)
    (all_targets has_port is_target (λ backend is. and_from (is_address backend.addr) (is_port backend.port) is.addr (port_fits backend.port is.port)) backends all)) (ports_or_none has_port backends all)

-- to go to one of them is a well-formed action
pub balances_formed : (vip : Vip) → is_vip vip ≡ true → is_step (balances_to vip.backends) ≡ true
balances_formed vip is =
    let has_port = is_some vip.at.port in
    let last = and_parts (is_frontend vip.at && nat_lt 0 (length vip.backends)) (list_all (is_backend has_port) vip.backends) is in
    let some = (and_parts (is_frontend vip.at) (nat_lt 0 (length vip.backends)) last.0).1 in
    targets_formed has_port vip.backends some last.1
