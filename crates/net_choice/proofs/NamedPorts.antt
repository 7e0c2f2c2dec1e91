-- The port of a router that has a name: the names of ports are told apart.
use Rattle.std.proofs.Common.{◌≡◌, ◌≢◌, ℕ, Bool, true, false, cond, List, [], ◌∷◌, ◌++◌, map, Option, Some, None, arith, refl, sym, ap, ◌∙◌}
use Rattle.std.specs.Prelude.{◌==◌, not, filter}
use Rattle.std.specs.Bool.{IsTrue}
use Rattle.std.specs.List.{find, list_all}
use Rattle.std.specs.Str.{bytes_eq}
use Rattle.std.proofs.lemmas.Bool.{false≢true, and_parts, eq-eqb, not-true}
use Rattle.std.proofs.lemmas.Bool.Decides.{nat_tests}
use Rattle.std.proofs.lemmas.Slice.Eq.{bytes_eq-Decides}
use Rattle.nv_base.specs.declared.object.ObjId.{ObjId}
use Rattle.nb_records.specs.declared.router.RouterPort.{RouterPort}
use Rattle.nb_records.specs.declared.switch.Port.{Port}
use Rattle.nb_model.specs.Network.{Network, router_port_named, same}
use Rattle.nb_model.specs.Readable.{are_apart}
use Rattle.nb_model.specs.Sound.{IsSound}
use Rattle.net_choice.specs.inner.Routes.{named_exit}

-- those that come last are told apart too
apart_after : (names others : List (List ℕ)) → IsTrue (are_apart bytes_eq (names ++ others)) → IsTrue (are_apart bytes_eq others)
apart_after [] others apart = apart
apart_after (name ∷ names) others apart = apart_after names others (and_parts (list_all (λ n. not (bytes_eq name n)) (names ++ others)) (are_apart bytes_eq (names ++ others)) apart).1

module _ (router : ObjId) (name : List ℕ) where
  abbrev names_of : List RouterPort → List (List ℕ)
  names_of ports = map (λ (p : RouterPort). p.name) ports

  abbrev its : RouterPort → Bool
  its port = same router port.router

  abbrev named : RouterPort → Bool
  named port = bytes_eq port.name name

  -- the port, if it is of the router
  abbrev pub if_its : Option RouterPort → Option RouterPort
  if_its None = None
  if_its (Some port) = cond (its port) (Some port) None

  -- where another has the name, none of these has
  none_named : (own : List ℕ) → bytes_eq own name ≡ true → (ports : List RouterPort) → IsTrue (list_all (λ n. not (bytes_eq own n)) (names_of ports)) → find named (filter its ports) ≡ None
  none_named own is [] others = refl
  none_named own is (p ∷ ports) others = by (its p) (unlike (named p) refl (not-true (bytes_eq own p.name) parts.0)) (none_named own is ports parts.1)
    where
      parts : (not (bytes_eq own p.name) ≡ true) × IsTrue (list_all (λ n. not (bytes_eq own n)) (names_of ports))
      parts = and_parts (not (bytes_eq own p.name)) (list_all (λ n. not (bytes_eq own n)) (names_of ports)) others

      unlike : (b : Bool) → named p ≡ b → bytes_eq own p.name ≡ false → named p ≡ false
      unlike false e other = e
      unlike true e other = absurd (false≢true (sym other ∙ (bytes_eq-Decides own p.name).1 ((bytes_eq-Decides own name).0 is ∙ sym ((bytes_eq-Decides p.name name).0 e))))

      by : (b : Bool) → named p ≡ false → find named (filter its ports) ≡ None → find named (cond b (p ∷ filter its ports) (filter its ports)) ≡ None
      by true other rest = ap (λ b. cond b (Some p) (find named (filter its ports))) other ∙ rest
      by false other rest = rest

  of_ports : (ports : List RouterPort) → IsTrue (are_apart bytes_eq (names_of ports)) → if_its (find named ports) ≡ find named (filter its ports)
  of_ports [] apart = refl
  of_ports (p ∷ ports) apart = by (named p) refl (its p) refl (of_ports ports parts.1)
    where
      parts : IsTrue (list_all (λ n. not (bytes_eq p.name n)) (names_of ports)) × IsTrue (are_apart bytes_eq (names_of ports))
      parts = and_parts (list_all (λ n. not (bytes_eq p.name n)) (names_of ports)) (are_apart bytes_eq (names_of ports)) apart

      by : (b : Bool) → named p ≡ b → (s : Bool) → its p ≡ s → if_its (find named ports) ≡ find named (filter its ports)
          → if_its (cond b (Some p) (find named ports)) ≡ find named (cond s (p ∷ filter its ports) (filter its ports))
      by true is true own rest = ap (λ s. cond s (Some p) None) own ∙ ap (λ b. cond b (Some p) (find named (filter its ports))) (sym is)
      by true is false own rest = ap (λ s. cond s (Some p) None) own ∙ sym (none_named p.name is ports parts.0)
      by false is true own rest = rest ∙ ap (λ b. cond b (Some p) (find named (filter its ports))) (sym is)
      by false is false own rest = rest

-- the port of the name, if it is of the router
pub named_is : (net : Network) → IsSound net → (router : ObjId) (name : List ℕ) → if_its router name (router_port_named net name) ≡ named_exit net router name
named_is net sound router name = of_ports router name net.router_ports (apart_after (map (λ (p : Port). p.name) net.ports) (map (λ (p : RouterPort). p.name) net.router_ports) sound.named.ports)

module _ (net : Network) (sound : IsSound net) (router : ObjId) (name : List ℕ) where
  -- there is none of the name
  pub not_named : None ≡ router_port_named net name → None ≡ named_exit net router name
  not_named none = ap (if_its router name) none ∙ named_is net sound router name

  module _ (port : RouterPort) (found : Some port ≡ router_port_named net name) where
    -- it is of another router
    pub of_other : router.0 ≢ port.router.0 → None ≡ named_exit net router name
    of_other other = ap (λ b. cond b (Some port) None) (sym (unlike router.0 port.router.0 other)) ∙ ap (if_its router name) found ∙ named_is net sound router name
      where
        unlike : (m n : ℕ) → m ≢ n → (m == n) ≡ false
        unlike m n other' = grind (arith, nat_tests, other')

    -- it is of the router
    pub of_router : router.0 ≡ port.router.0 → Some port ≡ named_exit net router name
    of_router own = ap (λ b. cond b (Some port) None) (sym (eq-eqb router.0 port.router.0 own)) ∙ ap (if_its router name) found ∙ named_is net sound router name
