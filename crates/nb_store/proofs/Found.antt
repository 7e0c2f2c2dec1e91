-- Records that are found by a tag are those that a test of their fields finds.
use Rattle.std.proofs.Common.{◌≡◌, ℕ, Bool, true, false, cond, ◌==◌, ◌&&◌, ◌||◌, List, [], ◌∷◌, ◌++◌, length, map, Option, Some, None, refl, ap, ◌∙◌, arith}
use Rattle.std.specs.Prelude.{find, nat_le}
use Rattle.std.specs.List.{flat_map, list_any}
use Rattle.std.specs.Ordering.{is_eq}
use Rattle.std.specs.Str.{bytes_eq}
use Rattle.std.proofs.lemmas.Map.Text.{is_eq-slice_cmp}
use Rattle.std.proofs.lemmas.Bool.Decides.{nat_tests}
use Rattle.nv_base.specs.declared.ip4.Ip4.{Ip4}
use Rattle.nv_base.specs.declared.object.ObjId.{ObjId}
use Rattle.nb_records.specs.Tags.{tag_cmp, named_tags, port_tags, peer_tags, ips_of, ip_tags, most_told, switch_tags, router_tags, router_port_tags, lb_tags, set_tags, group_tags}
use Rattle.nb_records.specs.declared.switch.Switch.{Switch}
use Rattle.nb_records.specs.declared.router.Router.{Router}
use Rattle.nb_records.specs.declared.router.RouterPort.{RouterPort}
use Rattle.nb_records.specs.declared.balancer.Lb.{Lb}
use Rattle.nb_records.specs.declared.sets.AddrSet.{AddrSet}
use Rattle.nb_records.specs.declared.sets.Group.{Group}
use Rattle.nb_records.specs.declared.switch.Port.{Port}
use Rattle.nb_records.specs.declared.switch.PortKind.{PortKind}
use Rattle.nb_records.specs.declared.switch.PortKind.TheVariants as kind
use Rattle.nb_records.specs.declared.tag.Tag.{Tag}
use Rattle.nb_records.specs.declared.tag.Tag.TheVariants.{Named, Of, Names, Lists, Has, HasMany}
use Rattle.nb_model.specs.Belongs.{is_name, is_router_kind, is_to_router}
use Rattle.std.specs.declared.cmp.Ordering.{Ordering}
use Rattle.nv_table.specs.Table.{has_tag, is_after}

-- what two tests that agree find
pub same_found : {R : Type 0} (p q : R → Bool) → ((r : R) → p r ≡ q r) → (rs : List R) → find p rs ≡ find q rs
same_found p q agree rs = ap (λ test. find test rs) (λ i r. agree r i)

-- the first that passes a test is the first that passes another one too, where it passes that
pub first_found : {R : Type 0} (p q : R → Bool) (r : R) (rs : List R) → find p rs ≡ Some r → q r ≡ true → find (λ x. p x && q x) rs ≡ Some r
first_found p q r [] found also = absurd (cc)
first_found {R} p q r (x ∷ rs) found also = by (p x) refl found (λ f. first_found p q r rs f also)
  where
    both : R → Bool
    both y = p y && q y

    by : (b : Bool) → p x ≡ b → cond b (Some x) (find p rs) ≡ Some r → (find p rs ≡ Some r → find both rs ≡ Some r) → cond (both x) (Some x) (find both rs) ≡ Some r
    by true t g rest =
        let same : x ≡ r = cc in
        ap (λ b. cond (b && q x) (Some x) (find both rs)) t ∙ ap (λ b. cond b (Some x) (find both rs)) (ap q same ∙ also) ∙ ap Some same
    by false t g rest = ap (λ b. cond (b && q x) (Some x) (find both rs)) t ∙ rest g

-- how names compare
pub turned : (a b : ℕ) → (a == b) ≡ (b == a)
turned a b = grind (arith, nat_tests)

pub bytes_turned : (xs ys : List ℕ) → bytes_eq xs ys ≡ bytes_eq ys xs
bytes_turned [] [] = refl
bytes_turned [] (y ∷ ys) = refl
bytes_turned (x ∷ xs) [] = refl
bytes_turned (x ∷ xs) (y ∷ ys) = ap (λ b. b && bytes_eq xs ys) (turned x y) ∙ ap (λ b. (y == x) && b) (bytes_turned xs ys)

same_name : (name own : List ℕ) → is_eq (tag_cmp (Named name) (Named own)) ≡ bytes_eq own name
same_name name own = is_eq-slice_cmp name own ∙ bytes_turned name own

-- what is listed has no name
no_name : (name : List ℕ) (listed : List ObjId) → list_any (λ tag. is_eq (tag_cmp (Named name) tag)) (map Lists listed) ≡ false
no_name name [] = refl
no_name name (x ∷ listed) = no_name name listed

pub or_false : (a b : Bool) → b ≡ false → (a || b) ≡ a
or_false true b e = refl
or_false false b e = e

-- the name of a record that lists objects
pub is_named : (name own : List ℕ) (listed : List ObjId) → list_any (λ tag. is_eq (tag_cmp (Named name) tag)) (named_tags own listed) ≡ bytes_eq own name
is_named name own listed = or_false (is_eq (tag_cmp (Named name) (Named own))) _ (no_name name listed) ∙ same_name name own

-- the tags of addresses are no other ones
pub no_ip : (test : Tag → Bool) → ((ip : Ip4) → test (Has ip) ≡ false) → test HasMany ≡ false → (ips : List Ip4) → list_any test (ip_tags ips) ≡ false
no_ip test none many ips = by (nat_le (length ips) most_told)
  where
    no_has : (ips : List Ip4) → list_any test (map Has ips) ≡ false
    no_has [] = refl
    no_has (ip ∷ ips) = ap (λ b. b || list_any test (map Has ips)) (none ip) ∙ no_has ips

    by : (b : Bool) → list_any test (cond b (map Has ips) (HasMany ∷ [])) ≡ false
    by true = no_has ips
    by false = or_false (test HasMany) false refl ∙ many

-- the name of a port
pub is_port_named : (name own : List ℕ) (owner : ObjId) (kind : PortKind) (peer : Option (List ℕ)) (ips : List Ip4)
    → list_any (λ tag. is_eq (tag_cmp (Named name) tag)) (Named own ∷ Of owner ∷ (peer_tags kind peer ++ ip_tags ips)) ≡ bytes_eq own name
is_port_named name own owner kind.Router (Some peer) ips = or_false _ _ (no_ip (λ tag. is_eq (tag_cmp (Named name) tag)) (λ ip. refl) refl ips) ∙ same_name name own
is_port_named name own owner kind.Router None ips = or_false _ _ (no_ip (λ tag. is_eq (tag_cmp (Named name) tag)) (λ ip. refl) refl ips) ∙ same_name name own
is_port_named name own owner kind.Host peer ips = or_false _ _ (no_ip (λ tag. is_eq (tag_cmp (Named name) tag)) (λ ip. refl) refl ips) ∙ same_name name own

pub is_router_port_named : (name own : List ℕ) (owner : ObjId) → list_any (λ tag. is_eq (tag_cmp (Named name) tag)) (Named own ∷ Of owner ∷ []) ≡ bytes_eq own name
is_router_port_named name own owner = or_false _ false refl ∙ same_name name own

-- the router port that a port names
pub is_peer_named : (name own : List ℕ) (owner : ObjId) (kind : PortKind) (peer : Option (List ℕ)) (ips : List Ip4)
    → list_any (λ tag. is_eq (tag_cmp (Names name) tag)) (Named own ∷ Of owner ∷ (peer_tags kind peer ++ ip_tags ips)) ≡ (is_router_kind kind && is_name peer name)
is_peer_named name own owner kind.Router (Some peer) ips = or_false _ _ (no_ip (λ tag. is_eq (tag_cmp (Names name) tag)) (λ ip. refl) refl ips) ∙ (is_eq-slice_cmp name peer ∙ bytes_turned name peer)
is_peer_named name own owner kind.Router None ips = no_ip (λ tag. is_eq (tag_cmp (Names name) tag)) (λ ip. refl) refl ips
is_peer_named name own owner kind.Host peer ips = no_ip (λ tag. is_eq (tag_cmp (Names name) tag)) (λ ip. refl) refl ips

-- the records that are found by a tag, those after a number alone where one is given
pub found_by : {R : Type 0} (number : R → ObjId) (tags : R → List Tag) (order : Tag → Ordering) (test : R → Bool) (after : Option ObjId)
    → ((r : R) → has_tag tags order r ≡ test r) → (rs : List R)
    → find (λ r. is_after after (number r) && has_tag tags order r) rs ≡ find (λ r. is_after after (number r) && test r) rs
found_by number tags order test after agree rs = same_found _ _ (λ r. ap (λ b. is_after after (number r) && b) (agree r)) rs

pub switch_found : (name : List ℕ) (rs : List Switch) → find (λ s. has_tag switch_tags (tag_cmp (Named name)) s) rs ≡ find (λ s. bytes_eq s.name name) rs
switch_found name rs = same_found _ _ (λ (s : Switch). is_named name s.name s.lbs) rs

pub router_found : (name : List ℕ) (rs : List Router) → find (λ s. has_tag router_tags (tag_cmp (Named name)) s) rs ≡ find (λ s. bytes_eq s.name name) rs
router_found name rs = same_found _ _ (λ (s : Router). is_named name s.name s.lbs) rs

pub port_found : (name : List ℕ) (rs : List Port) → find (λ s. has_tag port_tags (tag_cmp (Named name)) s) rs ≡ find (λ s. bytes_eq s.name name) rs
port_found name rs = same_found _ _ (λ (s : Port). is_port_named name s.name s.switch s.kind s.router_port (flat_map ips_of s.addresses)) rs

pub router_port_found : (name : List ℕ) (rs : List RouterPort) → find (λ s. has_tag router_port_tags (tag_cmp (Named name)) s) rs ≡ find (λ s. bytes_eq s.name name) rs
router_port_found name rs = same_found _ _ (λ (s : RouterPort). is_router_port_named name s.name s.router) rs

pub lb_found : (name : List ℕ) (rs : List Lb) → find (λ s. has_tag lb_tags (tag_cmp (Named name)) s) rs ≡ find (λ s. bytes_eq s.name name) rs
lb_found name rs = same_found _ _ (λ (s : Lb). is_named name s.name []) rs

pub set_found : (name : List ℕ) (rs : List AddrSet) → find (λ s. has_tag set_tags (tag_cmp (Named name)) s) rs ≡ find (λ s. bytes_eq s.name name) rs
set_found name rs = same_found _ _ (λ (s : AddrSet). is_named name s.name []) rs

pub group_found : (name : List ℕ) (rs : List Group) → find (λ s. has_tag group_tags (tag_cmp (Named name)) s) rs ≡ find (λ s. bytes_eq s.name name) rs
group_found name rs = same_found _ _ (λ (s : Group). is_named name s.name s.ports) rs

abbrev pub peer_named : List ℕ → List Port → Option Port
peer_named name rs = find (λ port. is_to_router port && is_name port.router_port name) rs

pub peer_found : (name : List ℕ) (rs : List Port) → find (λ s. has_tag port_tags (tag_cmp (Names name)) s) rs ≡ peer_named name rs
peer_found name rs = same_found _ _ (λ (s : Port). is_peer_named name s.name s.switch s.kind s.router_port (flat_map ips_of s.addresses)) rs
