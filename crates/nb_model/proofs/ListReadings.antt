-- What the readings of words give of which a command has any number.
use Rattle.std.proofs.Common.{◌≡◌, ◌<◌, ℕ, ◌+◌, ◌&&◌, ◌||◌, Bool, true, false, not, nat_lt, ◌==◌, List, [], ◌∷◌, ◌++◌, length, drop, Option, Some, None, Ok, IfOk, IfSome, is_some, codes, refl, subst, append_assoc, append-nil, length-append, arith}
use Rattle.std.specs.Bool.{IsTrue}
use Rattle.std.specs.List.{list_all, list_any, slice_split, flat_map}
use Rattle.std.proofs.lemmas.Bool.{and_parts, and_from, or_parts, lt-ltb}
use Rattle.std.proofs.lemmas.List.Splits.{length-slice_split}
use Rattle.nb_records.specs.declared.balancer.Backend.{Backend}
use Rattle.nb_records.specs.declared.balancer.Frontend.{Frontend}
use Rattle.nb_records.specs.declared.refusal.Refusal.TheVariants.{BadAddress, NotInProfile}
use Rattle.nb_records.specs.declared.sets.Member.{Member}
use Rattle.nb_read.specs.Keywords.{begins}
use Rattle.nb_read.specs.Lists.{names, members, is_same_network, is_network_there, next_network, networks, is_router_port, port_options}
use Rattle.nb_read.specs.Readings.{object_name, prefix, member_of, frontend_of, has_port_as, backend, backends_of, backends}
use Rattle.nb_words.specs.declared.word.Word.{Word}
use Rattle.nv_base.specs.Block.{Block}
use Rattle.nv_base.specs.Mac.{mac_of}
use Rattle.nv_base.specs.Name.{is_object_name}
use Rattle.nb_model.specs.Readable.{are_apart, may_name, is_ip4, is_block, are_networks, is_service, is_frontend, same_truth, is_backend, is_member}
use Rattle.nb_model.proofs.Reading.{goes_on, tested, not_refused, there, there_tested, there_after}
use Rattle.nb_model.proofs.RecordLists.{all_push, all_append, all_as, apart_push, none_any}
use Rattle.nb_model.proofs.WordReadings.{object_name_given, member_given, prefix_given, frontend_of_given}

-- Names and members.

pub names_given : (before : List (List ℕ)) (number : ℕ) (words : List Word) → IsTrue (list_all is_object_name before) → IfOk (names before number words) (λ all. IsTrue (list_all is_object_name all))
names_given before number [] are = are
names_given before number (word ∷ words) are =
    goes_on (λ name. IsTrue (is_object_name name)) (λ all. IsTrue (list_all is_object_name all)) (object_name number word.text) _ (object_name_given number word.text)
    (λ name is. names_given (before ++ name ∷ []) (number + 1) words (all_push is_object_name before name are is))

pub members_given : (before : List Member) (number : ℕ) (words : List Word) → IsTrue (list_all is_member before) → IfOk (members before number words) (λ all. IsTrue (list_all is_member all))
members_given before number [] are = are
members_given before number (word ∷ words) are =
    goes_on (λ m. IsTrue (is_member m)) (λ all. IsTrue (list_all is_member all)) (member_of number word.text (mac_of word.text)) _ (member_given number word.text)
    (λ m is. members_given (before ++ m ∷ []) (number + 1) words (all_push is_member before m are is))

pub port_options_given : (before : Option (List ℕ)) (number : ℕ) (words : List Word) → IsTrue (may_name before) → IfOk (port_options before number words) (λ name. IsTrue (may_name name))
port_options_given before number [] is = is
port_options_given before number (word ∷ words) is =
    tested (λ name. IsTrue (may_name name)) (is_router_port word) _ (NotInProfile number) (λ sets.
    goes_on (λ name. IsTrue (is_object_name name)) (λ name. IsTrue (may_name name)) (object_name number (drop 12 word.text)) _ (object_name_given number (drop 12 word.text))
    (λ name named. port_options_given (Some name) (number + 1) words named))

-- Networks of a router port.

-- one more in a list, and one less to come
one_more : {X : Type 0} (before : List X) (x : X) (left : ℕ) → 0 < length (before ++ x ∷ []) + left
one_more before x left = omega (arith, length-append before (x ∷ []))

some_at_last : {X : Type 0} (before : List X) → 0 < length before + 0 → IsTrue (nat_lt 0 (length before))
some_at_last before some = lt-ltb 0 (length before) (omega arith)

next_network_given : (number : ℕ) (before : List Block) (text : List ℕ) → IfOk (next_network number before text) (λ p. IsTrue (is_block p) × IsTrue (list_all (λ q. not (is_same_network q p)) before))
next_network_given number before text =
    not_refused (λ p. IsTrue (is_block p) × IsTrue (list_all (λ q. not (is_same_network q p)) before)) (begins text (codes "peer=")) _ (NotInProfile number) (λ other.
    goes_on (λ p. IsTrue (is_block p)) (λ p. IsTrue (is_block p) × IsTrue (list_all (λ q. not (is_same_network q p)) before)) (prefix number text) _ (prefix_given number text) (λ p is.
    not_refused (λ p. IsTrue (is_block p) × IsTrue (list_all (λ q. not (is_same_network q p)) before)) (is_network_there before p) (Ok p) (BadAddress number) (λ new.
    (is, none_any (λ q. is_same_network q p) before new))))

pub networks_given : (before : List Block) (number : ℕ) (words : List Word) → 0 < length before + length words → IsTrue (list_all is_block before) → IsTrue (are_apart is_same_network before)
    → IfOk (networks before number words) (λ nets. IsTrue (are_networks nets))
networks_given before number [] some are apart =
    and_from (nat_lt 0 (length before) && list_all is_block before) (are_apart is_same_network before) (and_from (nat_lt 0 (length before)) (list_all is_block before) (some_at_last before some) are) apart
networks_given before number (word ∷ words) some are apart =
    goes_on (λ p. IsTrue (is_block p) × IsTrue (list_all (λ q. not (is_same_network q p)) before)) (λ nets. IsTrue (are_networks nets)) (next_network number before word.text) _ (next_network_given number before word.text)
    (λ p is. networks_given (before ++ p ∷ []) (number + 1) words (one_more before p (length words)) (all_push is_block before p are is.0) (apart_push is_same_network before p apart is.1))

-- What the elements of a list have together.

pub flat_push : {X Y : Type 0} (f : X → List Y) (xs : List X) (x : X) → flat_map f (xs ++ x ∷ []) ≡ flat_map f xs ++ f x
flat_push f [] x = append-nil (f x)
flat_push f (y ∷ ys) x = rw (flat_push f ys x, append_assoc) refl

pub none_flat : {X Y : Type 0} (f : X → List Y) (has : X → Bool) (p : Y → Bool) (xs : List X) → ((x : X) → has x ≡ false → IsTrue (list_all p (f x))) → list_any has xs ≡ false → IsTrue (list_all p (flat_map f xs))
none_flat f has p [] each none = refl
none_flat f has p (x ∷ xs) each none =
    let both = or_parts (has x) (list_any has xs) none in
    all_append p (f x) (flat_map f xs) (each x both.0) (none_flat f has p xs each both.1)

-- one more that none has
pub fresh : {X Y : Type 0} (f : X → List Y) (has : Y → X → Bool) (is : Y → Y → Bool) (before : List X) (items : List Y) (y : Y) → ((z : Y) → is y z ≡ is z y) → ((x : X) → has y x ≡ false → list_any (is y) (f x) ≡ false)
    → (list_any (has y) before || list_any (is y) items) ≡ false → IsTrue (are_apart is (flat_map f before ++ items)) → IsTrue (are_apart is (flat_map f before ++ (items ++ y ∷ [])))
fresh {X} {Y} f has is before items y symmetric holds none apart =
    let both = or_parts (list_any (has y) before) (list_any (is y) items) none in
    let others = none_flat f (has y) (λ z. not (is z y)) before (λ x differs. turned (f x) (none_any (is y) (f x) (holds x differs))) both.0 in
    let new = all_append (λ z. not (is z y)) (flat_map f before) items others (turned items (none_any (is y) items both.1)) in
    rw (← append_assoc) (apart_push is (flat_map f before ++ items) y apart new)
  where
    turned : (zs : List Y) → IsTrue (list_all (λ z. not (is y z)) zs) → IsTrue (list_all (λ z. not (is z y)) zs)
    turned zs all = all_as (λ z. not (is y z)) (λ z. not (is z y)) zs (λ z differs. subst (λ (b : Bool). IsTrue (not b)) (symmetric z) differs) all

-- Backends.

has_port_too : (has_port : Bool) (port : Option ℕ) → has_port_as has_port port ≡ true → IsTrue (same_truth (is_some port) has_port)
has_port_too true (Some n) is = refl
has_port_too true None is = absurd (cc)
has_port_too false (Some n) is = absurd (cc)
has_port_too false None is = refl

backend_given : (has_port : Bool) (f : Option Frontend) → IfSome f (λ x. IsTrue (is_frontend x)) → IfSome (backend has_port f) (λ b. IsTrue (is_backend has_port b))
backend_given has_port None is = tt
backend_given has_port (Some f) is =
    let serves = and_parts (is_ip4 f.addr) (is_service f.port) is in
    there_tested (λ b. IsTrue (is_backend has_port b)) (has_port_as has_port f.port) (record { addr = f.addr; port = f.port })
    (λ fits. and_from (is_ip4 f.addr && is_service f.port) (same_truth (is_some f.port) has_port) (and_from (is_ip4 f.addr) (is_service f.port) serves.0 serves.1) (has_port_too has_port f.port fits))

backends_of_given : (has_port : Bool) (before : List Backend) (texts : List (List ℕ)) → 0 < length before + length texts → IsTrue (list_all (is_backend has_port) before)
    → IfSome (backends_of has_port before texts) (λ all. IsTrue (nat_lt 0 (length all) && list_all (is_backend has_port) all))
backends_of_given has_port before [] some are = and_from (nat_lt 0 (length before)) (list_all (is_backend has_port) before) (some_at_last before some) are
backends_of_given has_port before (text ∷ texts) some are =
    there_after (λ b. IsTrue (is_backend has_port b)) (λ all. IsTrue (nat_lt 0 (length all) && list_all (is_backend has_port) all)) (λ b. backends_of has_port (before ++ b ∷ []) texts) (backend has_port (frontend_of text))
    (backend_given has_port (frontend_of text) (frontend_of_given text))
    (λ b is. backends_of_given has_port (before ++ b ∷ []) texts (one_more before b (length texts)) (all_push (is_backend has_port) before b are is))

pub backends_given : (has_port : Bool) (number : ℕ) (text : List ℕ) → IfOk (backends has_port number text) (λ all. IsTrue (nat_lt 0 (length all) && list_all (is_backend has_port) all))
backends_given has_port number text =
    let texts = slice_split (λ byte. byte == 44) text in
    there (λ all. IsTrue (nat_lt 0 (length all) && list_all (is_backend has_port) all)) (backends_of has_port [] texts) (BadAddress number)
    (backends_of_given has_port [] texts (omega (arith, length-slice_split (λ byte. byte == 44) text)) refl)
