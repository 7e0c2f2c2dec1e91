-- The readings of words of which a command has any number.
use Rattle.std.specs.Prelude.{ℕ, ◌+◌, ◌==◌, Bool, false, not, ◌&&◌, ◌||◌, List, [], ◌∷◌, ◌++◌, length, drop, filter, codes, Option, Some, Result, Ok, Err, if◌then◌else◌}
use Rattle.std.specs.List.{list_any, slice_split}
use Rattle.std.specs.Str.{bytes_eq}
use Rattle.nv_base.specs.Block.{Block}
use Rattle.nv_base.specs.Mac.{mac_of}
use Rattle.nv_base.specs.declared.ip4.Ip4.{Ip4}
use Rattle.nb_records.specs.declared.refusal.Refusal.{Refusal}
use Rattle.nb_records.specs.declared.refusal.Refusal.TheVariants.{BadMac, BadAddress, NotInProfile}
use Rattle.nb_records.specs.declared.sets.Member.{Member}
use Rattle.nb_records.specs.declared.switch.Addr.{Addr}
use Rattle.nb_records.specs.declared.switch.Addr.TheVariants.{Unknown, Router, Host}
use Rattle.nb_records.specs.declared.switch.Guard.{Guard}
use Rattle.nb_words.specs.Words.{is_separator}
use Rattle.nb_words.specs.declared.word.Word.{Word}
use Rattle.nb_read.specs.Then.{and_then}
use Rattle.nb_read.specs.Keywords.{begins}
use Rattle.nb_read.specs.Readings.{object_name, mac, ip, prefix, cleared, member_of}

-- the ports of a group, after those before
abbrev pub names : List (List ℕ) → ℕ → List Word → Result (List (List ℕ)) Refusal
names before number [] = Ok before
names before number (word ∷ words) = and_then (object_name number word.text) (λ name. names (before ++ name ∷ []) (number + 1) words)

-- the members of a set, after those before
abbrev pub members : List Member → ℕ → List Word → Result (List Member) Refusal
members before number [] = Ok before
members before number (word ∷ words) = and_then (member_of number word.text (mac_of word.text)) (λ m. members (before ++ m ∷ []) (number + 1) words)

-- two prefixes have the same address, or are in the same network
abbrev pub is_same_network : Block → Block → Bool
is_same_network p q = (p.base.0 == q.base.0) || (((cleared p).base.0 == (cleared q).base.0) && (p.len == q.len))

-- one of the prefixes has the address, or the network
abbrev pub is_network_there : List Block → Block → Bool
is_network_there before p = list_any (λ q. is_same_network q p) before

-- a network of a router port, none of whose addresses and networks are there before
abbrev pub next_network : ℕ → List Block → List ℕ → Result Block Refusal
next_network number before text =
    if begins text (codes "peer=") then Err (NotInProfile number)
    else and_then (prefix number text) (λ p. if is_network_there before p then Err (BadAddress number) else Ok p)

-- the networks of a router port, after those before
abbrev pub networks : List Block → ℕ → List Word → Result (List Block) Refusal
networks before number [] = Ok before
networks before number (word ∷ words) = and_then (next_network number before word.text) (λ p. networks (before ++ p ∷ []) (number + 1) words)

-- the parts of a word between its separators
abbrev pub parts : List ℕ → List (List ℕ)
parts text = filter (λ part. not (length part == 0)) (slice_split is_separator text)

-- the address has this MAC
abbrev pub has_mac : ℕ → Addr → Bool
has_mac mac Unknown = false
has_mac mac Router = false
has_mac mac (Host own ips) = own == mac

abbrev pub is_ip : Ip4 → Ip4 → Bool
is_ip a other = other.0 == a.0

-- the address has this IPv4 address
abbrev pub has_ip : Ip4 → Addr → Bool
has_ip a Unknown = false
has_ip a Router = false
has_ip a (Host own ips) = list_any (is_ip a) ips

-- a MAC that no address before has
abbrev pub new_mac : ℕ → List Addr → List ℕ → Result ℕ Refusal
new_mac number before text = and_then (mac number text) (λ m. if list_any (has_mac m) before then Err (BadAddress number) else Ok m)

-- IPv4 addresses that are not there before
abbrev pub new_ips : ℕ → List Addr → List Ip4 → List (List ℕ) → Result (List Ip4) Refusal
new_ips number before ips [] = Ok ips
new_ips number before ips (text ∷ texts) =
    and_then (ip number text) (λ a. if list_any (has_ip a) before || list_any (is_ip a) ips then Err (BadAddress number) else new_ips number before (ips ++ a ∷ []) texts)

-- a MAC and IPv4 addresses
abbrev pub host : ℕ → List Addr → List (List ℕ) → Result Addr Refusal
host number before [] = Err (BadMac number)
host number before (text ∷ texts) = and_then (new_mac number before text) (λ m. and_then (new_ips number before [] texts) (λ ips. Ok (Host m ips)))

-- an address of a switch port
abbrev pub next_address : ℕ → List Addr → List ℕ → Result Addr Refusal
next_address number before text =
    if bytes_eq text (codes "unknown") then Ok Unknown
    else (if bytes_eq text (codes "router") then Ok Router
    else (if bytes_eq text (codes "dynamic") then Err (NotInProfile number) else host number before (parts text)))

-- the addresses of a switch port, after those before
abbrev pub addresses : List Addr → ℕ → List Word → Result (List Addr) Refusal
addresses before number [] = Ok before
addresses before number (word ∷ words) = and_then (next_address number before word.text) (λ a. addresses (before ++ a ∷ []) (number + 1) words)

-- the prefix has this address, whatever its length
abbrev pub is_base : Block → Block → Bool
is_base p other = other.base.0 == p.base.0

-- the guard has the address
abbrev pub has_net : Block → Guard → Bool
has_net p guard = list_any (is_base p) guard.nets

-- the guard is for the MAC
abbrev pub guards_mac : ℕ → Guard → Bool
guards_mac mac guard = guard.mac == mac

-- a MAC that no guard before has
abbrev pub guard_mac : ℕ → List Guard → List ℕ → Result ℕ Refusal
guard_mac number before text = and_then (mac number text) (λ m. if list_any (guards_mac m) before then Err (BadAddress number) else Ok m)

-- addresses and networks whose addresses are not there before
abbrev pub new_nets : ℕ → List Guard → List Block → List (List ℕ) → Result (List Block) Refusal
new_nets number before nets [] = Ok nets
new_nets number before nets (text ∷ texts) =
    and_then (prefix number text) (λ p. if list_any (has_net p) before || list_any (is_base p) nets then Err (BadAddress number) else new_nets number before (nets ++ p ∷ []) texts)

-- a MAC, and the addresses and networks that go with it
abbrev pub guarded : ℕ → List Guard → List (List ℕ) → Result Guard Refusal
guarded number before [] = Err (BadMac number)
guarded number before (text ∷ texts) = and_then (guard_mac number before text) (λ m. and_then (new_nets number before [] texts) (λ nets. Ok (record { mac = m; nets = nets })))

-- what a switch port may send and get
abbrev pub next_guard : ℕ → List Guard → List ℕ → Result Guard Refusal
next_guard number before text = guarded number before (parts text)

-- the guards of a switch port, after those before
abbrev pub guards : List Guard → ℕ → List Word → Result (List Guard) Refusal
guards before number [] = Ok before
guards before number (word ∷ words) = and_then (next_guard number before word.text) (λ guard. guards (before ++ guard ∷ []) (number + 1) words)

-- the word sets the option `router-port`
abbrev pub is_router_port : Word → Bool
is_router_port word = begins word.text (codes "router-port=")

-- the name that the options of a switch port give, after what was given before; there is no other option here
abbrev pub port_options : Option (List ℕ) → ℕ → List Word → Result (Option (List ℕ)) Refusal
port_options before number [] = Ok before
port_options before number (word ∷ words) =
    if is_router_port word then and_then (object_name number (drop 12 word.text)) (λ name. port_options (Some name) (number + 1) words)
    else Err (NotInProfile number)
