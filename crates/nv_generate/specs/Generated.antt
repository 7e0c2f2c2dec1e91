-- The generated network: one router, and switches of 100 ports each behind it, told as the lines that make it (not from OVN).
use Rattle.std.specs.Prelude.{ℕ, ◌+◌, ◌/◌, ◌%◌, List, [], ◌∷◌, ◌++◌, map, codes, decimal}
use Rattle.std.specs.List.{flat_map, range_with_len}
use Rattle.nv_base.specs.Mac.{mac_text}
use Rattle.nv_generate.specs.declared.line.Line.{Line}
use Rattle.nv_generate.specs.declared.line.Line.TheVariants.{Router, Switch, RouterPort, Uplink, Acl, Host}

-- the most ports that a generated network may have
abbrev pub most_ports : ℕ
most_ports = 16000

-- how many switches so many ports stand on, 100 on each but the last
abbrev pub switch_count : ℕ → ℕ
switch_count ports = (ports + 99) / 100

-- a text that a number ends
abbrev pub numbered : List ℕ → ℕ → List ℕ
numbered text n = text ++ decimal n

-- the address of a place in the network of a switch
abbrev pub address_text : ℕ → ℕ → List ℕ
address_text switch place = numbered (codes "10.1.") switch ++ numbered (codes ".") place

-- how a line is written
abbrev pub line_text : Line → List ℕ
line_text Router = codes "lr-add gr"
line_text (Switch k) = numbered (codes "ls-add g") k
line_text (RouterPort k) = numbered (codes "lrp-add gr r") k ++ codes " " ++ mac_text (0x020100000000 + k) ++ codes " " ++ address_text k 1 ++ codes "/24"
line_text (Uplink k) =
    numbered (codes "lsp-add g") k ++ numbered (codes " s") k ++ numbered (codes " -- lsp-set-type s") k
    ++ numbered (codes " router -- lsp-set-addresses s") k ++ numbered (codes " router -- lsp-set-options s") k ++ numbered (codes " router-port=r") k
line_text (Acl k) = numbered (codes "acl-add g") k ++ codes " to-lport 1000 'ip4 && tcp.dst == 22' drop"
line_text (Host i) =
    numbered (codes "lsp-add g") (i / 100) ++ numbered (codes " p") i ++ numbered (codes " -- lsp-set-addresses p") i
    ++ codes " '" ++ mac_text (0x020000000000 + i) ++ codes " " ++ address_text (i / 100) (i % 100 + 2) ++ codes "'"

-- what makes a switch, but for its hosts
abbrev pub lines_of_switch : ℕ → List Line
lines_of_switch k = Switch k ∷ RouterPort k ∷ Uplink k ∷ Acl k ∷ []

-- what makes the network of so many ports
abbrev pub lines_of : ℕ → List Line
lines_of ports = Router ∷ flat_map lines_of_switch (range_with_len 0 (switch_count ports)) ++ map Host (range_with_len 0 ports)

-- the lines of the network of so many ports
unfoldable pub generated : ℕ → List (List ℕ)
generated ports = map line_text (lines_of ports)

-- what is said of a generated network of so many ports, which has so many rows
abbrev pub summary : ℕ → ℕ → List ℕ
summary ports rows =
    numbered (codes "generated switches=") (switch_count ports) ++ numbered (codes " ports=") ports ++ codes " rows=" ++ decimal rows ++ codes "\n"
