-- Ports that are looked through, one after the other.
use Rattle.std.proofs.Common.{◌≡◌, ℕ, ◌+◌, ◌<◌, ◌≤◌, ◌-◌, suc, Bool, true, false, cond, ◌==◌, ◌||◌, if◌then◌else◌, List, [], ◌∷◌, None, Some, refl, sym, ap, ◌∙◌, arith}
use Rattle.std.specs.List.{find}
use Rattle.nv_base.specs.declared.ip4.Ip4.{Ip4}
use Rattle.pkt_core.specs.declared.tuple.Tuple.{Tuple}
use Rattle.ct_core.specs.declared.entry.Entry.{Entry}
use Rattle.ct_core.specs.declared.zone.Zone.{Zone}
use Rattle.ct_core.specs.Translation.{is_free, ports, snat_port}

-- the first, and the others
ports_first : (first count : ℕ) → ports first (suc count) ≡ first ∷ ports (first + 1) count
unfolding ports
ports_first first count = refl

no_ports : (first : ℕ) → ports first 0 ≡ []
unfolding ports
no_ports first = refl

-- those up to an end
pub ports_before : (first end : ℕ) → first < end → ports first (end - first) ≡ first ∷ ports (first + 1) (end - (first + 1))
ports_before first end below =
    let count : end - first ≡ suc (end - (first + 1)) = omega (arith, below) in
    ap (ports first) count ∙ ports_first first (end - (first + 1))

-- one that does not pass is passed over
pub passed : (test : ℕ → Bool) (first end : ℕ) → first < end → test first ≡ false → find test (ports first (end - first)) ≡ find test (ports (first + 1) (end - (first + 1)))
passed test first end below fails = ap (find test) (ports_before first end below) ∙ ap (λ b. cond b (Some first) (find test (ports (first + 1) (end - (first + 1))))) fails

-- one that does is found
pub found : (test : ℕ → Bool) (first end : ℕ) → first < end → test first ≡ true → find test (ports first (end - first)) ≡ Some first
found test first end below passes = ap (find test) (ports_before first end below) ∙ ap (λ b. cond b (Some first) (find test (ports (first + 1) (end - (first + 1))))) passes

-- at the end there is none
pub none_left : (test : ℕ → Bool) (first end : ℕ) → end ≤ first → find test (ports first (end - first)) ≡ None
none_left test first end over =
    let none : end - first ≡ 0 = omega (arith, over) in
    ap (λ n. find test (ports first n)) none ∙ ap (find test) (no_ports first)

-- a connection's own port is chosen where it is free
pub own_chosen : (conns : List Entry) (zone : Zone) (t : Tuple) (external : Ip4) → is_free conns zone external t t.sport ≡ true → Some t.sport ≡ snat_port conns zone t external
own_chosen conns zone t external own =
    sym (ap (λ (free : Bool). if free then Some t.sport else (if (t.proto == 6) || (t.proto == 17) then find (is_free conns zone external t) (ports 1024 (65536 - 1024)) else None)) own)
