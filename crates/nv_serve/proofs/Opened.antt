-- The lines that a run begins with are run one by one.
use Rattle.std.proofs.Common.{◌≡◌, ℕ, suc, ◌+◌, ◌-◌, ◌<◌, ◌≤◌, Option, Some, None, List, [], ◌∷◌, ◌++◌, length, map, sum_by, IfSome, refl, sym, ap, ◌∙◌, subst, arith}
use Rattle.std.specs.List.{flat_map, range_with_len}
use Rattle.std.proofs.lemmas.List.{map-append}
use Rattle.std.proofs.lemmas.List.Sums.{sum_by-append, sum_by-cons}
use Rattle.nv_base.specs.Object.{number_limit}
use Rattle.nv_generate.specs.Generated.{generated, line_text, lines_of_switch, most_ports, switch_count}
use Rattle.nv_generate.specs.declared.line.Line.TheVariants.{Router, Host}
use Rattle.nv_generate.proofs.Lengths.{generated_short}
use Rattle.nv_input.specs.Lines.{input_limit}
use Rattle.nv_input.proofs.StateAfter.{session_after-append}
use Rattle.nv_reply.specs.Reply.{reply, session_after}
use Rattle.nv_reply.specs.Session.{Session, new_session}
use Rattle.nv_reply.proofs.Reached.{reply_next}
use Rattle.nv_serve.specs.Output.{first_lines, session_from}

-- lines draw no more numbers than they have bytes
lines_next : (session : Session) (lines : List (List ℕ)) → (session_after session lines).network.next ≤ session.network.next + sum_by length lines
lines_next session [] = omega arith
lines_next session (line ∷ lines) =
    omega (arith, sum_by-cons length line lines, reply_next session line, lines_next (reply session line).after lines)

-- from the session that these lines leave, the rest leaves what all lines leave, and there are numbers for it
pub record IsRun (first session : Session) (all rest : List (List ℕ)) : Type 0 where
  pub same : session_after session rest ≡ session_after first all
  pub room : session.network.next + sum_by length rest < number_limit

pub run_none : (first : Session) (all : List (List ℕ)) → first.network.next + sum_by length all < number_limit → IsRun first first all all
run_none first all room = record { same = refl; room = room }

-- of lines by their number, all are left at the start
pub run_start : (first : Session) (lines : ℕ → List (List ℕ)) (count : ℕ) → first.network.next + sum_by length (lines count) < number_limit → IsRun first first (lines count) (lines (count - 0))
run_start first lines count room = subst (λ n. IsRun first first (lines count) (lines n)) (all_left count) (run_none first (lines count) room)
  where
    all_left : (n : ℕ) → n ≡ n - 0
    all_left n = omega arith

-- and none at the end
pub run_end : (first session : Session) (all : List (List ℕ)) (lines : ℕ → List (List ℕ)) (count : ℕ) → count ≡ 0 → lines 0 ≡ [] → IsRun first session all (lines count) → session ≡ session_after first all
run_end first session all lines count none empty so_far = ap (session_after session) (sym (ap lines none ∙ empty)) ∙ so_far.same

-- some of the rest are run
pub run_more : (first session after : Session) (all some rest : List (List ℕ)) → after ≡ session_after session some → IsRun first session all (some ++ rest) → IsRun first after all rest
run_more first session after all some rest is so_far = subst (λ s. IsRun first s all rest) (sym is) (record {
  same = sym (session_after-append session some rest) ∙ so_far.same;
  room = omega (arith, so_far.room, sum_by-append length some rest, lines_next session some);
})

-- there are numbers for some of the rest
pub room_for : (first session : Session) (all some rest : List (List ℕ)) → IsRun first session all (some ++ rest) → session.network.next + sum_by length some < number_limit
room_for first session all some rest so_far = omega (arith, so_far.room, sum_by-append length some rest)

-- the first of the rest is run
pub one_room : (first session : Session) (all : List (List ℕ)) (line : List ℕ) (rest : List (List ℕ)) → IsRun first session all (line ∷ rest) → session.network.next + length line < number_limit
one_room first session all line rest so_far = omega (arith, so_far.room, sum_by-cons length line rest)

pub one_more : (first session after : Session) (all : List (List ℕ)) (line : List ℕ) (rest : List (List ℕ)) → after ≡ (reply session line).after → IsRun first session all (line ∷ rest) → IsRun first after all rest
one_more first session after all line rest is so_far = run_more first session after all (line ∷ []) rest is so_far

-- the lines of so many switches, or hosts, from one on
abbrev pub switch_lines : ℕ → ℕ → List (List ℕ)
switch_lines k count = map line_text (flat_map lines_of_switch (range_with_len k count))

abbrev pub host_lines : ℕ → ℕ → List (List ℕ)
host_lines k count = map line_text (map Host (range_with_len k count))

one_less : (k count : ℕ) → k < count → count - k ≡ suc (count - (k + 1))
one_less k count low = omega (arith, low)

-- of switches, or hosts, of which some are left there is a next one
pub next_switch : (first session : Session) (all : List (List ℕ)) (k count : ℕ) → k < count → IsRun first session all (switch_lines k (count - k))
    → IsRun first session all (map line_text (lines_of_switch k) ++ switch_lines (k + 1) (count - (k + 1)))
next_switch first session all k count low so_far = subst (λ n. IsRun first session all (switch_lines k n)) (one_less k count low) so_far

pub next_host : (first session : Session) (all : List (List ℕ)) (k count : ℕ) → k < count → IsRun first session all (host_lines k (count - k))
    → IsRun first session all (line_text (Host k) ∷ host_lines (k + 1) (count - (k + 1)))
next_host first session all k count low so_far = subst (λ n. IsRun first session all (host_lines k n)) (one_less k count low) so_far

-- the lines of a generated network
pub generated_is : (ports : ℕ) → generated ports ≡ line_text Router ∷ (switch_lines 0 (switch_count ports) ++ host_lines 0 ports)
unfolding generated
generated_is ports =
    ap (λ lines. line_text Router ∷ lines) (map-append line_text (flat_map lines_of_switch (range_with_len 0 (switch_count ports))) (map Host (range_with_len 0 ports)))

-- there are numbers for them
pub generated_room : (ports : ℕ) (session : Session) → ports ≤ most_ports → session.network.next ≡ 1
    → IsRun session session (generated ports) (line_text Router ∷ (switch_lines 0 (switch_count ports) ++ host_lines 0 ports))
generated_room ports session few first =
    subst (IsRun session session (generated ports)) (generated_is ports) (run_none session (generated ports) (omega (arith, generated_short ports few, first)))

-- so many ports as arguments may ask for are no more than may be generated
pub few_ports : (ports : Option ℕ) → IfSome ports (λ n. (1 ≤ n) × (n ≤ 16000)) → IfSome ports (λ n. n ≤ most_ports)
few_ports None within = tt
few_ports (Some n) within = within.1

-- what a run begins with has fewer than 4,000,000 bytes
first_short : (ports : Option ℕ) → IfSome ports (λ n. n ≤ most_ports) → sum_by length (first_lines ports) < 4000000
first_short None few = omega arith
first_short (Some n) few = generated_short n few

pub first_room : (ports : Option ℕ) (bytes : ℕ) → IfSome ports (λ n. n ≤ most_ports) → bytes ≤ input_limit → 1 + (sum_by length (first_lines ports) + bytes) < number_limit
first_room ports bytes few within = omega (arith, first_short ports few, within)

-- there are numbers for an input
pub session_room : (hops : ℕ) (ports : Option ℕ) → IfSome ports (λ n. n ≤ most_ports) → (session_from hops ports).network.next + input_limit < number_limit
unfolding session_from
session_room hops ports few = omega (arith, first_short ports few, lines_next (new_session hops) (first_lines ports))

-- what holds of each session that lines leave, holds of those that lines leave after what a run begins with
pub after_first : (P : Session → Type 0) (hops : ℕ) (ports : Option ℕ) (before : List (List ℕ)) → P (session_after (new_session hops) (first_lines ports ++ before)) → P (session_after (session_from hops ports) before)
unfolding session_from
after_first P hops ports before = subst P (session_after-append (new_session hops) (first_lines ports) before)
