-- The networks that lines leave are sound, and the numbers of their objects are no more than the bytes of the lines.
use Rattle.std.proofs.Common.{◌≡◌, ℕ, ◌+◌, ◌<◌, ◌≤◌, ◌⊎◌, inl, inr, Option, Some, None, List, [], ◌∷◌, length, sum_by, IfOk, refl, arith}
use Rattle.std.specs.List.{AllByRecursion}
use Rattle.std.proofs.lemmas.List.Sums.{sum_by-cons}
use Rattle.std.proofs.lemmas.Result.{IfOk-at_ok, IfOk-weaker}
use Rattle.nb_records.specs.declared.edit.Edit.{Edit}
use Rattle.nb_records.specs.declared.refusal.Refusal.{Refusal}
use Rattle.nb_model.specs.Effect.{effect}
use Rattle.nb_model.specs.Network.{Network, empty_network}
use Rattle.nb_model.specs.Readable.{IsReadable}
use Rattle.nb_model.specs.Sound.{IsSound}
use Rattle.nb_model.specs.Tests.{refusal}
use Rattle.nb_model.specs.Transactions.{unless, applied, edited}
use Rattle.nb_model.proofs.Drawn.{edit_draws}
use Rattle.nb_model.proofs.Reading.{goes_on}
use Rattle.nb_model.proofs.Whole.{edit_sound}
use Rattle.nb_cmds.proofs.ReadableLines.{line_readable}
use Rattle.nb_cmds.proofs.ShortLines.{line_short}
use Rattle.tr_walk.specs.Refined.{IsRefined}
use Rattle.tr_walk.proofs.Refinement.{is_refined}
use Rattle.nv_reply.specs.Reply.{reply, session_after}
use Rattle.nv_reply.specs.Session.{Session, new_session}
use Rattle.nv_reply.proofs.Keeping.{reply_keeps}
use Rattle.nv_base.specs.Object.{number_limit}

-- an edit draws a number, or none
one_more : (net : Network) (edit : Edit) → (effect net edit).next ≤ net.next + 1
one_more net edit = by (edit_draws net edit)
  where
    by : ((effect net edit).next ≡ net.next) ⊎ ((effect net edit).next ≡ net.next + 1) → (effect net edit).next ≤ net.next + 1
    by (inl same) = omega (arith, same)
    by (inr more) = omega (arith, more)

not_refused : {X : Type 0} (P : X → Type 0) (refused : Option Refusal) (x : X) → (refused ≡ None → P x) → IfOk (unless refused x) P
not_refused P None x holds = holds refl
not_refused P (Some refusal) x holds = tt

-- edits draw so many
edited_next : (net : Network) (list : List Edit) → IfOk (edited net list) (λ after. after.next ≤ net.next + length list)
edited_next net [] = omega arith
edited_next net (edit ∷ list) =
    goes_on (λ one. one.next ≤ net.next + 1) (λ after. after.next ≤ net.next + length (edit ∷ list)) (applied net edit) (λ one. edited one list)
    (not_refused (λ one. one.next ≤ net.next + 1) (refusal net edit) (effect net edit) (λ passes. one_more net edit))
    (λ one drawn. IfOk-weaker (edited one list) (λ after. after.next ≤ one.next + length list) (λ after. after.next ≤ net.next + length (edit ∷ list)) (λ after more. omega (arith, drawn, more)) (edited_next one list))

-- what is left after an edit
record IsLeft (next : ℕ) (net : Network) : Type 0 where
  pub sound : IsSound net
  pub drawn : net.next ≤ next + 1

-- edits leave a sound network sound
edited_sound : (net : Network) (list : List Edit) → IsSound net → AllByRecursion IsReadable list → net.next + length list < number_limit → IfOk (edited net list) IsSound
edited_sound net [] sound readable room = sound
edited_sound net (edit ∷ list) sound readable room =
    goes_on (IsLeft net.next) IsSound (applied net edit) (λ one. edited one list)
    (not_refused (IsLeft net.next) (refusal net edit) (effect net edit)
    (λ passes. record { sound = edit_sound net edit sound readable.0 (omega (arith, one_more net edit, room)) passes; drawn = one_more net edit }))
    (λ one left. edited_sound one list left.sound readable.1 (omega (arith, left.drawn, room)))

-- a line draws no more numbers than it has bytes
pub reply_next : (session : Session) (line : List ℕ) → (reply session line).after.network.next ≤ session.network.next + length line
reply_next session line =
    reply_keeps (λ after. after.next ≤ session.network.next + length line) session line (omega arith) (λ list net said done.
    omega (arith, line_short line list said, IfOk-at_ok (λ (after : Network). after.next ≤ session.network.next + length list) done (edited_next session.network list)))

pub reply_sound : (session : Session) (line : List ℕ) → IsSound session.network → session.network.next + length line < number_limit → IsSound (reply session line).after.network
reply_sound session line sound room =
    reply_keeps IsSound session line sound (λ list net said done.
    IfOk-at_ok IsSound done (edited_sound session.network list sound (line_readable line list said) (omega (arith, line_short line list said, room))))

lines_sound : (session : Session) (lines : List (List ℕ)) → IsSound session.network → session.network.next + sum_by length lines < number_limit → IsSound (session_after session lines).network
lines_sound session [] sound room = sound
lines_sound session (line ∷ lines) sound room =
    let bytes = sum_by-cons length line lines in
    lines_sound (reply session line).after lines (reply_sound session line sound (omega (arith, bytes, room))) (omega (arith, bytes, room, reply_next session line))

pub empty_sound : IsSound empty_network
empty_sound = record {
  numbered = record {
    order = record {
      switches = refl;
      ports = refl;
      routers = refl;
      router_ports = refl;
      routes = refl;
      nats = refl;
      lbs = refl;
      acls = refl;
      sets = refl;
      groups = refl;
      bindings = refl;
    };
    apart = refl;
    below = refl;
    room = omega arith;
    from_one = omega arith;
  };
  named = record { datapaths = refl; ports = refl; lbs = refl; sets = refl; groups = refl };
  refers = record { ports = refl; router_ports = refl; routes = refl; nats = refl; switches = refl; routers = refl; acls = refl; groups = refl; bindings = refl };
  apart = record { routes = refl; nats = refl; acls = refl; bindings = refl; vips = refl; of_switches = refl; of_routers = refl; of_groups = refl };
  readable = record {
    switches = refl;
    ports = refl;
    routers = refl;
    router_ports = refl;
    routes = refl;
    nats = refl;
    lbs = refl;
    priorities = refl;
    matches = tt;
    sets = refl;
    groups = refl;
    bindings = refl;
  };
  within = refl;
}

-- each network that lines leave is sound, as long as the lines are no longer
pub sound_after : (hops : ℕ) (lines : List (List ℕ)) → 1 + sum_by length lines < number_limit → IsSound (session_after (new_session hops) lines).network
sound_after hops lines room = lines_sound (new_session hops) lines empty_sound room

-- the rows of each network that lines leave do what it means
pub each_refined : (hops : ℕ) (lines : List (List ℕ)) → 1 + sum_by length lines < number_limit → IsRefined (session_after (new_session hops) lines).network
each_refined hops lines room = is_refined (session_after (new_session hops) lines).network (sound_after hops lines room)
