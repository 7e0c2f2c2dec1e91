-- What the tests of an edit and the limits tell of the network after it.
use Rattle.std.proofs.Common.{◌≡◌, ◌+◌, ◌<◌, ◌≤◌, Some, None, Option, List, [], ◌∷◌, ◌++◌, inl, inr, arith, refl, sym, ap, ◌∙◌, subst}
use Rattle.std.specs.Prelude.{Err}
use Rattle.nb_records.specs.declared.edit.Edit.{Edit}
use Rattle.nb_records.specs.declared.refusal.Kind.{Kind}
use Rattle.nb_records.specs.declared.refusal.Refusal.{Refusal}
use Rattle.nb_model.specs.Amounts.{first_over, over_limit}
use Rattle.nb_model.specs.Effect.{effect}
use Rattle.nb_model.specs.Network.{Network}
use Rattle.nb_model.specs.Readable.{IsReadable}
use Rattle.nb_model.specs.Rises.{may_rise}
use Rattle.nb_model.specs.Sound.{IsSound}
use Rattle.nb_model.specs.Tests.{first_refusal, tests, refusal}
use Rattle.nb_model.specs.Transactions.{unless, applied}
use Rattle.nb_model.proofs.ApartEdits.{apart}
use Rattle.nb_model.proofs.Drawn.{edit_draws}
use Rattle.nb_model.proofs.EditsNumbered.{edit_numbered}
use Rattle.nb_model.proofs.EditsRefer.{edit_refers}
use Rattle.nb_model.proofs.NamedEdits.{named}
use Rattle.nb_model.proofs.ReadableEdits.{readable}
use Rattle.nb_model.proofs.RisesEdits.{edit_limit}
use Rattle.nb_words.specs.Fault.{IsFaultOf}
use Rattle.nb_words.specs.declared.fault.LineFault.{LineFault}
use Rattle.nb_words.specs.declared.fault.LineFault.TheVariants.{Refused, Memory}
use Rattle.nb_limits.specs.Limitless.{IsSoundButLimits}
use Rattle.nb_valid.specs.Tested.{tested}
use Rattle.nv_base.specs.Object.{number_limit}

-- where the earlier tests pass, the last one decides
last_decides : (earlier : List (Option Refusal)) (last : Option Refusal) → first_refusal earlier ≡ None → first_refusal (earlier ++ last ∷ []) ≡ last
last_decides [] None passes = refl
last_decides [] (Some refused) passes = refl
last_decides (None ∷ earlier) last passes = last_decides earlier last passes
last_decides (Some refused ∷ earlier) last passes = absurd (cc)

-- where an earlier test fails, it decides
earlier_decides : (earlier : List (Option Refusal)) (last : Option Refusal) (refused : Refusal) → first_refusal earlier ≡ Some refused → first_refusal (earlier ++ last ∷ []) ≡ Some refused
earlier_decides [] last refused fails = absurd (cc)
earlier_decides (None ∷ earlier) last refused fails = earlier_decides earlier last refused fails
earlier_decides (Some first ∷ earlier) last refused fails = fails

-- an error is the refusal
refused_by : {X : Type 0} (found : Option Refusal) (x : X) (refused : Refusal) → unless found x ≡ Err refused → found ≡ Some refused
refused_by None x refused is = absurd (cc)
refused_by (Some first) x refused is = cc

-- an edit draws at most one number
pub next_at_most : (net : Network) (edit : Edit) → (effect net edit).next ≤ net.next + 1
next_at_most net edit = elim (edit_draws net edit) [ inl same ↦ omega (arith, same) | inr more ↦ omega (arith, more) ]

-- an edit that no test refuses leaves the network sound but for its limits
pub sound_but_limits : (net : Network) (edit : Edit) → IsSound net → IsReadable edit → net.next + 1 < number_limit → first_refusal (tests net edit) ≡ None → IsSoundButLimits (effect net edit)
sound_but_limits net edit sound read room passes = record {
  numbered = edit_numbered net edit sound.numbered (omega (arith, next_at_most net edit));
  named = named net edit sound.named passes;
  refers = edit_refers net edit sound.refers;
  apart = apart net edit sound.named sound.apart passes;
  readable = readable net edit sound.numbered sound.readable read;
}

-- only the limits that it may break need be looked at
pub few_limits : (net after : Network) (edit : Edit) (kinds : List Kind) → IsSound net → kinds ≡ may_rise edit → after ≡ effect net edit → over_limit (effect net edit) ≡ first_over kinds after
few_limits net after edit kinds sound rise done = edit_limit net edit sound ∙ ap (λ some. first_over some (effect net edit)) (sym rise) ∙ ap (first_over kinds) (sym done)

-- where no test refuses it, these limits do, or nothing does
pub limits_decide : (net after : Network) (edit : Edit) (kinds : List Kind) → IsSound net → first_refusal (tests net edit) ≡ None → kinds ≡ may_rise edit → after ≡ effect net edit
    → refusal net edit ≡ first_over kinds after
limits_decide net after edit kinds sound passes rise done =
    last_decides (tests net edit) (over_limit (effect net edit)) passes ∙ few_limits net after edit kinds sound rise done

-- a sound network stays sound where the limits let the edit through
pub sound_after : (net new : Network) (edit : Edit) → IsSoundButLimits (effect net edit) → over_limit (effect net edit) ≡ None → new ≡ effect net edit → IsSound new
sound_after net new edit after within done = subst IsSound (sym done) (record {
  numbered = after.numbered;
  named = after.named;
  refers = after.refers;
  apart = after.apart;
  readable = after.readable;
  within = within;
})

-- what a test says is what the edit's refusal says
pub test_refuses : (net : Network) (edit : Edit) (fault : LineFault) → IsFaultOf (tested net edit) fault → IsFaultOf (applied net edit) fault
test_refuses net edit (Refused refused) is =
    ap (λ found. unless found (effect net edit)) (earlier_decides (tests net edit) (over_limit (effect net edit)) refused (refused_by (first_refusal (tests net edit)) edit refused is))
test_refuses net edit Memory is = tt

-- and so is what the limits say, where they decide
pub limits_refuse : (net after : Network) (edit : Edit) (found : Option Refusal) (fault : LineFault) → refusal net edit ≡ found → IsFaultOf (unless found after) fault → IsFaultOf (applied net edit) fault
limits_refuse net after edit found (Refused refused) decides is = ap (λ it. unless it (effect net edit)) (decides ∙ refused_by found after refused is)
limits_refuse net after edit found Memory decides is = tt
