-- What the bits of `ct_state` and the mark say of a packet in which its look-up is noted.
use Rattle.std.proofs.Common.{◌≡◌, Bool, true, false, refl}
use Rattle.std.specs.Prelude.{◌&&◌, not, Option, Some, None}
use Rattle.pkt_core.specs.Packet.{Values}
use Rattle.ct_core.specs.declared.look.Look.{Look}
use Rattle.ct_core.specs.declared.look.Look.TheVariants.{Invalid, New, Found}
use Rattle.ct_core.specs.declared.look.Side.{Side}
use Rattle.ct_core.specs.declared.look.Side.TheVariants.{Orig, Reply}
use Rattle.expr_core.specs.Lookup.{Lookup}
use Rattle.expr_core.specs.declared.predicate.Pred.TheVariants.{CtEst}
use Rattle.expr_eval.specs.MatchMeaning.{holds, negation_holds}
use Rattle.sb_model.specs.Make.{is_predicate}
use Rattle.net_rows.specs.Acls.{is_reply, is_shut_out}
use Rattle.ls_ct_laws.specs.Tracking.{IsNoted}

-- it is of a connection, and no ICMP error
abbrev pub is_est : Option Look → Bool
is_est (Some (Found place side false blocked)) = true
is_est _ = false

-- a reply, or an ICMP error
abbrev pub answers : Side → Bool → Bool
answers Orig related = related
answers Reply related = true

abbrev pub is_answer : Option Look → Bool
is_answer (Some (Found place side related blocked)) = answers side related
is_answer _ = false

-- it is invalid, or of a blocked connection and no new request
abbrev pub is_refused : Option Look → Bool
is_refused (Some Invalid) = true
is_refused (Some (Found place side related blocked)) = answers side related && blocked
is_refused _ = false

module _ (net : Lookup) (packet : Values) where
  pub est_is : (found : Option Look) → IsNoted found packet → holds net packet (is_predicate CtEst) ≡ is_est found
  est_is None is = rw is.flags refl
  est_is (Some Invalid) is = rw is.flags refl
  est_is (Some New) is = rw is.flags refl
  est_is (Some (Found place Orig true blocked)) is = rw is.flags refl
  est_is (Some (Found place Orig false blocked)) is = rw is.flags refl
  est_is (Some (Found place Reply true blocked)) is = rw is.flags refl
  est_is (Some (Found place Reply false blocked)) is = rw is.flags refl

  pub not_est_is : (found : Option Look) → IsNoted found packet → negation_holds net packet (is_predicate CtEst) ≡ not (is_est found)
  not_est_is None is = rw is.flags refl
  not_est_is (Some Invalid) is = rw is.flags refl
  not_est_is (Some New) is = rw is.flags refl
  not_est_is (Some (Found place Orig true blocked)) is = rw is.flags refl
  not_est_is (Some (Found place Orig false blocked)) is = rw is.flags refl
  not_est_is (Some (Found place Reply true blocked)) is = rw is.flags refl
  not_est_is (Some (Found place Reply false blocked)) is = rw is.flags refl

  pub answer_is : (found : Option Look) → IsNoted found packet → holds net packet is_reply ≡ is_answer found
  answer_is None is = rw is.flags refl
  answer_is (Some Invalid) is = rw is.flags refl
  answer_is (Some New) is = rw is.flags refl
  answer_is (Some (Found place Orig true blocked)) is = rw is.flags refl
  answer_is (Some (Found place Orig false blocked)) is = rw is.flags refl
  answer_is (Some (Found place Reply true blocked)) is = rw is.flags refl
  answer_is (Some (Found place Reply false blocked)) is = rw is.flags refl

  pub refused_is : (found : Option Look) → IsNoted found packet → holds net packet is_shut_out ≡ is_refused found
  refused_is None is = rw is.flags refl
  refused_is (Some Invalid) is = rw is.flags refl
  refused_is (Some New) is = rw is.flags refl
  refused_is (Some (Found place Orig true true)) is = rw (is.flags, is.mark) refl
  refused_is (Some (Found place Orig true false)) is = rw (is.flags, is.mark) refl
  refused_is (Some (Found place Orig false true)) is = rw is.flags refl
  refused_is (Some (Found place Orig false false)) is = rw is.flags refl
  refused_is (Some (Found place Reply true true)) is = rw (is.flags, is.mark) refl
  refused_is (Some (Found place Reply true false)) is = rw (is.flags, is.mark) refl
  refused_is (Some (Found place Reply false true)) is = rw (is.flags, is.mark) refl
  refused_is (Some (Found place Reply false false)) is = rw (is.flags, is.mark) refl
