-- What is known where no test refuses an edit.
use Rattle.std.proofs.Common.{◌≡◌, ℕ, Bool, true, false, not, ◌&&◌, ◌||◌, Some, None, Option, List, [], ◌∷◌, ◌++◌, refl, subst}
use Rattle.std.specs.Prelude.{is_some, option_map}
use Rattle.std.specs.Bool.{IsTrue}
use Rattle.std.specs.List.{list_all, list_any}
use Rattle.nv_base.specs.declared.object.ObjId.{ObjId}
use Rattle.nb_records.specs.declared.balancer.Frontend.{Frontend}
use Rattle.nb_records.specs.declared.balancer.Lb.{Lb}
use Rattle.nb_records.specs.declared.refusal.Refusal.{Refusal}
use Rattle.nb_model.specs.Belongs.{same_frontend}
use Rattle.nb_model.specs.Tests.{has_vip, first_refusal, wants_free, is_in_place, duplicate, duplicate_if}
use Rattle.nb_model.proofs.RecordLists.{none_any}

-- the first test does not fail
pub first_passes : (test : Option Refusal) (tests : List (Option Refusal)) → first_refusal (test ∷ tests) ≡ None → test ≡ None
first_passes None tests none = refl
first_passes (Some refusal) tests none = absurd (cc)

-- nor do the others
pub rest_passes : (test : Option Refusal) (tests : List (Option Refusal)) → first_refusal (test ∷ tests) ≡ None → first_refusal tests ≡ None
rest_passes None tests none = none
rest_passes (Some refusal) tests none = absurd (cc)

-- nor does the last
pub last_passes : (earlier : List (Option Refusal)) (last : Option Refusal) → first_refusal (earlier ++ last ∷ []) ≡ None → last ≡ None
last_passes [] last passes = first_passes last [] passes
last_passes (test ∷ earlier) last passes = last_passes earlier last (rest_passes test (earlier ++ last ∷ []) passes)

-- nor do those before the last
pub earlier_pass : (earlier : List (Option Refusal)) (last : Option Refusal) → first_refusal (earlier ++ last ∷ []) ≡ None → first_refusal earlier ≡ None
earlier_pass [] last passes = refl
earlier_pass (None ∷ earlier) last passes = earlier_pass earlier last passes
earlier_pass (Some refusal ∷ earlier) last passes = absurd (cc)

-- where the object is not there, its name is free in both kinds
pub free_second : {X Y : Type 0} (name : List ℕ) (may : Bool) (there : X → Bool) (found : Option X) (other : Option Y) → found ≡ None
    → wants_free name ((is_some found || is_some other) && not (is_in_place may there found)) ≡ None → other ≡ None
free_second name may there None None missing free = refl
free_second name may there None (Some y) missing free = absurd (cc)
free_second name may there (Some x) other missing free = absurd (cc)

pub free_first : {X Y : Type 0} (name : List ℕ) (may : Bool) (there : X → Bool) (found : Option X) (other : Option Y) → found ≡ None
    → wants_free name ((is_some other || is_some found) && not (is_in_place may there found)) ≡ None → other ≡ None
free_first name may there None None missing free = refl
free_first name may there None (Some y) missing free = absurd (cc)
free_first name may there (Some x) other missing free = absurd (cc)

-- a free name is nobody's
pub free : {X : Type 0} (name : List ℕ) (found : Option X) → wants_free name (is_some found) ≡ None → found ≡ None
free name None passes = refl
free name (Some x) passes = absurd (cc)

-- there is none like it
pub no_duplicate : {X : Type 0} (number : X → ObjId) (found : Option X) → duplicate (option_map number found) ≡ None → found ≡ None
no_duplicate number None passes = refl
no_duplicate number (Some x) passes = absurd (cc)

-- it is not there
none_there : (there : Bool) (number : ObjId) → duplicate_if there (Some number) ≡ None → there ≡ false
none_there true number passes = absurd (cc)
none_there false number passes = refl

-- the load balancer that is there has no such VIP
pub no_vip : (at : Frontend) (found : Option Lb) (lb : Lb) → found ≡ Some lb → duplicate_if (has_vip at found) (option_map (λ own. own.id) found) ≡ None
    → IsTrue (list_all (λ vip. not (same_frontend at vip.at)) lb.vips)
no_vip at None lb is passes = absurd (cc)
no_vip at (Some own) lb is passes =
    let same : own ≡ lb = cc in
    subst (λ it. IsTrue (list_all (λ vip. not (same_frontend at vip.at)) it.vips)) same (none_any (λ vip. same_frontend at vip.at) own.vips (none_there (list_any (λ vip. same_frontend at vip.at) own.vips) own.id passes))
