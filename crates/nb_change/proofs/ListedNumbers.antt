-- Records that list a number, and that leave it one by one.
use Rattle.std.proofs.Common.{◌≡◌, ◌+◌, ◌<◌, Bool, true, false, cond, List, [], ◌∷◌, ◌++◌, map, Some, None, arith, refl, sym, ap, ◌∙◌, subst, length}
use Rattle.std.proofs.lemmas.List.{map-append, length-append}
use Rattle.std.proofs.lemmas.List.Elements.{filter-append}
use Rattle.std.specs.Prelude.{find, filter}
use Rattle.nv_base.specs.declared.object.ObjId.{ObjId}
use Rattle.nb_records.specs.declared.router.Router.{Router}
use Rattle.nb_records.specs.declared.sets.Group.{Group}
use Rattle.nb_records.specs.declared.switch.Switch.{Switch}
use Rattle.nb_model.specs.Belongs.{is_among}
use Rattle.nb_model.specs.Effect.{each_where, without}
use Rattle.nb_model.specs.Network.{Network, same}
use Rattle.nb_model.proofs.RecordLists.{found_holds}
use Rattle.nv_table.specs.Table.{NumbersRise, with_exchanged}
use Rattle.nv_table.proofs.Undone.{rise_exchanged}
use Rattle.nb_store.proofs.PlacedRecords.{IsPlaced, placed, none_without, changed_at}
use Rattle.nb_change.specs.inner.Kinds.{IsList}
use Rattle.nb_change.proofs.Removed.{without_twice, none_listed, gone, either_same}

-- a list of numbers in each record
pub record Listing {R : Type 0} (number : R → ObjId) (listed : R → List ObjId) (with_listed : List ObjId → R → R) : Type 0 where
  pub keeps : (all : List ObjId) (r : R) → number (with_listed all r) ≡ number r
  pub read : (all : List ObjId) (r : R) → listed (with_listed all r) ≡ all
  pub again : (all before : List ObjId) (r : R) → with_listed all (with_listed before r) ≡ with_listed all r
  pub same : (r : R) → with_listed (listed r) r ≡ r

module _ {R : Type 0} {number : R → ObjId} {listed : R → List ObjId} {with_listed : List ObjId → R → R} (law : Listing number listed with_listed) (n : ObjId) where
  -- the record without the number
  abbrev left_by : R → R
  left_by r = with_listed (without (same n) (listed r)) r

  abbrev lists : R → Bool
  lists r = is_among n (listed r)

  left_twice : (r : R) → left_by (left_by r) ≡ left_by r
  left_twice r =
      ap (λ all. with_listed (without (same n) all) (left_by r)) (law.read (without (same n) (listed r)) r)
      ∙ law.again _ _ r
      ∙ ap (λ all. with_listed all r) (without_twice (same n) (same n) (same n) (λ m. either_same (same n m)) (listed r))

  lists_no_more : (r : R) → lists (left_by r) ≡ false
  lists_no_more r = ap (is_among n) (law.read (without (same n) (listed r)) r) ∙ gone (same n) (listed r)

  -- no record lists the number
  none_leave : (rs : List R) → None ≡ find lists rs → map left_by rs ≡ rs
  none_leave [] none = refl
  none_leave (r ∷ rs) none = by (lists r) refl none (none_leave rs)
    where
      by : (b : Bool) → lists r ≡ b → None ≡ cond b (Some r) (find lists rs) → (None ≡ find lists rs → map left_by rs ≡ rs) → map left_by (r ∷ rs) ≡ r ∷ rs
      by true e f more = absurd (cc)
      by false e f more =
          ap (λ all. with_listed all r ∷ map left_by rs) (none_without (same n) (listed r) (none_listed (same n) (listed r) e))
          ∙ ap (λ x. x ∷ map left_by rs) (law.same r)
          ∙ ap (λ l. r ∷ l) (more f)

  module _ (rs : List R) (x : R) (found : Some x ≡ find lists rs) (rise : NumbersRise number rs) where
    place : IsPlaced number lists x rs
    place = placed number lists x rs (sym found) rise

    left : with_exchanged number (left_by x) rs ≡ place.before ++ left_by x ∷ place.after
    left = place.exchanged (left_by x) (law.keeps _ x)

    still_leaving : map left_by (with_exchanged number (left_by x) rs) ≡ map left_by rs
    still_leaving =
        ap (map left_by) left
        ∙ map-append left_by place.before (left_by x ∷ place.after)
        ∙ ap (λ r. map left_by place.before ++ r ∷ map left_by place.after) (left_twice x)
        ∙ sym (map-append left_by place.before (x ∷ place.after))
        ∙ ap (map left_by) (sym place.whole)

    -- one record less lists the number
    fewer_list : length (filter lists (with_exchanged number (left_by x) rs)) < length (filter lists rs)
    fewer_list =
        let now : length (filter lists (with_exchanged number (left_by x) rs)) ≡ length (filter lists place.before) + length (filter lists place.after) =
        ap (λ l. length (filter lists l)) left ∙ ap length (filter-append lists place.before (left_by x ∷ place.after)) ∙ length-append (filter lists place.before) _
        ∙ ap (λ b. length (filter lists place.before) + length (cond b (left_by x ∷ filter lists place.after) (filter lists place.after))) (lists_no_more x) in
        let before : length (filter lists rs) ≡ length (filter lists place.before) + length (x ∷ filter lists place.after) =
        ap (λ l. length (filter lists l)) place.whole ∙ ap length (filter-append lists place.before (x ∷ place.after)) ∙ length-append (filter lists place.before) _
        ∙ ap (λ b. length (filter lists place.before) + length (cond b (x ∷ filter lists place.after) (filter lists place.after))) (found_holds lists rs x (sym found)) in
        let more : length (x ∷ filter lists place.after) ≡ length (filter lists place.after) + 1 = omega arith in
        omega (arith, now, before, more)

  -- The same of a network.
  module _ {list : Network → List R} {with_list : List R → Network → Network} (part : IsList list with_list) where
    pub all_left : (net : Network) → None ≡ find lists (list net) → net ≡ with_list (map left_by (list net)) net
    all_left net none = sym (ap (λ (l : List R). with_list l net) (none_leave (list net) none) ∙ part.same net)

    module _ (net now : Network) (x : R) (found : Some x ≡ find lists (list net)) (rise : NumbersRise number (list net))
        (now_is : now ≡ with_list (each_where (λ r. same (number x) (number r)) left_by (list net)) net) where
      left_now : now ≡ with_list (with_exchanged number (left_by x) (list net)) net
      left_now = now_is ∙ ap (λ (l : List R). with_list l net) (sym (changed_at number lists left_by x (list net) (sym found) rise (law.keeps _ x)))

      left_list : list now ≡ with_exchanged number (left_by x) (list net)
      left_list = ap list left_now ∙ part.read _ net

      pub left_smaller : length (filter lists (list now)) < length (filter lists (list net))
      left_smaller = subst (λ (l : List R). length (filter lists l) < length (filter lists (list net))) (sym left_list) (fewer_list (list net) x found rise)

      pub left_rise : NumbersRise number (list now)
      left_rise = subst (NumbersRise number) (sym left_list) (rise_exchanged number (left_by x) (list net) rise)

      pub left_same : with_list (map left_by (list now)) now ≡ with_list (map left_by (list net)) net
      left_same =
          ap (λ (it : Network). with_list (map left_by (list now)) it) left_now
          ∙ part.again _ _ net
          ∙ ap (λ (l : List R). with_list l net) (ap (map left_by) left_list ∙ still_leaving (list net) x found rise)

-- The three lists whose records list numbers.

pub of_switches : IsList (λ net. net.switches) (λ all net. record net { switches = all })
of_switches = record { read = λ all net. refl; again = λ all before net. refl; same = λ net. refl }

pub of_routers : IsList (λ net. net.routers) (λ all net. record net { routers = all })
of_routers = record { read = λ all net. refl; again = λ all before net. refl; same = λ net. refl }

pub of_groups : IsList (λ net. net.groups) (λ all net. record net { groups = all })
of_groups = record { read = λ all net. refl; again = λ all before net. refl; same = λ net. refl }

pub in_switch : Listing (λ (x : Switch). x.id) (λ x. x.lbs) (λ all x. record x { lbs = all })
in_switch = record { keeps = λ all x. refl; read = λ all x. refl; again = λ all before x. refl; same = λ x. refl }

pub in_router : Listing (λ (x : Router). x.id) (λ x. x.lbs) (λ all x. record x { lbs = all })
in_router = record { keeps = λ all x. refl; read = λ all x. refl; again = λ all before x. refl; same = λ x. refl }

pub in_group : Listing (λ (x : Group). x.id) (λ x. x.ports) (λ all x. record x { ports = all })
in_group = record { keeps = λ all x. refl; read = λ all x. refl; again = λ all before x. refl; same = λ x. refl }
