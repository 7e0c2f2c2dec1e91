-- By how much the VIPs of datapaths rise.
use Rattle.std.proofs.Common.{◌≡◌, ℕ, ◌+◌, ◌*◌, ◌<◌, ◌≤◌, ⊎_elim, Bool, true, false, cond, not, ◌||◌, List, [], ◌∷◌, ◌++◌, map, nat_lt, Option, Some, None, arith, refl, sym, ap, ◌∙◌, subst, length}
use Rattle.std.proofs.lemmas.Bool.{and_parts, false≢true, ltb-true, ne_eqb, not-true, or_cases}
use Rattle.std.specs.Prelude.{IsTrue, filter}
use Rattle.std.specs.List.{list_all, AllByRecursion}
use Rattle.std.specs.Str.{bytes_eq}
use Rattle.nv_base.specs.declared.object.ObjId.{ObjId}
use Rattle.nb_records.specs.declared.balancer.Lb.{Lb}
use Rattle.nb_records.specs.declared.refusal.Kind.TheVariants as kind
use Rattle.nb_records.specs.declared.balancer.Vip.{Vip}
use Rattle.nb_records.specs.declared.router.Router.{Router}
use Rattle.nb_records.specs.declared.switch.Switch.{Switch}
use Rattle.nb_model.specs.Amounts.{amount, total, vips_of}
use Rattle.nb_model.specs.Belongs.{is_among}
use Rattle.nb_model.specs.Effect.{each_where, set_router_lbs, set_switch_lbs, with_number}
use Rattle.nb_model.specs.Network.{Network, next_number, same}
use Rattle.nb_model.specs.Readable.{are_apart}
use Rattle.nb_model.specs.Sound.{AreNumbered, Refer, lb_ids}
use Rattle.nb_model.proofs.Alike.{names_sym, same_names}
use Rattle.nb_model.proofs.AnyOf.{none_passes}
use Rattle.nb_model.proofs.Kept.{is_used}
use Rattle.nb_model.proofs.Lists.{same_is}
use Rattle.nb_model.proofs.Numbered.{are_used}
use Rattle.nb_model.proofs.Totals.{le_equal, kept_push, sums, total_cons, total_le}
use Rattle.nv_table.specs.Table.{NumbersRise, record_of}
use Rattle.nb_limits.specs.inner.Attached.{attached, attached_vips, switches_with, routers_with}
use Rattle.nb_limits.specs.inner.KnownAfter.{own_vips}
use Rattle.nb_limits.proofs.Attached.{all_attached}
use Rattle.nb_limits.proofs.Counted.{among_with, found_list, of_number}
use Rattle.nb_limits.proofs.Every.{every_as}
use Rattle.nb_limits.proofs.Rest.{same_kept}
use Rattle.nb_limits.proofs.Swapped.{total_plus}

-- A new load balancer has the next number, which is attached nowhere.

below_next : (next : ℕ) (n : ObjId) (ids : List ObjId) → IsTrue (list_all (is_used next) ids) → IsTrue (is_among n ids) → n.0 < next
below_next next n [] below there = absurd (false≢true there)
below_next next n (x ∷ xs) below there =
    let parts = and_parts (is_used next x) (list_all (is_used next) xs) below in
    let low = and_parts (nat_lt 0 x.0) (nat_lt x.0 next) parts.0 in
    ⊎_elim (λ at. subst (λ (m : ObjId). m.0 < next) (sym (same_is n x at)) (ltb-true x.0 next low.1)) (λ later. below_next next n xs parts.1 later) (or_cases (same n x) (is_among n xs) there)

next_is_not : (next : ℕ) (n : ObjId) → n.0 < next → same (record { 0 = next }) n ≡ false
next_is_not next n low = ne_eqb next n.0 (λ is. absurd (omega arith))

module _ (net : Network) (numbered : AreNumbered net) (refers : Refer net) (new : Lb) (is_new : new.id ≡ next_number net) where
  abbrev longer : Network
  longer = record net { lbs = net.lbs ++ new ∷ []; next = net.next + 1 }

  abbrev are_lbs : List ObjId → Bool
  are_lbs numbers = list_all (λ n. is_among n (lb_ids net)) numbers

  not_attached : (numbers : List ObjId) → IsTrue (are_lbs numbers) → is_among new.id numbers ≡ false
  not_attached numbers all =
      let used = are_used net numbered.below in
      ap (λ (n : ObjId). is_among n numbers) is_new
      ∙ none_passes (λ n. is_among n (lb_ids net)) (same (next_number net)) numbers all (λ n there. next_is_not net.next n (below_next net.next n (lb_ids net) used.lbs there))

  no_more_vips : (numbers : List ObjId) → IsTrue (are_lbs numbers) → vips_of longer numbers ≤ vips_of net numbers
  no_more_vips numbers all =
      le_equal (vips_of longer numbers) (vips_of net numbers)
      (ap (total (λ (lb : Lb). length lb.vips)) (kept_push (λ (lb : Lb). is_among lb.id numbers) net.lbs new (not_attached numbers all)))

  pub new_alone : amount longer kind.VipDatapath ≤ amount net kind.VipDatapath
  new_alone =
      sums (total (λ (s : Switch). vips_of longer s.lbs) net.switches) (total (λ (r : Router). vips_of longer r.lbs) net.routers)
      (total (λ (s : Switch). vips_of net s.lbs) net.switches) (total (λ (r : Router). vips_of net r.lbs) net.routers)
      (total_le (λ (s : Switch). vips_of longer s.lbs) (λ s. vips_of net s.lbs) (λ s. are_lbs s.lbs) net.switches refers.switches (λ s all. no_more_vips s.lbs all))
      (total_le (λ (r : Router). vips_of longer r.lbs) (λ r. vips_of net r.lbs) (λ r. are_lbs r.lbs) net.routers refers.routers (λ r all. no_more_vips r.lbs all))

-- A load balancer more of one datapath.

both_more : (v w a b c m n : ℕ) → v ≡ m + a → w ≡ m + b → n ≡ m + c → a ≤ b + c → v ≤ w + n
both_more v w a b c m n e f g low = omega (arith, e, f, g, low)

first_more : (v w a b c m : ℕ) → v ≡ m + a → w ≡ m + b → a ≤ b + c → v ≤ w + c
first_more v w a b c m e f low = omega (arith, e, f, low)

second_more : (v n a b c m : ℕ) → v ≡ m + a → n ≡ m + c → a ≤ b + c → v ≤ b + n
second_more v n a b c m e g low = omega (arith, e, g, low)

-- what passes one of two tests is no more than what passes either
either_total : {X : Type 0} (f : X → ℕ) (p q : X → Bool) (xs : List X) → total f (filter (λ x. p x || q x) xs) ≤ total f (filter p xs) + total f (filter q xs)
either_total f p q [] = omega arith
either_total {X} f p q (x ∷ xs) = by (p x) (q x) (either_total f p q xs)
  where
    some : List X
    some = filter (λ y. p y || q y) xs

    ones : List X
    ones = filter p xs

    others : List X
    others = filter q xs

    by : (c d : Bool) → total f some ≤ total f ones + total f others → total f (cond (c || d) (x ∷ some) some) ≤ total f (cond c (x ∷ ones) ones) + total f (cond d (x ∷ others) others)
    by true true low =
        both_more (total f (x ∷ some)) (total f (x ∷ ones)) (total f some) (total f ones) (total f others) (f x) (total f (x ∷ others)) (total_cons f x some) (total_cons f x ones) (total_cons f x others) low
    by true false low = first_more (total f (x ∷ some)) (total f (x ∷ ones)) (total f some) (total f ones) (total f others) (f x) (total_cons f x some) (total_cons f x ones) low
    by false true low = second_more (total f (x ∷ some)) (total f (x ∷ others)) (total f some) (total f ones) (total f others) (f x) (total_cons f x some) (total_cons f x others) low
    by false false low = low

vips_found : (lb : Option Lb) (n : ObjId) → total (λ (lb : Lb). length lb.vips) (found_list (λ (lb : Lb). lb.id) n lb) ≡ own_vips lb
vips_found None n = refl
vips_found (Some lb) n = total_cons (λ (own : Lb). length own.vips) lb [] ∙ alone (length lb.vips)
  where
    alone : (m : ℕ) → m + 0 ≡ m
    alone m = omega arith

vips_with : (net : Network) → NumbersRise (λ (lb : Lb). lb.id) net.lbs → (n : ObjId) (numbers : List ObjId)
    → vips_of net (with_number n numbers) ≤ vips_of net numbers + own_vips (record_of (λ (lb : Lb). lb.id) n net.lbs)
vips_with net rise n numbers =
    let all_of = ap (total (λ (lb : Lb). length lb.vips)) (same_kept (λ (lb : Lb). is_among lb.id (with_number n numbers)) (λ lb. is_among lb.id numbers || same lb.id n) net.lbs (λ lb. among_with lb.id n numbers)) in
    let one_of = ap (total (λ (lb : Lb). length lb.vips)) (of_number (λ (lb : Lb). lb.id) n net.lbs rise) ∙ vips_found (record_of (λ (lb : Lb). lb.id) n net.lbs) n in
    subst (λ m. vips_of net (with_number n numbers) ≤ vips_of net numbers + m) one_of
    (subst (λ m. m ≤ vips_of net numbers + total (λ (lb : Lb). length lb.vips) (filter (λ lb. same lb.id n) net.lbs)) (sym all_of)
    (either_total (λ (lb : Lb). length lb.vips) (λ lb. is_among lb.id numbers) (λ lb. same lb.id n) net.lbs))

-- what is changed at one name
module _ {X : Type 0} (name_of : X → List ℕ) (name : List ℕ) (change : X → X) where
  none_named : (own : List ℕ) (xs : List X) → own ≡ name → IsTrue (list_all (λ other. not (bytes_eq own other)) (map name_of xs)) → each_where (λ x. bytes_eq (name_of x) name) change xs ≡ xs
  none_named own [] is apart = refl
  none_named own (x ∷ xs) is apart =
      let parts = and_parts (not (bytes_eq own (name_of x))) (list_all (λ other. not (bytes_eq own other)) (map name_of xs)) apart in
      let other : bytes_eq (name_of x) name ≡ false = names_sym (name_of x) name ∙ ap (λ n. bytes_eq n (name_of x)) (sym is) ∙ not-true (bytes_eq own (name_of x)) parts.0 in
      ap (λ b. cond b (change x) x ∷ each_where (λ y. bytes_eq (name_of y) name) change xs) other ∙ ap (λ (ys : List X). x ∷ ys) (none_named own xs is parts.1)

  pub one_rises : (f : X → ℕ) (more : ℕ) (xs : List X) → IsTrue (are_apart bytes_eq (map name_of xs)) → AllByRecursion (λ x. IsTrue (bytes_eq (name_of x) name) → f (change x) ≤ f x + more) xs
      → total f (each_where (λ x. bytes_eq (name_of x) name) change xs) ≤ total f xs + more
  one_rises f more [] apart less = omega arith
  one_rises f more (x ∷ xs) apart less =
      let parts = and_parts (list_all (λ other. not (bytes_eq (name_of x) other)) (map name_of xs)) (are_apart bytes_eq (map name_of xs)) apart in
      by (bytes_eq (name_of x) name) refl less.0 parts.0 (one_rises f more xs parts.1 less.1)
    where
      changed : List X
      changed = each_where (λ y. bytes_eq (name_of y) name) change xs

      here : (v w a b t e : ℕ) → v ≡ b + e → w ≡ a + t → e ≡ t → b ≤ a + more → v ≤ w + more
      here v w a b t e left right same low = omega (arith, left, right, same, low)

      later : (v w a t e : ℕ) → v ≡ a + e → w ≡ a + t → e ≤ t + more → v ≤ w + more
      later v w a t e left right low = omega (arith, left, right, low)

      by : (b : Bool) → bytes_eq (name_of x) name ≡ b → (IsTrue b → f (change x) ≤ f x + more) → IsTrue (list_all (λ other. not (bytes_eq (name_of x) other)) (map name_of xs)) → total f changed ≤ total f xs + more
          → total f (cond b (change x) x ∷ changed) ≤ total f (x ∷ xs) + more
      by true is low differ rest =
          here (total f (change x ∷ changed)) (total f (x ∷ xs)) (f x) (f (change x)) (total f xs) (total f changed) (total_cons f (change x) changed) (total_cons f x xs)
          (ap (total f) (none_named (name_of x) xs (same_names (name_of x) name is) differ)) (low refl)
      by false is low differ rest = later (total f (x ∷ changed)) (total f (x ∷ xs)) (f x) (total f xs) (total f changed) (total_cons f x changed) (total_cons f x xs) rest

  pub one_total : (f : X → ℕ) (more : ℕ) → ((x : X) → f (change x) ≤ f x + more) → (xs : List X) → IsTrue (are_apart bytes_eq (map name_of xs))
      → total f (each_where (λ x. bytes_eq (name_of x) name) change xs) ≤ total f xs + more
  one_total f more less xs apart = one_rises f more xs apart (each xs)
    where
      each : (l : List X) → AllByRecursion (λ x. IsTrue (bytes_eq (name_of x) name) → f (change x) ≤ f x + more) l
      each [] = tt
      each (x ∷ l) = (λ is. less x, each l)

-- A VIP more of one load balancer, once for each datapath that has it.

attached_one : (net : Network) (n : ObjId) (each : ℕ) → attached net n (each + 1) ≡ attached net n each + attached net n 1
attached_one net n each =
    parts (switches_with net n (each + 1)) (switches_with net n each) (switches_with net n 1) (routers_with net n (each + 1)) (routers_with net n each) (routers_with net n 1)
    (total_plus (λ (s : Switch). each) (λ s. 1) (filter (λ s. is_among n s.lbs) net.switches)) (total_plus (λ (r : Router). each) (λ r. 1) (filter (λ r. is_among n r.lbs) net.routers))
  where
    parts : (a b c d e f : ℕ) → a ≡ b + c → d ≡ e + f → a + d ≡ (b + e) + (c + f)
    parts a b c d e f g h = omega (arith, g, h)

module _ (net : Network) (name : List ℕ) (lb : Lb) (vip : Vip) (apart : IsTrue (are_apart bytes_eq (map (λ (own : Lb). own.name) net.lbs)))
    (only : AllByRecursion (λ (own : Lb). IsTrue (bytes_eq own.name name) → own ≡ lb) net.lbs) where
  abbrev longer_lb : Lb → Lb
  longer_lb own = record own { vips = own.vips ++ vip ∷ [] }

  pub vip_more : amount (record net { lbs = each_where (λ own. bytes_eq own.name name) longer_lb net.lbs }) kind.VipDatapath ≤ amount net kind.VipDatapath + attached net lb.id 1 * 1
  vip_more =
      once_more (amount (record net { lbs = each_where (λ own. bytes_eq own.name name) longer_lb net.lbs }) kind.VipDatapath) (total (attached_vips net) (each_where (λ own. bytes_eq own.name name) longer_lb net.lbs))
      (total (attached_vips net) net.lbs) (amount net kind.VipDatapath) (attached net lb.id 1)
      (sym (all_attached (record net { lbs = each_where (λ own. bytes_eq own.name name) longer_lb net.lbs }))) (all_attached net)
      (one_rises (λ (own : Lb). own.name) name longer_lb (attached_vips net) (attached net lb.id 1) net.lbs apart
      (every_as (λ (own : Lb). IsTrue (bytes_eq own.name name) → own ≡ lb) (λ own. IsTrue (bytes_eq own.name name) → attached_vips net (longer_lb own) ≤ attached_vips net own + attached net lb.id 1) net.lbs
      (λ own is named. subst (λ (l : Lb). attached_vips net (longer_lb l) ≤ attached_vips net l + attached net lb.id 1) (sym (is named)) one_more) only))
    where
      last : (vips : List Vip) → length (vips ++ vip ∷ []) ≡ length vips + 1
      last [] = refl
      last (v ∷ vips) = let rest = last vips in omega (arith, rest)

      one_more : attached_vips net (longer_lb lb) ≤ attached_vips net lb + attached net lb.id 1
      one_more = le_equal (attached_vips net (longer_lb lb)) (attached_vips net lb + attached net lb.id 1) (ap (attached net lb.id) (last lb.vips) ∙ attached_one net lb.id (length lb.vips))

      once_more : (a b c d n : ℕ) → a ≡ b → c ≡ d → b ≤ c + n → a ≤ d + n * 1
      once_more a b c d n e f low = omega (arith, e, f, low)

pub apart_last : {K : Type 0} (test : K → K → Bool) (xs ys : List K) → IsTrue (are_apart test (xs ++ ys)) → IsTrue (are_apart test ys)
apart_last test [] ys apart = apart
apart_last test (x ∷ xs) ys apart = apart_last test xs ys (and_parts (list_all (λ y. not (test x y)) (xs ++ ys)) (are_apart test (xs ++ ys)) apart).1

first_up : (a b c m n : ℕ) → a ≤ b + m → n ≡ m → a + c ≤ (b + c) + n * 1
first_up a b c m n low same = omega (arith, low, same)

second_up : (a b c m n : ℕ) → a ≤ c + m → n ≡ m → b + a ≤ (b + c) + n * 1
second_up a b c m n low same = omega (arith, low, same)

module _ (net : Network) (rise : NumbersRise (λ (lb : Lb). lb.id) net.lbs) (name : List ℕ) (n : ObjId) where
  abbrev more : ℕ
  more = own_vips (record_of (λ (lb : Lb). lb.id) n net.lbs)

  pub switch_more : IsTrue (are_apart bytes_eq (map (λ (s : Switch). s.name) net.switches)) → amount (set_switch_lbs net name (with_number n)) kind.VipDatapath ≤ amount net kind.VipDatapath + more * 1
  switch_more apart =
      first_up (total (λ (s : Switch). vips_of net s.lbs) (each_where (λ (s : Switch). bytes_eq s.name name) (λ s. record s { lbs = with_number n s.lbs }) net.switches))
      (total (λ (s : Switch). vips_of net s.lbs) net.switches) (total (λ (r : Router). vips_of net r.lbs) net.routers) more more
      (one_total (λ (s : Switch). s.name) name (λ s. record s { lbs = with_number n s.lbs }) (λ s. vips_of net s.lbs) more (λ s. vips_with net rise n s.lbs) net.switches apart) refl

  pub router_more : IsTrue (are_apart bytes_eq (map (λ (r : Router). r.name) net.routers)) → amount (set_router_lbs net name (with_number n)) kind.VipDatapath ≤ amount net kind.VipDatapath + more * 1
  router_more apart =
      second_up (total (λ (r : Router). vips_of net r.lbs) (each_where (λ (r : Router). bytes_eq r.name name) (λ r. record r { lbs = with_number n r.lbs }) net.routers))
      (total (λ (s : Switch). vips_of net s.lbs) net.switches) (total (λ (r : Router). vips_of net r.lbs) net.routers) more more
      (one_total (λ (r : Router). r.name) name (λ r. record r { lbs = with_number n r.lbs }) (λ r. vips_of net r.lbs) more (λ r. vips_with net rise n r.lbs) net.routers apart) refl
