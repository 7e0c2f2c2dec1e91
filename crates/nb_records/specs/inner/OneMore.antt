-- Records of which one lists a number more than the other, by their tags.
use Rattle.std.proofs.Common.{◌≡◌, ◌<◌, ◌+◌, ◌-◌, ◌||◌, ◌∙◌, ℕ, suc, zero, Bool, true, false, not, List, [], ◌∷◌, ◌++◌, Option, Some, None, length, map, take, drop, get_or, slice_get, refl, ap, sym, arith, sub-one, option_map}
use Rattle.std.proofs.lemmas.Bool.{and_parts, false≢true}
use Rattle.std.proofs.lemmas.Bool.Decides.{nat_tests}
use Rattle.std.proofs.lemmas.List.{length-map, take-append-drop}
use Rattle.std.proofs.lemmas.List.Folds.{list_any-append}
use Rattle.std.proofs.lemmas.Option.{slice_get-map, slice_get-get_or, slice_get_within}
use Rattle.std.specs.Cmp.{unsigned_tied}
use Rattle.std.specs.Cmp.Lexicographic.{pointwise, same_text}
use Rattle.std.specs.List.{list_any}
use Rattle.std.specs.Ordering.{is_eq}
use Rattle.nv_base.specs.declared.object.ObjId.{ObjId}
use Rattle.nv_table.specs.Swapped.{IsLonger}
use Rattle.nv_table.specs.Table.{has_tag, order_at}
use Rattle.nb_records.specs.Longer.{same_number, has_more, lists_more, named_longer, switch_longer, router_longer, group_longer}
use Rattle.nb_records.specs.Tags.{tag_cmp, named_tags, switch_tags, router_tags, group_tags}
use Rattle.nb_records.specs.declared.router.Router.{Router}
use Rattle.nb_records.specs.declared.sets.Group.{Group}
use Rattle.nb_records.specs.declared.switch.Switch.{Switch}
use Rattle.nb_records.specs.declared.tag.Tag.{Tag}
use Rattle.nb_records.specs.declared.tag.Tag.TheVariants.{Named, Of, Names, Lists, Says, Has, HasMany}

-- a tag that is not the name is that of the object before its place
pub listed_at : (name : List ℕ) (listed : List ObjId) (place : ℕ) (d : ObjId) → (place ≡ 0 → ⊥) → place < suc (length (map Lists listed)) → slice_get (named_tags name listed) place ≡ Some (Lists (get_or listed (place - 1) d))
listed_at name listed zero d some within = absurd (some refl)
listed_at name listed (suc place) d some within =
    let sized : length (map Lists listed) ≡ length listed = simp length-map in
    let inside : place < length listed = omega arith in
    rw sub-one (slice_get-map Lists listed place ∙ ap (option_map Lists) (slice_get-get_or listed place d inside))

-- ---- lists of numbers

one_number : (a b : ObjId) → same_number a b ≡ true → a ≡ b
one_number a b e = ap (λ (k : ℕ). let n : ObjId = record { 0 = k } in n) (grind (arith, nat_tests, e))

same_lists : (xs ys : List ObjId) → pointwise same_number xs ys ≡ true → xs ≡ ys
same_lists [] [] e = refl
same_lists [] (y ∷ ys) e = absurd (false≢true e)
same_lists (x ∷ xs) [] e = absurd (false≢true e)
same_lists (x ∷ xs) (y ∷ ys) e =
    let it = and_parts _ _ e in
    ap (λ (n : ObjId). n ∷ xs) (one_number x y it.0) ∙ ap (λ l. y ∷ l) (same_lists xs ys it.1)

cut_at : (xs : List ObjId) (at : ℕ) (x : ObjId) → slice_get xs at ≡ Some x → xs ≡ take at xs ++ x ∷ drop (suc at) xs
cut_at [] at x e = absurd (cc)
cut_at (y ∷ xs) zero x e = let same : y ≡ x = cc in ap (λ (n : ObjId). n ∷ xs) same
cut_at (y ∷ xs) (suc at) x e = ap (λ l. y ∷ l) (cut_at xs at x e)

pub record IsMore (number : ObjId) (long short : List ObjId) (at : ℕ) : Type 0 where
  pub here : slice_get long at ≡ Some number
  pub front : take at long ≡ take at short
  pub back : drop (suc at) long ≡ drop at short
  pub new : list_any (same_number number) short ≡ false

pub is_more : (long short : List ObjId) (at : ℕ) → lists_more long short at ≡ true → (number : ObjId) × IsMore number long short at
is_more long short at e = by (slice_get long at) refl e
  where
    turned : (b : Bool) → not b ≡ true → b ≡ false
    turned true f = absurd (false≢true f)
    turned false f = refl

    by : (o : Option ObjId) → slice_get long at ≡ o → has_more o long short at ≡ true → (number : ObjId) × IsMore number long short at
    by None g f = absurd (false≢true f)
    by (Some number) g f =
        let next : at + 1 ≡ suc at = omega arith in
        let first = and_parts _ _ f in
        let second = and_parts _ _ first.1 in
        let third = and_parts _ _ second.1 in
        (number, record { here = g; front = same_lists _ _ second.0; back = ap (λ k. drop k long) (sym next) ∙ same_lists _ _ third.0; new = turned _ third.1 })

-- a test passes for one of the longer list exactly where it passes for the number or for one of the other list
pub any_more : (p : ObjId → Bool) (number : ObjId) (long short : List ObjId) (at : ℕ) → IsMore number long short at → list_any p long ≡ (p number || list_any p short)
any_more p number long short at m =
    ap (list_any p) (cut_at long at number m.here)
    ∙ list_any-append p (take at long) (number ∷ drop (suc at) long)
    ∙ ap (λ l. list_any p l || (p number || list_any p (drop (suc at) long))) m.front
    ∙ ap (λ l. list_any p (take at short) || (p number || list_any p l)) m.back
    ∙ turn (list_any p (take at short)) (p number) (list_any p (drop at short))
    ∙ ap (λ b. p number || b) (sym (list_any-append p (take at short) (drop at short)) ∙ ap (list_any p) (take-append-drop at short))
  where
    turn : (a b c : Bool) → (a || (b || c)) ≡ (b || (a || c))
    turn true true c = refl
    turn true false c = refl
    turn false b c = refl

-- ---- tags

any_listed : (q : Tag → Bool) (listed : List ObjId) → list_any q (map Lists listed) ≡ list_any (λ n. q (Lists n)) listed
any_listed q [] = refl
any_listed q (n ∷ listed) = ap (λ b. q (Lists n) || b) (any_listed q listed)

tied : (a b : ObjId) → is_eq (tag_cmp (Lists a) (Lists b)) ≡ same_number a b
tied a b = unsigned_tied a.0 b.0

turned : (n : ObjId) (tag : Tag) → is_eq (tag_cmp (Lists n) tag) ≡ is_eq (tag_cmp tag (Lists n))
turned n (Named name) = refl
turned n (Of owner) = refl
turned n (Names name) = refl
turned n (Lists m) = let e : same_number n m ≡ same_number m n = grind (arith, nat_tests) in tied n m ∙ e ∙ sym (tied m n)
turned n (Says owner rule) = refl
turned n (Has ip) = refl
turned n HasMany = refl

-- a tag that is tied with that of a number is it
is_it : (n : ObjId) (tag : Tag) → is_eq (tag_cmp (Lists n) tag) ≡ true → tag ≡ Lists n
is_it n (Named name) e = absurd (false≢true e)
is_it n (Of owner) e = absurd (false≢true e)
is_it n (Names name) e = absurd (false≢true e)
is_it n (Lists m) e = ap Lists (sym (one_number n m (sym (tied n m) ∙ e)))
is_it n (Says owner rule) e = absurd (false≢true e)
is_it n (Has ip) e = absurd (false≢true e)
is_it n HasMany e = absurd (false≢true e)

module _ {R : Type 0} (name : R → List ℕ) (listed : R → List ObjId) where
  abbrev tags_of : R → List Tag
  tags_of r = named_tags (name r) (listed r)

  more_tags : (a b : R) (at : ℕ) (number : ObjId) → name a ≡ name b → IsMore number (listed a) (listed b) at → IsLonger tags_of tag_cmp a b (suc at)
  more_tags a b at number same m =
      let here : slice_get (tags_of a) (suc at) ≡ Some (Lists number) = slice_get-map Lists (listed a) at ∙ ap (option_map Lists) m.here in
      record {
        within = slice_get_within (tags_of a) (suc at) (Lists number) here;
        more = λ tag.
            ap (λ l. is_eq (tag_cmp tag (Named (name a))) || l) (any_listed (λ t. is_eq (tag_cmp tag t)) (listed a) ∙ any_more (λ n. is_eq (tag_cmp tag (Lists n))) number (listed a) (listed b) at m)
            ∙ turn (is_eq (tag_cmp tag (Named (name a)))) (is_eq (tag_cmp tag (Lists number))) (list_any (λ n. is_eq (tag_cmp tag (Lists n))) (listed b))
            ∙ ap (λ c. c || (is_eq (tag_cmp tag (Named (name a))) || list_any (λ n. is_eq (tag_cmp tag (Lists n))) (listed b))) (sym (turned number tag) ∙ sym (ap (λ o. is_eq (order_at tag_cmp o tag)) here))
            ∙ ap (λ l. is_eq (order_at tag_cmp (slice_get (tags_of a) (suc at)) tag) || (is_eq (tag_cmp tag (Named (name a))) || l)) (sym (any_listed (λ t. is_eq (tag_cmp tag t)) (listed b)))
            ∙ ap (λ n. is_eq (order_at tag_cmp (slice_get (tags_of a) (suc at)) tag) || (is_eq (tag_cmp tag (Named n)) || list_any (λ t. is_eq (tag_cmp tag t)) (map Lists (listed b)))) same;
        apart = λ tag e.
            let it = is_it number tag (sym (ap (λ o. is_eq (order_at tag_cmp o tag)) here) ∙ e) in
            ap (λ t. has_tag tags_of (tag_cmp t) b) it
            ∙ any_listed (λ t. is_eq (tag_cmp (Lists number) t)) (listed b)
            ∙ ap (λ p. list_any p (listed b)) (λ i n. tied number n i)
            ∙ m.new;
      }
    where
      turn : (a b c : Bool) → (a || (b || c)) ≡ (b || (a || c))
      turn true true c = refl
      turn true false c = refl
      turn false b c = refl

  -- a record that is longer by its name and its list is so by its tags
  longer_tags : (a b : R) (place : ℕ) → named_longer (name a) (listed a) (name b) (listed b) place ≡ true → IsLonger tags_of tag_cmp a b place
  longer_tags a b zero e = absurd (false≢true e)
  longer_tags a b (suc at) e =
      let before : suc at - 1 ≡ at = omega arith in
      let it = and_parts _ _ (and_parts _ _ e).1 in
      let some = is_more (listed a) (listed b) at (ap (lists_more (listed a) (listed b)) (sym before) ∙ it.1) in
      more_tags a b at some.0 (same_text (name a) (name b) (sym it.0)) some.1

pub switch_is_longer : (a b : Switch) (place : ℕ) → switch_longer a b place ≡ true → IsLonger switch_tags tag_cmp a b place
switch_is_longer = longer_tags (λ s. s.name) (λ s. s.lbs)

pub router_is_longer : (a b : Router) (place : ℕ) → router_longer a b place ≡ true → IsLonger router_tags tag_cmp a b place
router_is_longer = longer_tags (λ r. r.name) (λ r. r.lbs)

pub group_is_longer : (a b : Group) (place : ℕ) → group_longer a b place ≡ true → IsLonger group_tags tag_cmp a b place
group_is_longer = longer_tags (λ g. g.name) (λ g. g.ports)
