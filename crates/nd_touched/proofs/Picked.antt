-- What is not picked is not touched.
use Rattle.std.proofs.Common.{◌≡◌, ℕ, ◌+◌, ◌<◌, ◌++◌, length, take, get_or, arith, true, false, List, [], ◌∷◌, Option, None, Some, sym, ap, ◌∙◌, ◌⊎◌, inl, inr}
use Rattle.std.specs.List.{Contains, cons_option, filter_map}
use Rattle.std.proofs.lemmas.Bool.{false≢true}
use Rattle.std.proofs.lemmas.List.{take_more}
use Rattle.std.proofs.lemmas.List.Elements.{filter_map-append}
use Rattle.std.proofs.lemmas.Cmp.{tied_itself}
use Rattle.std.specs.Ordering.{is_eq, ordering_then}
use Rattle.std.specs.declared.cmp.Ordering.{Ordering}
use Rattle.nv_base.specs.declared.object.ObjId.{ObjId}
use Rattle.nb_store.specs.declared.step.Touch.{Touch}
use Rattle.nb_store.specs.Touched.{AreAlikeBut}
use Rattle.nv_table.proofs.Tagged.{any_there}
use Rattle.net_rows.proofs.Elements.{one_first, one_later, one_of, one_of_none}
use Rattle.nv_table.proofs.Undone.{number_total}
use Rattle.inc_feed.specs.Feed.{has_key}
use Rattle.net_units.specs.Keys.{by_number, by_numbers}

-- what is given for a member is among all that is given
given_there : {X Y : Type 0} (h : X → Option Y) (xs : List X) (x : X) (y : Y) → h x ≡ Some y → Contains xs x → Contains (filter_map h xs) y
given_there h [] x y is there = absurd (one_of_none x there)
given_there {X} {Y} h (z ∷ xs) x y is there = by (one_of z xs x there) (given_there h xs x y is)
  where
    first : (o : Option Y) → o ≡ Some y → Contains (cons_option o (filter_map h xs)) y
    first None e = absurd (cc)
    first (Some found) e = let same : found ≡ y = grind arith in one_first found (filter_map h xs) y same

    later : (o : Option Y) → Contains (filter_map h xs) y → Contains (cons_option o (filter_map h xs)) y
    later None rest = rest
    later (Some found) rest = one_later found (filter_map h xs) y rest

    by : (z ≡ x) ⊎ Contains xs x → (Contains xs x → Contains (filter_map h xs) y) → Contains (cons_option (h z) (filter_map h xs)) y
    by (inl same) rest = first (h z) (ap h same ∙ is)
    by (inr among) rest = later (h z) (rest among)

-- what is given for one element more
pub given_next : {X Y : Type 0} (h : X → Option Y) (xs : List X) (i : ℕ) (d : X) (made new : List Y) → new ≡ made ++ cons_option (h (get_or xs i d)) [] → made ≡ filter_map h (take i xs) → i < length xs → new ≡ filter_map h (take (i + 1) xs)
given_next h xs i d made new is before within =
    is ∙ ap (λ m. m ++ cons_option (h (get_or xs i d)) []) before ∙ sym (ap (filter_map h) (take_more xs i d within) ∙ filter_map-append h (take i xs) (get_or xs i d ∷ []))

module _ {K : Type 0} (cmp : K → K → Ordering) (itself : (k : K) → is_eq (cmp k k) ≡ true) (key_of : Touch → Option K) (touches : List Touch) (keys : List K) (picked : (k : K) → has_key cmp k keys ≡ has_key cmp k (filter_map key_of touches)) where
  -- the key of a touch is among those that are picked
  pub is_picked : (k : K) (touch : Touch) → key_of touch ≡ Some k → Contains touches touch → has_key cmp k keys ≡ true
  is_picked k touch is there = picked k ∙ any_there (λ other. is_eq (cmp k other)) (filter_map key_of touches) k (given_there key_of touches touch k is there) (itself k)

  pub not_picked : (k : K) (touch : Touch) → key_of touch ≡ Some k → has_key cmp k keys ≡ false → Contains touches touch → ⊥
  not_picked k touch is not there = false≢true (sym not ∙ is_picked k touch is there)

-- ---- the orders of numbers

pub number_itself : (n : ObjId) → is_eq (by_number n n) ≡ true
number_itself n = ap is_eq (tied_itself number_total n)

pub numbers_itself : (k : ObjId × ObjId) → is_eq (by_numbers k k) ≡ true
numbers_itself k = ap (λ first. is_eq (ordering_then first (by_number k.1 k.1))) (tied_itself number_total k.0) ∙ number_itself k.1

-- records that are alike but for some numbers are so but for more
pub alike_but_more : {R S : Type 0} (fewer more : ObjId → Type 0) (lists : R → List ObjId) (rest : R → S) → ((n : ObjId) → fewer n → more n) → (a b : Option R) → AreAlikeBut fewer lists rest a b → AreAlikeBut more lists rest a b
alike_but_more fewer more lists rest grow None None alike = tt
alike_but_more fewer more lists rest grow (Some a) (Some b) alike = (alike.0, λ n not. alike.1 n (λ is. not (grow n is)))
alike_but_more fewer more lists rest grow None (Some b) alike = alike
alike_but_more fewer more lists rest grow (Some a) None alike = alike
