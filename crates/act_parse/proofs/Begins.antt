-- Each front of what is wanted begins it.
use Rattle.std.proofs.Common.{◌≡◌, ℕ, suc, zero, ◌+◌, ◌%◌, ◌^◌, ◌<◌, ◌≤◌, ◌⊎◌, Bool, true, false, cond, ltb, leb, eqb, nat_eq, ◌||◌, not, is_some, List, [], ◌∷◌, ◌++◌, length, take, drop, Option, Some, None, codes, decimal as decimal_text, refl, ap, sym, ◌∙◌, arith, inl, inr}
use Rattle.std.specs.Fmt.{digits}
use Rattle.std.specs.List.{list_any, list_all, find, starts_with}
use Rattle.std.specs.Cmp.Lexicographic.{pointwise, same_text}
use Rattle.std.proofs.lemmas.Bool.{and_parts, and_from, or_left, or_right, or_cases, false≢true, ltb-true, lt-ltb, le-leb, leb-true, cases_lt}
use Rattle.std.proofs.lemmas.List.{take_all, take-append-drop, append-nil, length-take-le}
use Rattle.std.proofs.lemmas.Option.{cond_some}
use Rattle.nv_base.specs.Ip4.{address, ip4_text}
use Rattle.nv_base.specs.Mac.{mac_text}
use Rattle.nv_base.specs.Name.{is_name_byte, is_object_name, is_quotable}
use Rattle.nv_base.specs.Field.{field_name, field_width, field_of, all_fields, is_named}
use Rattle.nv_base.specs.declared.field.Field.{Field}
use Rattle.nv_base.specs.declared.ip4.Ip4.{Ip4}
use Rattle.expr_core.specs.Text.{const_text}
use Rattle.expr_core.specs.Width.{part_width, limit}
use Rattle.expr_core.specs.declared.constant.Const.{Const}
use Rattle.expr_core.specs.declared.constant.Form.{Form}
use Rattle.expr_core.specs.declared.constant.Form.TheVariants as form
use Rattle.expr_core.specs.declared.part.Bits.{Bits}
use Rattle.expr_const.specs.Constant.{constant_in}
use Rattle.act_core.specs.WellFormed as formed
use Rattle.act_core.specs.WellFormed.{fits}
use Rattle.act_core.specs.declared.step.Step.{Step}
use Rattle.act_core.specs.declared.step.Step.TheVariants.{Set, Copy}
use Rattle.act_parse.specs.declared.wanted.Wanted.{Wanted}
use Rattle.act_parse.specs.declared.wanted.Wanted.TheVariants as wanted
use Rattle.act_parse.specs.inner.Token.{is_at, constant, decimal_of, decimal_within, address_of, address_from}
use Rattle.act_parse.specs.inner.Wanted.{begins_field, begins_field_of, field_value, constant_value, value_of, is_whole, endings, ends_with, can_end, begins}
use Rattle.act_parse.proofs.TakesTokens.{constant_takes, decimal_of_takes, address_of_takes}
use Rattle.act_parse.proofs.Values.{field_found, same_pointwise, constant_read, set_value, name_of_read}
use Rattle.act_parse.proofs.Numerals.{decimal_fronts, two_digits, hex_fronts}
use Rattle.act_parse.proofs.Bytes.{mac_fronts}
use Rattle.act_parse.proofs.Addresses.{address_fronts}

at_end : (w : Wanted) (front text : List ℕ) (j : ℕ) → is_whole w (front ++ drop j text) ≡ true → ends_with w front text ≡ true
at_end w front [] zero e = ap (is_whole w) (sym (append-nil front)) ∙ e
at_end w front [] (suc j) e = ap (is_whole w) (sym (append-nil front)) ∙ e
at_end w front (b ∷ bs) zero e = or_left (is_whole w (front ++ b ∷ bs)) (ends_with w front bs) e
at_end w front (b ∷ bs) (suc j) e = or_right (is_whole w (front ++ b ∷ bs)) (ends_with w front bs) (at_end w front bs j e)

any_in : (p : List ℕ → Bool) (before : List (List ℕ)) (x : List ℕ) (after : List (List ℕ)) → p x ≡ true → list_any p (before ++ x ∷ after) ≡ true
any_in p [] x after e = or_left (p x) (list_any p after) e
any_in p (y ∷ ys) x after e = or_right (p y) (list_any p (ys ++ x ∷ after)) (any_in p ys x after e)

-- the ends of each of the endings
mac_end : (w : Wanted) (front : List ℕ) (j : ℕ) → is_whole w (front ++ drop j (codes "00:00:00:00:00:00")) ≡ true → can_end w front ≡ true
unfolding endings
mac_end w front j e = any_in (ends_with w front) ([]) (codes "00:00:00:00:00:00") (codes "0.0.0.0" ∷ codes "_MC_flood" ∷ codes "_MC_unknown" ∷ codes "1" ∷ codes "2" ∷ codes "3" ∷ codes "4" ∷ codes "5" ∷ codes "6" ∷ codes "7" ∷ codes "8" ∷ codes "9" ∷ []) (at_end w front (codes "00:00:00:00:00:00") j e)

zero_end : (w : Wanted) (front : List ℕ) (j : ℕ) → is_whole w (front ++ drop j (codes "0.0.0.0")) ≡ true → can_end w front ≡ true
unfolding endings
zero_end w front j e = any_in (ends_with w front) (codes "00:00:00:00:00:00" ∷ []) (codes "0.0.0.0") (codes "_MC_flood" ∷ codes "_MC_unknown" ∷ codes "1" ∷ codes "2" ∷ codes "3" ∷ codes "4" ∷ codes "5" ∷ codes "6" ∷ codes "7" ∷ codes "8" ∷ codes "9" ∷ []) (at_end w front (codes "0.0.0.0") j e)

flood_end : (w : Wanted) (front : List ℕ) (j : ℕ) → is_whole w (front ++ drop j (codes "_MC_flood")) ≡ true → can_end w front ≡ true
unfolding endings
flood_end w front j e = any_in (ends_with w front) (codes "00:00:00:00:00:00" ∷ codes "0.0.0.0" ∷ []) (codes "_MC_flood") (codes "_MC_unknown" ∷ codes "1" ∷ codes "2" ∷ codes "3" ∷ codes "4" ∷ codes "5" ∷ codes "6" ∷ codes "7" ∷ codes "8" ∷ codes "9" ∷ []) (at_end w front (codes "_MC_flood") j e)

unknown_end : (w : Wanted) (front : List ℕ) (j : ℕ) → is_whole w (front ++ drop j (codes "_MC_unknown")) ≡ true → can_end w front ≡ true
unfolding endings
unknown_end w front j e = any_in (ends_with w front) (codes "00:00:00:00:00:00" ∷ codes "0.0.0.0" ∷ codes "_MC_flood" ∷ []) (codes "_MC_unknown") (codes "1" ∷ codes "2" ∷ codes "3" ∷ codes "4" ∷ codes "5" ∷ codes "6" ∷ codes "7" ∷ codes "8" ∷ codes "9" ∷ []) (at_end w front (codes "_MC_unknown") j e)

-- one more digit
digit_end : (w : Wanted) (front : List ℕ) (d : ℕ) → d < 10 → is_whole w (front ++ (48 + d) ∷ []) ≡ true → can_end w front ≡ true
unfolding endings
digit_end w front zero small e = zero_end w front 6 e
digit_end w front (suc zero) small e = any_in (ends_with w front) (codes "00:00:00:00:00:00" ∷ codes "0.0.0.0" ∷ codes "_MC_flood" ∷ codes "_MC_unknown" ∷ []) (codes "1") (codes "2" ∷ codes "3" ∷ codes "4" ∷ codes "5" ∷ codes "6" ∷ codes "7" ∷ codes "8" ∷ codes "9" ∷ []) (at_end w front (codes "1") 0 e)
digit_end w front (suc (suc zero)) small e = any_in (ends_with w front) (codes "00:00:00:00:00:00" ∷ codes "0.0.0.0" ∷ codes "_MC_flood" ∷ codes "_MC_unknown" ∷ codes "1" ∷ []) (codes "2") (codes "3" ∷ codes "4" ∷ codes "5" ∷ codes "6" ∷ codes "7" ∷ codes "8" ∷ codes "9" ∷ []) (at_end w front (codes "2") 0 e)
digit_end w front (suc (suc (suc zero))) small e = any_in (ends_with w front) (codes "00:00:00:00:00:00" ∷ codes "0.0.0.0" ∷ codes "_MC_flood" ∷ codes "_MC_unknown" ∷ codes "1" ∷ codes "2" ∷ []) (codes "3") (codes "4" ∷ codes "5" ∷ codes "6" ∷ codes "7" ∷ codes "8" ∷ codes "9" ∷ []) (at_end w front (codes "3") 0 e)
digit_end w front (suc (suc (suc (suc zero)))) small e = any_in (ends_with w front) (codes "00:00:00:00:00:00" ∷ codes "0.0.0.0" ∷ codes "_MC_flood" ∷ codes "_MC_unknown" ∷ codes "1" ∷ codes "2" ∷ codes "3" ∷ []) (codes "4") (codes "5" ∷ codes "6" ∷ codes "7" ∷ codes "8" ∷ codes "9" ∷ []) (at_end w front (codes "4") 0 e)
digit_end w front (suc (suc (suc (suc (suc zero))))) small e = any_in (ends_with w front) (codes "00:00:00:00:00:00" ∷ codes "0.0.0.0" ∷ codes "_MC_flood" ∷ codes "_MC_unknown" ∷ codes "1" ∷ codes "2" ∷ codes "3" ∷ codes "4" ∷ []) (codes "5") (codes "6" ∷ codes "7" ∷ codes "8" ∷ codes "9" ∷ []) (at_end w front (codes "5") 0 e)
digit_end w front (suc (suc (suc (suc (suc (suc zero)))))) small e = any_in (ends_with w front) (codes "00:00:00:00:00:00" ∷ codes "0.0.0.0" ∷ codes "_MC_flood" ∷ codes "_MC_unknown" ∷ codes "1" ∷ codes "2" ∷ codes "3" ∷ codes "4" ∷ codes "5" ∷ []) (codes "6") (codes "7" ∷ codes "8" ∷ codes "9" ∷ []) (at_end w front (codes "6") 0 e)
digit_end w front (suc (suc (suc (suc (suc (suc (suc zero))))))) small e = any_in (ends_with w front) (codes "00:00:00:00:00:00" ∷ codes "0.0.0.0" ∷ codes "_MC_flood" ∷ codes "_MC_unknown" ∷ codes "1" ∷ codes "2" ∷ codes "3" ∷ codes "4" ∷ codes "5" ∷ codes "6" ∷ []) (codes "7") (codes "8" ∷ codes "9" ∷ []) (at_end w front (codes "7") 0 e)
digit_end w front (suc (suc (suc (suc (suc (suc (suc (suc zero)))))))) small e = any_in (ends_with w front) (codes "00:00:00:00:00:00" ∷ codes "0.0.0.0" ∷ codes "_MC_flood" ∷ codes "_MC_unknown" ∷ codes "1" ∷ codes "2" ∷ codes "3" ∷ codes "4" ∷ codes "5" ∷ codes "6" ∷ codes "7" ∷ []) (codes "8") (codes "9" ∷ []) (at_end w front (codes "8") 0 e)
digit_end w front (suc (suc (suc (suc (suc (suc (suc (suc (suc zero))))))))) small e = any_in (ends_with w front) (codes "00:00:00:00:00:00" ∷ codes "0.0.0.0" ∷ codes "_MC_flood" ∷ codes "_MC_unknown" ∷ codes "1" ∷ codes "2" ∷ codes "3" ∷ codes "4" ∷ codes "5" ∷ codes "6" ∷ codes "7" ∷ codes "8" ∷ []) (codes "9") ([]) (at_end w front (codes "9") 0 e)
digit_end w front (suc (suc (suc (suc (suc (suc (suc (suc (suc (suc d)))))))))) small e = absurd (omega (arith, small))

-- nothing more
none_end : (w : Wanted) (front : List ℕ) → is_whole w front ≡ true → can_end w front ≡ true
none_end w front e = zero_end w front 7 (ap (is_whole w) (append-nil front) ∙ e)

-- decimals of which each front begins one: from 0 up, or of two digits at most
abbrev pub Fine : ℕ → ℕ → Type 0
Fine first limit = (limit ≤ 65536) × ((first ≡ 0) ⊎ (limit ≤ 100))

pub decimal_of_read : (first limit n : ℕ) → leb first n ≡ true → ltb n limit ≡ true → n < 2 ^ 128 → decimal_of first limit (decimal_text n) ≡ Some n
decimal_of_read first limit n low high small = ap (decimal_within first limit) (constant_read (constant_in form.Dec n) small) ∙ ap (λ (p : Bool). cond p (Some n) None) (and_from (leb first n) (ltb n limit) low high)

decimal_whole : (first limit n : ℕ) (w : List ℕ) → w ≡ decimal_text n → leb first n ≡ true → ltb n limit ≡ true → limit ≤ 65536 → is_whole (wanted.Decimal first limit) w ≡ true
decimal_whole first limit n w is low high few = ap (λ xs. is_some (decimal_of first limit xs)) is ∙ ap (λ o. is_some o) (decimal_of_read first limit n low high (omega (arith, ltb-true n limit high, few)))

pub decimal_begins : (first limit : ℕ) → Fine first limit → (w : List ℕ) (n k : ℕ) → decimal_of first limit w ≡ Some n → 0 < k → k ≤ length w → begins (wanted.Decimal first limit) (take k w) ≡ true
decimal_begins first limit fine w n k e some le = elim (cases_lt k (length w)) as (λ _. can_end (wanted.Decimal first limit) (take k w) ≡ true) [
  | inl less ↦ elim fine.1 as (λ _. can_end (wanted.Decimal first limit) (take k w) ≡ true) [
    | inl zero_first ↦
        let front = decimal_fronts n k (omega (arith, small)) some (omega (arith, le, size)) in
        none_end (wanted.Decimal first limit) (take k w) (decimal_whole first limit front.0 (take k w) (ap (take k) took.0 ∙ front.1) (from_zero front.0 zero_first) (lt-ltb front.0 limit (omega (arith, front.2, ltb-true n limit took.2))) fine.0)
    | inr low ↦
        let digit = two_digits n k (omega (arith, low, ltb-true n limit took.2)) some (omega (arith, less, size)) in
        digit_end (wanted.Decimal first limit) (take k w) digit.0 digit.1 (decimal_whole first limit n (take k w ++ (48 + digit.0) ∷ []) (ap (λ xs. take k xs ++ (48 + digit.0) ∷ []) took.0 ∙ digit.2) took.1 took.2 fine.0)
  ]
  | inr all ↦ none_end (wanted.Decimal first limit) (take k w) (decimal_whole first limit n (take k w) (take_all k w (omega (arith, all)) ∙ took.0) took.1 took.2 fine.0)
]
  where
    took : (w ≡ decimal_text n) × (leb first n ≡ true) × (ltb n limit ≡ true)
    took = decimal_of_takes first limit w n e

    size : length w ≡ length (decimal_text n)
    size = ap length took.0

    small : n < 65536
    small = omega (arith, ltb-true n limit took.2, fine.0)

    from_zero : (m : ℕ) → first ≡ 0 → leb first m ≡ true
    from_zero m is = ap (λ (n : ℕ). leb n m) is ∙ le-leb 0 m (omega arith)

-- an address is read from its text
address_constant : (n : ℕ) → n < 2 ^ 32 → constant (ip4_text (address n)) ≡ Some (constant_in form.Ip4 n)
address_constant n small =
    let same : n % 2 ^ 32 ≡ n = omega (arith, small) in
    ap (λ (m : ℕ). constant (ip4_text (address m))) (sym same) ∙ constant_read (constant_in form.Ip4 n) small

pub address_of_read : (a : Ip4) → formed.is_address a ≡ true → address_of (ip4_text a) ≡ Some a
address_of_read a good = ap address_from (address_constant a.0 (ltb-true a.0 (2 ^ 32) good)) ∙ ap (λ (p : Bool). cond p (Some a) None) good

pub address_begins : (w : List ℕ) (a : Ip4) (k : ℕ) → address_of w ≡ Some a → 0 < k → k ≤ length w → begins wanted.Address (take k w) ≡ true
address_begins w a k e some le =
    let took = address_of_takes w a e in
    let small : a.0 < 2 ^ 32 = ltb-true a.0 (2 ^ 32) took.1 in
    let front = address_fronts a.0 k small in
    let good : ltb front.0 (2 ^ 32) ≡ true = lt-ltb front.0 (2 ^ 32) (omega (arith, front.3, small)) in
    zero_end wanted.Address (take k w) front.1 (ap (λ xs. is_some (address_of (take k xs ++ drop front.1 (codes "0.0.0.0")))) took.0 ∙ ap (λ xs. is_some (address_of xs)) front.2 ∙ ap (λ o. is_some o) (address_of_read (address front.0) good))

-- the bytes at the front of a text are at its front
pub at_front : (k : ℕ) (w : List ℕ) → is_at (take k w) w ≡ true
at_front k w = ap (λ xs. pointwise nat_eq xs (take k w)) (front k w) ∙ same_pointwise (take k w)
  where
    front : (k : ℕ) (w : List ℕ) → take (length (take k w)) w ≡ take k w
    front zero w = refl
    front (suc k) [] = refl
    front (suc k) (x ∷ xs) = ap (λ ys. x ∷ ys) (front k xs)

-- what was found passes among them
pub any_found : {X : Type 0} (p q : X → Bool) (xs : List X) (x : X) → find p xs ≡ Some x → q x ≡ true → list_any q xs ≡ true
any_found p q [] x e is = absurd (cc)
any_found {X} p q (y ∷ ys) x e is = go (p y) e (any_found p q ys x)
  where
    go : (t : Bool) → cond t (Some y) (find p ys) ≡ Some x → (find p ys ≡ Some x → q x ≡ true → list_any q ys ≡ true) → (q y || list_any q ys) ≡ true
    go true e later = let same : y ≡ x = cc in or_left (q y) (list_any q ys) (ap q same ∙ is)
    go false e later = or_right (q y) (list_any q ys) (later e is)

pub field_begins : (width : ℕ) (w : List ℕ) (g : Field) (k : ℕ) → field_of w ≡ Some g → eqb (field_width g) width ≡ true → begins_field width (take k w) ≡ true
field_begins width w g k e wide =
    any_found (λ f. is_named f w) (begins_field_of width (take k w)) all_fields g e
    (and_from (eqb (field_width g) width) (is_at (take k w) (field_name g)) wide (ap (is_at (take k w)) (sym (field_found w g e)) ∙ at_front k w))

-- a front of a constant, with an end, is a constant that is no greater
set_whole : (f : Field) (b : Bits) (form_of : Form) (n m : ℕ) (w : List ℕ) → fits (part_width b (field_width f)) (constant_in form_of n) ≡ true → m ≤ n → w ≡ const_text (constant_in form_of m) → is_whole (wanted.Value f b) w ≡ true
set_whole f b form_of n m w fit le is =
    let tests = and_parts (ltb n (2 ^ part_width b (field_width f))) (ltb n (limit form_of)) fit in
    let fit2 = and_from (ltb m (2 ^ part_width b (field_width f))) (ltb m (limit form_of)) (lower n m (2 ^ part_width b (field_width f)) le tests.0) (lower n m (limit form_of) le tests.1) in
    ap (λ xs. is_some (value_of f b xs)) is ∙ ap (λ o. is_some o) (set_value f b (constant_in form_of m) fit2)
  where
    lower : (n m l : ℕ) → m ≤ n → ltb n l ≡ true → ltb m l ≡ true
    lower n m l le e = lt-ltb m l (omega (arith, le, ltb-true n l e))

zero_text : decimal_text 0 ≡ 48 ∷ []
unfolding digits
zero_text = refl

zero_hex : const_text (constant_in form.Hex 0) ≡ 48 ∷ 120 ∷ 48 ∷ []
unfolding digits
zero_hex = refl

constant_begins : (f : Field) (b : Bits) (form_of : Form) (n k : ℕ) → fits (part_width b (field_width f)) (constant_in form_of n) ≡ true → 0 < k → k ≤ length (const_text (constant_in form_of n)) → can_end (wanted.Value f b) (take k (const_text (constant_in form_of n))) ≡ true
constant_begins f b form.Dec n k fit some le =
    let small : n < 2 ^ 128 = ltb-true n (2 ^ 128) (and_parts (ltb n (2 ^ part_width b (field_width f))) (ltb n (2 ^ 128)) fit).1 in
    let front = decimal_fronts n k small some le in
    none_end (wanted.Value f b) (take k (decimal_text n)) (set_whole f b form.Dec n front.0 (take k (decimal_text n)) fit front.2 front.1)
constant_begins f b form.Hex n zero fit some le = absurd (omega (arith, some))
constant_begins f b form.Hex n (suc zero) fit some le = none_end (wanted.Value f b) (48 ∷ []) (set_whole f b form.Dec 0 0 (48 ∷ []) (zero_fits n (part_width b (field_width f)) (and_parts (ltb n (2 ^ part_width b (field_width f))) (ltb n (limit form.Hex)) fit).0) (omega arith) (sym zero_text))
  where
    zero_fits : (n width : ℕ) → ltb n (2 ^ width) ≡ true → fits width (constant_in form.Dec 0) ≡ true
    zero_fits n width e = and_from (ltb 0 (2 ^ width)) (ltb 0 (2 ^ 128)) (lt-ltb 0 (2 ^ width) (omega (arith, ltb-true n (2 ^ width) e))) refl
constant_begins f b form.Hex n (suc (suc zero)) fit some le = zero_end (wanted.Value f b) (48 ∷ 120 ∷ []) 6 (set_whole f b form.Hex n 0 (48 ∷ 120 ∷ 48 ∷ []) fit (omega arith) (sym zero_hex))
constant_begins f b form.Hex n (suc (suc (suc k))) fit some le =
    let small : n < 2 ^ 128 = ltb-true n (2 ^ 128) (and_parts (ltb n (2 ^ part_width b (field_width f))) (ltb n (2 ^ 128)) fit).1 in
    let front = hex_fronts n (suc k) small (omega arith) (omega (arith, le)) in
    none_end (wanted.Value f b) (48 ∷ 120 ∷ take (suc k) (digits 16 false n)) (set_whole f b form.Hex n front.0 (48 ∷ 120 ∷ take (suc k) (digits 16 false n)) fit front.2 (ap (λ xs. 48 ∷ 120 ∷ xs) front.1))
constant_begins f b form.Mac n k fit some le =
    let small : n < 2 ^ 48 = ltb-true n (2 ^ 48) (and_parts (ltb n (2 ^ part_width b (field_width f))) (ltb n (2 ^ 48)) fit).1 in
    let same : n % 2 ^ 48 ≡ n = omega (arith, small) in
    let front = mac_fronts n k small in
    let same2 : front.0 % 2 ^ 48 ≡ front.0 = omega (arith, small, front.2) in
    mac_end (wanted.Value f b) (take k (mac_text (n % 2 ^ 48))) k
    (set_whole f b form.Mac n front.0 (take k (mac_text (n % 2 ^ 48)) ++ drop k (codes "00:00:00:00:00:00")) fit front.2
    (ap (λ (m : ℕ). take k (mac_text m) ++ drop k (codes "00:00:00:00:00:00")) same ∙ front.1 ∙ ap mac_text (sym same2)))
constant_begins f b form.Ip4 n k fit some le =
    let small : n < 2 ^ 32 = ltb-true n (2 ^ 32) (and_parts (ltb n (2 ^ part_width b (field_width f))) (ltb n (2 ^ 32)) fit).1 in
    let same : n % 2 ^ 32 ≡ n = omega (arith, small) in
    let front = address_fronts n k small in
    let same2 : front.0 % 2 ^ 32 ≡ front.0 = omega (arith, small, front.3) in
    zero_end (wanted.Value f b) (take k (ip4_text (address (n % 2 ^ 32)))) front.1
    (set_whole f b form.Ip4 n front.0 (take k (ip4_text (address (n % 2 ^ 32))) ++ drop front.1 (codes "0.0.0.0")) fit front.3
    (ap (λ (m : ℕ). take k (ip4_text (address m)) ++ drop front.1 (codes "0.0.0.0")) same ∙ front.2 ∙ ap (λ (m : ℕ). ip4_text (address m)) (sym same2)))

-- fronts of lists of which each number passes
front_all : (p : ℕ → Bool) (k : ℕ) (xs : List ℕ) → list_all p xs ≡ true → list_all p (take k xs) ≡ true
front_all p zero xs e = refl
front_all p (suc k) [] e = refl
front_all p (suc k) (x ∷ xs) e = let parts = and_parts (p x) (list_all p xs) e in and_from (p x) (list_all p (take k xs)) parts.0 (front_all p k xs parts.1)

-- what a front does not begin with, the whole may not either
front_starts : (k : ℕ) (xs with_these : List ℕ) → starts_with nat_eq (take k xs) with_these ≡ true → starts_with nat_eq xs with_these ≡ true
front_starts k xs [] e = whole xs
  where
    whole : (ys : List ℕ) → starts_with nat_eq ys [] ≡ true
    whole [] = refl
    whole (y ∷ ys) = refl
front_starts zero xs (t ∷ ts) e = absurd (cc)
front_starts (suc k) [] (t ∷ ts) e = absurd (cc)
front_starts (suc k) (x ∷ xs) (t ∷ ts) e = let parts = and_parts (eqb t x) (starts_with nat_eq (take k xs) ts) e in and_from (eqb t x) (starts_with nat_eq xs ts) parts.0 (front_starts k xs ts parts.1)

not_front : (k : ℕ) (xs with_these : List ℕ) → not (starts_with nat_eq xs with_these) ≡ true → not (starts_with nat_eq (take k xs) with_these) ≡ true
not_front k xs with_these e = go (starts_with nat_eq (take k xs) with_these) refl
  where
    go : (p : Bool) → starts_with nat_eq (take k xs) with_these ≡ p → not (starts_with nat_eq (take k xs) with_these) ≡ true
    go false is = ap not is
    go true is = absurd (false≢true (ap not (sym (front_starts k xs with_these is)) ∙ e))

-- a front of a port's name is one
object_front : (k : ℕ) (name : List ℕ) → is_object_name name ≡ true → 0 < k → k ≤ length name → is_object_name (take k name) ≡ true
object_front k name e some le =
    let one = and_parts _ (not (starts_with nat_eq name (codes "_MC_"))) e in
    let two = and_parts _ (not (starts_with nat_eq name (codes "-"))) one.0 in
    let three = and_parts _ (list_all is_name_byte name) two.0 in
    let four = and_parts (ltb 0 (length name)) (leb (length name) 127) three.0 in
    let size : length (take k name) ≡ k = length-take-le k name le in
    and_from _ (not (starts_with nat_eq (take k name) (codes "_MC_")))
    (and_from _ (not (starts_with nat_eq (take k name) (codes "-")))
    (and_from _ (list_all is_name_byte (take k name))
    (and_from (ltb 0 (length (take k name))) (leb (length (take k name)) 127) (lt-ltb 0 (length (take k name)) (omega (arith, size, some))) (le-leb (length (take k name)) 127 (omega (arith, size, le, leb-true (length name) 127 four.1))))
    (front_all is_name_byte k name three.1))
    (not_front k name (codes "-") two.1))
    (not_front k name (codes "_MC_") one.1)

pub name_begins : (name : List ℕ) (k : ℕ) → is_quotable name ≡ true → 0 < k → k ≤ length name → begins wanted.Name (take k name) ≡ true
name_begins name k good some le = elim (or_cases (is_object_name name || pointwise nat_eq name (codes "_MC_flood")) (pointwise nat_eq name (codes "_MC_unknown")) good) as (λ _. can_end wanted.Name (take k name) ≡ true) [
  | inl either ↦ elim (or_cases (is_object_name name) (pointwise nat_eq name (codes "_MC_flood")) either) as (λ _. can_end wanted.Name (take k name) ≡ true) [
    | inl object ↦ none_end wanted.Name (take k name) (whole (take k name) (or_left _ _ (or_left _ _ (object_front k name object some le))))
    | inr flood ↦
        let is : name ≡ codes "_MC_flood" = same_text name (codes "_MC_flood") (sym flood) in
        flood_end wanted.Name (take k name) k (whole (take k name ++ drop k (codes "_MC_flood")) (ap is_quotable (ap (λ xs. take k name ++ drop k xs) (sym is) ∙ take-append-drop k name) ∙ good))
  ]
  | inr unknown ↦
      let is : name ≡ codes "_MC_unknown" = same_text name (codes "_MC_unknown") (sym unknown) in
      unknown_end wanted.Name (take k name) k (whole (take k name ++ drop k (codes "_MC_unknown")) (ap is_quotable (ap (λ xs. take k name ++ drop k xs) (sym is) ∙ take-append-drop k name) ∙ good))
]
  where
    whole : (text : List ℕ) → is_quotable text ≡ true → is_whole wanted.Name text ≡ true
    whole text e = ap (λ o. is_some o) (name_of_read text e)

pub value_begins : (f : Field) (b : Bits) (w : List ℕ) (s : Step) (k : ℕ) → value_of f b w ≡ Some s → 0 < k → k ≤ length w → begins (wanted.Value f b) (take k w) ≡ true
value_begins f b w s k e some le = by_constant (constant w) refl e
  where
    by_field : (o : Option Field) → field_of w ≡ o → field_value f b o ≡ Some s → begins (wanted.Value f b) (take k w) ≡ true
    by_field None is e = absurd (cc)
    by_field (Some g) is e =
        let passed = cond_some (eqb (field_width g) (part_width b (field_width f))) (Copy f b g) s e in
        or_left (begins_field (part_width b (field_width f)) (take k w)) (can_end (wanted.Value f b) (take k w)) (field_begins (part_width b (field_width f)) w g k is passed.0)

    by_constant : (o : Option Const) → constant w ≡ o → constant_value f b w o ≡ Some s → begins (wanted.Value f b) (take k w) ≡ true
    by_constant None is e = by_field (field_of w) refl e
    by_constant (Some c) is e =
        let passed = cond_some (fits (part_width b (field_width f)) c) (Set f b c) s e in
        let took : w ≡ const_text c = constant_takes w c is in
        or_right (begins_field (part_width b (field_width f)) (take k w)) (can_end (wanted.Value f b) (take k w))
        (ap (λ xs. can_end (wanted.Value f b) (take k xs)) took ∙ constant_begins f b c.form c.value k passed.0 some (omega (arith, le, ap length took)))
