-- The tags of the IPv4 addresses of a port, as they are told or not.
use Rattle.std.proofs.Common.{◌≡◌, ℕ, suc, zero, ◌+◌, ◌-◌, get_or, slice_get, ◌<◌, ◌≤◌, ◌++◌, true, false, cond, List, [], ◌∷◌, length, take, drop, map, refl, ap, sym, ◌∙◌, arith}
use Rattle.std.specs.Prelude.{nat_le}
use Rattle.std.specs.List.{flat_map}
use Rattle.std.proofs.lemmas.Bool.Decides.{nat_tests}
use Rattle.std.proofs.lemmas.List.{length-map, length-append, append-nil, take-append-drop, take_more, at_drop_more}
use Rattle.std.proofs.lemmas.Grind.{flat_map-append}
use Rattle.nv_base.specs.declared.ip4.Ip4.{Ip4}
use Rattle.nb_records.specs.Tags.{ip_tags, most_told}
use Rattle.nb_records.specs.declared.tag.Tag.TheVariants.{Has, HasMany}

pub told : (ips : List Ip4) → length ips ≤ most_told → ip_tags ips ≡ map Has ips
told ips few = let e : nat_le (length ips) most_told ≡ true = grind (arith, nat_tests, few) in ap (λ b. cond b (map Has ips) (HasMany ∷ [])) e

pub untold : (ips : List Ip4) → most_told < length ips → ip_tags ips ≡ HasMany ∷ []
untold ips many = let e : nat_le (length ips) most_told ≡ false = grind (arith, nat_tests, many) in ap (λ b. cond b (map Has ips) (HasMany ∷ [])) e

pub told_count : (ips : List Ip4) → length ips ≤ most_told → length (ip_tags ips) ≡ length ips
told_count ips few = ap length (told ips few) ∙ length-map ips Has

-- pieces of a front of a list are no more than those of all of it
pub fewer_pieces : {X Y : Type 0} (f : X → List Y) (n : ℕ) (xs : List X) → length (flat_map f (take n xs)) ≤ length (flat_map f xs)
fewer_pieces f n xs =
    let all : length (flat_map f xs) ≡ length (flat_map f (take n xs)) + length (flat_map f (drop n xs)) =
    sym (ap (λ l. length (flat_map f l)) (take-append-drop n xs)) ∙ ap length (flat_map-append f (take n xs) (drop n xs)) ∙ length-append (flat_map f (take n xs)) (flat_map f (drop n xs)) in
    omega (arith, all)

-- with one more piece the front is as much longer
more_pieces : {X Y : Type 0} (f : X → List Y) (xs : List X) (i : ℕ) (x : X) → i < length xs → length (flat_map f (take (i + 1) xs)) ≡ length (flat_map f (take i xs)) + length (f (get_or xs i x))
more_pieces f xs i x within =
    ap (λ l. length (flat_map f l)) (take_more xs i x within) ∙ ap length (flat_map-append f (take i xs) (get_or xs i x ∷ [])) ∙ length-append (flat_map f (take i xs)) (f (get_or xs i x) ++ [])
    ∙ ap (λ l. length (flat_map f (take i xs)) + length l) (append-nil (f (get_or xs i x)))

-- where one more piece of a list is too long, all of it is
pub too_many : {X Y : Type 0} (f : X → List Y) (xs : List X) (i count : ℕ) (x : X) → i < length xs → x ≡ get_or xs i x → count ≡ length (flat_map f (take i xs)) → most_told - count < length (f x)
    → most_told < length (flat_map f xs)
too_many f xs i count x within is counted over =
    let front = more_pieces f xs i x within in
    let same : length (f x) ≡ length (f (get_or xs i x)) = ap (λ y. length (f y)) is in
    let all = fewer_pieces f (i + 1) xs in
    omega (arith, front, same, all, counted, over)

-- what is at a place of two lists
in_first : {X : Type 0} (xs ys : List X) (i : ℕ) → i < length xs → slice_get (xs ++ ys) i ≡ slice_get xs i
in_first [] ys i within = absurd (omega (arith, within))
in_first (x ∷ xs) ys zero within = refl
in_first (x ∷ xs) ys (suc i) within = in_first xs ys i (omega (arith, within))

in_second : {X : Type 0} (xs ys : List X) (i : ℕ) → length xs ≤ i → slice_get (xs ++ ys) i ≡ slice_get ys (i - length xs)
in_second [] ys i after = let e : i ≡ i - 0 = omega arith in ap (slice_get ys) e
in_second (x ∷ xs) ys zero after = absurd (omega (arith, after))
in_second (x ∷ xs) ys (suc i) after = let e : i - length xs ≡ suc i - suc (length xs) = omega arith in in_second xs ys i (omega (arith, after)) ∙ ap (slice_get ys) e

-- what is at a place of pieces
pub in_piece : {X Y : Type 0} (f : X → List Y) (xs : List X) (i place : ℕ) (x : X) → i < length xs → x ≡ get_or xs i x → place < length (f x) → slice_get (flat_map f (drop i xs)) place ≡ slice_get (f x) place
in_piece f xs i place x within is here =
    at_drop_more (λ l. slice_get (flat_map f l) place) xs i x within ∙ ap (λ y. slice_get (f y ++ flat_map f (drop (i + 1) xs)) place) (sym is) ∙ in_first (f x) (flat_map f (drop (i + 1) xs)) place here

pub after_piece : {X Y : Type 0} (f : X → List Y) (xs : List X) (i place : ℕ) (x : X) → i < length xs → x ≡ get_or xs i x → length (f x) ≤ place
    → slice_get (flat_map f (drop i xs)) place ≡ slice_get (flat_map f (drop (i + 1) xs)) (place - length (f x))
after_piece f xs i place x within is after =
    at_drop_more (λ l. slice_get (flat_map f l) place) xs i x within ∙ ap (λ y. slice_get (f y ++ flat_map f (drop (i + 1) xs)) place) (sym is) ∙ in_second (f x) (flat_map f (drop (i + 1) xs)) place after

-- what is after two
pub after_two : {X : Type 0} (a b : X) (xs ys : List X) (place : ℕ) → 2 ≤ place → xs ≡ ys → slice_get (a ∷ b ∷ xs) place ≡ slice_get ys (place - 2)
after_two a b xs ys zero after same = absurd (omega (arith, after))
after_two a b xs ys (suc zero) after same = absurd (omega (arith, after))
after_two a b xs ys (suc (suc place)) after same = let e : suc (suc place) - 2 ≡ place = omega arith in ap (λ l. slice_get l place) same ∙ ap (slice_get ys) (sym e)
