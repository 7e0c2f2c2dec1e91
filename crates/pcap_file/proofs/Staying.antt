-- What the first bytes of a capture say is what all that begins with them says.
use Rattle.std.proofs.Common.{◌≡◌, ℕ, ◌+◌, ◌<◌, ◌≤◌, Bool, true, false, List, ◌++◌, length, drop, Some, None, refl, sym, ap, ◌∙◌, arith, length-append, length-drop}
use Rattle.std.specs.Prelude.{◌==◌, ◌&&◌, nat_le, nat_lt, if◌then◌else◌}
use Rattle.std.proofs.lemmas.Bool.{le-leb, le-ltb, lt-ltb, ltb-true, ltb-false, ne_eqb, false≢true}
use Rattle.std.proofs.lemmas.List.{drop-append-le}
use Rattle.byteorder.specs.Endian.{big_number, little_number}
use Rattle.byteorder.specs.Numbers.{big_from-append, little_from-append}
use Rattle.pcap_file.specs.declared.numbers.Order.{Order}
use Rattle.pcap_file.specs.declared.numbers.Order.TheVariants.{Big, Little}
use Rattle.pcap_file.specs.declared.records.Record.{Record}
use Rattle.pcap_file.specs.declared.records.Next.{Next}
use Rattle.pcap_file.specs.declared.records.Next.TheVariants.{End, Whole, Cut, TooLong}
use Rattle.pcap_file.specs.Numbers.{number_in}
use Rattle.pcap_file.specs.Header.{has_header, capture_order, kept_limit}
use Rattle.pcap_file.specs.Records.{record_at, begun_record, next_record}

longer : (least : ℕ) (xs ys : List ℕ) → least ≤ length xs → least ≤ length (xs ++ ys)
longer least xs ys long = let joined = length-append xs ys in omega (arith, long, joined)

-- a number is that of its own bytes
same_number : (order : Order) (place count : ℕ) (xs ys : List ℕ) → place + count ≤ length xs → number_in order place count (xs ++ ys) ≡ number_in order place count xs
same_number Big place count xs ys within =
    let left = length-drop place xs in
    ap (big_number count) (drop-append-le place xs ys (omega (arith, within))) ∙ big_from-append count (drop place xs) ys (omega (arith, within, left))
same_number Little place count xs ys within =
    let left = length-drop place xs in
    ap (little_number count) (drop-append-le place xs ys (omega (arith, within))) ∙ little_from-append count (drop place xs) ys (omega (arith, within, left))

-- headers

same_header : (order : Order) (xs ys : List ℕ) → 24 ≤ length xs → has_header order (xs ++ ys) ≡ has_header order xs
same_header order xs ys long =
    let there : nat_le 24 (length (xs ++ ys)) ≡ nat_le 24 (length xs) = le-leb 24 (length (xs ++ ys)) (longer 24 xs ys long) ∙ sym (le-leb 24 (length xs) long) in
    let magic = same_number order 0 4 xs ys (omega (arith, long)) in
    let major = same_number order 4 2 xs ys (omega (arith, long)) in
    let minor = same_number order 6 2 xs ys (omega (arith, long)) in
    let link = same_number order 20 4 xs ys (omega (arith, long)) in
    λ i. there i && (magic i == 0xa1b2c3d4) && (major i == 2) && (minor i == 4) && (link i == 1)

pub same_order : (xs ys : List ℕ) → 24 ≤ length xs → capture_order (xs ++ ys) ≡ capture_order xs
same_order xs ys long =
    let big = same_header Big xs ys long in
    let little = same_header Little xs ys long in
    λ i. if big i then Some Big else (if little i then Some Little else None)

-- records

pub begun : (order : Order) (xs : List ℕ) → 16 ≤ length xs → next_record order xs ≡ begun_record (record_at order xs) xs
begun order xs long =
    let some : (length xs == 0) ≡ false = ne_eqb (length xs) 0 (λ e. omega (arith, long, e)) in
    let enough : nat_lt (length xs) 16 ≡ false = le-ltb (length xs) 16 long in
    λ i. if some i then End else (if enough i then Cut else begun_record (record_at order xs) xs)

pub same_record : (order : Order) (xs ys : List ℕ) → 16 ≤ length xs → record_at order (xs ++ ys) ≡ record_at order xs
same_record order xs ys long =
    let seconds = same_number order 0 4 xs ys (omega (arith, long)) in
    let microseconds = same_number order 4 4 xs ys (omega (arith, long)) in
    let kept = same_number order 8 4 xs ys (omega (arith, long)) in
    let original = same_number order 12 4 xs ys (omega (arith, long)) in
    λ i. record { seconds = seconds i; microseconds = microseconds i; kept = kept i; original = original i }

pub whole_if : (r : Record) (xs : List ℕ) → r.kept ≤ kept_limit → 16 + r.kept ≤ length xs → begun_record r xs ≡ Whole r
whole_if r xs small there =
    let fits = le-ltb kept_limit r.kept small in
    let enough = le-ltb (length xs) (16 + r.kept) there in
    λ i. if fits i then TooLong else (if enough i then Cut else Whole r)

too_long_if : (r : Record) (xs : List ℕ) → kept_limit < r.kept → begun_record r xs ≡ TooLong
too_long_if r xs more = ap (λ b. if b then TooLong else (if nat_lt (length xs) (16 + r.kept) then Cut else Whole r)) (lt-ltb kept_limit r.kept more)

-- which of them it is
is_begun : Next → Bool
is_begun End = false
is_begun (Whole r) = true
is_begun Cut = false
is_begun TooLong = true

is_whole : Next → Bool
is_whole End = false
is_whole (Whole r) = true
is_whole Cut = false
is_whole TooLong = false

is_too_long : Next → Bool
is_too_long End = false
is_too_long (Whole r) = false
is_too_long Cut = false
is_too_long TooLong = true

record_of : Record → Next → Record
record_of d End = d
record_of d (Whole r) = r
record_of d Cut = d
record_of d TooLong = d

by_length : (order : Order) (xs : List ℕ) (a b : Bool) → nat_lt (length xs) 16 ≡ b → is_begun (if a then End else (if b then Cut else begun_record (record_at order xs) xs)) ≡ true → 16 ≤ length xs
unfolding is_begun
by_length order xs true b _ h = absurd (false≢true h)
by_length order xs false true _ h = absurd (false≢true h)
by_length order xs false false e _ = ltb-false (length xs) 16 e

begun_if : (order : Order) (xs : List ℕ) → is_begun (next_record order xs) ≡ true → 16 ≤ length xs
begun_if order xs h = by_length order xs (length xs == 0) (nat_lt (length xs) 16) refl h

by_kept : (r told : Record) (xs : List ℕ) (a b : Bool) → nat_lt kept_limit r.kept ≡ a → nat_lt (length xs) (16 + r.kept) ≡ b → (if a then TooLong else (if b then Cut else Whole r)) ≡ Whole told
    → (r.kept ≤ kept_limit) × (16 + r.kept ≤ length xs) × (r ≡ told)
unfolding is_whole record_of
by_kept r told xs true b _ _ h = absurd (false≢true (ap is_whole h))
by_kept r told xs false true _ _ h = absurd (false≢true (ap is_whole h))
by_kept r told xs false false a b h = (ltb-false kept_limit r.kept a, ltb-false (length xs) (16 + r.kept) b, ap (record_of r) h)

by_limit : (r : Record) (xs : List ℕ) (a b : Bool) → nat_lt kept_limit r.kept ≡ a → (if a then TooLong else (if b then Cut else Whole r)) ≡ TooLong → kept_limit < r.kept
unfolding is_too_long
by_limit r xs true b a _ = ltb-true kept_limit r.kept a
by_limit r xs false true _ h = absurd (false≢true (ap is_too_long h))
by_limit r xs false false _ h = absurd (false≢true (ap is_too_long h))

pub whole_stays : (order : Order) (xs ys : List ℕ) (r : Record) → next_record order xs ≡ Whole r → next_record order (xs ++ ys) ≡ Whole r
unfolding is_begun
whole_stays order xs ys r h =
    let long = begun_if order xs (ap is_begun h) in
    let tells = by_kept (record_at order xs) r xs (nat_lt kept_limit (record_at order xs).kept) (nat_lt (length xs) (16 + (record_at order xs).kept)) refl refl (sym (begun order xs long) ∙ h) in
    begun order (xs ++ ys) (longer 16 xs ys long)
    ∙ ap (λ q. begun_record q (xs ++ ys)) (same_record order xs ys long)
    ∙ whole_if (record_at order xs) (xs ++ ys) tells.0 (longer (16 + (record_at order xs).kept) xs ys tells.1)
    ∙ ap Whole tells.2

pub too_long_stays : (order : Order) (xs ys : List ℕ) → next_record order xs ≡ TooLong → next_record order (xs ++ ys) ≡ TooLong
unfolding is_begun
too_long_stays order xs ys h =
    let long = begun_if order xs (ap is_begun h) in
    let more = by_limit (record_at order xs) xs (nat_lt kept_limit (record_at order xs).kept) (nat_lt (length xs) (16 + (record_at order xs).kept)) refl (sym (begun order xs long) ∙ h) in
    begun order (xs ++ ys) (longer 16 xs ys long)
    ∙ ap (λ q. begun_record q (xs ++ ys)) (same_record order xs ys long)
    ∙ too_long_if (record_at order xs) (xs ++ ys) more
