-- The items that guards write for their networks have the addresses that the guards let through.
use Rattle.std.proofs.Common.{◌≡◌, ℕ, ◌+◌, ◌-◌, ◌*◌, ◌/◌, ◌%◌, ◌^◌, ◌<◌, ◌≤◌, Bool, true, false, cond, List, [], ◌∷◌, map, eqb, sym, ap, refl, ◌∙◌, lit<, lit≤, arith}
use Rattle.std.specs.Prelude.{◌&&◌, ◌||◌, not, nat_lt, bit_and}
use Rattle.std.specs.List.{Contains, filter, list_any}
use Rattle.std.proofs.lemmas.Bool.{false≢true, eqb-true, eq-eqb, ltb-true, ltb-false}
use Rattle.std.proofs.lemmas.List.Folds.{list_any-append}
use Rattle.std.proofs.lemmas.Nat.{pow_pos}
use Rattle.std.proofs.lemmas.Nat.Bits.{and_high_mask}
use Rattle.std.proofs.Math.Bool.{or_assoc, or-false}
use Rattle.std.proofs.Math.Nat.{mul-div_cancel}
use Rattle.nv_base.specs.Block.{Block}
use Rattle.expr_core.specs.Lookup.{Lookup}
use Rattle.expr_core.specs.declared.comparison.Item.TheVariants.{One, Masked}
use Rattle.expr_eval.specs.Relation.{equals_item}
use Rattle.nb_records.specs.declared.switch.Guard.{Guard}
use Rattle.sb_model.specs.Make.{in_decimal, as_ip4}
use Rattle.nb_model.specs.Addresses.{size_of, has_host_part}
use Rattle.net_meaning.specs.Guards.{covers, is_broadcast_of, is_for_many}
use Rattle.net_rows.specs.PortSecurity.{item_of, broadcast_of, items_for_many}
use Rattle.net_rows.proofs.Elements.{one_first, one_later}

-- ---- prefixes

-- numbers times a number that is not zero are equal where they are
same_times : (a b s : ℕ) → 0 < s → eqb (a * s) (b * s) ≡ eqb a b
same_times a b s positive = by (eqb a b) refl (eqb (a * s) (b * s)) refl
  where
    by : (p : Bool) → eqb a b ≡ p → (q : Bool) → eqb (a * s) (b * s) ≡ q → q ≡ p
    by true e true f = refl
    by true e false f = absurd (false≢true (sym f ∙ eq-eqb (a * s) (b * s) (ap (λ n. n * s) (eqb-true a b e))))
    by false e true f = absurd (false≢true (sym e ∙ eq-eqb a b (sym (mul-div_cancel a positive) ∙ ap (λ n. n / s) (eqb-true (a * s) (b * s) f) ∙ mul-div_cancel b positive)))
    by false e false f = refl

-- numbers of 32 bits agree in the bits of a prefix where they agree without the bits after it
prefix_tells : (n base k : ℕ) → n < 2 ^ 32 → base < 2 ^ 32 → k ≤ 32 → eqb (bit_and n (2 ^ 32 - 2 ^ k)) (bit_and base (2 ^ 32 - 2 ^ k)) ≡ eqb (n / 2 ^ k) (base / 2 ^ k)
prefix_tells n base k n_fits base_fits within =
    ap (λ m. eqb m (bit_and base (2 ^ 32 - 2 ^ k))) (and_high_mask 32 k within n n_fits)
    ∙ ap (λ m. eqb (n / 2 ^ k * 2 ^ k) m) (and_high_mask 32 k within base base_fits)
    ∙ same_times (n / 2 ^ k) (base / 2 ^ k) (2 ^ k) (pow_pos k)

-- a whole address is a network of one
whole_size : (len : ℕ) → nat_lt len 32 ≡ false → 2 ^ (32 - len) ≡ 1
whole_size len long =
    let most = ltb-false len 32 long in
    let none : 32 - len ≡ 0 = omega arith in
    rw none refl

div_one : (n s : ℕ) → s ≡ 1 → n / s ≡ n
div_one n s one = rw one (omega arith)

no_rest : (n s : ℕ) → s ≡ 1 → not (eqb (n % s) 0) ≡ false
no_rest n s one = let none : n % s ≡ 0 = rw one (omega arith) in rw none refl

module _ (known : Lookup) (n : ℕ) (fits : n < 2 ^ 32) where
  -- the item of a network has the addresses that the network covers
  item_covers : (net : Block) → net.base.0 < 2 ^ 32 → equals_item known 32 n (item_of net) ≡ covers n net
  item_covers net base_fits = by (nat_lt net.len 32) (has_host_part net) refl refl
    where
      by : (short host : Bool) → nat_lt net.len 32 ≡ short → has_host_part net ≡ host
          → equals_item known 32 n (cond (short && not host) (Masked (as_ip4 net.base.0) (in_decimal net.len)) (One (as_ip4 net.base.0)))
          ≡ (host && eqb n net.base.0 || not host && eqb (n / size_of net) (net.base.0 / size_of net))
      by true true is has = sym (or-false (eqb n net.base.0))
      by false true is has = sym (or-false (eqb n net.base.0))
      by true false is has = let below = ltb-true net.len 32 is in prefix_tells n net.base.0 (32 - net.len) fits base_fits (omega arith)
      by false false is has =
          let one = whole_size net.len is in
          sym (ap (λ m. eqb m (net.base.0 / size_of net)) (div_one n (size_of net) one) ∙ ap (λ m. eqb n m) (div_one net.base.0 (size_of net) one))

  -- so those of networks have what one of them covers
  pub items_cover : (nets : List Block) → ((net : Block) → Contains nets net → net.base.0 < 2 ^ 32) → list_any (equals_item known 32 n) (map item_of nets) ≡ list_any (covers n) nets
  items_cover [] fit = refl
  items_cover (net ∷ nets) fit =
      ap (λ b. b || list_any (equals_item known 32 n) (map item_of nets)) (item_covers net (fit net (one_first net nets net refl)))
      ∙ ap (λ b. covers n net || b) (items_cover nets (λ other at. fit other (one_later net nets other at)))

  -- the networks that are written with a host part
  abbrev is_within : Block → Bool
  is_within net = nat_lt net.len 32 && has_host_part net

  -- the last address of a network
  abbrev last_of : Block → ℕ
  last_of net = net.base.0 / size_of net * size_of net + (size_of net - 1)

  -- the broadcast addresses of those
  broadcasts : (nets : List Block) → list_any (equals_item known 32 n) (map broadcast_of (filter is_within nets)) ≡ list_any (is_broadcast_of n) nets
  broadcasts [] = refl
  broadcasts (net ∷ nets) = by (nat_lt net.len 32) (has_host_part net) refl refl (broadcasts nets)
    where
      by : (short host : Bool) → nat_lt net.len 32 ≡ short → has_host_part net ≡ host
          → list_any (equals_item known 32 n) (map broadcast_of (filter is_within nets)) ≡ list_any (is_broadcast_of n) nets
          → list_any (equals_item known 32 n) (map broadcast_of (cond (short && host) (net ∷ filter is_within nets) (filter is_within nets))) ≡ (host && eqb n (last_of net) || list_any (is_broadcast_of n) nets)
      by true true is has rest = ap (λ b. eqb n (last_of net) || b) rest
      by true false is has rest = rest
      by false true is has rest = absurd (false≢true (sym (no_rest net.base.0 (size_of net) (whole_size net.len is)) ∙ has))
      by false false is has rest = rest

  -- multicast addresses are those of 224.0.0.0/4
  multicast_item : equals_item known 32 n (Masked (as_ip4 0xe000_0000) (in_decimal 4)) ≡ eqb (n / 2 ^ 28) 14
  multicast_item = prefix_tells n 0xe000_0000 28 fits (lit< tt) (lit≤ tt)

  -- the addresses for many
  pub items_are_for_many : (guard : Guard) → list_any (equals_item known 32 n) (items_for_many guard) ≡ is_for_many n guard.nets
  items_are_for_many guard =
      list_any-append (equals_item known 32 n) (map broadcast_of (filter is_within guard.nets)) (One (as_ip4 0xffff_ffff) ∷ Masked (as_ip4 0xe000_0000) (in_decimal 4) ∷ [])
      ∙ ap (λ b. b || (eqb n 0xffff_ffff || (equals_item known 32 n (Masked (as_ip4 0xe000_0000) (in_decimal 4)) || false))) (broadcasts guard.nets)
      ∙ ap (λ b. list_any (is_broadcast_of n) guard.nets || (eqb n 0xffff_ffff || b)) (or-false (equals_item known 32 n (Masked (as_ip4 0xe000_0000) (in_decimal 4))) ∙ multicast_item)
      ∙ sym (or_assoc (list_any (is_broadcast_of n) guard.nets) (eqb n 0xffff_ffff) (eqb (n / 2 ^ 28) 14))
