-- What rows ask of addresses and networks means that the address is among them, or of the network.
use Rattle.std.proofs.Common.{◌≡◌, ℕ, ◌-◌, ◌*◌, ◌/◌, ◌^◌, ◌<◌, ◌≤◌, Bool, true, false, List, [], ◌∷◌, map, eqb, sym, ap, refl, ◌∙◌, arith}
use Rattle.std.specs.Prelude.{◌||◌, bit_and}
use Rattle.std.specs.List.{AllByRecursion, list_any}
use Rattle.std.proofs.lemmas.Bool.{eqb-true, eq-eqb, false≢true}
use Rattle.std.proofs.lemmas.Nat.{pow_pos}
use Rattle.std.proofs.lemmas.Nat.Bits.{and_high_mask}
use Rattle.std.proofs.Math.Nat.{div-mul-le_self, mul-div_cancel}
use Rattle.nv_base.specs.Block.{Block}
use Rattle.nv_base.specs.declared.ip4.Ip4.{Ip4}
use Rattle.expr_core.specs.Lookup.{Lookup}
use Rattle.expr_eval.specs.Relation.{equals_item}
use Rattle.nb_read.specs.Readings.{cleared}
use Rattle.nb_model.specs.Addresses.{size_of}
use Rattle.net_meaning.specs.Switches.{is_among_ips}
use Rattle.net_router.specs.Input.{is_in_network}
use Rattle.net_rows.proofs.SoundObjects.{IsBlock}
use Rattle.lr_rows.specs.Make.{addresses_of, as_address, as_network, networks_of}

-- numbers times a number that is not zero are equal where they are
same_times : (a b s : ℕ) → 0 < s → eqb (a * s) (b * s) ≡ eqb a b
same_times a b s positive = by (eqb a b) refl (eqb (a * s) (b * s)) refl
  where
    by : (p : Bool) → eqb a b ≡ p → (q : Bool) → eqb (a * s) (b * s) ≡ q → q ≡ p
    by true e true f = refl
    by true e false f = absurd (false≢true (sym f ∙ eq-eqb (a * s) (b * s) (ap (λ n. n * s) (eqb-true a b e))))
    by false e true f = absurd (false≢true (sym e ∙ eq-eqb a b (sym (mul-div_cancel a positive) ∙ ap (λ n. n / s) (eqb-true (a * s) (b * s) f) ∙ mul-div_cancel b positive)))
    by false e false f = refl

-- numbers of 32 bits agree in the bits of a prefix where they agree without the bits after it
pub prefix_tells : (n base k : ℕ) → n < 2 ^ 32 → base < 2 ^ 32 → k ≤ 32 → eqb (bit_and n (2 ^ 32 - 2 ^ k)) (bit_and base (2 ^ 32 - 2 ^ k)) ≡ eqb (n / 2 ^ k) (base / 2 ^ k)
prefix_tells n base k n_fits base_fits within =
    ap (λ m. eqb m (bit_and base (2 ^ 32 - 2 ^ k))) (and_high_mask 32 k within n n_fits)
    ∙ ap (λ m. eqb (n / 2 ^ k * 2 ^ k) m) (and_high_mask 32 k within base base_fits)
    ∙ same_times (n / 2 ^ k) (base / 2 ^ k) (2 ^ k) (pow_pos k)

-- a network without its host part begins as with it
cleared_begins : (base s : ℕ) → 0 < s → base / s * s / s ≡ base / s
cleared_begins base s positive = mul-div_cancel (base / s) positive

below_itself : (base s : ℕ) → base < 2 ^ 32 → base / s * s < 2 ^ 32
below_itself base s fits = let less : base / s * s ≤ base = div-mul-le_self base s in omega (arith, less, fits)

module _ (known : Lookup) (n : ℕ) (fits : n < 2 ^ 32) where
  -- of one network, whose host part is cleared or not
  pub network_item : (net : Block) → IsBlock net → equals_item known 32 n (as_network net) ≡ is_in_network n net
  network_item net is = prefix_tells n net.base.0 (32 - net.len) fits is.base (omega arith)

  pub cleared_item : (net : Block) → IsBlock net → equals_item known 32 n (as_network (cleared net)) ≡ is_in_network n net
  cleared_item net is =
      let s = size_of net in
      prefix_tells n (net.base.0 / s * s) (32 - net.len) fits (below_itself net.base.0 s is.base) (omega arith)
      ∙ ap (λ m. eqb (n / s) m) (cleared_begins net.base.0 s (pow_pos (32 - net.len)))

  -- of several
  pub networks_item : (nets : List Block) → AllByRecursion IsBlock nets → list_any (equals_item known 32 n) (networks_of nets) ≡ list_any (is_in_network n) nets
  networks_item [] are = refl
  networks_item (net ∷ nets) are =
      ap (λ b. b || list_any (equals_item known 32 n) (networks_of nets)) (cleared_item net are.0) ∙ ap (λ b. is_in_network n net || b) (networks_item nets are.1)

module _ (known : Lookup) (n : ℕ) where
  -- of addresses
  pub addresses_item : (addrs : List Ip4) → list_any (equals_item known 32 n) (map as_address addrs) ≡ is_among_ips n addrs
  addresses_item [] = refl
  addresses_item (addr ∷ addrs) = (λ i. turned addr.0 i || addresses_item addrs i)
    where
      turned : (m : ℕ) → eqb n m ≡ eqb m n
      turned m = by (eqb n m) refl (eqb m n) refl
        where
          by : (p : Bool) → eqb n m ≡ p → (q : Bool) → eqb m n ≡ q → p ≡ q
          by true e true f = refl
          by true e false f = absurd (false≢true (sym f ∙ eq-eqb m n (sym (eqb-true n m e))))
          by false e true f = absurd (false≢true (sym e ∙ eq-eqb n m (sym (eqb-true m n f))))
          by false e false f = refl

  -- of those of networks
  pub addresses_of_item : (nets : List Block) → list_any (equals_item known 32 n) (addresses_of nets) ≡ is_among_ips n (map (λ net. net.base) nets)
  addresses_of_item nets = ap (λ items. list_any (equals_item known 32 n) items) (same_items nets) ∙ addresses_item (map (λ net. net.base) nets)
    where
      same_items : (ns : List Block) → addresses_of ns ≡ map as_address (map (λ net. net.base) ns)
      same_items [] = refl
      same_items (m ∷ ns) = ap (λ items. as_address m.base ∷ items) (same_items ns)
