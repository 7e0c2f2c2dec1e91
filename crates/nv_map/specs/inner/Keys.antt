-- A key is a probe of itself.
use Rattle.std.specs.Prelude.{◌≡◌, false, refl}
use Rattle.std.proofs.Common.{◌∙◌}
use Rattle.std.proofs.lemmas.Bool.{true≢false}
use Rattle.std.specs.Cmp.{IsTotalOrder}
use Rattle.std.specs.Ordering.{is_gt}
use Rattle.std.specs.declared.cmp.Ordering.{Ordering}
use Rattle.std.specs.declared.cmp.Ordering.TheVariants.{Less, Equal, Greater}
use Rattle.nv_map.specs.Map.{PartsKeys}

module _ {K : Type 0} {cmp : K → K → Ordering} (o : IsTotalOrder cmp) where
  below_by : (k x : K) (r : Ordering) → cmp k x ≡ r → is_gt r ≡ false → (y : K) → cmp x y ≡ Less → cmp k y ≡ Less
  below_by k x Less e h y above = o.trans k x y e above
  below_by k x Equal e h y above = o.congr k x y e ∙ above
  below_by k x Greater e h y above = absurd (true≢false h)

  -- a key parts the keys
  pub keys_part : (k : K) → PartsKeys cmp (cmp k)
  keys_part k = record { below = λ a b above h. below_by k a (cmp k a) refl h b above }
