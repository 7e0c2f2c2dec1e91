-- Records whose numbers rise.
use Rattle.std.proofs.Common.{ℕ, ◌<◌, nat_lt, List, [], ◌∷◌, map}
use Rattle.std.specs.Bool.{IsTrue}
use Rattle.std.specs.List.{AllByRecursion, list_all}
use Rattle.std.proofs.lemmas.Bool.{and_parts, ltb-true}
use Rattle.nv_base.specs.declared.object.ObjId.{ObjId}
use Rattle.nb_model.specs.Sound.{is_rising}
use Rattle.nv_table.specs.Table.{NumbersRise}

module _ {R : Type 0} (number : R → ObjId) where
  all_above : (n : ℕ) (rs : List R) → IsTrue (list_all (λ later. nat_lt n later.0) (map number rs)) → AllByRecursion (λ r. n < (number r).0) rs
  all_above n [] all = tt
  all_above n (r ∷ rs) all =
      let parts = and_parts (nat_lt n (number r).0) (list_all (λ later. nat_lt n later.0) (map number rs)) all in
      (ltb-true n (number r).0 parts.0, all_above n rs parts.1)

  pub rises : (rs : List R) → IsTrue (is_rising (map number rs)) → NumbersRise number rs
  rises [] all = tt
  rises (r ∷ rs) all =
      let parts = and_parts (list_all (λ later. nat_lt (number r).0 later.0) (map number rs)) (is_rising (map number rs)) all in
      (all_above (number r).0 rs parts.0, rises rs parts.1)
