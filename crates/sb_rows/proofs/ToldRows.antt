-- What an index is filled with is what its rows ask.
use Rattle.std.proofs.Common.{◌≡◌, ℕ, zero, List, [], ◌∷◌, ◌++◌, Contains, ap, subst, refl, ◌⊎◌, inl, inr, arith}
use Rattle.std.proofs.lemmas.List.Elements.{Contains-append_left, Contains-append_right, Contains-push_cases}
use Rattle.expr_core.specs.Lookup.{Lookup}
use Rattle.pkt_core.specs.Packet.{Values}
use Rattle.sb_model.specs.declared.row.Row.{Row}
use Rattle.sb_rows.specs.declared.asks.Asks.{Asks}
use Rattle.sb_rows.specs.declared.index.Index.{Index}
use Rattle.sb_rows.specs.declared.index.Shaped.{Shaped}
use Rattle.sb_rows.specs.declared.index.Told.{Told}
use Rattle.sb_rows.specs.declared.own.Own.{Own}
use Rattle.sb_rows.specs.inner.Asks.{HasAsked, shape_of}
use Rattle.sb_rows.specs.inner.Index.{Covers, HasShape}
use Rattle.sb_rows.specs.inner.Own.{IsBucketOf}
use Rattle.sb_rows.specs.inner.Plain.{plain, short_of}
use Rattle.sb_rows.specs.inner.Told.{AreTold, IsAskedBy}
use Rattle.sb_rows.proofs.Covered.{AreKept, bucket_stays, covered_by}

-- a packet that has what is asked first has what is asked then, which is that, in short or at length
pub record Implies (first then : Asks) : Type 0 where
  pub asked : (net : Lookup) (packet : Values) → HasAsked first net packet → HasAsked then net packet
  pub told : (plain then ≡ plain first) ⊎ (plain then ≡ short_of (plain first))

-- what is told is filed in buckets of shapes
abbrev pub IsFiledIn : Told → List Shaped → Own → List (ℕ × ℕ) → Type 0
IsFiledIn t shapes own filled =
    (asks : Asks) × (Implies t.asks asks × (HasShape shapes (shape_of asks) t.place × ((bucket : ℕ) × (IsBucketOf own asks bucket × Contains filled (bucket, t.place)))))

abbrev pub AreFiled : List Told → List Shaped → Own → List (ℕ × ℕ) → Type 0
AreFiled told shapes own filled = (t : Told) → Contains told t → IsFiledIn t shapes own filled

-- the last element of a list is in it
last_is_there : {X : Type 0} (xs : List X) (x : X) → Contains (xs ++ x ∷ []) x
last_is_there xs x = Contains-append_right xs (x ∷ []) x (zero, omega arith, refl)

-- it is told of one row more
pub told_next : (told : List Told) (rows : List (ℕ × Row)) (place : ℕ) (row : Row) (asks : Asks) → IsAskedBy row asks → AreTold told rows
    → AreTold (told ++ record { place = place; asks = asks } ∷ []) (rows ++ (place, row) ∷ [])
told_next told rows place row asks asked so_far p r there = by (Contains-push_cases rows (place, row) (p, r) there)
  where
    new : Told
    new = record { place = place; asks = asks }

    by : Contains rows (p, r) ⊎ (◌≡◌ {A = ℕ × Row} (place, row) (p, r)) → (a : Asks) × (Contains (told ++ new ∷ []) (record { place = p; asks = a }) × IsAskedBy r a)
    by (inl old) = let it = so_far p r old in (it.0, (Contains-append_left told (new ∷ []) (record { place = p; asks = it.0 }) it.1.0, it.1.1))
    by (inr is) = (
      asks,
      (
        subst (λ (q : ℕ). Contains (told ++ new ∷ []) (record { place = q; asks = asks })) (ap (λ (e : ℕ × Row). e.0) is) (last_is_there told new),
        subst (λ (x : Row). IsAskedBy x asks) (ap (λ (e : ℕ × Row). e.1) is) asked,
      ),
    )

-- one more is filed
pub filed_next : (told : List Told) (before after : List Shaped) (own new : Own) (filled : List (ℕ × ℕ)) (t : Told) (asks : Asks) (bucket : ℕ) → Implies t.asks asks
    → ((s : Shaped) → Contains before s → Contains after s) → HasShape after (shape_of asks) t.place → AreKept own new → IsBucketOf new asks bucket → AreFiled told before own filled
    → AreFiled (told ++ t ∷ []) after new (filled ++ (bucket, t.place) ∷ [])
filed_next told before after own new filled t asks bucket implied kept shaped stays is_bucket so_far u there = by (Contains-push_cases told t u there)
  where
    by : Contains told u ⊎ (t ≡ u) → IsFiledIn u after new (filled ++ (bucket, t.place) ∷ [])
    by (inl old) =
        let it = so_far u old in
        let has = it.1.1.0 in
        let in_bucket = it.1.1.1 in
        (it.0, (it.1.0, ((has.0, (kept (record { shape = shape_of it.0; from = has.0 }) has.1.0, has.1.1)), (in_bucket.0, (bucket_stays own new it.0 in_bucket.0 stays in_bucket.1.0, Contains-append_left filled ((bucket, t.place) ∷ []) (in_bucket.0, u.place) in_bucket.1.1)))))
    by (inr is) =
        subst (λ (v : Told). IsFiledIn v after new (filled ++ (bucket, t.place) ∷ [])) is
        (asks, (implied, (shaped, (bucket, (is_bucket, last_is_there filled (bucket, t.place))))))

-- rows are covered by what is filed of them
pub covered_by_filed : (told : List Told) (rows : List (ℕ × Row)) (filled : List (ℕ × ℕ)) (index : Index) → AreTold told rows → AreFiled told index.shapes.items index.own filled
    → ((x : ℕ × ℕ) → Contains filled x → Contains index.filled x) → Covers index rows
covered_by_filed told rows filled index are filed all place row there =
    let it = are place row there in
    let own = filed (record { place = place; asks = it.0 }) it.1.0 in
    let in_bucket = own.1.1.1 in
    covered_by row place index it.0 own.0 (λ net packet takes. own.1.0.asked net packet (it.1.1.asked net packet takes)) it.1.1.told own.1.0.told
    (record { shaped = own.1.1.0; there = (in_bucket.0, (in_bucket.1.0, inl (all (in_bucket.0, place) in_bucket.1.1))) })
