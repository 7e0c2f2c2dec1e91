-- What an index has of its rows, as places come to it and are struck.
use Rattle.std.proofs.Common.{◌≡◌, ℕ, Bool, true, false, cond, List, [], ◌∷◌, ◌++◌, ap, sym, subst, refl, ◌∙◌, ◌⊎◌, inl, inr, Ok, Err}
use Rattle.std.specs.Prelude.{Contains, OnOk, Option, Result, Some}
use Rattle.std.specs.BTreeMap.{is_at}
use Rattle.std.specs.BTreeSet.{BTreeSet, contains}
use Rattle.std.specs.Ordering.{nat_cmp}
use Rattle.std.proofs.lemmas.Cmp.{tied_itself}
use Rattle.std.proofs.lemmas.List.Elements.{Contains-push_cases}
use Rattle.std.proofs.lemmas.Map.Lookups.{CmpEqualImpliesEq, exact_pairs, exact_unsigned}
use Rattle.std.proofs.lemmas.Map.Views.{btree_set_contains_iff, tells_apart}
use Rattle.expr_core.specs.Lookup.{Lookup}
use Rattle.expr_eval.specs.MatchMeaning.{holds}
use Rattle.pkt_core.specs.Packet.{Values}
use Rattle.sb_model.specs.declared.row.Row.{Row}
use Rattle.sb_rows.specs.declared.asks.Asks.{Asks}
use Rattle.sb_rows.specs.declared.index.Index.{Index}
use Rattle.sb_rows.specs.declared.index.Shaped.{Shaped}
use Rattle.sb_rows.specs.declared.own.Own.{Own}
use Rattle.sb_rows.specs.inner.Asks.{HasAsked, bucket_of, name_of, numbers_of, shape_of}
use Rattle.sb_rows.specs.inner.Filled.{pair_cmp}
use Rattle.sb_rows.proofs.InOrder.{pairs_total}
use Rattle.sb_rows.specs.inner.Index.{Covers, IsCovered, IsFiled, IsIn}
use Rattle.sb_rows.specs.inner.Own.{IsBucketOf, own_bucket}
use Rattle.sb_rows.specs.inner.Plain.{IsOf, asked_by, plain, short_of}

pub pairs_exact : CmpEqualImpliesEq pair_cmp
pairs_exact = exact_pairs nat_cmp nat_cmp exact_unsigned exact_unsigned

-- ---- the other places

-- a key that a set has got is in it
pub key_put : (after : BTreeSet (ℕ × ℕ)) (key : ℕ × ℕ) (old : Bool) → contains pair_cmp after key ≡ cond (is_at (pair_cmp key) key) true old → Contains after.keys key
key_put after key old put = (btree_set_contains_iff pairs_total pairs_exact after key).0 (put ∙ rw (tied_itself pairs_total key) refl)

-- each key stays when one is put
pub key_stays : (before after : BTreeSet (ℕ × ℕ)) (key x : ℕ × ℕ) → contains pair_cmp after x ≡ cond (is_at (pair_cmp key) x) true (contains pair_cmp before x) → Contains before.keys x → Contains after.keys x
key_stays before after key x put there = (btree_set_contains_iff pairs_total pairs_exact after x).0 (put ∙ by (is_at (pair_cmp key) x))
  where
    was : contains pair_cmp before x ≡ true
    was = (btree_set_contains_iff pairs_total pairs_exact before x).1 there

    by : (b : Bool) → cond b true (contains pair_cmp before x) ≡ true
    by true = refl
    by false = was

-- each other key stays when one is taken
pub key_spared : (before after : BTreeSet (ℕ × ℕ)) (key x : ℕ × ℕ) → (x ≡ key → ⊥) → (is_at (pair_cmp key) x ≡ false → contains pair_cmp after x ≡ contains pair_cmp before x) → Contains before.keys x → Contains after.keys x
key_spared before after key x other taken there = (btree_set_contains_iff pairs_total pairs_exact after x).0 (by (is_at (pair_cmp key) x) refl)
  where
    by : (b : Bool) → is_at (pair_cmp key) x ≡ b → contains pair_cmp after x ≡ true
    by true same = absurd (other (sym (tells_apart pairs_exact key x same)))
    by false apart = taken apart ∙ (btree_set_contains_iff pairs_total pairs_exact before x).1 there

-- ---- the rows that are covered

-- each bucket of its own stays that
abbrev pub AreKept : Own → Own → Type 0
AreKept before after = (name : Option (List ℕ)) (shared : ℕ) (numbers : ℕ × ℕ × ℕ) (bucket : ℕ) → own_bucket before name shared numbers ≡ Some bucket → own_bucket after name shared numbers ≡ Some bucket

-- a bucket of what is asked stays one
pub bucket_stays : (before after : Own) (asks : Asks) (bucket : ℕ) → AreKept before after → IsBucketOf before asks bucket → IsBucketOf after asks bucket
bucket_stays before after asks bucket kept (inl shared) = inl shared
bucket_stays before after asks bucket kept (inr own) = inr (kept (name_of asks.port) (bucket_of asks) (numbers_of asks) bucket own)

-- a row is covered by what its match asks
pub covered_by : (row : Row) (place : ℕ) (index : Index) (first asks : Asks) → ((net : Lookup) (packet : Values) → holds net packet row.matching ≡ true → HasAsked asks net packet) → plain first ≡ asked_by row.matching
    → (plain asks ≡ plain first) ⊎ (plain asks ≡ short_of (plain first)) → IsFiled asks place index → IsCovered row place index
covered_by row place index first asks asked first_told told filed = (asks, (record { asked = asked; told = by told }, filed))
  where
    by : (plain asks ≡ plain first) ⊎ (plain asks ≡ short_of (plain first)) → IsOf row.matching (plain asks)
    by (inl all) = inl (all ∙ first_told)
    by (inr short) = inr (short ∙ ap short_of first_told)

-- what follows from what is so where something went well is so there
pub on_ok : {T E : Type 0} (result : Result T E) (P Q : Type 0) → (P → Q) → OnOk result P → OnOk result Q
on_ok (Ok x) P Q follows p = follows p
on_ok (Err e) P Q follows p = tt

-- a row that is covered stays so where shapes and places are added
pub covered_more : (row : Row) (place : ℕ) (before after : Index) → ((s : Shaped) → Contains before.shapes.items s → Contains after.shapes.items s) → AreKept before.own after.own
    → ((b : ℕ) → IsIn before b place → IsIn after b place) → IsCovered row place before → IsCovered row place after
covered_more row place before after shapes own held covered =
    let it = covered in
    let has = it.1.1.shaped in
    let there = it.1.1.there in (
      it.0,
      (
        it.1.0,
        record {
          shaped = (has.0, (shapes (record { shape = shape_of it.0; from = has.0 }) has.1.0, has.1.1));
          there = (there.0, (bucket_stays before.own after.own it.0 there.0 own there.1.0, held there.0 there.1.1));
        },
      ),
    )

-- a row that is covered stays so where its place stays among those that came since
pub covered_struck : (row : Row) (place : ℕ) (before after : Index) → after ≡ record before { more = after.more } → ((b : ℕ) → Contains before.more.keys (b, place) → Contains after.more.keys (b, place))
    → IsCovered row place before → IsCovered row place after
covered_struck row place before after same spared covered =
    subst (λ (i : Index). IsCovered row place i) (sym same)
    (covered_more row place before (record before { more = after.more }) (λ s there. there) (λ name shared numbers bucket is. is) (λ b. in_bucket b) covered)
  where
    in_bucket : (b : ℕ) → Contains before.filled (b, place) ⊎ Contains before.more.keys (b, place) → Contains before.filled (b, place) ⊎ Contains after.more.keys (b, place)
    in_bucket b (inl filled) = inl filled
    in_bucket b (inr more) = inr (spared b more)

-- one more row is covered
pub covered_next : (rows : List (ℕ × Row)) (place : ℕ) (row : Row) (before after : Index) → ((r : Row) (p : ℕ) → IsCovered r p before → IsCovered r p after) → IsCovered row place after
    → Covers before rows → Covers after (rows ++ (place, row) ∷ [])
covered_next rows place row before after kept added covers p r there = by (Contains-push_cases rows (place, row) (p, r) there)
  where
    by : Contains rows (p, r) ⊎ (◌≡◌ {A = ℕ × Row} (place, row) (p, r)) → IsCovered r p after
    by (inl old) = kept r p (covers p r old)
    by (inr is) = subst (λ (e : ℕ × Row). IsCovered e.1 e.0 after) is added
