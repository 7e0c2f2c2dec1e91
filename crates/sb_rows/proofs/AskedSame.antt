-- What is asked by equal matches has the same buckets.
use Rattle.std.proofs.Common.{◌≡◌, ℕ, List, ap, sym, subst, refl, ◌∙◌, ◌⊎◌, inl, inr}
use Rattle.std.specs.Prelude.{Option, None, Some}
use Rattle.sb_model.specs.declared.row.Row.{Row}
use Rattle.sb_rows.specs.declared.asks.Asks.{Asks}
use Rattle.sb_rows.specs.declared.asks.Called.{Called}
use Rattle.sb_rows.specs.declared.asks.Side.{Side}
use Rattle.sb_rows.specs.declared.index.Index.{Index}
use Rattle.sb_rows.specs.declared.own.Own.{Own}
use Rattle.sb_rows.specs.inner.Asks.{bucket_of, name_of, numbers_of, port_bucket, shape_of, side_of}
use Rattle.sb_rows.specs.inner.Index.{IsCovered, IsHeld, IsIn}
use Rattle.sb_rows.specs.inner.Own.{own_bucket}
use Rattle.sb_rows.specs.inner.Plain.{IsOf, Plain, asked_by, plain, plain_port, short_of}
use Rattle.sb_rows.proofs.Probed.{asked_bucket}

abbrev port_side : Option (Side × (List ℕ × ℕ)) → Option Side
port_side None = None
port_side (Some port) = Some port.0

abbrev port_name : Option (Side × (List ℕ × ℕ)) → Option (List ℕ)
port_name None = None
port_name (Some port) = Some port.1.0

abbrev port_number : Option (Side × (List ℕ × ℕ)) → ℕ
port_number None = 0
port_number (Some port) = port.1.1

side_is : (port : Option (Side × Called)) → side_of port ≡ port_side (plain_port port)
side_is None = refl
side_is (Some port) = refl

name_is : (port : Option (Side × Called)) → name_of port ≡ port_name (plain_port port)
name_is None = refl
name_is (Some port) = refl

number_is : (port : Option (Side × Called)) → port_bucket port ≡ port_number (plain_port port)
number_is None = refl
number_is (Some port) = refl

module _ (one other : Asks) (same : plain one ≡ plain other) where
  same_side : side_of one.port ≡ side_of other.port
  same_side = side_is one.port ∙ ap (λ (p : Plain). port_side p.port) same ∙ sym (side_is other.port)

  same_shape : shape_of one ≡ shape_of other
  same_shape i = record { port = same_side i; first = (same i).first.part; second = (same i).second.part; third = (same i).third.part }

  same_name : name_of one.port ≡ name_of other.port
  same_name = name_is one.port ∙ ap (λ (p : Plain). port_name p.port) same ∙ sym (name_is other.port)

  same_number : port_bucket one.port ≡ port_bucket other.port
  same_number = number_is one.port ∙ ap (λ (p : Plain). port_number p.port) same ∙ sym (number_is other.port)

  same_numbers : numbers_of one ≡ numbers_of other
  same_numbers i = ((same i).first.number, (same i).second.number, (same i).third.number)

  same_bucket : bucket_of one ≡ bucket_of other
  same_bucket = asked_bucket one (shape_of other) (port_bucket other.port) (numbers_of other) same_shape same_number same_numbers

  same_own : (index : Index) → own_bucket index.own (name_of one.port) (bucket_of one) (numbers_of one) ≡ own_bucket index.own (name_of other.port) (bucket_of other) (numbers_of other)
  same_own index i = own_bucket index.own (same_name i) (same_bucket i) (same_numbers i)

pub own_is : (own : Own) (n m : Option (List ℕ)) (s t : ℕ) (x y : ℕ × ℕ × ℕ) → n ≡ m → s ≡ t → x ≡ y → own_bucket own n s x ≡ own_bucket own m t y
own_is own n m s t x y named shared numbered i = own_bucket own (named i) (shared i) (numbered i)

-- a place that is in neither bucket of what is asked is held by nothing that asks the same
pub not_held : (index : Index) (one other : Asks) (p : ℕ) (own : Option ℕ) → plain other ≡ plain one → own ≡ own_bucket index.own (name_of one.port) (bucket_of one) (numbers_of one)
    → (IsIn index (bucket_of one) p → ⊥) → ((bucket : ℕ) → own ≡ Some bucket → IsIn index bucket p → ⊥) → IsHeld index other p → ⊥
not_held index one other p own same told shared owned (bucket, (is, there)) = by is
  where
    by : (bucket ≡ bucket_of other) ⊎ (own_bucket index.own (name_of other.port) (bucket_of other) (numbers_of other) ≡ Some bucket) → ⊥
    by (inl at) = shared (subst (λ (b : ℕ). IsIn index b p) (at ∙ same_bucket other one same) there)
    by (inr at) = owned bucket (told ∙ sym (same_own other one same index) ∙ at) there

-- and one that is held by nothing that asks what the row's match does, in short or at length, is not that of the row
pub not_there : (row : Row) (place : ℕ) (index : Index) (one short : Asks) → plain one ≡ asked_by row.matching → plain short ≡ short_of (plain one)
    → ((other : Asks) → plain other ≡ plain one → IsHeld index other place → ⊥) → ((other : Asks) → plain other ≡ plain short → IsHeld index other place → ⊥) → IsCovered row place index → ⊥
not_there row place index one short told shortly full brief (other, (of, filed)) = by of.told
  where
    by : IsOf row.matching (plain other) → ⊥
    by (inl all) = full other (all ∙ sym told) filed.there
    by (inr in_short) = brief other (in_short ∙ sym (ap short_of told) ∙ sym shortly) filed.there
