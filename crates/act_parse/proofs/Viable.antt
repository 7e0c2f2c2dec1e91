-- The place at which a reading stops: what is before it is the front of a text of some kind.
use Rattle.std.proofs.Common.{◌≡◌, ℕ, List, [], ◌++◌, length, refl, ap, sym, subst, ◌∙◌, append_assoc}
use Rattle.act_parse.specs.inner.Reading.{Reading, and_then}
use Rattle.act_parse.specs.inner.Reading.Reading.{Read, Stuck}

-- The text has so many bytes after some front, and the front goes on to a text of this kind.
pub record Viable (Kind : List ℕ → Type 0) (text : List ℕ) (left : ℕ) : Type 0 where
  pub front : List ℕ
  pub after : List ℕ
  pub more : List ℕ
  pub whole : text ≡ front ++ after
  pub size : length after ≡ left
  pub goes_on : Kind (front ++ more)

-- nothing is before the place, and this is a text of the kind
pub here : {Kind : List ℕ → Type 0} (text more : List ℕ) (left : ℕ) → left ≡ length text → Kind more → Viable Kind text left
here text more left all good = record { front = []; after = text; more = more; whole = refl; size = sym all; goes_on = good }

-- the place is after these bytes
pub past : {Kind : List ℕ → Type 0} (before rest text : List ℕ) (left : ℕ) → text ≡ before ++ rest → Viable (λ xs. Kind (before ++ xs)) rest left → Viable Kind text left
past {Kind} before rest text left is v = record {
  front = before ++ v.front;
  after = v.after;
  more = v.more;
  whole = is ∙ ap (λ xs. before ++ xs) v.whole ∙ sym (append_assoc before v.front v.after);
  size = v.size;
  goes_on = subst Kind (sym (append_assoc before v.front v.more)) v.goes_on;
}

-- texts of one kind, before these bytes, are of another kind
pub among : {Kind Other : List ℕ → Type 0} (end text : List ℕ) (left : ℕ) → ((xs : List ℕ) → Kind xs → Other (xs ++ end)) → Viable Kind text left → Viable Other text left
among {Kind} {Other} end text left is v = record {
  front = v.front;
  after = v.after;
  more = v.more ++ end;
  whole = v.whole;
  size = v.size;
  goes_on = subst Other (append_assoc v.front v.more end) (is (v.front ++ v.more) v.goes_on);
}

-- texts of one kind are of another kind
pub also : {Kind Other : List ℕ → Type 0} (text : List ℕ) (left : ℕ) → ((xs : List ℕ) → Kind xs → Other xs) → Viable Kind text left → Viable Other text left
also text left is v = record { front = v.front; after = v.after; more = v.more; whole = v.whole; size = v.size; goes_on = is (v.front ++ v.more) v.goes_on }

-- two readings, one after the other, stop in the first, or in the second after the first
pub sequel : {S T A : Type 0} (r : Reading S) (k : S → List ℕ → Reading T) (left : ℕ) → and_then r k ≡ Stuck left → (r ≡ Stuck left → A) → ((s : S) (rest : List ℕ) → r ≡ Read s rest → k s rest ≡ Stuck left → A) → A
sequel (Read s rest) k left e first second = second s rest refl e
sequel (Stuck n) k left e first second = let same : n ≡ left = cc in first (ap (λ (m : ℕ). Stuck m) same)
