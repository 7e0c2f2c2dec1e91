-- One ACL after another, until one is as it is asked for.
use Rattle.std.proofs.Common.{◌≡◌, ℕ, ◌<◌, ◌≤◌, ◌==◌, Bool, true, false, cond, not, ◌&&◌, List, [], ◌∷◌, Option, Some, None, arith, refl, sym, ap, ◌∙◌, subst, length, nat_lt}
use Rattle.std.proofs.lemmas.Bool.{and_parts, lt-ltb, ltb-true}
use Rattle.std.proofs.lemmas.Bool.Decides.{nat_tests}
use Rattle.std.proofs.lemmas.Slice.Eq.{bytes_eq-Decides}
use Rattle.std.specs.Prelude.{find, filter, ◌↔◌}
use Rattle.std.specs.Bool.{IsTrue}
use Rattle.std.specs.List.{AllByRecursion}
use Rattle.std.specs.Str.{bytes_eq}
use Rattle.expr_check.specs.Printed.{IsPrintable}
use Rattle.expr_check.proofs.Passed.{apart}
use Rattle.expr_digest.specs.Digest.{digest}
use Rattle.expr_core.specs.Formula.{Formula}
use Rattle.expr_core.specs.Text.{typed_text}
use Rattle.expr_core.specs.declared.role.Role.{Role}
use Rattle.expr_core.specs.declared.typed.TypedAtom.{TypedAtom}
use Rattle.nv_base.specs.declared.object.ObjId.{ObjId}
use Rattle.nb_records.specs.declared.acl.Acl.{Acl}
use Rattle.nb_records.specs.declared.acl.Way.{Way}
use Rattle.nb_records.specs.declared.acl.Way.TheVariants.{From, To}
use Rattle.nb_read.specs.Readings.{role_of}
use Rattle.nb_model.specs.Belongs.{same_way}
use Rattle.nb_model.specs.Effect.{without}
use Rattle.nb_model.specs.Network.{Network, same}
use Rattle.nb_model.proofs.RecordLists.{found_holds}
use Rattle.nv_table.specs.Table.{NumbersRise, has_number, is_after, without_number}

-- of all of them, one that is found
found_all : {R : Type 0} (P : R → Type 0) (p : R → Bool) (x : R) (rs : List R) → find p rs ≡ Some x → AllByRecursion P rs → P x
found_all P p x [] found all = absurd (cc)
found_all {R} P p x (y ∷ rs) found all = by (p y) found (λ f. found_all P p x rs f all.1)
  where
    by : (b : Bool) → cond b (Some y) (find p rs) ≡ Some x → (find p rs ≡ Some x → P x) → P x
    by true f more = let own : y ≡ x = cc in subst P own all.0
    by false f more = more f

fails : (a b : Bool) → (IsTrue a → IsTrue b) → b ≡ false → a ≡ false
fails true b narrow e = let is = narrow refl in absurd (cc)
fails false b narrow e = refl

module _ {R : Type 0} (wide like : R → Bool) (narrow : (r : R) → IsTrue (like r) → IsTrue (wide r)) where
  pub none_narrow : (rs : List R) → find wide rs ≡ None → find like rs ≡ None
  none_narrow [] none = refl
  none_narrow (r ∷ rs) none = by (wide r) refl none (none_narrow rs)
    where
      by : (b : Bool) → wide r ≡ b → cond b (Some r) (find wide rs) ≡ None → (find wide rs ≡ None → find like rs ≡ None) → cond (like r) (Some r) (find like rs) ≡ None
      by true e f more = absurd (cc)
      by false e f more = ap (λ b. cond b (Some r) (find like rs)) (fails (like r) (wide r) (narrow r) e) ∙ more f

  pub found_narrow : (x : R) (rs : List R) → find wide rs ≡ Some x → like x ≡ true → find like rs ≡ Some x
  found_narrow x [] found is = absurd (cc)
  found_narrow x (r ∷ rs) found is = by (wide r) refl found (found_narrow x rs)
    where
      by : (b : Bool) → wide r ≡ b → cond b (Some r) (find wide rs) ≡ Some x → (find wide rs ≡ Some x → like x ≡ true → find like rs ≡ Some x) → cond (like r) (Some r) (find like rs) ≡ Some x
      by true e f more = let own : r ≡ x = cc in ap (λ b. cond b (Some r) (find like rs)) (ap like own ∙ is) ∙ f
      by false e f more = ap (λ b. cond b (Some r) (find like rs)) (fails (like r) (wide r) (narrow r) e) ∙ more f is

not_below : (a : ℕ) → nat_lt a a ≡ false
not_below a = grind (arith, nat_tests)

not_above : (a b : ℕ) → a < b → nat_lt b a ≡ false
not_above a b lt = grind (arith, nat_tests, lt)

after_more : (after : Option ObjId) (a b : ObjId) → is_after after a ≡ true → a.0 < b.0 → is_after after b ≡ true
after_more None a b is lt = refl
after_more (Some low) a b is lt = let below = ltb-true low.0 a.0 is in lt-ltb low.0 b.0 (omega (arith, below, lt))

module _ {R : Type 0} (number : R → ObjId) (after : Option ObjId) (says : R → Bool) where
  abbrev wide_at : R → Bool
  wide_at r = is_after after (number r) && says r

  -- all of them are after both
  both_after : (x : R) (like : R → Bool) (rs : List R) → is_after after (number x) ≡ true → AllByRecursion (λ r. (number x).0 < (number r).0) rs
      → find (λ r. is_after (Some (number x)) (number r) && like r) rs ≡ find (λ r. is_after after (number r) && like r) rs
  both_after x like [] is all = refl
  both_after x like (r ∷ rs) is all =
      ap (λ b. cond (b && like r) (Some r) (find (λ r. is_after (Some (number x)) (number r) && like r) rs)) (lt-ltb (number x).0 (number r).0 all.0 ∙ sym (after_more after (number x) (number r) is all.0))
      ∙ ap (λ o. cond (is_after after (number r) && like r) (Some r) o) (both_after x like rs is all.1)

  -- the one that is found is not as it is asked for: those after it are left
  pub next_like : (like : R → Bool) → ((r : R) → IsTrue (like r) → IsTrue (says r)) → (x : R) (rs : List R) → find wide_at rs ≡ Some x → like x ≡ false → NumbersRise number rs
      → find (λ r. is_after (Some (number x)) (number r) && like r) rs ≡ find (λ r. is_after after (number r) && like r) rs
  next_like like narrow x [] found other rise = refl
  next_like like narrow x (y ∷ rs) found other rise = by (is_after after (number y)) (says y) refl refl found (λ f. next_like like narrow x rs f other rise.1)
    where
      now : R → Bool
      now r = is_after (Some (number x)) (number r) && like r

      old : R → Bool
      old r = is_after after (number r) && like r

      no_more : (a : Bool) → (a && false) ≡ false
      no_more true = refl
      no_more false = refl

      skip : now y ≡ false → old y ≡ false → find now rs ≡ find old rs → find now (y ∷ rs) ≡ find old (y ∷ rs)
      skip e f more = ap (λ b. cond b (Some y) (find now rs)) e ∙ more ∙ sym (ap (λ b. cond b (Some y) (find old rs)) f)

      before : find wide_at rs ≡ Some x → now y ≡ false
      before f = ap (λ b. b && like y) (not_above (number y).0 (number x).0 (found_all (λ r. (number y).0 < (number r).0) wide_at x rs f rise.0))

      by : (a s : Bool) → is_after after (number y) ≡ a → says y ≡ s → cond (a && s) (Some y) (find wide_at rs) ≡ Some x → (find wide_at rs ≡ Some x → find now rs ≡ find old rs)
          → find now (y ∷ rs) ≡ find old (y ∷ rs)
      by true true e g f more =
          let own : y ≡ x = cc in
          skip (ap (λ r. is_after (Some (number x)) (number r) && like r) own ∙ ap (λ b. b && like x) (not_below (number x).0)) (ap (λ b. is_after after (number y) && b) (ap like own ∙ other) ∙ no_more (is_after after (number y)))
          (both_after x like rs (sym (ap (λ r. is_after after (number r)) own) ∙ e) (subst (λ z. AllByRecursion (λ r. (number z).0 < (number r).0) rs) own rise.0))
      by true false e g f more = skip (before f) (ap (λ b. is_after after (number y) && b) (fails (like y) (says y) (narrow y) g) ∙ no_more (is_after after (number y))) (more f)
      by false s e g f more = skip (before f) (ap (λ b. b && like y) e) (more f)

  all_after : (x : R) (rs : List R) → is_after after (number x) ≡ true → AllByRecursion (λ r. (number x).0 < (number r).0) rs
      → length (filter (λ r. is_after (Some (number x)) (number r)) rs) ≤ length (filter (λ r. is_after after (number r)) rs)
  all_after x [] is all = omega arith
  all_after x (r ∷ rs) is all =
      let more = all_after x rs is all.1 in
      subst (λ b. length (cond b (r ∷ filter (λ r. is_after (Some (number x)) (number r)) rs) (filter (λ r. is_after (Some (number x)) (number r)) rs)) ≤ length (filter (λ r. is_after after (number r)) (r ∷ rs)))
      (sym (lt-ltb (number x).0 (number r).0 all.0))
      (subst (λ b. length (r ∷ filter (λ r. is_after (Some (number x)) (number r)) rs) ≤ length (cond b (r ∷ filter (λ r. is_after after (number r)) rs) (filter (λ r. is_after after (number r)) rs)))
      (sym (after_more after (number x) (number r) is all.0)) (omega (arith, more)))

  -- fewer are left
  pub fewer_after : (x : R) (rs : List R) → find wide_at rs ≡ Some x → NumbersRise number rs
      → length (filter (λ r. is_after (Some (number x)) (number r)) rs) < length (filter (λ r. is_after after (number r)) rs)
  fewer_after x [] found rise = absurd (cc)
  fewer_after x (y ∷ rs) found rise = by (is_after after (number y)) (says y) refl found (λ f. fewer_after x rs f rise.1)
    where
      now : List R
      now = filter (λ r. is_after (Some (number x)) (number r)) rs

      old : List R
      old = filter (λ r. is_after after (number r)) rs

      before : (a : Bool) → find wide_at rs ≡ Some x → length now < length old → length (filter (λ r. is_after (Some (number x)) (number r)) (y ∷ rs)) < length (cond a (y ∷ old) old)
      before a f more =
          subst (λ b. length (cond b (y ∷ now) now) < length (cond a (y ∷ old) old)) (sym (not_above (number y).0 (number x).0 (found_all (λ r. (number y).0 < (number r).0) wide_at x rs f rise.0))) (longer a)
        where
          longer : (a : Bool) → length now < length (cond a (y ∷ old) old)
          longer true = omega (arith, more)
          longer false = more

      by : (a s : Bool) → is_after after (number y) ≡ a → cond (a && s) (Some y) (find wide_at rs) ≡ Some x → (find wide_at rs ≡ Some x → length now < length old)
          → length (filter (λ r. is_after (Some (number x)) (number r)) (y ∷ rs)) < length (cond a (y ∷ old) old)
      by true true e f more =
          let own : y ≡ x = cc in
          let few = all_after x rs (sym (ap (λ r. is_after after (number r)) own) ∙ e) (subst (λ z. AllByRecursion (λ r. (number z).0 < (number r).0) rs) own rise.0) in
          subst (λ b. length (cond b (y ∷ now) now) < length (y ∷ old)) (sym (ap (λ r. is_after (Some (number x)) (number r)) own ∙ not_below (number x).0)) (omega (arith, few))
      by true false e f more = before true f (more f)
      by false s e f more = before false f (more f)

-- Matches of one role are written alike exactly where they are one.
pub written_alike : (role : Role) (a b : Formula TypedAtom) → IsPrintable role a → IsPrintable role b → (r : Bool) → IsTrue r ↔ (a ≡ b) → bytes_eq (typed_text a) (typed_text b) ≡ r
written_alike role a b one other true tells = (bytes_eq-Decides (typed_text a) (typed_text b)).1 (ap typed_text (tells.0 refl))
written_alike role a b one other false tells = by (bytes_eq (typed_text a) (typed_text b)) refl
  where
    by : (r : Bool) → bytes_eq (typed_text a) (typed_text b) ≡ r → r ≡ false
    by true e = sym (tells.1 (apart role a b one other ((bytes_eq-Decides (typed_text a) (typed_text b)).0 e)))
    by false e = refl

pub one_way : (a b : Way) → IsTrue (same_way a b) → a ≡ b
one_way From From is = refl
one_way To To is = refl
one_way From To is = absurd (cc)
one_way To From is = absurd (cc)

-- what two tests that agree on all of a list find in it
same_among : {R : Type 0} (P : R → Type 0) (p q : R → Bool) → ((r : R) → P r → p r ≡ q r) → (rs : List R) → AllByRecursion P rs → find p rs ≡ find q rs
same_among P p q agree [] all = refl
same_among P p q agree (r ∷ rs) all = ap (λ b. cond b (Some r) (find p rs)) (agree r all.0) ∙ ap (λ o. cond (q r) (Some r) o) (same_among P p q agree rs all.1)

equal : (a b : ℕ) → a ≡ b → IsTrue (a == b)
equal a b is = grind (arith, nat_tests, is)

last_of_four : (o w p d b : Bool) → IsTrue (o && (w && (p && d))) → (o && (w && (p && b))) ≡ b
last_of_four true true true d b is = refl
last_of_four true true false d b is = absurd (cc)
last_of_four true false p d b is = absurd (cc)
last_of_four false w p d b is = absurd (cc)

-- The ACL of an owner, a direction, a priority and a match, looked for among those of the first three whose matches have its digest.
module _ (owner : ObjId) (way : Way) (priority : ℕ) (matching : Formula TypedAtom) (number : ℕ) (is_digest : number ≡ digest matching) (after : Option ObjId) (acls : List Acl) where
  abbrev says : Acl → Bool
  says a = same owner a.owner && (same_way way a.way && ((priority == a.priority) && (number == digest a.matching)))

  abbrev like : Acl → Bool
  like a = same owner a.owner && (same_way way a.way && ((priority == a.priority) && bytes_eq (typed_text matching) (typed_text a.matching)))

  abbrev both : Acl → Bool
  both a = like a && says a

  abbrev Readable : Acl → Type 0
  Readable a = IsPrintable (role_of a.way) a.matching

  both_says : (a : Acl) → IsTrue (both a) → IsTrue (says a)
  both_says a is = (and_parts (like a) (says a) is).1

  both_left : (a : Acl) → IsTrue (is_after after a.id && both a) → IsTrue (is_after after a.id && says a)
  both_left a is = by (is_after after a.id) is
    where
      by : (b : Bool) → IsTrue (b && both a) → IsTrue (b && says a)
      by true is = both_says a is
      by false is = is

  module _ (printed : IsPrintable (role_of way) matching) (readable : AllByRecursion Readable acls) where
    -- one match has one digest
    like_says : (a : Acl) → Readable a → IsTrue (like a) → IsTrue (says a)
    like_says a own is =
        let of_owner = and_parts (same owner a.owner) (same_way way a.way && ((priority == a.priority) && bytes_eq (typed_text matching) (typed_text a.matching))) is in
        let of_way = and_parts (same_way way a.way) ((priority == a.priority) && bytes_eq (typed_text matching) (typed_text a.matching)) of_owner.1 in
        let of_rule = and_parts (priority == a.priority) (bytes_eq (typed_text matching) (typed_text a.matching)) of_way.1 in
        let way_is : way ≡ a.way = one_way way a.way of_way.0 in
        let one : matching ≡ a.matching =
        apart (role_of way) matching a.matching printed (subst (λ (w : Way). IsPrintable (role_of w) a.matching) (sym way_is) own) ((bytes_eq-Decides (typed_text matching) (typed_text a.matching)).0 of_rule.1) in
        let of_digest = equal number (digest a.matching) (is_digest ∙ ap digest one) in
        λ i. of_owner.0 i && (of_way.0 i && (of_rule.0 i && of_digest i))

    both_like : (a : Acl) → Readable a → both a ≡ like a
    both_like a own = by (like a) (like_says a own)
      where
        by : (b : Bool) → (IsTrue b → IsTrue (says a)) → (b && says a) ≡ b
        by true so = so refl
        by false so = refl

    found_as : (low : Option ObjId) → find (λ a. is_after low a.id && both a) acls ≡ find (λ a. is_after low a.id && like a) acls
    found_as low = same_among Readable (λ a. is_after low a.id && both a) (λ a. is_after low a.id && like a) (λ a own. ap (λ b. is_after low a.id && b) (both_like a own)) acls readable

    pub none_like : None ≡ find (λ a. is_after after a.id && says a) acls → None ≡ find (λ a. is_after after a.id && like a) acls
    none_like none = sym (none_narrow (λ a. is_after after a.id && says a) (λ a. is_after after a.id && both a) both_left acls (sym none)) ∙ found_as after

    module _ (acl : Acl) (found : Some acl ≡ find (λ a. is_after after a.id && says a) acls) (rise : NumbersRise (λ (a : Acl). a.id) acls) (alike : Bool)
        (tells : IsTrue alike ↔ (matching ≡ acl.matching)) where
      holds : IsTrue (is_after after acl.id && says acl)
      holds = found_holds (λ a. is_after after a.id && says a) acls acl (sym found)

      said : IsTrue (says acl)
      said = (and_parts (is_after after acl.id) (says acl) holds).1

      own_readable : Readable acl
      own_readable = found_all Readable (λ a. is_after after a.id && says a) acl acls (sym found) readable

      way_is : way ≡ acl.way
      way_is =
          let of_owner = and_parts (same owner acl.owner) (same_way way acl.way && ((priority == acl.priority) && (number == digest acl.matching))) said in
          one_way way acl.way (and_parts (same_way way acl.way) ((priority == acl.priority) && (number == digest acl.matching)) of_owner.1).0

      both_is : both acl ≡ alike
      both_is =
          both_like acl own_readable
          ∙ last_of_four (same owner acl.owner) (same_way way acl.way) (priority == acl.priority) (number == digest acl.matching) (bytes_eq (typed_text matching) (typed_text acl.matching)) said
          ∙ written_alike (role_of way) matching acl.matching printed (subst (λ (w : Way). IsPrintable (role_of w) acl.matching) (sym way_is) own_readable) alike tells

      pub found_like : alike ≡ true → Some acl ≡ find (λ a. is_after after a.id && like a) acls
      found_like is =
          sym (found_narrow (λ a. is_after after a.id && says a) (λ a. is_after after a.id && both a) both_left acl acls (sym found)
          (ap (λ b. b && both acl) (and_parts (is_after after acl.id) (says acl) holds).0 ∙ both_is ∙ is))
          ∙ found_as after

      pub others_like : alike ≡ false → find (λ a. is_after (Some acl.id) a.id && like a) acls ≡ find (λ a. is_after after a.id && like a) acls
      others_like other = sym (found_as (Some acl.id)) ∙ next_like (λ (a : Acl). a.id) after says both both_says acl acls (sym found) (both_is ∙ other) rise ∙ found_as after

  pub fewer_acls : (acl : Acl) → Some acl ≡ find (λ a. is_after after a.id && says a) acls → NumbersRise (λ (a : Acl). a.id) acls
      → length (filter (λ (a : Acl). is_after (Some acl.id) a.id) acls) < length (filter (λ (a : Acl). is_after after a.id) acls)
  fewer_acls acl found rise = fewer_after (λ (a : Acl). a.id) after says acl acls (sym found) rise

-- A longer list has as many or more that pass.
filter_fewer : {R : Type 0} (q r : R → Bool) (rs : List R) → length (filter q (without r rs)) ≤ length (filter q rs)
filter_fewer q r [] = omega arith
filter_fewer {R} q r (x ∷ rs) = by (r x) (q x) (filter_fewer q r rs)
  where
    by : (a b : Bool) → length (filter q (without r rs)) ≤ length (filter q rs) → length (filter q (cond (not a) (x ∷ without r rs) (without r rs))) ≤ length (cond (q x) (x ∷ filter q rs) (filter q rs))
    by true b more = longer (q x)
      where
        longer : (b : Bool) → length (filter q (without r rs)) ≤ length (cond b (x ∷ filter q rs) (filter q rs))
        longer true = omega (arith, more)
        longer false = more
    by false b more = both (q x)
      where
        both : (b : Bool) → length (cond b (x ∷ filter q (without r rs)) (filter q (without r rs))) ≤ length (cond b (x ∷ filter q rs) (filter q rs))
        both true = omega (arith, more)
        both false = more

module _ {R : Type 0} (number : R → ObjId) (after : Option ObjId) (says : R → Bool) where
  abbrev wide_in : R → Bool
  wide_in r = is_after after (number r) && says r

  -- all of them are after both, and go by the one as by the other
  both_stay : (x : R) (like : R → Bool) (rs : List R) → is_after after (number x) ≡ true → AllByRecursion (λ r. (number x).0 < (number r).0) rs
      → without (λ r. is_after (Some (number x)) (number r) && like r) rs ≡ without (λ r. is_after after (number r) && like r) rs
  both_stay x like [] is all = refl
  both_stay x like (r ∷ rs) is all =
      ap (λ b. cond (not (b && like r)) (r ∷ without (λ r. is_after (Some (number x)) (number r) && like r) rs) (without (λ r. is_after (Some (number x)) (number r) && like r) rs)) (lt-ltb (number x).0 (number r).0 all.0 ∙ sym (after_more after (number x) (number r) is all.0))
      ∙ ap (λ o. cond (not (is_after after (number r) && like r)) (r ∷ o) o) (both_stay x like rs is all.1)

  -- the one that is found stays: those after it are left
  pub next_stay : (like : R → Bool) → ((r : R) → IsTrue (like r) → IsTrue (says r)) → (x : R) (rs : List R) → find wide_in rs ≡ Some x → like x ≡ false → NumbersRise number rs
      → without (λ r. is_after (Some (number x)) (number r) && like r) rs ≡ without (λ r. is_after after (number r) && like r) rs
  next_stay like narrow x [] found other rise = refl
  next_stay like narrow x (y ∷ rs) found other rise = by (is_after after (number y)) (says y) refl refl found (λ f. next_stay like narrow x rs f other rise.1)
    where
      now : R → Bool
      now r = is_after (Some (number x)) (number r) && like r

      old : R → Bool
      old r = is_after after (number r) && like r

      no_more : (a : Bool) → (a && false) ≡ false
      no_more true = refl
      no_more false = refl

      skip : now y ≡ false → old y ≡ false → without now rs ≡ without old rs → without now (y ∷ rs) ≡ without old (y ∷ rs)
      skip e f more = ap (λ b. cond (not b) (y ∷ without now rs) (without now rs)) e ∙ ap (λ l. y ∷ l) more ∙ sym (ap (λ b. cond (not b) (y ∷ without old rs) (without old rs)) f)

      before : find wide_in rs ≡ Some x → now y ≡ false
      before f = ap (λ b. b && like y) (not_above (number y).0 (number x).0 (found_all (λ r. (number y).0 < (number r).0) wide_in x rs f rise.0))

      by : (a s : Bool) → is_after after (number y) ≡ a → says y ≡ s → cond (a && s) (Some y) (find wide_in rs) ≡ Some x → (find wide_in rs ≡ Some x → without now rs ≡ without old rs)
          → without now (y ∷ rs) ≡ without old (y ∷ rs)
      by true true e g f more =
          let own : y ≡ x = cc in
          skip (ap (λ r. is_after (Some (number x)) (number r) && like r) own ∙ ap (λ b. b && like x) (not_below (number x).0)) (ap (λ b. is_after after (number y) && b) (ap like own ∙ other) ∙ no_more (is_after after (number y)))
          (both_stay x like rs (sym (ap (λ r. is_after after (number r)) own) ∙ e) (subst (λ z. AllByRecursion (λ r. (number z).0 < (number r).0) rs) own rise.0))
      by true false e g f more = skip (before f) (ap (λ b. is_after after (number y) && b) (fails (like y) (says y) (narrow y) g) ∙ no_more (is_after after (number y))) (more f)
      by false s e g f more = skip (before f) (ap (λ b. b && like y) e) (more f)

-- The ACLs of an owner and a direction go, one after another.
module _ (owner : ObjId) (way : Way) (after : Option ObjId) (net : Network) (acl : Acl) (found : Some acl ≡ find (λ (a : Acl). is_after after a.id && same owner a.owner) net.acls)
    (rise : NumbersRise (λ (a : Acl). a.id) net.acls) where
  abbrev goes : Acl → Bool
  goes a = same owner a.owner && same_way way a.way

  abbrev goes_yet : Acl → Bool
  goes_yet a = is_after after a.id && goes a

  of_owner : (a : Acl) → IsTrue (goes a) → IsTrue (same owner a.owner)
  of_owner a is = (and_parts (same owner a.owner) (same_way way a.way) is).0

  first_two : (f o w : Bool) → IsTrue (f && (o && w)) → IsTrue (f && o)
  first_two true o w is = (and_parts o w is).0
  first_two false o w is = is

  holds_both : IsTrue (is_after after acl.id && same owner acl.owner)
  holds_both = found_holds (λ (a : Acl). is_after after a.id && same owner a.owner) net.acls acl (sym found)

  pub found_going : same_way way acl.way ≡ true → Some acl ≡ find goes_yet net.acls
  found_going is =
      let parts = and_parts (is_after after acl.id) (same owner acl.owner) holds_both in
      sym (found_narrow (λ (a : Acl). is_after after a.id && same owner a.owner) goes_yet (λ a so. first_two (is_after after a.id) (same owner a.owner) (same_way way a.way) so) acl net.acls (sym found)
      (λ i. parts.0 i && (parts.1 i && is i)))

  pub staying : same_way way acl.way ≡ false → without (λ (a : Acl). is_after (Some acl.id) a.id && goes a) net.acls ≡ without goes_yet net.acls
  staying other =
      next_stay (λ (a : Acl). a.id) after (λ (a : Acl). same owner a.owner) goes of_owner acl net.acls (sym found)
      ((λ i. (and_parts (is_after after acl.id) (same owner acl.owner) holds_both).1 i && other i)) rise

  pub fewer_staying : length (filter (λ (a : Acl). is_after (Some acl.id) a.id) net.acls) < length (filter (λ (a : Acl). is_after after a.id) net.acls)
  fewer_staying = fewer_after (λ (a : Acl). a.id) after (λ (a : Acl). same owner a.owner) acl net.acls (sym found) rise

pub none_going : (owner : ObjId) (way : Way) (after : Option ObjId) (acls : List Acl) → None ≡ find (λ (a : Acl). is_after after a.id && same owner a.owner) acls
    → None ≡ find (λ (a : Acl). is_after after a.id && (same owner a.owner && same_way way a.way)) acls
none_going owner way after acls none =
    sym (none_narrow (λ (a : Acl). is_after after a.id && same owner a.owner) (λ (a : Acl). is_after after a.id && (same owner a.owner && same_way way a.way))
    (λ a so. narrower (is_after after a.id) (same owner a.owner) (same_way way a.way) so) acls (sym none))
  where
    narrower : (f o w : Bool) → IsTrue (f && (o && w)) → IsTrue (f && o)
    narrower true o w is = (and_parts o w is).0
    narrower false o w is = is

pub filter_without_number : (n : ObjId) (after : Option ObjId) (acls : List Acl)
    → length (filter (λ (a : Acl). is_after after a.id) (without_number (λ (a : Acl). a.id) n acls)) ≤ length (filter (λ (a : Acl). is_after after a.id) acls)
filter_without_number n after acls = filter_fewer (λ (a : Acl). is_after after a.id) (has_number (λ (a : Acl). a.id) n) acls
