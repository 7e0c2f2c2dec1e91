-- What conjunctions and disjunctions of lists cover, where they are not too long.
use Rattle.std.proofs.Common.{◌≡◌, nat_le, Bool, true, false, ◌&&◌, ◌||◌, cond, List, [], ◌∷◌, ◌++◌, length, map, Option, Some, None, refl, sym, ap, ap₂, ◌∙◌}
use Rattle.std.specs.List.{list_any, list_all}
use Rattle.std.proofs.Math.Bool.{or-false, or_assoc, and-true, and_assoc}
use Rattle.std.proofs.lemmas.Bool.{and_parts}
use Rattle.std.proofs.lemmas.List.Folds.{list_any-append}
use Rattle.pkt_core.specs.Packet.{Values}
use Rattle.cube_core.specs.declared.cube.Cube.{Cube}
use Rattle.cube_core.specs.Cube.{covers, cover, everything}
use Rattle.cube_core.specs.Limit.{cube_limit, joined, joined_none, join_one, join_each, join_all}
use Rattle.cube_core.proofs.Covered.{everything_covers, products_cover}

-- one truth value more of a conjunction, or of a disjunction
abbrev pub op : Bool → Bool → Bool → Bool
op true a b = a && b
op false a b = a || b

-- all tests are passed, or one is
abbrev pub of_all : Bool → {X : Type 0} → (X → Bool) → List X → Bool
of_all true t xs = list_all t xs
of_all false t xs = list_any t xs

pub op_assoc : (is_and a b c : Bool) → op is_and (op is_and a b) c ≡ op is_and a (op is_and b c)
op_assoc = λ is_and a b c. elim is_and as (λ w. op w (op w a b) c ≡ op w a (op w b c)) [ true ↦ and_assoc a b c | false ↦ or_assoc a b c ]

pub op_none : (is_and a : Bool) → op is_and a is_and ≡ a
op_none true a = and-true a
op_none false a = or-false a

-- a list that is not too long is that list
limited_is : (xs cs : List Cube) (b : Bool) → nat_le (length xs) cube_limit ≡ b → cond b (Some xs) None ≡ Some cs → xs ≡ cs
limited_is xs cs true short e = cc
limited_is xs cs false long e = absurd (cc)

module _ (k : Values) where
  -- the list, where there is one, covers the packet exactly where this is so
  pub record Means (cubes : Option (List Cube)) (b : Bool) : Type 0 where
    pub covered : (list : List Cube) → cubes ≡ Some list → cover list k ≡ b

  pub some_means : (list : List Cube) (b : Bool) → cover list k ≡ b → Means (Some list) b
  some_means list b e = record { covered = λ cs same. let is : list ≡ cs = cc in ap (λ l. cover l k) (sym is) ∙ e }

  pub none_means : (b : Bool) → Means None b
  none_means b = record { covered = λ cs same. absurd (cc) }

  joined_cover : (is_and : Bool) (xs ys : List Cube) → cover (joined is_and xs ys) k ≡ op is_and (cover xs k) (cover ys k)
  joined_cover true xs ys = products_cover k xs ys
  joined_cover false xs ys = list_any-append (λ c. covers c k) xs ys

  pub one_means : (is_and : Bool) (o p : Option (List Cube)) (a b : Bool) → Means o a → Means p b → Means (join_one is_and o p) (op is_and a b)
  one_means is_and None None a b m n = none_means _
  one_means is_and None (Some ys) a b m n = none_means _
  one_means is_and (Some xs) None a b m n = none_means _
  one_means is_and (Some xs) (Some ys) a b m n = record {
    covered = λ cs e.
        ap (λ l. cover l k) (sym (limited_is (joined is_and xs ys) cs (nat_le (length (joined is_and xs ys)) cube_limit) refl e))
        ∙ joined_cover is_and xs ys ∙ ap₂ (op is_and) (m.covered xs refl) (n.covered ys refl);
  }

  pub same_means : {o : Option (List Cube)} {a b : Bool} → a ≡ b → Means o a → Means o b
  same_means {o} {a} {b} e m = record { covered = λ cs is. m.covered cs is ∙ e }

  -- lists that are made of the elements of a list
  module _ (is_and : Bool) {X : Type 0} (h : X → Option (List Cube)) (t p : X → Bool) (one : (x : X) → p x ≡ true → Means (h x) (t x)) where
    none_of : (o : Option (List Cube)) (a : Bool) → Means o a → Means o (op is_and a (of_all is_and t []))
    none_of o a m = elim is_and as (λ w. Means o (op w a (of_all w t []))) [ true ↦ same_means (sym (and-true a)) m | false ↦ same_means (sym (or-false a)) m ]

    more_of : (x : X) (xs : List X) → of_all is_and t (x ∷ xs) ≡ op is_and (t x) (of_all is_and t xs)
    more_of x xs = elim is_and as (λ w. of_all w t (x ∷ xs) ≡ op w (t x) (of_all w t xs)) [ true ↦ refl | false ↦ refl ]

    pub each_means : (xs : List X) → list_all p xs ≡ true → (o : Option (List Cube)) (a : Bool) → Means o a → Means (join_each is_and o (map h xs)) (op is_and a (of_all is_and t xs))
    each_means [] all o a m = none_of o a m
    each_means (x ∷ xs) all o a m =
        let parts = and_parts (p x) (list_all p xs) all in
        same_means (op_assoc is_and a (t x) (of_all is_and t xs) ∙ ap (op is_and a) (sym (more_of x xs)))
        (each_means xs parts.1 (join_one is_and o (h x)) (op is_and a (t x)) (one_means is_and o (h x) a (t x) m (one x parts.0)))

  pub start_means : (is_and : Bool) → Means (Some (joined_none is_and)) is_and
  start_means true = some_means (everything ∷ []) true (ap (λ b. b || false) (everything_covers k))
  start_means false = some_means [] false refl

  pub from_start : (is_and b : Bool) → op is_and is_and b ≡ b
  from_start true b = refl
  from_start false b = refl

  pub all_means : (is_and : Bool) {X : Type 0} (h : X → Option (List Cube)) (t p : X → Bool) → ((x : X) → p x ≡ true → Means (h x) (t x)) → (xs : List X) → list_all p xs ≡ true
      → Means (join_all is_and (map h xs)) (of_all is_and t xs)
  all_means is_and h t p one xs all = same_means (from_start is_and (of_all is_and t xs)) (each_means is_and h t p one xs all (Some (joined_none is_and)) is_and (start_means is_and))

-- one list after the others
pub join_last : (is_and : Bool) (o : Option (List Cube)) (xs : List (Option (List Cube))) (last : Option (List Cube)) → join_each is_and o (xs ++ last ∷ []) ≡ join_one is_and (join_each is_and o xs) last
join_last is_and o [] last = refl
join_last is_and o (x ∷ xs) last = join_last is_and (join_one is_and o x) xs last
