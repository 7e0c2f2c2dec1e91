-- The cubes of a match cover the packets of which it holds.
use Rattle.std.proofs.Common.{◌≡◌, ℕ, ◌<◌, ◌≤◌, ◌+◌, ◌%◌, ◌^◌, ◌==◌, lit≤, lit<, nat_lt, Bool, true, false, not, ◌&&◌, ◌||◌, List, [], ◌∷◌, map, Option, Some, None, refl, sym, ap, ap₂, subst, ◌∙◌, arith}
use Rattle.std.specs.Prelude.{bit_and}
use Rattle.std.specs.List.{list_any, list_all}
use Rattle.std.specs.Option.{IfSome}
use Rattle.std.proofs.Math.Bool.{or-false}
use Rattle.std.proofs.Math.Nat.{mod-eq_of_lt, lt_trans}
use Rattle.std.proofs.lemmas.Bool.{eqb-true, ltb-true, lt-ltb, and_parts, and_from, false≢true}
use Rattle.std.proofs.lemmas.List.Folds.{list_all-map}
use Rattle.std.proofs.lemmas.Nat.{pow_pos, pow_below, mod_below}
use Rattle.nv_base.specs.declared.field.Field.{Field}
use Rattle.nv_base.specs.declared.field.Field.TheVariants.{Inport, Outport, IpProto, Icmp4Type}
use Rattle.nv_base.specs.declared.field.Prerequisite.{Prerequisite}
use Rattle.nv_base.specs.declared.field.Prerequisite.TheVariants.{Nothing, Ip4, Arp, Tcp, Udp, Icmp4, IcmpError}
use Rattle.nv_base.specs.declared.object.ObjId.{ObjId}
use Rattle.nv_base.specs.Field.{field_width, field_prerequisite}
use Rattle.pkt_core.specs.Packet.{Values, value, IsPacket}
use Rattle.pkt_core.specs.Prerequisite.{is_ip4, meets, is_there}
use Rattle.expr_core.specs.Formula.{Formula, Formulas}
use Rattle.expr_core.specs.Formula.Formula.{Leaf, Not, And, Or}
use Rattle.expr_core.specs.Formula.Formulas.{Nil, Cons}
use Rattle.expr_core.specs.Opposite.{opposite}
use Rattle.expr_core.specs.Tests.{tests, prerequisite_tests}
use Rattle.expr_core.specs.TypeRules.{is_port, bits_fit, item_fits, right_fits, is_whole, may_stand_alone, tests_equality, is_number, suits, right_suits}
use Rattle.expr_core.specs.WellTyped.{is_typed_atom, IsTyped, AreTyped}
use Rattle.expr_core.specs.Width.{part_width, mask_of}
use Rattle.expr_core.specs.declared.comparison.Item.{Item}
use Rattle.expr_core.specs.declared.comparison.Item.TheVariants.{One, Masked, Text, AddrSet, Group}
use Rattle.expr_core.specs.declared.comparison.Rel.{Rel}
use Rattle.expr_core.specs.declared.comparison.Rel.TheVariants.{Eq, Ne, Lt, Le, Gt, Ge}
use Rattle.expr_core.specs.declared.comparison.Right.{Right}
use Rattle.expr_core.specs.declared.comparison.Right.TheVariants as right_of
use Rattle.expr_core.specs.declared.part.Bits.{Bits}
use Rattle.expr_core.specs.declared.part.Bits.TheVariants.{Whole, Bit, Range}
use Rattle.expr_core.specs.declared.predicate.Pred.{Pred}
use Rattle.expr_core.specs.declared.predicate.Pred.TheVariants.{EthMcast}
use Rattle.expr_core.specs.declared.role.Role.{Role}
use Rattle.expr_core.specs.declared.subject.Subject.TheVariants as subject
use Rattle.expr_core.specs.declared.test.Test.{Test}
use Rattle.expr_core.specs.declared.typed.TypedAtom.{TypedAtom}
use Rattle.expr_core.specs.declared.typed.TypedAtom.TheVariants.{Truth, Bare, Holds, Compare}
use Rattle.expr_eval.specs.MatchMeaning.{part_of, passes, has, has_not, atom_holds, atom_negation_holds, holds, negation_holds, all_hold, some_hold, all_negations_hold, some_negation_holds}
use Rattle.expr_eval.specs.Relation.{port_numbered, is_of_port, equals_item, compares, relates}
use Rattle.expr_sets.specs.Members.{agree, AreOf}
use Rattle.expr_sets.specs.declared.members.Masked as masked
use Rattle.cube_core.specs.declared.cube.Cube.{Cube}
use Rattle.cube_core.specs.Comparison.{lowest_bit, placed, placed_mask, every_bit}
use Rattle.cube_core.specs.Cube.{covers, cover, everything}
use Rattle.cube_core.specs.Cubes.{Names, whole_number, masked_cubes, port_numbers, join_by, item_cubes, right_cubes, test_cube, prerequisite_cubes, with_field, number_cubes, truth_cubes, test_cubes, atom_cubes, match_cubes, operand_cubes}
use Rattle.cube_core.specs.Limit.{joined_none, join_one, join_each, join_all}
use Rattle.cube_core.proofs.Covered.{of_field_covers, everything_covers}
use Rattle.cube_core.proofs.Joined.{op, op_assoc, op_none, Means, some_means, one_means, same_means, start_means, from_start, all_means, join_last}
use Rattle.cube_core.proofs.Placed.{lies, part_is, masked_part, masked_number, equal_scaled, every_bit_counts}
use Rattle.cube_core.proofs.Related.{masked_cover}

-- ---- fields and tests

narrow : (f : Field) → field_width f ≤ 48
narrow Inport = lit≤ tt
narrow _ = lit≤ tt

-- a port's field has 32 bits
port_width : (f : Field) → is_port f ≡ true → field_width f ≡ 32
port_width Inport e = refl
port_width Outport e = refl
port_width _ e = absurd (false≢true e)

-- the part lies in the field, and has the number
abbrev test_fits : Test → Bool
test_fits t = bits_fit (Some (field_width t.field)) t.bits && nat_lt t.number (2 ^ part_width t.bits (field_width t.field))

predicates_fit : (p : Pred) → list_all test_fits (tests p) ≡ true
predicates_fit EthMcast = refl
predicates_fit _ = refl

prerequisites_fit : (needed : Prerequisite) → list_all (λ alternatives. list_all test_fits alternatives) (prerequisite_tests needed) ≡ true
prerequisites_fit Nothing = refl
prerequisites_fit _ = refl

-- ---- truth values

one_test : (a : Bool) → a ≡ ((a || false) && true)
one_test true = refl
one_test false = refl

two_tests : (a b : Bool) → (a && b) ≡ ((a || false) && ((b || false) && true))
two_tests true b = one_test b
two_tests false b = refl

three_tests : (a b c d : Bool) → ((a && b) && (c || d)) ≡ ((a || false) && ((b || false) && ((c || (d || false)) && true)))
three_tests true true true d = refl
three_tests true true false d = one_test d
three_tests true false c d = refl
three_tests false b c d = refl

none_equal : {X : Type 0} (t : X → Bool) (xs : List X) → list_all (λ x. not (t x)) xs ≡ not (list_any t xs)
none_equal t [] = refl
none_equal t (x ∷ xs) = neither (t x) (list_all (λ y. not (t y)) xs) (list_any t xs) (none_equal t xs)
  where
    neither : (a b c : Bool) → b ≡ not c → (not a && b) ≡ not (a || c)
    neither true b c e = refl
    neither false b c e = e

-- a port has no bits
no_part : (b : Bool) → b ≡ true → (not b || false) ≡ false
no_part true e = refl
no_part false e = absurd (false≢true e)

all_both : {X : Type 0} (p q : X → Bool) (xs : List X) → list_all p xs ≡ true → list_all q xs ≡ true → list_all (λ x. p x && q x) xs ≡ true
all_both p q [] e g = refl
all_both p q (x ∷ xs) e g =
    let ps = and_parts (p x) (list_all p xs) e in
    let qs = and_parts (q x) (list_all q xs) g in
    and_from _ _ (and_from _ _ ps.0 qs.0) (all_both p q xs ps.1 qs.1)

same_any : {X : Type 0} (p t u : X → Bool) → ((x : X) → p x ≡ true → t x ≡ u x) → (xs : List X) → list_all p xs ≡ true → list_any t xs ≡ list_any u xs
same_any p t u one [] e = refl
same_any p t u one (x ∷ xs) e = let ps = and_parts (p x) (list_all p xs) e in ap₂ ◌||◌ (one x ps.0) (same_any p t u one xs ps.1)

-- ---- of a packet

module _ (k : Values) (packet : IsPacket k) where
  -- what a prerequisite means, by its tests
  meets_tests : (needed : Prerequisite) → meets k needed ≡ list_all (list_any (passes k)) (prerequisite_tests needed)
  meets_tests Nothing = refl
  meets_tests Ip4 = one_test _
  meets_tests Arp = one_test _
  meets_tests Tcp = two_tests _ _
  meets_tests Udp = two_tests _ _
  meets_tests Icmp4 = two_tests _ _
  meets_tests IcmpError = three_tests (is_ip4 k) (value k IpProto == 1) (value k Icmp4Type == 3) (value k Icmp4Type == 11)

  -- a part of a field, and a number that fits it
  module _ (f : Field) (bits : Bits) (fit : bits_fit (Some (field_width f)) bits ≡ true) where
    abbrev count : ℕ
    count = part_width bits (field_width f)

    within : lowest_bit bits + count ≤ field_width f
    within = lies (field_width f) bits fit

    small : (c : ℕ) → c < 2 ^ count → c < 2 ^ 128
    small c below =
        let narrow_field = narrow f in
        let inside = within in
        let less : count < 128 = omega arith in
        lt_trans below (pow_below count 128 less)

    part_fits : part_of k f bits < 2 ^ count
    part_fits = subst (λ (x : ℕ). x < 2 ^ count) (sym (part_is (field_width f) bits (value k f) (packet.fits f))) (mod_below _ (2 ^ count) (pow_pos count))

    mask_fits : (m : ℕ) → placed_mask bits (field_width f) m < 2 ^ field_width f
    mask_fits m = mod_below _ (2 ^ field_width f) (pow_pos (field_width f))

    -- all bits of both count
    wholly : (rel : Rel) (c : ℕ) → c < 2 ^ count → compares (bit_and (part_of k f bits) every_bit) rel (bit_and c every_bit) ≡ compares (part_of k f bits) rel c
    wholly rel c below = ap₂ (λ x y. compares x rel y) (every_bit_counts (part_of k f bits) (small _ part_fits)) (every_bit_counts c (small c below))

    number_cover : (rel : Rel) (m : masked.Masked) → m.number < 2 ^ count → cover (masked_cubes f bits rel m) k ≡ compares (bit_and (part_of k f bits) m.mask) rel (bit_and m.number m.mask)
    number_cover rel m below = masked_cover k f bits rel m (packet.fits f) within below (mask_fits m.mask)

    whole_cover : (rel : Rel) (c : ℕ) → c < 2 ^ count → cover (masked_cubes f bits rel (whole_number c)) k ≡ compares (part_of k f bits) rel c
    whole_cover rel c below = number_cover rel (whole_number c) below ∙ wholly rel c below

  test_covered : (t : Test) → test_fits t ≡ true → covers (test_cube t) k ≡ passes k t
  test_covered t e =
      let parts = and_parts _ _ e in
      let below : t.number < 2 ^ part_width t.bits (field_width t.field) = ltb-true _ _ parts.1 in
      let inside = within t.field t.bits parts.0 in
      let low = lowest_bit t.bits in
      of_field_covers k t.field (placed_mask t.bits (field_width t.field) every_bit) (placed t.bits (field_width t.field) t.number)
      ∙ ap₂ ◌==◌ (masked_part (field_width t.field) t.bits inside every_bit (value k t.field) (packet.fits t.field)) (masked_number (field_width t.field) t.bits inside every_bit t.number below)
      ∙ equal_scaled (bit_and (part_of k t.field t.bits) every_bit) (bit_and t.number every_bit) low
      ∙ wholly t.field t.bits parts.0 Eq t.number below

  alternatives_cover : (ts : List Test) → list_all test_fits ts ≡ true → cover (map test_cube ts) k ≡ list_any (passes k) ts
  alternatives_cover [] e = refl
  alternatives_cover (t ∷ ts) e = let parts = and_parts _ _ e in ap₂ ◌||◌ (test_covered t parts.0) (alternatives_cover ts parts.1)

  -- the packets that have a field, and of which this is so
  field_means : (f : Field) (o : Option (List Cube)) (b : Bool) → Means k o b → Means k (with_field f o) (is_there k f && b)
  field_means f o b m =
      let needed = field_prerequisite f in
      let there : Means k (join_all true (prerequisite_cubes f)) (list_all (list_any (passes k)) (prerequisite_tests needed)) =
      all_means k true (λ (alternatives : List Test). Some (map test_cube alternatives)) (list_any (passes k)) (list_all test_fits)
      (λ alternatives e. some_means k (map test_cube alternatives) _ (alternatives_cover alternatives e)) (prerequisite_tests needed) (prerequisites_fit needed) in
      let has_field : Means k (join_all true (prerequisite_cubes f)) (is_there k f) = same_means k (sym (meets_tests needed)) there in
      subst (λ (c : Option (List Cube)). Means k c (is_there k f && b)) (sym (join_last true (Some (joined_none true)) (prerequisite_cubes f) o))
      (one_means k true (join_all true (prerequisite_cubes f)) o (is_there k f) b has_field m)

  number_means : (f : Field) (bits : Bits) (rel : Rel) (c : ℕ) → bits_fit (Some (field_width f)) bits ≡ true → c < 2 ^ part_width bits (field_width f)
      → Means k (number_cubes f bits rel c) (is_there k f && compares (part_of k f bits) rel c)
  number_means f bits rel c fit below = field_means f _ _ (some_means k _ _ (whole_cover f bits fit rel c below))

  -- ---- in a network

  module _ (names : Names) (are : AreOf names.lookup names.members) where
    -- equal, or not
    abbrev turn : Rel → Bool → Bool
    turn Eq b = b
    turn _ b = not b

    module _ (f : Field) (bits : Bits) (fit : bits_fit (Some (field_width f)) bits ≡ true) where
      abbrev part : ℕ
      part = part_of k f bits

      -- a part equals one of several numbers, or none
      several : (rel : Rel) → tests_equality rel ≡ true → (ms : List masked.Masked) → list_all (λ m. nat_lt m.number (2 ^ part_width bits (field_width f))) ms ≡ true
          → Means k (join_by rel (map (λ m. Some (masked_cubes f bits rel m)) ms)) (turn rel (list_any (λ m. agree m.mask part m.number) ms))
      several Eq equality ms all =
          all_means k false (λ (m : masked.Masked). Some (masked_cubes f bits Eq m)) (λ m. agree m.mask part m.number) (λ m. nat_lt m.number (2 ^ part_width bits (field_width f)))
          (λ m e. some_means k _ _ (number_cover f bits fit Eq m (ltb-true _ _ e))) ms all
      several Ne equality ms all =
          same_means k (none_equal (λ (m : masked.Masked). agree m.mask part m.number) ms)
          (all_means k true (λ (m : masked.Masked). Some (masked_cubes f bits Ne m)) (λ m. not (agree m.mask part m.number)) (λ m. nat_lt m.number (2 ^ part_width bits (field_width f)))
          (λ m e. some_means k _ _ (number_cover f bits fit Ne m (ltb-true _ _ e))) ms all)
      several Lt equality ms all = absurd (false≢true equality)
      several Le equality ms all = absurd (false≢true equality)
      several Gt equality ms all = absurd (false≢true equality)
      several Ge equality ms all = absurd (false≢true equality)

      wholly_equal : (c : ℕ) → c < 2 ^ part_width bits (field_width f) → agree every_bit part c ≡ (part == c)
      wholly_equal c below = wholly f bits fit Eq c below

      -- the port of a name
      port_equal : (rel : Rel) → tests_equality rel ≡ true → (o : Option ObjId) → IfSome o (λ p. p.0 < 2 ^ part_width bits (field_width f))
          → Means k (join_by rel (map (λ m. Some (masked_cubes f bits rel m)) (port_numbers o))) (turn rel (is_of_port part o))
      port_equal rel equality None below = several rel equality [] refl
      port_equal rel equality (Some p) below =
          same_means k (ap (turn rel) (or-false _ ∙ wholly_equal p.0 below))
          (several rel equality (whole_number p.0 ∷ []) (and_from _ _ (lt-ltb _ _ below) refl))

      -- the ports of a group
      ports_equal : (rel : Rel) → tests_equality rel ≡ true → (ports : List ObjId) → list_all (λ p. nat_lt p.0 (2 ^ part_width bits (field_width f))) ports ≡ true
          → Means k (join_by rel (map (λ m. Some (masked_cubes f bits rel m)) (map (λ (port : ObjId). whole_number port.0) ports))) (turn rel (list_any (λ p. part == p.0) ports))
      ports_equal rel equality ports below =
          same_means k (ap (turn rel) (any_port ports below))
          (several rel equality (map (λ (port : ObjId). whole_number port.0) ports) (list_all-map _ (λ (port : ObjId). whole_number port.0) ports ∙ below))
        where
          any_port : (ps : List ObjId) → list_all (λ p. nat_lt p.0 (2 ^ part_width bits (field_width f))) ps ≡ true
              → list_any (λ m. agree m.mask part m.number) (map (λ (port : ObjId). whole_number port.0) ps) ≡ list_any (λ p. part == p.0) ps
          any_port [] e = refl
          any_port (p ∷ ps) e = let parts = and_parts _ _ e in ap₂ ◌||◌ (wholly_equal p.0 (ltb-true _ _ parts.0)) (any_port ps parts.1)

    -- an item, in an equality
    module _ (f : Field) where
      item_means : (bits : Bits) → bits_fit (Some (field_width f)) bits ≡ true → (not (is_port f) || is_whole bits) ≡ true → (rel : Rel) → tests_equality rel ≡ true
          → (i : Item) → (item_fits (Some (field_width f)) bits i && suits f bits i) ≡ true
          → Means k (item_cubes names f bits rel i) (turn rel (equals_item names.lookup (field_width f) (part_of k f bits) i))
      item_means bits fit ports Eq equality (One c) e = some_means k _ _ (whole_cover f bits fit Eq c.value (ltb-true _ _ (and_parts _ _ e).0))
      item_means bits fit ports Ne equality (One c) e = some_means k _ _ (whole_cover f bits fit Ne c.value (ltb-true _ _ (and_parts _ _ e).0))
      item_means bits fit ports Lt equality (One c) e = absurd (false≢true equality)
      item_means bits fit ports Le equality (One c) e = absurd (false≢true equality)
      item_means bits fit ports Gt equality (One c) e = absurd (false≢true equality)
      item_means bits fit ports Ge equality (One c) e = absurd (false≢true equality)
      item_means bits fit ports rel equality (Masked c m) e =
          same_means k (ap (turn rel) (or-false _))
          (several f bits fit rel equality (record { number = c.value; mask = mask_of c m } ∷ []) (and_from _ _ (and_parts _ _ (and_parts _ _ e).0).0 refl))
      item_means Whole fit ports rel equality (Text name) e =
          let wide : 32 ≡ field_width f = sym (port_width f e) in
          port_equal f Whole fit rel equality (names.lookup.port name) (subst (λ (w : ℕ). IfSome (names.lookup.port name) (λ p. p.0 < 2 ^ w)) wide (are.ports_fit name))
      item_means (Bit n) fit ports rel equality (Text name) e = absurd (false≢true (sym (no_part (is_port f) e) ∙ ports))
      item_means (Range a b) fit ports rel equality (Text name) e = absurd (false≢true (sym (no_part (is_port f) e) ∙ ports))
      item_means Whole fit ports rel equality (AddrSet name) e =
          same_means k (ap (turn rel) (sym (are.sets name (field_width f) (value k f) (packet.fits f))))
          (several f Whole fit rel equality (names.members.of_set name (field_width f)) (are.sets_fit name (field_width f)))
      item_means (Bit n) fit ports rel equality (AddrSet name) e = absurd (false≢true (and_parts (not (is_port f)) false e).1)
      item_means (Range a b) fit ports rel equality (AddrSet name) e = absurd (false≢true (and_parts (not (is_port f)) false e).1)
      item_means Whole fit ports rel equality (Group name) e =
          let width : field_width f ≡ 32 = port_width f e in
          let fits : list_all (λ p. nat_lt p.0 (2 ^ field_width f)) (names.members.of_group name) ≡ true =
          ap (λ w. list_all (λ p. nat_lt p.0 (2 ^ w)) (names.members.of_group name)) width ∙ are.groups_fit name in
          let short : value k f < 2 ^ 32 = subst (λ (w : ℕ). value k f < 2 ^ w) width (packet.fits f) in
          let number : value k f ≡ value k f % 2 ^ 32 = sym (mod-eq_of_lt short) in
          same_means k (ap (turn rel) (ap (λ n. list_any (λ p. n == p.0) (names.members.of_group name)) number ∙ sym (are.groups name (port_numbered (value k f)))))
          (ports_equal f Whole fit rel equality (names.members.of_group name) fits)
      item_means (Bit n) fit ports rel equality (Group name) e = absurd (false≢true (sym (no_part (is_port f) e) ∙ ports))
      item_means (Range a b) fit ports rel equality (Group name) e = absurd (false≢true (sym (no_part (is_port f) e) ∙ ports))

    -- a right side
    module _ (f : Field) (bits : Bits) (fit : bits_fit (Some (field_width f)) bits ≡ true) (ports : (not (is_port f) || is_whole bits) ≡ true) where
      abbrev part_number : ℕ
      part_number = part_of k f bits

      abbrev equals_one : Item → Bool
      equals_one = equals_item names.lookup (field_width f) part_number

      abbrev item_suits : Item → Bool
      item_suits i = item_fits (Some (field_width f)) bits i && suits f bits i

      set_means : (rel : Rel) → tests_equality rel ≡ true → (is : List Item) → list_all item_suits is ≡ true → Means k (join_by rel (map (item_cubes names f bits rel) is)) (turn rel (list_any equals_one is))
      set_means Eq equality is all = all_means k false (item_cubes names f bits Eq) equals_one item_suits (λ i e. item_means f bits fit ports Eq refl i e) is all
      set_means Ne equality is all =
          same_means k (none_equal equals_one is) (all_means k true (item_cubes names f bits Ne) (λ i. not (equals_one i)) item_suits (λ i e. item_means f bits fit ports Ne refl i e) is all)
      set_means Lt equality is all = absurd (false≢true equality)
      set_means Le equality is all = absurd (false≢true equality)
      set_means Gt equality is all = absurd (false≢true equality)
      set_means Ge equality is all = absurd (false≢true equality)

      -- equality, of what is not one number
      equality_of : (rel : Rel) → (tests_equality rel || false) ≡ true → tests_equality rel ≡ true
      equality_of rel e = sym (or-false _) ∙ e

      equal_items : (rel : Rel) → tests_equality rel ≡ true → (i : Item) → item_suits i ≡ true → (b : Bool) → turn rel (equals_one i) ≡ b → Means k (item_cubes names f bits rel i) b
      equal_items rel equality i e b same = same_means k same (item_means f bits fit ports rel equality i e)

      right_means : (rel : Rel) (right : Right) → right_fits (Some (field_width f)) bits right ≡ true → (tests_equality rel || is_number right) ≡ true → right_suits f bits right ≡ true
          → Means k (right_cubes names f bits rel right) (relates names.lookup (field_width f) part_number rel right)
      right_means rel (right_of.Item (One c)) fits compared suited = some_means k _ _ (whole_cover f bits fit rel c.value (ltb-true _ _ fits))
      right_means Eq (right_of.Item (Masked c m)) fits compared suited = equal_items Eq refl (Masked c m) (and_from _ _ fits suited) _ refl
      right_means Ne (right_of.Item (Masked c m)) fits compared suited = equal_items Ne refl (Masked c m) (and_from _ _ fits suited) _ refl
      right_means Eq (right_of.Item (Text name)) fits compared suited = equal_items Eq refl (Text name) (and_from _ _ fits suited) _ refl
      right_means Ne (right_of.Item (Text name)) fits compared suited = equal_items Ne refl (Text name) (and_from _ _ fits suited) _ refl
      right_means Eq (right_of.Item (AddrSet name)) fits compared suited = equal_items Eq refl (AddrSet name) (and_from _ _ fits suited) _ refl
      right_means Ne (right_of.Item (AddrSet name)) fits compared suited = equal_items Ne refl (AddrSet name) (and_from _ _ fits suited) _ refl
      right_means Eq (right_of.Item (Group name)) fits compared suited = equal_items Eq refl (Group name) (and_from _ _ fits suited) _ refl
      right_means Ne (right_of.Item (Group name)) fits compared suited = equal_items Ne refl (Group name) (and_from _ _ fits suited) _ refl
      right_means Eq (right_of.Set is) fits compared suited = set_means Eq refl is (all_both _ _ is fits suited)
      right_means Ne (right_of.Set is) fits compared suited = set_means Ne refl is (all_both _ _ is fits suited)
      right_means Lt (right_of.Item (Masked c m)) fits compared suited = absurd (false≢true compared)
      right_means Le (right_of.Item (Masked c m)) fits compared suited = absurd (false≢true compared)
      right_means Gt (right_of.Item (Masked c m)) fits compared suited = absurd (false≢true compared)
      right_means Ge (right_of.Item (Masked c m)) fits compared suited = absurd (false≢true compared)
      right_means Lt (right_of.Item (Text name)) fits compared suited = absurd (false≢true compared)
      right_means Le (right_of.Item (Text name)) fits compared suited = absurd (false≢true compared)
      right_means Gt (right_of.Item (Text name)) fits compared suited = absurd (false≢true compared)
      right_means Ge (right_of.Item (Text name)) fits compared suited = absurd (false≢true compared)
      right_means Lt (right_of.Item (AddrSet name)) fits compared suited = absurd (false≢true compared)
      right_means Le (right_of.Item (AddrSet name)) fits compared suited = absurd (false≢true compared)
      right_means Gt (right_of.Item (AddrSet name)) fits compared suited = absurd (false≢true compared)
      right_means Ge (right_of.Item (AddrSet name)) fits compared suited = absurd (false≢true compared)
      right_means Lt (right_of.Item (Group name)) fits compared suited = absurd (false≢true compared)
      right_means Le (right_of.Item (Group name)) fits compared suited = absurd (false≢true compared)
      right_means Gt (right_of.Item (Group name)) fits compared suited = absurd (false≢true compared)
      right_means Ge (right_of.Item (Group name)) fits compared suited = absurd (false≢true compared)
      right_means Lt (right_of.Set is) fits compared suited = absurd (false≢true compared)
      right_means Le (right_of.Set is) fits compared suited = absurd (false≢true compared)
      right_means Gt (right_of.Set is) fits compared suited = absurd (false≢true compared)
      right_means Ge (right_of.Set is) fits compared suited = absurd (false≢true compared)

    -- ---- atoms

    -- the meaning, or that of the negation
    abbrev atom_truth : Bool → TypedAtom → Bool
    atom_truth false a = atom_holds names.lookup k a
    atom_truth true a = atom_negation_holds names.lookup k a

    truth_means : (b : Bool) → Means k (Some (truth_cubes b)) b
    truth_means true = some_means k (everything ∷ []) true (ap (λ c. c || false) (everything_covers k))
    truth_means false = some_means k [] false refl

    -- the opposite relation tests equality where a relation does
    same_kind : (rel : Rel) (b : Bool) → (tests_equality rel || b) ≡ true → (tests_equality (opposite rel) || b) ≡ true
    same_kind Eq b e = refl
    same_kind Ne b e = refl
    same_kind Lt b e = e
    same_kind Le b e = e
    same_kind Gt b e = e
    same_kind Ge b e = e

    compare_means : (rel : Rel) (f : Field) (bits : Bits) (right : Right)
        → (bits_fit (Some (field_width f)) bits && right_fits (Some (field_width f)) bits right) ≡ true
        → (not (is_port f) || is_whole bits) ≡ true → (tests_equality rel || is_number right) ≡ true → right_suits f bits right ≡ true
        → Means k (with_field f (right_cubes names f bits rel right)) (is_there k f && relates names.lookup (field_width f) (part_of k f bits) rel right)
    compare_means rel f bits right fits ports compared suited =
        let parts = and_parts _ _ fits in
        field_means f _ _ (right_means f bits parts.0 ports rel right parts.1 compared suited)

    abbrev test_truth : Bool → Test → Bool
    test_truth false t = has k t
    test_truth true t = has_not k t

    test_means : (negated : Bool) (t : Test) → test_fits t ≡ true → Means k (test_cubes negated t) (test_truth negated t)
    test_means false t e = let parts = and_parts _ _ e in number_means t.field t.bits Eq t.number parts.0 (ltb-true _ _ parts.1)
    test_means true t e = let parts = and_parts _ _ e in number_means t.field t.bits Ne t.number parts.0 (ltb-true _ _ parts.1)

    -- a bit alone
    one_bit : (f : Field) (bits : Bits) → may_stand_alone (subject.Field f) bits ≡ true → 1 < 2 ^ part_width bits (field_width f)
    one_bit f bits e =
        let one : part_width bits (field_width f) ≡ 1 = eqb-true (part_width bits (field_width f)) 1 (and_parts (not (is_port f)) (part_width bits (field_width f) == 1) e).1 in
        subst (λ (n : ℕ). 1 < 2 ^ n) (sym one) (lit< tt)

    module _ (role : Role) where
      atom_means : (negated : Bool) (a : TypedAtom) → is_typed_atom role a ≡ true → Means k (atom_cubes names negated a) (atom_truth negated a)
      atom_means false (Truth b) e = truth_means b
      atom_means true (Truth b) e = truth_means (not b)
      atom_means false (Bare f bits) e = let parts = and_parts _ _ (and_parts _ _ e).1 in number_means f bits Eq 1 parts.0 (one_bit f bits parts.1)
      atom_means true (Bare f bits) e = let parts = and_parts _ _ (and_parts _ _ e).1 in number_means f bits Ne 1 parts.0 (one_bit f bits parts.1)
      atom_means false (Holds p) e = all_means k false (test_cubes false) (has k) test_fits (test_means false) (tests p) (predicates_fit p)
      atom_means true (Holds p) e = all_means k true (test_cubes true) (has_not k) test_fits (test_means true) (tests p) (predicates_fit p)
      atom_means false (Compare f bits rel right) e =
          let parts = and_parts _ _ (and_parts _ _ e).1 in
          let forms = and_parts _ _ parts.1 in
          let kinds = and_parts _ _ forms.0 in
          compare_means rel f bits right parts.0 kinds.0 kinds.1 forms.1
      atom_means true (Compare f bits rel right) e =
          let parts = and_parts _ _ (and_parts _ _ e).1 in
          let forms = and_parts _ _ parts.1 in
          let kinds = and_parts _ _ forms.0 in
          compare_means (opposite rel) f bits right parts.0 kinds.0 (same_kind rel _ kinds.1) forms.1

      -- ---- matches

      abbrev truth : Bool → Formula TypedAtom → Bool
      truth false f = holds names.lookup k f
      truth true f = negation_holds names.lookup k f

      -- of several: all or one, of the matches or of their negations
      abbrev together : Bool → Bool → Formulas TypedAtom → Bool
      together true false fs = all_hold names.lookup k fs
      together false false fs = some_hold names.lookup k fs
      together true true fs = all_negations_hold names.lookup k fs
      together false true fs = some_negation_holds names.lookup k fs

      none_together : (is_and negated : Bool) → together is_and negated Nil ≡ is_and
      none_together true false = refl
      none_together false false = refl
      none_together true true = refl
      none_together false true = refl

      more_together : (is_and negated : Bool) (f : Formula TypedAtom) (fs : Formulas TypedAtom) → together is_and negated (Cons f fs) ≡ op is_and (truth negated f) (together is_and negated fs)
      more_together true false f fs = refl
      more_together false false f fs = refl
      more_together true true f fs = refl
      more_together false true f fs = refl

      mutual
        pub match_means : (negated : Bool) (f : Formula TypedAtom) → IsTyped role f → Means k (match_cubes names negated f) (truth negated f)
        match_means false (Leaf a) typed = atom_means false a typed
        match_means true (Leaf a) typed = atom_means true a typed
        match_means false (Not f) typed = match_means true f typed
        match_means true (Not f) typed = match_means false f typed
        match_means false (And fs) typed = same_means k (from_start k true _) (operands_mean true false fs typed (Some (joined_none true)) true (start_means k true))
        match_means true (And fs) typed = same_means k (from_start k false _) (operands_mean false true fs typed (Some (joined_none false)) false (start_means k false))
        match_means false (Or fs) typed = same_means k (from_start k false _) (operands_mean false false fs typed (Some (joined_none false)) false (start_means k false))
        match_means true (Or fs) typed = same_means k (from_start k true _) (operands_mean true true fs typed (Some (joined_none true)) true (start_means k true))

        operands_mean : (is_and negated : Bool) (fs : Formulas TypedAtom) → AreTyped role fs → (o : Option (List Cube)) (a : Bool) → Means k o a
            → Means k (join_each is_and o (operand_cubes names negated fs)) (op is_and a (together is_and negated fs))
        operands_mean is_and negated Nil typed o a m = same_means k (sym (ap (op is_and a) (none_together is_and negated) ∙ op_none is_and a)) m
        operands_mean is_and negated (Cons f fs) typed o a m =
            same_means k (op_assoc is_and a (truth negated f) (together is_and negated fs) ∙ ap (op is_and a) (sym (more_together is_and negated f fs)))
            (operands_mean is_and negated fs typed.1 (join_one is_and o (match_cubes names negated f)) (op is_and a (truth negated f))
            (one_means k is_and o (match_cubes names negated f) a (truth negated f) m (match_means negated f typed.0)))

-- where there is a list, it covers the packets of which the match holds
pub match_covered : (role : Role) (names : Names) (f : Formula TypedAtom) (list : List Cube) → match_cubes names false f ≡ Some list
    → (k : Values) → AreOf names.lookup names.members → IsTyped role f → IsPacket k → cover list k ≡ holds names.lookup k f
match_covered role names f list is k are typed packet = (match_means k packet names are role false f typed).covered list is
