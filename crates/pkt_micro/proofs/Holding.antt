-- The match of a microflow holds of its packet, once the port has its number.
use Rattle.std.proofs.Common.{◌≡◌, ◌≢◌, ℕ, suc, ◌==◌, ◌^◌, lit<, Bool, true, false, not, ◌&&◌, ◌||◌, List, [], ◌∷◌, ◌++◌, length, get_or, map, Option, Some, None, Result, Ok, Err, refl, sym, ap, subst, ◌∙◌, arith, nat_lt}
use Rattle.std.specs.List.{find, list_any, list_all, All}
use Rattle.std.specs.Option.{option_map}
use Rattle.std.proofs.Math.Bool.{or-false}
use Rattle.std.proofs.lemmas.Bool.{eq-eqb, eqb-true, and_parts, and_from, not-false, or_parts}
use Rattle.std.proofs.lemmas.Option.{same_Some, option_and_then_some}
use Rattle.std.proofs.lemmas.List.{get_or-set_same, get_or-set_other, length-set}
use Rattle.std.proofs.lemmas.List.Sums.{AllPass-from_list_all}
use Rattle.nv_base.proofs.Fields.{counted}
use Rattle.nv_base.specs.declared.field.Field.{Field}
use Rattle.nv_base.specs.declared.field.Field.TheVariants.{Inport, EthType, IpProto}
use Rattle.nv_base.specs.declared.field.Prerequisite.{Prerequisite}
use Rattle.nv_base.specs.declared.field.Prerequisite.TheVariants as needs
use Rattle.nv_base.specs.declared.object.ObjId.{ObjId}
use Rattle.nv_base.specs.inner.Exact as tells
use Rattle.nv_base.specs.Field.{field_count, field_prerequisite, all_fields}
use Rattle.pkt_core.proofs.Only.{place_within, field_at}
use Rattle.pkt_core.specs.Packet.{Values, place, value, with_value, with_values, zero_packet}
use Rattle.pkt_core.specs.Prerequisite.{meets}
use Rattle.expr_core.specs.Formula.{Formula, Formulas}
use Rattle.expr_core.specs.Formula.Formula.{Leaf, Not, And, Or}
use Rattle.expr_core.specs.Formula.Formulas.{Nil, Cons}
use Rattle.expr_core.specs.Lookup.{Lookup}
use Rattle.expr_core.specs.TypeRules.{is_of_error, is_quote}
use Rattle.expr_core.specs.WellTyped.{is_typed_atom, IsTyped, AreTyped}
use Rattle.expr_core.specs.declared.comparison.Item.{Item}
use Rattle.expr_core.specs.declared.comparison.Item.TheVariants.{One, Masked, Text, AddrSet, Group}
use Rattle.expr_core.specs.declared.comparison.Rel.TheVariants.{Eq}
use Rattle.expr_core.specs.declared.comparison.Right.TheVariants as right_of
use Rattle.expr_core.specs.declared.constant.Const.{Const}
use Rattle.expr_core.specs.declared.part.Bits.TheVariants.{Whole, Bit, Range}
use Rattle.expr_core.specs.declared.predicate.Pred.{Pred}
use Rattle.expr_core.specs.declared.predicate.Pred.TheVariants as pred
use Rattle.expr_core.specs.declared.role.Role.TheVariants as role
use Rattle.expr_core.specs.declared.typed.TypedAtom.{TypedAtom}
use Rattle.expr_core.specs.declared.typed.TypedAtom.TheVariants.{Truth, Bare, Holds, Compare}
use Rattle.expr_eval.specs.MatchMeaning.{atom_holds, holds, all_hold}
use Rattle.pkt_micro.specs.Microflow.{equality, implied, prerequisite_named, needing, said_of, said_by, joined, said, all_said, same_value, is_of, is_given_another, is_contradicted, number_of, name_of, numbered, port_said, judged, microflow, microflow_of}
use Rattle.pkt_micro.specs.declared.equality.Equality.{Equality}
use Rattle.pkt_micro.specs.declared.equality.Value.{Value}
use Rattle.pkt_micro.specs.declared.equality.Value.TheVariants.{Number, Port}
use Rattle.pkt_micro.specs.declared.fault.MicroFault.{MicroFault}
use Rattle.pkt_micro.specs.declared.microflow.Micro.{Micro}
use Rattle.pkt_micro.proofs.Told.{packet_has, parts, none_contradicted}

-- each of the list, one after another
abbrev Each : (Equality → Type 0) → List Equality → Type 0
Each Is [] = Unit {0}
Each Is (e ∷ es) = Is e × Each Is es

each_of : (Is : Equality → Type 0) (es : List Equality) → All Is es → Each Is es
each_of Is [] all = tt
each_of Is (e ∷ es) all = (all 0 e (omega arith), each_of Is es (λ k d within. all (suc k) d (omega (arith, within))))

each_front : (Is : Equality → Type 0) (es others : List Equality) → Each Is (es ++ others) → Each Is es
each_front Is [] others each = tt
each_front Is (e ∷ es) others each = (each.0, each_front Is es others each.1)

each_back : (Is : Equality → Type 0) (es others : List Equality) → Each Is (es ++ others) → Each Is others
each_back Is [] others each = each
each_back Is (e ∷ es) others each = each_back Is es others each.1

-- the port to come in by is the field of the least number
at_zero : (field : Field) → place field ≡ 0 → field ≡ Inport
at_zero field same = sym (field_at field field) ∙ ap (λ k. get_or all_fields k field) same ∙ field_at Inport field

-- it alone may have a name
abbrev is_unnamed : List ℕ → Field → Bool
is_unnamed name field = not (is_typed_atom role.Micro (Compare field Whole Eq (right_of.Item (Text name)))) || (place field == 0)

others_unnamed : (name : List ℕ) → list_all (is_unnamed name) all_fields ≡ true
unfolding all_fields
others_unnamed name = refl

-- a port is named, and a number is of another field
named_inport : (field : Field) (name : List ℕ) → is_typed_atom role.Micro (Compare field Whole Eq (right_of.Item (Text name))) ≡ true → field ≡ Inport
named_inport field name typed =
    let unnamed = AllPass-from_list_all (is_unnamed name) all_fields (others_unnamed name) (place field) field (rw counted (place_within field)) in
    let own : is_unnamed name field ≡ true = subst (λ (f : Field). is_unnamed name f ≡ true) (field_at field field) unnamed in
    at_zero field (eqb-true (place field) 0 (subst (λ (b : Bool). (not b || (place field == 0)) ≡ true) typed own))

last : (a b c d : Bool) → (a && ((b && c) && d)) ≡ true → d ≡ true
last a b c d e = (and_parts (b && c) d (and_parts a ((b && c) && d) e).1).1

number_elsewhere : (field : Field) (c : Const) → is_typed_atom role.Micro (Compare field Whole Eq (right_of.Item (One c))) ≡ true → place field ≢ 0
number_elsewhere field c typed = λ same.
    let inport : is_typed_atom role.Micro (Compare Inport Whole Eq (right_of.Item (One c))) ≡ true = subst (λ (f : Field). is_typed_atom role.Micro (Compare f Whole Eq (right_of.Item (One c))) ≡ true) (at_zero field same) typed in
    let never : false ≡ true = last true true (nat_lt c.value (2 ^ 32)) false inport in cc

-- a name is this one
abbrev NameIs : List ℕ → Value → Type 0
NameIs inport (Number n) = Unit {0}
NameIs inport (Port name) = name ≡ inport

same_name : (inport : List ℕ) (v w : Value) → name_of v ≡ Some inport → same_value v w ≡ true → NameIs inport w
same_name inport v (Number n) is same = tt
same_name inport (Number n) (Port name) is same = cc
same_name inport (Port own) (Port name) is same = sym (tells.list _ tells.number own name same) ∙ same_Some own inport is

each_named : (inport : List ℕ) (v : Value) → name_of v ≡ Some inport → (es : List Equality) → list_any (λ e. is_of Inport e && not (same_value v e.value)) es ≡ false
    → Each (λ e. is_of Inport e ≡ true → NameIs inport e.value) es
each_named inport v named [] none = tt
each_named inport v named (e ∷ es) none =
    let both = or_parts (is_of Inport e && not (same_value v e.value)) (list_any (λ e. is_of Inport e && not (same_value v e.value)) es) none in
    (λ is. same_name inport v e.value named (not-false (same_value v e.value) (rw is at both.0)), each_named inport v named es both.1)

each_three : (A B C : Equality → Type 0) (es : List Equality) → Each A es → Each B es → Each C es → Each (λ e. A e × B e × C e) es
each_three A B C [] a b c = tt
each_three A B C (e ∷ es) a b c = ((a.0, b.0, c.0), each_three A B C es a.1 b.1 c.1)

module _ (net : Lookup) (packet : Values) (inport : List ℕ) (port : ObjId) (known : net.port inport ≡ Some port) (long : length packet ≡ field_count) where
  -- the packet where its port has its number
  abbrev at_port : Values
  at_port = with_value packet Inport port.0

  elsewhere : (field : Field) → place field ≢ 0 → value at_port field ≡ value packet field
  elsewhere field other = get_or-set_other packet 0 (place field) port.0 0 other

  -- the packet has the number, the port is the one that is known, and a quote is there
  abbrev IsHad : Equality → Type 0
  IsHad e = (value packet e.field ≡ number_of e.value) × (is_of Inport e ≡ true → NameIs inport e.value) × (is_quote e.field ≡ true → meets at_port needs.IcmpError ≡ true)

  has_type : (n : ℕ) → value packet EthType ≡ n → (value at_port EthType == n) ≡ true
  has_type n is = eq-eqb _ _ (elsewhere EthType (λ same. omega (arith, same)) ∙ is)

  has_protocol : (n : ℕ) → value packet IpProto ≡ n → (value at_port IpProto == n) ≡ true
  has_protocol n is = eq-eqb _ _ (elsewhere IpProto (λ same. omega (arith, same)) ∙ is)

  meets_implied : (needed : Prerequisite) → Each IsHad (implied needed) → (is_of_error needed ≡ true → meets at_port needs.IcmpError ≡ true) → meets at_port needed ≡ true
  meets_implied needs.Nothing each quote = refl
  meets_implied needs.Ip4 each quote = has_type 0x800 each.0.0
  meets_implied needs.Arp each quote = has_type 0x806 each.0.0
  meets_implied needs.Tcp each quote = and_from _ _ (has_type 0x800 each.0.0) (has_protocol 6 each.1.0.0)
  meets_implied needs.Udp each quote = and_from _ _ (has_type 0x800 each.0.0) (has_protocol 17 each.1.0.0)
  meets_implied needs.Icmp4 each quote = and_from _ _ (has_type 0x800 each.0.0) (has_protocol 1 each.1.0.0)
  meets_implied needs.IcmpError each quote = quote refl

  predicate_holds : (p : Pred) (es : List Equality) → option_map implied (prerequisite_named p) ≡ Some es → Each IsHad es → atom_holds net at_port (Holds p) ≡ true
  predicate_holds pred.Ip4 es says each = or-false _ ∙ meets_implied needs.Ip4 (subst (λ (xs : List Equality). Each IsHad xs) (sym (same_Some (implied needs.Ip4) es says)) each) (λ no. cc)
  predicate_holds pred.Arp es says each = or-false _ ∙ meets_implied needs.Arp (subst (λ (xs : List Equality). Each IsHad xs) (sym (same_Some (implied needs.Arp) es says)) each) (λ no. cc)
  predicate_holds pred.Tcp es says each = or-false _ ∙ meets_implied needs.Tcp (subst (λ (xs : List Equality). Each IsHad xs) (sym (same_Some (implied needs.Tcp) es says)) each) (λ no. cc)
  predicate_holds pred.Udp es says each = or-false _ ∙ meets_implied needs.Udp (subst (λ (xs : List Equality). Each IsHad xs) (sym (same_Some (implied needs.Udp) es says)) each) (λ no. cc)
  predicate_holds pred.Icmp4 es says each = or-false _ ∙ meets_implied needs.Icmp4 (subst (λ (xs : List Equality). Each IsHad xs) (sym (same_Some (implied needs.Icmp4) es says)) each) (λ no. cc)
  predicate_holds _ es says each = cc

  needing_holds : (field : Field) (v : Value) → Each IsHad (needing field v) → (meets at_port (field_prerequisite field) ≡ true) × IsHad (equality field v)
  needing_holds field v each =
      let own = (each_back IsHad (implied (field_prerequisite field)) (equality field v ∷ []) each).0 in
      (meets_implied (field_prerequisite field) (each_front IsHad (implied (field_prerequisite field)) (equality field v ∷ []) each) own.2, own)

  port_holds : (name : List ℕ) → Each IsHad (needing Inport (Port name)) → atom_holds net at_port (Compare Inport Whole Eq (right_of.Item (Text name))) ≡ true
  port_holds name each =
      let is : name ≡ inport = (needing_holds Inport (Port name) each).1.1 refl in
      let at : value at_port Inport ≡ port.0 = get_or-set_same packet 0 port.0 0 (rw long (lit< tt)) in
      rw (is, known) (eq-eqb (value at_port Inport) port.0 at)

  item_holds : (field : Field) (i : Item) (es : List Equality) → is_typed_atom role.Micro (Compare field Whole Eq (right_of.Item i)) ≡ true → said_of field i ≡ Some es → Each IsHad es
      → atom_holds net at_port (Compare field Whole Eq (right_of.Item i)) ≡ true
  item_holds field (One c) es typed says each =
      let both = needing_holds field (Number c.value) (subst (λ (xs : List Equality). Each IsHad xs) (sym (same_Some (needing field (Number c.value)) es says)) each) in
      and_from _ _ both.0 (eq-eqb _ _ (elsewhere field (number_elsewhere field c typed) ∙ both.1.0))
  item_holds field (Text name) es typed says each =
      let all = subst (λ (xs : List Equality). Each IsHad xs) (sym (same_Some (needing field (Port name)) es says)) each in
      let is = named_inport field name typed in
      subst (λ (f : Field). atom_holds net at_port (Compare f Whole Eq (right_of.Item (Text name))) ≡ true) (sym is) (port_holds name (subst (λ (f : Field). Each IsHad (needing f (Port name))) is all))
  item_holds field (Masked c m) es typed says each = cc
  item_holds field (AddrSet name) es typed says each = cc
  item_holds field (Group name) es typed says each = cc

  atom_said : (a : TypedAtom) (es : List Equality) → is_typed_atom role.Micro a ≡ true → said_by a ≡ Some es → Each IsHad es → atom_holds net at_port a ≡ true
  atom_said (Truth true) es typed says each = refl
  atom_said (Truth false) es typed says each = cc
  atom_said (Bare field bits) es typed says each = cc
  atom_said (Holds p) es typed says each = predicate_holds p es says each
  atom_said (Compare field Whole Eq (right_of.Item i)) es typed says each = item_holds field i es typed says each
  atom_said (Compare field Whole Eq (right_of.Set is)) es typed says each = cc
  atom_said (Compare field Whole _ right) es typed says each = cc
  atom_said (Compare field (Bit n) rel right) es typed says each = cc
  atom_said (Compare field (Range first last) rel right) es typed says each = cc

  both_hold : (s more : Option (List Equality)) (es : List Equality) (P Q : Bool) → joined s more ≡ Some es → Each IsHad es
      → ((xs : List Equality) → s ≡ Some xs → Each IsHad xs → P ≡ true) → ((xs : List Equality) → more ≡ Some xs → Each IsHad xs → Q ≡ true) → (P && Q) ≡ true
  both_hold None more es P Q says each one others = cc
  both_hold (Some xs) None es P Q says each one others = cc
  both_hold (Some xs) (Some ys) es P Q says each one others =
      let all : Each IsHad (xs ++ ys) = subst (λ (zs : List Equality). Each IsHad zs) (sym (same_Some (xs ++ ys) es says)) each in
      and_from P Q (one xs refl (each_front IsHad xs ys all)) (others ys refl (each_back IsHad xs ys all))

  mutual
    holds_said : (t : Formula TypedAtom) → IsTyped role.Micro t → (es : List Equality) → said t ≡ Some es → Each IsHad es → holds net at_port t ≡ true
    holds_said (Leaf a) typed es says each = atom_said a es typed says each
    holds_said (Not t) typed es says each = cc
    holds_said (And ts) typed es says each = all_said_hold ts typed es says each
    holds_said (Or ts) typed es says each = cc

    all_said_hold : (ts : Formulas TypedAtom) → AreTyped role.Micro ts → (es : List Equality) → all_said ts ≡ Some es → Each IsHad es → all_hold net at_port ts ≡ true
    all_said_hold Nil typed es says each = refl
    all_said_hold (Cons t ts) typed es says each =
        both_hold (said t) (all_said ts) es (holds net at_port t) (all_hold net at_port ts) says each (λ xs is had. holds_said t typed.0 xs is had) (λ xs is had. all_said_hold ts typed.1 xs is had)

-- what an accepted microflow is
abbrev inport_in : Result Micro MicroFault → Option (List ℕ)
inport_in (Ok m) = Some m.inport
inport_in (Err f) = None

accepted_port : (es : List Equality) (found : Option Field) (port : Option (List ℕ)) (m : Micro) → judged es found port ≡ Ok m → port ≡ Some m.inport
accepted_port es (Some field) port m e = cc
accepted_port es None None m e = cc
accepted_port es None (Some name) m e = ap inport_in e

long_with : (ps : List (Field × ℕ)) (packet : Values) → length (with_values packet ps) ≡ length packet
long_with [] packet = refl
long_with (p ∷ ps) packet = long_with ps (with_value packet p.0 p.1) ∙ length-set packet (place p.0) p.1

module _ (net : Lookup) (t : Formula TypedAtom) (m : Micro) (es : List Equality) (port : ObjId) (typed : IsTyped role.Micro t) (says : said t ≡ Some es) (made : microflow t ≡ Ok m)
    (known : net.port m.inport ≡ Some port) (quotes : All (λ e. is_quote e.field ≡ true → meets (with_value m.packet Inport port.0) needs.IcmpError ≡ true) es) where
  long : length m.packet ≡ field_count
  long = ap length (sym (parts t m es says made).1) ∙ long_with (map numbered es) zero_packet

  named : Each (λ e. is_of Inport e ≡ true → NameIs m.inport e.value) es
  named =
      let port_is = accepted_port es (find (is_contradicted es) all_fields) (port_said es) m (sym (ap microflow_of says) ∙ made) in
      option_and_then_some (λ e. name_of e.value) (find (is_of Inport) es) m.inport port_is
      (λ first found name. each_named m.inport first.value name es (sym (ap (is_given_another Inport es) found) ∙ none_contradicted es Inport (parts t m es says made).0))

  had : Each (IsHad net m.packet m.inport port known long) es
  had = each_three _ _ _ es (each_of _ es (packet_has t m es says made)) named (each_of _ es quotes)

  pub match_holds : holds net (with_value m.packet Inport port.0) t ≡ true
  match_holds = holds_said net m.packet m.inport port known long t typed es says had
