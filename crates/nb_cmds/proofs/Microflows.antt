-- What a microflow gives: the packet fits its fields, and its port has a name that a match may quote.
use Rattle.std.proofs.Common.{◌≡◌, ℕ, ◌<◌, ◌^◌, Bool, true, false, List, [], ◌∷◌, ◌++◌, map, get_or, eqb, Option, Some, None, Result, Ok, Err, IfOk, IfSome, option_map, refl, sym, ap, subst, ◌∙◌, if◌then◌else◌}
use Rattle.std.specs.Bool.{IsTrue}
use Rattle.std.specs.List.{AllByRecursion, find}
use Rattle.std.proofs.lemmas.Bool.{false≢true, eq-eqb, eqb-true}
use Rattle.std.proofs.lemmas.List.{get_or-set_same, get_or-set_other, length-set}
use Rattle.std.proofs.lemmas.Nat.{pow_pos}
use Rattle.nv_base.specs.Field.{field_width, field_prerequisite, all_fields}
use Rattle.nv_base.specs.declared.field.Field.{Field}
use Rattle.nv_base.specs.declared.field.Field.TheVariants.{Inport}
use Rattle.nv_base.specs.declared.field.Prerequisite.{Prerequisite}
use Rattle.nv_base.specs.declared.field.Prerequisite.TheVariants as needs
use Rattle.expr_core.specs.Formula.{Formula, Formulas, formulas_map}
use Rattle.expr_core.specs.Formula.Formula.{Leaf, Not, And, Or}
use Rattle.expr_core.specs.Formula.Formulas.{Nil, Cons}
use Rattle.expr_core.specs.Named.{named, named_atom}
use Rattle.expr_core.specs.WellFormed.{IsWellFormed, AreWellFormed}
use Rattle.expr_core.specs.WellTyped.{IsTyped}
use Rattle.expr_core.specs.declared.comparison.Item.{Item}
use Rattle.expr_core.specs.declared.comparison.Item.TheVariants.{One, Masked, Text, AddrSet, Group}
use Rattle.expr_core.specs.declared.comparison.Rel.TheVariants.{Eq}
use Rattle.expr_core.specs.declared.comparison.Right.TheVariants as right_of
use Rattle.expr_core.specs.declared.expr.Atom.{Atom}
use Rattle.expr_core.specs.declared.part.Bits.TheVariants.{Whole, Bit, Range}
use Rattle.expr_core.specs.declared.role.Role.TheVariants as role
use Rattle.expr_core.specs.declared.typed.TypedAtom.{TypedAtom}
use Rattle.expr_core.specs.declared.typed.TypedAtom.TheVariants.{Truth, Bare, Holds, Compare}
use Rattle.expr_parse.specs.Grammar.{Reading, reading}
use Rattle.expr_parse.specs.Grammar.Reading.{Read, Fails}
use Rattle.nv_base.specs.Name.{is_quotable}
use Rattle.expr_parse.specs.Token.{Tokens}
use Rattle.expr_parse.specs.Written.{IsItem, IsLeaf}
use Rattle.expr_parse.proofs.WellFormed.{formed}
use Rattle.expr_check.specs.Check.{checked}
use Rattle.expr_check.specs.declared.fault.TypeFault.{TypeFault}
use Rattle.expr_check.proofs.Passed.{well_typed}
use Rattle.nb_read.specs.Readings.{checked_match, parsed_match}
use Rattle.nb_model.proofs.MatchReadings.{IsWhole, formed_too, reading_whole}
use Rattle.nb_model.proofs.Reading.{goes_on, there_after}
use Rattle.pkt_core.specs.Packet.{Values, IsPacket, place, value, with_value, with_values, zero_packet}
use Rattle.pkt_core.proofs.Only.{place_within, field_at}
use Rattle.pkt_micro.specs.Microflow.{implied, prerequisite_named, said_of, said_by, joined, said, all_said, is_of, is_contradicted, number_of, numbered, name_of, port_said, judged, microflow, microflow_of}
use Rattle.pkt_micro.specs.declared.fault.MicroFault.{MicroFault}
use Rattle.pkt_micro.specs.declared.microflow.Micro.{Micro}
use Rattle.pkt_micro.specs.inner.Listed.{AllFit}
use Rattle.pkt_micro.proofs.Fitting.{list_fits}
use Rattle.nb_cmds.specs.Microflows as flow
use Rattle.nb_cmds.specs.Microflows.{micro_of}

-- What a match says is a list of these: a field and its value.

abbrev From : {X Y : Type 0} → (X → Y) → Type 0
From {X} f = X

abbrev Equality : Type 0
Equality = From numbered

-- ---- packets

same_place : (f g : Field) → place f ≡ place g → f ≡ g
same_place f g same = sym (field_at f f) ∙ ap (λ i. get_or all_fields i f) same ∙ field_at g f

-- a packet with a number that fits is a packet
fits_with : (packet : Values) (field : Field) (number : ℕ) → IsPacket packet → number < 2 ^ field_width field → IsPacket (with_value packet field number)
fits_with packet field number is fits = record { count = length-set packet (place field) number ∙ is.count; fits = λ other. by other (eqb (place field) (place other)) refl }
  where
    by : (other : Field) (b : Bool) → eqb (place field) (place other) ≡ b → value (with_value packet field number) other < 2 ^ field_width other
    by other true same =
        let one : field ≡ other = same_place field other (eqb-true _ _ same) in
        subst (λ f. value (with_value packet field number) f < 2 ^ field_width f) one (rw (get_or-set_same packet (place field) number 0 (rw is.count (place_within field))) fits)
    by other false apart =
        rw (get_or-set_other packet (place field) (place other) number 0 (λ same. false≢true (sym apart ∙ eq-eqb (place field) (place other) (sym same)))) (is.fits other)

zero_is : IsPacket zero_packet
zero_is = record { count = refl; fits = λ field. rw (zero_at field) (pow_pos (field_width field)) }
  where
    zero_at : (field : Field) → value zero_packet field ≡ 0
    zero_at Inport = refl
    zero_at _ = refl

with_all : (es : List Equality) (packet : Values) → IsPacket packet → AllFit es → IsPacket (with_values packet (map numbered es))
with_all [] packet is fit = is
with_all (e ∷ es) packet is fit = with_all es (with_value packet e.field (number_of e.value)) (fits_with packet e.field (number_of e.value) is fit.0) fit.1

-- ---- names

-- a port's name may be quoted in a match
abbrev IsNamed : Equality → Type 0
IsNamed e = IfSome (name_of e.value) (λ name. is_quotable name ≡ true)

abbrev AreNamed : List Equality → Type 0
AreNamed es = AllByRecursion IsNamed es

abbrev SaidNamed : Option (List Equality) → Type 0
SaidNamed None = Unit {0}
SaidNamed (Some es) = AreNamed es

more_named : (es others : List Equality) → AreNamed es → AreNamed others → AreNamed (es ++ others)
more_named [] others are more = more
more_named (e ∷ es) others are more = (are.0, more_named es others are.1 more)

implied_named : (needed : Prerequisite) → AreNamed (implied needed)
implied_named needs.Nothing = tt
implied_named needs.Ip4 = (tt, tt)
implied_named needs.Arp = (tt, tt)
implied_named needs.Tcp = (tt, (tt, tt))
implied_named needs.Udp = (tt, (tt, tt))
implied_named needs.Icmp4 = (tt, (tt, tt))
implied_named needs.IcmpError = (tt, (tt, tt))

predicate_named : (needed : Option Prerequisite) → SaidNamed (option_map implied needed)
predicate_named None = tt
predicate_named (Some needed) = implied_named needed

item_named : (field : Field) (i : Item) → IsItem i → SaidNamed (said_of field i)
item_named field (One c) is = more_named (implied (field_prerequisite field)) _ (implied_named (field_prerequisite field)) (tt, tt)
item_named field (Text name) is = more_named (implied (field_prerequisite field)) _ (implied_named (field_prerequisite field)) (is, tt)
item_named field (Masked c m) is = tt
item_named field (AddrSet name) is = tt
item_named field (Group name) is = tt

atom_said : (a : TypedAtom) → IsLeaf (named_atom a) → SaidNamed (said_by a)
atom_said (Truth true) is = tt
atom_said (Truth false) is = tt
atom_said (Bare field bits) is = tt
atom_said (Holds p) is = predicate_named (prerequisite_named p)
atom_said (Compare field Whole Eq (right_of.Item i)) is = item_named field i is.1
atom_said (Compare field Whole Eq (right_of.Set is)) are = tt
atom_said (Compare field Whole _ right) is = tt
atom_said (Compare field (Bit n) rel right) is = tt
atom_said (Compare field (Range first last) rel right) is = tt

joined_said : (s more : Option (List Equality)) → SaidNamed s → SaidNamed more → SaidNamed (joined s more)
joined_said None more are others = tt
joined_said (Some es) None are others = tt
joined_said (Some es) (Some rest) are others = more_named es rest are others

mutual
  said_named : (t : Formula TypedAtom) → IsWellFormed IsLeaf (named t) → SaidNamed (said t)
  said_named (Leaf a) is = atom_said a is
  said_named (Not t) is = tt
  said_named (And ts) is = all_said_named ts is.1
  said_named (Or ts) is = tt

  all_said_named : (ts : Formulas TypedAtom) → AreWellFormed IsLeaf (formulas_map named_atom ts) → SaidNamed (all_said ts)
  all_said_named Nil are = tt
  all_said_named (Cons t ts) are = joined_said (said t) (all_said ts) (said_named t are.0) (all_said_named ts are.1)

-- so the port's name may be quoted
port_named : (es : List Equality) → AreNamed es → IfSome (port_said es) (λ name. is_quotable name ≡ true)
port_named es are = there_after IsNamed (λ name. is_quotable name ≡ true) (λ (e : Equality). name_of e.value) (find (is_of Inport) es) (first es are) (λ e is. is)
  where
    first : (es : List Equality) → AreNamed es → IfSome (find (is_of Inport) es) IsNamed
    first [] are = tt
    first (e ∷ es) are = either (is_of Inport e) (first es are.1)
      where
        either : (b : Bool) → IfSome (find (is_of Inport) es) IsNamed → IfSome (if b then Some e else find (is_of Inport) es) IsNamed
        either true rest = are.0
        either false rest = rest

-- ---- microflows

-- well-typed, and well-formed in names
abbrev IsGood : Formula TypedAtom → Type 0
IsGood t = IsTyped role.Micro t × IsWellFormed IsLeaf (named t)

checked_good : (text : List ℕ) (e : Formula Atom) (c : Result (Formula TypedAtom) TypeFault) → reading text ≡ Read e [] → checked role.Micro e ≡ c → IfOk (checked_match c) IsGood
checked_good text e (Ok t) read passes =
    let meaning = well_typed role.Micro e t passes in
    (meaning.1, subst (IsWellFormed IsLeaf) (sym meaning.0) (formed_too e (formed text e read).0))
checked_good text e (Err fault) read passes = tt

parsed_good : (text : List ℕ) (r : Reading (Formula Atom)) → reading text ≡ r → IsWhole r → IfOk (parsed_match role.Micro r) IsGood
parsed_good text (Read e rest) read all = checked_good text e (checked role.Micro e) (subst (λ (ts : Tokens). reading text ≡ Read e ts) all read) refl
parsed_good text (Fails fault) read all = tt

-- a packet, and a port whose name may be quoted in a match
abbrev pub IsWellRead : Micro → Type 0
IsWellRead m = IsTrue (is_quotable m.inport) × IsPacket m.packet

judged_well : (es : List Equality) (field : Option Field) (port : Option (List ℕ)) → AllFit es → IfSome port (λ name. is_quotable name ≡ true) → IfOk (judged es field port) IsWellRead
judged_well es (Some field) port fit is = tt
judged_well es None None fit is = tt
judged_well es None (Some name) fit is = (is, with_all es zero_packet zero_is fit)

said_well : (t : Formula TypedAtom) (s : Option (List Equality)) → said t ≡ s → IsTyped role.Micro t → SaidNamed s → IfOk (microflow_of s) IsWellRead
said_well t None says typed are = tt
said_well t (Some es) says typed are = judged_well es (find (is_contradicted es) all_fields) (port_said es) (list_fits t es typed says) (port_named es are)

refused_too : (r : Result Micro MicroFault) → IfOk r IsWellRead → IfOk (flow.judged r) IsWellRead
refused_too (Ok m) is = is
refused_too (Err f) is = tt

pub micro_given : (text : List ℕ) → IfOk (micro_of text) IsWellRead
unfolding micro_of
micro_given text =
    goes_on IsGood IsWellRead (parsed_match role.Micro (reading text)) (λ t. flow.judged (microflow t)) (parsed_good text (reading text) refl (reading_whole text))
    (λ t good. refused_too (microflow t) (said_well t (said t) refl good.0 (said_named t good.1)))
