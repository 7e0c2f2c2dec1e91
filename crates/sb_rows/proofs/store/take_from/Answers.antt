use Rattle.std.proofs.Common.{◌≡◌, Some, Bool, true, false, subst, sym, ◌∙◌, ap}
use Rattle.std.proofs.lemmas.Bool.{false≢true}
use Rattle.std.specs.Prelude.{Contains}
use Rattle.std.specs.Bool.{OnTrue, OnFalse}
use Rattle.std.specs.BTreeMap.{is_at}
use Rattle.std.specs.Map.{lookup, set_value}
use Rattle.std.specs.Ordering.{nat_cmp}
use Rattle.sb_rows.specs.Row.{IsWithout}
use Rattle.sb_rows.specs.inner.Store.{flat}
use Rattle.sb_rows.specs.inner.Tables.{key_of}
use Rattle.sb_rows.proofs.Flat.{contained_found, contained_there, flat_kept, flat_take, keyed_found, keyed_set, none_is_some, own_kept, some_is}
use Rattle.sb_rows.proofs.store.take_from.Goals as goal

-- the table that is there
there : (c : goal.After-tables-in-Some-1) → lookup (is_at (nat_cmp (key_of c.args.row.now))) c.args.tables.now.entries ≡ Some c.in-Some.table.now
there c = sym (rw c.table_key.ensures at c.in-Some.ensures.value)

left : (c : goal.After-tables-in-Some-1) → (c.get_mut.follows.lender c.take.new.self).entries ≡ set_value (is_at (nat_cmp (key_of c.args.row.now))) c.args.tables.now.entries c.take.new.self
left c = rw c.table_key.ensures at (c.get_mut.follows.holds c.take.new.self).0

pub returns-in-Some-clause-tables : goal.returns-in-Some-clause-tables
returns-in-Some-clause-tables c = record {
  rise = (c.get_mut.follows.holds c.take.new.self).4;
  keyed = rw (left c) (keyed_set (key_of c.args.row.now) c.args.tables.now.entries c.take.new.self c.requires.keyed (own_kept c.args.row.now c.in-Some.table.now c.take.new.self (key_of c.args.row.now) c.take.result c.take.ensures.taken c.take.ensures.kept (keyed_found (key_of c.args.row.now) c.args.tables.now.entries c.in-Some.table.now c.requires.keyed (there c))));
}

pub returns-in-Some-clause-there : goal.returns-in-Some-clause-there
returns-in-Some-clause-there c = (
  λ taken. contained_there c.args.row.now (is_at (nat_cmp (key_of c.args.row.now))) c.args.tables.now.entries c.in-Some.table.now (there c) (c.take.ensures.there.0 taken),
  λ among.
      let at = contained_found c.args.row.now c.args.tables.now.entries c.requires.rise c.requires.keyed among in
      c.take.ensures.there.1 (subst (λ rows. Contains rows c.args.row.now) (some_is (sym at.1.0 ∙ there c)) at.1.1),
)

pub returns-in-Some-clause-taken : goal.returns-in-Some-clause-taken
returns-in-Some-clause-taken c = by c.take.result c.take.ensures.taken
  where
    by : (b : Bool) → OnTrue b (IsWithout c.args.row.now c.in-Some.table.now c.take.new.self) → OnTrue b (IsWithout c.args.row.now (flat c.args.tables.now.entries) (flat (c.get_mut.follows.lender c.take.new.self).entries))
    by true is = rw (left c) (flat_take c.args.row.now (is_at (nat_cmp (key_of c.args.row.now))) c.args.tables.now.entries c.in-Some.table.now c.take.new.self (there c) is)
    by false is = tt

pub returns-in-Some-clause-kept : goal.returns-in-Some-clause-kept
returns-in-Some-clause-kept c = by c.take.result c.take.ensures.kept
  where
    by : (b : Bool) → OnFalse b (c.take.new.self ≡ c.in-Some.table.now) → OnFalse b (flat (c.get_mut.follows.lender c.take.new.self).entries ≡ flat c.args.tables.now.entries)
    by true is = tt
    by false is = ap flat (left c) ∙ flat_kept (is_at (nat_cmp (key_of c.args.row.now))) c.args.tables.now.entries c.in-Some.table.now c.take.new.self (there c) is

pub returns-in-None-clause-there : goal.returns-in-None-clause-there
returns-in-None-clause-there c = (
  λ no. absurd (false≢true no),
  λ among.
      let at = contained_found c.args.row.now c.args.tables.now.entries c.requires.rise c.requires.keyed among in
      absurd (none_is_some (rw c.table_key.ensures at c.in-None.ensures.value ∙ at.1.0)),
)
