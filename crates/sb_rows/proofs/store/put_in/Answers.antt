use Rattle.std.proofs.Common.{◌≡◌, [], ◌∷◌, Some, None, Ok, Err, sym, ◌∙◌, ap, refl}
use Rattle.std.specs.Prelude.{Result, OnOk, OnErr}
use Rattle.std.specs.BTreeMap.{insert_entry, is_at}
use Rattle.std.specs.List.{All}
use Rattle.std.specs.Map.{lookup, set_value}
use Rattle.std.specs.Ordering.{nat_cmp}
use Rattle.std.proofs.lemmas.List.Elements.{All-cons, All-nil}
use Rattle.nv_base.specs.declared.memory.OutOfMemory.{OutOfMemory}
use Rattle.sb_model.specs.declared.row.Row.{Row}
use Rattle.sb_rows.specs.Row.{put_row}
use Rattle.sb_rows.specs.inner.Store.{flat}
use Rattle.sb_rows.specs.inner.Tables.{key_of}
use Rattle.sb_rows.proofs.Flat.{IsKeyed, flat_insert, flat_kept, flat_put, keyed_found, keyed_insert, keyed_set, put_all}
use Rattle.sb_rows.proofs.store.put_in.Goals as goal

-- the table that is there
there : (c : goal.In-Some) → lookup (is_at (nat_cmp (key_of c.args.row))) c.args.tables.now.entries ≡ Some c.in-Some.table.now
there c = sym (rw c.table_key-key.ensures at c.in-Some.ensures.value)

pub put-requires : goal.put-requires
put-requires c = keyed_found (key_of c.args.row) c.args.tables.now.entries c.in-Some.table.now c.requires.keyed (there c)

module _ (c : goal.After-tables-in-Some-1) where
  found : lookup (is_at (nat_cmp (key_of c.args.row))) c.args.tables.now.entries ≡ Some c.in-Some.table.now
  found = sym (rw c.table_key-key.ensures at c.in-Some.ensures.value)

  left : (c.get_mut.follows.lender c.put.new.self).entries ≡ set_value (is_at (nat_cmp (key_of c.args.row))) c.args.tables.now.entries c.put.new.self
  left = rw c.table_key-key.ensures at (c.get_mut.follows.holds c.put.new.self).0

  own : (r : Result (Unit {0}) OutOfMemory) → OnOk r (c.put.new.self ≡ put_row c.args.row c.in-Some.table.now) → OnErr r (c.put.new.self ≡ c.in-Some.table.now) → All (λ (x : Row). key_of x ≡ key_of c.args.row) c.put.new.self
  own (Ok done) ok err = rw ok (put_all c.args.row (λ (x : Row). key_of x ≡ key_of c.args.row) refl c.in-Some.table.now (keyed_found (key_of c.args.row) c.args.tables.now.entries c.in-Some.table.now c.requires.keyed found))
  own (Err failed) ok err = rw err (keyed_found (key_of c.args.row) c.args.tables.now.entries c.in-Some.table.now c.requires.keyed found)

  put : (r : Result (Unit {0}) OutOfMemory) → OnOk r (c.put.new.self ≡ put_row c.args.row c.in-Some.table.now) → OnOk r (flat (c.get_mut.follows.lender c.put.new.self).entries ≡ put_row c.args.row (flat c.args.tables.now.entries))
  put (Ok done) ok =
      ap flat (left ∙ ap (λ rows. set_value (is_at (nat_cmp (key_of c.args.row))) c.args.tables.now.entries rows) ok)
      ∙ flat_put c.args.row c.args.tables.now.entries c.in-Some.table.now c.requires.rise c.requires.keyed found
  put (Err failed) ok = tt

  stays : (r : Result (Unit {0}) OutOfMemory) → OnErr r (c.put.new.self ≡ c.in-Some.table.now) → OnErr r (flat (c.get_mut.follows.lender c.put.new.self).entries ≡ flat c.args.tables.now.entries)
  stays (Ok done) err = tt
  stays (Err failed) err = ap flat left ∙ flat_kept (is_at (nat_cmp (key_of c.args.row))) c.args.tables.now.entries c.in-Some.table.now c.put.new.self found err

pub returns-in-Some-clause-tables : goal.returns-in-Some-clause-tables
returns-in-Some-clause-tables c = record {
  rise = (c.get_mut.follows.holds c.put.new.self).4;
  keyed = rw (left c) (keyed_set (key_of c.args.row) c.args.tables.now.entries c.put.new.self c.requires.keyed (own c c.put.result c.put.ensures.ok c.put.ensures.err));
}

pub returns-in-Some-clause-ok : goal.returns-in-Some-clause-ok
returns-in-Some-clause-ok c = put c c.put.result c.put.ensures.ok

pub returns-in-Some-clause-err : goal.returns-in-Some-clause-err
returns-in-Some-clause-err c = stays c c.put.result c.put.ensures.err

module _ (c : goal.After-put_new) where
  none : lookup (is_at (nat_cmp (key_of c.args.row))) c.args.tables.now.entries ≡ None
  none = sym (rw c.table_key-key.ensures at c.in-None.ensures.value)

  keyed_new : (r : Result (Unit {0}) OutOfMemory) → OnOk r (c.put_new.new.tables.entries ≡ insert_entry nat_cmp c.args.tables.now.entries c.table_key-key.result (c.args.row ∷ [])) → OnErr r (c.put_new.new.tables.entries ≡ c.args.tables.now.entries)
      → All IsKeyed c.put_new.new.tables.entries
  keyed_new (Ok done) ok err = rw (ok, c.table_key-key.ensures) (keyed_insert (key_of c.args.row) c.args.tables.now.entries (c.args.row ∷ []) c.requires.keyed (All-cons (λ (x : Row). key_of x ≡ key_of c.args.row) c.args.row [] refl (All-nil (λ (x : Row). key_of x ≡ key_of c.args.row))))
  keyed_new (Err failed) ok err = rw err c.requires.keyed

  put_in_new : (r : Result (Unit {0}) OutOfMemory) → OnOk r (c.put_new.new.tables.entries ≡ insert_entry nat_cmp c.args.tables.now.entries c.table_key-key.result (c.args.row ∷ [])) → OnOk r (flat c.put_new.new.tables.entries ≡ put_row c.args.row (flat c.args.tables.now.entries))
  put_in_new (Ok done) ok = rw (ok, c.table_key-key.ensures) (flat_insert c.args.row c.args.tables.now.entries c.requires.rise c.requires.keyed none)
  put_in_new (Err failed) ok = tt

pub returns-in-None-clause-tables : goal.returns-in-None-clause-tables
returns-in-None-clause-tables c = record { rise = c.put_new.ensures.rise; keyed = keyed_new c c.put_new.result (rw c.get_mut.follows.holds-at-none at c.put_new.ensures.ok) (rw c.get_mut.follows.holds-at-none at c.put_new.ensures.err) }

pub returns-in-None-clause-ok : goal.returns-in-None-clause-ok
returns-in-None-clause-ok c = put_in_new c c.put_new.result (rw c.get_mut.follows.holds-at-none at c.put_new.ensures.ok)
