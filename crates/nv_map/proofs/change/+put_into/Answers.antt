use Rattle.std.proofs.Common.{◌≡◌, ◌++◌, ◌∷◌, None, Less, Equal, Greater, arith, sym, ap, ◌∙◌}
use Rattle.nv_map.specs.Map.{KeysRise, value_at, with_entry}
use Rattle.nv_map.specs.Node.{entries_of, tree_entries}
use Rattle.nv_map.proofs.Parted.{compared, key_of, low_of, high_of, none_is_some, part_low, part_high, left_alone_low, left_alone_high}
use Rattle.nv_map.specs.inner.Keys.{keys_part}
use Rattle.nv_map.proofs.Split.{value_low, value_high, value_own, with_low, with_high}
use Rattle.nv_map.proofs.change.+put_into.Goals as goal

pub put_into-low-requires : goal.put_into-low-requires
put_into-low-requires g t c =
    let node = c.in-Some.root.value in
    let is = ap tree_entries c.in-Some.is in
    let low : tree_entries c.take_low.result ≡ node.0 = c.take_low.ensures.low ∙ low_of c.deref_mut.ensures.value in
    let less : g.K.Ord.cmp c.args.entry.0 node.1.0 ≡ Less = compared g.K.Ord.cmp c.cmp.ensures c.in-Less.is c.key.ensures (c.key-2.ensures ∙ key_of c.deref.ensures) in
    let part = part_low g.K.Ord.cmp node is c.requires.rise low in
    let rise : KeysRise g.K.Ord.cmp (entries_of node) = rw c.in-Some.is at c.requires.rise in
    let new : value_at g.K.Ord.cmp c.args.entry.0 (entries_of node) ≡ None = rw c.in-Some.is at c.requires.new in
    λ κs lives. (omega (arith, part.0, c.decreases), (lives.0, (lives.1, (part.1, rw low (sym (value_low (keys_part g.met.K.Ord.total _) node.0 node.1 node.2 rise less) ∙ new)))))

pub put_into-high-requires : goal.put_into-high-requires
put_into-high-requires g t c =
    let node = c.in-Some.root.value in
    let is = ap tree_entries c.in-Some.is in
    let high : tree_entries c.take_high.result ≡ node.2 = c.take_high.ensures.high ∙ high_of c.deref_mut-in-Greater.ensures.value in
    let greater : g.K.Ord.cmp c.args.entry.0 node.1.0 ≡ Greater = compared g.K.Ord.cmp c.cmp.ensures c.in-Greater.is c.key.ensures (c.key-2.ensures ∙ key_of c.deref.ensures) in
    let part = part_high g.K.Ord.cmp node is c.requires.rise high in
    let rise : KeysRise g.K.Ord.cmp (entries_of node) = rw c.in-Some.is at c.requires.rise in
    let new : value_at g.K.Ord.cmp c.args.entry.0 (entries_of node) ≡ None = rw c.in-Some.is at c.requires.new in
    λ κs lives. (omega (arith, part.0, c.decreases), (lives.0, (lives.1, (part.1, rw high (sym (value_high (keys_part g.met.K.Ord.total _) node.0 node.1 node.2 rise greater) ∙ new)))))

pub unreachable-requires : goal.unreachable-requires
unreachable-requires g t c =
    let node = c.in-Some.root.value in
    let equal : g.K.Ord.cmp c.args.entry.0 node.1.0 ≡ Equal = compared g.K.Ord.cmp c.cmp.ensures c.in-Equal.is c.key.ensures (c.key-2.ensures ∙ key_of c.deref.ensures) in
    let rise : KeysRise g.K.Ord.cmp (entries_of node) = rw c.in-Some.is at c.requires.rise in
    let new : value_at g.K.Ord.cmp c.args.entry.0 (entries_of node) ≡ None = rw c.in-Some.is at c.requires.new in
    none_is_some new (value_own (keys_part g.met.K.Ord.total _) node.0 node.1 node.2 rise equal)

pub returns-in-Less : goal.returns-in-Less
returns-in-Less g t c =
    let node = c.in-Some.root.value in
    let low : tree_entries c.take_low.result ≡ node.0 = c.take_low.ensures.low ∙ low_of c.deref_mut.ensures.value in
    let less : g.K.Ord.cmp c.args.entry.0 node.1.0 ≡ Less = compared g.K.Ord.cmp c.cmp.ensures c.in-Less.is c.key.ensures (c.key-2.ensures ∙ key_of c.deref.ensures) in
    c.with_low.ensures
    ∙ left_alone_low _ c.take_low.ensures.rest c.deref_mut.ensures.value
    ∙ ap (λ l. l ++ node.1 ∷ node.2) (c.put_into-low.ensures ∙ ap (with_entry g.K.Ord.cmp c.args.entry) low)
    ∙ sym (with_low g.met.K.Ord.total c.args.entry node.0 node.1 node.2 less)
    ∙ sym (ap (λ tree. with_entry g.K.Ord.cmp c.args.entry (tree_entries tree)) c.in-Some.is)

pub returns-in-Greater : goal.returns-in-Greater
returns-in-Greater g t c =
    let node = c.in-Some.root.value in
    let high : tree_entries c.take_high.result ≡ node.2 = c.take_high.ensures.high ∙ high_of c.deref_mut-in-Greater.ensures.value in
    let greater : g.K.Ord.cmp c.args.entry.0 node.1.0 ≡ Greater = compared g.K.Ord.cmp c.cmp.ensures c.in-Greater.is c.key.ensures (c.key-2.ensures ∙ key_of c.deref.ensures) in
    let rise : KeysRise g.K.Ord.cmp (entries_of node) = rw c.in-Some.is at c.requires.rise in
    c.with_high.ensures
    ∙ left_alone_high _ c.take_high.ensures.rest c.deref_mut-in-Greater.ensures.value
    ∙ ap (λ r. node.0 ++ node.1 ∷ r) (c.put_into-high.ensures ∙ ap (with_entry g.K.Ord.cmp c.args.entry) high)
    ∙ sym (with_high g.met.K.Ord.total c.args.entry node.0 node.1 node.2 rise greater)
    ∙ sym (ap (λ tree. with_entry g.K.Ord.cmp c.args.entry (tree_entries tree)) c.in-Some.is)
