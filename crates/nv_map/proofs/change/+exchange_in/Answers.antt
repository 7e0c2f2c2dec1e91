use Rattle.std.proofs.Common.{◌≡◌, ◌++◌, ◌∷◌, Some, Less, Equal, Greater, arith, refl, sym, ap, ◌∙◌}
use Rattle.std.specs.Option.{IsSome}
use Rattle.nv_map.specs.Map.{KeysRise, value_at, with_value}
use Rattle.nv_map.specs.Node.{entries_of, tree_entries}
use Rattle.nv_map.proofs.Parted.{compared, key_of, part_low, part_high, low_of, value_of, high_of, alike_low, alike_high, alike_key}
use Rattle.nv_map.specs.inner.Keys.{keys_part}
use Rattle.nv_map.proofs.Split.{value_low, value_high, value_own, with_value_low, with_value_high, with_value_own}
use Rattle.nv_map.proofs.change.+exchange_in.Goals as goal

pub exchange_in-requires : goal.exchange_in-requires
exchange_in-requires g t c =
    let node = c.in-Some.root.value in
    let low : tree_entries c.root.inside.low ≡ node.0 = low_of (c.root.view_is ∙ c.deref_mut-root.ensures.value) in
    let order : g.K.Ord.cmp c.args.key.now node.1.0 ≡ Less = compared g.K.Ord.cmp c.cmp.ensures c.in-Less.is refl (c.key.ensures ∙ key_of c.deref_mut-root.ensures.value) in
    let part = part_low g.K.Ord.cmp node (ap tree_entries c.in-Some.is) c.requires.rise low in
    let rise : KeysRise g.K.Ord.cmp (entries_of node) = rw c.in-Some.is at c.requires.rise in
    let there : IsSome (value_at g.K.Ord.cmp c.args.key.now (entries_of node)) = rw c.in-Some.is at c.requires.there in
    λ κs lives. (omega (arith, part.0, c.decreases), (lives.0, (lives.1, (part.1, rw low (rw (value_low (keys_part g.met.K.Ord.total _) node.0 node.1 node.2 rise order) at there)))))

pub exchange_in-requires-in-Greater : goal.exchange_in-requires-in-Greater
exchange_in-requires-in-Greater g t c =
    let node = c.in-Some.root.value in
    let high : tree_entries c.root.inside.high ≡ node.2 = high_of (c.root.view_is ∙ c.deref_mut-root.ensures.value) in
    let order : g.K.Ord.cmp c.args.key.now node.1.0 ≡ Greater = compared g.K.Ord.cmp c.cmp.ensures c.in-Greater.is refl (c.key.ensures ∙ key_of c.deref_mut-root.ensures.value) in
    let part = part_high g.K.Ord.cmp node (ap tree_entries c.in-Some.is) c.requires.rise high in
    let rise : KeysRise g.K.Ord.cmp (entries_of node) = rw c.in-Some.is at c.requires.rise in
    let there : IsSome (value_at g.K.Ord.cmp c.args.key.now (entries_of node)) = rw c.in-Some.is at c.requires.there in
    λ κs lives. (omega (arith, part.0, c.decreases), (lives.0, (lives.1, (part.1, rw high (rw (value_high (keys_part g.met.K.Ord.total _) node.0 node.1 node.2 rise order) at there)))))

pub returns-in-Less-clause-old : goal.returns-in-Less-clause-old
returns-in-Less-clause-old g t c =
    let node = c.in-Some.root.value in
    let order : g.K.Ord.cmp c.args.key.now node.1.0 ≡ Less = compared g.K.Ord.cmp c.cmp.ensures c.in-Less.is refl (c.key.ensures ∙ key_of c.deref_mut-root.ensures.value) in
    let rise : KeysRise g.K.Ord.cmp (entries_of node) = rw c.in-Some.is at c.requires.rise in
    let whole = c.root.view_is ∙ c.deref_mut-root.ensures.value in
    let low : tree_entries c.root.inside.low ≡ node.0 = low_of whole in
    c.exchange_in.ensures.old ∙ ap (value_at g.K.Ord.cmp c.args.key.now) low
    ∙ sym (value_low (keys_part g.met.K.Ord.total _) node.0 node.1 node.2 rise order)
    ∙ sym (ap (λ tree. value_at g.K.Ord.cmp c.args.key.now (tree_entries tree)) c.in-Some.is)

pub returns-in-Less-clause-new : goal.returns-in-Less-clause-new
returns-in-Less-clause-new g t c =
    let node = c.in-Some.root.value in
    let order : g.K.Ord.cmp c.args.key.now node.1.0 ≡ Less = compared g.K.Ord.cmp c.cmp.ensures c.in-Less.is refl (c.key.ensures ∙ key_of c.deref_mut-root.ensures.value) in
    let rise : KeysRise g.K.Ord.cmp (entries_of node) = rw c.in-Some.is at c.requires.rise in
    let whole = c.root.view_is ∙ c.deref_mut-root.ensures.value in
    let low : tree_entries c.root.inside.low ≡ node.0 = low_of whole in
    ap (λ l. l ++ (c.root.inside.key, c.root.inside.value) ∷ tree_entries c.root.inside.high) (c.exchange_in.ensures.new ∙ ap (with_value g.K.Ord.cmp c.args.key.now c.args.value) low)
    ∙ alike_low _ whole
    ∙ sym (with_value_low (keys_part g.met.K.Ord.total _) node.0 node.1 node.2 rise order c.args.value)
    ∙ sym (ap (λ tree. with_value g.K.Ord.cmp c.args.key.now c.args.value (tree_entries tree)) c.in-Some.is)

pub returns-in-Greater-clause-old : goal.returns-in-Greater-clause-old
returns-in-Greater-clause-old g t c =
    let node = c.in-Some.root.value in
    let order : g.K.Ord.cmp c.args.key.now node.1.0 ≡ Greater = compared g.K.Ord.cmp c.cmp.ensures c.in-Greater.is refl (c.key.ensures ∙ key_of c.deref_mut-root.ensures.value) in
    let rise : KeysRise g.K.Ord.cmp (entries_of node) = rw c.in-Some.is at c.requires.rise in
    let whole = c.root.view_is ∙ c.deref_mut-root.ensures.value in
    let high : tree_entries c.root.inside.high ≡ node.2 = high_of whole in
    c.exchange_in-in-Greater.ensures.old ∙ ap (value_at g.K.Ord.cmp c.args.key.now) high
    ∙ sym (value_high (keys_part g.met.K.Ord.total _) node.0 node.1 node.2 rise order)
    ∙ sym (ap (λ tree. value_at g.K.Ord.cmp c.args.key.now (tree_entries tree)) c.in-Some.is)

pub returns-in-Greater-clause-new : goal.returns-in-Greater-clause-new
returns-in-Greater-clause-new g t c =
    let node = c.in-Some.root.value in
    let order : g.K.Ord.cmp c.args.key.now node.1.0 ≡ Greater = compared g.K.Ord.cmp c.cmp.ensures c.in-Greater.is refl (c.key.ensures ∙ key_of c.deref_mut-root.ensures.value) in
    let rise : KeysRise g.K.Ord.cmp (entries_of node) = rw c.in-Some.is at c.requires.rise in
    let whole = c.root.view_is ∙ c.deref_mut-root.ensures.value in
    let high : tree_entries c.root.inside.high ≡ node.2 = high_of whole in
    ap (λ r. tree_entries c.root.inside.low ++ (c.root.inside.key, c.root.inside.value) ∷ r) (c.exchange_in-in-Greater.ensures.new ∙ ap (with_value g.K.Ord.cmp c.args.key.now c.args.value) high)
    ∙ alike_high _ whole
    ∙ sym (with_value_high (keys_part g.met.K.Ord.total _) node.0 node.1 node.2 rise order c.args.value)
    ∙ sym (ap (λ tree. with_value g.K.Ord.cmp c.args.key.now c.args.value (tree_entries tree)) c.in-Some.is)

pub returns-in-Equal-clause-old : goal.returns-in-Equal-clause-old
returns-in-Equal-clause-old g t c =
    let node = c.in-Some.root.value in
    let order : g.K.Ord.cmp c.args.key.now node.1.0 ≡ Equal = compared g.K.Ord.cmp c.cmp.ensures c.in-Equal.is refl (c.key.ensures ∙ key_of c.deref_mut-root.ensures.value) in
    let rise : KeysRise g.K.Ord.cmp (entries_of node) = rw c.in-Some.is at c.requires.rise in
    let whole = c.root.view_is ∙ c.deref_mut-root.ensures.value in
    let own : c.replace.result ≡ node.1.1 = c.replace.ensures.value ∙ value_of whole in
    ap Some own
    ∙ sym (value_own (keys_part g.met.K.Ord.total _) node.0 node.1 node.2 rise order)
    ∙ sym (ap (λ tree. value_at g.K.Ord.cmp c.args.key.now (tree_entries tree)) c.in-Some.is)

pub returns-in-Equal-clause-new : goal.returns-in-Equal-clause-new
returns-in-Equal-clause-new g t c =
    let node = c.in-Some.root.value in
    let order : g.K.Ord.cmp c.args.key.now node.1.0 ≡ Equal = compared g.K.Ord.cmp c.cmp.ensures c.in-Equal.is refl (c.key.ensures ∙ key_of c.deref_mut-root.ensures.value) in
    let rise : KeysRise g.K.Ord.cmp (entries_of node) = rw c.in-Some.is at c.requires.rise in
    let whole = c.root.view_is ∙ c.deref_mut-root.ensures.value in
    ap (λ v. tree_entries c.root.inside.low ++ (c.root.inside.key, v) ∷ tree_entries c.root.inside.high) c.replace.ensures.after
    ∙ alike_key c.args.value whole
    ∙ sym (with_value_own (keys_part g.met.K.Ord.total _) node.0 node.1 node.2 rise order c.args.value)
    ∙ sym (ap (λ tree. with_value g.K.Ord.cmp c.args.key.now c.args.value (tree_entries tree)) c.in-Some.is)
