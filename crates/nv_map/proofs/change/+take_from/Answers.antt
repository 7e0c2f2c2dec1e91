use Rattle.std.proofs.Common.{◌≡◌, ◌++◌, ◌∷◌, Some, Less, Equal, Greater, arith, refl, sym, ap, ◌∙◌}
use Rattle.nv_map.specs.Map.{KeysRise, entry_by, without_by}
use Rattle.nv_map.specs.Node.{entries_of, tree_entries}
use Rattle.nv_map.proofs.Parted.{compared, key_of, low_of, high_of, part_low, part_high, left_alone_low, left_alone_high}
use Rattle.nv_map.proofs.Split.{entry_low, entry_high, entry_own, without_low, without_high, without_own}
use Rattle.nv_map.proofs.change.+take_from.Goals as goal

pub take_from-taken-requires : goal.take_from-taken-requires
take_from-taken-requires g t c =
    let low : tree_entries c.take_low.result ≡ c.in-Some.root.value.0 = c.take_low.ensures.low ∙ low_of c.deref_mut.ensures.value in
    let part = part_low g.K.Ord.cmp c.in-Some.root.value (ap tree_entries c.in-Some.is) c.requires low in
    λ κs lives. (omega (arith, part.0, c.decreases), (lives.0, (lives.1.0, (lives.1.1, part.1))))

pub take_from-taken-requires-in-Greater : goal.take_from-taken-requires-in-Greater
take_from-taken-requires-in-Greater g t c =
    let high : tree_entries c.take_high.result ≡ c.in-Some.root.value.2 = c.take_high.ensures.high ∙ high_of c.deref_mut-in-Greater.ensures.value in
    let part = part_high g.K.Ord.cmp c.in-Some.root.value (ap tree_entries c.in-Some.is) c.requires high in
    λ κs lives. (omega (arith, part.0, c.decreases), (lives.0, (lives.1.0, (lives.1.1, part.1))))

pub returns-in-Less-clause-taken : goal.returns-in-Less-clause-taken
returns-in-Less-clause-taken g t c =
    let node = c.in-Some.root.value in
    let order : g.P.Probe.order c.args.probe.now node.1.0 ≡ Less = compared g.P.Probe.order c.compare.ensures c.in-Less.is refl (c.key.ensures ∙ key_of c.deref.ensures) in
    let rise : KeysRise g.K.Ord.cmp (entries_of node) = rw c.in-Some.is at c.requires in
    let low : tree_entries c.take_low.result ≡ node.0 = c.take_low.ensures.low ∙ low_of c.deref_mut.ensures.value in
    c.take_from-taken.ensures.taken
    ∙ ap (entry_by (g.P.Probe.order c.args.probe.now)) low
    ∙ sym (entry_low (g.met.P.Probe.parts _) node.0 node.1 node.2 rise order)
    ∙ sym (ap (λ tree. entry_by (g.P.Probe.order c.args.probe.now) (tree_entries tree)) c.in-Some.is)

pub returns-in-Less-clause-rest : goal.returns-in-Less-clause-rest
returns-in-Less-clause-rest g t c =
    let node = c.in-Some.root.value in
    let order : g.P.Probe.order c.args.probe.now node.1.0 ≡ Less = compared g.P.Probe.order c.compare.ensures c.in-Less.is refl (c.key.ensures ∙ key_of c.deref.ensures) in
    let rise : KeysRise g.K.Ord.cmp (entries_of node) = rw c.in-Some.is at c.requires in
    let low : tree_entries c.take_low.result ≡ node.0 = c.take_low.ensures.low ∙ low_of c.deref_mut.ensures.value in
    c.with_low.ensures
    ∙ left_alone_low _ c.take_low.ensures.rest c.deref_mut.ensures.value
    ∙ ap (λ l. l ++ node.1 ∷ node.2) (c.take_from-taken.ensures.rest ∙ ap (without_by (g.P.Probe.order c.args.probe.now)) low)
    ∙ sym (without_low (g.met.P.Probe.parts _) node.0 node.1 node.2 rise order)
    ∙ sym (ap (λ tree. without_by (g.P.Probe.order c.args.probe.now) (tree_entries tree)) c.in-Some.is)

pub returns-in-Greater-clause-taken : goal.returns-in-Greater-clause-taken
returns-in-Greater-clause-taken g t c =
    let node = c.in-Some.root.value in
    let order : g.P.Probe.order c.args.probe.now node.1.0 ≡ Greater = compared g.P.Probe.order c.compare.ensures c.in-Greater.is refl (c.key.ensures ∙ key_of c.deref.ensures) in
    let rise : KeysRise g.K.Ord.cmp (entries_of node) = rw c.in-Some.is at c.requires in
    let high : tree_entries c.take_high.result ≡ node.2 = c.take_high.ensures.high ∙ high_of c.deref_mut-in-Greater.ensures.value in
    c.take_from-taken-in-Greater.ensures.taken
    ∙ ap (entry_by (g.P.Probe.order c.args.probe.now)) high
    ∙ sym (entry_high (g.met.P.Probe.parts _) node.0 node.1 node.2 rise order)
    ∙ sym (ap (λ tree. entry_by (g.P.Probe.order c.args.probe.now) (tree_entries tree)) c.in-Some.is)

pub returns-in-Greater-clause-rest : goal.returns-in-Greater-clause-rest
returns-in-Greater-clause-rest g t c =
    let node = c.in-Some.root.value in
    let order : g.P.Probe.order c.args.probe.now node.1.0 ≡ Greater = compared g.P.Probe.order c.compare.ensures c.in-Greater.is refl (c.key.ensures ∙ key_of c.deref.ensures) in
    let rise : KeysRise g.K.Ord.cmp (entries_of node) = rw c.in-Some.is at c.requires in
    let high : tree_entries c.take_high.result ≡ node.2 = c.take_high.ensures.high ∙ high_of c.deref_mut-in-Greater.ensures.value in
    c.with_high.ensures
    ∙ left_alone_high _ c.take_high.ensures.rest c.deref_mut-in-Greater.ensures.value
    ∙ ap (λ r. node.0 ++ node.1 ∷ r) (c.take_from-taken-in-Greater.ensures.rest ∙ ap (without_by (g.P.Probe.order c.args.probe.now)) high)
    ∙ sym (without_high (g.met.P.Probe.parts _) node.0 node.1 node.2 rise order)
    ∙ sym (ap (λ tree. without_by (g.P.Probe.order c.args.probe.now) (tree_entries tree)) c.in-Some.is)

pub returns-in-Equal-clause-taken : goal.returns-in-Equal-clause-taken
returns-in-Equal-clause-taken g t c =
    let node = c.in-Some.root.value in
    let order : g.P.Probe.order c.args.probe.now node.1.0 ≡ Equal = compared g.P.Probe.order c.compare.ensures c.in-Equal.is refl (c.key.ensures ∙ key_of c.deref.ensures) in
    let rise : KeysRise g.K.Ord.cmp (entries_of node) = rw c.in-Some.is at c.requires in
    ap Some c.take_root-taken.ensures.entry
    ∙ sym (entry_own (g.met.P.Probe.parts _) node.0 node.1 node.2 rise order)
    ∙ sym (ap (λ tree. entry_by (g.P.Probe.order c.args.probe.now) (tree_entries tree)) c.in-Some.is)

pub returns-in-Equal-clause-rest : goal.returns-in-Equal-clause-rest
returns-in-Equal-clause-rest g t c =
    let node = c.in-Some.root.value in
    let order : g.P.Probe.order c.args.probe.now node.1.0 ≡ Equal = compared g.P.Probe.order c.compare.ensures c.in-Equal.is refl (c.key.ensures ∙ key_of c.deref.ensures) in
    let rise : KeysRise g.K.Ord.cmp (entries_of node) = rw c.in-Some.is at c.requires in
    c.take_root-taken.ensures.rest
    ∙ sym (without_own (g.met.P.Probe.parts _) node.0 node.1 node.2 rise order)
    ∙ sym (ap (λ tree. without_by (g.P.Probe.order c.args.probe.now) (tree_entries tree)) c.in-Some.is)
