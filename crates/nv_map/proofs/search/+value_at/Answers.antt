use Rattle.std.proofs.Common.{◌≡◌, Some, Less, Equal, Greater, arith, refl, sym, ap, ◌∙◌}
use Rattle.nv_map.specs.Map.{KeysRise, value_by}
use Rattle.nv_map.specs.Node.{entries_of, tree_entries}
use Rattle.nv_map.proofs.Parted.{compared, key_of, low_of, value_of, high_of, part_low, part_high}
use Rattle.nv_map.proofs.Split.{value_low, value_high, value_own}
use Rattle.nv_map.proofs.search.+value_at.Goals as goal

pub value_at-requires : goal.value_at-requires
value_at-requires g t c =
    let low : tree_entries c.low.result.now ≡ c.in-Some.root.value.0 = c.low.ensures ∙ low_of c.deref-in-Less.ensures in
    let part = part_low g.K.Ord.cmp c.in-Some.root.value (ap tree_entries c.in-Some.is) c.requires low in
    λ κs lives. (omega (arith, part.0, c.decreases), (lives.0, (lives.1.0, (lives.1.1, part.1))))

pub value_at-requires-in-Greater : goal.value_at-requires-in-Greater
value_at-requires-in-Greater g t c =
    let high : tree_entries c.high.result.now ≡ c.in-Some.root.value.2 = c.high.ensures ∙ high_of c.deref-in-Greater.ensures in
    let part = part_high g.K.Ord.cmp c.in-Some.root.value (ap tree_entries c.in-Some.is) c.requires high in
    λ κs lives. (omega (arith, part.0, c.decreases), (lives.0, (lives.1.0, (lives.1.1, part.1))))

pub returns-in-Less : goal.returns-in-Less
returns-in-Less g t c =
    let node = c.in-Some.root.value in
    let order : g.P.Probe.order c.args.probe.now node.1.0 ≡ Less = compared g.P.Probe.order c.compare.ensures c.in-Less.is refl (c.key.ensures ∙ key_of c.deref.ensures) in
    let rise : KeysRise g.K.Ord.cmp (entries_of node) = rw c.in-Some.is at c.requires in
    let low : tree_entries c.low.result.now ≡ node.0 = c.low.ensures ∙ low_of c.deref-in-Less.ensures in
    c.value_at.ensures
    ∙ ap (value_by (g.P.Probe.order c.args.probe.now)) low
    ∙ sym (value_low (g.met.P.Probe.parts _) node.0 node.1 node.2 rise order)
    ∙ sym (ap (λ tree. value_by (g.P.Probe.order c.args.probe.now) (tree_entries tree)) c.in-Some.is)

pub returns-in-Greater : goal.returns-in-Greater
returns-in-Greater g t c =
    let node = c.in-Some.root.value in
    let order : g.P.Probe.order c.args.probe.now node.1.0 ≡ Greater = compared g.P.Probe.order c.compare.ensures c.in-Greater.is refl (c.key.ensures ∙ key_of c.deref.ensures) in
    let rise : KeysRise g.K.Ord.cmp (entries_of node) = rw c.in-Some.is at c.requires in
    let high : tree_entries c.high.result.now ≡ node.2 = c.high.ensures ∙ high_of c.deref-in-Greater.ensures in
    c.value_at-in-Greater.ensures
    ∙ ap (value_by (g.P.Probe.order c.args.probe.now)) high
    ∙ sym (value_high (g.met.P.Probe.parts _) node.0 node.1 node.2 rise order)
    ∙ sym (ap (λ tree. value_by (g.P.Probe.order c.args.probe.now) (tree_entries tree)) c.in-Some.is)

pub returns-in-Equal : goal.returns-in-Equal
returns-in-Equal g t c =
    let node = c.in-Some.root.value in
    let order : g.P.Probe.order c.args.probe.now node.1.0 ≡ Equal = compared g.P.Probe.order c.compare.ensures c.in-Equal.is refl (c.key.ensures ∙ key_of c.deref.ensures) in
    let rise : KeysRise g.K.Ord.cmp (entries_of node) = rw c.in-Some.is at c.requires in
    let own : c.value.result.now ≡ node.1.1 = c.value.ensures ∙ value_of c.deref-in-Equal.ensures in
    ap Some own
    ∙ sym (value_own (g.met.P.Probe.parts _) node.0 node.1 node.2 rise order)
    ∙ sym (ap (λ tree. value_by (g.P.Probe.order c.args.probe.now) (tree_entries tree)) c.in-Some.is)
