use Rattle.std.proofs.Common.{◌≡◌, None, Some, is_lt, true, false, arith, refl, sym, ap, ◌∙◌}
use Rattle.std.specs.Option.{option_or}
use Rattle.nv_map.specs.Map.{KeysRise, entry_above}
use Rattle.nv_map.specs.Node.{entries_of, tree_entries}
use Rattle.nv_map.proofs.Parted.{compared, key_of, low_of, value_of, high_of, part_low, part_high, pair_of}
use Rattle.nv_map.proofs.Split.{after_low, after_high, mapped_or}
use Rattle.nv_map.proofs.search.+first_above.Goals as goal

pub first_above-requires : goal.first_above-requires
first_above-requires g t c =
    let low : tree_entries c.low.result.now ≡ c.in-Some.root.value.0 = c.low.ensures ∙ low_of c.deref-then-is_lt.ensures in
    let part = part_low g.K.Ord.cmp c.in-Some.root.value (ap tree_entries c.in-Some.is) c.requires low in
    λ κs lives. (omega (arith, part.0, c.decreases), (lives.0, (lives.1.0, (lives.1.1, part.1))))

pub first_above-requires-2 : goal.first_above-requires-2
first_above-requires-2 g t c =
    let high : tree_entries c.high.result.now ≡ c.in-Some.root.value.2 = c.high.ensures ∙ high_of c.deref-2.ensures in
    let part = part_high g.K.Ord.cmp c.in-Some.root.value (ap tree_entries c.in-Some.is) c.requires high in
    λ κs lives. (omega (arith, part.0, c.decreases), (lives.0, (lives.1.0, (lives.1.1, part.1))))

pub returns-in-None : goal.returns-in-None
returns-in-None g t c =
    let node = c.in-Some.root.value in
    let order : is_lt (g.P.Probe.order c.args.probe.now node.1.0) ≡ true = ap is_lt (compared g.P.Probe.order c.compare.ensures refl refl (c.key.ensures ∙ key_of c.deref.ensures)) ∙ sym c.is_lt.ensures ∙ c.if-is_lt.true in
    let rise : KeysRise g.K.Ord.cmp (entries_of node) = rw c.in-Some.is at c.requires in
    let low : tree_entries c.low.result.now ≡ node.0 = c.low.ensures ∙ low_of c.deref-then-is_lt.ensures in
    let none : None ≡ entry_above (g.P.Probe.order c.args.probe.now) node.0 = c.in-None.ensures ∙ ap (entry_above (g.P.Probe.order c.args.probe.now)) low in
    let key : c.key-in-None.result.now ≡ node.1.0 = c.key-in-None.ensures ∙ key_of c.deref-in-None.ensures in
    let value : c.value.result.now ≡ node.1.1 = c.value.ensures ∙ value_of c.deref-in-None-2.ensures in
    ap Some (pair_of key value)
    ∙ ap (λ e. option_or e (Some node.1)) none
    ∙ sym (after_low (g.met.P.Probe.parts _) node.0 node.1 node.2 rise order)
    ∙ sym (ap (λ tree. entry_above (g.P.Probe.order c.args.probe.now) (tree_entries tree)) c.in-Some.is)

pub returns-in_default-first_above : goal.returns-in_default-first_above
returns-in_default-first_above g t c =
    let node = c.in-Some.root.value in
    let order : is_lt (g.P.Probe.order c.args.probe.now node.1.0) ≡ true = ap is_lt (compared g.P.Probe.order c.compare.ensures refl refl (c.key.ensures ∙ key_of c.deref.ensures)) ∙ sym c.is_lt.ensures ∙ c.if-is_lt.true in
    let rise : KeysRise g.K.Ord.cmp (entries_of node) = rw c.in-Some.is at c.requires in
    let low : tree_entries c.low.result.now ≡ node.0 = c.low.ensures ∙ low_of c.deref-then-is_lt.ensures in
    sym (mapped_or _ c.first_above.result (Some node.1) c.in_default-first_above.not-None)
    ∙ ap (λ e. option_or e (Some node.1)) (c.first_above.ensures ∙ ap (entry_above (g.P.Probe.order c.args.probe.now)) low)
    ∙ sym (after_low (g.met.P.Probe.parts _) node.0 node.1 node.2 rise order)
    ∙ sym (ap (λ tree. entry_above (g.P.Probe.order c.args.probe.now) (tree_entries tree)) c.in-Some.is)

pub returns : goal.returns
returns g t c =
    let node = c.in-Some.root.value in
    let order : is_lt (g.P.Probe.order c.args.probe.now node.1.0) ≡ false = ap is_lt (compared g.P.Probe.order c.compare.ensures refl refl (c.key.ensures ∙ key_of c.deref.ensures)) ∙ sym c.is_lt.ensures ∙ c.if-is_lt.false in
    let rise : KeysRise g.K.Ord.cmp (entries_of node) = rw c.in-Some.is at c.requires in
    let high : tree_entries c.high.result.now ≡ node.2 = c.high.ensures ∙ high_of c.deref-2.ensures in
    c.first_above-2.ensures
    ∙ ap (entry_above (g.P.Probe.order c.args.probe.now)) high
    ∙ sym (after_high (g.met.P.Probe.parts _) node.0 node.1 node.2 rise order)
    ∙ sym (ap (λ tree. entry_above (g.P.Probe.order c.args.probe.now) (tree_entries tree)) c.in-Some.is)
