use Rattle.std.proofs.Common.{◌≡◌, ◌∙◌, true, false, sym, ap}
use Rattle.indexmap.specs.IndexMap.{get}
use Rattle.ct_table.proofs.Cut.{found_place, taken_there, taken_elsewhere}
use Rattle.ct_table.specs.inner.Index.{is_place}
use Rattle.ct_table.specs.inner.Key.{keys_equal}
use Rattle.ct_table.proofs.index.take_place.Goals as goal

pub returns-then-eq : goal.returns-then-eq
returns-then-eq c =
    let there : is_place c.args.place (get keys_equal c.args.map.now c.args.key) ≡ true = ap (is_place c.args.place) (sym (c.copied.ensures ∙ c.get.ensures.value)) ∙ found_place c.copied.result c.args.place ∙ sym c.eq.ensures ∙ c.if-eq.true in
    taken_there c.args.key c.args.place c.args.map.now c.swap_remove.new.self there c.swap_remove.ensures.updates.0

pub returns-else-eq : goal.returns-else-eq
returns-else-eq c =
    let elsewhere : is_place c.args.place (get keys_equal c.args.map.now c.args.key) ≡ false = ap (is_place c.args.place) (sym (c.copied.ensures ∙ c.get.ensures.value)) ∙ found_place c.copied.result c.args.place ∙ sym c.eq.ensures ∙ c.if-eq.false in
    taken_elsewhere c.args.key c.args.place c.args.map.now elsewhere
