use Rattle.std.proofs.Common.{◌≡◌, ◌∙◌, false, rules, ap, sym, subst}
use Rattle.std.specs.List.{list_any}
use Rattle.ct_core.specs.declared.look.Side.TheVariants.{Orig, Reply}
use Rattle.ct_core.specs.Changes.{without_zone}
use Rattle.ct_core.specs.Entry.{has, is_in}
use Rattle.ct_table.specs.inner.Index.{IsIndexed, Places}
use Rattle.ct_table.proofs.Indexed.{indexed_without, keys_left, not_there}
use Rattle.ct_table.proofs.Removed.{left_by, without-none}
use Rattle.ct_table.proofs.conns.Conns.drop_zone.Goals as goal

pub returns-then-not-swap_remove : goal.returns-then-not-swap_remove
returns-then-not-swap_remove c =
    let conns = c.self.inside.entries.items in
    let none : list_any (is_in c.args.zone) conns ≡ false = not_there _ _ (c.self.invariant.by_zone c.args.zone) (sym c.swap_remove.ensures.found ∙ c.if-not-swap_remove.true) in
    sym (without-none c.args.zone conns none) ∙ ap (without_zone c.args.zone) c.self.view_is

pub renumber-requires-clause-keys : goal.renumber-requires-clause-keys
renumber-requires-clause-keys c =
    let conns = c.self.inside.entries.items in
    let left : c.retain.new.self.items ≡ without_zone c.args.zone conns = left_by _ _ c.args.zone (λ e b f call. search rules) _ _ c.retain.ensures.filtered in
    λ k. keys_left Orig conns c.args.zone c.self.inside.origs c.take_zone.new.map c.self.invariant.by_orig c.take_zone.ensures k
    ∙ ap (list_any (has Orig k.zone k.tuple)) (sym (c.deref.ensures.value ∙ left))

pub renumber-requires-2-clause-keys : goal.renumber-requires-2-clause-keys
renumber-requires-2-clause-keys c =
    let conns = c.self.inside.entries.items in
    let left : c.retain.new.self.items ≡ without_zone c.args.zone conns = left_by _ _ c.args.zone (λ e b f call. search rules) _ _ c.retain.ensures.filtered in
    λ k. keys_left Reply conns c.args.zone c.self.inside.replies c.take_zone-2.new.map c.self.invariant.by_reply c.take_zone-2.ensures k
    ∙ ap (list_any (has Reply k.zone k.tuple)) (sym (c.deref-2.ensures.value ∙ left))

pub invariant_of-self-2 : goal.invariant_of-self-2
invariant_of-self-2 c =
    let before = c.self.inside in
    let left : c.retain.new.self.items ≡ without_zone c.args.zone before.entries.items = left_by _ _ c.args.zone (λ e b f call. search rules) _ _ c.retain.ensures.filtered in
    let origs = c.renumber.new.map in
    let replies = c.renumber-2.new.map in
    subst (λ l. IsIndexed l origs replies c.swap_remove.new.self) (sym left)
    (indexed_without before.entries.items c.args.zone origs replies before.zones c.swap_remove.new.self c.self.invariant.are c.self.invariant.by_zone
    (subst (λ l. Places Orig l origs) (c.deref.ensures.value ∙ left) c.renumber.ensures)
    (subst (λ l. Places Reply l replies) (c.deref-2.ensures.value ∙ left) c.renumber-2.ensures)
    c.swap_remove.ensures.updates.0)

pub returns : goal.returns
returns c =
    let left : c.retain.new.self.items ≡ without_zone c.args.zone c.self.inside.entries.items = left_by _ _ c.args.zone (λ e b f call. search rules) _ _ c.retain.ensures.filtered in
    left ∙ ap (without_zone c.args.zone) c.self.view_is
