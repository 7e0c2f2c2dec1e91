use Rattle.std.proofs.Common.{◌≡◌, ◌++◌, List, [], ◌∷◌, map, refl, ap, ◌∙◌}
use Rattle.std.specs.List.{flat_map}
use Rattle.std.specs.Prelude.{Some}
use Rattle.nb_records.specs.declared.sets.Group.{Group}
use Rattle.nb_model.specs.Belongs.{is_among}
use Rattle.nd_full.specs.inner.Owners.{groups_of_port, groups_with}
use Rattle.nd_full.proofs.Sound.{groups_rise}
use Rattle.nv_table.proofs.Through.{all_left, these_after, these_fewer, these_next, these_whole}
use Rattle.nd_full.proofs.owners.add_groups_of.Goals as goal

-- numbers one by one
one_by_one : {X Y : Type 0} (f : X → Y) (xs : List X) → flat_map (λ x. f x ∷ []) xs ≡ map f xs
one_by_one f [] = refl
one_by_one f (x ∷ xs) = ap (λ ys. f x ∷ ys) (one_by_one f xs)

pub loop-group-init : goal.loop-group-init
loop-group-init c =
    ap (λ left. c.args.owners.now.items ++ flat_map (λ (x : Group). x.id ∷ []) left) (all_left (λ (x : Group). x.id) (groups_with c.args.records.now c.args.port))
    ∙ ap (λ numbers. c.args.owners.now.items ++ numbers) (one_by_one (λ (x : Group). x.id) (groups_with c.args.records.now c.args.port))

pub loop-group-smaller : goal.loop-group-smaller
loop-group-smaller c = these_fewer (λ (x : Group). x.id) (λ (x : Group). is_among c.args.port x.ports) c.loop-group.last c.args.records.now.groups c.in-Some.group.now (groups_rise c.args.records.now c.requires) c.in-Some.ensures

pub loop-group-preserved : goal.loop-group-preserved
loop-group-preserved c =
    ap (λ owners. owners ++ flat_map (λ (x : Group). x.id ∷ []) (these_after (λ (x : Group). x.id) (λ (x : Group). is_among c.args.port x.ports) (Some c.in-Some.group.now.id) c.args.records.now.groups)) c.in_ok-push.ensures.items
    ∙ these_next (λ (x : Group). x.id) (λ (x : Group). is_among c.args.port x.ports) c.loop-group.last c.args.records.now.groups c.in-Some.group.now (groups_rise c.args.records.now c.requires) c.in-Some.ensures
    (λ (x : Group). x.id ∷ []) c.loop-group.owners.items (c.args.owners.now.items ++ groups_of_port c.args.records.now c.args.port) c.loop-group.invariant

pub returns : goal.returns
returns c =
    these_whole (λ (x : Group). x.id) (λ (x : Group). is_among c.args.port x.ports) c.loop-group.last c.args.records.now.groups c.in_default.ensures
    (λ (x : Group). x.id ∷ []) c.loop-group.owners.items (c.args.owners.now.items ++ groups_of_port c.args.records.now c.args.port) c.loop-group.invariant
