use Rattle.std.proofs.Common.{◌++◌, ap, ◌∙◌}
use Rattle.std.specs.List.{flat_map}
use Rattle.std.specs.Prelude.{Some}
use Rattle.nb_records.specs.declared.router.Binding.{Binding}
use Rattle.nb_model.specs.Network.{same}
use Rattle.nv_table.proofs.Through.{all_left, these_after, these_fewer, these_next, these_whole}
use Rattle.nd_inputs.proofs.Sound.{bindings_rise}
use Rattle.nd_routes.specs.inner.Bindings.{bindings_at, number_of, numbers_at}
use Rattle.nd_routes.proofs.bindings.add_bindings.Goals as goal

pub loop-binding-init : goal.loop-binding-init
loop-binding-init c = ap (λ left. c.args.keys.now.items ++ flat_map number_of left) (all_left (λ (x : Binding). x.id) (bindings_at c.args.records.now c.args.port))

pub loop-binding-smaller : goal.loop-binding-smaller
loop-binding-smaller c = these_fewer (λ (x : Binding). x.id) (λ (x : Binding). same c.args.port x.port) c.loop-binding.last c.args.records.now.bindings c.in-Some.binding.now (bindings_rise c.args.records.now c.requires) c.in-Some.ensures

pub loop-binding-preserved : goal.loop-binding-preserved
loop-binding-preserved c =
    ap (λ made. made ++ flat_map number_of (these_after (λ (x : Binding). x.id) (λ (x : Binding). same c.args.port x.port) (Some c.in-Some.binding.now.id) c.args.records.now.bindings)) c.in_ok-push.ensures.items
    ∙ these_next (λ (x : Binding). x.id) (λ (x : Binding). same c.args.port x.port) c.loop-binding.last c.args.records.now.bindings c.in-Some.binding.now (bindings_rise c.args.records.now c.requires) c.in-Some.ensures
    number_of c.loop-binding.keys.items (c.args.keys.now.items ++ numbers_at c.args.records.now c.args.port) c.loop-binding.invariant

pub returns : goal.returns
returns c =
    these_whole (λ (x : Binding). x.id) (λ (x : Binding). same c.args.port x.port) c.loop-binding.last c.args.records.now.bindings c.in_default.ensures
    number_of c.loop-binding.keys.items (c.args.keys.now.items ++ numbers_at c.args.records.now c.args.port) c.loop-binding.invariant
