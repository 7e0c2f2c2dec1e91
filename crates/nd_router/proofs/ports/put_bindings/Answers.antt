use Rattle.std.proofs.Common.{◌++◌, ap, ◌∙◌}
use Rattle.std.specs.List.{flat_map}
use Rattle.std.specs.Prelude.{Some}
use Rattle.nb_records.specs.declared.router.Binding.{Binding}
use Rattle.nb_model.specs.Network.{same}
use Rattle.nv_table.proofs.Through.{all_left, these_after, these_fewer, these_next, these_whole}
use Rattle.lr_units.specs.Units.{bindings_of}
use Rattle.nd_router.specs.inner.Made.{binding_rows}
use Rattle.nd_inputs.proofs.Sound.{bindings_rise}
use Rattle.nd_router.proofs.ports.put_bindings.Goals as goal

pub loop-binding-init : goal.loop-binding-init
loop-binding-init c = ap (λ left. c.args.rows.now ++ flat_map (binding_rows c.args.port.now) left) (all_left (λ (x : Binding). x.id) (bindings_of c.args.records.now c.args.port.now))

pub loop-binding-smaller : goal.loop-binding-smaller
loop-binding-smaller c = these_fewer (λ (x : Binding). x.id) (λ (x : Binding). same c.args.port.now.id x.port) c.loop-binding.last c.args.records.now.bindings c.in-Some.binding.now (bindings_rise c.args.records.now c.requires) c.in-Some.ensures

pub loop-binding-preserved : goal.loop-binding-preserved
loop-binding-preserved c =
    ap (λ made. made ++ flat_map (binding_rows c.args.port.now) (these_after (λ (x : Binding). x.id) (λ (x : Binding). same c.args.port.now.id x.port) (Some c.in-Some.binding.now.id) c.args.records.now.bindings)) c.in_ok-put_binding.ensures
    ∙ these_next (λ (x : Binding). x.id) (λ (x : Binding). same c.args.port.now.id x.port) c.loop-binding.last c.args.records.now.bindings c.in-Some.binding.now (bindings_rise c.args.records.now c.requires) c.in-Some.ensures
    (binding_rows c.args.port.now) c.loop-binding.rows (c.args.rows.now ++ flat_map (binding_rows c.args.port.now) (bindings_of c.args.records.now c.args.port.now)) c.loop-binding.invariant

pub returns : goal.returns
returns c =
    these_whole (λ (x : Binding). x.id) (λ (x : Binding). same c.args.port.now.id x.port) c.loop-binding.last c.args.records.now.bindings c.in_default.ensures
    (binding_rows c.args.port.now) c.loop-binding.rows (c.args.rows.now ++ flat_map (binding_rows c.args.port.now) (bindings_of c.args.records.now c.args.port.now)) c.loop-binding.invariant
