use Rattle.std.proofs.Common.{Some, ap, sym, ◌∙◌}
use Rattle.cube_core.specs.Cubes.{whole_number, masked_cubes}
use Rattle.cube_core.proofs.Related.{few}
use Rattle.cube_core.proofs.items.item_cubes.Goals as goal

pub returns-in_ok-masked_cubes-in-One : goal.returns-in_ok-masked_cubes-in-One
returns-in_ok-masked_cubes-in-One g c =
    let is = c.in_ok-masked_cubes-in-One.ensures ∙ ap (masked_cubes c.args.field c.args.bits c.args.rel) (c.whole_number-number.ensures ∙ ap whole_number c.value.ensures.value) in
    rw (c.in-One.is)
    (ap Some (sym is), rw is (few c.args.field c.args.bits c.args.rel (whole_number c.in-One.constant.value)))
