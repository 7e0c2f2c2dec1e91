use Rattle.nv_map.proofs.Parted.{none_is_empty}
use Rattle.nv_map.proofs.map.Map.is_empty.Goals as goal

pub returns : goal.returns
returns g c = rw (← c.self.view_is) (none_is_empty c.self.inside.root _ c.is_none.ensures)
