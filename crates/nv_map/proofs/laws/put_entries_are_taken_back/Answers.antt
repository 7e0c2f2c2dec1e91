use Rattle.nv_map.proofs.Undone.{put_taken_back, put_is_taken}
use Rattle.nv_map.proofs.laws.put_entries_are_taken_back.Goals as goal

pub returns : goal.returns
returns g c = record { entry = put_is_taken g.met.K.Ord.total; entries = put_taken_back g.met.K.Ord.total }
