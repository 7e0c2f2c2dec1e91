-- The datapaths that are left to be listed.
use Rattle.std.specs.Prelude.{ℕ, List, Option, filter}
use Rattle.nv_base.specs.declared.object.ObjId.{ObjId}
use Rattle.nb_model.specs.Network.{Network}
use Rattle.nv_table.specs.Table.{is_after}
use Rattle.nv_reply.specs.Reply.{datapaths}

-- those after the last one
abbrev pub left : Option ObjId → Network → List (ObjId × List ℕ)
left last net = datapaths (filter (λ switch. is_after last switch.id) net.switches) (filter (λ router. is_after last router.id) net.routers)
