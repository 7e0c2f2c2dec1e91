-- The VIPs of a load balancer, each counted once for each datapath that has it.
use Rattle.std.specs.Prelude.{ℕ, ◌+◌, length, filter}
use Rattle.nv_base.specs.declared.object.ObjId.{ObjId}
use Rattle.nb_records.specs.declared.balancer.Lb.{Lb}
use Rattle.nb_model.specs.Amounts.{total}
use Rattle.nb_model.specs.Belongs.{is_among}
use Rattle.nb_model.specs.Network.{Network}

-- so many for each switch that has the load balancer of this number
abbrev pub switches_with : Network → ObjId → ℕ → ℕ
switches_with net lb each = total (λ _. each) (filter (λ switch. is_among lb switch.lbs) net.switches)

-- and for each router
abbrev pub routers_with : Network → ObjId → ℕ → ℕ
routers_with net lb each = total (λ _. each) (filter (λ router. is_among lb router.lbs) net.routers)

-- for each of both
abbrev pub attached : Network → ObjId → ℕ → ℕ
attached net lb each = switches_with net lb each + routers_with net lb each

-- its VIPs for each
abbrev pub attached_vips : Network → Lb → ℕ
attached_vips net lb = attached net lb.id (length lb.vips)
