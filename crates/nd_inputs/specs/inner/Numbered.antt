-- What the load balancers of numbers give.
use Rattle.std.specs.Prelude.{List, [], Option, Some, None}
use Rattle.nv_base.specs.declared.object.ObjId.{ObjId}
use Rattle.nb_records.specs.declared.balancer.Lb.{Lb}
use Rattle.nb_model.specs.Network.{Network}
use Rattle.nv_table.specs.Table.{record_of}

abbrev pub of_found : {X : Type 0} → (Lb → List X) → Option Lb → List X
of_found give None = []
of_found give (Some lb) = give lb

-- what the load balancer of a number gives, where there is one
abbrev pub of_number : {X : Type 0} → Network → (Lb → List X) → ObjId → List X
of_number net give number = of_found give (record_of (λ lb. lb.id) number net.lbs)
