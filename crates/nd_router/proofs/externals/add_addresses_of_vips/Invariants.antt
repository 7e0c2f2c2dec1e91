use Rattle.std.proofs.Common.{◌≡◌, ◌++◌, take}
use Rattle.std.specs.List.{flat_map}
use Rattle.nb_router.specs.Vocabulary.{vip_addresses}
use Rattle.nd_inputs.specs.inner.Numbered.{of_number}
use Rattle.nd_router.proofs.externals.add_addresses_of_vips.Given as goal

-- the addresses of the load balancers so far are after what was there
abbrev pub invariant-loop-lb : goal.invariant-loop-lb
invariant-loop-lb l = l.addrs.items ≡ l.initial.addrs.items ++ flat_map (of_number l.records vip_addresses) (take l.lb-index l.lbs)
