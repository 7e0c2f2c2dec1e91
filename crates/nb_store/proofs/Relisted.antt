-- Records that list a number more, or less, in the place of those of their numbers.
use Rattle.std.proofs.Common.{◌≡◌, ℕ, Bool, true, List, Some, None, refl, ap, ◌∙◌}
use Rattle.nv_base.specs.declared.object.ObjId.{ObjId}
use Rattle.nv_table.specs.Swapped.{Swap, differs, fits}
use Rattle.nv_table.specs.Table.{NumbersRise, record_of, with_exchanged}
use Rattle.nb_records.specs.Longer.{switch_longer, router_longer, group_longer}
use Rattle.nb_records.specs.declared.router.Router.{Router}
use Rattle.nb_records.specs.declared.sets.Group.{Group}
use Rattle.nb_records.specs.declared.switch.Switch.{Switch}
use Rattle.nb_model.specs.Effect.{each_where}
use Rattle.nb_model.specs.Network.{Network, same}
use Rattle.nb_store.specs.Undo.{swapped}
use Rattle.nb_store.specs.declared.step.LeanObject.TheVariants as lean
use Rattle.nb_store.proofs.OneNumber.{changed_there, unchanged_there, fits_there, none_there}
use Rattle.nb_store.proofs.SwappedBack.{switch_swapped, router_swapped, group_swapped}

-- ---- switches

module _ (net : Network) (n : ObjId) (change : List ObjId → List ObjId) where
  abbrev pub switch_changed : Network
  switch_changed = record net { switches = each_where (λ x. same n x.id) (λ x. record x { lbs = change x.lbs }) net.switches }

  -- none has the number
  pub no_switch : None ≡ record_of (λ (x : Switch). x.id) n net.switches → net ≡ switch_changed
  no_switch none = ap (λ (all : List Switch). record net { switches = all }) (none_there (λ (x : Switch). x.id) n net.switches (λ x. record x { lbs = change x.lbs }) none)

  module _ (held : Switch) (found : Some held ≡ record_of (λ (x : Switch). x.id) n net.switches) (rise : NumbersRise (λ (x : Switch). x.id) net.switches) where
    -- its list stays
    pub switch_stays : change held.lbs ≡ held.lbs → net ≡ switch_changed
    switch_stays stays = ap (λ (all : List Switch). record net { switches = all })
        (unchanged_there (λ (x : Switch). x.id) n held net.switches found rise (λ x. record x { lbs = change x.lbs }) (ap (λ (all : List ObjId). let x : Switch = record held { lbs = all } in x) stays))

    module _ (new : Switch) (is : new ≡ record held { lbs = change held.lbs }) where
      pub switch_stored : record net { switches = with_exchanged (λ x. x.id) new net.switches } ≡ switch_changed
      switch_stored =
          ap (λ (x : Switch). record net { switches = with_exchanged (λ x. x.id) x net.switches }) is
          ∙ ap (λ (all : List Switch). record net { switches = all }) (changed_there (λ (x : Switch). x.id) n held net.switches found rise (λ x. record x { lbs = change x.lbs }) refl)

      module _ (s : Swap Switch) (place : ℕ) (longer : Bool) (swap : s ≡ (new, place, longer)) (one : differs switch_longer (record held { lbs = change held.lbs }, place, longer) held ≡ true) where
        pub switch_fits : fits (λ x. x.id) switch_longer s net.switches ≡ true
        switch_fits =
            ap (λ (t : Swap Switch). fits (λ x. x.id) switch_longer t net.switches) (swap ∙ ap (λ (x : Switch). let t : Swap Switch = (x, place, longer) in t) is)
            ∙ fits_there (λ (x : Switch). x.id) n held net.switches found rise switch_longer (record held { lbs = change held.lbs }, place, longer) refl one

        pub switch_swaps : swapped (lean.Switch s) net ≡ switch_changed
        switch_swaps = switch_swapped net s new (ap (λ (t : Swap Switch). t.0) swap) switch_fits ∙ switch_stored

-- ---- routers

module _ (net : Network) (n : ObjId) (change : List ObjId → List ObjId) where
  abbrev pub router_changed : Network
  router_changed = record net { routers = each_where (λ x. same n x.id) (λ x. record x { lbs = change x.lbs }) net.routers }

  -- none has the number
  pub no_router : None ≡ record_of (λ (x : Router). x.id) n net.routers → net ≡ router_changed
  no_router none = ap (λ (all : List Router). record net { routers = all }) (none_there (λ (x : Router). x.id) n net.routers (λ x. record x { lbs = change x.lbs }) none)

  module _ (held : Router) (found : Some held ≡ record_of (λ (x : Router). x.id) n net.routers) (rise : NumbersRise (λ (x : Router). x.id) net.routers) where
    -- its list stays
    pub router_stays : change held.lbs ≡ held.lbs → net ≡ router_changed
    router_stays stays = ap (λ (all : List Router). record net { routers = all })
        (unchanged_there (λ (x : Router). x.id) n held net.routers found rise (λ x. record x { lbs = change x.lbs }) (ap (λ (all : List ObjId). let x : Router = record held { lbs = all } in x) stays))

    module _ (new : Router) (is : new ≡ record held { lbs = change held.lbs }) where
      pub router_stored : record net { routers = with_exchanged (λ x. x.id) new net.routers } ≡ router_changed
      router_stored =
          ap (λ (x : Router). record net { routers = with_exchanged (λ x. x.id) x net.routers }) is
          ∙ ap (λ (all : List Router). record net { routers = all }) (changed_there (λ (x : Router). x.id) n held net.routers found rise (λ x. record x { lbs = change x.lbs }) refl)

      module _ (s : Swap Router) (place : ℕ) (longer : Bool) (swap : s ≡ (new, place, longer)) (one : differs router_longer (record held { lbs = change held.lbs }, place, longer) held ≡ true) where
        pub router_fits : fits (λ x. x.id) router_longer s net.routers ≡ true
        router_fits =
            ap (λ (t : Swap Router). fits (λ x. x.id) router_longer t net.routers) (swap ∙ ap (λ (x : Router). let t : Swap Router = (x, place, longer) in t) is)
            ∙ fits_there (λ (x : Router). x.id) n held net.routers found rise router_longer (record held { lbs = change held.lbs }, place, longer) refl one

        pub router_swaps : swapped (lean.Router s) net ≡ router_changed
        router_swaps = router_swapped net s new (ap (λ (t : Swap Router). t.0) swap) router_fits ∙ router_stored

-- ---- groups

module _ (net : Network) (n : ObjId) (change : List ObjId → List ObjId) where
  abbrev pub group_changed : Network
  group_changed = record net { groups = each_where (λ x. same n x.id) (λ x. record x { ports = change x.ports }) net.groups }

  -- none has the number
  pub no_group : None ≡ record_of (λ (x : Group). x.id) n net.groups → net ≡ group_changed
  no_group none = ap (λ (all : List Group). record net { groups = all }) (none_there (λ (x : Group). x.id) n net.groups (λ x. record x { ports = change x.ports }) none)

  module _ (held : Group) (found : Some held ≡ record_of (λ (x : Group). x.id) n net.groups) (rise : NumbersRise (λ (x : Group). x.id) net.groups) where
    -- its list stays
    pub group_stays : change held.ports ≡ held.ports → net ≡ group_changed
    group_stays stays = ap (λ (all : List Group). record net { groups = all })
        (unchanged_there (λ (x : Group). x.id) n held net.groups found rise (λ x. record x { ports = change x.ports }) (ap (λ (all : List ObjId). let x : Group = record held { ports = all } in x) stays))

    module _ (new : Group) (is : new ≡ record held { ports = change held.ports }) where
      pub group_stored : record net { groups = with_exchanged (λ x. x.id) new net.groups } ≡ group_changed
      group_stored =
          ap (λ (x : Group). record net { groups = with_exchanged (λ x. x.id) x net.groups }) is
          ∙ ap (λ (all : List Group). record net { groups = all }) (changed_there (λ (x : Group). x.id) n held net.groups found rise (λ x. record x { ports = change x.ports }) refl)

      module _ (s : Swap Group) (place : ℕ) (longer : Bool) (swap : s ≡ (new, place, longer)) (one : differs group_longer (record held { ports = change held.ports }, place, longer) held ≡ true) where
        pub group_fits : fits (λ x. x.id) group_longer s net.groups ≡ true
        group_fits =
            ap (λ (t : Swap Group). fits (λ x. x.id) group_longer t net.groups) (swap ∙ ap (λ (x : Group). let t : Swap Group = (x, place, longer) in t) is)
            ∙ fits_there (λ (x : Group). x.id) n held net.groups found rise group_longer (record held { ports = change held.ports }, place, longer) refl one

        pub group_swaps : swapped (lean.Group s) net ≡ group_changed
        group_swaps = group_swapped net s new (ap (λ (t : Swap Group). t.0) swap) group_fits ∙ group_stored
