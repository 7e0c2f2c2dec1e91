-- No row of a sound network is of two units: among the rows of all kinds each stands once.
use Rattle.std.proofs.Common.{◌≡◌, ℕ, ◌+◌, ◌≤◌, ◌<◌, Bool, true, false, cond, get_or, List, [], ◌∷◌, ◌++◌, ◌⊎◌, inl, inr, sym, ap, subst, refl, ◌∙◌, arith}
use Rattle.std.specs.Prelude.{⊤}
use Rattle.std.specs.Bool.{Decides}
use Rattle.std.specs.Cmp.{IsTotalOrder}
use Rattle.std.specs.List.{AllByRecursion, AllPairs, Contains, IsDistinct, flat_map, sum_by}
use Rattle.std.specs.declared.cmp.Ordering.{Ordering}
use Rattle.std.proofs.Math.Nat.{le_trans}
use Rattle.std.proofs.lemmas.Cmp.{tied_itself}
use Rattle.std.proofs.lemmas.List.Sorted.{sum_by-IsPermutation}
use Rattle.std.proofs.lemmas.List.Sums.{get_or-le-sum_by, sum_by-append, sum_by-cons}
use Rattle.std.proofs.lemmas.Map.Keys.{IsDistinct-head, IsDistinct-tail}
use Rattle.std.proofs.lemmas.Map.Lookups.{CmpEqualImpliesEq}
use Rattle.std.proofs.lemmas.Map.Made.{IsDistinct-from_AllPairs}
use Rattle.nv_base.specs.contracts.object.ObjIdOrd.TheImpl.Laws.{total-law as number_total}
use Rattle.nv_base.specs.declared.object.ObjId.{ObjId}
use Rattle.nv_map.proofs.Members.{value_member}
use Rattle.nb_model.specs.Network.{Network}
use Rattle.nb_model.specs.Sound.{IsSound}
use Rattle.sb_model.specs.contracts.row.RowEq.TheImpl.Laws.{laws-law as row_laws}
use Rattle.sb_model.specs.declared.row.Row.{Row}
use Rattle.sb_model.specs.inner.Exact as tells
use Rattle.sb_model.specs.inner.Exact.{same_row}
use Rattle.sb_rows.specs.Row.{AreApart, row_cmp}
use Rattle.sb_rows.proofs.Order.{row_cmp_total}
use Rattle.net_rows.specs.LoadBalancers.{switch_lb_rules}
use Rattle.net_rows.specs.PortSecurity.{switch_sec_rules}
use Rattle.net_rows.specs.Unit.{said_by, unit_of_datapath}
use Rattle.net_rows.specs.declared.rule.Rule.{Rule}
use Rattle.net_rows.specs.declared.rule.Unit.{Unit}
use Rattle.net_rows.proofs.Elements.{Contains-flat_map, one_of, one_of_none}
use Rattle.net_rows.proofs.Pairs.{OfPairs, all_pairs, every_from_members}
use Rattle.lr_rows.specs.Input.{router_in_rules}
use Rattle.lr_rows.specs.Routes.{router_route_rules}
use Rattle.lr_units.specs.Build.{binding_rows, nat_rule_rows, neighbour_rows, port_in_rows, port_route_rows, router_in_rows, router_nat_rows, router_route_rows, rows_of, static_route_rows, vip_addr_rows, vip_router_rows}
use Rattle.lr_units.specs.Network.{rows_of_units}
use Rattle.lr_units.specs.Units.{binding_units, nat_rule_units, neighbour_units, port_in_units, port_route_units, router_nat_units, router_units, static_route_units, vip_addr_units, vip_router_units}
use Rattle.lr_units.proofs.Whole.{network_apart}
use Rattle.net_units.specs.Build.{acl_on_rows, port_acl_rows, port_l2_rows, port_sec_rows, rows_by_kind, rows_of_kinds, switch_acl_rows, switch_l2_rows, switch_lb_rows, switch_sec_rows, vip_switch_rows}
use Rattle.net_units.specs.Keys.{by_number}
use Rattle.net_units.specs.OneUnit.{AllRowsOfOneUnit, RowsOfOneUnit, ShareNoRow}
use Rattle.net_units.specs.Units.{acl_on_units, port_acl_units, port_l2_units, port_sec_units, switch_acl_units, switch_l2_units, switch_units, vip_switch_units}
use Rattle.net_units.proofs.ByKind.{units_permuted}
use Rattle.net_units.proofs.Distinct.{addrs_exact, addrs_total, number_exact, numbers_exact, numbers_total, vip_exact, vips_total}

-- ---- how often a row is there

same : (a b : Row) → Decides (same_row a b) (a ≡ b)
same a b = (tells.row a b, λ e. subst (λ c. same_row a c ≡ true) e (row_laws.refl a))

abbrev mark : Row → Row → ℕ
mark row other = cond (same_row row other) 1 0

abbrev times : Row → List Row → ℕ
times row rows = sum_by (mark row) rows

-- what an element counts is in the sum
counted : {X : Type 0} (f : X → ℕ) (xs : List X) (x : X) → Contains xs x → f x ≤ sum_by f xs
counted f xs x (k, within, is) = subst (λ y. f y ≤ sum_by f xs) is (get_or-le-sum_by f xs k x within)

-- a row of a list is there once at least
is_there : (row : Row) (rows : List Row) → Contains rows row → 1 ≤ times row rows
is_there row rows there = subst (λ b. cond b 1 0 ≤ times row rows) ((same row row).1 refl) (counted (mark row) rows row there)

is_not_there : (row : Row) (rows : List Row) → AllByRecursion (λ r. same_row row r ≡ false) rows → times row rows ≡ 0
is_not_there row [] all = refl
is_not_there row (r ∷ rows) all =
    let whole = sum_by-cons (mark row) r rows in
    let first : mark row r ≡ 0 = ap (λ b. cond b 1 0) all.0 in
    let rest = is_not_there row rows all.1 in
    omega (arith, whole, first, rest)

-- and once at most where no two are one
once_of_distinct : (row : Row) (rows : List Row) → IsDistinct same_row rows → times row rows ≤ 1
once_of_distinct row [] of = let none : times row [] ≡ 0 = refl in omega (arith, none)
once_of_distinct row (r ∷ rows) of = by (same_row row r) refl (once_of_distinct row rows (IsDistinct-tail same_row r rows of))
  where
    by : (b : Bool) → same_row row r ≡ b → times row rows ≤ 1 → times row (r ∷ rows) ≤ 1
    by true e rest =
        let whole = sum_by-cons (mark row) r rows in
        let first : mark row r ≡ 1 = ap (λ b. cond b 1 0) e in
        let none = is_not_there row rows (subst (λ q. AllByRecursion (λ p. same_row q p ≡ false) rows) (sym ((same row r).0 e)) (IsDistinct-head same_row r rows of)) in
        omega (arith, whole, first, none)
    by false e rest =
        let whole = sum_by-cons (mark row) r rows in
        let first : mark row r ≡ 0 = ap (λ b. cond b 1 0) e in
        omega (arith, whole, first, rest)

once_of_apart : (row : Row) (rows : List Row) → AreApart rows → times row rows ≤ 1
once_of_apart row rows apart =
    once_of_distinct row rows
    (IsDistinct-from_AllPairs same rows (λ i j d before below e. apart i j d before below (ap (row_cmp (get_or rows i d)) (sym e) ∙ tied_itself row_cmp_total (get_or rows i d))))

-- ---- of which element of a list, and of which list

-- among elements that give rows, one alone gives a row that is there once
of_one : {U : Type 0} (give : U → List Row) (us : List U) (row : Row) → times row (flat_map give us) ≤ 1 → (u v : U) → Contains us u → Contains us v → Contains (give u) row → Contains (give v) row → u ≡ v
of_one give [] row most u v at_u at_v in_u in_v = absurd (one_of_none u at_u)
of_one {U} give (w ∷ us) row most u v at_u at_v in_u in_v = by (one_of w us u at_u) (one_of w us v at_v) (λ later_u later_v. of_one give us row most_of_rest u v later_u later_v in_u in_v)
  where
    parts : times row (give w ++ flat_map give us) ≡ times row (give w) + times row (flat_map give us)
    parts = sum_by-append (mark row) (give w) (flat_map give us)

    most_of_rest : times row (flat_map give us) ≤ 1
    most_of_rest = omega (arith, most, parts)

    two : Contains (give w) row → (z : U) → Contains us z → Contains (give z) row → ⊥
    two in_w z later in_z =
        let first = is_there row (give w) in_w in
        let second = is_there row (flat_map give us) (Contains-flat_map give us z row later in_z) in
        absurd (omega (arith, most, parts, first, second))

    by : (w ≡ u) ⊎ Contains us u → (w ≡ v) ⊎ Contains us v → (Contains us u → Contains us v → u ≡ v) → u ≡ v
    by (inl is_u) (inl is_v) rest = sym is_u ∙ is_v
    by (inl is_u) (inr later_v) rest = absurd (two (subst (λ z. Contains (give z) row) (sym is_u) in_u) v later_v in_v)
    by (inr later_u) (inl is_v) rest = absurd (two (subst (λ z. Contains (give z) row) (sym is_v) in_v) u later_u in_u)
    by (inr later_u) (inr later_v) rest = rest later_u later_v

-- lists that have each row once at most, taken together, share none
share_none : (lists : List (List Row)) → ((row : Row) → sum_by (times row) lists ≤ 1) → OfPairs ShareNoRow lists
share_none [] most = tt
share_none (rows ∷ lists) most = (
  every_from_members (ShareNoRow rows) lists
      (λ others there row in_rows in_others.
      let whole = sum_by-cons (times row) rows lists in
      let all = most row in
      let first = is_there row rows in_rows in
      let second = is_there row others in_others in
      let later = counted (times row) lists others there in
      absurd (omega (arith, whole, all, first, second, later))),
  share_none lists (λ row. let whole = sum_by-cons (times row) rows lists in let all = most row in omega (arith, whole, all)),
)

-- ---- of one kind

-- whose keys are told apart by their order
of_kind : {K I : Type 0} {cmp : K → K → Ordering} → IsTotalOrder cmp → CmpEqualImpliesEq cmp → (unit_for : K → I → Unit) (rules_of : I → List Rule) (units : List (K × I))
    → ((row : Row) → times row (rows_of unit_for rules_of units) ≤ 1) → RowsOfOneUnit cmp unit_for rules_of units
of_kind {K} {I} {cmp} total exact unit_for rules_of units once row key key' input input' at at' there there' =
    let give : K × I → List Row = λ unit. said_by (unit_for unit.0 unit.1) (rules_of unit.1) in
    let one = of_one give units row (once row) (key, input) (key', input') (value_member total exact units key input at) (value_member total exact units key' input' at') there there' in
    ap (cmp key) (sym (ap (λ (unit : K × I). unit.0) one)) ∙ tied_itself total key

-- those of datapaths, which depend on no more than that these are there
of_datapaths : (rules : List Rule) (units : List (ObjId × ⊤)) → ((row : Row) → times row (rows_of (λ (dp : ObjId) (input : ⊤). unit_of_datapath dp) (λ input. rules) units) ≤ 1)
    → RowsOfOneUnit by_number (λ dp input. unit_of_datapath dp) (λ input. rules) units
of_datapaths rules units once = of_kind number_total number_exact (λ (dp : ObjId) (input : ⊤). unit_of_datapath dp) (λ input. rules) units once

-- ---- of all kinds

-- the sum over the kinds in the one order is that over their rows in the other
in_both_orders : (f : Row → ℕ) (sec port_sec acl port_acl acl_on lb vip l2 port_l2 input port_in route port_route static binding neighbour nat rule vip_router vip_addr : List Row)
    → sum_by (sum_by f) (sec ∷ port_sec ∷ acl ∷ port_acl ∷ acl_on ∷ lb ∷ vip ∷ l2 ∷ port_l2 ∷ input ∷ port_in ∷ route ∷ port_route ∷ static ∷ binding ∷ neighbour ∷ nat ∷ rule ∷ vip_router ∷ vip_addr ∷ [])
    ≡ sum_by f
    (((sec ++ (acl ++ (lb ++ l2))) ++ ((port_sec ++ (port_acl ++ port_l2)) ++ (acl_on ++ vip)))
    ++ ((input ++ port_in) ++ ((route ++ (port_route ++ (static ++ (binding ++ neighbour)))) ++ (nat ++ (rule ++ (vip_router ++ vip_addr))))))
in_both_orders f sec port_sec acl port_acl acl_on lb vip l2 port_l2 input port_in route port_route static binding neighbour nat rule vip_router vip_addr = simp (sum_by-append) (omega arith)

module _ (net : Network) (sound : IsSound net) where
  once_of_all : (row : Row) → sum_by (times row) (rows_of_kinds net) ≤ 1
  once_of_all row =
      let by_kind : sum_by (times row) (rows_of_kinds net) ≡ times row (rows_by_kind net) =
      in_both_orders (mark row) (switch_sec_rows net) (port_sec_rows net) (switch_acl_rows net) (port_acl_rows net) (acl_on_rows net) (switch_lb_rows net) (vip_switch_rows net) (switch_l2_rows net) (port_l2_rows net)
      (router_in_rows net) (port_in_rows net) (router_route_rows net) (port_route_rows net) (static_route_rows net) (binding_rows net) (neighbour_rows net) (router_nat_rows net) (nat_rule_rows net) (vip_router_rows net) (vip_addr_rows net) in
      let as_units : times row (rows_of_units net) ≡ times row (rows_by_kind net) = sum_by-IsPermutation (mark row) (rows_by_kind net) (rows_of_units net) (units_permuted net) in
      subst (λ n. n ≤ 1) (as_units ∙ sym by_kind) (once_of_apart row (rows_of_units net) (network_apart net sound))

  -- and so in each kind
  once : (k : ℕ) → k < 20 → (row : Row) → times row (get_or (rows_of_kinds net) k []) ≤ 1
  once k within row = le_trans (get_or-le-sum_by (times row) (rows_of_kinds net) k [] within) (once_of_all row)

  pub all_of_one_unit : AllRowsOfOneUnit net
  all_of_one_unit = record {
    switch_sec = of_datapaths switch_sec_rules (switch_units net) (once 0 (omega arith));
    port_sec = of_kind number_total number_exact _ _ (port_sec_units net) (once 1 (omega arith));
    switch_acl = of_kind number_total number_exact _ _ (switch_acl_units net) (once 2 (omega arith));
    port_acl = of_kind number_total number_exact _ _ (port_acl_units net) (once 3 (omega arith));
    acl_on = of_kind numbers_total numbers_exact _ _ (acl_on_units net) (once 4 (omega arith));
    switch_lb = of_datapaths switch_lb_rules (switch_units net) (once 5 (omega arith));
    vip_switch = of_kind vips_total vip_exact _ _ (vip_switch_units net) (once 6 (omega arith));
    switch_l2 = of_kind number_total number_exact _ _ (switch_l2_units net) (once 7 (omega arith));
    port_l2 = of_kind number_total number_exact _ _ (port_l2_units net) (once 8 (omega arith));
    router_in = of_datapaths router_in_rules (router_units net) (once 9 (omega arith));
    port_in = of_kind number_total number_exact _ _ (port_in_units net) (once 10 (omega arith));
    router_route = of_datapaths router_route_rules (router_units net) (once 11 (omega arith));
    port_route = of_kind number_total number_exact _ _ (port_route_units net) (once 12 (omega arith));
    static_route = of_kind number_total number_exact _ _ (static_route_units net) (once 13 (omega arith));
    binding = of_kind number_total number_exact _ _ (binding_units net) (once 14 (omega arith));
    neighbour = of_kind numbers_total numbers_exact _ _ (neighbour_units net) (once 15 (omega arith));
    router_nat = of_kind number_total number_exact _ _ (router_nat_units net) (once 16 (omega arith));
    nat_rule = of_kind number_total number_exact _ _ (nat_rule_units net) (once 17 (omega arith));
    vip_router = of_kind vips_total vip_exact _ _ (vip_router_units net) (once 18 (omega arith));
    vip_addr = of_kind addrs_total addrs_exact _ _ (vip_addr_units net) (once 19 (omega arith));
  }

  pub kinds_share_none : AllPairs ShareNoRow (rows_of_kinds net)
  kinds_share_none = all_pairs ShareNoRow (rows_of_kinds net) (share_none (rows_of_kinds net) once_of_all)
