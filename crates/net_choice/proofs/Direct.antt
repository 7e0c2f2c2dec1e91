-- The longest way, its port told by number, is that of the ways to networks of ports and then of those by routes.
use Rattle.std.proofs.Common.{◌≡◌, Bool, true, false, cond, List, [], ◌∷◌, ◌++◌, map, Option, Some, None, refl, sym, ap, ◌∙◌}
use Rattle.std.specs.Prelude.{filter, fold, option_map}
use Rattle.std.specs.List.{flat_map}
use Rattle.std.proofs.Common.{nat_lt}
use Rattle.nv_base.specs.Block.{Block}
use Rattle.nv_base.specs.declared.ip4.Ip4.{Ip4}
use Rattle.nv_base.specs.declared.object.ObjId.{ObjId}
use Rattle.nb_records.specs.declared.router.RouteBy.TheVariants.{Dst, Src}
use Rattle.nb_records.specs.declared.router.RouterPort.{RouterPort}
use Rattle.nb_model.specs.Network.{Network}
use Rattle.nb_router.specs.Vocabulary.{ports_of}
use Rattle.net_router.specs.Input.{is_in_network}
use Rattle.net_router.specs.Routing as routing
use Rattle.net_router.specs.Routing.{direct_ways, hop_by, route, static_ways, ways}
use Rattle.net_choice.specs.Hops.{numbered}
use Rattle.net_choice.specs.declared.routes.Way.{Way}
use Rattle.net_choice.specs.inner.Routes.{longer, longest_by, longest_direct, longest_static, longest_to, numbered_way}

fold_append : {A B : Type 0} (f : B → A → B) (b : B) (xs ys : List A) → fold f b (xs ++ ys) ≡ fold f (fold f b xs) ys
fold_append f b [] ys = refl
fold_append f b (x ∷ xs) ys = fold_append f (f b x) xs ys

-- the longest of ways whose ports are told by number
longest_numbered : (best : Option routing.Way) (ways : List routing.Way) → option_map numbered_way (fold routing.longer best ways) ≡ fold longer (option_map numbered_way best) (map numbered_way ways)
longest_numbered best [] = refl
longest_numbered best (way ∷ ways) = longest_numbered (routing.longer best way) ways ∙ ap (λ o. fold longer o (map numbered_way ways)) (one best)
  where
    chosen : (b : Bool) (first : routing.Way) → option_map numbered_way (cond b (Some way) (Some first)) ≡ cond b (Some (numbered_way way)) (Some (numbered_way first))
    chosen true first = refl
    chosen false first = refl

    one : (o : Option routing.Way) → option_map numbered_way (routing.longer o way) ≡ longer (option_map numbered_way o) (numbered_way way)
    one None = refl
    one (Some first) = chosen (nat_lt first.len way.len) first

abbrev way_to : RouterPort → Ip4 → Block → routing.Way
way_to port dst own = record { len = own.len; hop = hop_by port dst own.base }

-- of the ways to the networks of a port
of_networks : (port : RouterPort) (dst : Ip4) (best : Option Way) (nets : List Block)
    → fold longer best (map numbered_way (map (way_to port dst) (filter (is_in_network dst.0) nets))) ≡ fold (longest_to port.id dst) best nets
of_networks port dst best [] = refl
of_networks port dst best (own ∷ nets) = by (is_in_network dst.0 own) (λ o. of_networks port dst o nets)
  where
    by : (b : Bool) → ((o : Option Way) → fold longer o (map numbered_way (map (way_to port dst) (filter (is_in_network dst.0) nets))) ≡ fold (longest_to port.id dst) o nets)
        → fold longer best (map numbered_way (map (way_to port dst) (cond b (own ∷ filter (is_in_network dst.0) nets) (filter (is_in_network dst.0) nets))))
        ≡ fold (longest_to port.id dst) (cond b (longer best (numbered_way (way_to port dst own))) best) nets
    by true rest = rest (longer best (numbered_way (way_to port dst own)))
    by false rest = rest best

-- of those to the networks of ports
of_ports : (dst : Ip4) (best : Option Way) (ports : List RouterPort) → fold longer best (map numbered_way (flat_map (direct_ways dst) ports)) ≡ fold (longest_by dst) best ports
of_ports dst best [] = refl
of_ports dst best (port ∷ ports) =
    ap (fold longer best) (map_append (direct_ways dst port) (flat_map (direct_ways dst) ports))
    ∙ fold_append longer best (map numbered_way (direct_ways dst port)) (map numbered_way (flat_map (direct_ways dst) ports))
    ∙ ap (λ o. fold longer o (map numbered_way (flat_map (direct_ways dst) ports))) (of_networks port dst best port.nets)
    ∙ of_ports dst (longest_by dst best port) ports
  where
    map_append : (xs ys : List routing.Way) → map numbered_way (xs ++ ys) ≡ map numbered_way xs ++ map numbered_way ys
    map_append [] ys = refl
    map_append (x ∷ xs) ys = ap (λ zs. numbered_way x ∷ zs) (map_append xs ys)

module _ (net : Network) (router : ObjId) (src dst : Ip4) where
  abbrev direct : List routing.Way
  direct = flat_map (direct_ways dst) (ports_of net router)

  abbrev by_destination : List routing.Way
  by_destination = static_ways net router Dst dst

  abbrev by_source : List routing.Way
  by_source = static_ways net router Src src

  longest_way : option_map numbered_way (fold routing.longer None (ways net router src dst)) ≡ longest_static net router Src src (longest_static net router Dst dst (longest_direct net router dst))
  longest_way =
      ap (option_map numbered_way) (fold_append routing.longer None (direct ++ by_destination) by_source)
      ∙ longest_numbered (fold routing.longer None (direct ++ by_destination)) by_source
      ∙ ap (λ o. fold longer o (map numbered_way by_source))
      (ap (option_map numbered_way) (fold_append routing.longer None direct by_destination)
      ∙ longest_numbered (fold routing.longer None direct) by_destination
      ∙ ap (λ o. fold longer o (map numbered_way by_destination)) (longest_numbered None direct ∙ of_ports dst None (ports_of net router)))

  -- the hop of the longest
  hop_of_longest : option_map numbered (route net router src dst) ≡ option_map (λ (way : Way). way.hop) (longest_static net router Src src (longest_static net router Dst dst (longest_direct net router dst)))
  hop_of_longest = by (fold routing.longer None (ways net router src dst)) ∙ ap (option_map (λ (way : Way). way.hop)) longest_way
    where
      by : (o : Option routing.Way) → option_map numbered (option_map (λ (way : routing.Way). way.hop) o) ≡ option_map (λ (way : Way). way.hop) (option_map numbered_way o)
      by None = refl
      by (Some way) = refl

  -- found part by part
  pub hop_is : (direct_one with_destination longest : Option Way) → direct_one ≡ longest_direct net router dst → with_destination ≡ longest_static net router Dst dst direct_one
      → longest ≡ longest_static net router Src src with_destination → option_map (λ (way : Way). way.hop) longest ≡ option_map numbered (route net router src dst)
  hop_is direct_one with_destination longest one two three =
      ap (option_map (λ (way : Way). way.hop)) (three ∙ ap (longest_static net router Src src) (two ∙ ap (longest_static net router Dst dst) one)) ∙ sym hop_of_longest
