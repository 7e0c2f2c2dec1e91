-- What a router does not pass on ends alike for the packet of the rows, which is to go back by the port, and for the router's own.
use Rattle.std.proofs.Common.{◌≡◌, ℕ, Bool, true, false, cond, nat_lt, List, [], ◌∷◌, sym, refl, subst}
use Rattle.std.specs.Prelude.{◌==◌, ◌&&◌, ◌||◌, not, Option, Some, None}
use Rattle.std.proofs.lemmas.Option.{none-some}
use Rattle.nv_base.specs.declared.field.Field.{Field}
use Rattle.nv_base.specs.declared.field.Field.TheVariants.{EthSrc, EthDst, EthType, IpProto, IpTtl, Ip4Src, Ip4Dst, ArpOp, ArpTpa, Icmp4Type, Icmp4Code}
use Rattle.nv_base.specs.declared.field.Prerequisite.TheVariants.{Arp, Tcp, Udp}
use Rattle.pkt_core.specs.Packet.{Values, exchanged, value, with_value}
use Rattle.pkt_core.specs.Prerequisite.{is_ip4, meets}
use Rattle.pkt_core.specs.Replies.{arp_reply, icmp_error, is_answerable}
use Rattle.pkt_core.specs.declared.replies.IcmpReason.TheVariants.{TtlExceeded}
use Rattle.ct_core.specs.State.{State}
use Rattle.nb_records.specs.declared.router.RouterPort.{RouterPort}
use Rattle.nb_model.specs.Network.{Network}
use Rattle.nb_router.specs.Vocabulary.{addresses_at}
use Rattle.sb_model.specs.declared.stage.Stage.{Stage}
use Rattle.net_meaning.specs.Switches.{is_among_ips, is_request, rejection, turned_back}
use Rattle.net_meaning.specs.Walk.{Passed}
use Rattle.net_meaning.specs.Walk.Passed.{GoesOn, Drops}
use Rattle.net_meaning.specs.Walk.Target.{OnePort, Late}
use Rattle.net_meaning.specs.declared.cause.Cause.{Cause}
use Rattle.net_meaning.specs.declared.cause.Cause.TheVariants.{IpInput}
use Rattle.net_router.specs.Input.{arp_answered, answered_by, echo_reply, expiry_answered, first_address, is_echo_request, is_external, is_multicast_ip, is_not_routed, is_own, is_refused, service_answered, taken_in}
use Rattle.net_router.specs.Routers.{did}
use Rattle.tr_pipe.specs.Machine.{PipelineRun, go_on}
use Rattle.tr_pipe.specs.Tracking.{Flight}
use Rattle.lr_laws.specs.Steps.{taken}
use Rattle.tr_router.specs.Parts.{Arrives, DoesPart}
use Rattle.tr_router.proofs.Alike.{StandsFor, both_changed, both_error, both_exchanged, both_rejection, both_reply, same_answerable, same_meets, turned_carry}

module _ (net : Network) (port : RouterPort) (state : State) (run_at : Stage → Flight → PipelineRun) where
  -- ---- how both end

  abbrev pub EndsAs : Passed → Passed → Type 0
  EndsAs own passed = DoesPart Arrives (go_on run_at (taken own state)) (did passed state)

  -- both are taken, and end alike, or both are passed on
  abbrev pub TakenAs : Option Passed → Option Passed → Type 0
  TakenAs None None = Unit {0}
  TakenAs (Some own) (Some passed) = EndsAs own passed
  TakenAs _ _ = ⊥

  dropped : (cause : Cause) → EndsAs (Drops cause) (Drops cause)
  dropped cause = record { passes = refl; leaves = refl }

  -- packets that go back
  abbrev Stands : Values → Values → Type 0
  Stands own packet = StandsFor port.id.0 own packet

  goes : (x y : Values) → Stands x y → EndsAs (GoesOn (OnePort port.id) (turned_back x)) (GoesOn (OnePort port.id) (turned_back y))
  goes x y for_it = record { passes = (turned_back x, refl, turned_carry port.id.0 x y for_it port.id refl); leaves = refl }

  goes_late : (x y : Values) → Stands x y → EndsAs (GoesOn (Late port.id) (turned_back x)) (GoesOn (Late port.id) (turned_back y))
  goes_late x y for_it = record { passes = (turned_back x, refl, turned_carry port.id.0 x y for_it port.id refl); leaves = refl }

  answers : (x y : Values) → Stands x y → EndsAs (answered_by port x) (answered_by port y)
  answers x y for_it =
      let own = with_value x EthSrc port.mac in
      let packet = with_value y EthSrc port.mac in
      record { passes = (turned_back own, refl, turned_carry port.id.0 own packet (both_changed port.id.0 x y for_it ((EthSrc, port.mac) ∷ []) ((EthSrc, port.mac) ∷ []) refl refl) port.id refl); leaves = refl }

  module _ (a b : Values) (it : StandsFor port.id.0 a b) where
    -- ---- answers

    arp_as : EndsAs (arp_answered net port a) (arp_answered net port b)
    arp_as = subst (λ c. EndsAs (told c a) (arp_answered net port b)) (sym same_test) (by (test b))
      where
        test : Values → Bool
        test packet = is_request packet && (is_among_ips (value packet ArpTpa) (addresses_at port) || is_external net port.router (value packet ArpTpa))

        same_test : test a ≡ test b
        same_test = rw (it.same EthType refl, it.same ArpOp refl, it.same ArpTpa refl) refl

        told : Bool → Values → Passed
        told c packet = cond c (GoesOn (OnePort port.id) (turned_back (arp_reply packet port.mac))) (Drops IpInput)

        by : (c : Bool) → EndsAs (told c a) (told c b)
        by true = goes (arp_reply a port.mac) (arp_reply b port.mac) (both_reply port.id.0 a b it port.mac)
        by false = dropped IpInput

    echo_as : EndsAs (GoesOn (Late port.id) (turned_back (echo_reply port a))) (GoesOn (Late port.id) (turned_back (echo_reply port b)))
    echo_as =
        goes_late (echo_reply port a) (echo_reply port b)
        (both_changed port.id.0 (exchanged a Ip4Src Ip4Dst) (exchanged b Ip4Src Ip4Dst) (both_exchanged port.id.0 a b it Ip4Src Ip4Dst refl refl refl refl) (numbers a) (numbers b)
        (λ i. (EthSrc, port.mac) ∷ (EthDst, it.same EthSrc refl i) ∷ (IpTtl, 255) ∷ (Icmp4Type, 0) ∷ []) refl)
      where
        numbers : Values → List (Field × ℕ)
        numbers packet = (EthSrc, port.mac) ∷ (EthDst, value packet EthSrc) ∷ (IpTtl, 255) ∷ (Icmp4Type, 0) ∷ []

    service_as : EndsAs (service_answered port a) (service_answered port b)
    service_as = subst (λ c. EndsAs (told c a) (service_answered port b)) (sym same_test) (by (is_answerable b && (meets b Tcp || meets b Udp)))
      where
        same_test : (is_answerable a && (meets a Tcp || meets a Udp)) ≡ (is_answerable b && (meets b Tcp || meets b Udp))
        same_test = λ i. same_answerable port.id.0 a b it i && (same_meets port.id.0 a b it Tcp i || same_meets port.id.0 a b it Udp i)

        told : Bool → Values → Passed
        told c packet = cond c (answered_by port (rejection packet)) (Drops IpInput)

        by : (c : Bool) → EndsAs (told c a) (told c b)
        by true = answers (rejection a) (rejection b) (both_rejection port.id.0 a b it)
        by false = dropped IpInput

    expiry_as : EndsAs (expiry_answered port a) (expiry_answered port b)
    expiry_as = subst (λ c. EndsAs (told c a) (expiry_answered port b)) (sym (same_answerable port.id.0 a b it)) (by (is_answerable b))
      where
        from_port : Values → Values
        from_port packet = with_value (icmp_error packet TtlExceeded) Ip4Src (first_address port).0

        told : Bool → Values → Passed
        told c packet = cond c (answered_by port (from_port packet)) (Drops IpInput)

        first : List (Field × ℕ)
        first = (Ip4Src, (first_address port).0) ∷ []

        by : (c : Bool) → EndsAs (told c a) (told c b)
        by true =
            answers (from_port a) (from_port b)
            (both_changed port.id.0 (icmp_error a TtlExceeded) (icmp_error b TtlExceeded) (both_error port.id.0 a b it TtlExceeded) first first refl refl)
        by false = dropped IpInput

    -- ---- which of them

    same_refused : is_refused net port.router a ≡ is_refused net port.router b
    same_refused = rw (it.same EthType refl, it.same Ip4Src refl, it.same Ip4Dst refl) refl

    same_echo : (is_echo_request a && is_own net port.router (value a Ip4Dst)) ≡ (is_echo_request b && is_own net port.router (value b Ip4Dst))
    same_echo = rw (it.same EthType refl, it.same IpProto refl, it.same Icmp4Type refl, it.same Icmp4Code refl, it.same Ip4Dst refl) refl

    same_service : (is_ip4 a && is_own net port.router (value a Ip4Dst) && not (is_external net port.router (value a Ip4Dst))) ≡ (is_ip4 b && is_own net port.router (value b Ip4Dst) && not (is_external net port.router (value b Ip4Dst)))
    same_service = rw (it.same EthType refl, it.same Ip4Dst refl) refl

    same_routed : is_not_routed a ≡ is_not_routed b
    same_routed = rw (it.same EthType refl, it.same EthDst refl, it.same Ip4Dst refl) refl

    -- what becomes of a packet, by the tests
    told : (refused arp echo service not_routed expired : Bool) → Values → Option Passed
    told refused arp echo service not_routed expired packet =
        cond refused (Some (Drops IpInput))
        (cond arp (Some (arp_answered net port packet))
        (cond echo (Some (GoesOn (Late port.id) (turned_back (echo_reply port packet))))
        (cond service (Some (service_answered port packet))
        (cond not_routed (Some (Drops IpInput)) (cond expired (Some (expiry_answered port packet)) None)))))

    pub taken_as : TakenAs (taken_in net port a) (taken_in net port b)
    unfolding told
    taken_as =
        subst (λ own. TakenAs own (taken_in net port b)) (sym same_tests)
        (by (is_refused net port.router b) (meets b Arp) (is_echo_request b && is_own net port.router (value b Ip4Dst))
        (is_ip4 b && is_own net port.router (value b Ip4Dst) && not (is_external net port.router (value b Ip4Dst))) (is_not_routed b) (nat_lt (value b IpTtl) 2))
      where
        same_tests : taken_in net port a
            ≡ told (is_refused net port.router b) (meets b Arp) (is_echo_request b && is_own net port.router (value b Ip4Dst))
            (is_ip4 b && is_own net port.router (value b Ip4Dst) && not (is_external net port.router (value b Ip4Dst))) (is_not_routed b) (nat_lt (value b IpTtl) 2) a
        same_tests = λ i. told (same_refused i) (same_meets port.id.0 a b it Arp i) (same_echo i) (same_service i) (same_routed i) (nat_lt (it.same IpTtl refl i) 2) a

        by : (refused arp echo service not_routed expired : Bool) → TakenAs (told refused arp echo service not_routed expired a) (told refused arp echo service not_routed expired b)
        by true arp echo service not_routed expired = dropped IpInput
        by false true echo service not_routed expired = arp_as
        by false false true service not_routed expired = echo_as
        by false false false true not_routed expired = service_as
        by false false false false true expired = dropped IpInput
        by false false false false false true = expiry_as
        by false false false false false false = tt

    -- what is passed on is IPv4, and has a hop left
    pub passed_on_is : taken_in net port b ≡ None → (is_ip4 b ≡ true) × (nat_lt (value b IpTtl) 2 ≡ false)
    passed_on_is =
        by (is_refused net port.router b) (meets b Arp) (is_echo_request b && is_own net port.router (value b Ip4Dst))
        (is_ip4 b && is_own net port.router (value b Ip4Dst) && not (is_external net port.router (value b Ip4Dst))) (is_ip4 b)
        (value b EthDst == 0xffff_ffff_ffff) (is_multicast_ip (value b Ip4Dst)) (nat_lt (value b IpTtl) 2)
      where
        by : (refused arp echo service ip4 all many expired : Bool)
            → cond refused (Some (Drops IpInput))
            (cond arp (Some (arp_answered net port b))
            (cond echo (Some (GoesOn (Late port.id) (turned_back (echo_reply port b))))
            (cond service (Some (service_answered port b))
            (cond (not ip4 || all || many) (Some (Drops IpInput)) (cond expired (Some (expiry_answered port b)) None)))))
            ≡ None
            → (ip4 ≡ true) × (expired ≡ false)
        by true arp echo service ip4 all many expired is = absurd (none-some _ (sym is))
        by false true echo service ip4 all many expired is = absurd (none-some _ (sym is))
        by false false true service ip4 all many expired is = absurd (none-some _ (sym is))
        by false false false true ip4 all many expired is = absurd (none-some _ (sym is))
        by false false false false false all many expired is = absurd (none-some _ (sym is))
        by false false false false true true many expired is = absurd (none-some _ (sym is))
        by false false false false true false true expired is = absurd (none-some _ (sym is))
        by false false false false true false false true is = absurd (none-some _ (sym is))
        by false false false false true false false false is = (refl, refl)
