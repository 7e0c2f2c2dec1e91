-- What the rules of input do.
use Rattle.std.proofs.Common.{◌≡◌, Bool, true, false, cond, List, [], ◌∷◌, length, ap, refl, ◌∙◌}
use Rattle.std.specs.Prelude.{◌&&◌, Some, None}
use Rattle.nv_base.specs.declared.object.ObjId.{ObjId}
use Rattle.nv_base.specs.Field.{field_count}
use Rattle.nv_base.specs.declared.field.Field.TheVariants.{EthSrc, Ip4Src}
use Rattle.nv_base.specs.declared.field.Prerequisite.TheVariants as needs
use Rattle.nv_base.specs.declared.ip4.Ip4.{Ip4}
use Rattle.pkt_core.specs.Packet.{Values, with_value}
use Rattle.pkt_core.specs.Prerequisite.{meets}
use Rattle.pkt_core.specs.Replies.{arp_reply, icmp_error, is_answerable, reset}
use Rattle.pkt_core.specs.declared.replies.IcmpReason.TheVariants.{PortUnreachable, TtlExceeded}
use Rattle.act_core.specs.declared.action.Action.{Action}
use Rattle.act_core.specs.declared.action.Action.TheVariants as action
use Rattle.expr_core.specs.Lookup.{Lookup}
use Rattle.nb_records.specs.declared.router.RouterPort.{RouterPort}
use Rattle.sb_model.specs.Make.{drops, goes_on, steps}
use Rattle.sb_model.specs.Stage.{all_stages, next_stage, pipeline_of, stage_at}
use Rattle.sb_model.specs.declared.stage.Stage.TheVariants.{LrInIpInput, LrInUnsnat}
use Rattle.net_meaning.specs.Switches.{turned_back}
use Rattle.net_meaning.specs.declared.answer.Answer.TheVariants.{Reject}
use Rattle.net_meaning.specs.declared.cause.Cause.TheVariants.{IpInput}
use Rattle.net_router.specs.Input.{echo_reply}
use Rattle.lr_rows.specs.Input.{answers_echo, answers_expired, answers_from_port}
use Rattle.lr_rows.specs.Make.{answers_arp}
use Rattle.tr_stage.specs.Machine.{answered}
use Rattle.tr_stage.specs.declared.outcome.Outcome.TheVariants as outcomes
use Rattle.tr_pipe.specs.Machine.{StageEnd, ended, run_actions}
use Rattle.tr_pipe.specs.Machine.StageEnd.{On, Ends}
use Rattle.tr_pipe.specs.Tracking.{Flight}
use Rattle.lr_laws.specs.Steps.{CameIn, HasMac, going_back, late}
use Rattle.lr_laws.proofs.InputPackets.{echoed, error_sent, expiry_sent, replied, reset_sent, sent_back, sent_expired}

module _ (port : RouterPort) (flight : Flight) where
  -- the packet, to go out by the port
  abbrev turned : Values
  turned = going_back port flight.packet

  abbrev pub dropped : StageEnd
  dropped = Ends (Some (outcomes.Drop IpInput)) flight.state

  abbrev pub goes : StageEnd
  goes = On LrInUnsnat flight

  abbrev pub replies : StageEnd
  replies = Ends (Some (outcomes.Leave (turned_back (arp_reply turned port.mac)) 0)) flight.state

  abbrev pub echoes : StageEnd
  echoes = Ends (Some (outcomes.Leave (turned_back (echo_reply port turned)) late)) flight.state

  -- an answer goes out of the port, where the packet may be answered
  abbrev pub answers : Values → StageEnd
  answers packet = cond (is_answerable flight.packet) (Ends (Some (outcomes.Made (turned_back (with_value packet EthSrc port.mac)) late Reject)) flight.state) dropped

  abbrev pub resets : StageEnd
  resets = answers (reset turned)

  abbrev pub is_unreachable : StageEnd
  is_unreachable = answers (icmp_error turned PortUnreachable)

  abbrev pub expires : Ip4 → StageEnd
  expires first = answers (with_value (icmp_error turned TtlExceeded) Ip4Src first.0)

  module _ (known : Lookup) (dp : ObjId) (long : length flight.packet ≡ field_count) (at : CameIn port flight.packet) (has : HasMac port flight.packet) where
    -- what actions do
    abbrev does_by : List Action → StageEnd
    does_by actions = run_actions known dp LrInIpInput actions flight

    pub it_drops : does_by drops ≡ dropped
    it_drops = refl

    pub it_goes : does_by goes_on ≡ goes
    unfolding next_stage stage_at all_stages
    it_goes = refl

    pub it_replies : does_by (steps answers_arp) ≡ replies
    unfolding pipeline_of
    it_replies = ap (λ p. Ends (Some (outcomes.Leave p 0)) flight.state) (replied port flight.packet long at has)

    pub it_echoes : does_by (steps answers_echo) ≡ echoes
    unfolding pipeline_of
    it_echoes = ap (λ p. Ends (Some (outcomes.Leave p late)) flight.state) (echoed port flight.packet long at has)

    -- a packet that is made, or none
    abbrev made : Values → StageEnd
    made packet = Ends (Some (outcomes.Made packet late Reject)) flight.state

    from_port : (may : Bool) (packet : Values) → ended flight (answered known LrInIpInput (answers_from_port []) (cond may (Some packet) None)) ≡ cond may (made (sent_back packet)) dropped
    from_port true packet = refl
    from_port false packet = refl

    from_address : (may : Bool) (first : Ip4) → ended flight (answered known LrInIpInput (answers_expired first) (cond may (Some (icmp_error flight.packet PortUnreachable)) None))
        ≡ cond may (made (sent_expired port flight.packet long at has first.0)) dropped
    from_address true first = refl
    from_address false first = refl

    pub it_resets : meets flight.packet needs.Tcp ≡ true → does_by (action.TcpReset (answers_from_port []) ∷ []) ≡ resets
    it_resets tcp =
        ap (λ b. ended flight (answered known LrInIpInput (answers_from_port []) (cond b (Some (reset flight.packet)) None))) (may (is_answerable flight.packet))
        ∙ from_port (is_answerable flight.packet) (reset flight.packet)
        ∙ ap (λ p. cond (is_answerable flight.packet) (made p) dropped) (reset_sent port flight.packet long at has)
      where
        may : (b : Bool) → (b && meets flight.packet needs.Tcp) ≡ b
        may true = tcp
        may false = refl

    pub it_is_unreachable : does_by (action.Icmp4 (answers_from_port []) ∷ []) ≡ is_unreachable
    it_is_unreachable =
        from_port (is_answerable flight.packet) (icmp_error flight.packet PortUnreachable)
        ∙ ap (λ p. cond (is_answerable flight.packet) (made p) dropped) (error_sent port flight.packet long at has)

    pub it_expires : (first : Ip4) → does_by (action.Icmp4 (answers_expired first) ∷ []) ≡ expires first
    it_expires first =
        from_address (is_answerable flight.packet) first ∙ ap (λ p. cond (is_answerable flight.packet) (made p) dropped) (expiry_sent port flight.packet long at has first.0)
