use Rattle.std.proofs.Common.{ap, sym, ◌∙◌}
use Rattle.std.specs.Option.{option_copied}
use Rattle.nb_model.specs.Belongs.{is_port}
use Rattle.nb_store.proofs.Found.{turned}
use Rattle.nb_store.proofs.Peering.{no_peer, is_peer, is_no_peer}
use Rattle.nb_store.proofs.records.Records.peer_router_port.Goals as goal

pub returns-in_err-name : goal.returns-in_err-name
returns-in_err-name c =
    ap option_copied c.from_residual.ensures
    ∙ sym (no_peer c.args.self.now c.args.port.now c.requires.there c.requires.rise (sym c.in_err-name.ensures))

pub returns-in_err-peer : goal.returns-in_err-peer
returns-in_err-peer c =
    let none = ap (is_port c.args.port.now) (sym c.in_err-peer.ensures) in
    ap option_copied c.from_residual-in_err-peer.ensures
    ∙ sym (is_no_peer c.args.self.now c.args.port.now c.requires.there c.requires.rise c.in_ok-name.name.now (sym c.in_ok-name.ensures) none)

pub returns-then-eq : goal.returns-then-eq
returns-then-eq c =
    let here = ap (is_port c.args.port.now) (sym c.in_ok-peer.ensures) ∙ turned c.args.port.now.id.0 c.in_ok-peer.peer.now.id.0 ∙ sym c.if-eq.ensures in
    c.router_port_named.ensures
    ∙ sym (is_peer c.args.self.now c.args.port.now c.requires.there c.requires.rise c.in_ok-name.name.now (sym c.in_ok-name.ensures) here)

pub returns-else-eq : goal.returns-else-eq
returns-else-eq c =
    let other = ap (is_port c.args.port.now) (sym c.in_ok-peer.ensures) ∙ turned c.args.port.now.id.0 c.in_ok-peer.peer.now.id.0 ∙ sym c.if-eq.ensures in
    sym (is_no_peer c.args.self.now c.args.port.now c.requires.there c.requires.rise c.in_ok-name.name.now (sym c.in_ok-name.ensures) other)
