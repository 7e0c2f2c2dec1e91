use Rattle.pkt_micro.proofs.Told.{packet_has, packet_lacks}
use Rattle.pkt_micro.proofs.laws.a_packet_has_what_is_said.Goals as goal

pub returns : goal.returns
returns c = record {
  said = λ t m es says made. packet_has t m es says made;
  unsaid = λ t m es field says made none. packet_lacks t m es says made field none;
}
