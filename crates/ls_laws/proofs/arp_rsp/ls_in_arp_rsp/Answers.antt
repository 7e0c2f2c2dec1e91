use Rattle.ls_laws.proofs.ArpReplies.{answers_requests}
use Rattle.ls_laws.proofs.arp_rsp.ls_in_arp_rsp.Goals as goal

pub returns : goal.returns
returns c = answers_requests
