use Rattle.pcap_file.proofs.Staying.{same_order}
use Rattle.pcap_file.proofs.laws.read_headers_stay.Goals as goal

pub returns : goal.returns
returns c = same_order
