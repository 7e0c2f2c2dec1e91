use Rattle.pcap_file.proofs.WrittenBack.{header_back}
use Rattle.pcap_file.proofs.laws.written_headers_are_read.Goals as goal

pub returns : goal.returns
returns c = header_back
