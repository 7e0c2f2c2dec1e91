use Rattle.pcap_file.proofs.WrittenBack.{record_back, frame_back}
use Rattle.pcap_file.proofs.laws.written_records_are_read.Goals as goal

pub returns : goal.returns
returns c = record { told = record_back; frame = frame_back }
