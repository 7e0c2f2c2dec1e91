use Rattle.pcap_file.proofs.Staying.{whole_stays, too_long_stays}
use Rattle.pcap_file.proofs.laws.read_records_stay.Goals as goal

pub returns : goal.returns
returns c = record { whole = whole_stays; too_long = too_long_stays }
