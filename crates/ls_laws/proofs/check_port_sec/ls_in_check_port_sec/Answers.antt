use Rattle.ls_laws.proofs.PortSecurity.{checks_in}
use Rattle.ls_laws.proofs.check_port_sec.ls_in_check_port_sec.Goals as goal

pub returns : goal.returns
returns c = checks_in
