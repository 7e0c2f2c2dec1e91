use Rattle.ls_laws.proofs.PortSecurity.{checks_out}
use Rattle.ls_laws.proofs.check_port_sec.ls_out_check_port_sec.Goals as goal

pub returns : goal.returns
returns c = checks_out
