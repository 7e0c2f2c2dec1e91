use Rattle.std.proofs.Common.{append_assoc}
use Rattle.std.proofs.lemmas.List.{map-append}
use Rattle.net_rows.specs.PortSecurity.{port_sec_rules}
use Rattle.ls_sec.proofs.port_sec.put_port_rules.Goals as goal

pub returns : goal.returns
unfolding port_sec_rules
returns c = rw (c.in_ok-put_guarded_rules.ensures, c.in_ok-put_disabled_rules.ensures, c.as_slice.ensures) (simp (append_assoc, map-append))
