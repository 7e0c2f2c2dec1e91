-- Each arm is the reader of its command.
use Rattle.nb_edit.proofs.edit.edit_of.Goals as goal

pub returns-in-LsAdd-clause-read : goal.returns-in-LsAdd-clause-read
returns-in-LsAdd-clause-read c = rw c.in-LsAdd.is c.ls_add.ensures.read

pub returns-in-LsAdd-clause-refused : goal.returns-in-LsAdd-clause-refused
returns-in-LsAdd-clause-refused c = rw c.in-LsAdd.is c.ls_add.ensures.refused

pub returns-in-LrAdd-clause-read : goal.returns-in-LrAdd-clause-read
returns-in-LrAdd-clause-read c = rw c.in-LrAdd.is c.lr_add.ensures.read

pub returns-in-LrAdd-clause-refused : goal.returns-in-LrAdd-clause-refused
returns-in-LrAdd-clause-refused c = rw c.in-LrAdd.is c.lr_add.ensures.refused

pub returns-in-LsDel-clause-read : goal.returns-in-LsDel-clause-read
returns-in-LsDel-clause-read c = rw c.in-LsDel.is c.ls_del.ensures.read

pub returns-in-LsDel-clause-refused : goal.returns-in-LsDel-clause-refused
returns-in-LsDel-clause-refused c = rw c.in-LsDel.is c.ls_del.ensures.refused

pub returns-in-LrDel-clause-read : goal.returns-in-LrDel-clause-read
returns-in-LrDel-clause-read c = rw c.in-LrDel.is c.lr_del.ensures.read

pub returns-in-LrDel-clause-refused : goal.returns-in-LrDel-clause-refused
returns-in-LrDel-clause-refused c = rw c.in-LrDel.is c.lr_del.ensures.refused

pub returns-in-LspAdd-clause-read : goal.returns-in-LspAdd-clause-read
returns-in-LspAdd-clause-read c = rw c.in-LspAdd.is c.lsp_add.ensures.read

pub returns-in-LspAdd-clause-refused : goal.returns-in-LspAdd-clause-refused
returns-in-LspAdd-clause-refused c = rw c.in-LspAdd.is c.lsp_add.ensures.refused

pub returns-in-LspDel-clause-read : goal.returns-in-LspDel-clause-read
returns-in-LspDel-clause-read c = rw c.in-LspDel.is c.lsp_del.ensures.read

pub returns-in-LspDel-clause-refused : goal.returns-in-LspDel-clause-refused
returns-in-LspDel-clause-refused c = rw c.in-LspDel.is c.lsp_del.ensures.refused

pub returns-in-LspSetAddresses-clause-read : goal.returns-in-LspSetAddresses-clause-read
returns-in-LspSetAddresses-clause-read c = rw c.in-LspSetAddresses.is c.lsp_set_addresses.ensures.read

pub returns-in-LspSetAddresses-clause-refused : goal.returns-in-LspSetAddresses-clause-refused
returns-in-LspSetAddresses-clause-refused c = rw c.in-LspSetAddresses.is c.lsp_set_addresses.ensures.refused

pub returns-in-LspSetPortSecurity-clause-read : goal.returns-in-LspSetPortSecurity-clause-read
returns-in-LspSetPortSecurity-clause-read c = rw c.in-LspSetPortSecurity.is c.lsp_set_port_security.ensures.read

pub returns-in-LspSetPortSecurity-clause-refused : goal.returns-in-LspSetPortSecurity-clause-refused
returns-in-LspSetPortSecurity-clause-refused c = rw c.in-LspSetPortSecurity.is c.lsp_set_port_security.ensures.refused

pub returns-in-LspSetType-clause-read : goal.returns-in-LspSetType-clause-read
returns-in-LspSetType-clause-read c = rw c.in-LspSetType.is c.lsp_set_type.ensures.read

pub returns-in-LspSetType-clause-refused : goal.returns-in-LspSetType-clause-refused
returns-in-LspSetType-clause-refused c = rw c.in-LspSetType.is c.lsp_set_type.ensures.refused

pub returns-in-LspSetOptions-clause-read : goal.returns-in-LspSetOptions-clause-read
returns-in-LspSetOptions-clause-read c = rw c.in-LspSetOptions.is c.lsp_set_options.ensures.read

pub returns-in-LspSetOptions-clause-refused : goal.returns-in-LspSetOptions-clause-refused
returns-in-LspSetOptions-clause-refused c = rw c.in-LspSetOptions.is c.lsp_set_options.ensures.refused

pub returns-in-LspSetEnabled-clause-read : goal.returns-in-LspSetEnabled-clause-read
returns-in-LspSetEnabled-clause-read c = rw c.in-LspSetEnabled.is c.lsp_set_enabled.ensures.read

pub returns-in-LspSetEnabled-clause-refused : goal.returns-in-LspSetEnabled-clause-refused
returns-in-LspSetEnabled-clause-refused c = rw c.in-LspSetEnabled.is c.lsp_set_enabled.ensures.refused

pub returns-in-LrpSetEnabled-clause-read : goal.returns-in-LrpSetEnabled-clause-read
returns-in-LrpSetEnabled-clause-read c = rw c.in-LrpSetEnabled.is c.lrp_set_enabled.ensures.read

pub returns-in-LrpSetEnabled-clause-refused : goal.returns-in-LrpSetEnabled-clause-refused
returns-in-LrpSetEnabled-clause-refused c = rw c.in-LrpSetEnabled.is c.lrp_set_enabled.ensures.refused

pub returns-in-LrpAdd-clause-read : goal.returns-in-LrpAdd-clause-read
returns-in-LrpAdd-clause-read c = rw c.in-LrpAdd.is c.lrp_add.ensures.read

pub returns-in-LrpAdd-clause-refused : goal.returns-in-LrpAdd-clause-refused
returns-in-LrpAdd-clause-refused c = rw c.in-LrpAdd.is c.lrp_add.ensures.refused

pub returns-in-LrpDel-clause-read : goal.returns-in-LrpDel-clause-read
returns-in-LrpDel-clause-read c = rw c.in-LrpDel.is c.lrp_del.ensures.read

pub returns-in-LrpDel-clause-refused : goal.returns-in-LrpDel-clause-refused
returns-in-LrpDel-clause-refused c = rw c.in-LrpDel.is c.lrp_del.ensures.refused

pub returns-in-LrRouteAdd-clause-read : goal.returns-in-LrRouteAdd-clause-read
returns-in-LrRouteAdd-clause-read c = rw c.in-LrRouteAdd.is c.lr_route_add.ensures.read

pub returns-in-LrRouteAdd-clause-refused : goal.returns-in-LrRouteAdd-clause-refused
returns-in-LrRouteAdd-clause-refused c = rw c.in-LrRouteAdd.is c.lr_route_add.ensures.refused

pub returns-in-LrRouteDel-clause-read : goal.returns-in-LrRouteDel-clause-read
returns-in-LrRouteDel-clause-read c = rw c.in-LrRouteDel.is c.lr_route_del.ensures.read

pub returns-in-LrRouteDel-clause-refused : goal.returns-in-LrRouteDel-clause-refused
returns-in-LrRouteDel-clause-refused c = rw c.in-LrRouteDel.is c.lr_route_del.ensures.refused

pub returns-in-LrNatAdd-clause-read : goal.returns-in-LrNatAdd-clause-read
returns-in-LrNatAdd-clause-read c = rw c.in-LrNatAdd.is c.lr_nat_add.ensures.read

pub returns-in-LrNatAdd-clause-refused : goal.returns-in-LrNatAdd-clause-refused
returns-in-LrNatAdd-clause-refused c = rw c.in-LrNatAdd.is c.lr_nat_add.ensures.refused

pub returns-in-LrNatDel-clause-read : goal.returns-in-LrNatDel-clause-read
returns-in-LrNatDel-clause-read c = rw c.in-LrNatDel.is c.lr_nat_del.ensures.read

pub returns-in-LrNatDel-clause-refused : goal.returns-in-LrNatDel-clause-refused
returns-in-LrNatDel-clause-refused c = rw c.in-LrNatDel.is c.lr_nat_del.ensures.refused

pub returns-in-LbAdd-clause-read : goal.returns-in-LbAdd-clause-read
returns-in-LbAdd-clause-read c = rw c.in-LbAdd.is c.lb_add.ensures.read

pub returns-in-LbAdd-clause-refused : goal.returns-in-LbAdd-clause-refused
returns-in-LbAdd-clause-refused c = rw c.in-LbAdd.is c.lb_add.ensures.refused

pub returns-in-LbDel-clause-read : goal.returns-in-LbDel-clause-read
returns-in-LbDel-clause-read c = rw c.in-LbDel.is c.lb_del.ensures.read

pub returns-in-LbDel-clause-refused : goal.returns-in-LbDel-clause-refused
returns-in-LbDel-clause-refused c = rw c.in-LbDel.is c.lb_del.ensures.refused

pub returns-in-LsLbAdd-clause-read : goal.returns-in-LsLbAdd-clause-read
returns-in-LsLbAdd-clause-read c = rw c.in-LsLbAdd.is c.ls_lb_add.ensures.read

pub returns-in-LsLbAdd-clause-refused : goal.returns-in-LsLbAdd-clause-refused
returns-in-LsLbAdd-clause-refused c = rw c.in-LsLbAdd.is c.ls_lb_add.ensures.refused

pub returns-in-LrLbAdd-clause-read : goal.returns-in-LrLbAdd-clause-read
returns-in-LrLbAdd-clause-read c = rw c.in-LrLbAdd.is c.lr_lb_add.ensures.read

pub returns-in-LrLbAdd-clause-refused : goal.returns-in-LrLbAdd-clause-refused
returns-in-LrLbAdd-clause-refused c = rw c.in-LrLbAdd.is c.lr_lb_add.ensures.refused

pub returns-in-LsLbDel-clause-read : goal.returns-in-LsLbDel-clause-read
returns-in-LsLbDel-clause-read c = rw c.in-LsLbDel.is c.ls_lb_del.ensures.read

pub returns-in-LsLbDel-clause-refused : goal.returns-in-LsLbDel-clause-refused
returns-in-LsLbDel-clause-refused c = rw c.in-LsLbDel.is c.ls_lb_del.ensures.refused

pub returns-in-LrLbDel-clause-read : goal.returns-in-LrLbDel-clause-read
returns-in-LrLbDel-clause-read c = rw c.in-LrLbDel.is c.lr_lb_del.ensures.read

pub returns-in-LrLbDel-clause-refused : goal.returns-in-LrLbDel-clause-refused
returns-in-LrLbDel-clause-refused c = rw c.in-LrLbDel.is c.lr_lb_del.ensures.refused

pub returns-in-AclAdd-clause-read : goal.returns-in-AclAdd-clause-read
returns-in-AclAdd-clause-read c = rw c.in-AclAdd.is c.acl_add.ensures.read

pub returns-in-AclAdd-clause-refused : goal.returns-in-AclAdd-clause-refused
returns-in-AclAdd-clause-refused c = rw c.in-AclAdd.is c.acl_add.ensures.refused

pub returns-in-AclDel-clause-read : goal.returns-in-AclDel-clause-read
returns-in-AclDel-clause-read c = rw c.in-AclDel.is c.acl_del.ensures.read

pub returns-in-AclDel-clause-refused : goal.returns-in-AclDel-clause-refused
returns-in-AclDel-clause-refused c = rw c.in-AclDel.is c.acl_del.ensures.refused

pub returns-in-PgAdd-clause-read : goal.returns-in-PgAdd-clause-read
returns-in-PgAdd-clause-read c = rw c.in-PgAdd.is c.pg_add.ensures.read

pub returns-in-PgAdd-clause-refused : goal.returns-in-PgAdd-clause-refused
returns-in-PgAdd-clause-refused c = rw c.in-PgAdd.is c.pg_add.ensures.refused

pub returns-in-PgSetPorts-clause-read : goal.returns-in-PgSetPorts-clause-read
returns-in-PgSetPorts-clause-read c = rw c.in-PgSetPorts.is c.pg_set_ports.ensures.read

pub returns-in-PgSetPorts-clause-refused : goal.returns-in-PgSetPorts-clause-refused
returns-in-PgSetPorts-clause-refused c = rw c.in-PgSetPorts.is c.pg_set_ports.ensures.refused

pub returns-in-PgDel-clause-read : goal.returns-in-PgDel-clause-read
returns-in-PgDel-clause-read c = rw c.in-PgDel.is c.pg_del.ensures.read

pub returns-in-PgDel-clause-refused : goal.returns-in-PgDel-clause-refused
returns-in-PgDel-clause-refused c = rw c.in-PgDel.is c.pg_del.ensures.refused

pub returns-in-AsAdd-clause-read : goal.returns-in-AsAdd-clause-read
returns-in-AsAdd-clause-read c = rw c.in-AsAdd.is c.as_add.ensures.read

pub returns-in-AsAdd-clause-refused : goal.returns-in-AsAdd-clause-refused
returns-in-AsAdd-clause-refused c = rw c.in-AsAdd.is c.as_add.ensures.refused

pub returns-in-AsSet-clause-read : goal.returns-in-AsSet-clause-read
returns-in-AsSet-clause-read c = rw c.in-AsSet.is c.as_set.ensures.read

pub returns-in-AsSet-clause-refused : goal.returns-in-AsSet-clause-refused
returns-in-AsSet-clause-refused c = rw c.in-AsSet.is c.as_set.ensures.refused

pub returns-in-AsDel-clause-read : goal.returns-in-AsDel-clause-read
returns-in-AsDel-clause-read c = rw c.in-AsDel.is c.as_del.ensures.read

pub returns-in-AsDel-clause-refused : goal.returns-in-AsDel-clause-refused
returns-in-AsDel-clause-refused c = rw c.in-AsDel.is c.as_del.ensures.refused

pub returns-in-SmbAdd-clause-read : goal.returns-in-SmbAdd-clause-read
returns-in-SmbAdd-clause-read c = rw c.in-SmbAdd.is c.smb_add.ensures.read

pub returns-in-SmbAdd-clause-refused : goal.returns-in-SmbAdd-clause-refused
returns-in-SmbAdd-clause-refused c = rw c.in-SmbAdd.is c.smb_add.ensures.refused

pub returns-in-SmbDel-clause-read : goal.returns-in-SmbDel-clause-read
returns-in-SmbDel-clause-read c = rw c.in-SmbDel.is c.smb_del.ensures.read

pub returns-in-SmbDel-clause-refused : goal.returns-in-SmbDel-clause-refused
returns-in-SmbDel-clause-refused c = rw c.in-SmbDel.is c.smb_del.ensures.refused
