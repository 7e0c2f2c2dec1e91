-- Each arm does its edit.
use Rattle.nb_change.proofs.edits.run.Goals as goal

pub returns-in-LsAdd-clause-ok : goal.returns-in-LsAdd-clause-ok
returns-in-LsAdd-clause-ok c = rw c.in-LsAdd.is c.ls_add.ensures.ok

pub returns-in-LrAdd-clause-ok : goal.returns-in-LrAdd-clause-ok
returns-in-LrAdd-clause-ok c = rw c.in-LrAdd.is c.lr_add.ensures.ok

pub returns-in-LsDel-clause-ok : goal.returns-in-LsDel-clause-ok
returns-in-LsDel-clause-ok c = rw c.in-LsDel.is c.ls_del.ensures.ok

pub returns-in-LrDel-clause-ok : goal.returns-in-LrDel-clause-ok
returns-in-LrDel-clause-ok c = rw c.in-LrDel.is c.lr_del.ensures.ok

pub returns-in-LspAdd-clause-ok : goal.returns-in-LspAdd-clause-ok
returns-in-LspAdd-clause-ok c = rw c.in-LspAdd.is c.lsp_add.ensures.ok

pub returns-in-LspDel-clause-ok : goal.returns-in-LspDel-clause-ok
returns-in-LspDel-clause-ok c = rw c.in-LspDel.is c.lsp_del.ensures.ok

pub returns-in-LspSetAddresses-clause-ok : goal.returns-in-LspSetAddresses-clause-ok
returns-in-LspSetAddresses-clause-ok c = rw c.in-LspSetAddresses.is c.lsp_set.ensures.ok

pub returns-in-LspSetPortSecurity-clause-ok : goal.returns-in-LspSetPortSecurity-clause-ok
returns-in-LspSetPortSecurity-clause-ok c = rw c.in-LspSetPortSecurity.is c.lsp_set-in-LspSetPortSecurity.ensures.ok

pub returns-in-LspSetType-clause-ok : goal.returns-in-LspSetType-clause-ok
returns-in-LspSetType-clause-ok c = rw c.in-LspSetType.is c.lsp_set-in-LspSetType.ensures.ok

pub returns-in-LspSetOptions-clause-ok : goal.returns-in-LspSetOptions-clause-ok
returns-in-LspSetOptions-clause-ok c = rw c.in-LspSetOptions.is c.lsp_set-in-LspSetOptions.ensures.ok

pub returns-in-LspSetEnabled-clause-ok : goal.returns-in-LspSetEnabled-clause-ok
returns-in-LspSetEnabled-clause-ok c = rw c.in-LspSetEnabled.is c.lsp_set-in-LspSetEnabled.ensures.ok

pub returns-in-LrpSetEnabled-clause-ok : goal.returns-in-LrpSetEnabled-clause-ok
returns-in-LrpSetEnabled-clause-ok c = rw c.in-LrpSetEnabled.is c.lrp_set_enabled.ensures.ok

pub returns-in-LrpAdd-clause-ok : goal.returns-in-LrpAdd-clause-ok
returns-in-LrpAdd-clause-ok c = rw c.in-LrpAdd.is c.lrp_add.ensures.ok

pub returns-in-LrpDel-clause-ok : goal.returns-in-LrpDel-clause-ok
returns-in-LrpDel-clause-ok c = rw c.in-LrpDel.is c.lrp_del.ensures.ok

pub returns-in-LrRouteAdd-clause-ok : goal.returns-in-LrRouteAdd-clause-ok
returns-in-LrRouteAdd-clause-ok c = rw c.in-LrRouteAdd.is c.lr_route_add.ensures.ok

pub returns-in-LrRouteDel-clause-ok : goal.returns-in-LrRouteDel-clause-ok
returns-in-LrRouteDel-clause-ok c = rw c.in-LrRouteDel.is c.lr_route_del.ensures.ok

pub returns-in-LrNatAdd-clause-ok : goal.returns-in-LrNatAdd-clause-ok
returns-in-LrNatAdd-clause-ok c = rw c.in-LrNatAdd.is c.lr_nat_add.ensures.ok

pub returns-in-LrNatDel-clause-ok : goal.returns-in-LrNatDel-clause-ok
returns-in-LrNatDel-clause-ok c = rw c.in-LrNatDel.is c.lr_nat_del.ensures.ok

pub returns-in-LbAdd-clause-ok : goal.returns-in-LbAdd-clause-ok
returns-in-LbAdd-clause-ok c = rw c.in-LbAdd.is c.lb_add.ensures.ok

pub returns-in-LbDel-clause-ok : goal.returns-in-LbDel-clause-ok
returns-in-LbDel-clause-ok c = rw c.in-LbDel.is c.lb_del.ensures.ok

pub returns-in-LsLbAdd-clause-ok : goal.returns-in-LsLbAdd-clause-ok
returns-in-LsLbAdd-clause-ok c = rw c.in-LsLbAdd.is c.ls_lb_add.ensures.ok

pub returns-in-LrLbAdd-clause-ok : goal.returns-in-LrLbAdd-clause-ok
returns-in-LrLbAdd-clause-ok c = rw c.in-LrLbAdd.is c.lr_lb_add.ensures.ok

pub returns-in-LsLbDel-clause-ok : goal.returns-in-LsLbDel-clause-ok
returns-in-LsLbDel-clause-ok c = rw c.in-LsLbDel.is c.ls_lb_del.ensures.ok

pub returns-in-LrLbDel-clause-ok : goal.returns-in-LrLbDel-clause-ok
returns-in-LrLbDel-clause-ok c = rw c.in-LrLbDel.is c.lr_lb_del.ensures.ok

pub returns-in-AclAdd-clause-ok : goal.returns-in-AclAdd-clause-ok
returns-in-AclAdd-clause-ok c = rw c.in-AclAdd.is c.acl_add.ensures.ok

pub returns-in-AclDel-clause-ok : goal.returns-in-AclDel-clause-ok
returns-in-AclDel-clause-ok c = rw c.in-AclDel.is c.acl_del.ensures.ok

pub returns-in-PgAdd-clause-ok : goal.returns-in-PgAdd-clause-ok
returns-in-PgAdd-clause-ok c = rw c.in-PgAdd.is c.pg_add.ensures.ok

pub returns-in-PgSetPorts-clause-ok : goal.returns-in-PgSetPorts-clause-ok
returns-in-PgSetPorts-clause-ok c = rw c.in-PgSetPorts.is c.pg_set_ports.ensures.ok

pub returns-in-PgDel-clause-ok : goal.returns-in-PgDel-clause-ok
returns-in-PgDel-clause-ok c = rw c.in-PgDel.is c.pg_del.ensures.ok

pub returns-in-AsAdd-clause-ok : goal.returns-in-AsAdd-clause-ok
returns-in-AsAdd-clause-ok c = rw c.in-AsAdd.is c.as_add.ensures.ok

pub returns-in-AsSet-clause-ok : goal.returns-in-AsSet-clause-ok
returns-in-AsSet-clause-ok c = rw c.in-AsSet.is c.as_set.ensures.ok

pub returns-in-AsDel-clause-ok : goal.returns-in-AsDel-clause-ok
returns-in-AsDel-clause-ok c = rw c.in-AsDel.is c.as_del.ensures.ok

pub returns-in-SmbAdd-clause-ok : goal.returns-in-SmbAdd-clause-ok
returns-in-SmbAdd-clause-ok c = rw c.in-SmbAdd.is c.smb_add.ensures.ok

pub returns-in-SmbDel-clause-ok : goal.returns-in-SmbDel-clause-ok
returns-in-SmbDel-clause-ok c = rw c.in-SmbDel.is c.smb_del.ensures.ok
