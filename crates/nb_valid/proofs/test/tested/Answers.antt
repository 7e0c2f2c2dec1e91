-- Each arm asks the tests of its edit.
use Rattle.nb_valid.proofs.test.tested.Goals as goal

pub returns-in-LsAdd-clause-ok : goal.returns-in-LsAdd-clause-ok
returns-in-LsAdd-clause-ok c = c.refused.ensures.ok c.args.records.now c.args.edit (rw c.in-LsAdd.is c.test_ls_add.ensures.ok)

pub returns-in-LsAdd-clause-refused : goal.returns-in-LsAdd-clause-refused
returns-in-LsAdd-clause-refused c = c.refused.ensures.refused c.args.records.now c.args.edit (rw c.in-LsAdd.is c.test_ls_add.ensures.refused)

pub returns-in-LrAdd-clause-ok : goal.returns-in-LrAdd-clause-ok
returns-in-LrAdd-clause-ok c = c.refused-in-LrAdd.ensures.ok c.args.records.now c.args.edit (rw c.in-LrAdd.is c.test_lr_add.ensures.ok)

pub returns-in-LrAdd-clause-refused : goal.returns-in-LrAdd-clause-refused
returns-in-LrAdd-clause-refused c = c.refused-in-LrAdd.ensures.refused c.args.records.now c.args.edit (rw c.in-LrAdd.is c.test_lr_add.ensures.refused)

pub returns-in-LsDel-clause-ok : goal.returns-in-LsDel-clause-ok
returns-in-LsDel-clause-ok c = c.refused-in-LsDel.ensures.ok c.args.records.now c.args.edit (rw c.in-LsDel.is c.test_ls_del.ensures.ok)

pub returns-in-LsDel-clause-refused : goal.returns-in-LsDel-clause-refused
returns-in-LsDel-clause-refused c = c.refused-in-LsDel.ensures.refused c.args.records.now c.args.edit (rw c.in-LsDel.is c.test_ls_del.ensures.refused)

pub returns-in-LrDel-clause-ok : goal.returns-in-LrDel-clause-ok
returns-in-LrDel-clause-ok c = c.refused-in-LrDel.ensures.ok c.args.records.now c.args.edit (rw c.in-LrDel.is c.test_lr_del.ensures.ok)

pub returns-in-LrDel-clause-refused : goal.returns-in-LrDel-clause-refused
returns-in-LrDel-clause-refused c = c.refused-in-LrDel.ensures.refused c.args.records.now c.args.edit (rw c.in-LrDel.is c.test_lr_del.ensures.refused)

pub returns-in-LspAdd-clause-ok : goal.returns-in-LspAdd-clause-ok
returns-in-LspAdd-clause-ok c = c.refused-in-LspAdd.ensures.ok c.args.records.now c.args.edit (rw c.in-LspAdd.is c.test_lsp_add.ensures.ok)

pub returns-in-LspAdd-clause-refused : goal.returns-in-LspAdd-clause-refused
returns-in-LspAdd-clause-refused c = c.refused-in-LspAdd.ensures.refused c.args.records.now c.args.edit (rw c.in-LspAdd.is c.test_lsp_add.ensures.refused)

pub returns-in-LspDel-clause-ok : goal.returns-in-LspDel-clause-ok
returns-in-LspDel-clause-ok c = c.refused-in-LspDel.ensures.ok c.args.records.now c.args.edit (rw c.in-LspDel.is c.test_lsp_del.ensures.ok)

pub returns-in-LspDel-clause-refused : goal.returns-in-LspDel-clause-refused
returns-in-LspDel-clause-refused c = c.refused-in-LspDel.ensures.refused c.args.records.now c.args.edit (rw c.in-LspDel.is c.test_lsp_del.ensures.refused)

pub returns-in-LspSetAddresses-clause-ok : goal.returns-in-LspSetAddresses-clause-ok
returns-in-LspSetAddresses-clause-ok c = c.refused-in-LspSetAddresses.ensures.ok c.args.records.now c.args.edit (rw c.in-LspSetAddresses.is c.test_lsp_set_addresses.ensures.ok)

pub returns-in-LspSetAddresses-clause-refused : goal.returns-in-LspSetAddresses-clause-refused
returns-in-LspSetAddresses-clause-refused c = c.refused-in-LspSetAddresses.ensures.refused c.args.records.now c.args.edit (rw c.in-LspSetAddresses.is c.test_lsp_set_addresses.ensures.refused)

pub returns-in-LspSetPortSecurity-clause-ok : goal.returns-in-LspSetPortSecurity-clause-ok
returns-in-LspSetPortSecurity-clause-ok c = c.refused-in-LspSetPortSecurity.ensures.ok c.args.records.now c.args.edit (rw c.in-LspSetPortSecurity.is c.test_lsp_set_port_security.ensures.ok)

pub returns-in-LspSetPortSecurity-clause-refused : goal.returns-in-LspSetPortSecurity-clause-refused
returns-in-LspSetPortSecurity-clause-refused c = c.refused-in-LspSetPortSecurity.ensures.refused c.args.records.now c.args.edit (rw c.in-LspSetPortSecurity.is c.test_lsp_set_port_security.ensures.refused)

pub returns-in-LspSetType-clause-ok : goal.returns-in-LspSetType-clause-ok
returns-in-LspSetType-clause-ok c = c.refused-in-LspSetType.ensures.ok c.args.records.now c.args.edit (rw c.in-LspSetType.is c.test_lsp_set_type.ensures.ok)

pub returns-in-LspSetType-clause-refused : goal.returns-in-LspSetType-clause-refused
returns-in-LspSetType-clause-refused c = c.refused-in-LspSetType.ensures.refused c.args.records.now c.args.edit (rw c.in-LspSetType.is c.test_lsp_set_type.ensures.refused)

pub returns-in-LspSetOptions-clause-ok : goal.returns-in-LspSetOptions-clause-ok
returns-in-LspSetOptions-clause-ok c = c.refused-in-LspSetOptions.ensures.ok c.args.records.now c.args.edit (rw c.in-LspSetOptions.is c.test_lsp_set_options.ensures.ok)

pub returns-in-LspSetOptions-clause-refused : goal.returns-in-LspSetOptions-clause-refused
returns-in-LspSetOptions-clause-refused c = c.refused-in-LspSetOptions.ensures.refused c.args.records.now c.args.edit (rw c.in-LspSetOptions.is c.test_lsp_set_options.ensures.refused)

pub returns-in-LspSetEnabled-clause-ok : goal.returns-in-LspSetEnabled-clause-ok
returns-in-LspSetEnabled-clause-ok c = c.refused-in-LspSetEnabled.ensures.ok c.args.records.now c.args.edit (rw c.in-LspSetEnabled.is c.test_lsp_set_enabled.ensures.ok)

pub returns-in-LspSetEnabled-clause-refused : goal.returns-in-LspSetEnabled-clause-refused
returns-in-LspSetEnabled-clause-refused c = c.refused-in-LspSetEnabled.ensures.refused c.args.records.now c.args.edit (rw c.in-LspSetEnabled.is c.test_lsp_set_enabled.ensures.refused)

pub returns-in-LrpSetEnabled-clause-ok : goal.returns-in-LrpSetEnabled-clause-ok
returns-in-LrpSetEnabled-clause-ok c = c.refused-in-LrpSetEnabled.ensures.ok c.args.records.now c.args.edit (rw c.in-LrpSetEnabled.is c.test_lrp_set_enabled.ensures.ok)

pub returns-in-LrpSetEnabled-clause-refused : goal.returns-in-LrpSetEnabled-clause-refused
returns-in-LrpSetEnabled-clause-refused c = c.refused-in-LrpSetEnabled.ensures.refused c.args.records.now c.args.edit (rw c.in-LrpSetEnabled.is c.test_lrp_set_enabled.ensures.refused)

pub returns-in-LrpAdd-clause-ok : goal.returns-in-LrpAdd-clause-ok
returns-in-LrpAdd-clause-ok c = c.refused-in-LrpAdd.ensures.ok c.args.records.now c.args.edit (rw c.in-LrpAdd.is c.test_lrp_add.ensures.ok)

pub returns-in-LrpAdd-clause-refused : goal.returns-in-LrpAdd-clause-refused
returns-in-LrpAdd-clause-refused c = c.refused-in-LrpAdd.ensures.refused c.args.records.now c.args.edit (rw c.in-LrpAdd.is c.test_lrp_add.ensures.refused)

pub returns-in-LrpDel-clause-ok : goal.returns-in-LrpDel-clause-ok
returns-in-LrpDel-clause-ok c = c.refused-in-LrpDel.ensures.ok c.args.records.now c.args.edit (rw c.in-LrpDel.is c.test_lrp_del.ensures.ok)

pub returns-in-LrpDel-clause-refused : goal.returns-in-LrpDel-clause-refused
returns-in-LrpDel-clause-refused c = c.refused-in-LrpDel.ensures.refused c.args.records.now c.args.edit (rw c.in-LrpDel.is c.test_lrp_del.ensures.refused)

pub returns-in-LrRouteAdd-clause-ok : goal.returns-in-LrRouteAdd-clause-ok
returns-in-LrRouteAdd-clause-ok c = c.refused-in-LrRouteAdd.ensures.ok c.args.records.now c.args.edit (rw c.in-LrRouteAdd.is c.test_lr_route_add.ensures.ok)

pub returns-in-LrRouteAdd-clause-refused : goal.returns-in-LrRouteAdd-clause-refused
returns-in-LrRouteAdd-clause-refused c = c.refused-in-LrRouteAdd.ensures.refused c.args.records.now c.args.edit (rw c.in-LrRouteAdd.is c.test_lr_route_add.ensures.refused)

pub returns-in-LrRouteDel-clause-ok : goal.returns-in-LrRouteDel-clause-ok
returns-in-LrRouteDel-clause-ok c = c.refused-in-LrRouteDel.ensures.ok c.args.records.now c.args.edit (rw c.in-LrRouteDel.is c.test_lr_route_del.ensures.ok)

pub returns-in-LrRouteDel-clause-refused : goal.returns-in-LrRouteDel-clause-refused
returns-in-LrRouteDel-clause-refused c = c.refused-in-LrRouteDel.ensures.refused c.args.records.now c.args.edit (rw c.in-LrRouteDel.is c.test_lr_route_del.ensures.refused)

pub returns-in-LrNatAdd-clause-ok : goal.returns-in-LrNatAdd-clause-ok
returns-in-LrNatAdd-clause-ok c = c.refused-in-LrNatAdd.ensures.ok c.args.records.now c.args.edit (rw c.in-LrNatAdd.is c.test_lr_nat_add.ensures.ok)

pub returns-in-LrNatAdd-clause-refused : goal.returns-in-LrNatAdd-clause-refused
returns-in-LrNatAdd-clause-refused c = c.refused-in-LrNatAdd.ensures.refused c.args.records.now c.args.edit (rw c.in-LrNatAdd.is c.test_lr_nat_add.ensures.refused)

pub returns-in-LrNatDel-clause-ok : goal.returns-in-LrNatDel-clause-ok
returns-in-LrNatDel-clause-ok c = c.refused-in-LrNatDel.ensures.ok c.args.records.now c.args.edit (rw c.in-LrNatDel.is c.test_lr_nat_del.ensures.ok)

pub returns-in-LrNatDel-clause-refused : goal.returns-in-LrNatDel-clause-refused
returns-in-LrNatDel-clause-refused c = c.refused-in-LrNatDel.ensures.refused c.args.records.now c.args.edit (rw c.in-LrNatDel.is c.test_lr_nat_del.ensures.refused)

pub returns-in-LbAdd-clause-ok : goal.returns-in-LbAdd-clause-ok
returns-in-LbAdd-clause-ok c = c.refused-in-LbAdd.ensures.ok c.args.records.now c.args.edit (rw c.in-LbAdd.is c.test_lb_add.ensures.ok)

pub returns-in-LbAdd-clause-refused : goal.returns-in-LbAdd-clause-refused
returns-in-LbAdd-clause-refused c = c.refused-in-LbAdd.ensures.refused c.args.records.now c.args.edit (rw c.in-LbAdd.is c.test_lb_add.ensures.refused)

pub returns-in-LbDel-clause-ok : goal.returns-in-LbDel-clause-ok
returns-in-LbDel-clause-ok c = c.refused-in-LbDel.ensures.ok c.args.records.now c.args.edit (rw c.in-LbDel.is c.test_lb_del.ensures.ok)

pub returns-in-LbDel-clause-refused : goal.returns-in-LbDel-clause-refused
returns-in-LbDel-clause-refused c = c.refused-in-LbDel.ensures.refused c.args.records.now c.args.edit (rw c.in-LbDel.is c.test_lb_del.ensures.refused)

pub returns-in-LsLbAdd-clause-ok : goal.returns-in-LsLbAdd-clause-ok
returns-in-LsLbAdd-clause-ok c = c.refused-in-LsLbAdd.ensures.ok c.args.records.now c.args.edit (rw c.in-LsLbAdd.is c.test_ls_lb_add.ensures.ok)

pub returns-in-LsLbAdd-clause-refused : goal.returns-in-LsLbAdd-clause-refused
returns-in-LsLbAdd-clause-refused c = c.refused-in-LsLbAdd.ensures.refused c.args.records.now c.args.edit (rw c.in-LsLbAdd.is c.test_ls_lb_add.ensures.refused)

pub returns-in-LrLbAdd-clause-ok : goal.returns-in-LrLbAdd-clause-ok
returns-in-LrLbAdd-clause-ok c = c.refused-in-LrLbAdd.ensures.ok c.args.records.now c.args.edit (rw c.in-LrLbAdd.is c.test_lr_lb_add.ensures.ok)

pub returns-in-LrLbAdd-clause-refused : goal.returns-in-LrLbAdd-clause-refused
returns-in-LrLbAdd-clause-refused c = c.refused-in-LrLbAdd.ensures.refused c.args.records.now c.args.edit (rw c.in-LrLbAdd.is c.test_lr_lb_add.ensures.refused)

pub returns-in-LsLbDel-clause-ok : goal.returns-in-LsLbDel-clause-ok
returns-in-LsLbDel-clause-ok c = c.refused-in-LsLbDel.ensures.ok c.args.records.now c.args.edit (rw c.in-LsLbDel.is c.test_ls_lb_del.ensures.ok)

pub returns-in-LsLbDel-clause-refused : goal.returns-in-LsLbDel-clause-refused
returns-in-LsLbDel-clause-refused c = c.refused-in-LsLbDel.ensures.refused c.args.records.now c.args.edit (rw c.in-LsLbDel.is c.test_ls_lb_del.ensures.refused)

pub returns-in-LrLbDel-clause-ok : goal.returns-in-LrLbDel-clause-ok
returns-in-LrLbDel-clause-ok c = c.refused-in-LrLbDel.ensures.ok c.args.records.now c.args.edit (rw c.in-LrLbDel.is c.test_lr_lb_del.ensures.ok)

pub returns-in-LrLbDel-clause-refused : goal.returns-in-LrLbDel-clause-refused
returns-in-LrLbDel-clause-refused c = c.refused-in-LrLbDel.ensures.refused c.args.records.now c.args.edit (rw c.in-LrLbDel.is c.test_lr_lb_del.ensures.refused)

pub returns-in-AclAdd-clause-ok : goal.returns-in-AclAdd-clause-ok
returns-in-AclAdd-clause-ok c = c.refused-in-AclAdd.ensures.ok c.args.records.now c.args.edit (rw c.in-AclAdd.is c.test_acl_add.ensures.ok)

pub returns-in-AclAdd-clause-refused : goal.returns-in-AclAdd-clause-refused
returns-in-AclAdd-clause-refused c = c.refused-in-AclAdd.ensures.refused c.args.records.now c.args.edit (rw c.in-AclAdd.is c.test_acl_add.ensures.refused)

pub returns-in-AclDel-clause-ok : goal.returns-in-AclDel-clause-ok
returns-in-AclDel-clause-ok c = c.refused-in-AclDel.ensures.ok c.args.records.now c.args.edit (rw c.in-AclDel.is c.test_acl_del.ensures.ok)

pub returns-in-AclDel-clause-refused : goal.returns-in-AclDel-clause-refused
returns-in-AclDel-clause-refused c = c.refused-in-AclDel.ensures.refused c.args.records.now c.args.edit (rw c.in-AclDel.is c.test_acl_del.ensures.refused)

pub returns-in-PgDel-clause-ok : goal.returns-in-PgDel-clause-ok
returns-in-PgDel-clause-ok c = c.refused-in-PgDel.ensures.ok c.args.records.now c.args.edit (rw c.in-PgDel.is c.test_pg_del.ensures.ok)

pub returns-in-PgDel-clause-refused : goal.returns-in-PgDel-clause-refused
returns-in-PgDel-clause-refused c = c.refused-in-PgDel.ensures.refused c.args.records.now c.args.edit (rw c.in-PgDel.is c.test_pg_del.ensures.refused)

pub returns-in-AsAdd-clause-ok : goal.returns-in-AsAdd-clause-ok
returns-in-AsAdd-clause-ok c = c.refused-in-AsAdd.ensures.ok c.args.records.now c.args.edit (rw c.in-AsAdd.is c.test_as_add.ensures.ok)

pub returns-in-AsAdd-clause-refused : goal.returns-in-AsAdd-clause-refused
returns-in-AsAdd-clause-refused c = c.refused-in-AsAdd.ensures.refused c.args.records.now c.args.edit (rw c.in-AsAdd.is c.test_as_add.ensures.refused)

pub returns-in-AsSet-clause-ok : goal.returns-in-AsSet-clause-ok
returns-in-AsSet-clause-ok c = c.refused-in-AsSet.ensures.ok c.args.records.now c.args.edit (rw c.in-AsSet.is c.test_as_set.ensures.ok)

pub returns-in-AsSet-clause-refused : goal.returns-in-AsSet-clause-refused
returns-in-AsSet-clause-refused c = c.refused-in-AsSet.ensures.refused c.args.records.now c.args.edit (rw c.in-AsSet.is c.test_as_set.ensures.refused)

pub returns-in-AsDel-clause-ok : goal.returns-in-AsDel-clause-ok
returns-in-AsDel-clause-ok c = c.refused-in-AsDel.ensures.ok c.args.records.now c.args.edit (rw c.in-AsDel.is c.test_as_del.ensures.ok)

pub returns-in-AsDel-clause-refused : goal.returns-in-AsDel-clause-refused
returns-in-AsDel-clause-refused c = c.refused-in-AsDel.ensures.refused c.args.records.now c.args.edit (rw c.in-AsDel.is c.test_as_del.ensures.refused)

pub returns-in-SmbAdd-clause-ok : goal.returns-in-SmbAdd-clause-ok
returns-in-SmbAdd-clause-ok c = c.refused-in-SmbAdd.ensures.ok c.args.records.now c.args.edit (rw c.in-SmbAdd.is c.test_smb_add.ensures.ok)

pub returns-in-SmbAdd-clause-refused : goal.returns-in-SmbAdd-clause-refused
returns-in-SmbAdd-clause-refused c = c.refused-in-SmbAdd.ensures.refused c.args.records.now c.args.edit (rw c.in-SmbAdd.is c.test_smb_add.ensures.refused)

pub returns-in-SmbDel-clause-ok : goal.returns-in-SmbDel-clause-ok
returns-in-SmbDel-clause-ok c = c.refused-in-SmbDel.ensures.ok c.args.records.now c.args.edit (rw c.in-SmbDel.is c.test_smb_del.ensures.ok)

pub returns-in-SmbDel-clause-refused : goal.returns-in-SmbDel-clause-refused
returns-in-SmbDel-clause-refused c = c.refused-in-SmbDel.ensures.refused c.args.records.now c.args.edit (rw c.in-SmbDel.is c.test_smb_del.ensures.refused)
