-- The edits that commands ask for, by their words.
use Rattle.std.specs.Prelude.{ℕ, List, [], drop, nat_lt, count_by, Option, Some, None, is_some, codes, Result, Ok, Err, if◌then◌else◌}
use Rattle.nv_base.specs.Block.{Block}
use Rattle.expr_core.specs.Formula.{Formula}
use Rattle.expr_core.specs.declared.typed.TypedAtom.{TypedAtom}
use Rattle.nb_records.specs.declared.acl.Way.{Way}
use Rattle.nb_records.specs.declared.edit.Edit.{Edit}
use Rattle.nb_records.specs.declared.edit.Edit.TheVariants as edit
use Rattle.nb_records.specs.declared.edit.OwnerKind.{OwnerKind}
use Rattle.nb_records.specs.declared.edit.OwnerKind.TheVariants as owner
use Rattle.nb_records.specs.declared.refusal.Refusal.{Refusal}
use Rattle.nb_records.specs.declared.refusal.Refusal.TheVariants.{WrongWords, NotInProfile}
use Rattle.nb_records.specs.declared.router.NatKind.{NatKind}
use Rattle.nb_records.specs.declared.router.RouteBy.{RouteBy}
use Rattle.nb_records.specs.declared.router.RouteBy.TheVariants.{Dst, Src}
use Rattle.nb_edit.specs.declared.verb.Verb.{Verb}
use Rattle.nb_edit.specs.declared.verb.Verb.TheVariants as verb
use Rattle.nb_read.specs.Then.{and_then}
use Rattle.nb_edit.specs.Call.{Call, number, text, is_there, at, maybe, from, stands, may_exist, if_exists}
use Rattle.nb_read.specs.Lists.{names, members, networks, addresses, guards, port_options, is_router_port}
use Rattle.nb_read.specs.Readings.{object_name, set_name, owner_name, way, verdict, proto, nat_kind, port_kind, state, mac, ip, network, nexthop, logical, vip, backends, priority, acl_match}

-- `--policy`: the address of a packet that a route looks at
abbrev pub policy : Call → Option RouteBy
policy call = if stands call (codes "--policy=dst-ip") then Some Dst else (if stands call (codes "--policy=src-ip") then Some Src else None)

-- `--type`: the kind of the owner of an ACL
abbrev pub owner_kind : Call → Option OwnerKind
owner_kind call = if stands call (codes "--type=switch") then Some owner.Switch else (if stands call (codes "--type=port-group") then Some owner.Group else None)

-- the option `router-port` stands once at most
abbrev pub router_port_once : Call → Result (Unit {0}) Refusal
router_port_once call = if nat_lt 1 (count_by is_router_port (drop 1 call.words)) then Err WrongWords else Ok tt

-- the words of distributed NAT are known to OVN, and not taken here
abbrev pub no_more : Call → ℕ → Result (Unit {0}) Refusal
no_more call place = if is_there call place then Err (NotInProfile (number call place)) else Ok tt

-- what a NAT rule of this kind changes; where there is no kind there is no such word
abbrev pub logical_of : Option NatKind → ℕ → List ℕ → Result Block Refusal
logical_of None word bytes = Err WrongWords
logical_of (Some kind) word bytes = logical kind word bytes

-- the priority and the match of an ACL that is to be removed, where they are given
abbrev pub rule : Call → Option Way → Result (Option (ℕ × Formula TypedAtom)) Refusal
rule call None = Ok None
rule call (Some w) = if is_there call 3 then and_then (at call 2 priority) (λ p. and_then (acl_match w (text call 3)) (λ m. Ok (Some (p, m)))) else Ok None

-- the edit that a command of this name asks for
abbrev pub edit_of : Verb → Call → Result Edit Refusal
edit_of verb.LsAdd call = and_then (at call 0 object_name) (λ name. Ok (edit.LsAdd name (may_exist call)))
edit_of verb.LrAdd call = and_then (at call 0 object_name) (λ name. Ok (edit.LrAdd name (may_exist call)))
edit_of verb.LsDel call = and_then (at call 0 object_name) (λ name. Ok (edit.LsDel name (if_exists call)))
edit_of verb.LrDel call = and_then (at call 0 object_name) (λ name. Ok (edit.LrDel name (if_exists call)))
edit_of verb.LspAdd call = and_then (at call 0 object_name) (λ switch. and_then (at call 1 object_name) (λ port. Ok (edit.LspAdd switch port (may_exist call))))
edit_of verb.LspDel call = and_then (at call 0 object_name) (λ port. Ok (edit.LspDel port (if_exists call)))
edit_of verb.LspSetAddresses call = and_then (at call 0 object_name) (λ port. and_then (from call 1 (addresses [])) (λ list. Ok (edit.LspSetAddresses port list)))
edit_of verb.LspSetPortSecurity call = and_then (at call 0 object_name) (λ port. and_then (from call 1 (guards [])) (λ list. Ok (edit.LspSetPortSecurity port list)))
edit_of verb.LspSetType call = and_then (at call 0 object_name) (λ port. and_then (at call 1 port_kind) (λ kind. Ok (edit.LspSetType port kind)))
edit_of verb.LspSetOptions call = and_then (router_port_once call) (λ once. and_then (at call 0 object_name) (λ port. and_then (from call 1 (port_options None)) (λ name. Ok (edit.LspSetOptions port name))))
edit_of verb.LspSetEnabled call = and_then (at call 0 object_name) (λ port. and_then (at call 1 state) (λ enabled. Ok (edit.LspSetEnabled port enabled)))
edit_of verb.LrpSetEnabled call = and_then (at call 0 object_name) (λ port. and_then (at call 1 state) (λ enabled. Ok (edit.LrpSetEnabled port enabled)))
edit_of verb.LrpAdd call = and_then (at call 0 object_name) (λ router. and_then (at call 1 object_name) (λ port. and_then (at call 2 mac) (λ m. and_then (from call 3 (networks [])) (λ nets. Ok (edit.LrpAdd router port m nets (may_exist call))))))
edit_of verb.LrpDel call = and_then (at call 0 object_name) (λ port. Ok (edit.LrpDel port (if_exists call)))
edit_of verb.LrRouteAdd call = and_then (at call 0 object_name) (λ router. and_then (at call 1 network) (λ net. and_then (at call 2 nexthop) (λ via. and_then (maybe call 3 object_name) (λ port. Ok (edit.LrRouteAdd router net via port (policy call))))))
edit_of verb.LrRouteDel call = and_then (at call 0 object_name) (λ router. and_then (maybe call 1 network) (λ net. Ok (edit.LrRouteDel router net (if_exists call) (policy call))))
edit_of verb.LrNatAdd call = and_then (at call 0 object_name) (λ router. and_then (at call 1 nat_kind) (λ kind. and_then (at call 2 ip) (λ external. and_then (at call 3 (logical kind)) (λ inner. and_then (no_more call 4) (λ none. Ok (edit.LrNatAdd router kind external inner))))))
edit_of verb.LrNatDel call = and_then (at call 0 object_name) (λ router. and_then (maybe call 1 nat_kind) (λ kind. and_then (maybe call 2 (logical_of kind)) (λ addr. Ok (edit.LrNatDel router kind addr (if_exists call)))))
edit_of verb.LbAdd call = and_then (at call 0 object_name) (λ lb. and_then (at call 1 vip) (λ front. and_then (at call 2 (backends (is_some front.port))) (λ list. and_then (maybe call 3 proto) (λ p. Ok (edit.LbAdd lb front list p)))))
edit_of verb.LbDel call = and_then (at call 0 object_name) (λ lb. and_then (maybe call 1 vip) (λ front. Ok (edit.LbDel lb front (if_exists call))))
edit_of verb.LsLbAdd call = and_then (at call 0 object_name) (λ switch. and_then (at call 1 object_name) (λ lb. Ok (edit.LsLbAdd switch lb (may_exist call))))
edit_of verb.LrLbAdd call = and_then (at call 0 object_name) (λ router. and_then (at call 1 object_name) (λ lb. Ok (edit.LrLbAdd router lb (may_exist call))))
edit_of verb.LsLbDel call = and_then (at call 0 object_name) (λ switch. and_then (maybe call 1 object_name) (λ lb. Ok (edit.LsLbDel switch lb (if_exists call))))
edit_of verb.LrLbDel call = and_then (at call 0 object_name) (λ router. and_then (maybe call 1 object_name) (λ lb. Ok (edit.LrLbDel router lb (if_exists call))))
edit_of verb.AclAdd call = and_then (at call 0 (owner_name (owner_kind call))) (λ owner. and_then (at call 1 way) (λ w. and_then (at call 2 priority) (λ p. and_then (acl_match w (text call 3)) (λ m. and_then (at call 4 verdict) (λ v. Ok (edit.AclAdd owner w p m v (may_exist call) (owner_kind call)))))))
edit_of verb.AclDel call = and_then (at call 0 (owner_name (owner_kind call))) (λ owner. and_then (maybe call 1 way) (λ w. and_then (rule call w) (λ r. Ok (edit.AclDel owner w r (owner_kind call)))))
edit_of verb.PgAdd call = and_then (at call 0 set_name) (λ name. and_then (from call 1 (names [])) (λ ports. Ok (edit.PgAdd name ports)))
edit_of verb.PgSetPorts call = and_then (at call 0 set_name) (λ name. and_then (from call 1 (names [])) (λ ports. Ok (edit.PgSetPorts name ports)))
edit_of verb.PgDel call = and_then (at call 0 set_name) (λ name. Ok (edit.PgDel name (if_exists call)))
edit_of verb.AsAdd call = and_then (at call 0 set_name) (λ name. and_then (from call 1 (members [])) (λ list. Ok (edit.AsAdd name list)))
edit_of verb.AsSet call = and_then (at call 0 set_name) (λ name. and_then (from call 1 (members [])) (λ list. Ok (edit.AsSet name list)))
edit_of verb.AsDel call = and_then (at call 0 set_name) (λ name. Ok (edit.AsDel name (if_exists call)))
edit_of verb.SmbAdd call = and_then (at call 0 object_name) (λ port. and_then (at call 1 ip) (λ addr. and_then (at call 2 mac) (λ m. Ok (edit.SmbAdd port addr m))))
edit_of verb.SmbDel call = and_then (at call 0 object_name) (λ port. and_then (at call 1 ip) (λ addr. Ok (edit.SmbDel port addr (if_exists call))))
