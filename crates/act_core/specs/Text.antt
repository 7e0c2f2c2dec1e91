-- How action lists are written.
use Rattle.std.specs.Prelude.{ℕ, Bool, List, [], ◌∷◌, ◌++◌, Option, Some, None, codes, decimal, if◌then◌else◌}
use Rattle.nv_base.specs.Ip4.{ip4_text}
use Rattle.nv_base.specs.Field.{field_name}
use Rattle.nv_base.specs.declared.field.Field.{Field}
use Rattle.expr_core.specs.Text.{const_text, bits_text, truth_text}
use Rattle.expr_core.specs.declared.part.Bits.{Bits}
use Rattle.act_core.specs.declared.action.Action.{Action}
use Rattle.act_core.specs.declared.action.Action.TheVariants as action
use Rattle.act_core.specs.declared.step.Target.{Target}
use Rattle.act_core.specs.declared.step.Step.{Step}
use Rattle.act_core.specs.declared.step.Step.TheVariants.{Next, Jump, Output, Drop, Set, Copy, SetOutport, Exchange, DecTtl, CtNext, CtLb, CtLbTo, CtCommit, CtSnat, CtSnatTo, CtDnat, CtDnatTo, PutArp, GetArp}

-- texts one after the other: the front before the first, and the separator before each other
abbrev pub joined : {A : Type 0} → (A → List ℕ) → List ℕ → List ℕ → List A → List ℕ
joined text front separator [] = []
joined text front separator (x ∷ xs) = front ++ text x ++ joined text separator separator xs

-- a part of a field: its name, and bits in brackets
abbrev pub part_text : Field → Bits → List ℕ
part_text field bits = field_name field ++ bits_text bits

abbrev pub pipeline_name : Bool → List ℕ
pipeline_name egress = if egress then codes "egress" else codes "ingress"

-- the port of a target, after `:`
abbrev pub port_text : Option ℕ → List ℕ
port_text None = []
port_text (Some port) = codes ":" ++ decimal port

abbrev pub target_text : Target → List ℕ
target_text target = ip4_text target.addr ++ port_text target.port

-- how an action without a block is written
abbrev pub step_text : Step → List ℕ
step_text Next = codes "next;"
step_text (Jump egress table) = codes "next(pipeline=" ++ pipeline_name egress ++ codes ", table=" ++ decimal table ++ codes ");"
step_text Output = codes "output;"
step_text Drop = codes "drop;"
step_text (Set field bits constant) = part_text field bits ++ codes " = " ++ const_text constant ++ codes ";"
step_text (Copy field bits from) = part_text field bits ++ codes " = " ++ field_name from ++ codes ";"
step_text (SetOutport name) = codes "outport = \"" ++ name ++ codes "\";"
step_text (Exchange one other) = field_name one ++ codes " <-> " ++ field_name other ++ codes ";"
step_text DecTtl = codes "ip.ttl--;"
step_text CtNext = codes "ct_next;"
step_text CtLb = codes "ct_lb;"
step_text (CtLbTo targets) = codes "ct_lb(backends=" ++ joined target_text [] (codes ",") targets ++ codes ");"
step_text (CtCommit blocked) = codes "ct_commit { ct_mark.blocked = " ++ truth_text blocked ++ codes "; };"
step_text CtSnat = codes "ct_snat;"
step_text (CtSnatTo addr) = codes "ct_snat(" ++ ip4_text addr ++ codes ");"
step_text CtDnat = codes "ct_dnat;"
step_text (CtDnatTo addr) = codes "ct_dnat(" ++ ip4_text addr ++ codes ");"
step_text PutArp = codes "put_arp(inport, arp.spa, arp.sha);"
step_text GetArp = codes "get_arp(outport, reg0);"

-- in a block a space follows each action
abbrev pub spaced_text : Step → List ℕ
spaced_text step = step_text step ++ codes " "

-- a block: its name, and its actions in braces
abbrev pub block_text : List ℕ → List Step → List ℕ
block_text name steps = name ++ codes " { " ++ joined spaced_text [] [] steps ++ codes "};"

-- how an action is written
abbrev pub action_text : Action → List ℕ
action_text (action.Step step) = step_text step
action_text (action.Arp steps) = block_text (codes "arp") steps
action_text (action.Icmp4 steps) = block_text (codes "icmp4") steps
action_text (action.TcpReset steps) = block_text (codes "tcp_reset") steps
action_text (action.Reject steps) = block_text (codes "reject") steps

-- how an action list is written: one space separates two actions
abbrev pub actions_text : List Action → List ℕ
actions_text actions = joined action_text [] (codes " ") actions
