-- Actions that read only fields that the packet has (ovn-sb(5), 'Logical_Flow TABLE': a field is there where its prerequisite is met).
use Rattle.std.specs.Prelude.{Bool, true, ◌&&◌, IsTrue, List, [], ◌∷◌, Contains, Option, Some, None}
use Rattle.std.specs.List.{list_all}
use Rattle.nv_base.specs.declared.field.Field.{Field}
use Rattle.nv_base.specs.declared.field.Field.TheVariants.{ArpSha, ArpSpa, Inport, IpTtl, Outport, Reg0}
use Rattle.pkt_core.specs.Packet.{Values}
use Rattle.pkt_core.specs.Prerequisite.{is_there}
use Rattle.expr_core.specs.Lookup.{Lookup}
use Rattle.expr_eval.specs.MatchMeaning.{holds}
use Rattle.act_core.specs.declared.action.Action.{Action}
use Rattle.act_core.specs.declared.action.Action.TheVariants as action
use Rattle.act_core.specs.declared.step.Step.{Step}
use Rattle.act_core.specs.declared.step.Step.TheVariants.{Copy, Exchange, DecTtl, CtCommit, PutArp, GetArp}
use Rattle.nb_model.specs.Names.{names}
use Rattle.nb_model.specs.Network.{Network}
use Rattle.sb_model.specs.declared.row.Row.{Row}
use Rattle.sb_model.specs.declared.stage.Stage.{Stage}
use Rattle.lr_units.specs.Network.{network_rows}
use Rattle.tr_stage.specs.Machine.{Effect, effect, reset_for, error_for, answer_for, arp_for}
use Rattle.tr_stage.specs.Machine.Effect.{Changed, Done}

-- the fields that an action reads, those of connection tracking apart
abbrev pub reads : Step → List Field
reads (Copy field bits from) = from ∷ []
reads (Exchange one other) = one ∷ other ∷ []
reads DecTtl = IpTtl ∷ []
reads PutArp = Inport ∷ ArpSpa ∷ ArpSha ∷ []
reads GetArp = Outport ∷ Reg0 ∷ []
reads _ = []

-- What an action leaves to those after it. A commit, and what is learnt, leave the packet as it was; and what is known of a neighbour goes
-- to `eth.dst`, on which no field depends.
abbrev pub left_by : Lookup → Stage → Step → Values → Effect
left_by net stage (CtCommit blocked) packet = Changed packet
left_by net stage PutArp packet = Changed packet
left_by net stage GetArp packet = Changed packet
left_by net stage step packet = effect net stage step packet

-- what is asked of the packet that an action leaves; after one that ends the step nothing is
abbrev pub once_changed : Effect → (Values → Bool) → Bool
once_changed (Changed packet) asked = asked packet
once_changed (Done ending) asked = true

-- each field that an action of a block reads is there, in the packet as the actions before it leave it
abbrev pub block_finds : Lookup → Stage → List Step → Values → Bool
block_finds net stage [] packet = true
block_finds net stage (step ∷ others) packet = list_all (is_there packet) (reads step) && once_changed (left_by net stage step packet) (block_finds net stage others)

-- in the packet that answers, where one does
abbrev pub answer_finds : Lookup → Stage → List Step → Option Values → Bool
answer_finds net stage block None = true
answer_finds net stage block (Some packet) = block_finds net stage block packet

-- the same of a row's actions
abbrev pub actions_find : Lookup → Stage → List Action → Values → Bool
actions_find net stage [] packet = true
actions_find net stage (action.Step step ∷ others) packet = list_all (is_there packet) (reads step) && once_changed (left_by net stage step packet) (actions_find net stage others)
actions_find net stage (action.TcpReset block ∷ others) packet = answer_finds net stage block (reset_for packet)
actions_find net stage (action.Icmp4 block ∷ others) packet = answer_finds net stage block (error_for packet)
actions_find net stage (action.Reject block ∷ others) packet = answer_finds net stage block (answer_for packet)
actions_find net stage (action.Arp block ∷ others) packet = block_finds net stage block (arp_for packet)

-- of each packet that a row takes, the row's actions read only fields that are there
abbrev pub FindsWhatItReads : Lookup → Row → Type 0
FindsWhatItReads net row = (packet : Values) → IsTrue (holds net packet row.matching) → IsTrue (actions_find net row.stage row.actions packet)

abbrev pub FindWhatTheyRead : Network → Type 0
FindWhatTheyRead net = (row : Row) → Contains (network_rows net) row → FindsWhatItReads (names net) row
