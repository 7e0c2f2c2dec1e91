-- The action language, read from left to right.
use Rattle.std.specs.Prelude.{ℕ, zero, suc, ◌-◌, ◌==◌, ◌&&◌, Bool, true, false, List, [], ◌∷◌, ◌++◌, length, drop, Option, Some, None, is_some, codes, Result, Ok, Err, if◌then◌else◌}
use Rattle.nv_base.specs.Field.{field_width, field_of}
use Rattle.nv_base.specs.declared.field.Field.{Field}
use Rattle.nv_base.specs.declared.field.Field.TheVariants as field
use Rattle.nv_base.specs.declared.ip4.Ip4.{Ip4}
use Rattle.expr_core.specs.declared.part.Bits.{Bits}
use Rattle.expr_core.specs.declared.part.Bits.TheVariants.{Whole, Bit, Range}
use Rattle.act_core.specs.declared.action.Action.{Action}
use Rattle.act_core.specs.declared.action.Action.TheVariants as action_of
use Rattle.act_core.specs.declared.step.Target.{Target}
use Rattle.act_core.specs.declared.step.Step.{Step}
use Rattle.act_core.specs.declared.step.Step.TheVariants.{Next, Jump, Output, Drop, SetOutport, Exchange, DecTtl, CtNext, CtLb, CtLbTo, CtCommit, CtSnat, CtSnatTo, CtDnat, CtDnatTo, PutArp, GetArp}
use Rattle.act_parse.specs.declared.fault.ActionFault.{ActionFault}
use Rattle.act_parse.specs.declared.fault.ActionFault.TheVariants.{Syntax}
use Rattle.act_parse.specs.declared.keyword.Keyword.{Keyword}
use Rattle.act_parse.specs.declared.keyword.Keyword.TheVariants as keyword
use Rattle.act_parse.specs.declared.keyword.Block.{Block}
use Rattle.act_parse.specs.inner.Token.{is_at, run, after_run, word, after_word, is_in_decimal, is_in_address, is_in_value, is_in_name, decimal_of, address_of, name_of}
use Rattle.act_parse.specs.inner.Keyword.{keyword_of, block_of, block_action}
use Rattle.act_parse.specs.declared.wanted.Wanted.{Wanted}
use Rattle.act_parse.specs.declared.wanted.Wanted.TheVariants as wanted
use Rattle.act_parse.specs.inner.Wanted.{reach, value_of}

-- what a reading comes to: a value and the text after it, or a byte with which no reading goes on, so many bytes before the end
pub data Reading (T : Type 0) : Type 0 where
  Read : T → List ℕ → Reading T
  Stuck : ℕ → Reading T

-- go on after what was read
abbrev pub and_then : {S T : Type 0} → Reading S → (S → List ℕ → Reading T) → Reading T
and_then (Read s rest) go_on = go_on s rest
and_then (Stuck left) go_on = Stuck left

-- no reading goes on with the first byte of this text
abbrev pub stuck : {T : Type 0} → List ℕ → Reading T
stuck text = Stuck (length text)

-- no reading goes on with the byte after those that begin what is wanted
abbrev pub lost : {T : Type 0} → Wanted → List ℕ → Reading T
lost w text = Stuck (length text - reach w text)

-- these bytes
abbrev pub token : List ℕ → List ℕ → Reading (Unit {0})
token [] text = Read tt text
token (t ∷ ts) [] = stuck []
token (t ∷ ts) (b ∷ bs) = if t == b then token ts bs else stuck (b ∷ bs)

-- these tokens, one after the other
abbrev pub tokens : List (List ℕ) → List ℕ → Reading (Unit {0})
tokens [] text = Read tt text
tokens (t ∷ ts) text = and_then (token t text) (λ _ rest. tokens ts rest)

-- a value that these tokens end
abbrev pub ended : {T : Type 0} → T → List (List ℕ) → List ℕ → Reading T
ended value ts text = and_then (tokens ts text) (λ _ rest. Read value rest)

-- an action that ";" ends
abbrev pub finished : Step → List ℕ → Reading Step
finished step text = ended step (codes ";" ∷ []) text

-- what was found in front of this text, or what was wanted there
abbrev pub found : {T : Type 0} → Wanted → List ℕ → List ℕ → Option T → Reading T
found w text rest None = lost w text
found w text rest (Some v) = Read v rest

-- a decimal not below the first number and below the limit
abbrev pub decimal : ℕ → ℕ → List ℕ → Reading ℕ
decimal first limit text = found (wanted.Decimal first limit) text (after_run is_in_decimal text) (decimal_of first limit (run is_in_decimal text))

-- an address, which has 32 bits
abbrev pub ip4 : List ℕ → Reading Ip4
ip4 text = found wanted.Address text (after_run is_in_address text) (address_of (run is_in_address text))

-- "ingress" or "egress": whether it is egress
abbrev pub pipeline : List ℕ → Reading Bool
pipeline text = if is_at (codes "e") text then ended true (codes "egress" ∷ []) text else ended false (codes "ingress" ∷ []) text

-- "," " " "table" "=" N ")" ";"
abbrev pub table : Bool → List ℕ → Reading Step
table egress text = and_then (tokens (codes "," ∷ codes " " ∷ codes "table" ∷ codes "=" ∷ []) text) (λ _ rest.
    and_then (decimal 0 256 rest) (λ n rest. ended (Jump egress n) (codes ")" ∷ codes ";" ∷ []) rest))

-- "pipeline" "=" Pipeline Table
abbrev pub jump : List ℕ → Reading Step
jump text = and_then (tokens (codes "pipeline" ∷ codes "=" ∷ []) text) (λ _ rest. and_then (pipeline rest) table)

-- after "next": ";" or "(" Jump
abbrev pub next : List ℕ → Reading Step
next text = if is_at (codes "(") text then jump (drop 1 text) else finished Next text

-- ":" and a port, where the target has one
abbrev pub port : Bool → Ip4 → List ℕ → Reading Target
port has_port addr text = if has_port then and_then (token (codes ":") text) (λ _ rest. and_then (decimal 0 65536 rest) (λ n rest. Read (record { addr = addr; port = Some n }) rest)) else Read (record { addr = addr; port = None }) text

-- a target, whose port is there if those of the others are
abbrev pub target : Bool → List ℕ → Reading Target
target has_port text = and_then (ip4 text) (port has_port)

-- the first target
abbrev pub first_target : List ℕ → Reading Target
first_target text = and_then (ip4 text) (λ addr rest. port (is_at (codes ":") rest) addr rest)

-- { "," Target } after these targets, at most so many
abbrev pub targets : ℕ → Bool → List Target → List ℕ → Reading (List Target)
targets zero has_port before text = Read before text
targets (suc more) has_port before text = if is_at (codes ",") text then and_then (target has_port (drop 1 text)) (λ t rest. targets more has_port (before ++ t ∷ []) rest) else Read before text

-- Target { "," Target }
abbrev pub all_targets : List ℕ → Reading (List Target)
all_targets text = and_then (first_target text) (λ t rest. targets (length rest) (is_some t.port) (t ∷ []) rest)

-- "backends" "=" Targets ")" ";"
abbrev pub backends : List ℕ → Reading Step
backends text = and_then (tokens (codes "backends" ∷ codes "=" ∷ []) text) (λ _ rest. and_then (all_targets rest) (λ ts rest. ended (CtLbTo ts) (codes ")" ∷ codes ";" ∷ []) rest))

-- after "ct_lb": ";" or "(" Backends
abbrev pub balance : List ℕ → Reading Step
balance text = if is_at (codes "(") text then backends (drop 1 text) else finished CtLb text

-- after "ct_commit": " " "{" " " "ct_mark.blocked" " " "=" " " ( "0" | "1" ) ";" " " "}" ";"
abbrev pub commit : List ℕ → Reading Step
commit text = and_then (tokens (codes " " ∷ codes "{" ∷ codes " " ∷ codes "ct_mark.blocked" ∷ codes " " ∷ codes "=" ∷ codes " " ∷ []) text) (λ _ rest.
    and_then (decimal 0 2 rest) (λ n rest. ended (CtCommit (n == 1)) (codes ";" ∷ codes " " ∷ codes "}" ∷ codes ";" ∷ []) rest))

-- ";" or "(" address ")" ";"
abbrev pub address_or_none : List ℕ → Reading (Option Ip4)
address_or_none text = if is_at (codes "(") text then and_then (ip4 (drop 1 text)) (λ a rest. ended (Some a) (codes ")" ∷ codes ";" ∷ []) rest) else ended None (codes ";" ∷ []) text

abbrev pub snat_of : Option Ip4 → Step
snat_of None = CtSnat
snat_of (Some a) = CtSnatTo a

abbrev pub dnat_of : Option Ip4 → Step
dnat_of None = CtDnat
dnat_of (Some a) = CtDnatTo a

-- after "ct_snat"
abbrev pub snat : List ℕ → Reading Step
snat text = and_then (address_or_none text) (λ a rest. Read (snat_of a) rest)

-- after "ct_dnat"
abbrev pub dnat : List ℕ → Reading Step
dnat text = and_then (address_or_none text) (λ a rest. Read (dnat_of a) rest)

-- after "put_arp": "(" "inport" "," " " "arp.spa" "," " " "arp.sha" ")" ";"
abbrev pub put_arp : List ℕ → Reading Step
put_arp text = ended PutArp (codes "(" ∷ codes "inport" ∷ codes "," ∷ codes " " ∷ codes "arp.spa" ∷ codes "," ∷ codes " " ∷ codes "arp.sha" ∷ codes ")" ∷ codes ";" ∷ []) text

-- after "get_arp": "(" "outport" "," " " "reg0" ")" ";"
abbrev pub get_arp : List ℕ → Reading Step
get_arp text = ended GetArp (codes "(" ∷ codes "outport" ∷ codes "," ∷ codes " " ∷ codes "reg0" ∷ codes ")" ∷ codes ";" ∷ []) text

-- what follows a keyword
abbrev pub keyword_step : Keyword → List ℕ → Reading Step
keyword_step keyword.Next text = next text
keyword_step keyword.Output text = finished Output text
keyword_step keyword.Drop text = finished Drop text
keyword_step keyword.CtNext text = finished CtNext text
keyword_step keyword.CtLb text = balance text
keyword_step keyword.CtCommit text = commit text
keyword_step keyword.CtSnat text = snat text
keyword_step keyword.CtDnat text = dnat text
keyword_step keyword.PutArp text = put_arp text
keyword_step keyword.GetArp text = get_arp text

-- ".." and the last bit of a range, not before the first, and "]"
abbrev pub range : ℕ → ℕ → List ℕ → Reading Bits
range width first text = and_then (token (codes "..") text) (λ _ rest. and_then (decimal first width rest) (λ last rest. ended (Range first last) (codes "]" ∷ []) rest))

-- "]" after one bit, or a range
abbrev pub last_bit : ℕ → ℕ → List ℕ → Reading Bits
last_bit width first text = if is_at (codes ".") text then range width first text else ended (Bit first) (codes "]" ∷ []) text

-- [ "[" decimal [ ".." decimal ] "]" ], the bits of a field of this width
abbrev pub bits : ℕ → List ℕ → Reading Bits
bits width text = if is_at (codes "[") text then and_then (decimal 0 width (drop 1 text)) (last_bit width) else Read Whole text

abbrev pub named_field : ℕ → List ℕ → Option Field → Reading Field
named_field width text None = lost (wanted.Field width) text
named_field width text (Some f) = if field_width f == width then Read f (after_word text) else lost (wanted.Field width) text

-- the name of a field of this width
abbrev pub field_of_width : ℕ → List ℕ → Reading Field
field_of_width width text = named_field width text (field_of (word text))

-- a name, and the double quote and ";" after it
abbrev pub name : List ℕ → Reading (List ℕ)
name text = found wanted.Name text (after_run is_in_name text) (name_of (run is_in_name text))

-- a name in double quotes, and ";"
abbrev pub outport_name : List ℕ → Reading Step
outport_name text = and_then (token (codes "\"") text) (λ _ rest. and_then (name rest) (λ n rest. ended (SetOutport n) (codes "\"" ∷ codes ";" ∷ []) rest))

abbrev pub value_found : Field → Bits → List ℕ → Option Step → Reading Step
value_found f b text None = lost (wanted.Value f b) text
value_found f b text (Some step) = ended step (codes ";" ∷ []) (after_run is_in_value text)

-- a constant or a field, and ";"
abbrev pub plain_value : Field → Bits → List ℕ → Reading Step
plain_value f b text = value_found f b text (value_of f b (run is_in_value text))

-- the whole of `outport` may be given a name in double quotes
abbrev pub takes_name : Field → Bits → Bool
takes_name field.Outport Whole = true
takes_name _ _ = false

-- what a part becomes, and ";"
abbrev pub value : Field → Bits → List ℕ → Reading Step
value f b text = if takes_name f b && is_at (codes "\"") text then outport_name text else plain_value f b text

abbrev pub is_whole : Bits → Bool
is_whole Whole = true
is_whole _ = false

-- "<->" " " and the other field of an exchange, and ";"
abbrev pub exchange : Field → List ℕ → Reading Step
exchange f text = and_then (tokens (codes "<->" ∷ codes " " ∷ []) text) (λ _ rest. and_then (field_of_width (field_width f) rest) (λ g rest. ended (Exchange f g) (codes ";" ∷ []) rest))

-- "=" " " Value
abbrev pub assigned : Field → Bits → List ℕ → Reading Step
assigned f b text = and_then (tokens (codes "=" ∷ codes " " ∷ []) text) (λ _ rest. value f b rest)

-- an exchange of a whole field, or "=" " " Value
abbrev pub sign_of_part : Field → Bits → List ℕ → Reading Step
sign_of_part f b text = if is_whole b && is_at (codes "<") text then exchange f text else assigned f b text

-- bits, " ", and what is done with the part
abbrev pub part : Field → List ℕ → Reading Step
part f text = and_then (bits (field_width f) text) (λ b rest. and_then (token (codes " ") rest) (λ _ rest. sign_of_part f b rest))

abbrev pub is_ttl : Field → Bool
is_ttl field.IpTtl = true
is_ttl _ = false

-- what follows the name of a field: "--" ";" after `ip.ttl`, or a part
abbrev pub field_step : Field → List ℕ → Reading Step
field_step f text = if is_ttl f && is_at (codes "-") text then ended DecTtl (codes "--" ∷ codes ";" ∷ []) text else part f text

abbrev pub step_by_field : Wanted → List ℕ → Option Field → Reading Step
step_by_field w text None = lost w text
step_by_field w text (Some f) = field_step f (after_word text)

abbrev pub step_by : Wanted → List ℕ → Option Keyword → Reading Step
step_by w text None = step_by_field w text (field_of (word text))
step_by w text (Some k) = keyword_step k (after_word text)

-- an action without a block, where this is wanted: it begins with a keyword or the name of a field
abbrev pub step : Wanted → List ℕ → Reading Step
step w text = step_by w text (keyword_of (word text))

-- a step in a block, and " "
abbrev pub spaced_step : List ℕ → Reading Step
spaced_step text = and_then (step wanted.Step text) (λ s rest. and_then (token (codes " ") rest) (λ _ rest. Read s rest))

-- { Step " " } after these steps, at most so many
abbrev pub steps : ℕ → List Step → List ℕ → Reading (List Step)
steps zero before text = Read before text
steps (suc more) before text = if is_at (codes "}") text then Read before text else and_then (spaced_step text) (λ s rest. steps more (before ++ s ∷ []) rest)

-- Step " " { Step " " }
abbrev pub all_steps : List ℕ → Reading (List Step)
all_steps text = and_then (spaced_step text) (λ s rest. steps (suc (length rest)) (s ∷ []) rest)

-- " " "{" " " Steps "}" ";"
abbrev pub block : List ℕ → Reading (List Step)
block text = and_then (tokens (codes " " ∷ codes "{" ∷ codes " " ∷ []) text) (λ _ rest. and_then (all_steps rest) (λ ss rest. ended ss (codes "}" ∷ codes ";" ∷ []) rest))

abbrev pub action_by : List ℕ → Option Block → Reading Action
action_by text None = and_then (step wanted.Action text) (λ s rest. Read (action_of.Step s) rest)
action_by text (Some k) = and_then (block (after_word text)) (λ ss rest. Read (block_action k ss) rest)

-- an action: a block, or one without
abbrev pub action : List ℕ → Reading Action
action text = action_by text (block_of (word text))

-- " " Action
abbrev pub another : List ℕ → Reading Action
another text = and_then (token (codes " ") text) (λ _ rest. action rest)

-- { " " Action } up to the end of the text, after these actions, at most so many
abbrev pub actions : ℕ → List Action → List ℕ → Reading (List Action)
actions more before [] = Read before []
actions zero before (b ∷ bs) = stuck (b ∷ bs)
actions (suc more) before (b ∷ bs) = and_then (another (b ∷ bs)) (λ a rest. actions more (before ++ a ∷ []) rest)

-- [ Action { " " Action } ]
abbrev pub reading : List ℕ → Reading (List Action)
reading [] = Read [] []
reading (b ∷ bs) = and_then (action (b ∷ bs)) (λ a rest. actions (length rest) (a ∷ []) rest)

-- the fault at the byte with which no reading goes on: its offset in a text that is so long
abbrev pub answer_of : ℕ → Reading (List Action) → Result (List Action) ActionFault
answer_of len (Read list rest) = Ok list
answer_of len (Stuck left) = Err (Syntax (len - left))

-- The action list that a text is, or the fault at the first byte with which no reading goes on.
abbrev pub answer : List ℕ → Result (List Action) ActionFault
answer text = answer_of (length text) (reading text)
