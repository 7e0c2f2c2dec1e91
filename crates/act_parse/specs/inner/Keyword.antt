-- The words that begin actions.
use Rattle.std.specs.Prelude.{ℕ, Bool, nat_eq, List, [], ◌∷◌, Option, codes}
use Rattle.std.specs.List.{find}
use Rattle.std.specs.Cmp.Lexicographic.{pointwise}
use Rattle.act_core.specs.declared.step.Step.{Step}
use Rattle.act_core.specs.declared.action.Action.{Action}
use Rattle.act_core.specs.declared.action.Action.TheVariants as action
use Rattle.act_parse.specs.declared.keyword.Keyword.{Keyword}
use Rattle.act_parse.specs.declared.keyword.Keyword.TheVariants.{Next, Output, Drop, CtNext, CtLb, CtCommit, CtSnat, CtDnat, PutArp, GetArp}
use Rattle.act_parse.specs.declared.keyword.Block.{Block}
use Rattle.act_parse.specs.declared.keyword.Block.TheVariants.{Arp, Icmp4, TcpReset, Reject}

abbrev pub keyword_name : Keyword → List ℕ
keyword_name Next = codes "next"
keyword_name Output = codes "output"
keyword_name Drop = codes "drop"
keyword_name CtNext = codes "ct_next"
keyword_name CtLb = codes "ct_lb"
keyword_name CtCommit = codes "ct_commit"
keyword_name CtSnat = codes "ct_snat"
keyword_name CtDnat = codes "ct_dnat"
keyword_name PutArp = codes "put_arp"
keyword_name GetArp = codes "get_arp"

unfoldable pub keywords : List Keyword
keywords = Next ∷ Output ∷ Drop ∷ CtNext ∷ CtLb ∷ CtCommit ∷ CtSnat ∷ CtDnat ∷ PutArp ∷ GetArp ∷ []

abbrev pub is_keyword : Keyword → List ℕ → Bool
is_keyword k word = pointwise nat_eq (keyword_name k) word

-- the keyword that the word is
abbrev pub keyword_of : List ℕ → Option Keyword
keyword_of word = find (λ k. is_keyword k word) keywords

abbrev pub block_name : Block → List ℕ
block_name Arp = codes "arp"
block_name Icmp4 = codes "icmp4"
block_name TcpReset = codes "tcp_reset"
block_name Reject = codes "reject"

unfoldable pub blocks : List Block
blocks = Arp ∷ Icmp4 ∷ TcpReset ∷ Reject ∷ []

abbrev pub is_block_name : Block → List ℕ → Bool
is_block_name k word = pointwise nat_eq (block_name k) word

-- the kind of block that the word begins
abbrev pub block_of : List ℕ → Option Block
block_of word = find (λ k. is_block_name k word) blocks

-- the block of this kind, of these actions
abbrev pub block_action : Block → List Step → Action
block_action Arp steps = action.Arp steps
block_action Icmp4 steps = action.Icmp4 steps
block_action TcpReset steps = action.TcpReset steps
block_action Reject steps = action.Reject steps
