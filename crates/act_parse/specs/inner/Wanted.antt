-- What may stand at a place, and how far a text begins it.
use Rattle.std.specs.Prelude.{ℕ, suc, ◌==◌, ◌&&◌, ◌||◌, Bool, false, List, [], ◌∷◌, ◌++◌, Option, Some, None, is_some, codes, if◌then◌else◌}
use Rattle.std.specs.List.{list_any}
use Rattle.nv_base.specs.Field.{field_name, field_width, field_of, all_fields}
use Rattle.nv_base.specs.declared.field.Field.{Field}
use Rattle.expr_core.specs.Width.{part_width}
use Rattle.expr_core.specs.declared.constant.Const.{Const}
use Rattle.expr_core.specs.declared.part.Bits.{Bits}
use Rattle.act_core.specs.WellFormed.{fits}
use Rattle.act_core.specs.declared.step.Step.{Step}
use Rattle.act_core.specs.declared.step.Step.TheVariants.{Set, Copy}
use Rattle.act_parse.specs.declared.wanted.Wanted.{Wanted}
use Rattle.act_parse.specs.declared.wanted.Wanted.TheVariants as wanted
use Rattle.act_parse.specs.inner.Token.{is_at, constant, decimal_of, address_of, name_of}
use Rattle.act_parse.specs.inner.Keyword.{keyword_name, keywords, block_name, blocks}

-- the name of a field of this width begins with these bytes
abbrev pub begins_field_of : ℕ → List ℕ → Field → Bool
begins_field_of width front f = (field_width f == width) && is_at front (field_name f)

abbrev pub begins_field : ℕ → List ℕ → Bool
begins_field width front = list_any (begins_field_of width front) all_fields

-- a word that begins an action without a block begins with these bytes
abbrev pub begins_step : List ℕ → Bool
begins_step front = list_any (λ k. is_at front (keyword_name k)) keywords || list_any (λ f. is_at front (field_name f)) all_fields

abbrev pub begins_block : List ℕ → Bool
begins_block front = list_any (λ k. is_at front (block_name k)) blocks

-- a word that is wanted begins with these bytes
abbrev pub begins_word : Wanted → List ℕ → Bool
begins_word wanted.Action front = begins_block front || begins_step front
begins_word wanted.Step front = begins_step front
begins_word (wanted.Field width) front = begins_field width front
begins_word (wanted.Value f b) front = begins_field (part_width b (field_width f)) front
begins_word _ front = false

-- another field that is as wide as the part
abbrev pub field_value : Field → Bits → Option Field → Option Step
field_value f b None = None
field_value f b (Some from) = if field_width from == part_width b (field_width f) then Some (Copy f b from) else None

-- a constant that fits, or another field
abbrev pub constant_value : Field → Bits → List ℕ → Option Const → Option Step
constant_value f b text None = field_value f b (field_of text)
constant_value f b text (Some c) = if fits (part_width b (field_width f)) c then Some (Set f b c) else None

-- what the part becomes, where the text is a value for it
abbrev pub value_of : Field → Bits → List ℕ → Option Step
value_of f b text = constant_value f b text (constant text)

-- the text is a number, an address, a name or a value that is wanted
abbrev pub is_whole : Wanted → List ℕ → Bool
is_whole (wanted.Decimal first limit) text = is_some (decimal_of first limit text)
is_whole wanted.Address text = is_some (address_of text)
is_whole wanted.Name text = is_some (name_of text)
is_whole (wanted.Value f b) text = is_some (value_of f b text)
is_whole _ text = false

-- What numbers, addresses, names and values may end with are the ends of these: after each front of one, the least one that it begins
-- ends so, or with one more digit.
unfoldable pub endings : List (List ℕ)
endings =
    codes "00:00:00:00:00:00" ∷ codes "0.0.0.0" ∷ codes "_MC_flood" ∷ codes "_MC_unknown"
    ∷ codes "1" ∷ codes "2" ∷ codes "3" ∷ codes "4" ∷ codes "5" ∷ codes "6" ∷ codes "7" ∷ codes "8" ∷ codes "9" ∷ []

-- with some end of this text, which may be empty, it is what is wanted
abbrev pub ends_with : Wanted → List ℕ → List ℕ → Bool
ends_with w front [] = is_whole w front
ends_with w front (b ∷ bs) = is_whole w (front ++ b ∷ bs) || ends_with w front bs

abbrev pub can_end : Wanted → List ℕ → Bool
can_end w front = list_any (ends_with w front) endings

-- what is wanted begins with these bytes, one or more
abbrev pub begins : Wanted → List ℕ → Bool
begins w front = begins_word w front || can_end w front

-- how many bytes of the text there are of which each front passes the test
abbrev pub reach_by : (List ℕ → Bool) → List ℕ → ℕ
reach_by test [] = 0
reach_by test (b ∷ bs) = if test (b ∷ []) then suc (reach_by (λ front. test (b ∷ front)) bs) else 0

-- how many bytes of the text begin what is wanted
abbrev pub reach : Wanted → List ℕ → ℕ
reach w text = reach_by (begins w) text
