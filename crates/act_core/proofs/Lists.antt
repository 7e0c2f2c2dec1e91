-- A joined list, one item on.
use Rattle.std.proofs.Common.{◌≡◌, ◌<◌, ◌≤◌, ◌+◌, ℕ, List, ◌++◌, ◌∙◌, sym, ap, length, drop, slice_index_or, append_assoc}
use Rattle.std.proofs.lemmas.List.{at_drop_more, at_drop_all, append-nil}
use Rattle.act_core.specs.Text.{joined}

-- with this item's text at the end, the items after it say the same
pub item_appended : {A : Type 0} (text : A → List ℕ) (separator : List ℕ) (items : List A) (i : ℕ) (d : A) (front there middle end : List ℕ) → i < length items
    → middle ≡ there ++ front → end ≡ middle ++ text (slice_index_or items i d)
    → end ++ joined text separator separator (drop (i + 1) items) ≡ there ++ joined text front separator (drop i items)
item_appended text separator items i d front there middle end within one two =
    rw (two, one, at_drop_more (λ is. joined text front separator is) items i d within) (simp append_assoc)

-- with the text of all items, none is left to append
pub all_appended : {A : Type 0} (text : A → List ℕ) (separator front : List ℕ) (items : List A) (i : ℕ) (there whole : List ℕ) → length items ≤ i
    → there ++ joined text front separator (drop i items) ≡ whole → there ≡ whole
all_appended text separator front items i there whole all is =
    sym (append-nil there) ∙ ap (λ l. there ++ l) (sym (at_drop_all (λ is. joined text front separator is) items i all)) ∙ is

-- what was appended thrice was appended
pub appended_thrice : (there one two end first second third : List ℕ) → one ≡ there ++ first → two ≡ one ++ second → end ≡ two ++ third → end ≡ there ++ (first ++ (second ++ third))
appended_thrice there one two end first second third a b c = rw (c, b, a) (simp append_assoc)

pub appended_four : (there one two three end first second third fourth : List ℕ) → one ≡ there ++ first → two ≡ one ++ second → three ≡ two ++ third → end ≡ three ++ fourth
    → end ≡ there ++ (((first ++ second) ++ third) ++ fourth)
appended_four there one two three end first second third fourth a b c d = rw (d, c, b, a) (simp append_assoc)
