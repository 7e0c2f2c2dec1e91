-- What a packet meets in a table whose rows are told by layers: of falling priority, each with a test of the packet, and with what its rows
-- do. The packet meets a row of the first layer whose test holds.
use Rattle.std.proofs.Common.{◌≡◌, ℕ, ◌<◌, Bool, true, false, cond, List, [], ◌∷◌, sym, ap, refl, ◌∙◌, ◌⊎◌, inl, inr}
use Rattle.std.specs.Prelude.{◌||◌, Some, ⊤}
use Rattle.std.specs.List.{AllByRecursion, Contains}
use Rattle.std.proofs.lemmas.Bool.{false≢true, or_left, or_right}
use Rattle.nv_base.specs.declared.object.ObjId.{ObjId}
use Rattle.pkt_core.specs.Packet.{Values}
use Rattle.expr_core.specs.Lookup.{Lookup}
use Rattle.expr_eval.specs.MatchMeaning.{holds}
use Rattle.sb_model.specs.declared.row.Row.{Row}
use Rattle.sb_model.specs.declared.stage.Stage.{Stage}
use Rattle.sb_rows.specs.Match.{is_in_table, select}
use Rattle.sb_rows.specs.Row.{IsInRowOrder}
use Rattle.sb_rows.proofs.Tables.{in_table-gives}
use Rattle.net_rows.proofs.Elements.{one_of, one_of_none, one_first, one_later}
use Rattle.ls_laws.proofs.RuleStages.{each_of}
use Rattle.ls_laws.proofs.Takers.{IsMet, lower_after, met}

-- rows of one priority, which take a packet where the test holds, and do this
pub record Layer (E : Type 0) : Type 0 where
  pub priority : ℕ
  pub test : Bool
  pub end : E

abbrev pub layer : {E : Type 0} → ℕ → Bool → E → Layer E
layer priority test end = record { priority = priority; test = test; end = end }

-- each has a lower priority than those before it
abbrev pub Fall : {E : Type 0} → List (Layer E) → Type 0
Fall [] = ⊤
Fall {E} (l ∷ ls) = AllByRecursion (λ (m : Layer E). m.priority < l.priority) ls × Fall ls

-- what the rows of the first do whose test holds
abbrev pub first_end : {E : Type 0} → List (Layer E) → E → E
first_end [] last = last
first_end (l ∷ ls) last = cond l.test l.end (first_end ls last)

-- one has a test that holds
abbrev pub any_holds : {E : Type 0} → List (Layer E) → Bool
any_holds [] = false
any_holds (l ∷ ls) = l.test || any_holds ls

-- where this one's does
pub any_holds-from : {E : Type 0} (ls : List (Layer E)) (l : Layer E) → Contains ls l → l.test ≡ true → any_holds ls ≡ true
any_holds-from [] l there is = absurd (one_of_none l there)
any_holds-from {E} (m ∷ ls) l there is = by (one_of m ls l there) (λ later. any_holds-from ls l later is)
  where
    by : (m ≡ l) ⊎ Contains ls l → (Contains ls l → any_holds ls ≡ true) → (m.test || any_holds ls) ≡ true
    by (inl same) rest = or_left m.test (any_holds ls) (ap (λ (n : Layer E). n.test) same ∙ is)
    by (inr later) rest = or_right m.test (any_holds ls) (rest later)

-- a row is of a layer whose test holds
pub record IsOfLayer {E : Type 0} (does : Row → E) (layers : List (Layer E)) (row : Row) : Type 0 where
  pub layer : Layer E
  pub among : Contains layers layer
  pub holds : layer.test ≡ true
  pub priority : row.priority ≡ layer.priority
  pub done : does row ≡ layer.end

-- a row of the table takes the packet
pub record IsTaker (known : Lookup) (dp : ObjId) (stage : Stage) (packet : Values) (rows : List Row) (row : Row) : Type 0 where
  pub among : Contains rows row
  pub in_table : is_in_table dp stage row ≡ true
  pub takes : holds known packet row.matching ≡ true

-- what the packet meets does this
pub record Meets {E : Type 0} (known : Lookup) (dp : ObjId) (stage : Stage) (packet : Values) (rows : List Row) (does : Row → E) (end : E) : Type 0 where
  pub row : Row
  pub is : select dp stage known packet rows ≡ Some row
  pub done : does row ≡ end

module _ {E : Type 0} (known : Lookup) (dp : ObjId) (stage : Stage) (packet : Values) (rows : List Row) (up : IsInRowOrder rows) (does : Row → E) where
  abbrev Takes : Row → Type 0
  Takes row = IsTaker known dp stage packet rows row

  abbrev Ends : E → Type 0
  Ends end = Meets known dp stage packet rows does end

  -- each row that takes the packet is of a layer
  abbrev TakersAreOf : List (Layer E) → Type 0
  TakersAreOf layers = (row : Row) → Takes row → IsOfLayer does layers row

  -- each layer whose test holds has a row that takes the packet
  abbrev HaveRows : List (Layer E) → Type 0
  HaveRows layers = (l : Layer E) → Contains layers l → l.test ≡ true → (row : Row) × Takes row × (row.priority ≡ l.priority)

  pub meets_first : (layers : List (Layer E)) (last : E) → Fall layers → TakersAreOf layers → HaveRows layers → any_holds layers ≡ true → Ends (first_end layers last)
  meets_first [] last fall takers rows_of any = absurd (false≢true any)
  meets_first (l ∷ ls) last fall takers rows_of any =
      by l.test refl any (λ none. meets_first ls last fall.1 (later_takers none) (λ m there. rows_of m (one_later l ls m there)))
    where
      later_takers : l.test ≡ false → TakersAreOf ls
      later_takers none row takes = let of = takers row takes in of_later of (one_of l ls of.layer of.among)
        where
          of_later : (of : IsOfLayer does (l ∷ ls) row) → (l ≡ of.layer) ⊎ Contains ls of.layer → IsOfLayer does ls row
          of_later of (inl same) = absurd (false≢true (sym none ∙ ap (λ (m : Layer E). m.test) same ∙ of.holds))
          of_later of (inr later) = record { layer = of.layer; among = later; holds = of.holds; priority = of.priority; done = of.done }

      at_first : l.test ≡ true → Ends l.end
      at_first holds_first =
          let own = rows_of l (one_first l ls l refl) holds_first in
          let at : IsMet known dp stage packet rows own.0 = met known dp stage packet own.0 own.1.in_table own.1.takes rows up own.1.among in
          let of = takers at.row (record { among = at.among; in_table = at.in_table; takes = at.takes }) in
          record { row = at.row; is = at.is; done = ends own at of (one_of l ls of.layer of.among) }
        where
          ends : (own : (row : Row) × Takes row × (row.priority ≡ l.priority)) (at : IsMet known dp stage packet rows own.0) (of : IsOfLayer does (l ∷ ls) at.row)
              → (l ≡ of.layer) ⊎ Contains ls of.layer → does at.row ≡ l.end
          ends own at of (inl same) = of.done ∙ sym (ap (λ (m : Layer E). m.end) same)
          ends own at of (inr later) =
              let below : of.layer.priority < l.priority = each_of (λ (m : Layer E). m.priority < l.priority) ls of.layer fall.0 later in
              let lower : at.row.priority < own.0.priority = rw (of.priority, own.2) below in
              let here = in_table-gives dp stage at.row at.in_table in
              let there = in_table-gives dp stage own.0 own.1.in_table in
              absurd (false≢true (sym at.not_after ∙ lower_after at.row own.0 (here.0 ∙ sym there.0) (here.1 ∙ sym there.1) lower))

      by : (b : Bool) → l.test ≡ b → (b || any_holds ls) ≡ true → (l.test ≡ false → any_holds ls ≡ true → Ends (first_end ls last)) → Ends (cond b l.end (first_end ls last))
      by true is some rest = at_first is
      by false is some rest = rest is some
