use Rattle.std.proofs.Common.{◌∙◌, Option, sym, ap}
use Rattle.std.specs.Option.{option_copied, option_map}
use Rattle.nv_map.specs.Map.{value_at}
use Rattle.nv_map.proofs.Values.{exact_order}
use Rattle.inc_table.specs.declared.delta.Change.{Change}
use Rattle.inc_table.specs.declared.delta.Change.TheVariants.{Put, Gone}
use Rattle.inc_table.specs.Delta.{alters}
use Rattle.inc_join.specs.Join.{lefts_of}
use Rattle.inc_join.proofs.Joined.{value_lefts}
use Rattle.inc_join.proofs.joining.alters_at.Goals as goal

pub returns-in-Put-None : goal.returns-in-Put-None
returns-in-Put-None g c =
    let left = value_lefts g.met.K.Ord.total (exact_order g.K.PartialEq.eq g.K.Ord.cmp g.met.K.Ord.matches_eq g.met.K.Kept.exact) c.args.key.now c.args.table.now ∙ ap (λ (e : Option (g.row.A.Denot × Option g.row.B.Denot)). option_map (λ (x : g.row.A.Denot × Option g.row.B.Denot). x.0) e) (sym c.get.ensures.value ∙ ap option_copied c.in-Put-None.is-1) in
    sym (ap (λ (change : Change g.row.A.Denot). alters g.A.PartialEq.eq change (value_at g.K.Ord.cmp c.args.key.now (lefts_of c.args.table.now))) c.in-Put-None.is-0 ∙ ap (alters g.A.PartialEq.eq (Put c.in-Put-None.field-0-0)) left)

pub returns-in-Put-Some : goal.returns-in-Put-Some
returns-in-Put-Some g c =
    let left = value_lefts g.met.K.Ord.total (exact_order g.K.PartialEq.eq g.K.Ord.cmp g.met.K.Ord.matches_eq g.met.K.Kept.exact) c.args.key.now c.args.table.now ∙ ap (λ (e : Option (g.row.A.Denot × Option g.row.B.Denot)). option_map (λ (x : g.row.A.Denot × Option g.row.B.Denot). x.0) e) (sym c.get.ensures.value ∙ ap option_copied c.in-Put-Some.is-1) in
    c.ne.ensures ∙ sym (ap (λ (change : Change g.row.A.Denot). alters g.A.PartialEq.eq change (value_at g.K.Ord.cmp c.args.key.now (lefts_of c.args.table.now))) c.in-Put-Some.is-0 ∙ ap (alters g.A.PartialEq.eq (Put c.in-Put-Some.left)) left)

pub returns-in-Gone-None : goal.returns-in-Gone-None
returns-in-Gone-None g c =
    let left = value_lefts g.met.K.Ord.total (exact_order g.K.PartialEq.eq g.K.Ord.cmp g.met.K.Ord.matches_eq g.met.K.Kept.exact) c.args.key.now c.args.table.now ∙ ap (λ (e : Option (g.row.A.Denot × Option g.row.B.Denot)). option_map (λ (x : g.row.A.Denot × Option g.row.B.Denot). x.0) e) (sym c.get.ensures.value ∙ ap option_copied c.in-Gone-None.is-1) in
    sym (ap (λ (change : Change g.row.A.Denot). alters g.A.PartialEq.eq change (value_at g.K.Ord.cmp c.args.key.now (lefts_of c.args.table.now))) c.in-Gone-None.is-0 ∙ ap (alters g.A.PartialEq.eq Gone) left)

pub returns-in-Gone-Some : goal.returns-in-Gone-Some
returns-in-Gone-Some g c =
    let left = value_lefts g.met.K.Ord.total (exact_order g.K.PartialEq.eq g.K.Ord.cmp g.met.K.Ord.matches_eq g.met.K.Kept.exact) c.args.key.now c.args.table.now ∙ ap (λ (e : Option (g.row.A.Denot × Option g.row.B.Denot)). option_map (λ (x : g.row.A.Denot × Option g.row.B.Denot). x.0) e) (sym c.get.ensures.value ∙ ap option_copied c.in-Gone-Some.is-1) in
    sym (ap (λ (change : Change g.row.A.Denot). alters g.A.PartialEq.eq change (value_at g.K.Ord.cmp c.args.key.now (lefts_of c.args.table.now))) c.in-Gone-Some.is-0 ∙ ap (alters g.A.PartialEq.eq Gone) left)
