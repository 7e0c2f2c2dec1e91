use Rattle.std.proofs.Common.{rules, ℕ, eqb, ltb}
use Rattle.std.specs.Prelude.{◌&&◌}
use Rattle.std.proofs.lemmas.List.Sorted.{IsPartitionPoint-from_clause}
use Rattle.sb_rows.proofs.InOrder.{earlier_first, others_have, rest_is, rest_rises, still_from}
use Rattle.sb_rows.proofs.filled.Filled.from_place.Goals as goal

pub returns-clause-rise : goal.returns-clause-rise
returns-clause-rise c =
    let rest = c.from_bucket-rest.result.now in
    rw (rest_is rest c.partition_point-from.result) (rest_rises rest c.partition_point-from.result c.from_bucket-rest.ensures.rise)

pub returns-clause-from : goal.returns-clause-from
returns-clause-from c =
    let rest = c.from_bucket-rest.result.now in
    let parted = earlier_first rest c.args.bucket c.args.place c.from_bucket-rest.ensures.rise c.from_bucket-rest.ensures.from in
    let point = IsPartitionPoint-from_clause (λ (x : ℕ × ℕ). eqb x.0 c.args.bucket && ltb x.1 c.args.place) _ _ c.partition_point-from.ensures.partitioned parted (λ a r q k. search rules) in
    rw (rest_is rest c.partition_point-from.result) (still_from rest c.args.bucket c.args.place c.partition_point-from.result point c.from_bucket-rest.ensures.from)

pub returns-clause-all : goal.returns-clause-all
returns-clause-all c p from there =
    let rest = c.from_bucket-rest.result.now in
    let parted = earlier_first rest c.args.bucket c.args.place c.from_bucket-rest.ensures.rise c.from_bucket-rest.ensures.from in
    let point = IsPartitionPoint-from_clause (λ (x : ℕ × ℕ). eqb x.0 c.args.bucket && ltb x.1 c.args.place) _ _ c.partition_point-from.ensures.partitioned parted (λ a r q k. search rules) in
    rw (rest_is rest c.partition_point-from.result) (others_have rest c.args.bucket c.args.place c.partition_point-from.result point p from (c.from_bucket-rest.ensures.all p there))
