use Rattle.std.proofs.Common.{leb, length, rules, ap, ◌∙◌}
use Rattle.std.proofs.lemmas.List.Sorted.{IsPartitionedBy-leb, IsPartitionPoint-from_clause}
use Rattle.nb_records.specs.declared.numbers.Block.{Block}
use Rattle.nb_records.proofs.Counted.{counted_rise, found_within, starts_within, starts_before, found}
use Rattle.nb_records.proofs.numbers.find.Goals as goal

pub bounds-blocks-place : goal.bounds-blocks-place
bounds-blocks-place c =
    let bs = c.args.blocks.now in
    let parted = IsPartitionPoint-from_clause (λ (b : Block). leb b.end c.args.at) bs c.partition_point-place.result c.partition_point-place.ensures.partitioned (IsPartitionedBy-leb (λ (b : Block). b.end) bs c.args.at (counted_rise 0 bs c.requires.counted)) (λ a r f called. search rules) in
    found_within bs c.args.at c.partition_point-place.result c.requires.counted c.requires.within c.partition_point-place.ensures.bound parted

pub overflow_sub-result : goal.overflow_sub-result
overflow_sub-result c =
    let bs = c.args.blocks.now in
    let parted = IsPartitionPoint-from_clause (λ (b : Block). leb b.end c.args.at) bs c.partition_point-place.result c.partition_point-place.ensures.partitioned (IsPartitionedBy-leb (λ (b : Block). b.end) bs c.args.at (counted_rise 0 bs c.requires.counted)) (λ a r f called. search rules) in
    starts_within bs c.args.at c.partition_point-place.result c.requires.counted c.requires.within c.partition_point-place.ensures.bound parted c.index-blocks-place.result c.len.result c.index-blocks-place.is (c.len.ensures ∙ c.deref.result.now.ok.0 ∙ ap (λ v. length v.items) c.deref.ensures)

pub overflow_sub-result-2 : goal.overflow_sub-result-2
overflow_sub-result-2 c =
    let bs = c.args.blocks.now in
    let parted = IsPartitionPoint-from_clause (λ (b : Block). leb b.end c.args.at) bs c.partition_point-place.result c.partition_point-place.ensures.partitioned (IsPartitionedBy-leb (λ (b : Block). b.end) bs c.args.at (counted_rise 0 bs c.requires.counted)) (λ a r f called. search rules) in
    starts_before bs c.args.at c.partition_point-place.result c.requires.counted c.requires.within c.partition_point-place.ensures.bound parted c.index-blocks-place.result c.len.result c.index-blocks-place.is (c.len.ensures ∙ c.deref.result.now.ok.0 ∙ ap (λ v. length v.items) c.deref.ensures)

pub returns : goal.returns
returns c =
    let bs = c.args.blocks.now in
    let parted = IsPartitionPoint-from_clause (λ (b : Block). leb b.end c.args.at) bs c.partition_point-place.result c.partition_point-place.ensures.partitioned (IsPartitionedBy-leb (λ (b : Block). b.end) bs c.args.at (counted_rise 0 bs c.requires.counted)) (λ a r f called. search rules) in
    found bs c.args.at c.partition_point-place.result c.requires.counted c.requires.within c.partition_point-place.ensures.bound parted c.index-blocks-place.result c.len.result c.index-blocks-place.is (c.len.ensures ∙ c.deref.result.now.ok.0 ∙ ap (λ v. length v.items) c.deref.ensures)
