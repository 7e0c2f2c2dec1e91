use Rattle.std.proofs.Common.{sym}
use Rattle.sb_rows.specs.inner.Own.{own_key_cmp}
use Rattle.sb_rows.proofs.OwnBuckets.{entry_stays, keys_exact}
use Rattle.sb_rows.proofs.own.bucket_of_key.Goals as goal

pub returns-clause-kept : goal.returns-clause-kept
returns-clause-kept c other bucket was =
    entry_stays own_key_cmp keys_exact c.args.buckets.now c.insert.new.self c.args.key other _ bucket (sym c.in_default.ensures.value) (c.in_ok-insert.ensures.updates.0 other) was
