use Rattle.std.proofs.Common.{ℕ, refl, sym, subst}
use Rattle.sb_rows.specs.inner.Asks.{bucket_of, name_of, numbers_of}
use Rattle.sb_rows.specs.inner.Index.{IsIn}
use Rattle.sb_rows.specs.inner.Own.{own_bucket}
use Rattle.sb_rows.proofs.AskedSame.{not_held}
use Rattle.sb_rows.proofs.index.Index.place_asked.Goals as goal

pub returns-in-None-clause-absent : goal.returns-in-None-clause-absent
returns-in-None-clause-absent c none other p same held there =
    let asks = c.args.asks in
    not_held c.args.self.now asks other p (own_bucket c.args.self.now.own (name_of asks.port) (bucket_of asks) (numbers_of asks)) same refl
    (λ inside. c.in-None.ensures.absent refl p (subst (λ (b : ℕ). IsIn c.args.self.now b p) (sym c.bucket-shared.ensures) inside) there)
    (λ bucket is inside. c.place_in_own.ensures.absent none bucket p is inside there) held
