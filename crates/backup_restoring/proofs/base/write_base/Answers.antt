use Rattle.std.proofs.Common.{◌<◌, ℕ, List, length, sym, subst}
use Rattle.backup_restoring.proofs.News.{some_bytes}
use Rattle.backup_restoring.proofs.base.write_base.Goals as goal

pub commit-requires-clause-some : goal.commit-requires-clause-some
commit-requires-clause-some g c = subst (λ (bytes : List ℕ). 0 < length bytes) (sym c.in-Ok.ensures.bytes) (some_bytes (record { arrays = c.args.arrays }))
