use Rattle.std.proofs.Common.{◌<◌, ◌∙◌, ap, length, subst, sym}
use Rattle.store_ledger.specs.Ledger.{LedgerState, unused_pages}
use Rattle.prepared_commits.proofs.Reaping.{reap_short}
use Rattle.prepared_commits.proofs.parts.room.reaped.Goals as goal

pub returns-then-is_short-clause-full : goal.returns-then-is_short-clause-full
returns-then-is_short-clause-full c =
    let same = c.free_pages.ensures.same in record {
      needed = c.at_most.ensures;
      free = c.free_pages.ensures.count ∙ ap (λ (l : LedgerState). length (unused_pages l)) (sym same);
      less = subst (λ (l : LedgerState). length (unused_pages l) < c.args.needed) (sym same)
          (reap_short c.args.needed c.args.ledger.now c.reap_now.new.self c.in-Ok.ensures.ok (sym c.is_short.ensures ∙ c.if-is_short.true));
    }
