use Rattle.std.proofs.Common.{◌∙◌, false, arith, slice_index_or}
use Rattle.version_reaper.specs.PageSets.{holds}
use Rattle.event_core.specs.declared.state.VersionPages.{VersionPages}
use Rattle.event_core.proofs.Loops.{any_more}
use Rattle.event_core.proofs.reap.add_versions.Goals as goal

pub loop-version-preserved : goal.loop-version-preserved
loop-version-preserved c =
    let l = c.loop-version in
    record {
      limit = c.add_all.ensures.limit ∙ l.invariant.limit;
      pages = λ p within. any_more (λ (v : VersionPages). holds v.pages p) (slice_index_or c.args.set.now p false) _ _ _ l.version-index c.version-item.result
          c.loop-version-test.true c.version-item.is (l.invariant.pages p within) (c.add_all.ensures.pages p (omega (arith, within, l.invariant.limit)));
    }
