use Rattle.std.proofs.Common.{◌+◌, slice_index_or, arith, refl}
use Rattle.result_print.specs.Listings.{version_line}
use Rattle.result_print.proofs.Numbered.{numbered_after}
use Rattle.result_print.proofs.listings.write_versions.Goals as goal

pub loop-at-preserved : goal.loop-at-preserved
loop-at-preserved c =
    numbered_after version_line 1 c.args.versions.now c.loop-at.at (c.loop-at.at + 1) (slice_index_or c.args.versions.now c.loop-at.at 0) 0 c.args.out.now c.loop-at.out c.write_version.new.out
    c.loop-at-test.true (omega arith) refl c.loop-at.invariant c.in_ok-write_version.ensures
