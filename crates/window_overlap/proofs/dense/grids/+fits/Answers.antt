use Rattle.std.proofs.Common.{◌≤◌, get_or, rules}
use Rattle.window_overlap.proofs.GridLaws.{front_fits}
use Rattle.window_overlap.proofs.dense.grids.+fits.Goals as goal

pub returns-then-n-m-clause-held : goal.returns-then-n-m-clause-held
returns-then-n-m-clause-held t c =
    let less : get_or c.args.lengths.now 0 0 ≤ get_or c.args.others.now 0 0 = search rules in
    λ fit. front_fits c.args.lengths.now c.args.others.now c.in-len1-up.len_at_least c.in-len1-up-others.len_at_least less (c.fits.ensures.held fit)
