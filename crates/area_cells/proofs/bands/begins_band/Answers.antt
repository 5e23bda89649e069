use Rattle.std.proofs.Common.{◌<◌, length, rules, arith}
use borrow.Author.Tests.{ltb-true}
use Rattle.area_cells.proofs.bands.begins_band.Goals as goal

pub returns : goal.returns
returns c =
    let some : 0 < c.args.at = search rules in
    let within : c.args.at < length c.args.chunks.now = search rules in
    λ t. record {
      some = some;
      within = within;
      before = c.index-chunks-last.result;
      next = c.index-chunks-at.result;
      before_is = c.index-chunks-last.is;
      next_is = c.index-chunks-at.is;
      rises = omega (arith, ltb-true, t);
    }
