use Rattle.std.proofs.Common.{◌∙◌, ap, sym, false, nat_lt, not, length, slice_index_or}
use Rattle.version_reaper.specs.PageSets.{pages_below}
use Rattle.version_reaper.proofs.Numbers.{some_pass}
use Rattle.version_reaper.proofs.page_set.PageSet.has_others.Goals as goal

pub returns : goal.returns
returns c = ap (nat_lt 0) c.free_of.ensures ∙ sym (some_pass (λ page. not (slice_index_or c.args.self.now page false)) (pages_below (length c.args.self.now)))
