use Rattle.std.proofs.Common.{length}
use Rattle.check_groups.proofs.groups.window.+window_size.Given as goal

abbrev pub decreases-window_size : goal.decreases-window_size
decreases-window_size l = length l.reach.now
