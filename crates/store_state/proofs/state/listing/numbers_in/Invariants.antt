use Rattle.std.proofs.Common.{◌≡◌, map, take}
use Rattle.store_state.proofs.state.listing.numbers_in.Given as goal

abbrev pub invariant-loop-entry : goal.invariant-loop-entry
invariant-loop-entry l = l.numbers ≡ map (λ entry. entry.at) (take l.entry-index l.entries)
