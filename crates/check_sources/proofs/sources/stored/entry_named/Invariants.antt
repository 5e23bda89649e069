use Rattle.std.proofs.Common.{◌≡◌, drop}
use Rattle.check_sources.specs.Stored.{entry_named}
use Rattle.check_sources.proofs.sources.stored.entry_named.Given as goal

abbrev pub invariant-loop-entry : goal.invariant-loop-entry
invariant-loop-entry l = entry_named l.arrays l.name ≡ entry_named (drop l.entry-index l.arrays) l.name
