use Rattle.std.proofs.Common.{◌+◌, []}
use Rattle.file_reading.specs.Inner.Rows.{entries_of}
use Rattle.file_reading.proofs.EntryLaws.{Going}
use Rattle.file_reading.proofs.entries.claim_payloads.Given as goal

abbrev pub invariant-loop-entry : goal.invariant-loop-entry
invariant-loop-entry l =
    Going (record { sequence = l.base.sequence + l.base.records; dims = l.schema.dimensions; seen = entries_of [] l.before; entries = l.entries }) l.fn.taken l.entry-index l.taken
