use Rattle.std.proofs.Common.{◌≡◌, ◌++◌, take}
use Rattle.file_meaning.specs.Opening.{all_of}
use Rattle.store_opening.proofs.bases.base.push_records.Given as goal

abbrev pub invariant-loop-record : goal.invariant-loop-record
invariant-loop-record l = l.pages ≡ l.fn.pages ++ all_of (take l.record-index l.records)
