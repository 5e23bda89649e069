-- What a source keeps of its calls, and what it answers.
use Rattle.std.specs.Prelude.{[], None, Some, Result, Ok, Err}
use Rattle.afl_outside.specs.Counts.{risen}
use Rattle.chunk_source.specs.declared.sources.fault.SourceFault.{SourceFault}
use Rattle.chunk_source.specs.declared.sources.fault.SourceFault.TheVariants.{Failed, Damaged as Spoiled, Memory as Wanting}
use Rattle.snapshot_manager.specs.ReadFault.{ReadFault}
use Rattle.snapshot_manager.specs.ReadFault.TheVariants.{Disk, Damaged, Memory}
use Rattle.session_sources.specs.declared.marks.Marks.{Marks}

-- before the first call
abbrev pub no_marks : Marks
no_marks = record { asked = []; damaged = None; faults = 0 }

-- a failed disk is a failure of the source
abbrev pub answer_of : {A : Type 0} → Result A ReadFault → Result A SourceFault
answer_of (Ok value) = Ok value
answer_of (Err Disk) = Err Failed
answer_of (Err (Damaged page)) = Err (Spoiled page)
answer_of (Err Memory) = Err Wanting

-- it is counted, and a damaged page is kept
abbrev pub marks_after : {A : Type 0} → Result A ReadFault → Marks → Marks
marks_after (Ok value) marks = marks
marks_after (Err Disk) marks = record marks { faults = risen marks.faults }
marks_after (Err (Damaged page)) marks = record marks { damaged = Some page }
marks_after (Err Memory) marks = marks
