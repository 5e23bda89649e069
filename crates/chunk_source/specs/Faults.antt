-- Why a plan gave no array.
use Rattle.std.specs.Prelude.{◌≡◌, Some, Result, Ok, Err}
use Rattle.afl_outside.specs.Counts.{Rose}
use Rattle.chunk_source.specs.declared.sources.fault.SourceFault.{SourceFault}
use Rattle.chunk_source.specs.declared.sources.fault.SourceFault.TheVariants.{Failed, Damaged as Spoiled, Memory as Wanting}
use Rattle.chunk_source.specs.Source.{SourceState}
use Rattle.chunk_source.specs.declared.reading.fault.ExecFault.{ExecFault}
use Rattle.chunk_source.specs.declared.reading.fault.ExecFault.TheVariants.{Source, Damaged, Memory}

abbrev pub fault_from : SourceFault → ExecFault
fault_from Failed = Source
fault_from (Spoiled page) = Damaged page
fault_from Wanting = Memory

-- A call fails for its source only where the source's count of faults rises. It answers that a page is damaged only where the source
-- then says so of that page, which nothing else makes it say.
abbrev pub Answers : {T : Type 0} → SourceState → SourceState → Result T ExecFault → Type 0
Answers old new (Ok x) = new.damaged ≡ old.damaged
Answers old new (Err Source) = Rose old.faults new.faults × (new.damaged ≡ old.damaged)
Answers old new (Err (Damaged page)) = new.damaged ≡ Some page
Answers old new (Err Memory) = new.damaged ≡ old.damaged
