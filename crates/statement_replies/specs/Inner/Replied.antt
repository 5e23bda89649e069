-- A reply, or the fault that memory is short.
use Rattle.std.specs.Prelude.{Result, Ok, Err}
use Rattle.cell_values.specs.declared.memory.Memory.{Memory}
use Rattle.chunk_source.specs.declared.reading.fault.ExecFault.{ExecFault}
use Rattle.chunk_source.specs.declared.reading.fault.ExecFault.TheVariants as fault
use Rattle.statement_replies.specs.declared.replies.replies.Reply.{Reply}

abbrev pub or_fault : Result Reply Memory → Result Reply ExecFault
or_fault (Ok reply) = Ok reply
or_fault (Err memory) = Err fault.Memory
