-- The outcome that a reply is, or the fault that memory is short.
use Rattle.std.specs.Prelude.{Result, Ok, Err}
use Rattle.cell_values.specs.declared.memory.Memory.{Memory}
use Rattle.chunk_source.specs.declared.reading.fault.ExecFault.{ExecFault}
use Rattle.chunk_source.specs.declared.reading.fault.ExecFault.TheVariants as fault
use Rattle.statement_replies.specs.declared.replies.replies.Reply.{Reply}
use Rattle.statement_replies.specs.declared.answers.outcome.Outcome.{Outcome}
use Rattle.statement_replies.specs.declared.answers.outcome.Outcome.TheVariants.{Replied}

abbrev pub replied : Result Reply Memory → Result Outcome ExecFault
replied (Ok reply) = Ok (Replied reply)
replied (Err memory) = Err fault.Memory
