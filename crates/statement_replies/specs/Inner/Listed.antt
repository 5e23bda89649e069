-- The lines of what a change reads, which are listed over a source: nothing is asked for there.
use Rattle.std.specs.Prelude.{◌≡◌, ℕ, List, Result, IfOk}
use Rattle.logical_plan.specs.declared.names.Names.{Names}
use Rattle.plan_changes.specs.declared.change.Change.{Change}
use Rattle.plan_changes.specs.Databases.{Database}
use Rattle.chunk_source.specs.declared.reading.fault.ExecFault.{ExecFault}
use Rattle.chunk_source.specs.Faults.{Answers}
use Rattle.chunk_source.specs.Source.{Keeps, SourceState}
use Rattle.changed_chunks.specs.declared.traces.asking.Asking.{Asking}
use Rattle.statement_replies.specs.Traces.{IsTracedIn, change_lines, change_lines_over}

pub record AreListed (names : Names) (old new : SourceState) (change : Change) (target : Asking) (result : Result (List ℕ) ExecFault) : Type 0 where
  pub over : IfOk result (λ lines. lines ≡ change_lines_over names old target change)
  pub told : IfOk result (λ lines. (db : Database) → IsTracedIn names old change target db → lines ≡ change_lines db change)
  pub asked : new.asked ≡ old.asked
  pub kept : Keeps old new
  pub cause : Answers old new result
