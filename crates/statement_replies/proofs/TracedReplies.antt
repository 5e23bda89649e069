-- Replies behind what was read for them.
use Rattle.std.proofs.Common.{◌≡◌, ℕ, List, Result, Ok, Err, IfOk, subst}
use Rattle.logical_plan.specs.Leaves.{leaves}
use Rattle.logical_plan.specs.Meaning.{Database, meaning}
use Rattle.logical_plan.specs.Query.{Query}
use Rattle.chunk_source.specs.Source.{Keeps, SourceState}
use Rattle.chunk_exec.specs.Computed.{CanCompute}
use Rattle.chunk_exec.specs.Found.{IsFound}
use Rattle.chunk_exec.specs.declared.rows.rows.answers.rows.PlanRows.{PlanRows}
use Rattle.logical_plan.specs.PlanSchema.{schema_of}
use Rattle.changed_chunks.proofs.Tracing.{all_read, lines_still}
use Rattle.statement_replies.specs.Kinds.{IsRowsOver, IsTextOrRefusal}
use Rattle.statement_replies.specs.Reply.{plan_reply, traced}
use Rattle.statement_replies.specs.declared.replies.replies.Reply.{Reply}
use Rattle.statement_replies.specs.declared.replies.style.Style.{Style}

-- a plan can be computed as before
pub can_still : (old mid : SourceState) (plan : Query) → Keeps old mid → CanCompute old plan → CanCompute mid plan
can_still old mid plan kept can = record { typed = can.typed; reads = all_read old mid (leaves plan) kept can.reads }

-- what a later state lists an earlier one listed
pub over_before : {E : Type 0} (answer : Result Reply E) (old mid : SourceState) (style : Style) (plan : Query) → Keeps old mid → IfOk answer (IsRowsOver mid style plan) → IfOk answer (IsRowsOver old style plan)
over_before answer old mid style plan kept = subst (λ (lines : List ℕ). IfOk answer (IsTextOrRefusal style (traced style lines) (schema_of plan))) (lines_still old mid plan kept)

-- what a later state tells an earlier one told
pub told_before : {E : Type 0} (answer : Result Reply E) (old mid : SourceState) (style : Style) (plan : Query) (found : PlanRows) → Keeps old mid
    → IfOk answer (λ reply. (db : Database) → mid.tells db → IsFound (meaning db plan) found → reply ≡ plan_reply style db plan)
    → ((db : Database) → old.tells db → IsFound (meaning db plan) found)
    → IfOk answer (λ reply. (db : Database) → old.tells db → reply ≡ plan_reply style db plan)
told_before (Ok reply) old mid style plan found kept told is = λ db t. told db ((kept.tells db).1 t) (is db t)
told_before (Err fault) old mid style plan found kept told is = tt
