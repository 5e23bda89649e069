-- What comes of a statement over the arrays of a source: a reply, or a change that may be committed.
use Rattle.std.specs.Prelude.{◌≡◌, List, [], Option, None, Some, Ok, Err, IfSome}
use Rattle.cell_values.specs.declared.datum.Row.{Row}
use Rattle.array_geom.specs.declared.chunk.Changed.{Changed}
use Rattle.logical_plan.specs.declared.names.Names.{Names}
use Rattle.plan_changes.specs.declared.change.Change.{Change}
use Rattle.plan_changes.specs.declared.change.Change.TheVariants.{Create, Store, Insert, Remove, RemoveVersions}
use Rattle.plan_changes.specs.Databases.{Database, fault_of_change, names_of, rows_of}
use Rattle.plan_changes.specs.Kept.{StoresArray}
use Rattle.plan_changes.specs.Stored.{HasItsNames, IsDatabase}
use Rattle.plan_changes.specs.Typed.{IsTypedFor}
use Rattle.check_rules.specs.Checked.{Checked}
use Rattle.afl_types.specs.declared.types.statements.checking.Typed.{Typed}
use Rattle.afl_types.specs.declared.types.statements.checking.Typed.TheVariants.{Query as AQuery, Change as AChange, Versions, Show, ListArrays}
use Rattle.chunk_source.specs.declared.reading.fault.ExecFault.{ExecFault}
use Rattle.chunk_source.specs.declared.reading.fault.ExecFault.TheVariants.{Source, Damaged, Memory}
use Rattle.chunk_source.specs.declared.sources.asked.Asked.{Asked}
use Rattle.chunk_source.specs.Source.{SourceState}
use Rattle.chunk_exec.specs.Computed.{asked_for_plan}
use Rattle.commit_pages.specs.Changes.{AreValid, ComesWith, IsChangeOf}
use Rattle.changed_chunks.specs.Changing.{asked_of_plan, asked_with, rows_put}
use Rattle.statement_replies.specs.StatementKinds.{HasStatementKind, IsChangeReply}
use Rattle.statement_replies.specs.Statements.{Accepted, without_change}
use Rattle.statement_replies.specs.Traces.{newest_leaf}
use Rattle.statement_replies.specs.declared.replies.style.Style.{Style}
use Rattle.statement_replies.specs.declared.answers.outcome.Outcome.{Outcome}
use Rattle.statement_replies.specs.declared.answers.outcome.Outcome.TheVariants.{Replied, Changes}

-- ---- what the names alone tell, whatever the arrays hold

-- a change that these names allow, and the chunks that come with it, as they may be stored
pub record MayBeCommitted (names : Names) (change : Change) (changed : Option Changed) : Type 0 where
  pub named : HasItsNames change
  pub typed : IsTypedFor names change
  pub comes : ComesWith change changed
  pub valid : IfSome changed AreValid

-- a statement is answered without a change, as its kind is, or it is this change, with the reply to one that is accepted
abbrev pub HasOutcomeKind : Style → Names → Checked Typed → Outcome → Type 0
HasOutcomeKind style names checked (Replied reply) = HasStatementKind style names checked (without_change reply)
HasOutcomeKind style names checked (Changes change changed reply) =
    (checked ≡ Ok (AChange change)) × MayBeCommitted names change changed × IsChangeReply style names change reply

-- a statement breaks no rule
abbrev pub IsAllowed : Checked Typed → Type 0
IsAllowed checked = (typed : Typed) × (checked ≡ Ok typed)

-- why nothing comes of it: of one that breaks a rule only that memory is short
abbrev pub MayFail : ExecFault → Checked Typed → Type 0
MayFail Source checked = IsAllowed checked
MayFail (Damaged page) checked = IsAllowed checked
MayFail Memory checked = Unit {0}

-- ---- what a database tells

-- the source tells this database, which has these names
pub record IsToldBy (names : Names) (source : SourceState) (db : Database) : Type 0 where
  pub database : IsDatabase db
  pub named : names_of db ≡ names
  pub tells : source.tells (rows_of db)

-- the change has no fault there, its plan means an array, and the chunks are those that it writes
pub record IsMadeOf (db : Database) (change : Change) (changed : Option Changed) : Type 0 where
  pub stores : StoresArray db change
  pub whole : fault_of_change db change ≡ None
  pub chunks : IfSome changed (IsChangeOf db change)

-- THE OUTCOME IS WHAT THE STATEMENT IS ANSWERED
abbrev pub IsOutcomeOf : Database → Accepted → Outcome → Type 0
IsOutcomeOf db answer (Replied reply) = answer ≡ without_change reply
IsOutcomeOf db answer (Changes change changed reply) = (answer ≡ record { reply = reply; change = Some change }) × IsMadeOf db change changed

-- ---- what is asked for

-- the rows that a statement puts in, in a database, where it is a change
abbrev pub rows_put_by : Database → Checked Typed → List Row
rows_put_by db (Ok (AQuery plan)) = []
rows_put_by db (Ok (AChange change)) = rows_put db change
rows_put_by db (Ok (Versions name)) = []
rows_put_by db (Ok (Show name)) = []
rows_put_by db (Ok ListArrays) = []
rows_put_by db (Err breach) = []

-- all that a change asks for where it puts these rows in: the chunks that its plan needs, and behind them the chunks of an insert's target, the
-- newest version by these names, that are wanted for the rows
abbrev pub all_of_change : List Row → SourceState → Names → Change → List Asked
all_of_change rows source names (Create name schema) = []
all_of_change rows source names (Store name schema plan) = asked_for_plan source plan
all_of_change rows source names (Insert name schema plan) = asked_with rows source (Insert name schema plan) (newest_leaf names name schema)
all_of_change rows source names (Remove name) = []
all_of_change rows source names (RemoveVersions name below) = []

-- all that a statement asks for. A listing and a broken rule ask for nothing
abbrev pub all_asked : List Row → SourceState → Names → Checked Typed → List Asked
all_asked rows source names (Ok (AQuery plan)) = asked_for_plan source plan
all_asked rows source names (Ok (AChange change)) = all_of_change rows source names change
all_asked rows source names (Ok (Versions name)) = []
all_asked rows source names (Ok (Show name)) = []
all_asked rows source names (Ok ListArrays) = []
all_asked rows source names (Err breach) = []

-- a change that is refused for its fault has asked for the chunks that its plan needs alone
abbrev pub asked_by_change : List Row → SourceState → Names → Change → Outcome → List Asked
asked_by_change rows source names change (Replied reply) = asked_of_plan source change
asked_by_change rows source names change (Changes made changed reply) = all_of_change rows source names change

-- what is asked for, each chunk once, where this comes of a statement
abbrev pub asked_for : List Row → SourceState → Names → Checked Typed → Outcome → List Asked
asked_for rows source names (Ok (AQuery plan)) outcome = asked_for_plan source plan
asked_for rows source names (Ok (AChange change)) outcome = asked_by_change rows source names change outcome
asked_for rows source names (Ok (Versions name)) outcome = []
asked_for rows source names (Ok (Show name)) outcome = []
asked_for rows source names (Ok ListArrays) outcome = []
asked_for rows source names (Err breach) outcome = []

-- it holds for the rows that a statement puts in, in each database that the source tells; and whatever the source tells, it holds for some
pub record ForRowsPut (names : Names) (source : SourceState) (checked : Checked Typed) (Holds : List Row → Type 0) : Type 0 where
  pub told : (db : Database) → IsToldBy names source db → Holds (rows_put_by db checked)
  pub some : (rows : List Row) × Holds rows
