-- What the names of the stored arrays alone tell of what a statement is answered, whatever the arrays hold.
use Rattle.std.specs.Prelude.{◌≡◌, ◌⊎◌, ℕ, List, None, Some, Ok, Err, IfOk, IsTrue}
use Rattle.cell_values.specs.declared.datum.Broken.{Broken}
use Rattle.afl_trees.specs.Term.{Term}
use Rattle.logical_plan.specs.declared.names.Names.{Names}
use Rattle.plan_changes.specs.Changes.{has_array}
use Rattle.plan_changes.specs.Databases.{Database, names_of, rows_of}
use Rattle.plan_changes.specs.declared.change.Change.{Change}
use Rattle.plan_changes.specs.declared.change.Change.TheVariants.{Create, Store, Insert, Remove, RemoveVersions}
use Rattle.changed_chunks.specs.Traced.{AreLinesOf}
use Rattle.check_rules.specs.Checked.{Checked}
use Rattle.afl_types.specs.Queries.{query_of}
use Rattle.afl_types.specs.Checking.{check_of}
use Rattle.afl_types.specs.Statements.{queried}
use Rattle.afl_types.specs.declared.types.statements.checking.Typed.{Typed}
use Rattle.afl_types.specs.declared.types.statements.checking.Typed.TheVariants.{Query as AQuery, Change as AChange, Versions, Show, ListArrays}
use Rattle.result_print.specs.declared.refusal.Refusal.TheVariants.{Typing}
use Rattle.statement_replies.specs.Kinds.{HasRows, IsRowsReply}
use Rattle.statement_replies.specs.Reply.{cell_reply, query_reply, refused, traced}
use Rattle.statement_replies.specs.Statements.{Accepted, change_reply, list_reply, reply_to, show_reply, versions_reply, without_change}
use Rattle.statement_replies.specs.Traces.{read_by}
use Rattle.statement_replies.specs.declared.replies.replies.Reply.{Reply}
use Rattle.statement_replies.specs.declared.replies.style.Style.{Style}

-- the text of a change, and where lines of what was read are wanted, one for each array that it reads, with some numbers
abbrev pub IsChangeReply : Style → Names → Change → Reply → Type 0
IsChangeReply style names change reply =
    (lines : List ℕ) × AreLinesOf (read_by names change) lines × (reply ≡ change_reply names (traced style lines) change)

abbrev pub IsAccepted : Style → Names → Change → Accepted → Type 0
IsAccepted style names change answer = IsChangeReply style names change answer.reply × (answer.change ≡ Some change)

-- the change, or the refusal that tells of some cell
abbrev pub MayBreak : Style → Names → Change → Accepted → Type 0
MayBreak style names change answer = IsAccepted style names change answer ⊎ ((broken : Broken) × (answer ≡ without_change (cell_reply broken)))

-- only the array of a plan has cells that may not be computed
abbrev pub HasChangeKind : Style → Names → Change → Accepted → Type 0
HasChangeKind style names (Create name schema) answer = IsAccepted style names (Create name schema) answer
HasChangeKind style names (Store name schema plan) answer = MayBreak style names (Store name schema plan) answer
HasChangeKind style names (Insert name schema plan) answer = MayBreak style names (Insert name schema plan) answer
HasChangeKind style names (Remove name) answer = IsAccepted style names (Remove name) answer
HasChangeKind style names (RemoveVersions name below) answer = IsAccepted style names (RemoveVersions name below) answer

-- a query has some rows of its plan, or the refusal that tells of some cell; a listing has its text
abbrev pub HasTypedKind : Style → Names → Typed → Accepted → Type 0
HasTypedKind style names (AQuery plan) answer = IsRowsReply style plan answer.reply × (answer.change ≡ None)
HasTypedKind style names (AChange change) answer = HasChangeKind style names change answer
HasTypedKind style names (Versions name) answer = answer ≡ without_change (versions_reply names name)
HasTypedKind style names (Show name) answer = answer ≡ without_change (show_reply names name)
HasTypedKind style names ListArrays answer = answer ≡ without_change (list_reply names)

-- a rule that is broken is told
abbrev pub HasStatementKind : Style → Names → Checked Typed → Accepted → Type 0
HasStatementKind style names (Ok typed) answer = HasTypedKind style names typed answer
HasStatementKind style names (Err breach) answer = answer ≡ without_change (refused (Typing breach.span breach.kind))

-- the rows that a query means are of its plan's schema
abbrev pub HasTypedRows : Database → Typed → Type 0
HasTypedRows db (AQuery plan) = HasRows (rows_of db) plan
HasTypedRows db typed = Unit {0}

-- what is answered over a database is of that kind
abbrev pub RepliesHaveStatementKinds : Type 0
RepliesHaveStatementKinds = (style : Style) (db : Database) (text : List ℕ) (tree : Term) → IfOk (check_of tree text (names_of db)) (HasTypedRows db)
    → HasStatementKind style (names_of db) (check_of tree text (names_of db)) (reply_to style db text tree)

-- a tree that is checked as a query has the reply to the query
abbrev pub QueriesHaveTheirReplies : Type 0
QueriesHaveTheirReplies = (style : Style) (db : Database) (text : List ℕ) (tree : Term)
    → check_of tree text (names_of db) ≡ queried (query_of (names_of db).arrays tree)
    → reply_to style db text tree ≡ without_change (query_reply style (names_of db) (rows_of db) tree)

-- the array, if any, whose versions or schema are listed stands
abbrev pub NamesWhatStands : Names → Typed → Type 0
NamesWhatStands names (AQuery plan) = Unit {0}
NamesWhatStands names (AChange change) = Unit {0}
NamesWhatStands names (Versions name) = IsTrue (has_array names.arrays name)
NamesWhatStands names (Show name) = IsTrue (has_array names.arrays name)
NamesWhatStands names ListArrays = Unit {0}

-- that of each statement which checking answers does
abbrev pub ListedArraysStand : Type 0
ListedArraysStand = (names : Names) (text : List ℕ) (tree : Term) → IfOk (check_of tree text names) (NamesWhatStands names)
