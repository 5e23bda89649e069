-- What a statement over a database is answered.
--
-- A statement that breaks a rule is told it, and a query has its reply. A listing is answered by its text over the names of the
-- stored arrays. A change is refused for its fault, if it has one, and is accepted else. Where lines of what was read are wanted, they
-- stand behind the text of a query's array and of a change.
use Rattle.std.specs.Prelude.{ℕ, List, [], ◌++◌, Option, Some, None, Ok, Err}
use Rattle.cell_values.specs.declared.datum.Broken.{Broken}
use Rattle.afl_trees.specs.Term.{Term}
use Rattle.logical_plan.specs.declared.names.NameEntry.{NameEntry}
use Rattle.logical_plan.specs.declared.names.Names.{Names}
use Rattle.plan_changes.specs.Changes.{entry_named, next_of}
use Rattle.plan_changes.specs.Databases.{Database, fault_of_change, names_of, rows_of}
use Rattle.plan_changes.specs.declared.change.Change.{Change}
use Rattle.plan_changes.specs.declared.change.Change.TheVariants.{Create, Store, Insert, Remove, RemoveVersions}
use Rattle.check_rules.specs.Checked.{Checked}
use Rattle.afl_types.specs.Checking.{check_of}
use Rattle.afl_types.specs.declared.types.statements.checking.Typed.{Typed}
use Rattle.afl_types.specs.declared.types.statements.checking.Typed.TheVariants.{Query as AQuery, Change as AChange, Versions, Show, ListArrays}
use Rattle.result_print.specs.Listings.{list_text, ok_line, show_text, stored_line, versions_text}
use Rattle.result_print.specs.declared.refusal.Refusal.TheVariants.{Typing}
use Rattle.statement_replies.specs.Reply.{cell_reply, plan_reply, refused, traced}
use Rattle.statement_replies.specs.Traces.{change_lines}
use Rattle.statement_replies.specs.declared.replies.replies.Reply.{Reply}
use Rattle.statement_replies.specs.declared.replies.style.Style.{Style}

-- the reply, and the change where the statement is accepted as one
pub record Accepted : Type 0 where
  pub reply : Reply
  pub change : Option Change

abbrev pub without_change : Reply → Accepted
without_change reply = record { reply = reply; change = None }

-- a text that refuses nothing
abbrev pub text_alone : List ℕ → Reply
text_alone text = record { text = text; refusal = None }

-- ---- listings

-- the text of an array, which stands where checking answers its name
abbrev pub entry_text : (NameEntry → List ℕ) → Option NameEntry → List ℕ
entry_text text (Some entry) = text entry
entry_text text None = []

abbrev pub versions_reply : Names → List ℕ → Reply
versions_reply names name = text_alone (entry_text versions_text (entry_named names.arrays name))

abbrev pub show_reply : Names → List ℕ → Reply
show_reply names name = text_alone (entry_text show_text (entry_named names.arrays name))

abbrev pub list_reply : Names → Reply
list_reply names = text_alone (list_text names)

-- ---- changes

-- over the names before the change: a new version is told with its number
abbrev pub change_text : Names → Change → List ℕ
change_text names (Create name schema) = ok_line
change_text names (Store name schema plan) = stored_line name (next_of names.arrays name)
change_text names (Insert name schema plan) = stored_line name (next_of names.arrays name)
change_text names (Remove name) = ok_line
change_text names (RemoveVersions name below) = ok_line

-- the text, and lines behind it
abbrev pub change_reply : Names → List ℕ → Change → Reply
change_reply names lines change = text_alone (change_text names change ++ lines)

abbrev pub accepted : Names → List ℕ → Change → Accepted
accepted names lines change = record { reply = change_reply names lines change; change = Some change }

-- its fault, or else the change
abbrev pub changed_or_broken : Names → List ℕ → Change → Option Broken → Accepted
changed_or_broken names lines change (Some broken) = without_change (cell_reply broken)
changed_or_broken names lines change None = accepted names lines change

-- ---- statements

abbrev pub reply_to_typed : Style → Database → Typed → Accepted
reply_to_typed style db (AQuery plan) = without_change (plan_reply style (rows_of db) plan)
reply_to_typed style db (AChange change) = changed_or_broken (names_of db) (traced style (change_lines db change)) change (fault_of_change db change)
reply_to_typed style db (Versions name) = without_change (versions_reply (names_of db) name)
reply_to_typed style db (Show name) = without_change (show_reply (names_of db) name)
reply_to_typed style db ListArrays = without_change (list_reply (names_of db))

abbrev pub reply_to_checked : Style → Database → Checked Typed → Accepted
reply_to_checked style db (Ok typed) = reply_to_typed style db typed
reply_to_checked style db (Err breach) = without_change (refused (Typing breach.span breach.kind))

-- what a statement's tree, which is of this text, is answered over a database, in this style
abbrev pub reply_to : Style → Database → List ℕ → Term → Accepted
reply_to style db text tree = reply_to_checked style db (check_of tree text (names_of db))
