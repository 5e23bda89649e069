-- What a statement is answered, by what checking answers to its tree.
use Rattle.std.proofs.Common.{◌≡◌, inl, inr, Option, Some, None, Ok, Err, IfOk, refl, ap, ◌∙◌}
use Rattle.cell_values.specs.declared.datum.Broken.{Broken}
use Rattle.logical_plan.specs.Query.{Query}
use Rattle.plan_changes.specs.Databases.{Database, fault_of_change, names_of, rows_of}
use Rattle.plan_changes.specs.declared.change.Change.{Change}
use Rattle.plan_changes.specs.declared.change.Change.TheVariants.{Create, Store, Insert, Remove, RemoveVersions}
use Rattle.check_rules.specs.Checked.{Checked}
use Rattle.afl_types.specs.Queries.{query_of}
use Rattle.afl_types.specs.Checking.{check_of}
use Rattle.afl_types.specs.Statements.{queried}
use Rattle.afl_types.specs.declared.types.statements.checking.Typed.{Typed}
use Rattle.afl_types.specs.declared.types.statements.checking.Typed.TheVariants.{Query as AQuery, Change as AChange, Versions, Show, ListArrays}
use Rattle.statement_replies.specs.Reply.{checked_reply, traced}
use Rattle.statement_replies.specs.StatementKinds.{HasChangeKind, HasStatementKind, HasTypedKind, HasTypedRows, IsAccepted, MayBreak, QueriesHaveTheirReplies, RepliesHaveStatementKinds}
use Rattle.statement_replies.specs.Statements.{accepted, changed_or_broken, reply_to_checked, reply_to_typed, without_change}
use Rattle.statement_replies.specs.Traces.{change_lines}
use Rattle.statement_replies.specs.declared.replies.style.Style.{Style}
use Rattle.statement_replies.proofs.Lines.{change_lines_are}
use Rattle.statement_replies.proofs.PlanReplies.{checked_kind}

-- ---- kinds

accepted_kind : (style : Style) (db : Database) (change : Change) → IsAccepted style (names_of db) change (accepted (names_of db) (traced style (change_lines db change)) change)
accepted_kind style db change = ((change_lines db change, change_lines_are db change, refl), refl)

may_break : (style : Style) (db : Database) (change : Change) (o : Option Broken)
    → MayBreak style (names_of db) change (changed_or_broken (names_of db) (traced style (change_lines db change)) change o)
may_break style db change (Some broken) = inr (broken, refl)
may_break style db change None = inl (accepted_kind style db change)

change_kind : (style : Style) (db : Database) (change : Change)
    → HasChangeKind style (names_of db) change (changed_or_broken (names_of db) (traced style (change_lines db change)) change (fault_of_change db change))
change_kind style db (Create name schema) = accepted_kind style db (Create name schema)
change_kind style db (Store name schema plan) = may_break style db (Store name schema plan) (fault_of_change db (Store name schema plan))
change_kind style db (Insert name schema plan) = may_break style db (Insert name schema plan) (fault_of_change db (Insert name schema plan))
change_kind style db (Remove name) = accepted_kind style db (Remove name)
change_kind style db (RemoveVersions name below) = accepted_kind style db (RemoveVersions name below)

typed_kind : (style : Style) (db : Database) (typed : Typed) → HasTypedRows db typed → HasTypedKind style (names_of db) typed (reply_to_typed style db typed)
typed_kind style db (AQuery plan) has = (checked_kind style (rows_of db) (Ok plan) has, refl)
typed_kind style db (AChange change) has = change_kind style db change
typed_kind style db (Versions name) has = refl
typed_kind style db (Show name) has = refl
typed_kind style db ListArrays has = refl

statement_kind : (style : Style) (db : Database) (checked : Checked Typed) → IfOk checked (HasTypedRows db)
    → HasStatementKind style (names_of db) checked (reply_to_checked style db checked)
statement_kind style db (Ok typed) has = typed_kind style db typed has
statement_kind style db (Err breach) has = refl

pub have_statement_kinds : RepliesHaveStatementKinds
have_statement_kinds style db text tree has = statement_kind style db (check_of tree text (names_of db)) has

-- ---- a statement that is a query

query_replied : (style : Style) (db : Database) (checked : Checked Query) → reply_to_checked style db (queried checked) ≡ without_change (checked_reply style (rows_of db) checked)
query_replied style db (Ok plan) = refl
query_replied style db (Err breach) = refl

pub queries_replied : QueriesHaveTheirReplies
queries_replied style db text tree e = ap (reply_to_checked style db) e ∙ query_replied style db (query_of (names_of db).arrays tree)
