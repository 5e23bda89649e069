-- What comes of a typed statement, and of the tree that it is of.
use Rattle.std.proofs.Common.{◌≡◌, ℕ, true, List, Option, Some, Result, Ok, Err, IfErr, IfOk, refl, sym, ap, subst, ◌∙◌}
use Rattle.cell_values.specs.declared.name.Span.{Span}
use Rattle.afl_trees.specs.Term.{Term, create, call, Terms}
use Rattle.logical_plan.specs.Meaning.{Database as Rows}
use Rattle.logical_plan.specs.Query.{Query}
use Rattle.logical_plan.specs.declared.names.NameEntry.{NameEntry}
use Rattle.logical_plan.specs.declared.names.Names.{Names}
use Rattle.plan_changes.specs.Databases.{Database, names_of, rows_of}
use Rattle.plan_changes.specs.Stored.{AreStored}
use Rattle.check_exprs.specs.Laws.{leaves_fit}
use Rattle.afl_types.specs.Arrays.{AreValid}
use Rattle.afl_types.specs.Queries.{query_of}
use Rattle.check_rules.specs.Checked.{Checked}
use Rattle.check_rules.specs.Operators.{operator_named}
use Rattle.check_rules.specs.declared.rules.operator.Operator.{Operator}
use Rattle.check_rules.specs.declared.rules.operator.Operator.TheVariants as operator
use Rattle.check_rules.proofs.RulesHolding.{of_answer, thens}
use Rattle.afl_types.proofs.StoredNames.{schemas_valid}
use Rattle.afl_types.proofs.TypedChanges.{changes_typed}
use Rattle.afl_types.specs.Changes.{array_call, created, cut_call, list_call}
use Rattle.afl_types.specs.Checking.{check_of}
use Rattle.afl_types.specs.Place.{created_place}
use Rattle.afl_types.specs.Statements.{insert_of, queried, said, statement_of, store_of}
use Rattle.afl_types.specs.declared.types.statements.checking.Typed.{Typed}
use Rattle.afl_types.specs.declared.types.statements.checking.Typed.TheVariants.{Query as AQuery, Change as AChange, Versions, Show, ListArrays}
use Rattle.chunk_exec.specs.Computed.{CanCompute}
use Rattle.chunk_source.specs.Source.{SourceState}
use Rattle.chunk_source.specs.declared.reading.fault.ExecFault.{ExecFault}
use Rattle.chunk_source.specs.declared.reading.fault.ExecFault.TheVariants.{Source, Damaged, Memory}
use Rattle.statement_replies.specs.Kinds.{IsRowsOver}
use Rattle.statement_replies.proofs.PlanReplies.{rows_kind}
use Rattle.statement_replies.specs.Reading.{HoldsVersions}
use Rattle.statement_replies.specs.Reply.{plan_reply}
use Rattle.statement_replies.specs.StatementKinds.{NamesWhatStands}
use Rattle.statement_replies.specs.Statements.{reply_to, reply_to_checked, reply_to_typed, without_change}
use Rattle.statement_replies.specs.declared.replies.replies.Reply.{Reply}
use Rattle.statement_replies.specs.declared.replies.style.Style.{Style}
use Rattle.statement_replies.proofs.QueryReplies.{can_compute}
use Rattle.statement_replies.proofs.Standing.{stand}
use Rattle.statement_replies.specs.declared.answers.outcome.Outcome.{Outcome}
use Rattle.statement_replies.specs.declared.answers.outcome.Outcome.TheVariants.{Replied}
use Rattle.statement_replies.specs.Inner.Made.{CanAnswer}
use Rattle.statement_replies.specs.Outcomes.{HasOutcomeKind, IsOutcomeOf, IsToldBy, MayFail}

-- ---- what is typed can be answered

module _ (names : Names) (source : SourceState) (holds : HoldsVersions names source) (stored : AreStored names) where
  abbrev arrays : List NameEntry
  arrays = names.arrays

  valid : AreValid arrays
  valid = schemas_valid arrays stored.each

  -- what is a query can be computed
  abbrev Computes : Typed → Type 0
  Computes (AQuery plan) = CanCompute source plan
  Computes (AChange change) = Unit {0}
  Computes (Versions name) = Unit {0}
  Computes (Show name) = Unit {0}
  Computes ListArrays = Unit {0}

  queried_computes : (tree : Term) → leaves_fit tree ≡ true → IfOk (queried (query_of arrays tree)) Computes
  queried_computes tree fit = thens Computes (query_of arrays tree) _ (λ plan e. can_compute names source holds tree plan valid fit e)

  said_computes : (s : Span) (o : Option Operator) (arguments : Terms) (other : Checked Typed) → IfOk other Computes → IfOk (said arrays s o arguments other) Computes
  said_computes s (Some operator.Store) arguments other h = thens Computes (store_of arrays s arguments) _ (λ change e. tt)
  said_computes s (Some operator.Insert) arguments other h = thens Computes (insert_of arrays s arguments) _ (λ change e. tt)
  said_computes s (Some operator.Remove) arguments other h = thens Computes (array_call arrays s arguments) _ (λ name e. tt)
  said_computes s (Some operator.RemoveVersions) arguments other h = thens Computes (cut_call arrays s arguments) _ (λ change e. tt)
  said_computes s (Some operator.Versions) arguments other h = thens Computes (array_call arrays s arguments) _ (λ name e. tt)
  said_computes s (Some operator.Show) arguments other h = thens Computes (array_call arrays s arguments) _ (λ name e. tt)
  said_computes s (Some operator.ListNames) arguments other h = thens Computes (list_call s arguments) _ (λ done e. tt)
  said_computes s _ arguments other h = h

  statement_computes : (text : List ℕ) (tree : Term) → leaves_fit tree ≡ true → IfOk (statement_of arrays text tree) Computes
  statement_computes text (create s name written) fit = thens Computes (created arrays (created_place text s name) name written) _ (λ change e. tt)
  statement_computes text (call s name arguments) fit =
      said_computes s (operator_named name) arguments (queried (query_of arrays (call s name arguments))) (queried_computes (call s name arguments) fit)
  statement_computes text tree fit = queried_computes tree fit

  pub can_answer : (text : List ℕ) (tree : Term) (typed : Typed) → leaves_fit tree ≡ true → check_of tree text names ≡ Ok typed → CanAnswer names source typed
  can_answer text tree (AQuery plan) fit e = of_answer Computes (check_of tree text names) (AQuery plan) (statement_computes text tree fit) e
  can_answer text tree (AChange change) fit e = changes_typed names text tree change stored fit e
  can_answer text tree (Versions name) fit e = of_answer (NamesWhatStands names) (check_of tree text names) (Versions name) (stand names text tree) e
  can_answer text tree (Show name) fit e = of_answer (NamesWhatStands names) (check_of tree text names) (Show name) (stand names text tree) e
  can_answer text tree ListArrays fit e = tt

-- ---- what is typed breaks no rule

abbrev pub good : Typed → Checked Typed
good typed = Ok typed

-- it may fail for each reason
pub allowed_over : (checked : Checked Typed) (typed : Typed) → checked ≡ good typed → (answer : Result Outcome ExecFault) → IfErr answer (λ fault. MayFail fault checked)
allowed_over checked typed is (Ok outcome) = tt
allowed_over checked typed is (Err Source) = (typed, is)
allowed_over checked typed is (Err (Damaged page)) = (typed, is)
allowed_over checked typed is (Err Memory) = tt

-- ---- the reply over each database of these names

pub over_names : (style : Style) (names : Names) (source : SourceState) (text : List ℕ) (tree : Term) (answer : Result Outcome ExecFault)
    → IfOk answer (λ outcome. (db : Database) → IsToldBy names source db → IsOutcomeOf db (reply_to_checked style db (check_of tree text names)) outcome)
    → IfOk answer (λ outcome. (db : Database) → IsToldBy names source db → IsOutcomeOf db (reply_to style db text tree) outcome)
over_names style names source text tree (Ok outcome) told =
    λ db there. subst (λ (n : Names). IsOutcomeOf db (reply_to_checked style db (check_of tree text n)) outcome) (sym there.named) (told db there)
over_names style names source text tree (Err fault) told = tt

-- ---- queries

pub query_kind : (style : Style) (names : Names) (source : SourceState) (plan : Query) (reply : Reply) → IsRowsOver source style plan reply → HasOutcomeKind style names (Ok (AQuery plan)) (Replied reply)
query_kind style names source plan reply kind = (rows_kind source style plan reply kind, refl)

pub query_told : (style : Style) (names : Names) (source : SourceState) (plan : Query) (reply : Reply) → ((rows : Rows) → source.tells rows → reply ≡ plan_reply style rows plan)
    → (db : Database) → IsToldBy names source db → reply_to_typed style db (AQuery plan) ≡ without_change reply
query_told style names source plan reply told db there = ap without_change (sym (told (rows_of db) there.tells))

-- ---- listings

-- a listing's text over the names
pub listing_told : (names : Names) (source : SourceState) (text : Names → Reply) (reply : Reply) → reply ≡ text names
    → (db : Database) → IsToldBy names source db → without_change (text (names_of db)) ≡ without_change reply
listing_told names source text reply e db there = ap (λ n. without_change (text n)) there.named ∙ ap without_change (sym e)
