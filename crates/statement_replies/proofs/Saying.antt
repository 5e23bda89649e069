-- The form of a statement is told by its tree.
use Rattle.std.proofs.Common.{◌≡◌, inl, inr, ℕ, List, Option, Some, None, Ok, Err, IfOk, refl, sym, ap, ◌∙◌}
use Rattle.cell_values.specs.declared.name.Span.{Span}
use Rattle.afl_trees.specs.Term.{Term, create, call, Terms}
use Rattle.logical_plan.specs.Query.{Query}
use Rattle.logical_plan.specs.declared.names.NameEntry.{NameEntry}
use Rattle.logical_plan.specs.declared.names.Names.{Names}
use Rattle.plan_changes.specs.declared.change.Change.{Change}
use Rattle.plan_changes.specs.declared.change.Change.TheVariants.{Create, Store, Insert, Remove, RemoveVersions}
use Rattle.afl_types.specs.Queries.{query_of}
use Rattle.check_rules.specs.Checked.{Checked}
use Rattle.check_rules.specs.Operators.{operator_named}
use Rattle.check_rules.specs.declared.rules.operator.Operator.{Operator}
use Rattle.check_rules.specs.declared.rules.operator.Operator.TheVariants as operator
use Rattle.check_rules.proofs.RulesHolding.{of_answer, thens}
use Rattle.afl_types.specs.Changes.{array_call, created, cut_call, list_call}
use Rattle.afl_types.specs.Checking.{check_of}
use Rattle.afl_types.specs.Place.{created_place}
use Rattle.afl_types.specs.Statements.{changed, insert_of, queried, said, statement_of, store_of}
use Rattle.afl_types.specs.declared.types.statements.checking.Typed.{Typed}
use Rattle.afl_types.specs.declared.types.statements.checking.Typed.TheVariants.{Query as AQuery, Change as AChange, Versions, Show, ListArrays}
use Rattle.result_print.specs.declared.refusal.Refusal.{Refusal}
use Rattle.result_print.specs.declared.refusal.Refusal.TheVariants.{Cell, Typing}
use Rattle.statement_replies.specs.Reply.{refused}
use Rattle.statement_replies.specs.StatementKinds.{HasChangeKind, HasStatementKind, IsAccepted, MayBreak}
use Rattle.statement_replies.specs.Statements.{Accepted, without_change}
use Rattle.statement_replies.specs.declared.replies.replies.Reply.{Reply}
use Rattle.statement_replies.specs.declared.replies.style.Style.{Style}
use Rattle.statement_replies.specs.Forms.{Form, a_query, a_change, a_listing, form_of, form_called, form_said, ChangesReplyRefusals, FormsAreSaid, FormsStay}

abbrev Has : Form → Typed → Type 0
Has form typed = form_of typed ≡ form

queried_has : (c : Checked Query) → IfOk (queried c) (Has a_query)
queried_has c = thens (Has a_query) c _ (λ plan e. refl)

changed_has : (c : Checked Change) → IfOk (changed c) (Has a_change)
changed_has c = thens (Has a_change) c _ (λ change e. refl)

said_has : (arrays : List NameEntry) (s : Span) (o : Option Operator) (arguments : Terms) (other : Checked Typed) → IfOk other (Has a_query) → IfOk (said arrays s o arguments other) (Has (form_called o))
said_has arrays s (Some operator.Store) arguments other h = changed_has (store_of arrays s arguments)
said_has arrays s (Some operator.Insert) arguments other h = changed_has (insert_of arrays s arguments)
said_has arrays s (Some operator.Remove) arguments other h = thens (Has a_change) (array_call arrays s arguments) _ (λ name e. refl)
said_has arrays s (Some operator.RemoveVersions) arguments other h = changed_has (cut_call arrays s arguments)
said_has arrays s (Some operator.Versions) arguments other h = thens (Has a_listing) (array_call arrays s arguments) _ (λ name e. refl)
said_has arrays s (Some operator.Show) arguments other h = thens (Has a_listing) (array_call arrays s arguments) _ (λ name e. refl)
said_has arrays s (Some operator.ListNames) arguments other h = thens (Has a_listing) (list_call s arguments) _ (λ done e. refl)
said_has arrays s _ arguments other h = h

statement_has : (arrays : List NameEntry) (text : List ℕ) (tree : Term) → IfOk (statement_of arrays text tree) (Has (form_said tree))
statement_has arrays text (create s name written) = changed_has (created arrays (created_place text s name) name written)
statement_has arrays text (call s name arguments) =
    said_has arrays s (operator_named name) arguments (queried (query_of arrays (call s name arguments))) (queried_has (query_of arrays (call s name arguments)))
statement_has arrays text tree = queried_has (query_of arrays tree)

pub forms_said : FormsAreSaid
forms_said names text tree typed e = of_answer (Has (form_said tree)) (check_of tree text names) typed (statement_has names.arrays text tree) e

pub forms_stay : FormsStay
forms_stay a b text tree x y e f = forms_said a text tree x e ∙ sym (forms_said b text tree y f)

-- ---- a reply to a change

abbrev IsRefusal : Reply → Type 0
IsRefusal reply = (refusal : Refusal) × (reply ≡ refused refusal)

-- an answer without a change is none that accepts one
none_accepted : (style : Style) (names : Names) (change : Change) (reply : Reply) → IsAccepted style names change (without_change reply) → IsRefusal reply
none_accepted style names change reply is = absurd (let no : None ≡ Some change = is.1 in cc)

may_refuse : (style : Style) (names : Names) (change : Change) (reply : Reply) → MayBreak style names change (without_change reply) → IsRefusal reply
may_refuse style names change reply (inl is) = none_accepted style names change reply is
may_refuse style names change reply (inr fault) = (Cell fault.0.at fault.0.kind, ap (λ (a : Accepted). a.reply) fault.1)

change_refused : (style : Style) (names : Names) (change : Change) (reply : Reply) → HasChangeKind style names change (without_change reply) → IsRefusal reply
change_refused style names (Create name schema) reply is = none_accepted style names (Create name schema) reply is
change_refused style names (Store name schema plan) reply kind = may_refuse style names (Store name schema plan) reply kind
change_refused style names (Insert name schema plan) reply kind = may_refuse style names (Insert name schema plan) reply kind
change_refused style names (Remove name) reply is = none_accepted style names (Remove name) reply is
change_refused style names (RemoveVersions name below) reply is = none_accepted style names (RemoveVersions name below) reply is

reply_refused : (style : Style) (names : Names) (reply : Reply) (checked : Checked Typed) → IfOk checked (Has a_change) → HasStatementKind style names checked (without_change reply) → IsRefusal reply
reply_refused style names reply (Ok (AQuery plan)) form kind = absurd (let no : a_query ≡ a_change = form in cc)
reply_refused style names reply (Ok (AChange change)) form kind = change_refused style names change reply kind
reply_refused style names reply (Ok (Versions name)) form kind = absurd (let no : a_listing ≡ a_change = form in cc)
reply_refused style names reply (Ok (Show name)) form kind = absurd (let no : a_listing ≡ a_change = form in cc)
reply_refused style names reply (Ok ListArrays) form kind = absurd (let no : a_listing ≡ a_change = form in cc)
reply_refused style names reply (Err breach) form kind = (Typing breach.span breach.kind, ap (λ (a : Accepted). a.reply) kind)

-- the form is a change's, whatever the tree is
form_is : (checked : Checked Typed) (form : Form) → IfOk checked (Has form) → form ≡ a_change → IfOk checked (Has a_change)
form_is (Ok typed) form has e = has ∙ e
form_is (Err breach) form has e = tt

pub changes_refused : ChangesReplyRefusals
changes_refused style names text tree reply e kind =
    reply_refused style names reply (check_of tree text names) (form_is (check_of tree text names) (form_said tree) (statement_has names.arrays text tree) e) kind
