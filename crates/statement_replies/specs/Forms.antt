-- The form of a statement: a query, a change or a listing.
use Rattle.std.specs.Prelude.{◌≡◌, ℕ, List, Option, Some, Ok}
use Rattle.afl_trees.specs.Term.{Term, create, call}
use Rattle.logical_plan.specs.declared.names.Names.{Names}
use Rattle.check_rules.specs.Operators.{operator_named}
use Rattle.check_rules.specs.declared.rules.operator.Operator.{Operator}
use Rattle.check_rules.specs.declared.rules.operator.Operator.TheVariants as operator
use Rattle.afl_types.specs.Checking.{check_of}
use Rattle.afl_types.specs.declared.types.statements.checking.Typed.{Typed}
use Rattle.afl_types.specs.declared.types.statements.checking.Typed.TheVariants.{Query as AQuery, Change as AChange, Versions, Show, ListArrays}
use Rattle.result_print.specs.declared.refusal.Refusal.{Refusal}
use Rattle.statement_replies.specs.Reply.{refused}
use Rattle.statement_replies.specs.declared.replies.replies.Reply.{Reply}
use Rattle.statement_replies.specs.declared.replies.style.Style.{Style}
use Rattle.statement_replies.specs.declared.answers.outcome.Outcome.TheVariants.{Replied}
use Rattle.statement_replies.specs.Outcomes.{HasOutcomeKind}

pub data Form : Type 0 where
  a_query : Form
  a_change : Form
  a_listing : Form

abbrev pub form_of : Typed → Form
form_of (AQuery plan) = a_query
form_of (AChange change) = a_change
form_of (Versions name) = a_listing
form_of (Show name) = a_listing
form_of ListArrays = a_listing

-- a call of an operator that changes arrays is a change, and of one that lists something a listing
abbrev pub form_called : Option Operator → Form
form_called (Some operator.Store) = a_change
form_called (Some operator.Insert) = a_change
form_called (Some operator.Remove) = a_change
form_called (Some operator.RemoveVersions) = a_change
form_called (Some operator.Versions) = a_listing
form_called (Some operator.Show) = a_listing
form_called (Some operator.ListNames) = a_listing
form_called other = a_query

-- so is `create array`, and any other tree is a query
abbrev pub form_said : Term → Form
form_said (create s name written) = a_change
form_said (call s name arguments) = form_called (operator_named name)
form_said tree = a_query

-- a statement that is typed has the form of its tree
abbrev pub FormsAreSaid : Type 0
FormsAreSaid = (names : Names) (text : List ℕ) (tree : Term) (typed : Typed) → check_of tree text names ≡ Ok typed → form_of typed ≡ form_said tree

-- so over all stored arrays it has the same one
abbrev pub FormsStay : Type 0
FormsStay = (a b : Names) (text : List ℕ) (tree : Term) (x y : Typed) → check_of tree text a ≡ Ok x → check_of tree text b ≡ Ok y → form_of x ≡ form_of y

-- a tree of a change that has a reply alone is refused
abbrev pub ChangesReplyRefusals : Type 0
ChangesReplyRefusals = (style : Style) (names : Names) (text : List ℕ) (tree : Term) (reply : Reply) → form_said tree ≡ a_change
    → HasOutcomeKind style names (check_of tree text names) (Replied reply) → (refusal : Refusal) × (reply ≡ refused refusal)
