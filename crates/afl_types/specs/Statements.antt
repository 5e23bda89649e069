-- Statements: what a tree is over the stored arrays, or the first rule that it breaks.
--
-- Only the whole statement may create an array, change arrays or list something; any other tree is a query. At a call of an operator
-- that does so the number of arguments is tested first, then each argument at its turn, a query wholly, and then the rules of the
-- operator in their order.
use Rattle.std.specs.Prelude.{ℕ, Option, Some, Ok, List}
use Rattle.cell_values.specs.declared.name.Span.{Span}
use Rattle.schema_grammar.specs.declared.kinds.TypeKind.TheVariants.{WrongCount}
use Rattle.afl_trees.specs.Term.{Term, create, call, Terms, no_terms, and_term}
use Rattle.logical_plan.specs.Query.{Query}
use Rattle.logical_plan.specs.declared.names.NameEntry.{NameEntry}
use Rattle.plan_changes.specs.declared.change.Change.{Change}
use Rattle.plan_changes.specs.declared.change.Change.TheVariants as change
use Rattle.check_rules.specs.Checked.{Checked, refused, then}
use Rattle.check_rules.specs.Operators.{operator_named}
use Rattle.check_rules.specs.declared.rules.operator.Operator.{Operator}
use Rattle.check_rules.specs.declared.rules.operator.Operator.TheVariants as operator
use Rattle.afl_types.specs.Changes.{created, store_call, insert_call, array_call, cut_call, list_call}
use Rattle.afl_types.specs.Place.{created_place}
use Rattle.afl_types.specs.Queries.{query_of}
use Rattle.afl_types.specs.declared.types.statements.checking.Typed.{Typed}
use Rattle.afl_types.specs.declared.types.statements.checking.Typed.TheVariants.{Query as AQuery, Change as AChange, Versions, Show, ListArrays}

abbrev pub queried : Checked Query → Checked Typed
queried checked = then checked (λ plan. Ok (AQuery plan))

abbrev pub changed : Checked Change → Checked Typed
changed checked = then checked (λ change. Ok (AChange change))

-- `remove`, `versions` and `show` of the name of a stored array
abbrev pub removed : Checked (List ℕ) → Checked Typed
removed checked = then checked (λ name. Ok (AChange (change.Remove name)))

abbrev pub numbered : Checked (List ℕ) → Checked Typed
numbered checked = then checked (λ name. Ok (Versions name))

abbrev pub shown : Checked (List ℕ) → Checked Typed
shown checked = then checked (λ name. Ok (Show name))

-- `list` of what may be listed
abbrev pub listed : Checked (Unit {0}) → Checked Typed
listed checked = then checked (λ done. Ok ListArrays)

-- `store` of a query and a name
abbrev pub store_of : List NameEntry → Span → Terms → Checked Change
store_of arrays s (and_term q (and_term n no_terms)) = then (query_of arrays q) (λ plan. store_call arrays s plan n)
store_of arrays s arguments = refused s WrongCount

-- `insert` of a query and a name
abbrev pub insert_of : List NameEntry → Span → Terms → Checked Change
insert_of arrays s (and_term q (and_term n no_terms)) = then (query_of arrays q) (λ plan. insert_call arrays s plan n)
insert_of arrays s arguments = refused s WrongCount

-- a call of an operator that changes arrays or lists something, or else something other
abbrev pub said : List NameEntry → Span → Option Operator → Terms → Checked Typed → Checked Typed
said arrays s (Some operator.Store) arguments other = changed (store_of arrays s arguments)
said arrays s (Some operator.Insert) arguments other = changed (insert_of arrays s arguments)
said arrays s (Some operator.Remove) arguments other = removed (array_call arrays s arguments)
said arrays s (Some operator.RemoveVersions) arguments other = changed (cut_call arrays s arguments)
said arrays s (Some operator.Versions) arguments other = numbered (array_call arrays s arguments)
said arrays s (Some operator.Show) arguments other = shown (array_call arrays s arguments)
said arrays s (Some operator.ListNames) arguments other = listed (list_call s arguments)
said arrays s _ arguments other = other

-- what a tree of a text is as a statement
abbrev pub statement_of : List NameEntry → List ℕ → Term → Checked Typed
statement_of arrays text (create s name written) = changed (created arrays (created_place text s name) name written)
statement_of arrays text (call s name arguments) = said arrays s (operator_named name) arguments (queried (query_of arrays (call s name arguments)))
statement_of arrays text t = queried (query_of arrays t)
