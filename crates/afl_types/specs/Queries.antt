-- Queries: the plan that a tree is, over the stored arrays, or the first rule that it breaks.
--
-- At a call the name is tested first, then the number of arguments, then the source wholly, then the sort of each further argument from
-- left to right, and then the operator's own rules in their order.
use Rattle.std.specs.Prelude.{ℕ, length, Option, Some, None, List}
use Rattle.cell_values.specs.declared.name.Span.{Span}
use Rattle.schema_grammar.specs.declared.kinds.TypeKind.TheVariants.{WrongCount}
use Rattle.afl_trees.specs.Term.{Term, call, group, Terms, no_terms, and_term}
use Rattle.logical_plan.specs.Query.{Query}
use Rattle.logical_plan.specs.declared.names.NameEntry.{NameEntry}
use Rattle.check_rules.specs.Checked.{Checked, refused, demand, then}
use Rattle.check_rules.specs.Operators.{operator_named}
use Rattle.check_rules.specs.Sorts.{to_list}
use Rattle.check_sources.specs.Build.{build_call}
use Rattle.check_sources.specs.Stored.{referred, scan_call}
use Rattle.afl_types.specs.Calls.{call_of, fits_count, fits_two, ruled, ruled_two}
use Rattle.afl_types.specs.Content.{content_span}
use Rattle.afl_types.specs.Nested.{nested}
use Rattle.afl_types.specs.declared.queries.call.Call.{Call}
use Rattle.afl_types.specs.declared.queries.call.Call.TheVariants.{Build, Scan, Over, Two}
use Rattle.afl_types.specs.declared.queries.call.OverSource.{OverSource}
use Rattle.afl_types.specs.declared.queries.call.OverTwo.{OverTwo}

-- an operator on a source, whose content stands at a place: how many arguments stand behind it, then the source, then they and the operator's own rules
abbrev pub over : Span → OverSource → Span → Checked Query → List Term → Checked Query
over s operator at source arguments = demand (fits_count operator (length arguments)) s WrongCount (then source (λ plan. ruled s operator at plan arguments))

-- an operator on two sources, the left one's content at a place: how many arguments stand behind them, then the left source, then the right one,
-- then the arguments and the operator's own rules
abbrev pub over_two : Span → OverTwo → Span → Checked Query → Checked Query → List Term → Checked Query
over_two s operator at left right arguments =
    demand (fits_two operator (length arguments)) s WrongCount (then left (λ l. then right (λ r. ruled_two s operator at l r arguments)))

-- A bracketed query is the query in the brackets.
module _ (arrays : List NameEntry) where
  abbrev mutual
    pub query_of : Term → Checked Query
    query_of (group s a) = query_of a
    query_of (call s name arguments) = called s name (call_of (operator_named name)) arguments
    query_of t = referred arrays t

    pub called : Span → List ℕ → Option Call → Terms → Checked Query
    called s name (Some Build) arguments = build_call s arguments
    called s name (Some Scan) arguments = scan_call arrays s arguments
    called s name (Some (Over operator)) (and_term source arguments) = over s operator (content_span source) (query_of source) (to_list arguments)
    called s name (Some (Over operator)) no_terms = refused s WrongCount
    called s name (Some (Two operator)) (and_term left (and_term right arguments)) =
        over_two s operator (content_span left) (query_of left) (query_of right) (to_list arguments)
    called s name (Some (Two operator)) (and_term left no_terms) = refused s WrongCount
    called s name (Some (Two operator)) no_terms = refused s WrongCount
    called s name None arguments = nested s name (operator_named name)
