-- The plans of operators can be executed over a source that has the array.
use Rattle.std.proofs.Common.{◌≡◌, refl, sym, subst}
use Rattle.std.specs.List.{AllByRecursion}
use Rattle.logical_plan.specs.Leaves.{leaves}
use Rattle.logical_plan.specs.Query.{Query}
use Rattle.logical_plan.specs.Typing.{IsTyped}
use Rattle.chunk_source.specs.Source.{Reads, SourceState}
use Rattle.chunk_exec.specs.Computed.{CanCompute}
use Rattle.test_sources.specs.Example.{leaf}
use Rattle.test_sources.specs.Operators.{plan_of, stored}
use Rattle.test_sources.specs.declared.layout.Layout.TheVariants.{Pairs}
use Rattle.test_sources.specs.declared.operators.Input.{Input}
use Rattle.test_sources.specs.declared.operators.Input.TheVariants.{Stored, Doubtful}
use Rattle.test_sources.specs.declared.operators.Operator.{Operator}
use Rattle.test_sources.specs.declared.operators.Operator.TheVariants.{Sort, Rank, Cumulate, Transpose, Reverse, Unpack, Xgrid, Merge, Concat}

typed_stored : IsTyped stored
typed_stored = refl

typed : (operator : Operator) (input : Input) → IsTyped (plan_of operator input)
typed Sort Stored = (typed_stored, refl, refl, refl)
typed Sort Doubtful = ((refl, refl), refl, refl, refl)
typed Rank Stored = (typed_stored, refl, refl)
typed Rank Doubtful = ((refl, refl), refl, refl)
typed Cumulate Stored = (typed_stored, refl, refl)
typed Cumulate Doubtful = ((refl, refl), refl, refl)
typed Transpose Stored = (typed_stored, refl)
typed Transpose Doubtful = ((refl, refl), refl)
typed Reverse Stored = (typed_stored, refl)
typed Reverse Doubtful = ((refl, refl), refl)
typed Unpack Stored = (typed_stored, refl, refl)
typed Unpack Doubtful = ((refl, refl), refl, refl)
typed Xgrid Stored = (typed_stored, refl, refl)
typed Xgrid Doubtful = ((refl, refl), refl, refl)
typed Merge Stored = ((refl, refl), (typed_stored, refl), refl, refl)
typed Merge Doubtful = ((refl, refl), (typed_stored, refl), refl, refl)
typed Concat Stored = (typed_stored, typed_stored, refl, refl)
typed Concat Doubtful = ((refl, refl), typed_stored, refl, refl)

reads_of : (source : SourceState) (operator : Operator) (input : Input) → Reads source (leaf Pairs) → AllByRecursion (Reads source) (leaves (plan_of operator input))
reads_of source Sort Stored r = (r, tt)
reads_of source Sort Doubtful r = (r, tt)
reads_of source Rank Stored r = (r, tt)
reads_of source Rank Doubtful r = (r, tt)
reads_of source Cumulate Stored r = (r, tt)
reads_of source Cumulate Doubtful r = (r, tt)
reads_of source Transpose Stored r = (r, tt)
reads_of source Transpose Doubtful r = (r, tt)
reads_of source Reverse Stored r = (r, tt)
reads_of source Reverse Doubtful r = (r, tt)
reads_of source Unpack Stored r = (r, tt)
reads_of source Unpack Doubtful r = (r, tt)
reads_of source Xgrid Stored r = (r, tt)
reads_of source Xgrid Doubtful r = (r, tt)
reads_of source Merge Stored r = (r, (r, tt))
reads_of source Merge Doubtful r = (r, (r, tt))
reads_of source Concat Stored r = (r, (r, tt))
reads_of source Concat Doubtful r = (r, (r, tt))

pub can_execute : (operator : Operator) (input : Input) (source : SourceState) (query : Query) → query ≡ plan_of operator input → Reads source (leaf Pairs) → CanCompute source query
can_execute operator input source query is reads =
    subst (λ (q : Query). CanCompute source q) (sym is) (record { typed = typed operator input; reads = reads_of source operator input reads })
