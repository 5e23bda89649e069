-- The filter can be executed over a source that has its leaf.
use Rattle.std.proofs.Common.{◌≡◌, refl, sym, subst}
use Rattle.logical_plan.specs.Query.{Query}
use Rattle.logical_plan.specs.Typing.{IsTyped}
use Rattle.chunk_source.specs.Source.{Reads, SourceState}
use Rattle.chunk_exec.specs.Computed.{CanCompute}
use Rattle.test_sources.specs.Example.{above_five, leaf}
use Rattle.test_sources.specs.declared.layout.Layout.{Layout}
use Rattle.test_sources.specs.declared.layout.Layout.TheVariants.{Singles, Pairs, Whole}

pub typed : (layout : Layout) → IsTyped (above_five layout)
typed Singles = (refl, refl)
typed Pairs = (refl, refl)
typed Whole = (refl, refl)

pub can_compute : (layout : Layout) (source : SourceState) (query : Query) → query ≡ above_five layout → Reads source (leaf layout) → CanCompute source query
can_compute layout source query is reads = subst (λ (q : Query). CanCompute source q) (sym is) (record { typed = typed layout; reads = (reads, tt) })
