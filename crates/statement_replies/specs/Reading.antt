-- What is read for a query.
use Rattle.logical_plan.specs.declared.names.Names.{Names}
use Rattle.logical_plan.specs.declared.parts.Leaf.{Leaf}
use Rattle.plan_changes.specs.Typed.{IsVersionOf}
use Rattle.check_sources.specs.Stored.{entry_named}
use Rattle.chunk_source.specs.Source.{SourceState, Reads}

-- the source has the versions that stand under these names
abbrev pub HoldsVersions : Names → SourceState → Type 0
HoldsVersions names source = (leaf : Leaf) → IsVersionOf leaf (entry_named names.arrays leaf.name) → Reads source leaf
