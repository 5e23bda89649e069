-- A query's plan can be computed where the versions of its names are.
use Rattle.std.proofs.Common.{◌≡◌, true, List, [], ◌∷◌, Ok}
use Rattle.std.specs.List.{AllByRecursion}
use Rattle.afl_trees.specs.Term.{Term}
use Rattle.logical_plan.specs.declared.names.Names.{Names}
use Rattle.logical_plan.specs.declared.parts.Leaf.{Leaf}
use Rattle.logical_plan.specs.Leaves.{leaves}
use Rattle.logical_plan.specs.Query.{Query}
use Rattle.plan_changes.specs.Typed.{IsVersionOf}
use Rattle.check_exprs.specs.Laws.{leaves_fit}
use Rattle.check_sources.specs.Stored.{entry_named}
use Rattle.afl_types.proofs.ReadVersions.{plan_reads}
use Rattle.afl_types.proofs.TypedQueries.{checked_typed}
use Rattle.afl_types.specs.Arrays.{AreValid}
use Rattle.afl_types.specs.Queries.{query_of}
use Rattle.chunk_source.specs.Source.{SourceState, Reads}
use Rattle.chunk_exec.specs.Computed.{CanCompute}
use Rattle.statement_replies.specs.Reading.{HoldsVersions}

-- a checked plan can be computed over a source that has the versions of its names
module _ (names : Names) (source : SourceState) (holds : HoldsVersions names source) where
  all_read : (all : List Leaf) → AllByRecursion (λ leaf. IsVersionOf leaf (entry_named names.arrays leaf.name)) all → AllByRecursion (Reads source) all
  all_read [] reads = tt
  all_read (leaf ∷ all) reads = (holds leaf reads.0, all_read all reads.1)

  pub can_compute : (tree : Term) (plan : Query) → AreValid names.arrays → leaves_fit tree ≡ true → query_of names.arrays tree ≡ Ok plan → CanCompute source plan
  can_compute tree plan valid fit is = record {
    typed = checked_typed names.arrays tree plan valid fit is;
    reads = all_read (leaves plan) (plan_reads names.arrays tree plan is);
  }
