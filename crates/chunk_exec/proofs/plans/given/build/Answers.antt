use Rattle.std.proofs.Common.{ℕ, List, ◌≤◌, ◌^◌, length, sym, ap, ◌∙◌, subst}
use Rattle.array_geom.specs.Geometry.{frame_lengths, volume}
use Rattle.chunk_source.proofs.ReadingLeafLaws.{each_overlap, few_places}
use Rattle.logical_plan.specs.Meaning.{built_rows}
use Rattle.chunk_exec.proofs.ComputedLaws.{built_array, is_given}
use Rattle.chunk_exec.proofs.plans.given.build.Goals as goal

pub margins_of-requires : goal.margins_of-requires
margins_of-requires c = (built_array c.args.schema.now c.args.value.now c.requires).valid

pub built_array-requires-clause-rows : goal.built_array-requires-clause-rows
built_array-requires-clause-rows c = built_array c.args.schema.now c.args.value.now c.requires

pub built_array-requires-clause-margins : goal.built_array-requires-clause-margins
built_array-requires-clause-margins c = ap (λ (z : List ℕ). length z) c.margins_of.ensures ∙ each_overlap c.args.schema.now.dimensions

pub built_array-requires-clause-places : goal.built_array-requires-clause-places
built_array-requires-clause-places c =
    subst (λ (z : List ℕ). volume (frame_lengths c.args.schema.now.dimensions z) ≤ 2 ^ 48) (sym c.margins_of.ensures) (few_places c.args.schema.now (built_array c.args.schema.now c.args.value.now c.requires).valid)

pub returns : goal.returns
returns c = is_given c.args.schema.now (built_rows c.args.schema.now c.args.value.now) c.built_array.result c.built_array.ensures.array
