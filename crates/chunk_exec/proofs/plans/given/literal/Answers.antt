use Rattle.std.proofs.Common.{ℕ, List, ◌≤◌, ◌^◌, length, sym, ap, ◌∙◌, subst}
use Rattle.array_geom.specs.Geometry.{frame_lengths, volume}
use Rattle.chunk_source.proofs.ReadingLeafLaws.{each_overlap, few_places}
use Rattle.chunk_exec.proofs.ComputedLaws.{is_given}
use Rattle.chunk_exec.proofs.plans.given.literal.Goals as goal

pub assemble-requires-clause-margins : goal.assemble-requires-clause-margins
assemble-requires-clause-margins c = ap (λ (z : List ℕ). length z) c.margins_of.ensures ∙ each_overlap c.args.schema.now.dimensions

pub assemble-requires-clause-places : goal.assemble-requires-clause-places
assemble-requires-clause-places c = subst (λ (z : List ℕ). volume (frame_lengths c.args.schema.now.dimensions z) ≤ 2 ^ 48) (sym c.margins_of.ensures) (few_places c.args.schema.now c.requires.valid)

pub returns : goal.returns
returns c = is_given c.args.schema.now c.args.rows.now c.assemble.result c.assemble.ensures.array
