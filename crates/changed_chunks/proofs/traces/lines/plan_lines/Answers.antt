use Rattle.std.proofs.Common.{◌∙◌, List, length, sym, ap, subst}
use Rattle.std.specs.List.{AllByRecursion}
use Rattle.cell_values.specs.Schemas.{IsValid}
use Rattle.cell_values.specs.declared.schema.Bounds.{Bounds}
use Rattle.logical_plan.specs.declared.parts.Leaf.{Leaf}
use Rattle.chunk_source.specs.Source.{Reads}
use Rattle.chunk_source.proofs.SufficientLaws.{whole_needs}
use Rattle.changed_chunks.proofs.Tracing.{over_alone, told_alone, valid_leaves}
use Rattle.changed_chunks.proofs.traces.lines.plan_lines.Goals as goal

pub push_lines-requires-clause-reads : goal.push_lines-requires-clause-reads
push_lines-requires-clause-reads g c =
    subst (AllByRecursion (Reads (g.S.ChunkSource.state c.args.source.now))) (sym (c.as_slice.ensures ∙ c.in_ok-leaves.ensures)) c.requires.reads

pub push_lines-requires-clause-valid : goal.push_lines-requires-clause-valid
push_lines-requires-clause-valid g c =
    subst (AllByRecursion (λ leaf. IsValid leaf.schema)) (sym (c.as_slice.ensures ∙ c.in_ok-leaves.ensures)) (valid_leaves c.args.plan.now c.requires.typed)

pub push_lines-requires-clause-each : goal.push_lines-requires-clause-each
push_lines-requires-clause-each g c =
    ap (λ (boxes : List Bounds). length boxes) (c.as_slice-2.ensures ∙ c.in_ok-boxes.ensures) ∙ whole_needs c.args.plan.now
    ∙ sym (ap (λ (all : List Leaf). length all) (c.as_slice.ensures ∙ c.in_ok-leaves.ensures))

pub returns-clause-over : goal.returns-clause-over
returns-clause-over g c =
    over_alone (g.S.ChunkSource.state c.args.source.now) c.args.plan.now c.as_slice.result.now c.as_slice-2.result.now _ _ c.new-lines.ensures
    (c.as_slice.ensures ∙ c.in_ok-leaves.ensures) (c.as_slice-2.ensures ∙ c.in_ok-boxes.ensures) c.in_ok-push_lines.ensures.lines

pub returns-clause-told : goal.returns-clause-told
returns-clause-told g c =
    told_alone (g.S.ChunkSource.state c.args.source.now) c.args.plan.now c.as_slice.result.now c.as_slice-2.result.now _ _ c.new-lines.ensures
    (c.as_slice.ensures ∙ c.in_ok-leaves.ensures) (c.as_slice-2.ensures ∙ c.in_ok-boxes.ensures) c.in_ok-push_lines.ensures.lines

pub returns-clause-kept : goal.returns-clause-kept
returns-clause-kept g c = c.in_ok-push_lines.ensures.kept

pub returns-in_err-push_lines-clause-start : goal.returns-in_err-push_lines-clause-start
returns-in_err-push_lines-clause-start g c = c.in_err-push_lines.ensures.start

pub returns-clause-asked : goal.returns-clause-asked
returns-clause-asked g c = c.in_ok-push_lines.ensures.asked

pub returns-in_err-push_lines-clause-kept : goal.returns-in_err-push_lines-clause-kept
returns-in_err-push_lines-clause-kept g c = c.in_err-push_lines.ensures.kept

pub returns-clause-cause : goal.returns-clause-cause
returns-clause-cause g c = c.in_ok-push_lines.ensures.cause

pub returns-in_err-push_lines-clause-asked : goal.returns-in_err-push_lines-clause-asked
returns-in_err-push_lines-clause-asked g c = c.in_err-push_lines.ensures.asked

pub returns-clause-start : goal.returns-clause-start
returns-clause-start g c = c.in_ok-push_lines.ensures.start
