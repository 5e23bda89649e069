use Rattle.std.proofs.Common.{List, length, ap, ◌∙◌, subst, arith}
use Rattle.std.specs.Prelude.{OnErr}
use Rattle.cell_values.specs.declared.schema.Bounds.{Bounds}
use Rattle.logical_plan.specs.Leaves.{leaves}
use Rattle.chunk_source.specs.Source.{AsksFront}
use Rattle.chunk_source.proofs.SufficientLaws.{whole_needs}
use Rattle.chunk_exec.specs.Computed.{asked_in_boxes}
use Rattle.chunk_exec.proofs.ComputedLaws.{front_none}
use Rattle.chunk_exec.proofs.ExecutedLaws.{in_its_boxes}
use Rattle.chunk_exec.proofs.plans.running.run.Goals as goal

pub compute-requires-clause-enough : goal.compute-requires-clause-enough
compute-requires-clause-enough g c =
    let same = c.as_slice.ensures ∙ c.in_ok-boxes.ensures in
    let many = ap (λ z. length z) same ∙ whole_needs c.args.plan.now in
    omega (arith, many)

pub returns-clause-computed : goal.returns-clause-computed
returns-clause-computed g c =
    in_its_boxes c.compute.result c.as_slice.result.now (g.S.ChunkSource.state c.args.source.now) (g.S.ChunkSource.state c.compute.new.source) c.args.plan.now (c.as_slice.ensures ∙ c.in_ok-boxes.ensures)
    c.compute.ensures.computed

pub returns-clause-front : goal.returns-clause-front
returns-clause-front g c =
    let old = g.S.ChunkSource.state c.args.source.now in
    let new = g.S.ChunkSource.state c.compute.new.source in
    subst (λ (boxes : List Bounds). OnErr c.compute.result (AsksFront (asked_in_boxes old 0 (leaves c.args.plan.now) boxes) old new))
    (c.as_slice.ensures ∙ c.in_ok-boxes.ensures) c.compute.ensures.front

pub returns-in_err-boxes-clause-front : goal.returns-in_err-boxes-clause-front
returns-in_err-boxes-clause-front g c = front_none c.from_residual.result _ _
