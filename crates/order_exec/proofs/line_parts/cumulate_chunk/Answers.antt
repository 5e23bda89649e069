use Rattle.std.proofs.Common.{ℤ, IfOk, List, subst, ap, ◌∙◌, rules}
use mir.Val.{SFits}
use mir.Syntax.{w64}
use Rattle.std.proofs.lemmas.Int.{to_z-of_z}
use Rattle.cell_values.specs.declared.schema.Dimension.{Dimension}
use Rattle.array_geom.specs.declared.chunk.Chunk.{Chunk}
use Rattle.order_exec.specs.Continued.{ContinuesLines}
use Rattle.order_exec.specs.Lines.{low_along}
use Rattle.order_exec.proofs.line_parts.cumulate_chunk.Goals as goal

pub returns-clause-rows : goal.returns-clause-rows
returns-clause-rows c =
    let fits : SFits w64 c.low_of.result = search rules in
    let low = c.low_of.ensures ∙ ap (λ (dims : List Dimension). low_along dims c.args.dim) c.as_slice.ensures in
    subst (λ (chunk : Chunk). IfOk c.chunk_after.result (ContinuesLines c.args.dim (low_along c.args.schema.now.dimensions c.args.dim) c.args.aggs.now c.args.before.now.lines c.args.schema.now.dimensions c.args.margins.now.items chunk)) c.in_ok-copy.ensures
    (subst (λ (z : ℤ). IfOk c.chunk_after.result (ContinuesLines c.args.dim z c.args.aggs.now c.args.before.now.lines c.args.schema.now.dimensions c.args.margins.now.items c.in_ok-copy.field-0)) low
    (simp to_z-of_z at c.chunk_after.ensures.rows))
