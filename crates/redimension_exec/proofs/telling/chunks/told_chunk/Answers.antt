use Rattle.std.proofs.Common.{ℕ, sym, ◌∙◌, subst}
use Rattle.arrayvec.specs.ArrayVec.{ArrayVec}
use Rattle.array_geom.specs.Geometry.{HasFrame}
use Rattle.redimension_exec.proofs.TellLaws.{told_apart, told_here, told_inside, told_values}
use Rattle.redimension_exec.proofs.telling.chunks.told_chunk.Goals as goal

pub rows_held-requires-clause-framed : goal.rows_held-requires-clause-framed
rows_held-requires-clause-framed c = c.requires.1.framed

pub rows_held-requires-clause-in_frame : goal.rows_held-requires-clause-in_frame
rows_held-requires-clause-in_frame c = c.requires.1.part.in_frame

pub in_order-requires : goal.in_order-requires
in_order-requires c = told_apart c.args.target.now c.args.margins.now.items c.requires.0 c.args.chunk c.requires.1 c.in_ok-rows.rows c.in_ok-rows.ensures

pub fit_rows-requires : goal.fit_rows-requires
fit_rows-requires c =
    told_values c.args.target.now c.args.margins.now.items c.requires.0 c.args.chunk c.requires.1 c.as_slice.result.now c.in_ok-rows.rows c.in_ok-sorted.sorted c.as_slice.ensures c.in_ok-rows.ensures c.in_ok-sorted.ensures

pub chunk_of_rows-requires-clause-framed : goal.chunk_of_rows-requires-clause-framed
chunk_of_rows-requires-clause-framed c = subst (λ (k : ArrayVec ℕ). HasFrame c.args.target.now c.args.margins.now.items k.items) (sym c.copy_numbers-number.ensures) c.requires.1.framed

pub chunk_of_rows-requires-clause-inside : goal.chunk_of_rows-requires-clause-inside
chunk_of_rows-requires-clause-inside c =
    told_inside c.args.target.now c.args.margins.now.items c.requires.0 c.args.chunk c.requires.1 c.copy_numbers-number.result c.in_ok-told.told c.copy_numbers-number.ensures
    (told_here c.args.target.now c.args.margins.now.items c.requires.0 c.args.chunk c.requires.1 c.as_slice.result.now c.in_ok-rows.rows c.in_ok-sorted.sorted c.in_ok-told.told c.as_slice.ensures c.in_ok-rows.ensures c.in_ok-sorted.ensures c.in_ok-told.ensures)

pub returns : goal.returns
returns c = record {
  at = c.in_ok-made.ensures.number ∙ c.copy_numbers-number.ensures;
  placed = c.in_ok-made.ensures.placed;
  rows = c.in_ok-made.ensures.rows
      ∙ told_here c.args.target.now c.args.margins.now.items c.requires.0 c.args.chunk c.requires.1 c.as_slice.result.now c.in_ok-rows.rows c.in_ok-sorted.sorted c.in_ok-told.told c.as_slice.ensures c.in_ok-rows.ensures c.in_ok-sorted.ensures c.in_ok-told.ensures;
}
