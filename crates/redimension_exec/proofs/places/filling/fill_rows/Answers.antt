use Rattle.std.proofs.Common.{ℤ, ◌+◌, map, drop, Some, sym, subst}
use Rattle.arrayvec.specs.ArrayVec.{ArrayVec}
use Rattle.redimension_exec.specs.Inner.Filling.{Fill}
use Rattle.redimension_exec.specs.Inner.Places.{origin}
use Rattle.redimension_exec.proofs.FillLaws.{fill_breaks, fill_more, row_next}
use Rattle.redimension_exec.proofs.places.filling.fill_rows.Goals as goal

pub returns-in-Some : goal.returns-in-Some
returns-in-Some c =
    let to = c.args.to.now in
    let i = c.loop-row.row-index in
    let rows = c.as_slice-row-items.result.now in
    let next = row_next to.schema.now (map origin to.places.now) to.bounds.now (map origin to.values.now) rows i c.row-item.result c.loop-row-test.true c.row-item.is in
    subst (λ (at : ArrayVec ℤ). Fill to.schema.now (map origin to.places.now) to.bounds.now (map origin to.values.now) c.args.rows.now (Some (record { at = at; kind = c.in-Some.kind })) c.args.counts.now c.args.filled.now
    c.fill_next.new.counts c.fill_next.new.filled) (sym c.copy_coord.ensures)
    (fill_breaks to.schema.now (map origin to.places.now) to.bounds.now (map origin to.values.now) c.args.rows.now (drop i rows) (drop (i + 1) rows) c.row-item.result c.in-Some.kind c.args.counts.now c.loop-row.counts
    c.fill_next.new.counts c.args.filled.now c.loop-row.filled c.fill_next.new.filled next (rw c.in-Some.is at c.in_ok-kind.ensures) c.loop-row.invariant)

pub loop-row-preserved : goal.loop-row-preserved
loop-row-preserved c =
    let to = c.args.to.now in
    let i = c.loop-row.row-index in
    let rows = c.as_slice-row-items.result.now in
    let next = row_next to.schema.now (map origin to.places.now) to.bounds.now (map origin to.values.now) rows i c.row-item.result c.loop-row-test.true c.row-item.is in
    fill_more to.schema.now (map origin to.places.now) to.bounds.now (map origin to.values.now) c.args.rows.now (drop i rows) (drop (i + 1) rows) c.row-item.result c.args.counts.now c.loop-row.counts c.fill_next.new.counts
    c.args.filled.now c.loop-row.filled c.fill_next.new.filled next (rw c.in_default.is at c.in_ok-kind.ensures) c.loop-row.invariant
