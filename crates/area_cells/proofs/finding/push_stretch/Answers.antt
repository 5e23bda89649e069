use Rattle.std.proofs.Common.{◌≡◌, ◌+◌, ◌-◌, ◌<◌, ◌≤◌, true, [], length, slice_index_or, ap, ◌∙◌, arith}
use Rattle.cell_values.specs.declared.datum.Cell.TheVariants.{Full}
use Rattle.array_rows.specs.Inner.CellsIn.{cells_in}
use Rattle.array_rows.specs.Rows.{Coordinate, placed}
use Rattle.area_cells.proofs.TakingLaws.{in_stretch, one_inside}
use Rattle.area_cells.proofs.finding.push_stretch.Goals as goal

pub overflow_sub-places : goal.overflow_sub-places
overflow_sub-places c =
    (in_stretch c.args.places.now c.args.stretch.now.from c.args.stretch.now.last c.args.from c.loop-k.k c.args.end c.requires.rising (omega arith) c.loop-k-test.true c.requires.within c.requires.first c.requires.last).0

pub overflow_add-stretch : goal.overflow_add-stretch
overflow_add-stretch c =
    let in_it = in_stretch c.args.places.now c.args.stretch.now.from c.args.stretch.now.last c.args.from c.loop-k.k c.args.end c.requires.rising (omega arith) c.loop-k-test.true c.requires.within c.requires.first c.requires.last in
    let below = c.requires.stretch.there_inside c.requires.inside (slice_index_or c.args.places.now c.loop-k.k 0) in_it.0 in_it.1 in
    let small = c.requires.target.places in
    omega (arith, below, small)

pub loop-k-preserved : goal.loop-k-preserved
loop-k-preserved c = λ taken.
    let in_it = in_stretch c.args.places.now c.args.stretch.now.from c.args.stretch.now.last c.args.from c.loop-k.k c.args.end c.requires.rising (omega arith) c.loop-k-test.true c.requires.within c.requires.first c.requires.last in
    let p = slice_index_or c.args.places.now c.loop-k.k 0 in
    let within = c.requires.within in
    let below : c.loop-k.k < length c.args.places.now = omega (arith, within) in
    let each = c.requires.each in
    one_inside c.args.source.now c.args.target.now c.args.core.now c.args.area.now c.args.places.now (cells_in c.args.form.now) c.loop-k.found c.push.new.self c.loop-k.k _ below each
    (c.requires.stretch.sides p in_it.0 in_it.1 ∙ c.requires.inside)
    (ap (λ (at : Coordinate). placed at (slice_index_or (cells_in c.args.form.now) c.loop-k.k (Full []))) (c.requires.stretch.there_same c.requires.inside p in_it.0 in_it.1))
    (record { inside = c.requires.stretch.there_inside c.requires.inside p in_it.0 in_it.1; some = omega (arith, below, each) }) c.in_ok-push.ensures.ok (c.loop-k.invariant taken)
