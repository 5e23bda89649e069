use Rattle.std.proofs.Common.{◌≡◌, true, map, subst}
use Rattle.cell_values.specs.declared.schema.Bounds.{Bounds}
use Rattle.array_rows.specs.Boxes.{is_inside}
use Rattle.redimension_exec.specs.Inner.Places.{origin}
use Rattle.redimension_exec.proofs.FillLaws.{one_breaks, one_drops, one_lands}
use Rattle.redimension_exec.proofs.places.filling.fill_next.Goals as goal

pub fill-requires-clause-inside : goal.fill-requires-clause-inside
fill-requires-clause-inside c = subst (λ (b : Bounds). is_inside b c.in-Lands.new.at.items ≡ true) c.requires.all (rw c.in-Lands.is at c.in_ok-step.ensures.inside)

pub returns-in-Breaks : goal.returns-in-Breaks
returns-in-Breaks c =
    let to = c.args.to.now in
    one_breaks to.schema.now (map origin to.places.now) to.bounds.now (map origin to.values.now) c.args.row.now c.in-Breaks.kind c.in_ok-step.step c.args.counts.now c.next_of.new.counts c.args.filled.now c.in-Breaks.is c.in_ok-step.ensures.next

pub returns-in-Drops : goal.returns-in-Drops
returns-in-Drops c =
    let to = c.args.to.now in
    one_drops to.schema.now (map origin to.places.now) to.bounds.now (map origin to.values.now) c.args.row.now c.in_ok-step.step c.args.counts.now c.next_of.new.counts c.args.filled.now c.in-Drops.is c.in_ok-step.ensures.next

pub returns-in_ok-fill-in-Lands : goal.returns-in_ok-fill-in-Lands
returns-in_ok-fill-in-Lands c =
    let to = c.args.to.now in
    one_lands to.schema.now (map origin to.places.now) to.bounds.now (map origin to.values.now) c.args.row.now c.in-Lands.new c.in_ok-step.step c.args.counts.now c.next_of.new.counts c.args.filled.now c.fill.new.filled c.in-Lands.is c.in_ok-step.ensures.next
    c.in_ok-fill-in-Lands.ensures
