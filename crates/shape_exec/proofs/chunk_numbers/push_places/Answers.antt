use Rattle.std.proofs.Common.{ℕ, take, sym, subst, add-one}
use Rattle.shape_exec.specs.Inner.Added.{AddsAt}
use Rattle.shape_exec.proofs.PullParts.{one_more_at}
use Rattle.shape_exec.proofs.chunk_numbers.push_places.Goals as goal

pub loop-position-preserved : goal.loop-position-preserved
loop-position-preserved g c =
    let i = c.loop-position.position-index in
    let low = c.args.grid.now.low.items in
    let lengths = c.args.grid.now.lengths.items in
    let target = g.M.CellMap.target c.args.map.now in
    let back = g.M.CellMap.back c.args.map.now in
    subst (λ (n : ℕ). AddsAt target back low lengths (take n c.args.positions.now) c.args.found.now c.push_numbers.new.found) (sym (add-one i))
    (one_more_at target back low lengths c.args.positions.now i c.place.result.items c.args.found.now c.loop-position.found c.push_numbers.new.found c.loop-position-test.true c.place.ensures c.loop-position.invariant c.in_ok-push_numbers.ensures)
