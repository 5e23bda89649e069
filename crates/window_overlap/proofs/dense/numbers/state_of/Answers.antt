use Rattle.std.proofs.Common.{arith}
use Rattle.window_overlap.proofs.DenseLaws.{seen_begins}
use Rattle.window_overlap.proofs.dense.numbers.state_of.Goals as goal

pub loop-k-init : goal.loop-k-init
loop-k-init c = record {
  seen = λ g corner rows e dense long each. seen_begins g c.args.window.now corner rows c.empty-state.result (c.empty-state.ensures.stands g e);
  cells = let none = c.empty-state.ensures.cells in omega (arith, none);
}

pub take_at-requires-clause-room : goal.take_at-requires-clause-room
take_at-requires-clause-room c =
    let cells = c.loop-k.invariant.cells in
    let less = c.loop-k-test.true in
    let long = c.requires.long in
    let small = c.requires.window.places in
    omega (arith, cells, less, long, small)

pub loop-k-preserved : goal.loop-k-preserved
loop-k-preserved c =
    let less = c.loop-k-test.true in
    let long = c.requires.long in
    let cells = c.loop-k.invariant.cells in
    let more = c.take_at.ensures.cells in
    record {
      seen = λ g corner rows e dense wide each.
          c.take_at.ensures.seen g c.args.grid.now c.args.window.now corner rows c.loop-k.k dense c.requires.window (each c.loop-k.k less) (omega (arith, less, long)) wide (c.requires.inside c.loop-k.k less)
          (c.loop-k.invariant.seen g corner rows e dense wide each);
      cells = omega (arith, cells, more);
    }
