use Rattle.std.proofs.Common.{◌<◌, [], ℕ, ℤ, List, ap, get_or}
use Rattle.array_geom.specs.Geometry.{volume}
use Rattle.array_geom.proofs.PlaceLaws.{some}
use Rattle.expr_nulls.specs.ExprValue.{value_of}
use Rattle.exec_cellwise.specs.Inner.Computed.{value_there}
use Rattle.exec_cellwise.proofs.ComputedLaws.{all_at, pair_more, pairs_all}
use Rattle.exec_cellwise.proofs.chunks.computing.computed_column.Goals as goal

pub place-at-requires-clause-inside : goal.place-at-requires-clause-inside
place-at-requires-clause-inside c = some c.args.grid.now.lengths.items c.requires.grid.lengths

pub loop-k-init : goal.loop-k-init
loop-k-init c = (some c.args.grid.now.lengths.items c.requires.grid.lengths, c.place-at.ensures, c.new-column.ensures)

pub loop-k-preserved : goal.loop-k-preserved
loop-k-preserved c =
    let places = c.args.places.now in
    let rows = c.args.rows.now in
    let k = c.loop-k.k in
    let here = value_there c.args.grid.now.low.items c.args.grid.now.lengths.items c.args.value.now in (
      all_at (λ (p : ℕ). p < volume c.args.grid.now.lengths.items) places k 0 c.loop-k-test.true c.requires.inside,
      c.move_to.ensures,
      pair_more here places rows k 0 [] _ c.loop-k.column c.push_value.new.column c.loop-k-test.true c.requires.each c.loop-k.invariant.2 c.in_ok-push_value.ensures
          (ap (λ (at : List ℤ). value_of c.args.value.now at (get_or rows k [])) c.move_to.ensures),
    )

pub returns : goal.returns
returns c =
    pairs_all (value_there c.args.grid.now.low.items c.args.grid.now.lengths.items c.args.value.now) c.args.places.now c.args.rows.now c.loop-k.k c.loop-k.column c.loop-k-test.false c.requires.each c.loop-k.invariant.2
