use Rattle.std.proofs.Common.{◌≡◌, ◌+◌, ◌<◌, ◌++◌, length, sym, subst, ℕ, arith}
use Rattle.array_rows.specs.RowsIn.{row_at}
use Rattle.array_rows.proofs.RowLaws.{both_long, none_pushed, push_further, push_step, read_left, read_right, room_for}
use Rattle.array_rows.proofs.columns.filling.push_places.Goals as goal

pub loop-k-init : goal.loop-k-init
loop-k-init c = sym (none_pushed _)

pub push_at-requires : goal.push_at-requires
push_at-requires c =
    let less = c.loop-k-test.true in
    room_for c.args.columns.now.items c.loop-k.columns.items (row_at c.args.i c.args.left.now ++ row_at c.args.j c.args.right.now) c.loop-k.k (length c.args.left.now + length c.args.right.now) c.loop-k.invariant c.requires (omega (arith, less))

pub loop-k-preserved : goal.loop-k-preserved
loop-k-preserved c =
    let less = c.loop-k-test.true in
    let long = both_long c.args.left.now c.args.right.now c.args.i c.args.j in
    push_step c.args.columns.now.items c.loop-k.columns.items _ (row_at c.args.i c.args.left.now ++ row_at c.args.j c.args.right.now) c.loop-k.k _ (omega (arith, less, long))
    (read_left c.args.left.now c.args.right.now c.args.i c.args.j c.loop-k.k _ _ less c.index-left-k.is c.in_ok-value.ensures) c.loop-k.invariant c.in_ok-push_at.ensures

pub push_at-requires-in-loop-k-2 : goal.push_at-requires-in-loop-k-2
push_at-requires-in-loop-k-2 c =
    let less = c.loop-k-2-test.true in
    room_for c.args.columns.now.items c.loop-k-2.columns.items (row_at c.args.i c.args.left.now ++ row_at c.args.j c.args.right.now) (length c.args.left.now + c.loop-k-2.k) (length c.args.left.now + length c.args.right.now) c.loop-k-2.invariant c.requires (omega (arith, less))

pub loop-k-2-preserved : goal.loop-k-2-preserved
loop-k-2-preserved c =
    let less = c.loop-k-2-test.true in
    let long = both_long c.args.left.now c.args.right.now c.args.i c.args.j in
    push_further c.args.columns.now.items c.loop-k-2.columns.items _ (row_at c.args.i c.args.left.now ++ row_at c.args.j c.args.right.now) (length c.args.left.now) c.loop-k-2.k _ (omega (arith, less, long))
    (read_right c.args.left.now c.args.right.now c.args.i c.args.j c.loop-k-2.k _ _ less c.index-right-k.is c.in_ok-value-2.ensures) c.loop-k-2.invariant c.in_ok-push_at-2.ensures
