use Rattle.std.proofs.Common.{sym, subst, ◌<◌}
use Rattle.std.proofs.lemmas.List.{length-map}
use Rattle.array_rows.specs.RowsIn.{row_at}
use Rattle.array_rows.proofs.RowLaws.{none_pushed, push_step, room_for, place_read}
use Rattle.array_rows.proofs.columns.filling.push_place.Goals as goal

pub loop-i-init : goal.loop-i-init
loop-i-init c = sym (none_pushed _)

pub loop-i-preserved : goal.loop-i-preserved
loop-i-preserved c = push_step c.args.columns.now.items c.loop-i.columns.items _ (row_at c.args.k c.args.from.now) c.loop-i.i _ (subst (λ n. c.loop-i.i < n) (sym (length-map c.args.from.now _)) c.loop-i-test.true) (place_read c.args.from.now c.loop-i.i c.args.k _ _ c.loop-i-test.true c.index-from-i.is c.in_ok-value.ensures) c.loop-i.invariant c.in_ok-push_at.ensures

pub push_at-requires : goal.push_at-requires
push_at-requires c = room_for c.args.columns.now.items _ (row_at c.args.k c.args.from.now) c.loop-i.i _ c.loop-i.invariant c.requires c.loop-i-test.true
