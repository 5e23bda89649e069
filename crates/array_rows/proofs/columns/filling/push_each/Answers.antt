use Rattle.std.proofs.Common.{sym, ◌∙◌}
use Rattle.std.proofs.lemmas.List.{get_or_read}
use Rattle.cell_values.specs.declared.datum.Datum.TheVariants.{Null}
use Rattle.array_rows.proofs.RowLaws.{none_pushed, push_step, room_for}
use Rattle.array_rows.proofs.columns.filling.push_each.Goals as goal

pub loop-k-init : goal.loop-k-init
loop-k-init c = sym (none_pushed _)

pub loop-k-preserved : goal.loop-k-preserved
loop-k-preserved c = push_step c.args.columns.now.items c.loop-k.columns.items _ c.args.values.now c.loop-k.k _ c.loop-k-test.true (c.in_ok-copy.ensures ∙ get_or_read _ _ _ c.loop-k-test.true c.index-values-k.is Null) c.loop-k.invariant c.in_ok-push_at.ensures

pub push_at-requires : goal.push_at-requires
push_at-requires c = room_for c.args.columns.now.items _ c.args.values.now c.loop-k.k _ c.loop-k.invariant c.requires c.loop-k-test.true
