use Rattle.std.proofs.Common.{length, sym, ap, ◌+◌, subst, ◌∙◌}
use Rattle.std.proofs.lemmas.List.{length_push}
use Rattle.array_rows.specs.RowsIn.{AreLong}
use Rattle.array_rows.proofs.RowLaws.{long_more}
use Rattle.array_rows.proofs.columns.filling.empty_columns.Goals as goal

pub loop-k-preserved : goal.loop-k-preserved
loop-k-preserved c = record {
  width = ap length c.in_ok-push.ensures.items ∙ length_push c.loop-k.made.items _ ∙ ap (λ n. n + 1) c.loop-k.invariant.width;
  empty = subst (AreLong 0) (sym c.in_ok-push.ensures.items) (long_more 0 c.loop-k.made.items _ c.loop-k.invariant.empty (ap length c.new.ensures));
}
