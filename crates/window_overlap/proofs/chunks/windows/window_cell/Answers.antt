use Rattle.std.proofs.Common.{ap, ◌∙◌}
use Rattle.window_overlap.specs.Inner.Runs.{rows_of}
use Rattle.window_overlap.proofs.ChunksWindowLaws.{few_within, rising_within, can_within, window_made}
use Rattle.window_overlap.proofs.chunks.windows.window_cell.Goals as goal

pub values_of-requires-clause-rising : goal.values_of-requires-clause-rising
values_of-requires-clause-rising c = rising_within c.args.area.now c.args.rows.now _ (ap (rows_of c.args.rows.now) c.as_slice.ensures ∙ c.in_ok-runs-in-Full.ensures.rows) c.requires.rising

pub values_of-requires-clause-few : goal.values_of-requires-clause-few
values_of-requires-clause-few c = few_within c.args.area.now c.args.rows.now _ (ap (rows_of c.args.rows.now) c.as_slice.ensures ∙ c.in_ok-runs-in-Full.ensures.rows) c.requires.few

pub values_of-requires-clause-typed : goal.values_of-requires-clause-typed
values_of-requires-clause-typed c = can_within c.args.area.now c.args.aggs.now c.args.rows.now _ (ap (rows_of c.args.rows.now) c.as_slice.ensures ∙ c.in_ok-runs-in-Full.ensures.rows) c.requires.typed

pub returns-in_ok-values-in-Full : goal.returns-in_ok-values-in-Full
returns-in_ok-values-in-Full c = λ reach at same.
    window_made reach c.args.aggs.now c.args.rows.now at c.args.cell.now _ c.in_ok-values-in-Full.values c.args.area.now _ c.in-Full.is same (ap (rows_of c.args.rows.now) c.as_slice.ensures ∙ c.in_ok-runs-in-Full.ensures.rows) c.in_ok-values-in-Full.ensures
