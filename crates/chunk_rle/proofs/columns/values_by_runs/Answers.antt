use Rattle.file_items.specs.Items.{repeat}
use Rattle.chunk_rle.specs.Table.{with_values, no_values, run_at}
use Rattle.chunk_rle.proofs.ValuedLaws.{runs_stopped, values_read}
use Rattle.chunk_rle.proofs.columns.values_by_runs.Goals as goal

pub returns-in_ok-values_of_runs-in-Ok : goal.returns-in_ok-values_of_runs-in-Ok
returns-in_ok-values_of_runs-in-Ok c = values_read c.args.attribute.now c.args.n c.args.count c.args.bytes.now c.in-Ok.rest.now c.in-Ok.runs c.in_ok-values_of_runs-in-Ok.field-0 c.in_ok-values_of_runs-in-Ok.ensures c.in-Ok.ensures

pub returns-in-Err : goal.returns-in-Err
returns-in-Err c = runs_stopped c.in-Err.stop (repeat (run_at c.args.attribute.now c.args.n) with_values c.args.count no_values c.args.bytes.now) c.in-Err.ensures
