use Rattle.std.proofs.Common.{take, refl, sym, subst, List}
use Rattle.std.specs.Prelude.{slice_index_or}
use Rattle.cell_values.specs.declared.datum.Row.{Row}
use Rattle.agg_states.specs.Stands.{StandsFor}
use Rattle.window_overlap.specs.declared.chunks.runs.Run.{Run}
use Rattle.window_overlap.specs.Inner.Runs.{rows_of}
use Rattle.window_overlap.proofs.StateLaws.{next_rows, rising_so_far, room_for_run}
use Rattle.window_overlap.proofs.chunks.states.state_of.Goals as goal

abbrev no_run : Run
no_run = record { start = 0; end = 0 }

pub loop-run-init : goal.loop-run-init
loop-run-init c = c.empty-state.ensures.stands c.args.aggregate.now refl

pub with_rows-requires : goal.with_rows-requires
with_rows-requires c = record {
  room = room_for_run c.args.aggregate.now c.args.rows.now c.args.runs.now c.loop-run.run-index (slice_index_or c.args.runs.now c.loop-run.run-index no_run) no_run c.loop-run.state c.loop-run-test.true refl c.requires.few c.loop-run.invariant;
}

pub loop-run-preserved : goal.loop-run-preserved
loop-run-preserved c =
    let run = slice_index_or c.args.runs.now c.loop-run.run-index no_run in
    subst (λ (rows : List Row). StandsFor c.args.aggregate.now rows c.in_ok-state.state) (sym (next_rows c.args.rows.now c.args.runs.now c.loop-run.run-index run no_run c.loop-run-test.true refl))
    (c.in_ok-state.ensures.stands c.args.aggregate.now (rows_of c.args.rows.now (take c.loop-run.run-index c.args.runs.now)) c.loop-run.invariant refl (rising_so_far c.args.rows.now c.args.runs.now c.loop-run.run-index run no_run c.loop-run-test.true refl c.requires.rising))
