use Rattle.std.proofs.Common.{◌-◌, [], ◌∷◌, ◌++◌, ◌∙◌, map, arith, rules, w64}
use Rattle.std.proofs.lemmas.Int.{to_z-of_z}
use mir.Val.{SFits}
use Rattle.array_geom.specs.Datum.TheVariants.{Int}
use Rattle.file_items.specs.Items.{repeat}
use Rattle.file_items.proofs.Loop.{one_more, all_read}
use Rattle.chunk_rle.specs.Inner.Valued.{as_run, as_value}
use Rattle.chunk_rle.specs.Table.{with_values, no_values, run_at}
use Rattle.chunk_rle.proofs.ValuedLaws.{values_grow, values_read}
use Rattle.chunk_rle.proofs.columns.numbers_from.Goals as goal

pub loop-index-preserved : goal.loop-index-preserved
loop-index-preserved c = record {
  read = λ attribute kind.
      let before = c.loop-index.invariant.read attribute kind in
      let fits : SFits w64 c.in-Some.run'.number = search rules in
      let run = as_run c.in-Some.run' in (
        before.0 ++ run ∷ [],
        values_grow (map Int c.push_run.new.numbers) (map Int c.loop-index.numbers) before.0 run c.in_ok-push_run-in-Some.ensures before.1,
        simp to_z-of_z (one_more (run_at attribute c.args.n) with_values (record { total = c.loop-index.total; last = as_value c.loop-index.before }) before.0 c.args.count c.loop-index.index (c.args.count - c.loop-index.index - 1) c.loop-index.rest.now run c.in-Some.after.now
            (repeat (run_at attribute c.args.n) with_values c.args.count no_values c.args.bytes.now) c.loop-index-test.true (omega arith) (c.in-Some.ensures.read attribute kind) before.2),
      );
  total = c.in-Some.ensures.range;
}

pub returns : goal.returns
returns c = λ attribute kind.
    let before = c.loop-index.invariant.read attribute kind in
    values_read attribute c.args.n c.args.count c.args.bytes.now c.loop-index.rest.now before.0 c.from_numbers.result (c.from_numbers.ensures ∙ before.1)
    (all_read (run_at attribute c.args.n) with_values (record { total = c.loop-index.total; last = as_value c.loop-index.before }) before.0 c.args.count c.loop-index.index c.loop-index.rest.now
    (repeat (run_at attribute c.args.n) with_values c.args.count no_values c.args.bytes.now) c.loop-index-test.false before.2)
