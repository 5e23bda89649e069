use Rattle.std.proofs.Common.{◌+◌, ◌-◌, ◌/◌, add-one, sym, ◌∙◌, arith}
use Rattle.chunk_cells.proofs.NumberLaws.{before_upto, from_at, is_less}
use Rattle.chunk_cells.proofs.assembly.numbers.count_before.Goals as goal

pub loop-start-preserved-then-comes_before : goal.loop-start-preserved-then-comes_before
loop-start-preserved-then-comes_before c =
    let middle = c.loop-start.start + (c.loop-start.end - c.loop-start.start) / 2 in
    record {
      order = omega arith;
      within = c.loop-start.invariant.within;
      before = rw add-one (before_upto c.args.listed.now middle c.index-listed-middle.result c.args.number.now.items c.requires (omega arith) c.index-listed-middle.is (is_less _ (sym c.comes_before.ensures ∙ c.if-comes_before.true)));
      from = c.loop-start.invariant.from;
    }

pub loop-start-preserved : goal.loop-start-preserved
loop-start-preserved c =
    let middle = c.loop-start.start + (c.loop-start.end - c.loop-start.start) / 2 in
    record {
      order = omega arith;
      within = omega arith;
      before = c.loop-start.invariant.before;
      from = from_at c.args.listed.now middle c.index-listed-middle.result c.args.number.now.items c.requires (omega arith) c.index-listed-middle.is (sym c.comes_before.ensures ∙ c.if-comes_before.false);
    }
