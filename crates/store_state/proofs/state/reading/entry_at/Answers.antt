use Rattle.std.proofs.Common.{◌+◌, ◌-◌, ◌/◌, ◌∙◌, sym, arith}
use Rattle.store_state.proofs.Searches.{found_here, none_at, others_from, others_up_to}
use Rattle.store_state.proofs.state.reading.entry_at.Goals as goal

pub loop-start-preserved-in-Less : goal.loop-start-preserved-in-Less
loop-start-preserved-in-Less c =
    let middle = c.loop-start.start + (c.loop-start.end - c.loop-start.start) / 2 in
    record {
      order = omega arith;
      within = c.loop-start.invariant.within;
      before = others_up_to c.args.entries.now middle c.index-entries-middle.result c.args.at.now.items c.requires (omega arith) c.index-entries-middle.is (sym c.compare_numbers.ensures ∙ c.in-Less.is);
      from = c.loop-start.invariant.from;
    }

pub loop-start-preserved : goal.loop-start-preserved
loop-start-preserved c =
    let middle = c.loop-start.start + (c.loop-start.end - c.loop-start.start) / 2 in
    record {
      order = omega arith;
      within = omega arith;
      before = c.loop-start.invariant.before;
      from = others_from c.args.entries.now middle c.index-entries-middle.result c.args.at.now.items c.requires (omega arith) c.index-entries-middle.is (sym c.compare_numbers.ensures ∙ c.in-Greater.is);
    }

pub returns-in-Equal : goal.returns-in-Equal
returns-in-Equal c =
    let middle = c.loop-start.start + (c.loop-start.end - c.loop-start.start) / 2 in
    sym (found_here c.args.entries.now middle c.index-entries-middle.result c.args.at.now.items c.requires (omega arith) c.index-entries-middle.is (sym c.compare_numbers.ensures ∙ c.in-Equal.is))

pub returns : goal.returns
returns c = sym (none_at c.args.at.now.items c.args.entries.now c.loop-start.start c.loop-start.end (omega arith) c.loop-start.invariant.before c.loop-start.invariant.from)
