use Rattle.session_answers.proofs.Readings.{pinned_first, was_read, whole_first}
use Rattle.session_answers.proofs.answers.pinned.read_under.Goals as goal

pub read_source-outcome-requires-clause-ready : goal.read_source-outcome-requires-clause-ready
read_source-outcome-requires-clause-ready g c κs within =
    let r = c.requires.under in record {
      undamaged = whole_first c.args.shared.now c.args.pinned.now c.args.seat c.new-source.result c.new-source.ensures;
      same = pinned_first c.args.shared.now c.args.pinned.now c.args.seat c.new-source.result c.new-source.ensures;
      stored = r.stored;
      fit = r.fit;
      workers = r.workers;
    }

pub returns : goal.returns
returns g c =
    let s = c.into_seat-seat.ensures in
    record {
      read = was_read c.args.options.now.style g.D.Disk.moment c.args.shared.now c.args.pinned.now c.args.seat c.into_seat-seat.result c.args.text.now c.args.tree.now
          c.new-source.result c.read_source-outcome.new.source c.new-source.ensures s.seat c.read_source-outcome.result s.read c.read_source-outcome.ensures;
    }
