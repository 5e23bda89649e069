use Rattle.snapshot_manager.proofs.shared.Shared.end_turn.Goals as goal

pub end-requires : goal.end-requires
end-requires g c = record { seat = c.requires.seat; start = c.requires.start; events = c.requires.events }

pub returns : goal.returns
returns g c =
    let end = c.end.ensures in record {
      seat = end.seat;
      same = end.same;
      reads = end.reads;
      seen = end.seen;
    }
