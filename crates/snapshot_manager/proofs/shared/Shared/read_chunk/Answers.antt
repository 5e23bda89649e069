use Rattle.std.proofs.Common.{◌∙◌, IsTrue, ap, rules, subst, sym}
use Rattle.chunk_source.specs.Source.{IsChunkIn, is_among}
use Rattle.plan_changes.specs.Databases.{rows_of}
use Rattle.array_store.specs.At.{standing}
use Rattle.array_store.specs.Starts.{start_of}
use Rattle.array_store.proofs.InTurn.{began_in_turn, chunks_in_turn, open_pin_now, over_ok, read_adds, read_causes, read_extends, read_open}
use Rattle.array_store.proofs.PinReads.{adds_some}
use Rattle.snapshot_manager.specs.Seats.{seen, session_of, start}
use Rattle.snapshot_manager.proofs.Damages.{damaged_was}
use Rattle.snapshot_manager.proofs.shared.Shared.read_chunk.Goals as goal

pub read_chunk-answer-requires-clause-open : goal.read_chunk-answer-requires-clause-open
read_chunk-answer-requires-clause-open g c =
    let b = c.begin-turn.ensures in
    let p = c.requires.pin in
    open_pin_now g.D.Disk.moment (start g.D.Disk.moment c.args.self.now) (session_of c.args.seat.now) (seen c.args.seat.now) (seen c.begin-turn.new.seat)
    c.value.result.now c.begin-turn.result.value b.found c.value.ensures.value b.told c.args.pinned.now p.own p.open_pin

pub read_chunk-answer-requires-clause-listed : goal.read_chunk-answer-requires-clause-listed
read_chunk-answer-requires-clause-listed g c =
    let b = c.begin-turn.ensures in
    let p = c.requires.pin in
    subst (λ chunks. IsTrue (is_among c.args.at.now chunks))
    (sym (chunks_in_turn g.D.Disk.moment (start g.D.Disk.moment c.args.self.now) (session_of c.args.seat.now) (seen c.args.seat.now) (seen c.begin-turn.new.seat)
    c.value.result.now c.begin-turn.result.value b.found c.value.ensures.value b.told c.args.pinned.now p.own p.open_pin c.requires.seat.0.sealed c.args.leaf.now))
    c.requires.listed

pub read_chunk-answer-requires-clause-leaf : goal.read_chunk-answer-requires-clause-leaf
read_chunk-answer-requires-clause-leaf g c = c.requires.leaf

pub end-requires : goal.end-requires
end-requires g c =
    let b = c.begin-turn.ensures in
    let p = c.requires.pin in
    let moment = g.D.Disk.moment in record {
      seat = b.seat;
      start = (adds_some moment c.args.pinned.now.session (standing moment c.value.result.now) (standing moment c.read_chunk-answer.new.self) c.read_chunk-answer.ensures.adds).adds.start
          ∙ ap (λ q. start_of (standing moment q)) c.value.ensures.value ∙ b.start;
      events = read_extends moment (start moment c.args.self.now) (session_of c.args.seat.now) (seen c.args.seat.now) (seen c.begin-turn.new.seat)
          c.value.result.now c.begin-turn.result.value b.found c.value.ensures.value b.told c.args.pinned.now p.own p.open_pin b.events
          c.read_chunk-answer.new.self c.read_chunk-answer.ensures.adds (session_of c.begin-turn.new.seat) b.same.session;
    }

pub returns : goal.returns
returns g c =
    let b = c.begin-turn.ensures in
    let p = c.requires.pin in record {
      seat = c.end.ensures.seat;
      same = record { session = c.end.ensures.same.session ∙ b.same.session; last = c.end.ensures.same.last ∙ b.same.last };
      reads = search rules;
      adds = read_adds g.D.Disk.moment (start g.D.Disk.moment c.args.self.now) (session_of c.args.seat.now) (seen c.args.seat.now) (seen c.begin-turn.new.seat)
          c.value.result.now c.begin-turn.result.value b.found c.value.ensures.value b.told c.args.pinned.now p.own p.open_pin b.events
          c.read_chunk-answer.new.self c.read_chunk-answer.ensures.adds (seen c.end.new.seat) c.end.ensures.seen;
      pin = record {
        own = p.own ∙ sym b.same.session ∙ sym c.end.ensures.same.session;
        open_pin = read_open g.D.Disk.moment (start g.D.Disk.moment c.args.self.now) (session_of c.args.seat.now) (seen c.args.seat.now) (seen c.begin-turn.new.seat)
            c.value.result.now c.begin-turn.result.value b.found c.value.ensures.value b.told c.args.pinned.now p.own p.open_pin b.events
            c.read_chunk-answer.new.self c.read_chunk-answer.ensures.adds (seen c.end.new.seat) c.end.ensures.seen;
      };
      stored = c.read_chunk-answer.ensures.stored;
      told = over_ok g.D.Disk.moment (start g.D.Disk.moment c.args.self.now) (session_of c.args.seat.now) (seen c.args.seat.now) (seen c.begin-turn.new.seat)
          c.value.result.now c.begin-turn.result.value b.found c.value.ensures.value b.told c.args.pinned.now p.own p.open_pin c.requires.seat.0.sealed
          (λ chunk db. IsChunkIn (rows_of db) c.args.leaf.now chunk) c.read_chunk-answer.result c.read_chunk-answer.ensures.told;
      whole = λ db page began. c.read_chunk-answer.ensures.whole db page (began_in_turn g.D.Disk.moment (start g.D.Disk.moment c.args.self.now) (session_of c.args.seat.now) (seen c.args.seat.now) (seen c.begin-turn.new.seat)
          c.value.result.now c.begin-turn.result.value b.found c.value.ensures.value b.told c.args.pinned.now p.own p.open_pin db began);
      damaged = λ page file e. damaged_was g.D.Disk.moment (start g.D.Disk.moment c.args.self.now) (seen c.args.seat.now) (seen c.begin-turn.new.seat)
          c.value.result.now c.begin-turn.result.value c.value.ensures.value b.told page file c.args.leaf.now.schema (c.read_chunk-answer.ensures.damaged page file e);
      cause = read_causes g.D.Disk.moment (start g.D.Disk.moment c.args.self.now) (session_of c.args.seat.now) (seen c.args.seat.now) (seen c.begin-turn.new.seat)
          c.value.result.now c.begin-turn.result.value b.found c.value.ensures.value b.told c.args.pinned.now p.own p.open_pin b.events
          c.read_chunk-answer.new.self c.read_chunk-answer.ensures.adds (seen c.end.new.seat) c.args.leaf.now.schema c.args.leaf.now c.args.at.now c.read_chunk-answer.result
          c.requires.seat.0.sealed c.end.ensures.told c.read_chunk-answer.ensures.notes c.read_chunk-answer.ensures.cause;
    }
