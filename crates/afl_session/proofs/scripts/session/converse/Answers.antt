use Rattle.std.proofs.Common.{[], refl, ◌∙◌, ap, arith, length, Ok}
use Rattle.afl_outside.specs.Counts.{Rose}
use Rattle.afl_outside.proofs.Streams.{Gives-more, Gives-nothing}
use Rattle.snapshot_manager.specs.Seats.{session_of, start}
use Rattle.afl_session.specs.Marked.{IsMarked}
use Rattle.afl_session.proofs.ScriptsEnding.{nothing_yet, read_short, serves_early, serves_ended}
use Rattle.afl_session.proofs.scripts.session.converse.Goals as goal

pub pieces-init : goal.pieces-init
pieces-init g c = record {
  seat = c.requires.seat;
  none = c.requires.none;
  same = refl;
  serving = ([], Gives-nothing _, record { stands = c.requires.begun; answered = nothing_yet _ _ _ c.requires.marks });
}

pub returns-in-Some-clause-serves : goal.returns-in-Some-clause-serves
returns-in-Some-clause-serves g c =
    let so_far = c.pieces.invariant in
    let (read, given, serving) = so_far.serving in
    serves_ended (IsMarked c.args.options.now.style g.D.Disk.moment (start g.D.Disk.moment c.args.shared.now) (session_of c.args.seat)) _ _ _ _ _ read _ c.take_piece-end.new.self.splitter
    c.in-Some.end (Gives-more _ _ _ _ _ given c.in-Ok.ensures.bytes)
    (λ none. c.in-Ok.ensures.end (ap Ok (c.in-Ok.ensures.within.1 ∙ ap length none)) (omega arith)) (rw c.in-Some.is at (c.take_piece-end.ensures.taken _ _ read so_far.same serving))

pub pieces-preserved : goal.pieces-preserved
pieces-preserved g c =
    let so_far = c.pieces.invariant in
    let taken = c.take_piece-end.ensures in
    let (read, given, serving) = so_far.serving in
    record {
      seat = taken.seat;
      none = taken.none;
      same = taken.session ∙ so_far.same;
      serving = (_, Gives-more _ _ _ _ _ given c.in-Ok.ensures.bytes, rw c.in-None.is at (taken.taken _ _ read so_far.same serving));
    }

pub returns-in-Err-clause-serves : goal.returns-in-Err-clause-serves
returns-in-Err-clause-serves g c =
    let (read, given, serving) = c.pieces.invariant.serving in
    let later = given.later in
    let risen = c.in-Err.ensures.cause in
    let rose : Rose (g.S.Source.state c.args.source.now).faults (g.S.Source.state c.read.new.self).faults = omega (arith, later, risen) in
    serves_early (IsMarked c.args.options.now.style g.D.Disk.moment (start g.D.Disk.moment c.args.shared.now) (session_of c.args.seat)) _ _ _ _ _ read _ (Gives-more _ _ _ _ _ given c.in-Err.ensures.bytes) rose serving

pub take_piece-end-requires-clause-script : goal.take_piece-end-requires-clause-script
take_piece-end-requires-clause-script g c κs within =
    let (read, given, serving) = c.pieces.invariant.serving in
    (read, serving.stands, read_short _ _ _ read _ given c.in-Ok.ensures.bytes c.in-Ok.ensures.bound)
