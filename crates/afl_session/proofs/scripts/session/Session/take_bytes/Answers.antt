use Rattle.std.proofs.Common.{◌≡◌, ◌∙◌, refl, sym, subst, ℕ, ◌+◌, List, ◌++◌, take, append-nil}
use Rattle.std.proofs.lemmas.List.{take_all}
use Rattle.afl_lexer.specs.Split.{closed_statements}
use Rattle.afl_lexer.specs.Inner.Standing.{Splitting, StandsAfter}
use Rattle.snapshot_manager.specs.Seats.{last_place, seen, start}
use Rattle.afl_session.specs.Inner.Serving.{HasAnswered, reached}
use Rattle.afl_session.specs.Marked.{IsMarked}
use Rattle.afl_session.proofs.ScriptsEnding.{byte_stops, byte_taken, bytes_fit, read_more}
use Rattle.afl_session.proofs.scripts.session.Session.take_bytes.Goals as goal

pub loop-byte-preserved : goal.loop-byte-preserved
loop-byte-preserved g c =
    let i = c.loop-byte.byte-index in
    let bytes = c.args.bytes.now in
    let push = c.push-step.ensures in
    let step = c.take_step-taken.ensures in
    let so_far = c.loop-byte.invariant in
    record {
      seat = step.seat;
      none = step.none;
      same = step.session ∙ so_far.same;
      stands = λ script stands.
          subst (λ (s : Splitting). StandsAfter (script ++ take (i + 1) bytes) s) (sym step.splitter)
          (subst (λ (x : List ℕ). StandsAfter x c.push-step.new.self) (sym (read_more script bytes i c.loop-byte-test.true)) (push.stands (script ++ take i bytes) (so_far.stands script stands)));
      answered = λ session first script own stands answered.
          byte_taken (IsMarked c.args.options.now.style g.D.Disk.moment (start g.D.Disk.moment c.args.shared.now) session) first _ _ script bytes i c.loop-byte-test.true _ _ _
          (push.statements (script ++ take i bytes) (so_far.stands script stands)) (so_far.answered session first script own stands answered)
          (rw c.in-Ok.is at (step.goes_on session (so_far.same ∙ own)));
    }

pub returns-in-Err-clause-serving : goal.returns-in-Err-clause-serving
returns-in-Err-clause-serving g c session first script own serving =
    let i = c.loop-byte.byte-index in
    let bytes = c.args.bytes.now in
    let push = c.push-step.ensures in
    let so_far = c.loop-byte.invariant in
    byte_stops (IsMarked c.args.options.now.style g.D.Disk.moment (start g.D.Disk.moment c.args.shared.now) session) first _ _ script bytes i c.loop-byte-test.true _ _ _
    (push.statements (script ++ take i bytes) (so_far.stands script serving.stands)) (so_far.answered session first script own serving.stands serving.answered)
    c.in-Err.stopped (rw c.in-Err.is at (c.take_step-taken.ensures.goes_on session (so_far.same ∙ own)))

pub returns-clause-serving : goal.returns-clause-serving
returns-clause-serving g c session first script own serving =
    let so_far = c.loop-byte.invariant in
    let all : take c.loop-byte.byte-index c.args.bytes.now ≡ c.args.bytes.now = take_all _ _ c.loop-byte-test.false in
    record {
      stands = subst (λ (x : List ℕ). StandsAfter (script ++ x) c.loop-byte.self.splitter) all (so_far.stands script serving.stands);
      answered = subst (λ (x : List ℕ). HasAnswered (IsMarked c.args.options.now.style g.D.Disk.moment (start g.D.Disk.moment c.args.shared.now) session) first
          (reached (seen c.loop-byte.seat) (last_place c.loop-byte.seat) (g.K.Sink.state c.loop-byte.self.sink)) (closed_statements (script ++ x)) c.loop-byte.self.marks.items) all
          (so_far.answered session first script own serving.stands serving.answered);
    }

pub take_step-taken-requires-clause-seat : goal.take_step-taken-requires-clause-seat
take_step-taken-requires-clause-seat g c κs within = c.loop-byte.invariant.seat

pub take_step-taken-requires-clause-none : goal.take_step-taken-requires-clause-none
take_step-taken-requires-clause-none g c κs within = c.loop-byte.invariant.none

pub take_step-taken-requires-clause-workers : goal.take_step-taken-requires-clause-workers
take_step-taken-requires-clause-workers g c κs within = c.requires.workers

pub push-step-requires : goal.push-step-requires
push-step-requires g c =
    let (script, stands, short) = c.requires.script in
    bytes_fit script c.args.bytes.now c.loop-byte.byte-index c.loop-byte.self.splitter (c.loop-byte.invariant.stands script stands) c.loop-byte-test.true short

pub loop-byte-init : goal.loop-byte-init
loop-byte-init g c = record {
  seat = c.requires.seat;
  none = c.requires.none;
  same = refl;
  stands = λ script stands. subst (λ (x : List ℕ). StandsAfter x c.args.self.now.splitter) (sym (append-nil script)) stands;
  answered = λ session first script own stands answered.
      subst (λ (x : List ℕ). HasAnswered (IsMarked c.args.options.now.style g.D.Disk.moment (start g.D.Disk.moment c.args.shared.now) session) first
      (reached (seen c.args.seat) (last_place c.args.seat) (g.K.Sink.state c.args.self.now.sink)) (closed_statements x) c.args.self.now.marks.items)
      (sym (append-nil script)) answered;
}
