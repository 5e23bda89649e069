use Rattle.std.proofs.Common.{◌∙◌, ap, arith, subst}
use Rattle.afl_types.proofs.ParsedLeaves.{parsed_leaves}
use Rattle.snapshot_manager.specs.Seats.{last_place, read_count, seen, session_of, start}
use Rattle.session_answers.specs.Reads.{ReadsOnce}
use Rattle.session_answers.proofs.Kept.{still_answered, still_none, still_read, still_seat}
use Rattle.session_answers.proofs.Wholes.{fault_is_whole, fault_reads_none, tree_is_answered}
use Rattle.session_answers.proofs.answers.answering.answer.Goals as goal

pub returns-in-Ok : goal.returns-in-Ok
returns-in-Ok g c =
    let moment = g.D.Disk.moment in
    let shared = c.args.shared.now in
    let old = c.args.seat in
    let e = c.answer_tree-reply.ensures in
    let p = c.in-Ok.ensures in
    let k = c.keep_last.ensures in
    let reply = c.answer_tree-reply.result.0 in
    let seat = c.answer_tree-reply.result.1 in record {
      seat = still_seat moment shared reply.place seat c.keep_last.new.self k e.seat;
      session = ap session_of k ∙ e.same.session;
      none = still_none moment shared reply.place seat c.keep_last.new.self k e.none;
      last = ap last_place k;
      answered = still_answered moment shared reply.place seat c.keep_last.new.self k c.args.options.now.style (session_of old) (last_place old) (seen old) c.args.text.now reply
          (tree_is_answered c.args.options.now.style moment (start moment shared) (session_of old) (last_place old) (seen old) (seen seat) c.args.text.now reply c.in-Ok.tree e.answered p.only_tree p.only_stop);
      reads = λ t derives accepted. still_read moment shared reply.place seat c.keep_last.new.self k (session_of old) (seen old) c.args.text.now t (read_count old)
          (subst (λ one. ReadsOnce moment (start moment shared) (session_of old) (seen old) (seen seat) c.args.text.now one (read_count old) (read_count seat)) (p.only_tree t derives) (e.reads accepted));
    }

pub returns-in-Err : goal.returns-in-Err
returns-in-Err g c =
    let moment = g.D.Disk.moment in
    let shared = c.args.shared.now in
    let seat = c.args.seat in
    let p = c.in-Err.ensures in
    let k = c.keep_last-in-Err.ensures in
    let reply = c.unparsed-reply.result in record {
      seat = still_seat moment shared reply.place seat c.keep_last-in-Err.new.self k c.requires.seat;
      session = ap session_of k;
      none = still_none moment shared reply.place seat c.keep_last-in-Err.new.self k c.requires.none;
      last = ap last_place k;
      answered = still_answered moment shared reply.place seat c.keep_last-in-Err.new.self k c.args.options.now.style (session_of seat) (last_place seat) (seen seat) c.args.text.now reply
          (fault_is_whole c.args.options.now.style moment (start moment shared) (session_of seat) (last_place seat) (seen seat) c.args.text.now reply c.in-Err.fault p.only_tree p.only_stop
          c.last.result c.seen.result c.last.ensures (c.seen.ensures ∙ c.requires.seat.0.counts) c.unparsed-reply.ensures);
      reads = λ t derives accepted. still_read moment shared reply.place seat c.keep_last-in-Err.new.self k (session_of seat) (seen seat) c.args.text.now t (read_count seat)
          (fault_reads_none c.args.options.now.style moment (start moment shared) (session_of seat) (last_place seat) (seen seat) c.args.text.now reply c.in-Err.fault p.only_tree
          c.last.result c.seen.result c.unparsed-reply.ensures t derives (read_count seat) (read_count seat) accepted);
    }

pub answer_tree-reply-requires-clause-ready : goal.answer_tree-reply-requires-clause-ready
answer_tree-reply-requires-clause-ready g c κs within = record {
  seat = c.requires.seat;
  none = c.requires.none;
  derives = c.in-Ok.ensures.tree;
  fit = parsed_leaves c.args.text.now c.in-Ok.tree (λ i. omega (arith, c.type_inv.text i)) c.in-Ok.ensures.tree;
  workers = c.requires.workers;
}
