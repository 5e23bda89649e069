use Rattle.std.proofs.Common.{◌≢◌, ◌<◌, ◌≤◌, ◌^◌, ◌∙◌, AllPairs, ap, length, map, List, arith, sym, subst, vec_capacity}
use Rattle.std.proofs.lemmas.List.{length-map}
use Rattle.run_opening.specs.Names.{Word, reply_name}
use Rattle.run_opening.specs.Opened.{AreOpenedFor, HandsOut, IsSinkOf, IsSourceOf, LeavesUnasked}
use Rattle.run_opening.proofs.OpeningLemmas.{fails_from_reply, first_reply, first_script, hands_none, hands_since, hands_some_since, leaves_both, leaves_front, names_count, sinks_of}
use Rattle.run_opening.proofs.RoomLemmas.{as_many, opened_for}
use Rattle.run_opening.proofs.opening.opening.open_in.Goals as goal

pub returns-in-Err : goal.returns-in-Err
returns-in-Err g c =
    let scripts = c.args.scripts.now in
    let start = g.F.Shelf.state c.args.shelf.now in
    let mid = g.F.Shelf.state c.open_scripts.new.shelf in
    let e = c.in-Err.ensures in
    record {
      opened = tt;
      cause = e.cause;
      first = first_script g.F.S.Source.state g.F.K.Sink.state scripts start mid c.in-Err.notice e.cause e.first;
      others = leaves_front scripts (map reply_name scripts) start mid e.others;
      handed = tt;
      some = hands_none (length scripts) start mid e.handed;
    }

pub returns-in-Err-open_replies : goal.returns-in-Err-open_replies
returns-in-Err-open_replies g c =
    let scripts = c.args.scripts.now in
    let names = c.deref.result.now in
    let are = c.deref.ensures.value ∙ c.requires.room.names in
    let start = g.F.Shelf.state c.args.shelf.now in
    let mid = g.F.Shelf.state c.open_scripts.new.shelf in
    let next = g.F.Shelf.state c.open_replies.new.shelf in
    let first = c.in-Ok.ensures in
    let e = c.in-Err-open_replies.ensures in
    record {
      opened = tt;
      cause = fails_from_reply scripts names are start mid next first.others.later first.others.wants_later first.replies c.in-Err-open_replies.notice e.cause;
      first = first_reply scripts names are start mid next first.others.later first.others.wants_later first.replies g.F.S.Source.state g.F.K.Sink.state c.open_scripts.new.sources.items
          first.ok first.others first.handed c.in-Err-open_replies.notice e.cause e.first;
      others = leaves_both scripts (map reply_name scripts) start mid next first.others (subst (λ (l : List Word). LeavesUnasked l mid next) are e.others);
      handed = tt;
      some = hands_some_since (length names) (length scripts) start mid next (names_count scripts names are start mid next first.others.later first.others.wants_later first.replies)
          first.handed e.some;
    }

pub open_replies-requires-clause-room : goal.open_replies-requires-clause-room
open_replies-requires-clause-room g c κs within =
    let count = ap length (c.deref.ensures.value ∙ c.requires.room.names) ∙ length-map c.args.scripts.now reply_name in
    subst (λ n. n ≤ vec_capacity c.args.room.sinks) (sym count) c.requires.room.sink_room

pub open_replies-requires-clause-few : goal.open_replies-requires-clause-few
open_replies-requires-clause-few g c κs within =
    let count = ap length (c.deref.ensures.value ∙ c.requires.room.names) ∙ length-map c.args.scripts.now reply_name in
    subst (λ n. n < 2 ^ 32) (sym count) c.requires.few

pub open_replies-requires-clause-apart : goal.open_replies-requires-clause-apart
open_replies-requires-clause-apart g c κs within =
    subst (AllPairs (λ a b. a ≢ b)) (sym (c.deref.ensures.value ∙ c.requires.room.names)) c.requires.names.replies_apart

pub into_streams-requires : goal.into_streams-requires
into_streams-requires g c =
    let scripts = c.args.scripts.now in
    let names = c.deref.result.now in
    let are = c.deref.ensures.value ∙ c.requires.room.names in
    let start = g.F.Shelf.state c.args.shelf.now in
    let mid = g.F.Shelf.state c.open_scripts.new.shelf in
    let next = g.F.Shelf.state c.open_replies.new.shelf in
    let first = c.in-Ok.ensures in
    let count = names_count scripts names are start mid next first.others.later first.others.wants_later first.replies in
    let sources = as_many (IsSourceOf start) g.F.S.Source.state scripts c.open_scripts.new.sources.items first.ok in
    let sinks = as_many (IsSinkOf mid) g.F.K.Sink.state names c.open_replies.new.sinks.items c.in-Ok-open_replies.ensures.ok in
    record {
      sinks = sinks ∙ count ∙ sym sources;
      splitters = c.requires.room.enough ∙ sym sources;
      none = c.requires.room.no_streams;
      room = omega (arith, sources, c.requires.room.stream_room);
    }

pub returns-in-Ok-open_replies : goal.returns-in-Ok-open_replies
returns-in-Ok-open_replies g c =
    let scripts = c.args.scripts.now in
    let names = c.deref.result.now in
    let are = c.deref.ensures.value ∙ c.requires.room.names in
    let start = g.F.Shelf.state c.args.shelf.now in
    let mid = g.F.Shelf.state c.open_scripts.new.shelf in
    let next = g.F.Shelf.state c.open_replies.new.shelf in
    let first = c.in-Ok.ensures in
    let e = c.in-Ok-open_replies.ensures in
    let sources = c.open_scripts.new.sources.items in
    let sinks = c.open_replies.new.sinks.items in
    let held = sinks_of scripts names are start mid next first.others.later first.others.wants_later first.replies g.F.K.Sink.state sinks e.ok in
    record {
      opened = subst (λ l. AreOpenedFor g.F.S.Source.state g.F.K.Sink.state start scripts l) (sym c.into_streams.ensures)
          (opened_for g.F.S.Source.state g.F.K.Sink.state start scripts sources sinks c.args.room.splitters.items first.ok held c.requires.room.fresh c.requires.room.enough);
      cause = tt;
      first = tt;
      others = leaves_both scripts (map reply_name scripts) start mid next first.others (subst (λ (l : List Word). LeavesUnasked l mid next) are e.others);
      handed = subst (λ n. HandsOut n start next) (names_count scripts names are start mid next first.others.later first.others.wants_later first.replies)
          (hands_since (length names) start mid next first.handed e.handed);
      some = tt;
    }
