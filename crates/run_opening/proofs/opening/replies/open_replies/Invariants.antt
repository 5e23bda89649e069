use Rattle.std.proofs.Common.{◌≡◌, ◌≤◌, length, map, take, vec_capacity}
use Rattle.std.specs.List.{AllZip}
use Rattle.run_opening.specs.Opened.{HandsOut, IsSinkOf, LeavesUnasked}
use Rattle.run_opening.proofs.opening.replies.open_replies.Given as goal

abbrev pub invariant-loop-place : goal.invariant-loop-place
invariant-loop-place g l = record {
  opened : AllZip (IsSinkOf (g.F.Shelf.state l.fn.shelf)) (take l.place l.names) (map g.F.K.Sink.state l.sinks.items);
  told : LeavesUnasked (take l.place l.names) (g.F.Shelf.state l.fn.shelf) (g.F.Shelf.state l.shelf);
  handed : HandsOut l.place (g.F.Shelf.state l.fn.shelf) (g.F.Shelf.state l.shelf);
  count : length l.sinks.items ≡ l.place;
  room : length l.names ≤ vec_capacity l.sinks;
}
