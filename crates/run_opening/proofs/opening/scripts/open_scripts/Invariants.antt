use Rattle.std.proofs.Common.{◌≡◌, ◌≤◌, length, map, take, vec_capacity}
use Rattle.std.specs.List.{AllZip}
use Rattle.run_opening.specs.Names.{Word}
use Rattle.run_opening.specs.Opened.{IsSourceOf, LeavesUnasked}
use Rattle.run_opening.proofs.opening.scripts.open_scripts.Given as goal

abbrev pub invariant-loop-place : goal.invariant-loop-place
invariant-loop-place g l = record {
  opened : AllZip (IsSourceOf (g.F.Shelf.state l.fn.shelf)) (take l.place l.scripts) (map g.F.S.Source.state l.sources.items);
  told : LeavesUnasked (take l.place l.scripts) (g.F.Shelf.state l.fn.shelf) (g.F.Shelf.state l.shelf);
  replies : (n : Word) → (g.F.Shelf.state l.shelf).replies n ≡ (g.F.Shelf.state l.fn.shelf).replies n;
  handed : (g.F.Shelf.state l.shelf).handed ≡ (g.F.Shelf.state l.fn.shelf).handed;
  count : length l.sources.items ≡ l.place;
  room : length l.scripts ≤ vec_capacity l.sources;
}
