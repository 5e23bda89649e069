use Rattle.std.proofs.Common.{◌≡◌, ◌++◌, length}
use Rattle.std.specs.List.{flat_map}
use Rattle.array_geom.specs.Link.{core_rows}
use Rattle.array_parts.specs.Placed.{HavePlaces}
use Rattle.chunk_cells.specs.Whole.{CoresRise}
use Rattle.statement_replies.specs.Inner.Parts.{row_part}
use Rattle.statement_replies.proofs.replies.texts.push_cores.Given as goal

abbrev pub invariant-loop-rest : goal.invariant-loop-rest
invariant-loop-rest l = record {
  placed : HavePlaces l.schema l.margins.items l.rest;
  cores : CoresRise l.schema.dimensions l.margins.items l.rest;
  rows : l.text ++ flat_map (row_part l.style.csv) (core_rows l.schema.dimensions l.margins.items l.rest) ≡ l.initial.text ++ flat_map (row_part l.style.csv) (core_rows l.schema.dimensions l.margins.items l.fn.chunks);
}

abbrev pub decreases-loop-rest : goal.decreases-loop-rest
decreases-loop-rest l = length l.rest
