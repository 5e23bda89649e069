-- Small rows: two cells that are an array, a cell put in the place of another, and parts.
use Rattle.std.proofs.Common.{◌≡◌, pos, false, List, [], ◌∷◌, None, refl, codes}
use Rattle.cell_values.specs.declared.datum.Datum.TheVariants.{Int}
use Rattle.cell_values.specs.declared.datum.Cell.{Cell}
use Rattle.cell_values.specs.declared.datum.Cell.TheVariants.{Full, Doubt}
use Rattle.cell_values.specs.declared.datum.FaultKind.TheVariants.{Overflow}
use Rattle.cell_values.specs.declared.datum.Row.{Row}
use Rattle.cell_values.specs.declared.schema.Kind.TheVariants.{Int64}
use Rattle.cell_values.specs.declared.schema.Schema.{Schema}
use Rattle.array_rows.specs.Arrays.{AreRowsOf}
use Rattle.array_rows.specs.Boxes.{corners, within, meet, bounds_of}
use Rattle.array_rows.specs.Rows.{placed, cell_at, put_row, put_all, in_order}

abbrev schema : Schema
schema = record {
  attributes = record { name = codes "v"; kind = Int64; nullable = false } ∷ [];
  dimensions = record { name = codes "x"; lo = pos 0; hi = pos 1; chunk = 2; overlap = 0 } ∷ record { name = codes "y"; lo = pos 0; hi = pos 9; chunk = 5; overlap = 1 } ∷ [];
}

abbrev five : Cell
five = Full (Int (pos 5) ∷ [])

abbrev rows : List Row
rows = placed (pos 0 ∷ pos 7 ∷ []) five ∷ placed (pos 1 ∷ pos 2 ∷ []) (Doubt Overflow) ∷ []

pub are_rows : AreRowsOf schema rows
are_rows = record { valid = refl; are_rows = record { rising = ((refl, tt), (tt, tt)); in_bounds = (refl, (refl, tt)) }; kinds = ((refl, tt), (tt, tt)) }

replaced : put_row (placed (pos 1 ∷ pos 2 ∷ []) five) rows ≡ placed (pos 0 ∷ pos 7 ∷ []) five ∷ placed (pos 1 ∷ pos 2 ∷ []) five ∷ []
replaced = refl

between_two : put_all (placed (pos 1 ∷ pos 0 ∷ []) five ∷ []) rows ≡ placed (pos 0 ∷ pos 7 ∷ []) five ∷ placed (pos 1 ∷ pos 0 ∷ []) five ∷ placed (pos 1 ∷ pos 2 ∷ []) (Doubt Overflow) ∷ []
between_two = refl

first_stays : in_order (placed (pos 3 ∷ []) five ∷ placed (pos 2 ∷ []) five ∷ placed (pos 3 ∷ []) (Doubt Overflow) ∷ []) ≡ placed (pos 2 ∷ []) five ∷ placed (pos 3 ∷ []) five ∷ []
first_stays = refl

in_box : within (meet (bounds_of schema.dimensions) (corners (pos 0 ∷ pos 0 ∷ []) (pos 0 ∷ pos 100 ∷ []))) rows ≡ placed (pos 0 ∷ pos 7 ∷ []) five ∷ []
in_box = refl

nothing_there : cell_at rows (pos 1 ∷ pos 7 ∷ []) ≡ None
nothing_there = refl
