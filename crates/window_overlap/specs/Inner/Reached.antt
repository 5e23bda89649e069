-- What the windows around the coordinates of a box reach, as far as 64 bits go.
use Rattle.std.specs.Prelude.{pos, ◌+ℤ◌, ◌-ℤ◌, List}
use Rattle.std.specs.Int.{w64, saturate_signed}
use Rattle.cell_values.specs.declared.schema.Bounds.{Bounds}
use Rattle.array_rows.specs.Boxes.{by_pairs, corners}
use Rattle.logical_plan.specs.declared.parts.Reach.{Reach}

abbrev pub reached : List Reach → Bounds → Bounds
reached reach area = corners (by_pairs (λ x r. saturate_signed w64 (x -ℤ pos r.before)) area.lo.items reach)
    (by_pairs (λ x r. saturate_signed w64 (x +ℤ pos r.after)) area.hi.items reach)
