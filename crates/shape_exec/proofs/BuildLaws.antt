-- Arrays made of the rows of others.
use Rattle.std.proofs.Common.{◌≡◌, true, List, Result, Ok, Err, sym, ap, ◌∙◌, subst}
use Rattle.std.specs.List.{AllByRecursion}
use Rattle.std.specs.Prelude.{IfOk}
use Rattle.cell_values.specs.declared.datum.Broken.{Broken}
use Rattle.cell_values.specs.declared.datum.Row.{Row}
use Rattle.cell_values.specs.declared.memory.Memory.{Memory}
use Rattle.cell_values.specs.declared.schema.Bounds.{Bounds}
use Rattle.cell_values.specs.declared.schema.Dimension.{Dimension}
use Rattle.cell_values.specs.declared.schema.Schema.{Schema}
use Rattle.array_rows.specs.Arrays.{Meant}
use Rattle.array_rows.specs.Boxes.{bounds_of, is_inside, moved, within}
use Rattle.array_rows.specs.Rows.{Coordinate, in_order}
use Rattle.array_geom.specs.declared.chunk.Chunk.{Chunk}
use Rattle.array_geom.specs.declared.chunk.ChunkedArray.{ChunkedArray}
use Rattle.array_geom.specs.Link.{core_rows}
use Rattle.array_parts.specs.Cores.{HaveCells, cores_of}
use Rattle.array_parts.proofs.CoreLaws.{cores_are_rows}
use Rattle.std.specs.Prelude.{map}
use Rattle.shape_rows.specs.Pulls.{IsPulledIn}
use Rattle.shape_rows.proofs.PullLaws.{all_where, moved_pulled, pulled_in}
use Rattle.shape_exec.specs.Inner.Added.{IsMove}

abbrev pub meant_of : Schema → Result (List Row) Broken → Meant
meant_of schema rows = record { schema = schema; rows = rows }

-- ---- the rows of a move

pub moved_made : (source target : List Dimension) (place back : Coordinate → Coordinate) (area : Bounds) (rows made : List Row) (r : Result (List Row) Memory) → IsMove source target place back → made ≡ map (moved place) rows
    → AllByRecursion (λ row. is_inside (bounds_of source) row.at.items ≡ true) rows → IfOk r (λ sorted. sorted ≡ in_order made) → IfOk r (IsPulledIn (bounds_of target) area back rows)
moved_made source target place back area rows made (Ok sorted) move e a f =
    subst (IsPulledIn (bounds_of target) area back rows) (sym (f ∙ ap in_order e))
    (pulled_in (bounds_of target) area back rows (in_order (map (moved place) rows)) (moved_pulled (bounds_of source) (bounds_of target) place back move.comes move.there move.again rows a))
moved_made source target place back area rows made (Err memory) move e a f = tt

-- ---- rows taken from a box lie within the bounds

pub taken_inside : (array : ChunkedArray) (source : List Dimension) (near : Bounds) (chunks : List Chunk) (from : List Row) → HaveCells array.schema array.margins.items array.chunks → source ≡ array.schema.dimensions → chunks ≡ array.chunks
    → from ≡ within near (core_rows array.schema.dimensions array.margins.items chunks) → AllByRecursion (λ row. is_inside (bounds_of source) row.at.items ≡ true) from
taken_inside array source near chunks from cells s c e =
    let all : AllByRecursion (λ row. is_inside (bounds_of array.schema.dimensions) row.at.items ≡ true) (within near (cores_of array)) =
    all_where (λ row. is_inside (bounds_of array.schema.dimensions) row.at.items ≡ true) near (cores_of array) (cores_are_rows array.schema array.margins.items array.chunks cells).are_rows.in_bounds in
    subst (λ (dims : List Dimension). AllByRecursion (λ row. is_inside (bounds_of dims) row.at.items ≡ true) from) (sym s)
    (subst (AllByRecursion (λ row. is_inside (bounds_of array.schema.dimensions) row.at.items ≡ true)) (sym (e ∙ ap (λ (cs : List Chunk). within near (core_rows array.schema.dimensions array.margins.items cs)) c)) all)

-- what the cores of an array hold lies within its bounds
pub cores_inside : (array : ChunkedArray) (source : List Dimension) → HaveCells array.schema array.margins.items array.chunks → source ≡ array.schema.dimensions → AllByRecursion (λ row. is_inside (bounds_of source) row.at.items ≡ true) (cores_of array)
cores_inside array source cells s =
    subst (λ (dims : List Dimension). AllByRecursion (λ row. is_inside (bounds_of dims) row.at.items ≡ true) (cores_of array)) (sym s) (cores_are_rows array.schema array.margins.items array.chunks cells).are_rows.in_bounds

pub inside_taken : (array : ChunkedArray) (source : Schema) (near : Bounds) (from : List Row) → HaveCells array.schema array.margins.items array.chunks → source ≡ array.schema → from ≡ within near (cores_of array)
    → AllByRecursion (λ row. is_inside (bounds_of source.dimensions) row.at.items ≡ true) from
inside_taken array source near from cells s e =
    subst (AllByRecursion (λ row. is_inside (bounds_of source.dimensions) row.at.items ≡ true)) (sym e)
    (all_where (λ row. is_inside (bounds_of source.dimensions) row.at.items ≡ true) near (cores_of array) (cores_inside array source.dimensions cells (ap (λ (z : Schema). z.dimensions) s)))
