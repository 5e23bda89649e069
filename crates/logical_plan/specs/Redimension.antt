-- Cells moved to coordinates that their values give.
use Rattle.std.specs.Prelude.{ℕ, ◌+◌, ℤ, pos, ◌+ℤ◌, Bool, true, false, not, ◌&&◌, if◌then◌else◌, List, []}
use Rattle.std.specs.Prelude.{◌∷◌, map, filter, length, slice_index_or, Option, Some, None, Result, Ok, Err}
use Rattle.std.specs.List.{list_any}
use Rattle.std.specs.Option.{option_map}
use Rattle.std.specs.Ordering.{is_eq}
use Rattle.std.specs.Str.{bytes_eq}
use Rattle.cell_values.specs.declared.datum.FaultKind.{FaultKind}
use Rattle.cell_values.specs.declared.datum.FaultKind.TheVariants.{OutOfBounds, Collision}
use Rattle.cell_values.specs.declared.datum.Datum.{Datum}
use Rattle.cell_values.specs.declared.datum.Datum.TheVariants.{Null, Int}
use Rattle.cell_values.specs.declared.datum.Cell.{Cell}
use Rattle.cell_values.specs.declared.datum.Cell.TheVariants.{Full, Doubt}
use Rattle.cell_values.specs.declared.datum.Row.{Row}
use Rattle.cell_values.specs.declared.datum.Broken.{Broken}
use Rattle.cell_values.specs.declared.schema.Attribute.{Attribute}
use Rattle.cell_values.specs.declared.schema.Bounds.{Bounds}
use Rattle.cell_values.specs.declared.schema.Dimension.{Dimension}
use Rattle.cell_values.specs.declared.schema.Kind.TheVariants.{Int64}
use Rattle.cell_values.specs.declared.schema.Schema.{Schema}
use Rattle.cell_values.specs.Nulls.{is_null}
use Rattle.array_rows.specs.Rows.{Coordinate, row_major, placed, in_order}
use Rattle.array_rows.specs.Boxes.{is_inside, bounds_of}
use Rattle.expr_nulls.specs.Typing.{same_kind}
use Rattle.logical_plan.specs.declared.parts.Aggregate.{Aggregate}
use Rattle.logical_plan.specs.BoxOps.{items_but}
use Rattle.logical_plan.specs.CellOps.{fit_rows}
use Rattle.logical_plan.specs.Faults.{if_whole}
use Rattle.logical_plan.specs.Groups.{bad_kind, number_of, first_some, aggregate_of, cells_of}

-- where a number or a value of the target comes from. A synthetic dimension counts from its low bound
pub data Origin : Type 0 where
  from_dimension : ℕ → Origin
  from_attribute : ℕ → Origin
  counted : ℤ → Origin

-- what becomes of a cell of the source
pub data Landing : Type 0 where
  lands : Coordinate → Landing
  drops : Landing
  breaks : FaultKind → Landing

-- ---- origins

-- the place of the first one that passes a test
abbrev pub place_where : {A : Type 0} → (A → Bool) → List A → Option ℕ
place_where test [] = None
place_where test (x ∷ xs) = if test x then Some 0 else option_map (λ n. n + 1) (place_where test xs)

abbrev pub origin_or : Option ℕ → (ℕ → Origin) → Origin → Origin
origin_or None from other = other
origin_or (Some n) from other = from n

-- a target dimension is the source's dimension of its name, or its `int64` attribute of that name, or synthetic
abbrev pub origin_of : Schema → Dimension → Origin
origin_of source d =
    origin_or (place_where (λ s. bytes_eq s.name d.name) source.dimensions) from_dimension
    (origin_or (place_where (λ a. bytes_eq a.name d.name && same_kind a.kind Int64) source.attributes) from_attribute (counted d.lo))

-- a target attribute is the source's attribute of its name, or its dimension of that name
abbrev pub value_origin : Schema → Attribute → Origin
value_origin source a =
    origin_or (place_where (λ b. bytes_eq b.name a.name) source.attributes) from_attribute
    (origin_or (place_where (λ s. bytes_eq s.name a.name) source.dimensions) from_dimension (counted (pos 0)))

-- ---- where a cell lands

-- the value that a target dimension takes from a cell. A synthetic one has its low bound at first
abbrev pub target_value : Coordinate → List Datum → Origin → Datum
target_value c vs (from_dimension place) = Int (slice_index_or c place (pos 0))
target_value c vs (from_attribute place) = slice_index_or vs place Null
target_value c vs (counted lo) = Int lo

-- the places of the synthetic dimensions, of which the first is numbered n
abbrev pub counted_places : List Origin → ℕ → List ℕ
counted_places [] n = []
counted_places (counted lo ∷ origins) n = n ∷ counted_places origins (n + 1)
counted_places (_ ∷ origins) n = counted_places origins (n + 1)

-- how many of the targets taken so far agree with this one but for the synthetic dimensions
abbrev pub alike_so_far : List ℕ → List Coordinate → Coordinate → ℕ
alike_so_far places taken c = length (filter (λ t. is_eq (row_major (items_but places 0 t) (items_but places 0 c))) taken)

-- the number n added at the synthetic dimensions
abbrev pub counted_up : List Origin → ℕ → Coordinate → Coordinate
counted_up [] n c = c
counted_up (o ∷ origins) n [] = []
counted_up (counted lo ∷ origins) n (x ∷ c) = (x +ℤ pos n) ∷ counted_up origins n c
counted_up (_ ∷ origins) n (x ∷ c) = x ∷ counted_up origins n c

-- out of the target's bounds, already taken where that matters, or there
abbrev pub landing_at : Bounds → Bool → List Coordinate → Coordinate → Landing
landing_at bounds once taken c =
    if not (is_inside bounds c) then breaks OutOfBounds
    else (if once && list_any (λ t. is_eq (row_major t c)) taken then breaks Collision else lands c)

abbrev pub unless_fault : Option FaultKind → Landing → Landing
unless_fault None landing = landing
unless_fault (Some kind) landing = breaks kind

-- a doubt, the first fault among the target's numbers, a null among them, and then the place
abbrev pub landing_of : List Origin → Bounds → Bool → List Coordinate → Coordinate → Cell → Landing
landing_of origins bounds once taken c (Doubt kind) = breaks kind
landing_of origins bounds once taken c (Full vs) =
    let values = map (target_value c vs) origins in
    let first = map number_of values in
    let n = alike_so_far (counted_places origins 0) taken first in
    unless_fault (first_some bad_kind values)
    (if list_any is_null values then drops else landing_at bounds once taken (counted_up origins n first))

-- a source's row with its target
abbrev pub Landed : Type 0
Landed = Coordinate × Row

-- what comes of the landing of a row: its target and what follows, what follows alone, or the break
abbrev pub after_landing : Landing → Row → (List Coordinate → Result (List Landed) Broken) → List Coordinate → Result (List Landed) Broken
after_landing (lands t) row go taken = if_whole (λ rest. (t, row) ∷ rest) (go (t ∷ taken))
after_landing drops row go taken = go taken
after_landing (breaks kind) row go taken = Err (record { at = row.at; kind = kind })

-- the rows in row-major order, each with its target, or the first that breaks the array
abbrev pub landed : List Origin → Bounds → Bool → List Row → List Coordinate → Result (List Landed) Broken
landed origins bounds once [] taken = Ok []
landed origins bounds once (row ∷ rows) taken =
    after_landing (landing_of origins bounds once taken row.at.items row.cell) row (λ now. landed origins bounds once rows now) taken

-- ---- without aggregates each target has the values that its attributes name

abbrev pub carried_cell : List Origin → Coordinate → Cell → Cell
carried_cell values c (Full vs) = Full (map (target_value c vs) values)
carried_cell values c (Doubt kind) = Doubt kind

abbrev pub carried : List Origin → Landed → Row
carried values (t, row) = placed t (carried_cell values row.at.items row.cell)

abbrev pub carried_rows : List Origin → Bounds → List Origin → List Row → Result (List Row) Broken
carried_rows origins bounds values rows = if_whole (λ all. in_order (map (carried values) all)) (landed origins bounds true rows [])

-- ---- with aggregates each target has their values over the cells that land there

abbrev pub landed_at : List Landed → Coordinate → List Row
landed_at all t = map (λ l. l.1) (filter (λ l. is_eq (row_major l.0 t)) all)

-- the aggregate that has this name
abbrev pub named : List Aggregate → List ℕ → Option Aggregate
named [] name = None
named (g ∷ gs) name = if bytes_eq g.name name then Some g else named gs name

abbrev pub value_or_null : Option Aggregate → List Row → Datum
value_or_null None rows = Null
value_or_null (Some g) rows = aggregate_of g (cells_of rows)

-- for each attribute of the target the value of the aggregate that has its name
abbrev pub by_names : List Attribute → List Aggregate → List Row → Cell
by_names attributes gs rows = Full (map (λ a. value_or_null (named gs a.name) rows) attributes)

abbrev pub gathered_rows : List Origin → Bounds → List Attribute → List Aggregate → List Row → Result (List Row) Broken
gathered_rows origins bounds attributes gs rows =
    if_whole (λ all. in_order (map (λ l. placed l.0 (by_names attributes gs (landed_at all l.0))) all)) (landed origins bounds false rows [])

-- ---- from one schema into another, the values fitted to the target's attributes

abbrev pub redimension_rows : Schema → Schema → List Aggregate → List Row → Result (List Row) Broken
redimension_rows source target [] rows =
    if_whole (fit_rows target.attributes)
    (carried_rows (map (origin_of source) target.dimensions) (bounds_of target.dimensions) (map (value_origin source) target.attributes) rows)
redimension_rows source target (g ∷ gs) rows =
    if_whole (fit_rows target.attributes)
    (gathered_rows (map (origin_of source) target.dimensions) (bounds_of target.dimensions) target.attributes (g ∷ gs) rows)
