-- The sets of the cells of all cores, chunk by chunk.
use Rattle.std.proofs.Common.{◌≡◌, ℕ, pos, Bool, true, false, cond, List, [], ◌∷◌, length, map, Some, None, Result, refl, sym, ap, ◌∙◌, subst}
use Rattle.std.specs.List.{AllByRecursion}
use Rattle.std.specs.Ordering.{is_eq, ordering_reverse}
use Rattle.std.specs.declared.cmp.Ordering.{Ordering}
use Rattle.std.specs.declared.cmp.Ordering.TheVariants.{Less, Equal, Greater}
use Rattle.cell_values.specs.declared.datum.Row.{Row}
use Rattle.cell_values.specs.declared.schema.Bounds.{Bounds}
use Rattle.cell_values.specs.declared.schema.Dimension.{Dimension}
use Rattle.cell_values.specs.declared.schema.Schema.{Schema}
use Rattle.cell_values.specs.Schemas.{IsValid}
use Rattle.array_rows.specs.Arrays.{AreRowsOf}
use Rattle.array_rows.specs.Boxes.{is_inside, within}
use Rattle.array_rows.specs.Rows.{Coordinate, IsRising, cell_at, row_major, rows_where, put_by, put_row, put_all}
use Rattle.array_rows.proofs.RowSets.{IsRising-rows_where, rows_where-put_all, cell_at-rows_where}
use Rattle.array_geom.specs.declared.chunk.Chunk.{Chunk}
use Rattle.array_geom.specs.Geometry.{ChunkNumber, core}
use Rattle.array_geom.specs.Link.{chunk_rows, core_rows, number_order, numbers, NumbersRise}
use Rattle.array_geom.proofs.LawProofs.{cores_lie_apart}
use Rattle.agg_states.specs.Stands.{AreApart}
use Rattle.array_parts.specs.Cores.{HaveCells}
use Rattle.area_cells.proofs.NumberLaws.{number_order_total}
use Rattle.area_cells.proofs.MergeLaws.{put_all-none, IsRising-core_rows}
use Rattle.group_rows.specs.Inner.Keys.{core_of, aggregate_sets, block_at, regrid_sets}
use Rattle.std.specs.Prelude.{IfOk}
use Rattle.std.proofs.lemmas.Bool.{false≢true}
use Rattle.std.proofs.lemmas.Result.{IfOk-weaker}
use Rattle.cell_values.specs.declared.memory.Memory.{Memory}
use Rattle.group_rows.specs.declared.rows.groups.Groups.{Groups}
use Rattle.group_rows.specs.Grouped.{AreGroupsOf}
use Rattle.group_rows.proofs.FormLaws.{same_sets}
use Rattle.logical_plan.specs.BoxOps.{numbers_at}
use Rattle.logical_plan.specs.declared.parts.Aggregate.{Aggregate}
use Rattle.exec_group.specs.Inner.Parts.{sets_of, block_sets_of, has_parts}
use Rattle.group_rows.specs.Sets.{both, all_sets, sets_by, unless_empty, IsApart, AreApartSets, AreAllApart, one_set}
use Rattle.logical_plan.specs.Groups.{group_at}

pub some_put : (x : Row) (rows : List Row) → unless_empty (put_row x rows) ≡ Some (put_row x rows)
some_put x [] = refl
some_put x (row ∷ rows) = cases (row_major x.at.items row.at.items)
  where
    cases : (o : Ordering) → unless_empty (put_by o x row rows (put_row x rows)) ≡ Some (put_by o x row rows (put_row x rows))
    cases Less = refl
    cases Equal = refl
    cases Greater = refl

pub both_of : (a b : List Row) → IsRising a → both (unless_empty a) (unless_empty b) ≡ unless_empty (put_all a b)
both_of [] b r = refl
both_of (x ∷ a) [] r = ap unless_empty (sym (put_all-none (x ∷ a) r))
both_of (x ∷ a) (y ∷ b) r = sym (some_put x (put_all a (y ∷ b)))

-- the groups of the cells of all cores are those of each core, put together
pub sets_of_cores : (group : Coordinate → Coordinate) (dims : List Dimension) (margins : List ℕ) (chunks : List Chunk) → AllByRecursion (λ chunk. IsRising (core_of dims margins chunk)) chunks
    → (c : Coordinate) → all_sets (map (λ chunk. sets_by group (core_of dims margins chunk)) chunks) c ≡ sets_by group (core_rows dims margins chunks) c
sets_of_cores group dims margins [] r c = refl
sets_of_cores group dims margins (chunk ∷ chunks) r c =
    ap (both (unless_empty (group_at group c (core_of dims margins chunk)))) (sets_of_cores group dims margins chunks r.1 c)
    ∙ both_of (group_at group c (core_of dims margins chunk)) (group_at group c (core_rows dims margins chunks)) (IsRising-rows_where (λ at. is_eq (row_major (group at) c)) (core_of dims margins chunk) r.0)
    ∙ ap unless_empty (sym (rows_where-put_all (λ at. is_eq (row_major (group at) c)) (core_of dims margins chunk) (core_rows dims margins chunks) (IsRising-core_rows dims margins chunks)))

pub cores_rise : (schema : Schema) (margins : List ℕ) (chunks : List Chunk) → HaveCells schema margins chunks → AllByRecursion (λ chunk. IsRising (core_of schema.dimensions margins chunk)) chunks
cores_rise schema margins chunks h = go chunks h.rows_of
  where
    go : (some : List Chunk) → AllByRecursion (λ chunk. AreRowsOf schema (chunk_rows schema.dimensions margins chunk)) some → AllByRecursion (λ chunk. IsRising (core_of schema.dimensions margins chunk)) some
    go [] r = tt
    go (chunk ∷ some) r = (IsRising-rows_where (is_inside (core schema.dimensions chunk.at.items)) (chunk_rows schema.dimensions margins chunk) r.0.are_rows.rising, go some r.1)

-- ---- cores of rising numbers have no cell in common

in_box : (area : Bounds) (rows : List Row) → AllByRecursion (λ row. is_inside area row.at.items ≡ true) (within area rows)
in_box area [] = tt
in_box area (row ∷ rows) = keep (is_inside area row.at.items) refl (in_box area rows)
  where
    keep : (t : Bool) → is_inside area row.at.items ≡ t → AllByRecursion (λ row. is_inside area row.at.items ≡ true) (within area rows)
        → AllByRecursion (λ row. is_inside area row.at.items ≡ true) (cond t (row ∷ within area rows) (within area rows))
    keep true e h = (e, h)
    keep false e h = h

none_where : (test : Coordinate → Bool) (b : List Row) (c : Coordinate) → cell_at b c ≡ None → cell_at (rows_where test b) c ≡ None
none_where test b c n = cell_at-rows_where test b c ∙ cases (test c)
  where
    cases : (t : Bool) → cond t (cell_at b c) None ≡ None
    cases true = n
    cases false = refl

not_in_box : (area : Bounds) (b : List Row) (c : Coordinate) → is_inside area c ≡ false → cell_at (within area b) c ≡ None
not_in_box area b c e = cell_at-rows_where (is_inside area) b c ∙ ap (λ t. cond t (cell_at b c) None) e

boxes_apart : (a b : Bounds) (left right : List Row) → ((c : Coordinate) → is_inside a c ≡ true → is_inside b c ≡ false) → AreApart (within a left) (within b right)
boxes_apart a b left right f = go (within a left) (in_box a left)
  where
    go : (rows : List Row) → AllByRecursion (λ row. is_inside a row.at.items ≡ true) rows → AreApart rows (within b right)
    go [] h = tt
    go (row ∷ rows) h = (not_in_box b right row.at.items (f row.at.items h.0), go rows h.1)

where_apart : (test : Coordinate → Bool) (a b : List Row) → AreApart a b → AreApart (rows_where test a) (rows_where test b)
where_apart test [] b h = tt
where_apart test (row ∷ a) b h = keep (test row.at.items) (none_where test b row.at.items h.0) (where_apart test a b h.1)
  where
    keep : (t : Bool) → cell_at (rows_where test b) row.at.items ≡ None → AreApart (rows_where test a) (rows_where test b) → AreApart (cond t (row ∷ rows_where test a) (rows_where test a)) (rows_where test b)
    keep true n r = (n, r)
    keep false n r = r

pub sets_apart : (a b : List Row) → AreApart a b → IsApart (unless_empty a) (unless_empty b)
sets_apart [] b h = tt
sets_apart (x ∷ a) [] h = tt
sets_apart (x ∷ a) (y ∷ b) h = h

not_less : (k l : ChunkNumber) → number_order k l ≡ Less → k ≡ l → ⊥
not_less k l h e =
    let self : number_order k k ≡ Less = subst (λ (z : ChunkNumber). number_order k z ≡ Less) (sym e) h in
    let turned : Less ≡ Greater = sym self ∙ number_order_total.antisymm k k ∙ ap ordering_reverse self in
    cc

other_core : (schema : Schema) (k l : ChunkNumber) → IsValid schema → length k ≡ length schema.dimensions → length l ≡ length schema.dimensions → number_order k l ≡ Less
    → (c : Coordinate) → is_inside (core schema.dimensions k) c ≡ true → is_inside (core schema.dimensions l) c ≡ false
other_core schema k l v m n h c e = cases (is_inside (core schema.dimensions l) c) refl
  where
    cases : (t : Bool) → is_inside (core schema.dimensions l) c ≡ t → t ≡ false
    cases false f = refl
    cases true f = absurd (not_less k l h (cores_lie_apart schema k c v m e ∙ sym (cores_lie_apart schema l c v n f)))

pub cores_apart : (group : Coordinate → Coordinate) (schema : Schema) (margins : List ℕ) (chunks : List Chunk) → IsValid schema → AllByRecursion (λ k. length k ≡ length schema.dimensions) (numbers chunks)
    → NumbersRise (numbers chunks) → AreAllApart (map (λ chunk. sets_by group (core_of schema.dimensions margins chunk)) chunks)
cores_apart group schema margins [] v s r = tt
cores_apart group schema margins (chunk ∷ chunks) v s r = (later chunks s.1 r.0, cores_apart group schema margins chunks v s.1 r.1)
  where
    later : (some : List Chunk) → AllByRecursion (λ k. length k ≡ length schema.dimensions) (numbers some) → AllByRecursion (λ l. number_order chunk.at.items l ≡ Less) (numbers some)
        → AllByRecursion (AreApartSets (sets_by group (core_of schema.dimensions margins chunk))) (map (λ other. sets_by group (core_of schema.dimensions margins other)) some)
    later [] t u = tt
    later (other ∷ some) t u = (
      (λ c. sets_apart (group_at group c (core_of schema.dimensions margins chunk)) (group_at group c (core_of schema.dimensions margins other))
          (where_apart (λ at. is_eq (row_major (group at) c)) (core_of schema.dimensions margins chunk) (core_of schema.dimensions margins other)
          (boxes_apart (core schema.dimensions chunk.at.items) (core schema.dimensions other.at.items) (chunk_rows schema.dimensions margins chunk) (chunk_rows schema.dimensions margins other)
          (other_core schema chunk.at.items other.at.items v s.0 t.0 u.0)))),
      later some t.1 u.1,
    )

-- ---- all cells in one group

-- the group of the cells of all cores is that of each core, put together, if there is a chunk
one_of_cores : (at : Coordinate) (dims : List Dimension) (margins : List ℕ) (chunk : Chunk) (chunks : List Chunk) → AllByRecursion (λ chunk. IsRising (core_of dims margins chunk)) (chunk ∷ chunks)
    → (c : Coordinate) → all_sets (map (λ chunk. one_set at (core_of dims margins chunk)) (chunk ∷ chunks)) c ≡ one_set at (core_rows dims margins (chunk ∷ chunks)) c
one_of_cores at dims margins chunk [] r c = cases (is_eq (row_major at c))
  where
    cases : (t : Bool) → both (cond t (Some (core_of dims margins chunk)) None) None ≡ cond t (Some (put_all (core_of dims margins chunk) [])) None
    cases true = ap Some (sym (put_all-none (core_of dims margins chunk) r.0))
    cases false = refl
one_of_cores at dims margins chunk (next ∷ chunks) r c =
    ap (both (one_set at (core_of dims margins chunk) c)) (one_of_cores at dims margins next chunks r.1 c) ∙ cases (is_eq (row_major at c))
  where
    cases : (t : Bool) → both (cond t (Some (core_of dims margins chunk)) None) (cond t (Some (core_rows dims margins (next ∷ chunks))) None) ≡ cond t (Some (put_all (core_of dims margins chunk) (core_rows dims margins (next ∷ chunks)))) None
    cases true = refl
    cases false = refl

one_apart : (at : Coordinate) (schema : Schema) (margins : List ℕ) (chunks : List Chunk) → IsValid schema → AllByRecursion (λ k. length k ≡ length schema.dimensions) (numbers chunks)
    → NumbersRise (numbers chunks) → AreAllApart (map (λ chunk. one_set at (core_of schema.dimensions margins chunk)) chunks)
one_apart at schema margins [] v s r = tt
one_apart at schema margins (chunk ∷ chunks) v s r = (later chunks s.1 r.0, one_apart at schema margins chunks v s.1 r.1)
  where
    keep : (t : Bool) (a b : List Row) → AreApart a b → IsApart (cond t (Some a) None) (cond t (Some b) None)
    keep true a b h = h
    keep false a b h = tt

    later : (some : List Chunk) → AllByRecursion (λ k. length k ≡ length schema.dimensions) (numbers some) → AllByRecursion (λ l. number_order chunk.at.items l ≡ Less) (numbers some)
        → AllByRecursion (AreApartSets (one_set at (core_of schema.dimensions margins chunk))) (map (λ other. one_set at (core_of schema.dimensions margins other)) some)
    later [] t u = tt
    later (other ∷ some) t u = (
      (λ c. keep (is_eq (row_major at c)) (core_of schema.dimensions margins chunk) (core_of schema.dimensions margins other)
          (boxes_apart (core schema.dimensions chunk.at.items) (core schema.dimensions other.at.items) (chunk_rows schema.dimensions margins chunk) (chunk_rows schema.dimensions margins other)
          (other_core schema chunk.at.items other.at.items v s.0 t.0 u.0))),
      later some t.1 u.1,
    )

pub whole_groups : (gs : List Aggregate) (places : List ℕ) (schema : Schema) (margins : List ℕ) (chunks : List Chunk) (answer : Result Groups Memory) → HaveCells schema margins chunks → has_parts places chunks ≡ true
    → (AreAllApart (sets_of places schema.dimensions margins chunks) → IfOk answer (λ all. AreGroupsOf gs (all_sets (sets_of places schema.dimensions margins chunks)) all.groups))
    → IfOk answer (λ all. AreGroupsOf gs (aggregate_sets places (core_rows schema.dimensions margins chunks)) all.groups)
whole_groups gs [] schema margins [] answer h some f = absurd (false≢true some)
whole_groups gs [] schema margins (chunk ∷ chunks) answer h some f =
    IfOk-weaker answer _ _
    (λ all own. same_sets gs (all_sets (sets_of [] schema.dimensions margins (chunk ∷ chunks))) (aggregate_sets [] (core_rows schema.dimensions margins (chunk ∷ chunks))) all.groups
    (one_of_cores (pos 0 ∷ []) schema.dimensions margins chunk chunks (cores_rise schema margins (chunk ∷ chunks) h)) own)
    (f (one_apart (pos 0 ∷ []) schema margins (chunk ∷ chunks) h.placed.valid h.placed.sized h.placed.rising))
whole_groups gs (place ∷ places) schema margins chunks answer h some f =
    let group = numbers_at (place ∷ places) in
    IfOk-weaker answer _ _
    (λ all own. same_sets gs (all_sets (sets_of (place ∷ places) schema.dimensions margins chunks)) (aggregate_sets (place ∷ places) (core_rows schema.dimensions margins chunks)) all.groups
    (sets_of_cores group schema.dimensions margins chunks (cores_rise schema margins chunks h)) own)
    (f (cores_apart group schema margins chunks h.placed.valid h.placed.sized h.placed.rising))

pub whole_blocks : (gs : List Aggregate) (sizes : List ℕ) (schema : Schema) (margins : List ℕ) (chunks : List Chunk) (answer : Result Groups Memory) → HaveCells schema margins chunks
    → (AreAllApart (block_sets_of sizes schema.dimensions margins chunks) → IfOk answer (λ all. AreGroupsOf gs (all_sets (block_sets_of sizes schema.dimensions margins chunks)) all.groups))
    → IfOk answer (λ all. AreGroupsOf gs (regrid_sets schema.dimensions sizes (core_rows schema.dimensions margins chunks)) all.groups)
whole_blocks gs sizes schema margins chunks answer h f =
    let group = block_at schema.dimensions sizes in
    IfOk-weaker answer _ _
    (λ all own. same_sets gs (all_sets (block_sets_of sizes schema.dimensions margins chunks)) (regrid_sets schema.dimensions sizes (core_rows schema.dimensions margins chunks)) all.groups
    (sets_of_cores group schema.dimensions margins chunks (cores_rise schema margins chunks h)) own)
    (f (cores_apart group schema margins chunks h.placed.valid h.placed.sized h.placed.rising))
