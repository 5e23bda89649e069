-- The rows of the wanted chunks serve as well as all: in the frames of the chunks that an insert writes they are the same.
use Rattle.std.proofs.Common.{◌≡◌, ℕ, suc, Bool, true, false, cond, ◌&&◌, ◌||◌, List, [], ◌∷◌, length, filter, Option, Some, None, Result, Ok, Err, refl, sym, ap, ◌∙◌, subst}
use Rattle.std.specs.Prelude.{IfOk}
use Rattle.std.specs.List.{AllByRecursion, AllZip, list_any}
use Rattle.std.specs.Ordering.{is_eq}
use Rattle.std.specs.declared.cmp.Ordering.{Ordering}
use Rattle.std.specs.declared.cmp.Ordering.TheVariants.{Less, Equal, Greater}
use Rattle.arrayvec.specs.ArrayVec.{ArrayVec}
use Rattle.cell_values.specs.declared.datum.Cell.{Cell}
use Rattle.cell_values.specs.declared.datum.Row.{Row}
use Rattle.cell_values.specs.declared.schema.Dimension.{Dimension}
use Rattle.cell_values.specs.declared.schema.Schema.{Schema}
use Rattle.cell_values.specs.Cells.{IsCellOf}
use Rattle.array_rows.specs.Arrays.{AreRowsOf}
use Rattle.array_rows.specs.Boxes.{bounds_of, is_inside, within}
use Rattle.array_rows.specs.Rows.{Coordinate, cell_at, put_all, row_major}
use Rattle.array_rows.proofs.RowsLemmas.{row_major_exact, same_rows}
use Rattle.array_rows.proofs.RowSets.{IsRising-put_all, IsRising-rows_where, cell_at-put_all, cell_at-within, rows_where-put_all}
use Rattle.array_geom.specs.declared.chunk.Changed.{Changed}
use Rattle.array_geom.specs.declared.chunk.Chunk.{Chunk}
use Rattle.array_geom.specs.Geometry.{ChunkNumber, chunk_of, core, core_meets, frame, has_core, overlaps}
use Rattle.array_geom.specs.Link.{IsPart, chunk_rows, core_rows, has_cell, is_listed, is_not_empty, number_order, numbers}
use Rattle.array_geom.proofs.CoreLaws.{chunk_has_core, core_has, core_in_frame, core_of, length-chunk_of}
use Rattle.array_geom.proofs.LinkLaws.{within-within}
use Rattle.array_geom.proofs.NearLemmas.{valid_placed}
use Rattle.array_geom.proofs.NumberLaws.{is_equal, same_number}
use Rattle.array_geom.proofs.TestLaws.{and_both, and_parts}
use Rattle.array_parts.proofs.CoreLaws.{cores_of_any}
use Rattle.array_parts.proofs.PartLemmas.{each_listed}
use Rattle.std.specs.Option.{option_or}
use Rattle.chunk_rle.specs.Stored.{IsStored}
use Rattle.commit_pages.specs.Lengths.{meets}
use Rattle.logical_plan.specs.declared.parts.Leaf.{Leaf}
use Rattle.logical_plan.specs.Meaning.{Database, version_rows}
use Rattle.plan_changes.proofs.NamesOf.{map_filter}
use Rattle.plan_needs.proofs.AlikeScans.{chunk_meets}
use Rattle.chunk_source.specs.declared.reading.fault.ExecFault.{ExecFault}
use Rattle.chunk_source.specs.Source.{HasArray, IsChunkIn, Keeps, SourceState, numbers_of, IsStored as IsRead}
use Rattle.chunk_source.proofs.ReadingLeafLaws.{each_overlap}
use Rattle.changed_chunks.specs.Inner.Input.{AreStoredChunks, MayBeStored, stored_rows}
use Rattle.changed_chunks.specs.Inner.Writes.{IsInsertOf, Serves}
use Rattle.changed_chunks.specs.Wanted.{all_numbers, is_wanted, target_wanted, touched}
use Rattle.changed_chunks.proofs.ChunkLaws.{listed_kept, put_each}
use Rattle.changed_chunks.proofs.Reach.{any_filter, any_number}

-- ---- the cells of the cores of parts

abbrev covers : List Dimension → List Chunk → Coordinate → Bool
covers dims chunks c = list_any (λ chunk. is_inside (core dims chunk.at.items) c) chunks

core_cells : (dims : List Dimension) (margins : List ℕ) (rows : List Row) (chunks : List Chunk) (c : Coordinate) → length margins ≡ length dims → AllByRecursion (IsPart dims margins rows) chunks
    → cell_at (core_rows dims margins chunks) c ≡ cond (covers dims chunks c) (cell_at rows c) None
core_cells dims margins rows [] c n parts = refl
core_cells dims margins rows (chunk ∷ chunks) c n parts =
    let area = core dims chunk.at.items in
    cell_at-put_all (within area (chunk_rows dims margins chunk)) (core_rows dims margins chunks) c
    ∙ ap (λ (z : List Row). option_or (cell_at (within area z) c) (cell_at (core_rows dims margins chunks) c)) parts.0.cells
    ∙ ap (λ (z : List Row). option_or (cell_at z c) (cell_at (core_rows dims margins chunks) c))
    (within-within area (frame dims margins chunk.at.items) rows (λ x. core_in_frame dims margins chunk.at.items x n))
    ∙ (λ i. option_or (cell_at-within area rows c i) (core_cells dims margins rows chunks c n parts.1 i))
    ∙ tests (is_inside area c) (covers dims chunks c) (cell_at rows c)
  where
    tests : (p q : Bool) (o : Option Cell) → option_or (cond p o None) (cond q o None) ≡ cond (p || q) o None
    tests true true None = refl
    tests true true (Some x) = refl
    tests true false None = refl
    tests true false (Some x) = refl
    tests false q o = refl

-- ---- the chunks that are read

one_holds : (t p l q : Bool) → (t || l) ≡ true → (t ≡ true → p ≡ true) → (l ≡ true → q ≡ true) → (p || q) ≡ true
one_holds true p l q e g h = let i : p ≡ true = g refl in ap (λ (z : Bool). z || q) i
one_holds false true l q e g h = refl
one_holds false false l q e g h = h e

listed_covers : (schema : Schema) (listed : List (ArrayVec ℕ)) (chunks : List Chunk) (s : ChunkNumber) (c : Coordinate) → AllZip (IsRead schema) listed chunks → is_listed s (numbers_of listed) ≡ true
    → is_inside (core schema.dimensions s) c ≡ true → covers schema.dimensions chunks c ≡ true
listed_covers schema [] [] s c read e h = absurd cc
listed_covers schema [] (chunk ∷ chunks) s c read e h = absurd read
listed_covers schema (at ∷ listed) [] s c read e h = absurd read
listed_covers schema (at ∷ listed) (chunk ∷ chunks) s c read e h =
    one_holds (is_eq (number_order at.items s)) (is_inside (core schema.dimensions chunk.at.items) c) (is_listed s (numbers_of listed)) (covers schema.dimensions chunks c) e
    (λ t. ap (λ (z : ArrayVec ℕ). is_inside (core schema.dimensions z.items) c) read.0.number
    ∙ ap (λ (z : ChunkNumber). is_inside (core schema.dimensions z) c) (same_number at.items s (is_equal (number_order at.items s) t)) ∙ h)
    (λ l. listed_covers schema listed chunks s c read.1 l h)

wanted_listed : (p : ChunkNumber → Bool) (stored : List (ArrayVec ℕ)) (s : ChunkNumber) → is_listed s (numbers_of stored) ≡ true → p s ≡ true → is_listed s (numbers_of (filter (λ at. p at.items) stored)) ≡ true
wanted_listed p stored s e f =
    ap (is_listed s) (map_filter (λ (at : ArrayVec ℕ). at.items) p stored) ∙ listed_kept p s (numbers_of stored) ∙ and_both _ _ e f

-- ---- where the rows are

cell_in_bounds : (dims : List Dimension) (rows : List Row) (c : Coordinate) (x : Cell) → AllByRecursion (λ row. is_inside (bounds_of dims) row.at.items ≡ true) rows → cell_at rows c ≡ Some x → is_inside (bounds_of dims) c ≡ true
cell_in_bounds dims [] c x a e = cc
cell_in_bounds dims (row ∷ rows) c x a e = cases (row_major row.at.items c) refl e (cell_in_bounds dims rows c x a.1)
  where
    cases : (t : Ordering) → row_major row.at.items c ≡ t → cond (is_eq t) (Some row.cell) (cell_at rows c) ≡ Some x → (cell_at rows c ≡ Some x → is_inside (bounds_of dims) c ≡ true) → is_inside (bounds_of dims) c ≡ true
    cases Less t f ih = ih f
    cases Greater t f ih = ih f
    cases Equal t f ih = ap (is_inside (bounds_of dims)) (sym (row_major_exact row.at.items c t)) ∙ a.0

not_empty_at : (rows : List Row) (c : Coordinate) (x : Cell) → cell_at rows c ≡ Some x → is_not_empty rows ≡ true
not_empty_at [] c x e = cc
not_empty_at (row ∷ rows) c x e = refl

module _ (leaf : Leaf) (input rows : List Row) (stored : List (ArrayVec ℕ)) (has : HasArray leaf rows stored) (chunks : List Chunk)
    (read : AllZip (IsRead leaf.schema) (target_wanted leaf.schema.dimensions input stored) chunks)
    (parts : AllByRecursion (IsPart leaf.schema.dimensions (overlaps leaf.schema.dimensions) rows) chunks)
    (k : ChunkNumber) (cored : has_core leaf.schema.dimensions k ≡ true) (touches : meets leaf.schema.dimensions input k ≡ true) where
  -- a cell in the frame of a chunk that is touched stands in a chunk that is wanted
  covered : (c : Coordinate) (x : Cell) → is_inside (frame leaf.schema.dimensions (overlaps leaf.schema.dimensions) k) c ≡ true → cell_at rows c ≡ Some x → covers leaf.schema.dimensions chunks c ≡ true
  covered c x inside e =
      let dims = leaf.schema.dimensions in
      let near = (valid_placed leaf.schema has.rows_of.valid).near in
      let s : ChunkNumber = chunk_of dims c in
      let bounded : is_inside (bounds_of dims) c ≡ true = cell_in_bounds dims rows c x has.rows_of.are_rows.in_bounds e in
      let in_core : is_inside (core dims s) c ≡ true = core_has dims c near bounded in
      let held : cell_at (within (core dims s) rows) c ≡ Some x = cell_at-within (core dims s) rows c ∙ ap (λ (b : Bool). cond b (cell_at rows c) None) in_core ∙ e in
      let listed : is_listed s (numbers_of stored) ≡ true = has.listed s (length-chunk_of dims c bounded) ∙ not_empty_at (within (core dims s) rows) c x held in
      let met : core_meets dims (frame dims (overlaps dims) k) s ≡ true = chunk_meets dims (frame dims (overlaps dims) k) s c in_core inside in
      let some : list_any (λ j. core_meets dims (frame dims (overlaps dims) j) s) (touched dims input) ≡ true
      = any_filter (λ j. core_meets dims (frame dims (overlaps dims) j) s) (λ j. meets dims input j) (all_numbers dims)
      ∙ any_number dims (λ j. meets dims input j && core_meets dims (frame dims (overlaps dims) j) s) k near cored (and_both _ _ touches met) in
      let wanted : is_wanted dims input s ≡ true = and_both _ _ (chunk_has_core dims c bounded) some in
      listed_covers leaf.schema (target_wanted dims input stored) chunks s c read (wanted_listed (is_wanted dims input) stored s listed wanted) in_core

  same_cell : (c : Coordinate) → is_inside (frame leaf.schema.dimensions (overlaps leaf.schema.dimensions) k) c ≡ true → cell_at (stored_rows leaf.schema chunks) c ≡ cell_at rows c
  same_cell c inside =
      core_cells leaf.schema.dimensions (overlaps leaf.schema.dimensions) rows chunks c (each_overlap leaf.schema.dimensions) parts
      ∙ by_cell (covers leaf.schema.dimensions chunks c) (cell_at rows c) refl refl
    where
      by_cell : (t : Bool) (o : Option Cell) → covers leaf.schema.dimensions chunks c ≡ t → cell_at rows c ≡ o → cond t o None ≡ o
      by_cell true o e f = refl
      by_cell false None e f = refl
      by_cell false (Some x) e f = let g : covers leaf.schema.dimensions chunks c ≡ true = covered c x inside f in let h : false ≡ true = sym e ∙ g in absurd cc

  same_frame : AreStoredChunks leaf.schema chunks
      → within (frame leaf.schema.dimensions (overlaps leaf.schema.dimensions) k) (stored_rows leaf.schema chunks) ≡ within (frame leaf.schema.dimensions (overlaps leaf.schema.dimensions) k) rows
  same_frame are =
      let dims = leaf.schema.dimensions in
      let area = frame dims (overlaps dims) k in
      let rising = (cores_of_any leaf.schema (overlaps dims) chunks are.valid are.rows_of).are_rows.rising in
      same_rows (within area (stored_rows leaf.schema chunks)) (within area rows) (IsRising-rows_where (is_inside area) (stored_rows leaf.schema chunks) rising) (IsRising-rows_where (is_inside area) rows has.rows_of.are_rows.rising)
      (λ c. cell_at-within area (stored_rows leaf.schema chunks) c ∙ by_box c (is_inside area c) refl ∙ sym (cell_at-within area rows c))
    where
      by_box : (c : Coordinate) (t : Bool) → is_inside (frame leaf.schema.dimensions (overlaps leaf.schema.dimensions) k) c ≡ t → cond t (cell_at (stored_rows leaf.schema chunks) c) None ≡ cond t (cell_at rows c) None
      by_box c false e = refl
      by_box c true e = same_cell c e

-- what was read of the wanted chunks serves
serves : (leaf : Leaf) (input rows : List Row) (stored : List (ArrayVec ℕ)) (chunks : List Chunk) → HasArray leaf rows stored → AllZip (IsRead leaf.schema) (target_wanted leaf.schema.dimensions input stored) chunks
    → AllByRecursion (IsPart leaf.schema.dimensions (overlaps leaf.schema.dimensions) rows) chunks → AreStoredChunks leaf.schema chunks → Serves leaf.schema input rows (stored_rows leaf.schema chunks)
serves leaf input rows stored chunks has read parts are = record {
  rows_of = has.rows_of;
  alike = λ k cored touches. same_frame leaf input rows stored has chunks read parts k cored touches are;
}

pub read_serves : (old mid : SourceState) (leaf : Leaf) (input : List Row) (stored wanted : List (ArrayVec ℕ)) (answer : Result (List Chunk) ExecFault) → wanted ≡ target_wanted leaf.schema.dimensions input stored
    → Keeps old mid → ((db : Database) → old.tells db → HasArray leaf (version_rows db leaf.name leaf.version) stored) → IfOk answer (AllZip (IsRead leaf.schema) wanted) → IfOk answer (AreStoredChunks leaf.schema)
    → IfOk answer (λ read. (db : Database) → mid.tells db → AllByRecursion (IsChunkIn db leaf) read)
    → IfOk answer (λ read. (db : Database) → old.tells db → Serves leaf.schema input (version_rows db leaf.name leaf.version) (stored_rows leaf.schema read))
read_serves old mid leaf input stored wanted (Ok read) e kept has zip are told = λ db t.
    serves leaf input (version_rows db leaf.name leaf.version) stored read (has db t)
    (subst (λ (z : List (ArrayVec ℕ)). AllZip (IsRead leaf.schema) z read) e zip) (told db ((kept.tells db).1 t)) are
read_serves old mid leaf input stored wanted (Err fault) e kept has zip are told = tt

-- ---- what is written over them

rows_put : (schema : Schema) (input rows : List Row) → AreRowsOf schema input → AreRowsOf schema rows → AreRowsOf schema (put_all input rows)
rows_put schema input rows a b = record {
  valid = b.valid;
  are_rows = record {
    rising = IsRising-put_all input rows b.are_rows.rising;
    in_bounds = put_each (λ row. is_inside (bounds_of schema.dimensions) row.at.items ≡ true) input rows a.are_rows.in_bounds b.are_rows.in_bounds;
  };
  kinds = put_each (λ row. IsCellOf schema.attributes row.cell) input rows a.kinds b.kinds;
}

and_false : (b : Bool) → (b && false) ≡ false
and_false true = refl
and_false false = refl

module _ (schema : Schema) (input rows these : List Row) (may : MayBeStored schema input) (other : AreRowsOf schema these) (enough : Serves schema input rows these) where
  same_there : (k : ChunkNumber) → has_core schema.dimensions k ≡ true → meets schema.dimensions input k ≡ true
      → within (frame schema.dimensions (overlaps schema.dimensions) k) (put_all input these) ≡ within (frame schema.dimensions (overlaps schema.dimensions) k) (put_all input rows)
  same_there k h m =
      let area = frame schema.dimensions (overlaps schema.dimensions) k in
      rows_where-put_all (is_inside area) input these other.are_rows.rising
      ∙ ap (put_all (within area input)) (enough.alike k h m)
      ∙ sym (rows_where-put_all (is_inside area) input rows enough.rows_of.are_rows.rising)

  cored_rows : (all : List Row) (k : ChunkNumber) → AreRowsOf schema all → length k ≡ length schema.dimensions → has_cell schema.dimensions all k ≡ true → has_core schema.dimensions k ≡ true
  cored_rows all k are l e = first all are.are_rows.in_bounds e
    where
      first : (some : List Row) → AllByRecursion (λ row. is_inside (bounds_of schema.dimensions) row.at.items ≡ true) some → is_not_empty (within (core schema.dimensions k) some) ≡ true → has_core schema.dimensions k ≡ true
      first [] a f = absurd cc
      first (row ∷ some) a f = by_test (is_inside (core schema.dimensions k) row.at.items) refl f (first some a.1)
        where
          by_test : (t : Bool) → is_inside (core schema.dimensions k) row.at.items ≡ t → is_not_empty (cond t (row ∷ within (core schema.dimensions k) some) (within (core schema.dimensions k) some)) ≡ true
              → (is_not_empty (within (core schema.dimensions k) some) ≡ true → has_core schema.dimensions k ≡ true) → has_core schema.dimensions k ≡ true
          by_test false g f ih = ih f
          by_test true g f ih =
              let near = (valid_placed schema are.valid).near in
              ap (has_core schema.dimensions) (core_of schema.dimensions k row.at.items near l g) ∙ chunk_has_core schema.dimensions row.at.items a.0

  same_core : (k : ChunkNumber) → has_core schema.dimensions k ≡ true → meets schema.dimensions input k ≡ true → has_cell schema.dimensions (put_all input these) k ≡ has_cell schema.dimensions (put_all input rows) k
  same_core k h m =
      let dims = schema.dimensions in
      let inner : (some : List Row) → within (core dims k) (within (frame dims (overlaps dims) k) some) ≡ within (core dims k) some
      = λ some. within-within (core dims k) (frame dims (overlaps dims) k) some (λ c. core_in_frame dims (overlaps dims) k c (each_overlap dims)) in
      ap is_not_empty (sym (inner (put_all input these)) ∙ ap (within (core dims k)) (same_there k h m) ∙ inner (put_all input rows))

  same_choice : (k : ChunkNumber) → length k ≡ length schema.dimensions
      → (has_cell schema.dimensions (put_all input these) k && meets schema.dimensions input k) ≡ (has_cell schema.dimensions (put_all input rows) k && meets schema.dimensions input k)
  same_choice k l =
      by_tests (has_core schema.dimensions k) (has_cell schema.dimensions (put_all input these) k) (has_cell schema.dimensions (put_all input rows) k) (meets schema.dimensions input k) refl
      (cored_rows (put_all input these) k (rows_put schema input these may.rows_of other) l) (cored_rows (put_all input rows) k (rows_put schema input rows may.rows_of enough.rows_of) l) (same_core k)
    where
      by_tests : (h a b m : Bool) → has_core schema.dimensions k ≡ h → (a ≡ true → has_core schema.dimensions k ≡ true) → (b ≡ true → has_core schema.dimensions k ≡ true)
          → (has_core schema.dimensions k ≡ true → m ≡ true → a ≡ b) → (a && m) ≡ (b && m)
      by_tests h a b false e f g same = and_false a ∙ sym (and_false b)
      by_tests true a b true e f g same = ap (λ (z : Bool). z && true) (same e refl)
      by_tests false false false true e f g same = refl
      by_tests false true b true e f g same = let x : false ≡ true = sym e ∙ f refl in absurd cc
      by_tests false false true true e f g same = let x : false ≡ true = sym e ∙ g refl in absurd cc

  part_there : (chunk : Chunk) → IsStored schema chunk → (has_cell schema.dimensions (put_all input these) chunk.at.items && meets schema.dimensions input chunk.at.items) ≡ true
      → IsPart schema.dimensions (overlaps schema.dimensions) (put_all input these) chunk → IsPart schema.dimensions (overlaps schema.dimensions) (put_all input rows) chunk
  part_there chunk stored chosen part = record {
    each = part.each;
    in_frame = part.in_frame;
    cells = part.cells ∙ same_there chunk.at.items stored.valid.framed.core (and_parts _ _ chosen).1;
  }

  parts_there : (chunks : List Chunk) → AllByRecursion (IsStored schema) chunks
      → AllByRecursion (λ k. (has_cell schema.dimensions (put_all input these) k && meets schema.dimensions input k) ≡ true) (numbers chunks)
      → AllByRecursion (IsPart schema.dimensions (overlaps schema.dimensions) (put_all input these)) chunks → AllByRecursion (IsPart schema.dimensions (overlaps schema.dimensions) (put_all input rows)) chunks
  parts_there [] stored chosen parts = tt
  parts_there (chunk ∷ chunks) stored chosen parts = (part_there chunk stored.0 chosen.0 parts.0, parts_there chunks stored.1 chosen.1 parts.1)

core_sized : (dims : List Dimension) (k : ChunkNumber) → has_core dims k ≡ true → length k ≡ length dims
core_sized [] [] e = refl
core_sized [] (n ∷ k) e = absurd cc
core_sized (d ∷ dims) [] e = absurd cc
core_sized (d ∷ dims) (n ∷ k) e = ap (λ (m : ℕ). suc m) (core_sized dims k (and_parts _ (has_core dims k) e).1)

all_chosen : (schema : Schema) (chosen : ChunkNumber → Bool) (all chunks : List Chunk) → ((k : ChunkNumber) → length k ≡ length schema.dimensions → is_listed k (numbers all) ≡ chosen k) → AllByRecursion (IsStored schema) chunks
    → AllByRecursion (λ k. is_listed k (numbers all) ≡ true) (numbers chunks) → AllByRecursion (λ k. chosen k ≡ true) (numbers chunks)
all_chosen schema chosen all [] h stored listed = tt
all_chosen schema chosen all (chunk ∷ chunks) h stored listed =
    (sym (h chunk.at.items (core_sized schema.dimensions chunk.at.items stored.0.valid.framed.core)) ∙ listed.0, all_chosen schema chosen all chunks h stored.1 listed.1)

-- the chunks that are written over rows that serve are those that are written over all
pub written_over : (schema : Schema) (input rows these : List Row) (changed : Changed) → MayBeStored schema input → AreRowsOf schema these → Serves schema input rows these
    → IsInsertOf schema input these changed → IsInsertOf schema input rows changed
written_over schema input rows these changed may other enough w =
    let stored : AllByRecursion (IsStored schema) changed.chunks = subst (λ (s : Schema). AllByRecursion (IsStored s) changed.chunks) w.is_of.0 w.valid.stored in
    record {
      is_of = w.is_of;
      valid = w.valid;
      rows_of = rows_put schema input rows may.rows_of enough.rows_of;
      listed = λ k l. w.listed k l ∙ same_choice schema input rows these may other enough k l;
      parts = parts_there schema input rows these may other enough changed.chunks stored
          (all_chosen schema (λ k. has_cell schema.dimensions (put_all input these) k && meets schema.dimensions input k) changed.chunks changed.chunks w.listed stored (each_listed (numbers changed.chunks))) w.parts;
    }
