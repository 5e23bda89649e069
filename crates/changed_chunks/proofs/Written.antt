-- The chunks that are written of a version.
use Rattle.std.proofs.Common.{◌≡◌, ℕ, Bool, true, false, not, ◌&&◌, List, [], ◌∷◌, ◌++◌, filter, length, Ok, Err, Result, ◌↔◌, refl, sym, ap, ◌∙◌, subst}
use Rattle.std.specs.Prelude.{IfOk}
use Rattle.std.specs.List.{AllByRecursion, list_any}
use Rattle.arrayvec.specs.ArrayVec.{ArrayVec}
use Rattle.cell_values.specs.declared.datum.Row.{Row}
use Rattle.cell_values.specs.declared.memory.Memory.{Memory}
use Rattle.cell_values.specs.declared.schema.Bounds.{Bounds}
use Rattle.cell_values.specs.declared.schema.Dimension.{Dimension}
use Rattle.cell_values.specs.declared.schema.Schema.{Schema}
use Rattle.array_rows.specs.Arrays.{AreRowsOf}
use Rattle.array_rows.specs.Boxes.{within}
use Rattle.array_rows.specs.Rows.{put_all}
use Rattle.array_geom.specs.declared.chunk.Chunk.{Chunk}
use Rattle.array_geom.specs.declared.chunk.Changed.{Changed}
use Rattle.array_geom.specs.declared.chunk.ChunkedArray.{ChunkedArray}
use Rattle.array_geom.specs.Chunks.{IsChunk}
use Rattle.array_geom.specs.Geometry.{ChunkNumber, HasFrame, core_meets, frame, has_core, overlaps}
use Rattle.array_geom.specs.Link.{HoldsRows, Is, IsPart, NumbersRise, chunk_rows, core_rows, has_cell, is_listed, is_not_empty, numbers}
use Rattle.array_geom.proofs.LinkLaws.{chunks_have_their_rows}
use Rattle.array_geom.proofs.NearLemmas.{valid_placed}
use Rattle.array_parts.specs.Cores.{HaveCells, cores_of}
use Rattle.array_parts.specs.Placed.{HasPlaces, HavePlaces}
use Rattle.array_parts.proofs.CoreLaws.{arrays_have_cells, cores_of_any}
use Rattle.array_parts.proofs.PartLemmas.{all_kept}
use Rattle.chunk_cells.specs.Whole.{CoresRise}
use Rattle.chunk_cells.proofs.WholeLaws.{cores_rise, have_places}
use Rattle.area_cells.proofs.CutLaws.{core_rows-append}
use Rattle.area_cells.proofs.PieceLaws.{rise_in_any}
use Rattle.chunk_rle.specs.Stored.{IsStored}
use Rattle.chunk_source.specs.Laws.{HasSoundCells}
use Rattle.chunk_source.proofs.ReadingLeafLaws.{core_sized, each_overlap}
use Rattle.chunk_source.proofs.ValidLaws.{sound_chunks, valid_chunks}
use Rattle.logical_plan.specs.Meaning.{whole}
use Rattle.logical_plan.specs.Typing.{AreSound}
use Rattle.commit_pages.specs.Lengths.{meets}
use Rattle.changed_chunks.specs.Inner.Input.{AreStoredChunks, CanBeStored, MayBeStored, stored_rows}
use Rattle.changed_chunks.specs.Inner.Reach.{reach}
use Rattle.changed_chunks.specs.Inner.Writes.{IsInsertOf, IsStoreOf, Serves}
use Rattle.changed_chunks.specs.Wanted.{is_wanted, touched}
use Rattle.changed_chunks.proofs.ChunkLaws.{all_both, kept_listed, kept_rise, sound_cores, stored_chunks}
use Rattle.changed_chunks.proofs.Reach.{held_wanted, wanted_in_reach}
use Rattle.changed_chunks.proofs.Serves.{written_over}

-- ---- the array of rows that may be stored

its_rows : (schema : Schema) (rows : List Row) (array : ChunkedArray) → Is array (whole schema rows) → cores_of array ≡ rows
its_rows schema rows array is =
    ap (λ (s : Schema). core_rows s.dimensions array.margins.items array.chunks) is.schema ∙ chunks_have_their_rows schema array rows is.cells

can_be_stored : (schema : Schema) (rows : List Row) (margins : ArrayVec ℕ) (array : ChunkedArray) → MayBeStored schema rows → margins.items ≡ overlaps schema.dimensions → Is array (whole schema rows) → array.margins ≡ margins → CanBeStored array
can_be_stored schema rows margins array may m is e =
    let r = its_rows schema rows array is in
    record {
      margins = ap (λ (z : ArrayVec ℕ). z.items) e ∙ m ∙ ap (λ (s : Schema). overlaps s.dimensions) (sym is.schema);
      holds = subst (λ (s : Schema). HoldsRows s array (cores_of array)) (sym is.schema) (subst (HoldsRows schema array) (sym r) is.cells);
      sound = subst (λ (s : Schema). AreSound s (cores_of array)) (sym is.schema) (subst (AreSound schema) (sym r) may.sound);
    }

module _ (schema : Schema) (given rows : List Row) (margins : ArrayVec ℕ) (same : given ≡ rows) where
  abbrev Made : ChunkedArray → Type 0
  Made array = Is array (whole schema given)

  pub made_schema : (r : Result ChunkedArray Memory) → IfOk r Made → IfOk r (λ array. array.schema ≡ schema)
  made_schema (Ok array) is = is.schema
  made_schema (Err e) is = tt

  pub made_rows : (r : Result ChunkedArray Memory) → IfOk r Made → IfOk r (λ array. cores_of array ≡ rows)
  made_rows (Ok array) is = its_rows schema given array is ∙ same
  made_rows (Err e) is = tt

  pub made_can : (r : Result ChunkedArray Memory) → MayBeStored schema rows → margins.items ≡ overlaps schema.dimensions → IfOk r Made → IfOk r (λ array. array.margins ≡ margins) → IfOk r CanBeStored
  made_can (Ok array) may m is e = can_be_stored schema given margins array (subst (MayBeStored schema) (sym same) may) m is e
  made_can (Err f) may m is e = tt

-- ---- what is known of it

module _ (put : ChunkedArray) (can : CanBeStored put) where
  pub its_places : HavePlaces put.schema put.margins.items put.chunks
  its_places = have_places put.schema put (cores_of put) can.holds

  pub its_cores_rise : CoresRise put.schema.dimensions put.margins.items put.chunks
  its_cores_rise = cores_rise put.schema put (cores_of put) put.chunks refl can.holds

  its_cells : HaveCells put.schema put.margins.items put.chunks
  its_cells = arrays_have_cells put (whole put.schema (cores_of put)) (record { schema = refl; valid = can.holds.rows_of.valid; margins = can.holds.each; cells = can.holds }) can.holds.whole

  its_valid : AllByRecursion (IsChunk put.schema (overlaps put.schema.dimensions)) put.chunks
  its_valid = subst (λ (ms : List ℕ). AllByRecursion (IsChunk put.schema ms) put.chunks) can.margins (valid_chunks put.schema put (cores_of put) can.holds)

  its_sound : AllByRecursion (HasSoundCells put.schema) put.chunks
  its_sound = sound_chunks put.schema put (cores_of put) can.holds can.sound

  its_stored : AllByRecursion (IsStored put.schema) put.chunks
  its_stored = stored_chunks put.schema put.chunks its_valid its_sound

  its_parts : AllByRecursion (IsPart put.schema.dimensions (overlaps put.schema.dimensions) (cores_of put)) put.chunks
  its_parts = subst (λ (ms : List ℕ). AllByRecursion (IsPart put.schema.dimensions ms (cores_of put)) put.chunks) can.margins can.holds.chunks.parts

  -- all its chunks are a version
  pub all_written : IsStoreOf put.schema (cores_of put) (record { schema = put.schema; whole = true; chunks = put.chunks })
  all_written = record {
    is_of = (refl, refl);
    valid = record { rising = can.holds.chunks.in_order; stored = its_stored };
    rows_of = can.holds.rows_of;
    listed = can.holds.chunks.listed;
    parts = its_parts;
  }

-- ---- its rows over those of stored chunks

module _ (put : ChunkedArray) (can : CanBeStored put) (old : List Chunk) (stored : AreStoredChunks put.schema old) where
  abbrev Placed : Schema → List ℕ → List Chunk → Type 0
  Placed schema margins chunks = AllByRecursion (HasPlaces schema margins) chunks

  abbrev HaveRows : Schema → List ℕ → List Chunk → Type 0
  HaveRows schema margins chunks = AllByRecursion (λ chunk. AreRowsOf schema (chunk_rows schema.dimensions margins chunk)) chunks

  both_placed : Placed put.schema put.margins.items (put.chunks ++ old)
  both_placed =
      all_both (HasPlaces put.schema put.margins.items) put.chunks old (its_cells put can).placed.all (subst (λ (ms : List ℕ). Placed put.schema ms old) (sym can.margins) stored.placed)

  both_rows : HaveRows put.schema put.margins.items (put.chunks ++ old)
  both_rows =
      all_both (λ chunk. AreRowsOf put.schema (chunk_rows put.schema.dimensions put.margins.items chunk)) put.chunks old (its_cells put can).rows_of
      (subst (λ (ms : List ℕ). HaveRows put.schema ms old) (sym can.margins) stored.rows_of)

  abbrev pub over : List Row
  over = put_all (cores_of put) (stored_rows put.schema old)

  over_is : core_rows put.schema.dimensions put.margins.items (put.chunks ++ old) ≡ over
  over_is =
      core_rows-append put.schema.dimensions put.margins.items put.chunks old
      ∙ ap (λ (ms : List ℕ). put_all (cores_of put) (core_rows put.schema.dimensions ms old)) can.margins

  pub over_may : MayBeStored put.schema over
  over_may = subst (MayBeStored put.schema) over_is (record {
    rows_of = cores_of_any put.schema put.margins.items (put.chunks ++ old) can.holds.rows_of.valid both_rows;
    sound = sound_cores put.schema put.margins.items (put.chunks ++ old) (all_both (HasSoundCells put.schema) put.chunks old (its_sound put can) stored.sound);
  })

  -- the array of all these chunks
  module _ (schema : Schema) (margins : ArrayVec ℕ) (chunks : List Chunk) (s : schema ≡ put.schema) (m : margins ≡ put.margins) (e : chunks ≡ put.chunks ++ old) where
    pub over_placed : Placed schema margins.items chunks
    over_placed = subst (λ (z : Schema). Placed z margins.items chunks) (sym s) (subst (λ (z : ArrayVec ℕ). Placed put.schema z.items chunks) (sym m) (subst (Placed put.schema put.margins.items) (sym e) both_placed))

    over_rows : HaveRows schema margins.items chunks
    over_rows = subst (λ (z : Schema). HaveRows z margins.items chunks) (sym s) (subst (λ (z : ArrayVec ℕ). HaveRows put.schema z.items chunks) (sym m) (subst (HaveRows put.schema put.margins.items) (sym e) both_rows))

    pub over_rise : CoresRise schema.dimensions margins.items chunks
    over_rise = rise_in_any schema margins.items chunks over_rows

    its_over : core_rows schema.dimensions margins.items chunks ≡ over
    its_over = (λ i. core_rows (s i).dimensions (m i).items (e i)) ∙ over_is

    pub rows_are_over : (r : Result (List Row) Memory) → IfOk r (λ rows. rows ≡ core_rows schema.dimensions margins.items chunks) → IfOk r (λ rows. rows ≡ over)
    rows_are_over (Ok rows) is = is ∙ its_over
    rows_are_over (Err f) is = tt

    pub rows_may : (r : Result (List Row) Memory) → IfOk r (λ rows. rows ≡ core_rows schema.dimensions margins.items chunks) → IfOk r (MayBeStored put.schema)
    rows_may (Ok rows) is = subst (MayBeStored put.schema) (sym (is ∙ its_over)) over_may
    rows_may (Err f) is = tt

-- ---- what is met

not_none : (b : Bool) (rows : List Row) → (b ≡ true) ↔ (rows ≡ []) → not b ≡ is_not_empty rows
not_none true [] h = refl
not_none true (row ∷ rows) h = let e : row ∷ rows ≡ [] = h.0 refl in absurd cc
not_none false [] h = let e : false ≡ true = h.1 refl in absurd cc
not_none false (row ∷ rows) h = refl

-- a number that has no core isn't wanted
pub not_wanted : (dims : List Dimension) (rows : List Row) (number : ChunkNumber) → has_core dims number ≡ false → false ≡ is_wanted dims rows number
not_wanted dims rows number e = ap (λ (b : Bool). b && list_any (λ k. core_meets dims (frame dims (overlaps dims) k) number) (touched dims rows)) (sym e)

pub same_answer : (r : Result Bool Memory) (a b : Bool) → a ≡ b → IfOk r (λ x. x ≡ a) → IfOk r (λ x. x ≡ b)
same_answer (Ok x) a b e is = is ∙ e
same_answer (Err f) a b e is = tt

-- a chunk of the array is wanted
pub own_is_wanted : (put : ChunkedArray) → CanBeStored put → (number : ChunkNumber) → has_core put.schema.dimensions number ≡ true → is_listed number (numbers put.chunks) ≡ true → true ≡ is_wanted put.schema.dimensions (cores_of put) number
own_is_wanted put can number cored listed =
    let dims = put.schema.dimensions in
    sym (held_wanted dims number (cores_of put) (valid_placed put.schema can.holds.rows_of.valid).near (each_overlap dims) cored (sym (can.holds.chunks.listed number (core_sized dims number cored)) ∙ listed))

module _ (put : ChunkedArray) (can : CanBeStored put) where
  pub has_row : (area : Bounds) (rows : List Row) (none : Bool) → rows ≡ within area (cores_of put) → (none ≡ true) ↔ (rows ≡ []) → not none ≡ is_not_empty (within area (cores_of put))
  has_row area rows none r h = not_none none rows h ∙ ap is_not_empty r

  pub is_met : (number : ChunkNumber) (area : Bounds) → area ≡ frame put.schema.dimensions put.margins.items number → is_not_empty (within area (cores_of put)) ≡ meets put.schema.dimensions (cores_of put) number
  is_met number area a =
      ap (λ (z : Bounds). is_not_empty (within z (cores_of put))) (a ∙ ap (λ (ms : List ℕ). frame put.schema.dimensions ms number) can.margins)

  pub is_wanted_there : (number : ChunkNumber) (area : Bounds) → has_core put.schema.dimensions number ≡ true → area ≡ reach put.schema.dimensions put.margins.items number
      → is_not_empty (within area (cores_of put)) ≡ is_wanted put.schema.dimensions (cores_of put) number
  is_wanted_there number area cored a =
      let dims = put.schema.dimensions in
      ap (λ (z : Bounds). is_not_empty (within z (cores_of put))) (a ∙ ap (λ (ms : List ℕ). reach dims ms number) can.margins)
      ∙ sym (wanted_in_reach dims number (cores_of put) (valid_placed put.schema can.holds.rows_of.valid).near (each_overlap dims) cored can.holds.rows_of.are_rows.in_bounds)
      ∙ ap (λ (b : Bool). b && list_any (λ k. core_meets dims (frame dims (overlaps dims) k) number) (touched dims (cores_of put))) (sym cored)

  pub has_frame : (number : ChunkNumber) → has_core put.schema.dimensions number ≡ true → HasFrame put.schema put.margins.items number
  has_frame number cored = record { valid = can.holds.rows_of.valid; core = cored; each = can.holds.each; places = can.holds.places }

  -- the places of another array's chunks
  pub same_places : (version : ChunkedArray) → CanBeStored version → version.schema ≡ put.schema → HavePlaces put.schema put.margins.items version.chunks
  same_places version may s =
      let m : version.margins.items ≡ put.margins.items = may.margins ∙ ap (λ (z : Schema). overlaps z.dimensions) s ∙ sym can.margins in
      subst (λ (ms : List ℕ). HavePlaces put.schema ms version.chunks) m (subst (λ (z : Schema). HavePlaces z version.margins.items version.chunks) s (have_places version.schema version (cores_of version) may.holds))

  -- the chunks that it meets
  pub met_written : (version : ChunkedArray) (old : List Row) (met : List Chunk) → CanBeStored version → version.schema ≡ put.schema → cores_of version ≡ put_all (cores_of put) old
      → met ≡ filter (λ chunk. meets put.schema.dimensions (cores_of put) chunk.at.items) version.chunks
      → IsInsertOf put.schema (cores_of put) old (record { schema = version.schema; whole = false; chunks = met })
  met_written version old met may s c e =
      let dims = put.schema.dimensions in
      let p : ChunkNumber → Bool = λ k. meets dims (cores_of put) k in
      let kept : List Chunk = filter (λ chunk. p chunk.at.items) version.chunks in
      let all = all_written version may in
      let of_old : AllByRecursion (IsPart dims (overlaps dims) (put_all (cores_of put) old)) version.chunks
      = subst (λ (rs : List Row). AllByRecursion (IsPart dims (overlaps dims) rs) version.chunks) c (subst (λ (z : Schema). AllByRecursion (IsPart z.dimensions (overlaps z.dimensions) (cores_of version)) version.chunks) s all.parts) in
      record {
        is_of = (s, refl);
        valid = record {
          rising = subst (λ (cs : List Chunk). NumbersRise (numbers cs)) (sym e) (kept_rise p version.chunks all.valid.rising);
          stored = subst (AllByRecursion (IsStored version.schema)) (sym e) (all_kept (IsStored version.schema) (λ chunk. p chunk.at.items) version.chunks all.valid.stored);
        };
        rows_of = subst (AreRowsOf put.schema) c (subst (λ (z : Schema). AreRowsOf z (cores_of version)) s all.rows_of);
        listed = λ k l.
            ap (λ (cs : List Chunk). is_listed k (numbers cs)) e
            ∙ kept_listed p k version.chunks
            ∙ ap (λ (b : Bool). b && p k) (all.listed k (l ∙ ap (λ (z : Schema). length z.dimensions) (sym s)) ∙ ap (λ (z : Schema). has_cell z.dimensions (cores_of version) k) s ∙ ap (λ (rs : List Row). has_cell dims rs k) c);
        parts = subst (AllByRecursion (IsPart dims (overlaps dims) (put_all (cores_of put) old))) (sym e) (all_kept (IsPart dims (overlaps dims) (put_all (cores_of put) old)) (λ chunk. p chunk.at.items) version.chunks of_old);
      }

-- ---- what is known of what is read

-- what holds under the schema of a target and of the rows of an array holds under the schema and of the rows that are put
pub put_there : (schema from : Schema) (input rows : List Row) (P : Schema → List Row → Type 0) → from ≡ schema → rows ≡ input → P from rows → P schema input
put_there schema from input rows P f e p = subst (λ (z : Schema). P z input) f (subst (P from) e p)

pub over_told : (put : ChunkedArray) (schema from : Schema) (input rows : List Row) (old : List Chunk) (changed : Changed) → put.schema ≡ schema → cores_of put ≡ input → from ≡ schema → MayBeStored schema input
    → AreStoredChunks from old → Serves from (cores_of put) rows (stored_rows from old) → IsInsertOf put.schema (cores_of put) (stored_rows put.schema old) changed → IsInsertOf schema input rows changed
over_told put schema from input rows old changed s c f may are enough w =
    written_over schema input rows (stored_rows schema old) changed may
    (subst (λ (z : Schema). AreRowsOf z (stored_rows z old)) f (cores_of_any from (overlaps from.dimensions) old are.valid are.rows_of))
    (subst (λ (z : Schema). Serves z input rows (stored_rows z old)) f (subst (λ (z : List Row). Serves from z rows (stored_rows from old)) c enough))
    (subst (λ (z : Schema). IsInsertOf z input (stored_rows z old) changed) s (subst (λ (z : List Row). IsInsertOf put.schema z (stored_rows put.schema old) changed) c w))
