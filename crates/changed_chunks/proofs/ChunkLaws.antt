-- Chunks as they are stored, and those of them that a test keeps.
use Rattle.std.proofs.Common.{◌≡◌, ℕ, ℤ, Bool, true, false, cond, ◌&&◌, ◌||◌, List, [], ◌∷◌, ◌++◌, filter, Result, Ok, Err, refl, sym, ap, ◌∙◌, subst}
use Rattle.std.specs.Prelude.{IfOk}
use Rattle.std.specs.List.{AllByRecursion, AllZip}
use Rattle.std.specs.Ordering.{is_eq}
use Rattle.std.specs.declared.cmp.Ordering.{Ordering}
use Rattle.std.specs.declared.cmp.Ordering.TheVariants.{Less, Equal, Greater}
use Rattle.std.proofs.lemmas.Bool.{and_parts}
use Rattle.arrayvec.specs.ArrayVec.{ArrayVec}
use Rattle.cell_values.specs.declared.datum.Cell.{Cell}
use Rattle.cell_values.specs.declared.datum.Cell.TheVariants.{Full, Doubt}
use Rattle.cell_values.specs.declared.datum.Datum.{Datum}
use Rattle.cell_values.specs.declared.datum.Datum.TheVariants.{Null, Missing, Int, Text, Truth, Bad}
use Rattle.cell_values.specs.declared.datum.Row.{Row}
use Rattle.cell_values.specs.declared.schema.Attribute.{Attribute}
use Rattle.cell_values.specs.declared.schema.Schema.{Schema}
use Rattle.cell_values.specs.Cells.{AreOfKinds, IsCellOf}
use Rattle.cell_values.specs.Schemas.{IsValid}
use Rattle.array_rows.specs.Boxes.{is_inside}
use Rattle.array_rows.specs.Rows.{put_all, put_by, put_row, row_major}
use Rattle.array_rows.proofs.RowsLemmas.{cond_out}
use Rattle.array_geom.specs.declared.chunk.Chunk.{Chunk}
use Rattle.array_geom.specs.Chunks.{IsChunk}
use Rattle.array_geom.specs.Geometry.{ChunkNumber, core, frame_low, frame_lengths, overlaps}
use Rattle.array_geom.specs.Link.{NumbersRise, chunk_rows, core_rows, is_listed, number_order, numbers, rows_in}
use Rattle.array_geom.proofs.NumberLaws.{is_equal, same_number}
use Rattle.array_parts.proofs.PartLemmas.{all_kept}
use Rattle.array_parts.proofs.PlaceRows.{all_valid}
use Rattle.chunk_rle.specs.Stored.{IsStored, IsStoredCell, is_stored}
use Rattle.logical_plan.specs.declared.parts.Leaf.{Leaf}
use Rattle.logical_plan.specs.Typing.{AreSound, is_sound, may_all_stand, may_stand}
use Rattle.plan_changes.proofs.NamesOf.{map_filter}
use Rattle.chunk_source.specs.Laws.{HasSoundCells}
use Rattle.chunk_source.specs.Source.{IsStored as IsRead, numbers_of}
use Rattle.chunk_source.specs.declared.reading.fault.ExecFault.{ExecFault}
use Rattle.chunk_source.proofs.AloneLaws.{rise_kept}
use Rattle.chunk_source.proofs.ReadingLeafLaws.{are_valid, stored_numbers, stored_placed}
use Rattle.changed_chunks.specs.Inner.Input.{AreStoredChunks}

-- ---- sound cells of a schema are those that are stored

stored_value : (a : Attribute) (v : Datum) → may_stand a v ≡ true → is_stored a v ≡ true
stored_value a Null e = e
stored_value a (Missing code) e = e
stored_value a (Int n) e = refl
stored_value a (Text t) e = refl
stored_value a (Truth b) e = refl
stored_value a (Bad kind) e = absurd cc

stored_values : (attributes : List Attribute) (vs : List Datum) → AreOfKinds attributes vs → may_all_stand attributes vs ≡ true → AllZip (λ attribute value. is_stored attribute value ≡ true) attributes vs
stored_values [] [] kinds e = tt
stored_values [] (v ∷ vs) kinds e = absurd kinds
stored_values (a ∷ attributes) [] kinds e = absurd kinds
stored_values (a ∷ attributes) (v ∷ vs) kinds e =
    let both = and_parts (may_stand a v) (may_all_stand attributes vs) e in
    (stored_value a v both.0, stored_values attributes vs kinds.1 both.1)

stored_cell : (attributes : List Attribute) (cell : Cell) → IsCellOf attributes cell → is_sound attributes cell ≡ true → IsStoredCell attributes cell
stored_cell attributes (Full vs) kinds e = stored_values attributes vs kinds e
stored_cell attributes (Doubt kind) kinds e = absurd cc

stored_cells : (attributes : List Attribute) (cells : List Cell) → AllByRecursion (IsCellOf attributes) cells → AllByRecursion (λ cell. is_sound attributes cell ≡ true) cells → AllByRecursion (IsStoredCell attributes) cells
stored_cells attributes [] kinds sound = tt
stored_cells attributes (cell ∷ cells) kinds sound = (stored_cell attributes cell kinds.0 sound.0, stored_cells attributes cells kinds.1 sound.1)

-- valid chunks of sound cells are chunks that are stored
pub stored_chunks : (schema : Schema) (chunks : List Chunk) → AllByRecursion (IsChunk schema (overlaps schema.dimensions)) chunks → AllByRecursion (HasSoundCells schema) chunks → AllByRecursion (IsStored schema) chunks
stored_chunks schema [] valid sound = tt
stored_chunks schema (chunk ∷ chunks) valid sound =
    (record { valid = valid.0; cells = stored_cells schema.attributes chunk.cells valid.0.cells sound.0 }, stored_chunks schema chunks valid.1 sound.1)

-- ---- sound chunks have sound rows

sound_in : (schema : Schema) (low : List ℤ) (lengths positions : List ℕ) (cells : List Cell) → AllByRecursion (λ cell. is_sound schema.attributes cell ≡ true) cells → AreSound schema (rows_in low lengths positions cells)
sound_in schema low lengths [] cells a = tt
sound_in schema low lengths (p ∷ positions) [] a = tt
sound_in schema low lengths (p ∷ positions) (cell ∷ cells) a = (a.0, sound_in schema low lengths positions cells a.1)

put_one : (P : Row → Type 0) (new : Row) (rows : List Row) → P new → AllByRecursion P rows → AllByRecursion P (put_row new rows)
put_one P new [] p all = (p, tt)
put_one P new (row ∷ rows) p all = by_order (row_major new.at.items row.at.items) (put_one P new rows p all.1)
  where
    by_order : (o : Ordering) → AllByRecursion P (put_row new rows) → AllByRecursion P (put_by o new row rows (put_row new rows))
    by_order Less more = (p, all)
    by_order Equal more = (p, all.1)
    by_order Greater more = (all.0, more)

pub put_each : (P : Row → Type 0) (new rows : List Row) → AllByRecursion P new → AllByRecursion P rows → AllByRecursion P (put_all new rows)
put_each P [] rows a b = b
put_each P (row ∷ new) rows a b = put_one P row (put_all new rows) a.0 (put_each P new rows a.1 b)

pub sound_cores : (schema : Schema) (margins : List ℕ) (chunks : List Chunk) → AllByRecursion (HasSoundCells schema) chunks → AreSound schema (core_rows schema.dimensions margins chunks)
sound_cores schema margins [] sound = tt
sound_cores schema margins (chunk ∷ chunks) sound =
    let dims = schema.dimensions in
    let Sound : Row → Type 0 = λ row. is_sound schema.attributes row.cell ≡ true in
    let own : AllByRecursion Sound (chunk_rows dims margins chunk) = sound_in schema (frame_low dims margins chunk.at.items) (frame_lengths dims margins) chunk.positions chunk.cells sound.0 in
    put_each Sound _ (core_rows dims margins chunks) (all_kept Sound (λ row. is_inside (core dims chunk.at.items) row.at.items) (chunk_rows dims margins chunk) own) (sound_cores schema margins chunks sound.1)

-- ---- what is read

sound_read : (schema : Schema) (listed : List (ArrayVec ℕ)) (chunks : List Chunk) → AllZip (IsRead schema) listed chunks → AllByRecursion (HasSoundCells schema) chunks
sound_read schema [] [] a = tt
sound_read schema [] (c ∷ chunks) a = absurd a
sound_read schema (k ∷ listed) [] a = absurd a
sound_read schema (k ∷ listed) (c ∷ chunks) a = (a.0.sound, sound_read schema listed chunks a.1)

are_stored : (schema : Schema) (listed : List (ArrayVec ℕ)) (chunks : List Chunk) → IsValid schema → NumbersRise (numbers_of listed) → AllZip (IsRead schema) listed chunks → AreStoredChunks schema chunks
are_stored schema listed chunks valid rising read =
    let margins = overlaps schema.dimensions in
    record {
      valid = valid;
      rising = subst NumbersRise (sym (stored_numbers schema listed chunks read)) rising;
      placed = stored_placed schema listed chunks read;
      rows_of = all_valid schema margins chunks (are_valid schema margins listed chunks refl read);
      sound = sound_read schema listed chunks read;
    }

pub read_stored : (leaf : Leaf) (listed : List (ArrayVec ℕ)) (answer : Result (List Chunk) ExecFault) → IsValid leaf.schema → NumbersRise (numbers_of listed) → IfOk answer (AllZip (IsRead leaf.schema) listed) → IfOk answer (AreStoredChunks leaf.schema)
read_stored leaf listed (Ok chunks) valid rising read = are_stored leaf.schema listed chunks valid rising read
read_stored leaf listed (Err fault) valid rising read = tt

-- the wanted ones of numbers that rise
pub wanted_rising : (p : ArrayVec ℕ → Bool) (stored wanted : List (ArrayVec ℕ)) → wanted ≡ filter p stored → NumbersRise (numbers_of stored) → NumbersRise (numbers_of wanted)
wanted_rising p stored wanted is rising = subst (λ (ks : List (ArrayVec ℕ)). NumbersRise (numbers_of ks)) (sym is) (rise_kept p stored rising)

-- ---- lists

pub all_both : {A : Type 0} (P : A → Type 0) (a b : List A) → AllByRecursion P a → AllByRecursion P b → AllByRecursion P (a ++ b)
all_both P [] b p q = q
all_both P (x ∷ a) b p q = (p.0, all_both P a b p.1 q)

-- ---- the numbers of chunks that are kept

rising_kept : (p : ChunkNumber → Bool) (ks : List ChunkNumber) → NumbersRise ks → NumbersRise (filter p ks)
rising_kept p [] a = tt
rising_kept p (k ∷ ks) a = keep (p k) (rising_kept p ks a.1)
  where
    keep : (b : Bool) → NumbersRise (filter p ks) → NumbersRise (cond b (k ∷ filter p ks) (filter p ks))
    keep true r = (all_kept (λ later. number_order k later ≡ Less) p ks a.0, r)
    keep false r = r

-- a test that two equal elements pass alike, in a search through what passes
passed_or : (q b c r x : Bool) → (q ≡ true → b ≡ c) → x ≡ (r && c) → cond b (q || x) x ≡ ((q || r) && c)
passed_or true true true r x h e = refl
passed_or true true false r x h e = h refl
passed_or true false true r x h e = let f : false ≡ true = h refl in cc
passed_or true false false r x h e = e ∙ none r
  where
    none : (r : Bool) → (r && false) ≡ false
    none true = refl
    none false = refl
passed_or false true c r x h e = e
passed_or false false c r x h e = e

pub listed_kept : (p : ChunkNumber → Bool) (k : ChunkNumber) (ks : List ChunkNumber) → is_listed k (filter p ks) ≡ (is_listed k ks && p k)
listed_kept p k [] = refl
listed_kept p k (n ∷ ks) =
    cond_out (is_listed k) (p n) (n ∷ filter p ks) (filter p ks)
    ∙ passed_or (is_eq (number_order n k)) (p n) (p k) (is_listed k ks) (is_listed k (filter p ks)) (λ t. ap p (same_number n k (is_equal (number_order n k) t))) (listed_kept p k ks)

numbers_kept : (p : ChunkNumber → Bool) (chunks : List Chunk) → numbers (filter (λ chunk. p chunk.at.items) chunks) ≡ filter p (numbers chunks)
numbers_kept p chunks = map_filter (λ (chunk : Chunk). chunk.at.items) p chunks

pub kept_rise : (p : ChunkNumber → Bool) (chunks : List Chunk) → NumbersRise (numbers chunks) → NumbersRise (numbers (filter (λ chunk. p chunk.at.items) chunks))
kept_rise p chunks rise = subst NumbersRise (sym (numbers_kept p chunks)) (rising_kept p (numbers chunks) rise)

pub kept_listed : (p : ChunkNumber → Bool) (k : ChunkNumber) (chunks : List Chunk) → is_listed k (numbers (filter (λ chunk. p chunk.at.items) chunks)) ≡ (is_listed k (numbers chunks) && p k)
kept_listed p k chunks = ap (is_listed k) (numbers_kept p chunks) ∙ listed_kept p k (numbers chunks)
