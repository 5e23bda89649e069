-- The bytes of a payload that is read are as many as the spelling of its chunk has, whatever they are.
use Rattle.std.proofs.Common.{◌≡◌, ℕ, zero, suc, ◌+◌, true, false, ◌&&◌, nat_lt, nat_le, List, [], ◌∷◌, length, Result, Ok, Err, refl, sym, ap, subst, ◌∙◌, arith, length-append}
use Rattle.std.specs.Prelude.{◌==◌}
use Rattle.std.specs.Int.{w16, w64, to_le_bytes, cast_signed, cast_unsigned}
use Rattle.std.specs.List.{flat_map}
use Rattle.file_items.specs.Items.{◌>>=◌, number_at, bytes_at, item, counted, spell_counted, Are}
use Rattle.file_items.proofs.BytesLaws.{bind_ok, test_ok, ok_is, exact16, exact64}
use Rattle.array_geom.specs.declared.chunk.Chunk.{Chunk}
use Rattle.cell_values.specs.declared.datum.Datum.{Datum}
use Rattle.cell_values.specs.declared.datum.Datum.TheVariants.{Null, Missing, Int, Text, Truth}
use Rattle.cell_values.specs.declared.schema.Attribute.{Attribute}
use Rattle.chunk_rle.specs.Frames.{Frame}
use Rattle.chunk_rle.specs.declared.runs.Seen.{Seen}
use Rattle.chunk_rle.specs.declared.runs.PosRun.{PosRun}
use Rattle.chunk_rle.specs.declared.runs.Run.{Run}
use Rattle.chunk_rle.specs.declared.runs.Column.{Column}
use Rattle.chunk_rle.specs.declared.runs.ChunkRuns.{ChunkRuns}
use Rattle.chunk_rle.specs.Chunks.{as_runs, chunk_of, spelling, chunk_payload}
use Rattle.chunk_rle.specs.Spelling.{spell_value, spell_position_run, spell_run, spell_column, spell_runs}
use Rattle.chunk_rle.specs.Table.{Values, no_positions, with_run, is_start, is_length, position_run_at, position_runs_at, count_positions, value_fields, value_at, no_values, with_values, is_run_length, is_run_value, run_at, column_at, next_column_at, others, columns_at, runs_at, payload}
use Rattle.chunk_rle.specs.Valid.{some_runs}
use Rattle.store_state.specs.SizesLaws.{ReadPayloadsAreAsLong}
use Rattle.store_state.proofs.Runs.{IsTestedPlace, IsTestedRun, IsTestedColumn, IsNextTested, runs_of_chunk}
use Rattle.store_state.proofs.Takes.{IsTaken, Takes, AreMany, number_takes, bytes_take, item_takes, one_item_takes, then_takes, seen_takes, repeat_takes, counted_takes, whole_taken}

-- ---- position runs

place_takes : (frame : Frame) (before : Seen) (after : ℕ) → Takes (position_run_at frame before after) spell_position_run (IsTestedPlace frame before after)
unfolding position_run_at
place_takes frame before after =
    then_takes (item (number_at w64) (is_start frame before)) (to_le_bytes w64) (λ n. Unit {0} × (is_start frame before n ≡ true))
    (λ start. item (number_at w64) (is_length frame before (after == 0) start)) (λ start. to_le_bytes w64) (λ start n. Unit {0} × (is_length frame before (after == 0) start n ≡ true))
    (λ start n. record { start = start; length = n }) (λ (run : PosRun). run.start) (λ (run : PosRun). run.length) (λ a b. refl) (λ a b. refl)
    (item_takes (number_at w64) (to_le_bytes w64) (λ n. Unit {0}) (is_start frame before) (number_takes w64 exact64.size))
    (λ start. item_takes (number_at w64) (to_le_bytes w64) (λ n. Unit {0}) (is_length frame before (after == 0) start) (number_takes w64 exact64.size))

places_take : (frame : Frame) → Takes (position_runs_at frame) (spell_counted w64 spell_position_run) (AreMany (nat_lt 0) (IsTestedPlace frame) (with_run frame) no_positions)
unfolding position_runs_at
places_take frame = counted_takes w64 exact64.size (nat_lt 0) (position_run_at frame) (with_run frame) spell_position_run (IsTestedPlace frame) (place_takes frame) no_positions

-- ---- values

abbrev IsAny : Datum → Type 0
IsAny v = Unit {0}

abbrev read_as : Datum × List ℕ → Result (Datum × List ℕ) ℕ
read_as x = Ok x

taken_alone : (bytes : List ℕ) (made x : Datum × List ℕ) → read_as made ≡ Ok x → length bytes ≡ length (spell_value made.0) + length made.1 → IsTaken spell_value IsAny bytes x
taken_alone bytes made x e size = subst (IsTaken spell_value IsAny bytes) (ok_is made x e) (record { size = size; good = tt })

fields_taken : (bytes : List ℕ) (x : Datum × List ℕ) → value_fields bytes ≡ Ok x → IsTaken spell_value IsAny bytes x
unfolding value_fields spell_value
fields_taken [] x e = absurd cc
fields_taken (zero ∷ bytes) x e = taken_alone (0 ∷ bytes) (Null, bytes) x e (omega arith)
fields_taken (suc zero ∷ bytes) x e =
    let b = bind_ok (number_at w64 bytes) (λ n. Ok (Int (cast_signed w64 n.0), n.1)) x e in
    let t = (number_takes w64 exact64.size).takes bytes b.0 b.1 in
    let read = exact64.size b.0.0 in
    let spelled = exact64.size (cast_unsigned w64 (cast_signed w64 b.0.0)) in
    taken_alone (1 ∷ bytes) (Int (cast_signed w64 b.0.0), b.0.1) x b.2 (omega (arith, t.size, read, spelled))
fields_taken (suc (suc zero) ∷ bytes) x e =
    let b = bind_ok (number_at w16 bytes) (λ n. bytes_at n.0 n.1 >>= λ text. Ok (Text text.0, text.1)) x e in
    let d = bind_ok (bytes_at b.0.0 b.0.1) (λ text. Ok (Text text.0, text.1)) x b.2 in
    let t = (number_takes w16 exact16.size).takes bytes b.0 b.1 in
    let t' = (bytes_take b.0.0).takes b.0.1 d.0 d.1 in
    let read = exact16.size b.0.0 in
    let spelled = exact16.size (length d.0.0) in
    taken_alone (2 ∷ bytes) (Text d.0.0, d.0.1) x d.2 (omega (arith, t.size, t'.size, read, spelled, length-append (to_le_bytes w16 (length d.0.0)) d.0.0))
fields_taken (suc (suc (suc zero)) ∷ bytes) x e = taken_alone (3 ∷ bytes) (Truth false, bytes) x e (omega arith)
fields_taken (suc (suc (suc (suc zero))) ∷ bytes) x e = taken_alone (4 ∷ bytes) (Truth true, bytes) x e (omega arith)
fields_taken (suc (suc (suc (suc (suc zero)))) ∷ []) x e = absurd cc
fields_taken (suc (suc (suc (suc (suc zero)))) ∷ code ∷ bytes) x e =
    let g = test_ok (nat_le 1 code && nat_le code 127) 0 (Missing code, bytes) x e in
    subst (IsTaken spell_value IsAny (5 ∷ code ∷ bytes)) g.1 (record { size = omega arith; good = tt })
fields_taken (suc (suc (suc (suc (suc (suc tag))))) ∷ bytes) x e = absurd cc

value_takes : Takes value_at spell_value IsAny
value_takes = one_item_takes value_fields spell_value IsAny (record { takes = fields_taken })

-- ---- value runs

run_takes : (attribute : Attribute) (n : ℕ) (before : Values) (after : ℕ) → Takes (run_at attribute n before after) spell_run (IsTestedRun attribute n before after)
unfolding run_at
run_takes attribute n before after =
    then_takes (item (number_at w64) (is_run_length n before.total (after == 0))) (to_le_bytes w64) (λ k. Unit {0} × (is_run_length n before.total (after == 0) k ≡ true))
    (λ k. item value_at (is_run_value attribute before)) (λ k. spell_value) (λ k v. IsAny v × (is_run_value attribute before v ≡ true))
    (λ k v. record { length = k; value = v }) (λ (run : Run). run.length) (λ (run : Run). run.value) (λ a b. refl) (λ a b. refl)
    (item_takes (number_at w64) (to_le_bytes w64) (λ n. Unit {0}) (is_run_length n before.total (after == 0)) (number_takes w64 exact64.size))
    (λ k. item_takes value_at spell_value IsAny (is_run_value attribute before) value_takes)

column_takes : (n : ℕ) (attribute : Attribute) → Takes (column_at attribute n) spell_column (IsTestedColumn n attribute)
unfolding column_at
column_takes n attribute =
    seen_takes (counted w64 (some_runs n) (run_at attribute n) with_values no_values) (spell_counted w64 spell_run) (AreMany (some_runs n) (IsTestedRun attribute n) with_values no_values)
    (λ runs. record { runs = runs }) (λ (column : Column). column.runs) (λ a. refl)
    (counted_takes w64 exact64.size (some_runs n) (run_at attribute n) with_values spell_run (IsTestedRun attribute n) (run_takes attribute n) no_values)

abbrev stopped : ℕ → Result (Column × List ℕ) ℕ
stopped left = Err left

never : (bytes : List ℕ) (x : Column × List ℕ) → stopped (length bytes) ≡ Ok x → ⊥
never bytes x e = cc

next_column_takes : (n : ℕ) (attributes : List Attribute) (after : ℕ) → Takes (next_column_at n attributes after) spell_column (IsNextTested n attributes after)
next_column_takes n [] after = record { takes = λ bytes x e. absurd (never bytes x e) }
next_column_takes n (attribute ∷ attributes) after = column_takes n attribute

columns_take : (n : ℕ) (attributes : List Attribute) → Takes (columns_at attributes n) (flat_map spell_column) (Are (IsNextTested n) others (length attributes) attributes)
unfolding columns_at
columns_take n attributes = repeat_takes (next_column_at n) others spell_column (IsNextTested n) (next_column_takes n) (length attributes) attributes

-- ---- the payload

runs_take : (frame : Frame) (attributes : List Attribute) → Takes (runs_at frame attributes) spell_runs (λ chunk. AreMany (nat_lt 0) (IsTestedPlace frame) (with_run frame) no_positions chunk.positions × Are (IsNextTested (count_positions chunk.positions)) others (length attributes) attributes chunk.columns)
unfolding runs_at spell_runs
runs_take frame attributes =
    then_takes (position_runs_at frame) (spell_counted w64 spell_position_run) (AreMany (nat_lt 0) (IsTestedPlace frame) (with_run frame) no_positions)
    (λ positions. columns_at attributes (count_positions positions)) (λ positions. flat_map spell_column) (λ positions. Are (IsNextTested (count_positions positions)) others (length attributes) attributes)
    (λ positions columns. record { positions = positions; columns = columns }) (λ (chunk : ChunkRuns). chunk.positions) (λ (chunk : ChunkRuns). chunk.columns) (λ a b. refl) (λ a b. refl)
    (places_take frame) (λ positions. columns_take (count_positions positions) attributes)

-- ---- the chunk

pub payload_size : ReadPayloadsAreAsLong
unfolding chunk_payload spelling
payload_size frame at attributes bytes chunk narrow e =
    let a = bind_ok (payload frame attributes bytes) (λ runs. Ok (chunk_of at runs)) chunk e in
    let t = whole_taken (runs_at frame attributes) spell_runs _ (runs_take frame attributes) bytes a.0 a.1 in
    let same = runs_of_chunk frame at attributes a.0 narrow (record { positions = t.1.0.each; columns = t.1.1 }) in
    let size : length bytes ≡ length (spell_runs (as_runs attributes (chunk_of at a.0))) = t.0 ∙ ap (λ (runs : ChunkRuns). length (spell_runs runs)) (sym same) in
    subst (λ (c : Chunk). length bytes ≡ length (spell_runs (as_runs attributes c))) (ok_is (chunk_of at a.0) chunk a.2) size
