-- What is encoded.
use Rattle.std.proofs.Common.{◌≡◌, ℕ, List, true, Result, Ok, Err, IfOk, sym, ◌∙◌, ap, subst}
use Rattle.arrayvec.specs.ArrayVec.{ArrayVec}
use Rattle.cell_values.specs.declared.datum.Row.{Row}
use Rattle.cell_values.specs.declared.memory.Memory.{Memory}
use Rattle.cell_values.specs.declared.schema.Bounds.{Bounds}
use Rattle.cell_values.specs.declared.schema.Dimension.{Dimension}
use Rattle.cell_values.specs.declared.schema.Schema.{Schema}
use Rattle.cell_values.specs.Schemas.{IsValid}
use Rattle.array_rows.specs.Boxes.{within}
use Rattle.array_geom.specs.declared.chunk.Chunk.{Chunk}
use Rattle.array_geom.specs.Geometry.{has_core, frame, overlaps}
use Rattle.array_geom.specs.Link.{chunk_rows, core_rows}
use Rattle.array_geom.proofs.NearLemmas.{stored_frame}
use Rattle.array_parts.specs.Made.{IsPlaced}
use Rattle.chunk_rle.specs.Chunks.{spelling}
use Rattle.backup_format.specs.Pieces.{stored_chunk, stored_payload}
use Rattle.backup_format.proofs.CoreChunks.{part_stored}

pub encoded : (schema : Schema) (margins : List ℕ) (number : ArrayVec ℕ) (all part : List Row) (chunk : Chunk) (bytes : List ℕ) → margins ≡ overlaps schema.dimensions → IsValid schema → has_core schema.dimensions number.items ≡ true
    → part ≡ within (frame schema.dimensions margins number.items) all → chunk.at ≡ number → IsPlaced schema.dimensions margins chunk → chunk_rows schema.dimensions margins chunk ≡ part
    → bytes ≡ spelling schema.attributes chunk → bytes ≡ stored_payload schema all number.items
encoded schema margins number all part chunk bytes are valid core cut at placed rows spelled =
    let dims = schema.dimensions in
    let own : IsPlaced dims (overlaps dims) chunk = subst (λ (ms : List ℕ). IsPlaced dims ms chunk) are placed in
    let its : chunk_rows dims (overlaps dims) chunk ≡ within (frame dims (overlaps dims) number.items) all = subst (λ (ms : List ℕ). chunk_rows dims ms chunk ≡ within (frame dims ms number.items) all) are (rows ∙ cut) in
    let here : chunk_rows dims (overlaps dims) chunk ≡ within (frame dims (overlaps dims) chunk.at.items) all = subst (λ (k : ArrayVec ℕ). chunk_rows dims (overlaps dims) chunk ≡ within (frame dims (overlaps dims) k.items) all) (sym at) its in
    let is : chunk ≡ stored_chunk schema all chunk.at.items = part_stored schema all chunk (stored_frame schema chunk.at.items valid (subst (λ (k : ArrayVec ℕ). has_core dims k.items ≡ true) (sym at) core)) (record { each = own.each; in_frame = own.in_frame; cells = here }) in
    spelled ∙ ap (spelling schema.attributes) is ∙ ap (λ (k : ArrayVec ℕ). stored_payload schema all k.items) at

pub encoded_if : (schema : Schema) (margins : List ℕ) (number : ArrayVec ℕ) (all part : List Row) (chunk : Chunk) (result : Result (List ℕ) Memory) → margins ≡ overlaps schema.dimensions → IsValid schema → has_core schema.dimensions number.items ≡ true
    → part ≡ within (frame schema.dimensions margins number.items) all → chunk.at ≡ number → IsPlaced schema.dimensions margins chunk → chunk_rows schema.dimensions margins chunk ≡ part
    → IfOk result (λ bytes. bytes ≡ spelling schema.attributes chunk) → IfOk result (λ bytes. bytes ≡ stored_payload schema all number.items)
encoded_if schema margins number all part chunk (Ok bytes) are valid core cut at placed rows spelled = encoded schema margins number all part chunk bytes are valid core cut at placed rows spelled
encoded_if schema margins number all part chunk (Err memory) are valid core cut at placed rows spelled = tt

-- rows in the frame, by what it is called
pub cut_by : (dims : List Dimension) (margins : List ℕ) (k : List ℕ) (area : Bounds) (all part : List Row) → area ≡ frame dims margins k → part ≡ within area all → part ≡ within (frame dims margins k) all
cut_by dims margins k area all part is cut = subst (λ (a : Bounds). part ≡ within a all) is cut

-- and rows of all cores, by the margins
pub all_by : (dims : List Dimension) (margins : List ℕ) (area : Bounds) (chunks : List Chunk) (part : List Row) → margins ≡ overlaps dims → part ≡ within area (core_rows dims margins chunks) → part ≡ within area (core_rows dims (overlaps dims) chunks)
all_by dims margins area chunks part are cut = subst (λ (ms : List ℕ). part ≡ within area (core_rows dims ms chunks)) are cut
