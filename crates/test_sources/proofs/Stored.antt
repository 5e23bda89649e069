-- The example is a stored array, and its leaf is read from it.
use Rattle.std.proofs.Common.{◌≡◌, ℕ, ◌≤◌, ◌^◌, ℤ, List, [], ◌∷◌, length, refl, sym, ap, ◌∙◌, subst, inr, arith}
use Rattle.std.specs.List.{AllByRecursion}
use Rattle.arrayvec.specs.ArrayVec.{ArrayVec}
use Rattle.cell_values.specs.declared.datum.Cell.{Cell}
use Rattle.cell_values.specs.declared.datum.Row.{Row}
use Rattle.cell_values.specs.declared.schema.Schema.{Schema}
use Rattle.cell_values.specs.Schemas.{IsValid}
use Rattle.array_rows.specs.Arrays.{AreRowsOf}
use Rattle.array_rows.specs.Rows.{placed}
use Rattle.array_geom.specs.Geometry.{frame_lengths, overlaps, volume}
use Rattle.array_geom.specs.Link.{HoldsRows, Is}
use Rattle.array_geom.proofs.LinkLaws.{chunks_have_their_rows}
use Rattle.logical_plan.specs.declared.parts.Leaf.{Leaf}
use Rattle.logical_plan.specs.Typing.{AreSound}
use Rattle.chunk_source.specs.declared.memory.leaf_array.LeafArray.{LeafArray}
use Rattle.chunk_source.specs.Found.{IsRead, IsStoredArray, rows_of}
use Rattle.test_sources.specs.Example.{dimensions, schema, leaf, rows, meant}
use Rattle.test_sources.specs.declared.layout.Layout.{Layout}
use Rattle.test_sources.specs.declared.layout.Layout.TheVariants.{Singles, Pairs, Whole}

abbrev row_with : ArrayVec ℤ → Cell → Row
row_with at cell = record { at = at; cell = cell }

pub placed_at : (at : ArrayVec ℤ) (c : List ℤ) (cell : Cell) → at.items ≡ c → row_with at cell ≡ placed c cell
placed_at at c cell e = ap (λ (items : List ℤ). placed items cell) e

-- ---- what `assemble` asks for

pub valid : (layout : Layout) → IsValid (schema layout)
valid Singles = refl
valid Pairs = refl
valid Whole = refl

are_rows : (layout : Layout) → AreRowsOf (schema layout) rows
are_rows layout = record {
  valid = valid layout;
  are_rows = record { rising = ((refl, tt), (tt, tt)); in_bounds = (refl, (refl, tt)) };
  kinds = ((refl, tt), ((refl, tt), tt));
}

pub schema_valid : (layout : Layout) (s : Schema) → s ≡ schema layout → IsValid s
schema_valid layout s e = subst IsValid (sym e) (valid layout)

pub leaf_valid : (layout : Layout) (l : Leaf) → l ≡ leaf layout → IsValid l.schema
leaf_valid layout l e = subst (λ (z : Leaf). IsValid z.schema) (sym e) (valid layout)

pub rows_are : (layout : Layout) (s : Schema) (rs : List Row) → s ≡ schema layout → rs ≡ rows → AreRowsOf s rs
rows_are layout s rs e f = subst (λ (z : Schema). AreRowsOf z rs) (sym e) (subst (AreRowsOf (schema layout)) (sym f) (are_rows layout))

pub margin_each : (layout : Layout) (s : Schema) (margins : List ℕ) → margins ≡ overlaps s.dimensions → s ≡ schema layout → length margins ≡ length s.dimensions
margin_each layout s margins e f = ap length e ∙ subst (λ (z : Schema). length (overlaps z.dimensions) ≡ length z.dimensions) (sym f) refl

few : (layout : Layout) → volume (frame_lengths (dimensions layout) (overlaps (dimensions layout))) ≤ 2 ^ 48
few Singles = omega arith
few Pairs = omega arith
few Whole = omega arith

pub few_places : (layout : Layout) (s : Schema) (margins : List ℕ) → margins ≡ overlaps s.dimensions → s ≡ schema layout → volume (frame_lengths s.dimensions margins) ≤ 2 ^ 48
few_places layout s margins e f =
    subst (λ (ms : List ℕ). volume (frame_lengths s.dimensions ms) ≤ 2 ^ 48) (sym e) (subst (λ (z : Schema). volume (frame_lengths z.dimensions (overlaps z.dimensions)) ≤ 2 ^ 48) (sym f) (few layout))

-- ---- the stored array

sound : (layout : Layout) → AreSound (schema layout) rows
sound layout = (refl, (refl, tt))

pub is_stored : (layout : Layout) (stored : LeafArray) → stored.leaf ≡ leaf layout → Is stored.array (meant layout) → stored.array.margins.items ≡ overlaps (dimensions layout) → IsStoredArray stored
is_stored layout stored e is margins =
    let same : stored.leaf.schema ≡ schema layout = ap (λ (l : Leaf). l.schema) e in
    let here : stored.array.schema ≡ stored.leaf.schema = is.schema ∙ sym same in
    let held : HoldsRows stored.array.schema stored.array rows = subst (λ (s : Schema). HoldsRows s stored.array rows) (sym is.schema) is.cells in
    let core : rows_of stored ≡ rows = subst (λ (s : Schema). rows_of (record { leaf = record stored.leaf { schema = s }; array = stored.array }) ≡ rows) here (chunks_have_their_rows stored.array.schema stored.array rows held) in
    record {
      schema = here;
      margins = margins ∙ sym (ap (λ (s : Schema). overlaps s.dimensions) same);
      rows = subst (HoldsRows stored.leaf.schema stored.array) (sym core) (subst (λ (s : Schema). HoldsRows s stored.array rows) here held);
      sound = subst (λ (s : Schema). AreSound s (rows_of stored)) (sym same) (subst (AreSound (schema layout)) (sym core) (sound layout));
    }

pub all_stored : (stored : LeafArray) → IsStoredArray stored → AllByRecursion IsStoredArray (stored ∷ [])
all_stored stored is = (is, tt)

-- the leaf is that of the one array
pub is_read : (layout : Layout) (stored : LeafArray) → stored.leaf ≡ leaf layout → IsRead (stored ∷ []) (leaf layout)
is_read layout stored e = subst (λ (l : Leaf). IsRead (record { leaf = l; array = stored.array } ∷ []) (leaf layout)) (sym e) (inr refl)
