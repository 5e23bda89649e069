-- The rows of chunks, cell by cell and chunk by chunk.
use Rattle.std.proofs.Common.{◌≡◌, ℕ, zero, suc, ◌+◌, ◌<◌, ◌≤◌, ℤ, List, [], ◌∷◌, ◌++◌, length, take, drop, refl, sym, ap, ◌∙◌, subst, append_assoc, arith}
use Rattle.std.specs.List.{AllByRecursion, flat_map}
use Rattle.std.specs.Prelude.{slice_index_or}
use Rattle.std.proofs.lemmas.List.{drop_more, drop_all, append-nil, map_more}
use Rattle.arrayvec.specs.ArrayVec.{ArrayVec}
use Rattle.cell_values.specs.declared.datum.Cell.{Cell}
use Rattle.cell_values.specs.declared.datum.Row.{Row}
use Rattle.cell_values.specs.declared.schema.Schema.{Schema}
use Rattle.array_geom.specs.declared.chunk.Chunk.{Chunk}
use Rattle.array_geom.specs.Geometry.{volume}
use Rattle.array_geom.specs.Link.{chunk_rows, rows_in}
use Rattle.array_parts.specs.Placed.{HasPlaces}
use Rattle.chunk_source.specs.Found.{numbers_in}

-- ---- cells

-- with the cells that are left, the rows become those before with all cells
abbrev pub AreAdded : List ℤ → List ℕ → List Row → List Row → List ℕ → List Cell → List ℕ → List Cell → Type 0
AreAdded low lengths before rows left cells positions all = rows ++ rows_in low lengths left cells ≡ before ++ rows_in low lengths positions all

next_row : (low : List ℤ) (lengths : List ℕ) (p : ℕ) (ps : List ℕ) (cells : List Cell) → rows_in low lengths (p ∷ ps) cells ≡ rows_in low lengths (p ∷ []) cells ++ rows_in low lengths ps (drop 1 cells)
next_row low lengths p [] [] = refl
next_row low lengths p (q ∷ ps) [] = refl
next_row low lengths p ps (x ∷ cells) = refl

pub step : (low : List ℤ) (lengths : List ℕ) (before rows rows' : List Row) (i : ℕ) (cells cells' : List Cell) (positions : List ℕ) (all : List Cell)
    → i < length positions → AreAdded low lengths before rows (drop i positions) cells positions all
    → rows' ≡ rows ++ rows_in low lengths (slice_index_or positions i 0 ∷ []) cells → cells' ≡ drop 1 cells
    → AreAdded low lengths before rows' (drop (i + 1) positions) cells' positions all
step low lengths before rows rows' i cells cells' positions all l h e f =
    let p = slice_index_or positions i 0 in
    let ps = drop (i + 1) positions in
    ap (λ (rs : List Row). rs ++ rows_in low lengths ps cells') e
    ∙ ap (λ (cs : List Cell). (rows ++ rows_in low lengths (p ∷ []) cells) ++ rows_in low lengths ps cs) f
    ∙ append_assoc rows (rows_in low lengths (p ∷ []) cells) (rows_in low lengths ps (drop 1 cells))
    ∙ ap (λ (rs : List Row). rows ++ rs) (sym (next_row low lengths p ps cells))
    ∙ ap (λ (qs : List ℕ). rows ++ rows_in low lengths qs cells) (sym (drop_more positions i 0 l))
    ∙ h

pub done : (low : List ℤ) (lengths : List ℕ) (before rows : List Row) (i : ℕ) (cells : List Cell) (positions : List ℕ) (all : List Cell)
    → length positions ≤ i → AreAdded low lengths before rows (drop i positions) cells positions all → rows ≡ before ++ rows_in low lengths positions all
done low lengths before rows i cells positions all l h =
    sym (append-nil rows) ∙ ap (λ (ps : List ℕ). rows ++ rows_in low lengths ps cells) (sym (drop_all i positions l)) ∙ h

-- each place is one of the frame
place_at : (n : ℕ) (positions : List ℕ) (i : ℕ) → AllByRecursion (λ p. p < n) positions → i < length positions → slice_index_or positions i 0 < n
place_at n [] i a h = absurd (omega (arith, h))
place_at n (p ∷ positions) zero a h = a.0
place_at n (p ∷ positions) (suc i) a h = place_at n positions i a.1 (omega (arith, h))

pub place_inside : (lengths own positions listed : List ℕ) (i : ℕ) → own ≡ lengths → listed ≡ positions → AllByRecursion (λ p. p < volume lengths) positions
    → i < length listed → slice_index_or listed i 0 < volume own
place_inside lengths own positions listed i e f a h =
    subst (λ (ns : List ℕ). slice_index_or listed i 0 < volume ns) (sym e)
    (place_at (volume lengths) listed i (subst (AllByRecursion (λ p. p < volume lengths)) (sym f) a) h)

-- ---- chunks

-- the numbers of chunks, one more
pub number_more : (chunks : List Chunk) (i : ℕ) (chunk : Chunk) (at : ArrayVec ℕ) (old new : List (ArrayVec ℕ)) → i < length chunks
    → chunk ≡ slice_index_or chunks i chunk → old ≡ numbers_in (take i chunks) → at ≡ chunk.at → new ≡ old ++ at ∷ []
    → new ≡ numbers_in (take (i + 1) chunks)
number_more chunks i chunk at old new l item is same pushed =
    pushed ∙ ap (λ (z : List (ArrayVec ℕ)). z ++ at ∷ []) is
    ∙ ap (λ (k : ArrayVec ℕ). numbers_in (take i chunks) ++ k ∷ []) (same ∙ ap (λ (z : Chunk). z.at) item)
    ∙ sym (map_more (λ (z : Chunk). z.at) chunks i chunk l)

-- with the chunks that are left, the rows become those of all; each chunk has its places
pub record AreGathered (schema : Schema) (margins : List ℕ) (rows : List Row) (left all : List Chunk) : Type 0 where
  pub places : AllByRecursion (HasPlaces schema margins) left
  pub same : rows ++ flat_map (chunk_rows schema.dimensions margins) left ≡ flat_map (chunk_rows schema.dimensions margins) all

pub none_gathered : (schema : Schema) (margins : List ℕ) (rows : List Row) (left all : List Chunk) → rows ≡ [] → left ≡ all → AllByRecursion (HasPlaces schema margins) all → AreGathered schema margins rows left all
none_gathered schema margins rows left all e f a = rw (e, f) (record { places = a; same = refl })

pub next_places : (schema : Schema) (margins : List ℕ) (rows : List Row) (left left' all : List Chunk) (chunk : Chunk) → left ≡ chunk ∷ left' → AreGathered schema margins rows left all → HasPlaces schema margins chunk
next_places schema margins rows left left' all chunk e g = (let a : AllByRecursion (HasPlaces schema margins) (chunk ∷ left') = subst (AllByRecursion (HasPlaces schema margins)) e g.places in a.0)

pub one_gathered : (schema : Schema) (margins : List ℕ) (rows rows' : List Row) (left left' all : List Chunk) (chunk : Chunk) → left ≡ chunk ∷ left' → rows' ≡ rows ++ chunk_rows schema.dimensions margins chunk
    → AreGathered schema margins rows left all → AreGathered schema margins rows' left' all
one_gathered schema margins rows rows' left left' all chunk e f g = record {
  places = (let a : AllByRecursion (HasPlaces schema margins) (chunk ∷ left') = subst (AllByRecursion (HasPlaces schema margins)) e g.places in a.1);
  same = ap (λ (rs : List Row). rs ++ flat_map (chunk_rows schema.dimensions margins) left') f
      ∙ append_assoc rows (chunk_rows schema.dimensions margins chunk) (flat_map (chunk_rows schema.dimensions margins) left')
      ∙ ap (λ (cs : List Chunk). rows ++ flat_map (chunk_rows schema.dimensions margins) cs) (sym e)
      ∙ g.same;
}

pub all_gathered : (schema : Schema) (margins : List ℕ) (rows : List Row) (left all : List Chunk) → left ≡ [] → AreGathered schema margins rows left all → rows ≡ flat_map (chunk_rows schema.dimensions margins) all
all_gathered schema margins rows left all e g = sym (append-nil rows) ∙ ap (λ (cs : List Chunk). rows ++ flat_map (chunk_rows schema.dimensions margins) cs) (sym e) ∙ g.same
