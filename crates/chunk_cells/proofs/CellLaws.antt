-- Which cores have a cell after one more row.
use Rattle.std.proofs.Common.{◌≡◌, ℕ, zero, suc, ◌+◌, ◌<◌, Bool, true, false, cond, ◌||◌, List, [], ◌∷◌, ◌++◌, length, get_or, take, refl, sym, ap, ◌∙◌, subst, arith}
use Rattle.std.specs.List.{AllByRecursion}
use Rattle.std.specs.Ordering.{is_eq}
use Rattle.std.proofs.lemmas.Cmp.{tied_itself}
use Rattle.std.proofs.lemmas.List.{take_more}
use Rattle.std.proofs.lemmas.List.Elements.{filter-append}
use Rattle.cell_values.specs.declared.datum.Row.{Row}
use Rattle.cell_values.specs.declared.schema.Bounds.{Bounds}
use Rattle.cell_values.specs.declared.schema.Dimension.{Dimension}
use Rattle.arrayvec.specs.ArrayVec.{ArrayVec}
use Rattle.array_rows.specs.Boxes.{is_inside, within, bounds_of}
use Rattle.array_rows.specs.Rows.{Coordinate}
use Rattle.array_geom.specs.Geometry.{ChunkNumber, chunk_of, core}
use Rattle.array_geom.specs.Link.{number_order, is_listed, is_not_empty, has_cell}
use Rattle.array_geom.specs.Inner.Ranges.{AreNear}
use Rattle.array_geom.proofs.CoreLaws.{core_has, core_of, length-chunk_of}
use Rattle.array_geom.proofs.NumberLaws.{same_number, is_equal}
use Rattle.chunk_cells.specs.Inner.Numbers.{numbers_in, NameCores}
use Rattle.chunk_cells.proofs.NumberLaws.{number_order_total}

pub within-more : (area : Bounds) (rows : List Row) (row : Row) → within area (rows ++ row ∷ []) ≡ within area rows ++ cond (is_inside area row.at.items) (row ∷ []) []
within-more area rows row = filter-append (λ (r : Row). is_inside area r.at.items) rows (row ∷ [])

some_more : (rows : List Row) (b : Bool) (row : Row) → is_not_empty (rows ++ cond b (row ∷ []) []) ≡ (b || is_not_empty rows)
some_more [] true row = refl
some_more [] false row = refl
some_more (r ∷ rows) true row = refl
some_more (r ∷ rows) false row = refl

pub same_tests : (a b : Bool) → (a ≡ true → b ≡ true) → (b ≡ true → a ≡ true) → a ≡ b
same_tests true b f g = sym (f refl)
same_tests false true f g = g refl
same_tests false false f g = refl

-- a coordinate lies in the core of its own chunk alone
pub in_own_core : (dims : List Dimension) (k : ChunkNumber) (c : Coordinate) → AreNear dims → length k ≡ length dims → is_inside (bounds_of dims) c ≡ true → is_inside (core dims k) c ≡ is_eq (number_order (chunk_of dims c) k)
in_own_core dims k c near l e =
    same_tests (is_inside (core dims k) c) (is_eq (number_order (chunk_of dims c) k))
    (λ h. let own : k ≡ chunk_of dims c = core_of dims k c near l h in ap (λ (n : ChunkNumber). is_eq (number_order (chunk_of dims c) n)) own ∙ ap is_eq (tied_itself number_order_total (chunk_of dims c)))
    (λ h. let own : chunk_of dims c ≡ k = same_number (chunk_of dims c) k (is_equal (number_order (chunk_of dims c) k) h) in ap (λ (n : ChunkNumber). is_inside (core dims n) c) (sym own) ∙ core_has dims c near e)

has_cell-more : (dims : List Dimension) (rows : List Row) (row : Row) (k : ChunkNumber) → AreNear dims → length k ≡ length dims → is_inside (bounds_of dims) row.at.items ≡ true → has_cell dims (rows ++ row ∷ []) k ≡ (is_eq (number_order (chunk_of dims row.at.items) k) || has_cell dims rows k)
has_cell-more dims rows row k near l e =
    ap is_not_empty (within-more (core dims k) rows row)
    ∙ some_more (within (core dims k) rows) (is_inside (core dims k) row.at.items) row
    ∙ ap (λ (b : Bool). b || has_cell dims rows k) (in_own_core dims k row.at.items near l e)

pub cores_more : (dims : List Dimension) (rows : List Row) (row : Row) (number : ArrayVec ℕ) (old new : List (ArrayVec ℕ)) → AreNear dims → is_inside (bounds_of dims) row.at.items ≡ true → number.items ≡ chunk_of dims row.at.items → NameCores dims rows old
    → ((n : ℕ) → length number.items ≡ n → AllByRecursion (λ k. length k ≡ n) (numbers_in old) → AllByRecursion (λ k. length k ≡ n) (numbers_in new))
    → ((k : ChunkNumber) → is_listed k (numbers_in new) ≡ (is_eq (number_order number.items k) || is_listed k (numbers_in old)))
    → NameCores dims (rows ++ row ∷ []) new
cores_more dims rows row number old new near e own are sized listed = record {
  sized = sized (length dims) (ap length own ∙ length-chunk_of dims row.at.items e) are.sized;
  cores = λ k l.
      listed k
      ∙ ap (λ (n : ChunkNumber). is_eq (number_order n k) || is_listed k (numbers_in old)) own
      ∙ ap (λ (b : Bool). is_eq (number_order (chunk_of dims row.at.items) k) || b) (are.cores k l)
      ∙ sym (has_cell-more dims rows row k near l e);
}

-- what holds of each row holds of the one at a place
pub row_at : (P : Row → Type 0) (rows : List Row) (i : ℕ) (row : Row) → AllByRecursion P rows → i < length rows → row ≡ get_or rows i row → P row
row_at P [] i y a l e = absurd (omega arith)
row_at P (x ∷ xs) zero y a l e = subst P (sym e) a.0
row_at P (x ∷ xs) (suc i) y a l e = row_at P xs i y a.1 (omega arith) e

pub take_with : {X : Type 0} (xs : List X) (i : ℕ) (x : X) → i < length xs → x ≡ get_or xs i x → take i xs ++ x ∷ [] ≡ take (i + 1) xs
take_with xs i x l e = ap (λ y. take i xs ++ y ∷ []) e ∙ sym (take_more xs i x l)
