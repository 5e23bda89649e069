-- Chunks whose cores have a row are listed.
use Rattle.std.proofs.Common.{◌≡◌, ℕ, Bool, true, false, cond, ◌||◌, ◌⊎◌, inl, inr, List, [], ◌∷◌, length, refl, sym, ap, ◌∙◌}
use Rattle.std.specs.List.{AllByRecursion}
use Rattle.std.specs.Ordering.{is_eq}
use Rattle.std.proofs.lemmas.Bool.{false≢true}
use Rattle.std.proofs.lemmas.Cmp.{lists_total, nat_cmp_total, tied_itself}
use Rattle.cell_values.specs.declared.datum.Row.{Row}
use Rattle.cell_values.specs.declared.schema.Bounds.{Bounds}
use Rattle.cell_values.specs.declared.schema.Dimension.{Dimension}
use Rattle.array_rows.specs.Boxes.{is_inside, within}
use Rattle.array_rows.specs.Rows.{Coordinate, put_all}
use Rattle.array_rows.proofs.RowSets.{rows_where-put_all}
use Rattle.array_geom.specs.declared.chunk.Chunk.{Chunk}
use Rattle.array_geom.specs.Geometry.{ChunkNumber, core}
use Rattle.array_geom.specs.Inner.Ranges.{AreNear}
use Rattle.array_geom.specs.Link.{chunk_rows, core_rows, has_cell, is_listed, is_not_empty, number_order, numbers}
use Rattle.array_geom.proofs.CoreLaws.{core_of}
use Rattle.chunk_cells.proofs.MergeLaws.{IsRising-core_rows}

-- two boxes have no row in common, or a coordinate
record Shared (a b : Bounds) : Type 0 where
  at : Coordinate
  first : is_inside a at ≡ true
  second : is_inside b at ≡ true

in_both : (a b : Bounds) (rows : List Row) → (within a (within b rows) ≡ []) ⊎ Shared a b
in_both a b [] = inl refl
in_both a b (row ∷ rows) = cases (is_inside b row.at.items) refl (in_both a b rows)
  where
    other : (t : Bool) → is_inside b row.at.items ≡ true → is_inside a row.at.items ≡ t → (within a (within b rows) ≡ []) ⊎ Shared a b → (cond t (row ∷ within a (within b rows)) (within a (within b rows)) ≡ []) ⊎ Shared a b
    other true e f r = inr (record { at = row.at.items; first = f; second = e })
    other false e f r = r

    cases : (t : Bool) → is_inside b row.at.items ≡ t → (within a (within b rows) ≡ []) ⊎ Shared a b → (within a (cond t (row ∷ within b rows) (within b rows)) ≡ []) ⊎ Shared a b
    cases true e r = other (is_inside a row.at.items) e refl r
    cases false e r = r

same_listed : (k n : ChunkNumber) (ks : List ChunkNumber) → n ≡ k → is_listed k (n ∷ ks) ≡ true
same_listed k n ks e = ap (λ (z : ChunkNumber). is_listed k (z ∷ ks)) e ∙ ap (λ (t : Bool). t || is_listed k ks) (ap is_eq (tied_itself (lists_total nat_cmp_total) k))

or_right : (q r : Bool) → r ≡ true → (q || r) ≡ true
or_right true r e = refl
or_right false r e = e

-- the chunk of a core that has a row of other chunks' cores is one of these
pub core_listed : (dims : List Dimension) (margins : List ℕ) (chunks : List Chunk) (k : ChunkNumber) → AreNear dims → AllByRecursion (λ n. length n ≡ length dims) (numbers chunks) → length k ≡ length dims
    → has_cell dims (core_rows dims margins chunks) k ≡ true → is_listed k (numbers chunks) ≡ true
core_listed dims margins [] k near sized l e = absurd (false≢true e)
core_listed dims margins (chunk ∷ chunks) k near sized l e =
    cases (in_both (core dims k) (core dims chunk.at.items) (chunk_rows dims margins chunk)) (core_listed dims margins chunks k near sized.1 l)
  where
    both : is_not_empty (put_all (within (core dims k) (within (core dims chunk.at.items) (chunk_rows dims margins chunk))) (within (core dims k) (core_rows dims margins chunks))) ≡ true
    both = sym (ap is_not_empty (rows_where-put_all (is_inside (core dims k)) (within (core dims chunk.at.items) (chunk_rows dims margins chunk)) (core_rows dims margins chunks) (IsRising-core_rows dims margins chunks))) ∙ e

    cases : (within (core dims k) (within (core dims chunk.at.items) (chunk_rows dims margins chunk)) ≡ []) ⊎ Shared (core dims k) (core dims chunk.at.items) → (has_cell dims (core_rows dims margins chunks) k ≡ true → is_listed k (numbers chunks) ≡ true) → is_listed k (chunk.at.items ∷ numbers chunks) ≡ true
    cases (inl none) rest = or_right (is_eq (number_order chunk.at.items k)) (is_listed k (numbers chunks)) (rest (sym (ap (λ (z : List Row). is_not_empty (put_all z (within (core dims k) (core_rows dims margins chunks)))) none) ∙ both))
    cases (inr shared) rest =
        same_listed k chunk.at.items (numbers chunks) (core_of dims chunk.at.items shared.at near sized.0 shared.second ∙ sym (core_of dims k shared.at near l shared.first))
