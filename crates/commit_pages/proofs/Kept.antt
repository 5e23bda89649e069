-- What is kept of the newest version where cells are put into it.
use Rattle.std.proofs.Common.{◌≡◌, ◌∙◌, Bool, true, false, cond, ◌&&◌, ◌||◌, List, [], ◌∷◌, length, refl, sym, ap}
use Rattle.std.specs.declared.cmp.Ordering.{Ordering}
use Rattle.std.specs.declared.cmp.Ordering.TheVariants.{Less, Equal, Greater}
use Rattle.cell_values.specs.declared.datum.Row.{Row}
use Rattle.cell_values.specs.declared.schema.Dimension.{Dimension}
use Rattle.array_rows.specs.Boxes.{is_inside, within}
use Rattle.array_rows.specs.Rows.{IsRising, row_major, put_by, put_row, put_all}
use Rattle.array_rows.proofs.RowSets.{rows_where-put_all}
use Rattle.array_geom.specs.Geometry.{ChunkNumber, core, frame, overlaps}
use Rattle.array_geom.specs.Link.{is_not_empty, has_cell}
use Rattle.array_geom.proofs.CoreLaws.{core_in_frame}
use Rattle.commit_pages.specs.Lengths.{meets}

put_is_some : (x : Row) (rows : List Row) → is_not_empty (put_row x rows) ≡ true
put_is_some x [] = refl
put_is_some x (row ∷ rows) = by_order (row_major x.at.items row.at.items)
  where
    by_order : (t : Ordering) → is_not_empty (put_by t x row rows (put_row x rows)) ≡ true
    by_order Less = refl
    by_order Equal = refl
    by_order Greater = refl

all_put_some : (a b : List Row) → is_not_empty b ≡ true → is_not_empty (put_all a b) ≡ true
all_put_some [] b e = e
all_put_some (x ∷ a) b e = put_is_some x (put_all a b)

put_in_core : (dims : List Dimension) (k : ChunkNumber) (input rows : List Row) → IsRising rows
    → has_cell dims (put_all input rows) k ≡ is_not_empty (put_all (within (core dims k) input) (within (core dims k) rows))
put_in_core dims k input rows rise = ap is_not_empty (rows_where-put_all (is_inside (core dims k)) input rows rise)

-- a chunk that held a cell still does
pub still_has : (dims : List Dimension) (k : ChunkNumber) (input rows : List Row) → IsRising rows → has_cell dims rows k ≡ true → has_cell dims (put_all input rows) k ≡ true
still_has dims k input rows rise e = put_in_core dims k input rows rise ∙ all_put_some (within (core dims k) input) (within (core dims k) rows) e

none_in_core : (dims : List Dimension) (k : ChunkNumber) → length (overlaps dims) ≡ length dims → (rows : List Row) → is_not_empty (within (frame dims (overlaps dims) k) rows) ≡ false → within (core dims k) rows ≡ []
none_in_core dims k len [] e = refl
none_in_core dims k len (row ∷ rows) e =
    by_tests (is_inside (frame dims (overlaps dims) k) row.at.items) (is_inside (core dims k) row.at.items) refl refl e (none_in_core dims k len rows)
  where
    by_tests : (b c : Bool) → is_inside (frame dims (overlaps dims) k) row.at.items ≡ b → is_inside (core dims k) row.at.items ≡ c
        → is_not_empty (cond b (row ∷ within (frame dims (overlaps dims) k) rows) (within (frame dims (overlaps dims) k) rows)) ≡ false
        → (is_not_empty (within (frame dims (overlaps dims) k) rows) ≡ false → within (core dims k) rows ≡ [])
        → cond c (row ∷ within (core dims k) rows) (within (core dims k) rows) ≡ []
    by_tests true c f g none later = absurd (not_both true refl none)
      where
        not_both : (b : Bool) → b ≡ true → b ≡ false → ⊥
        not_both b p q = cc
    by_tests false true f g none later = absurd (let inside : is_inside (frame dims (overlaps dims) k) row.at.items ≡ true = core_in_frame dims (overlaps dims) k row.at.items len g in cc)
    by_tests false false f g none later = later none

-- a chunk whose frame meets no cell that is put in holds a cell just where it did
pub has_as_before : (dims : List Dimension) (k : ChunkNumber) (input rows : List Row) → length (overlaps dims) ≡ length dims → IsRising rows → meets dims input k ≡ false
    → has_cell dims (put_all input rows) k ≡ has_cell dims rows k
has_as_before dims k input rows len rise e =
    put_in_core dims k input rows rise
    ∙ ap (λ (part : List Row). is_not_empty (put_all part (within (core dims k) rows))) (none_in_core dims k len input e)

pub frame_is_empty : (part : List Row) → is_not_empty part ≡ false → part ≡ []
frame_is_empty [] e = refl
frame_is_empty (row ∷ part) e = absurd cc

-- the chunks that are written and those that there were are those that there are
pub both_listed : (now before met : Bool) → (before ≡ true → now ≡ true) → (met ≡ false → now ≡ before) → ((now && met) || before) ≡ now
both_listed true before true f g = refl
both_listed true before false f g = sym (g refl)
both_listed false true met f g = absurd (let wrong = f refl in cc)
both_listed false false met f g = refl

-- what there was and isn't written meets none
pub not_met : (now met : Bool) → now ≡ true → (now && met) ≡ false → met ≡ false
not_met true met e f = f
not_met false met e f = absurd cc
