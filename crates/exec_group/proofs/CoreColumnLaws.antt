-- The cells of a chunk's core, by their places.
use Rattle.std.proofs.Common.{◌≡◌, ℕ, ◌+◌, ◌<◌, ◌≤◌, ℤ, pos, Bool, List, [], ◌∷◌, ◌++◌, length, get_or, take, map, Option, Result, refl, sym, ap, ◌∙◌, arith}
use Rattle.std.proofs.lemmas.List.{map-append, take_more}
use Rattle.std.specs.Prelude.{IfOk, IfSome}
use Rattle.cell_values.specs.declared.datum.Cell.{Cell}
use Rattle.cell_values.specs.declared.datum.Row.{Row}
use Rattle.cell_values.specs.declared.memory.Memory.{Memory}
use Rattle.cell_values.specs.declared.schema.Bounds.{Bounds}
use Rattle.array_rows.specs.Boxes.{is_inside}
use Rattle.array_geom.specs.Geometry.{coordinate_in}
use Rattle.array_geom.specs.Link.{rows_in}
use Rattle.logical_plan.specs.declared.parts.Aggregate.{Aggregate}
use Rattle.logical_plan.specs.Groups.{cells_of}
use Rattle.group_rows.specs.declared.rows.groups.Groups.{Groups}
use Rattle.group_rows.specs.Grouped.{AreGroupsOf}
use Rattle.group_rows.specs.Inner.Columns.{are_inside}
use Rattle.group_rows.specs.Inner.Keys.{aggregate_sets}
use Rattle.group_rows.specs.Sets.{one_set, sets_by}
use Rattle.logical_plan.specs.BoxOps.{numbers_at}
use Rattle.std.specs.List.{AllByRecursion}

pub cells_again : (low : List ℤ) (lengths positions : List ℕ) (cells : List Cell) → length cells ≡ length positions → cells_of (rows_in low lengths positions cells) ≡ cells
cells_again low lengths [] [] e = refl
cells_again low lengths [] (cell ∷ cells) e = absurd (omega (arith, e))
cells_again low lengths (p ∷ positions) [] e = absurd (omega (arith, e))
cells_again low lengths (p ∷ positions) (cell ∷ cells) e = ap (λ (cs : List Cell). cell ∷ cs) (cells_again low lengths positions cells (omega (arith, e)))

-- whether the rows at places stand in an area
pub rows_inside : (area : Bounds) (low : List ℤ) (lengths positions : List ℕ) (cells : List Cell) → length cells ≡ length positions
    → are_inside area (rows_in low lengths positions cells) ≡ map (λ p. is_inside area (coordinate_in low lengths p)) positions
rows_inside area low lengths [] cells e = refl
rows_inside area low lengths (p ∷ positions) [] e = absurd (omega (arith, e))
rows_inside area low lengths (p ∷ positions) (cell ∷ cells) e =
    ap (λ (bs : List Bool). is_inside area (coordinate_in low lengths p) ∷ bs) (rows_inside area low lengths positions cells (omega (arith, e)))

pub next_place : (f : ℕ → Bool) (positions : List ℕ) (i : ℕ) (old new : List Bool) (b : Bool) → i < length positions → old ≡ map f (take i positions) → b ≡ f (get_or positions i 0) → new ≡ old ++ b ∷ []
    → new ≡ map f (take (i + 1) positions)
next_place f positions i old new b l h e n =
    n
    ∙ (λ j. h j ++ e j ∷ [])
    ∙ sym (map-append f (take i positions) (get_or positions i 0 ∷ []))
    ∙ ap (map f) (sym (take_more positions i 0 l))

-- without names all cells of the core are in one group
pub one_in_core : (places : List ℕ) (gs : List Aggregate) (rows : List Row) (r : Result (Option Groups) Memory) → length places < 1
    → IfOk r (λ found. IfSome found (λ part. AreGroupsOf gs (one_set (pos 0 ∷ []) rows) part.groups)) → IfOk r (λ found. IfSome found (λ part. AreGroupsOf gs (aggregate_sets places rows) part.groups))
one_in_core [] gs rows r l h = h
one_in_core (place ∷ places) gs rows r l h = absurd (omega (arith, l))

-- with names they are in the groups of these
pub named_sets : (places : List ℕ) (rows : List Row) → 1 ≤ length places → sets_by (numbers_at places) rows ≡ aggregate_sets places rows
named_sets [] rows l = absurd (omega (arith, l))
named_sets (place ∷ places) rows l = refl

pub all_weaker : {A : Type 0} (P Q : A → Type 0) (xs : List A) → ((x : A) → P x → Q x) → AllByRecursion P xs → AllByRecursion Q xs
all_weaker P Q [] f h = tt
all_weaker P Q (x ∷ xs) f h = (f x h.0, all_weaker P Q xs f h.1)
