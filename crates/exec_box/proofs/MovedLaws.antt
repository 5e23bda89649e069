-- Rows at other coordinates, in the same order.
use Rattle.std.proofs.Common.{◌≡◌, Bool, true, false, cond, List, [], ◌∷◌, map, refl, ◌∙◌}
use Rattle.std.specs.List.{AllByRecursion}
use Rattle.cell_values.specs.declared.datum.Row.{Row}
use Rattle.array_rows.specs.Boxes.{moved}
use Rattle.array_rows.specs.Rows.{Coordinate, row_major, IsBefore, IsRising, rows_where}

-- coordinates that hold a fact are moved in their order
abbrev pub KeepsOrder : (Coordinate → Type 0) → (Coordinate → Coordinate) → Type 0
KeepsOrder P to = (a b : Coordinate) → P a → P b → row_major (to a) (to b) ≡ row_major a b

abbrev pub AllAt : (Coordinate → Type 0) → List Row → Type 0
AllAt P rows = AllByRecursion (λ row. P row.at.items) rows

before_moved : (P : Coordinate → Type 0) (to : Coordinate → Coordinate) → KeepsOrder P to → (a : Coordinate) (rows : List Row) → P a → AllAt P rows → IsBefore a rows → IsBefore (to a) (map (moved to) rows)
before_moved P to h a [] p ps b = tt
before_moved P to h a (row ∷ rows) p ps b = (h a row.at.items p ps.0 ∙ b.0, before_moved P to h a rows p ps.1 b.1)

pub rising_moved : (P : Coordinate → Type 0) (to : Coordinate → Coordinate) → KeepsOrder P to → (rows : List Row) → AllAt P rows → IsRising rows → IsRising (map (moved to) rows)
rising_moved P to h [] ps r = tt
rising_moved P to h (row ∷ rows) ps r = (before_moved P to h row.at.items rows ps.0 ps.1 r.0, rising_moved P to h rows ps.1 r.1)

pub all_moved : (P Q : Row → Type 0) (to : Coordinate → Coordinate) → ((row : Row) → P row → Q (moved to row)) → (rows : List Row) → AllByRecursion P rows → AllByRecursion Q (map (moved to) rows)
all_moved P Q to h [] ps = tt
all_moved P Q to h (row ∷ rows) ps = (h row ps.0, all_moved P Q to h rows ps.1)

-- rows are moved alike by functions that agree at their coordinates
pub moved_alike : (P : Coordinate → Type 0) (f g : Coordinate → Coordinate) → ((c : Coordinate) → P c → f c ≡ g c) → (rows : List Row) → AllAt P rows → map (moved f) rows ≡ map (moved g) rows
moved_alike P f g h [] ps = refl
moved_alike P f g h (row ∷ rows) ps = λ i. record { at = record { items = h row.at.items ps.0 i }; cell = row.cell } ∷ moved_alike P f g h rows ps.1 i

pub all_where : (P : Row → Type 0) (test : Coordinate → Bool) (rows : List Row) → AllByRecursion P rows → AllByRecursion P (rows_where test rows)
all_where P test [] ps = tt
all_where P test (row ∷ rows) ps = keep (test row.at.items) (all_where P test rows ps.1)
  where
    keep : (t : Bool) → AllByRecursion P (rows_where test rows) → AllByRecursion P (cond t (row ∷ rows_where test rows) (rows_where test rows))
    keep true r = (ps.0, r)
    keep false r = r

-- rows that pass a test
pub passing : (test : Coordinate → Bool) (rows : List Row) → AllAt (λ c. test c ≡ true) (rows_where test rows)
passing test [] = tt
passing test (row ∷ rows) = keep (test row.at.items) refl (passing test rows)
  where
    keep : (t : Bool) → test row.at.items ≡ t → AllAt (λ c. test c ≡ true) (rows_where test rows) → AllAt (λ c. test c ≡ true) (cond t (row ∷ rows_where test rows) (rows_where test rows))
    keep true e r = (e, r)
    keep false e r = r
