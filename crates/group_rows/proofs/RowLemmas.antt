-- Rows one after the other.
use Rattle.std.proofs.Common.{◌≡◌, List, [], ◌∷◌, ◌++◌, cond, Some, None, refl, ap, ◌∙◌}
use Rattle.std.specs.List.{AllByRecursion}
use Rattle.std.specs.Option.{option_or}
use Rattle.std.specs.Ordering.{is_eq, ordering_reverse}
use Rattle.std.specs.declared.cmp.Ordering.{Ordering}
use Rattle.std.specs.declared.cmp.Ordering.TheVariants.{Less, Equal, Greater}
use Rattle.cell_values.specs.declared.datum.Row.{Row}
use Rattle.array_rows.specs.Rows.{Coordinate, row_major, IsBefore, IsRising, cell_at, put_by, put_row, put_all}
use Rattle.array_rows.proofs.RowsLemmas.{row_major_total, none_at_bound}
use Rattle.array_rows.proofs.RowSets.{cell_at-put_all}
use Rattle.agg_states.specs.Stands.{AreApart}

pub all_left : {A : Type 0} (P : A → Type 0) (a b : List A) → AllByRecursion P (a ++ b) → AllByRecursion P a
all_left P [] b h = tt
all_left P (x ∷ a) b h = (h.0, all_left P a b h.1)

pub all_right : {A : Type 0} (P : A → Type 0) (a b : List A) → AllByRecursion P (a ++ b) → AllByRecursion P b
all_right P [] b h = h
all_right P (x ∷ a) b h = all_right P a b h.1

pub turned : (a b : Coordinate) → row_major a b ≡ Less → row_major b a ≡ Greater
turned a b e = row_major_total.antisymm b a ∙ ap ordering_reverse e

pub turned_back : (a b : Coordinate) → row_major a b ≡ Greater → row_major b a ≡ Less
turned_back a b e = row_major_total.antisymm b a ∙ ap ordering_reverse e

-- a row that comes after the others is put at their end, where there was none
pub put_last : (rows : List Row) (x : Row) → IsRising (rows ++ x ∷ []) → put_row x rows ≡ rows ++ x ∷ []
put_last [] x r = refl
put_last (y ∷ rows) x r =
    ap (λ (o : Ordering). put_by o x y rows (put_row x rows)) (turned y.at.items x.at.items (all_right (λ (row : Row). row_major y.at.items row.at.items ≡ Less) rows (x ∷ []) r.0).0)
    ∙ ap (λ (zs : List Row). y ∷ zs) (put_last rows x r.1)

pub free_last : (rows : List Row) (x : Row) → IsRising (rows ++ x ∷ []) → cell_at rows x.at.items ≡ None
free_last [] x r = refl
free_last (y ∷ rows) x r =
    ap (λ (o : Ordering). cond (is_eq o) (Some y.cell) (cell_at rows x.at.items)) (all_right (λ (row : Row). row_major y.at.items row.at.items ≡ Less) rows (x ∷ []) r.0).0
    ∙ free_last rows x r.1

pub rising_left : (a b : List Row) → IsRising (a ++ b) → IsRising a
rising_left [] b r = tt
rising_left (x ∷ a) b r = (all_left (λ (row : Row). row_major x.at.items row.at.items ≡ Less) a b r.0, rising_left a b r.1)

pub rising_right : (a b : List Row) → IsRising (a ++ b) → IsRising b
rising_right [] b r = r
rising_right (x ∷ a) b r = rising_right a b r.1

pub put_before : (x : Row) (rows : List Row) → IsBefore x.at.items rows → put_row x rows ≡ x ∷ rows
put_before x [] h = refl
put_before x (y ∷ rows) h = ap (λ (o : Ordering). put_by o x y rows (put_row x rows)) h.0

-- rows of which all of the first come before all of the second
pub put_all_joined : (a b : List Row) → IsRising (a ++ b) → put_all a b ≡ a ++ b
put_all_joined [] b r = refl
put_all_joined (x ∷ a) b r = ap (put_row x) (put_all_joined a b r.1) ∙ put_before x (a ++ b) r.0

pub joined_apart : (a b : List Row) → IsRising (a ++ b) → AreApart a b
joined_apart [] b r = tt
joined_apart (x ∷ a) b r = (none_at_bound x.at.items b (all_right (λ (row : Row). row_major x.at.items row.at.items ≡ Less) a b r.0), joined_apart a b r.1)

-- ---- sets that are apart

pub all_put_row : (P : Row → Type 0) (new : Row) (rows : List Row) → P new → AllByRecursion P rows → AllByRecursion P (put_row new rows)
all_put_row P new [] p a = (p, tt)
all_put_row P new (row ∷ rows) p a = cases (row_major new.at.items row.at.items) (all_put_row P new rows p a.1)
  where
    cases : (t : Ordering) → AllByRecursion P (put_row new rows) → AllByRecursion P (put_by t new row rows (put_row new rows))
    cases Less r = (p, a)
    cases Equal r = (p, a.1)
    cases Greater r = (a.0, r)

pub all_put_all : (P : Row → Type 0) (a b : List Row) → AllByRecursion P a → AllByRecursion P b → AllByRecursion P (put_all a b)
all_put_all P [] b p q = q
all_put_all P (row ∷ a) b p q = all_put_row P row (put_all a b) p.0 (all_put_all P a b p.1 q)

pub both_apart : (a b c : List Row) → AreApart a c → AreApart b c → AreApart (put_all a b) c
both_apart a b c p q = all_put_all (λ row. cell_at c row.at.items ≡ None) a b p q

pub apart_both : (a b c : List Row) → AreApart a b → AreApart a c → AreApart a (put_all b c)
apart_both [] b c p q = tt
apart_both (row ∷ a) b c p q =
    (cell_at-put_all b c row.at.items ∙ ap (λ o. option_or o (cell_at c row.at.items)) p.0 ∙ q.0, apart_both a b c p.1 q.1)
