-- What holds of all rows of a list, through operators on lists of rows.
use Rattle.std.proofs.Common.{◌≡◌, Bool, true, false, List, [], ◌∷◌, map, filter, cond, refl}
use Rattle.std.specs.List.{AllByRecursion}
use Rattle.std.specs.declared.cmp.Ordering.{Ordering}
use Rattle.std.specs.declared.cmp.Ordering.TheVariants.{Less, Equal, Greater}
use Rattle.cell_values.specs.declared.datum.Row.{Row}
use Rattle.array_rows.specs.Rows.{row_major, put_by, put_row, in_order}
use Rattle.logical_plan.proofs.BuiltRows.{all-map, all-each}

pub all_where : {A : Type 0} (P : A → Type 0) (test : A → Bool) (xs : List A) → AllByRecursion P xs → AllByRecursion P (filter test xs)
all_where P test [] ps = tt
all_where {A = A} P test (x ∷ xs) ps = by_test (test x) (all_where P test xs ps.1)
  where
    by_test : (b : Bool) → AllByRecursion P (filter test xs) → AllByRecursion P (cond b (x ∷ filter test xs) (filter test xs))
    by_test true ih = (ps.0, ih)
    by_test false ih = ih

-- rows that pass a test
pub all_tested : {A : Type 0} (test : A → Bool) (xs : List A) → AllByRecursion (λ x. test x ≡ true) (filter test xs)
all_tested test [] = tt
all_tested {A = A} test (x ∷ xs) = by_test (test x) refl (all_tested test xs)
  where
    by_test : (b : Bool) → test x ≡ b → AllByRecursion (λ z. test z ≡ true) (filter test xs) → AllByRecursion (λ z. test z ≡ true) (cond b (x ∷ filter test xs) (filter test xs))
    by_test true e ih = (e, ih)
    by_test false e ih = ih

all_put : (P : Row → Type 0) (new : Row) (rows : List Row) → P new → AllByRecursion P rows → AllByRecursion P (put_row new rows)
all_put P new [] p ps = (p, tt)
all_put P new (row ∷ rows) p ps = cases (row_major new.at.items row.at.items) (all_put P new rows p ps.1)
  where
    cases : (o : Ordering) → AllByRecursion P (put_row new rows) → AllByRecursion P (put_by o new row rows (put_row new rows))
    cases Less more = (p, ps)
    cases Equal more = (p, ps.1)
    cases Greater more = (ps.0, more)

pub all_in_order : (P : Row → Type 0) (rows : List Row) → AllByRecursion P rows → AllByRecursion P (in_order rows)
all_in_order P [] ps = tt
all_in_order P (row ∷ rows) ps = all_put P row (in_order rows) ps.0 (all_in_order P rows ps.1)

-- rows that are made, and put in order
pub each_made : {A : Type 0} (P : Row → Type 0) (f : A → Row) → ((x : A) → P (f x)) → (xs : List A) → AllByRecursion P (in_order (map f xs))
each_made P f h xs = all_in_order P (map f xs) (all-map P f xs (all-each (λ x. P (f x)) h xs))
