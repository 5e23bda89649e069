-- The first fault of rows that are put into others.
use Rattle.std.proofs.Common.{◌≡◌, Bool, true, false, cond, List, [], ◌∷◌, Option, Some, None, refl, sym, ap, ◌∙◌}
use Rattle.std.specs.Option.{option_or, option_map}
use Rattle.std.specs.declared.cmp.Ordering.{Ordering}
use Rattle.std.specs.declared.cmp.Ordering.TheVariants.{Less, Equal, Greater}
use Rattle.std.specs.Ordering.{is_lt, is_gt, ordering_reverse}
use Rattle.std.proofs.lemmas.Cmp.{upto}
use Rattle.cell_values.specs.declared.datum.Broken.{Broken}
use Rattle.cell_values.specs.declared.datum.FaultKind.{FaultKind}
use Rattle.cell_values.specs.declared.datum.Row.{Row}
use Rattle.array_rows.specs.Rows.{Coordinate, row_major, IsBefore, IsRising, cell_at, put_by, put_row, put_all}
use Rattle.array_rows.proofs.RowsLemmas.{row_major_total, IsBefore-trans}
use Rattle.array_rows.proofs.RowSets.{IsRising-put_all}
use Rattle.logical_plan.specs.declared.parts.Aggregate.{Aggregate}
use Rattle.logical_plan.specs.Groups.{fault_for, first_some, cells_of}
use Rattle.agg_states.specs.Merged.{earlier}
use Rattle.agg_states.specs.Stands.{fault_at, AreApart}
use Rattle.agg_states.proofs.Unions.{empty_behind, empty_apart, free_in_union}

lt_back : (a b : Coordinate) → is_lt (row_major a b) ≡ is_gt (row_major b a)
lt_back a b = ap is_lt (row_major_total.antisymm a b) ∙ turned (row_major b a)
  where
    turned : (o : Ordering) → is_lt (ordering_reverse o) ≡ is_gt o
    turned Less = refl
    turned Equal = refl
    turned Greater = refl

not_before-trans : (a b c : Coordinate) → is_lt (row_major b a) ≡ false → is_lt (row_major c b) ≡ false → is_lt (row_major c a) ≡ false
not_before-trans a b c p q = lt_back c a ∙ upto row_major_total a b c (sym (lt_back b a) ∙ p) (sym (lt_back c b) ∙ q)

is_less : (o : Ordering) → is_lt o ≡ true → o ≡ Less
is_less Less e = refl
is_less Equal e = cc
is_less Greater e = cc

before-trans : (a b c : Coordinate) → is_lt (row_major b a) ≡ true → is_lt (row_major c b) ≡ true → is_lt (row_major c a) ≡ true
before-trans a b c p q = ap is_lt (row_major_total.trans c b a (is_less _ q) (is_less _ p))

earlier_assoc : (x y z : Option Broken) → earlier (earlier x y) z ≡ earlier x (earlier y z)
earlier_assoc None y z = refl
earlier_assoc (Some a) None z = refl
earlier_assoc (Some a) (Some b) None = none (is_lt (row_major b.at.items a.at.items))
  where
    none : (t : Bool) → earlier (cond t (Some b) (Some a)) None ≡ cond t (Some b) (Some a)
    none true = refl
    none false = refl
earlier_assoc (Some a) (Some b) (Some c) = tests (is_lt (row_major b.at.items a.at.items)) (is_lt (row_major c.at.items b.at.items)) refl refl
  where
    tests : (t u : Bool) → is_lt (row_major b.at.items a.at.items) ≡ t → is_lt (row_major c.at.items b.at.items) ≡ u → earlier (cond t (Some b) (Some a)) (Some c) ≡ earlier (Some a) (cond u (Some c) (Some b))
    tests true true p q = ap (λ v. cond v (Some c) (Some b)) q ∙ ap (λ v. cond v (Some c) (Some a)) (sym (before-trans a.at.items b.at.items c.at.items p q))
    tests true false p q = ap (λ v. cond v (Some c) (Some b)) q ∙ ap (λ v. cond v (Some b) (Some a)) (sym p)
    tests false true p q = refl
    tests false false p q = ap (λ v. cond v (Some c) (Some a)) (not_before-trans a.at.items b.at.items c.at.items p q) ∙ ap (λ v. cond v (Some b) (Some a)) (sym p)

-- a coordinate that comes before rows comes before their first fault
behind_bound : (g : Aggregate) (a : Coordinate) (rows : List Row) → IsBefore a rows → (broken : Broken) → first_some (fault_at g) rows ≡ Some broken → row_major a broken.at.items ≡ Less
behind_bound g a [] b broken e = cc
behind_bound g a (row ∷ rows) b broken e = cases (fault_for g.function g.attribute row.cell) (behind_bound g a rows b.1 broken) e
  where
    cases : (o : Option FaultKind) → (first_some (fault_at g) rows ≡ Some broken → row_major a broken.at.items ≡ Less) → option_or (option_map (λ kind. record { at = row.at; kind = kind }) o) (first_some (fault_at g) rows) ≡ Some broken → row_major a broken.at.items ≡ Less
    cases None ih f = ih f
    cases (Some kind) ih f = ap (λ o. row_major a (place o)) (sym f) ∙ b.0
      where
        place : Option Broken → Coordinate
        place None = a
        place (Some x) = x.at.items

-- the first of rising rows has the first fault, if it has one
pub first_stays : (g : Aggregate) (new : Row) (rows : List Row) → IsBefore new.at.items rows → option_or (fault_at g new) (first_some (fault_at g) rows) ≡ earlier (fault_at g new) (first_some (fault_at g) rows)
first_stays g new rows b = cases (fault_for g.function g.attribute new.cell) (first_some (fault_at g) rows) refl
  where
    cases : (o : Option FaultKind) (later : Option Broken) → first_some (fault_at g) rows ≡ later → option_or (option_map (λ kind. record { at = new.at; kind = kind }) o) later ≡ earlier (option_map (λ kind. record { at = new.at; kind = kind }) o) later
    cases None later e = refl
    cases (Some kind) None e = refl
    cases (Some kind) (Some broken) e =
        ap (λ t. cond (is_lt t) (Some broken) (Some (record { at = new.at; kind = kind })))
        (sym (row_major_total.antisymm broken.at.items new.at.items ∙ ap ordering_reverse (behind_bound g new.at.items rows b broken e)))

-- the first fault with a new row is the earlier one of the row's and the others'
pub fault-put_row : (g : Aggregate) (new : Row) (rows : List Row) → IsRising rows → cell_at rows new.at.items ≡ None → first_some (fault_at g) (put_row new rows) ≡ earlier (fault_at g new) (first_some (fault_at g) rows)
fault-put_row g new [] r e = first_stays g new [] tt
fault-put_row g new (row ∷ rows) r e =
    cases (row_major new.at.items row.at.items) refl (fault-put_row g new rows r.1 (empty_behind (row_major row.at.items new.at.items) row.cell (cell_at rows new.at.items) e))
  where
    after : row_major new.at.items row.at.items ≡ Greater → (o k : Option FaultKind) → option_or (option_map (λ kind. record { at = row.at; kind = kind }) o) (earlier (option_map (λ kind. record { at = new.at; kind = kind }) k) (first_some (fault_at g) rows)) ≡ earlier (option_map (λ kind. record { at = new.at; kind = kind }) k) (option_or (option_map (λ kind. record { at = row.at; kind = kind }) o) (first_some (fault_at g) rows))
    after t None k = refl
    after t (Some kind) None = refl
    after t (Some kind) (Some other) =
        ap (λ u. cond (is_lt u) (Some (record { at = row.at; kind = kind })) (Some (record { at = new.at; kind = other })))
        (sym (row_major_total.antisymm row.at.items new.at.items ∙ ap ordering_reverse t))

    cases : (t : Ordering) → row_major new.at.items row.at.items ≡ t → first_some (fault_at g) (put_row new rows) ≡ earlier (fault_at g new) (first_some (fault_at g) rows) → first_some (fault_at g) (put_by t new row rows (put_row new rows)) ≡ earlier (fault_at g new) (first_some (fault_at g) (row ∷ rows))
    cases Less t ih = first_stays g new (row ∷ rows) (t, IsBefore-trans new.at.items row.at.items rows t r.0)
    cases Equal t ih = absurd (empty_apart (row_major row.at.items new.at.items) row.cell (cell_at rows new.at.items) e (row_major_total.antisymm row.at.items new.at.items ∙ ap ordering_reverse t))
    cases Greater t ih =
        ap (option_or (fault_at g row)) ih ∙ after t (fault_for g.function g.attribute row.cell) (fault_for g.function g.attribute new.cell)

pub fault-put_all : (g : Aggregate) (a b : List Row) → IsRising a → IsRising b → AreApart a b → first_some (fault_at g) (put_all a b) ≡ earlier (first_some (fault_at g) a) (first_some (fault_at g) b)
fault-put_all g [] b r s h = refl
fault-put_all g (row ∷ a) b r s h =
    fault-put_row g row (put_all a b) (IsRising-put_all a b s) (free_in_union row a b r h)
    ∙ ap (earlier (fault_at g row)) (fault-put_all g a b r.1 s h.1)
    ∙ sym (earlier_assoc (fault_at g row) (first_some (fault_at g) a) (first_some (fault_at g) b))
    ∙ ap (λ o. earlier o (first_some (fault_at g) b)) (sym (first_stays g row a r.0))

-- the kind of the first fault does not need the coordinates
pub fault_kind : (g : Aggregate) (rows : List Row) → first_some (fault_for g.function g.attribute) (cells_of rows) ≡ option_map (λ broken. broken.kind) (first_some (fault_at g) rows)
fault_kind g [] = refl
fault_kind g (row ∷ rows) = cases (fault_for g.function g.attribute row.cell) (fault_kind g rows)
  where
    cases : (o : Option FaultKind) → first_some (fault_for g.function g.attribute) (cells_of rows) ≡ option_map (λ broken. broken.kind) (first_some (fault_at g) rows)
        → option_or o (first_some (fault_for g.function g.attribute) (cells_of rows)) ≡ option_map (λ broken. broken.kind) (option_or (option_map (λ kind. record { at = row.at; kind = kind }) o) (first_some (fault_at g) rows))
    cases None ih = ih
    cases (Some kind) ih = refl
