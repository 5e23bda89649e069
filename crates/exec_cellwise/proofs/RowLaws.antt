-- The rows of boxes, and cells at the places of a grid.
use Rattle.std.proofs.Common.{◌≡◌, ℕ, ◌+◌, ◌-◌, ◌<◌, ◌≤◌, ℤ, pos, ◌+ℤ◌, Bool, true, false, cond, List, [], ◌∷◌, ◌++◌, map, length, take, drop, slice_index_or, refl, sym, ap, ◌∙◌, subst, arith, append_assoc, length-append}
use Rattle.std.specs.Prelude.{filter, OnOk, Result, Ok, Err}
use Rattle.std.specs.List.{AllByRecursion, flat_map}
use Rattle.std.proofs.lemmas.List.{append-nil, map-append, take_all}
use Rattle.exec_cellwise.proofs.BuiltRows.{grown}
use Rattle.cell_values.specs.declared.datum.Cell.{Cell}
use Rattle.cell_values.specs.declared.datum.Row.{Row}
use Rattle.cell_values.specs.declared.datum.Datum.{Datum}
use Rattle.cell_values.specs.declared.datum.Cell.TheVariants.{Full}
use Rattle.cell_values.specs.declared.schema.Attribute.{Attribute}
use Rattle.cell_values.specs.declared.schema.Dimension.{Dimension}
use Rattle.cell_values.specs.declared.schema.Schema.{Schema}
use Rattle.array_rows.specs.Rows.{Coordinate, placed, rows_where}
use Rattle.array_rows.specs.Cellwise.{cell_wise}
use Rattle.array_rows.specs.Boxes.{by_pairs, is_between}
use Rattle.array_geom.specs.Geometry.{coordinate_in, position_in, volume}
use Rattle.array_geom.specs.Link.{rows_in}
use Rattle.array_geom.specs.Inner.Ranges.{is_in_grid}
use Rattle.array_geom.specs.declared.chunk.Chunk.{Chunk}
use Rattle.array_geom.proofs.PlaceLaws.{coordinate_again, position_below}
use Rattle.expr_nulls.specs.Expr.{Expr}
use Rattle.expr_nulls.specs.ExprValue.{value_of}
use Rattle.logical_plan.specs.CellOps.{fit_cell}
use Rattle.logical_plan.specs.Meaning.{built_rows, coordinates, count_from, how_many}
use Rattle.exec_cellwise.specs.Inner.Rows.{built_row}
use Rattle.exec_cellwise.specs.Inner.Walks.{coordinates_between, rows_between, Holds, TakesRows}

-- ---- rows of a box

module _ (row : Coordinate → Row) where
  abbrev onto : Coordinate → List Coordinate → List Row
  onto at cs = map (λ c. row (at ++ c)) cs

  under_one : (at : Coordinate) (x : ℤ) (cs : List Coordinate) → onto (at ++ x ∷ []) cs ≡ onto at (map (λ c. x ∷ c) cs)
  under_one at x [] = refl
  under_one at x (c ∷ cs) = ap (λ d. row d ∷ onto (at ++ x ∷ []) cs) (append_assoc at (x ∷ []) c) ∙ ap (λ l. row (at ++ x ∷ c) ∷ l) (under_one at x cs)

  under_all : (at : Coordinate) (f : ℤ → List Row) (cs : List Coordinate) (xs : List ℤ) → ((x : ℤ) → f x ≡ onto (at ++ x ∷ []) cs) → flat_map f xs ≡ onto at (flat_map (λ x. map (λ c. x ∷ c) cs) xs)
  under_all at f cs [] h = refl
  under_all at f cs (x ∷ xs) h =
      ap (λ l. l ++ flat_map f xs) (h x ∙ under_one at x cs) ∙ ap (λ l. onto at (map (λ c. x ∷ c) cs) ++ l) (under_all at f cs xs h)
      ∙ sym (map-append (λ c. row (at ++ c)) (map (λ c. x ∷ c) cs) (flat_map (λ y. map (λ c. y ∷ c) cs) xs))

  pub between_is : (at : Coordinate) (lo hi : List ℤ) → rows_between row at lo hi ≡ onto at (coordinates_between lo hi)
  between_is at [] [] = ap (λ c. row c ∷ []) (sym (append-nil at))
  between_is at [] (h ∷ hi) = refl
  between_is at (l ∷ lo) [] = refl
  between_is at (l ∷ lo) (h ∷ hi) = under_all at (λ x. rows_between row (at ++ x ∷ []) lo hi) (coordinates_between lo hi) (count_from l (how_many l h)) (λ x. between_is (at ++ x ∷ []) lo hi)

fit_all : (attributes : List Attribute) (e : Expr) (cs : List Coordinate) → cell_wise (fit_cell attributes) (map (λ c. placed c (Full (value_of e c [] ∷ []))) cs) ≡ map (built_row attributes e) cs
fit_all attributes e [] = refl
fit_all attributes e (c ∷ cs) = ap (λ l. built_row attributes e c ∷ l) (fit_all attributes e cs)

all_between : (dims : List Dimension) → coordinates dims ≡ coordinates_between (map (λ d. d.lo) dims) (map (λ d. d.hi) dims)
all_between [] = refl
all_between (d ∷ dims) = ap (λ (cs : List Coordinate). flat_map (λ x. map (λ c. x ∷ c) cs) (count_from d.lo (how_many d.lo d.hi))) (all_between dims)

pub built_between : (schema : Schema) (e : Expr) → built_rows schema e ≡ map (built_row schema.attributes e) (coordinates_between (map (λ d. d.lo) schema.dimensions) (map (λ d. d.hi) schema.dimensions))
built_between schema e = fit_all schema.attributes e (coordinates schema.dimensions) ∙ ap (map (built_row schema.attributes e)) (all_between schema.dimensions)

pub rows_filter : (attributes : List Attribute) (e : Expr) (test : Coordinate → Bool) (cs : List Coordinate) → rows_where test (map (built_row attributes e) cs) ≡ map (built_row attributes e) (filter test cs)
rows_filter attributes e test [] = refl
rows_filter attributes e test (c ∷ cs) =
    ap (λ (l : List Row). cond (test c) (built_row attributes e c ∷ l) l) (rows_filter attributes e test cs) ∙ cases (test c)
  where
    cases : (t : Bool) → cond t (built_row attributes e c ∷ map (built_row attributes e) (filter test cs)) (map (built_row attributes e) (filter test cs)) ≡ map (built_row attributes e) (cond t (c ∷ filter test cs) (filter test cs))
    cases true = refl
    cases false = refl

-- ---- cells of a chunk

pub all_push : {X : Type 0} (P : X → Type 0) (xs : List X) (x : X) → AllByRecursion P xs → P x → AllByRecursion P (xs ++ x ∷ [])
all_push P [] x a p = (p, tt)
all_push P (y ∷ ys) x a p = (a.0, all_push P ys x a.1 p)

by_pairs-push : {A B C : Type 0} (f : A → B → C) (xs : List A) (ys : List B) (x : A) (y : B) → length ys ≡ length xs → by_pairs f (xs ++ x ∷ []) (ys ++ y ∷ []) ≡ by_pairs f xs ys ++ f x y ∷ []
by_pairs-push f [] [] x y e = refl
by_pairs-push f [] (b ∷ ys) x y e = absurd (omega arith)
by_pairs-push f (a ∷ xs) [] x y e = absurd (omega arith)
by_pairs-push f (a ∷ xs) (b ∷ ys) x y e = ap (λ zs. f a b ∷ zs) (by_pairs-push f xs ys x y (omega arith))

pub takes_none : (low : List ℤ) (lengths : List ℕ) (chunk : Chunk) → TakesRows low lengths [] chunk chunk
takes_none low lengths chunk = record {
  number = refl;
  holds = λ rows is. record { each = is.each; in_grid = is.in_grid; cells = is.cells ∙ sym (append-nil rows) };
}

pub takes_both : (low : List ℤ) (lengths : List ℕ) (first second : List Row) (old mid new : Chunk) → TakesRows low lengths first old mid → TakesRows low lengths second mid new → TakesRows low lengths (first ++ second) old new
takes_both low lengths first second old mid new a b = record {
  number = b.number ∙ a.number;
  holds = λ rows is. subst (λ (z : List Row). Holds low lengths z new) (append_assoc rows first second) (b.holds (rows ++ first) (a.holds rows is));
}

pub takes_one : (low : List ℤ) (lengths : List ℕ) (c : Coordinate) (cell : Cell) (p : ℕ) (old new : Chunk) → is_in_grid low lengths c ≡ true → p ≡ position_in low lengths c
    → new.at ≡ old.at → new.positions ≡ old.positions ++ p ∷ [] → new.cells ≡ old.cells ++ cell ∷ [] → TakesRows low lengths (placed c cell ∷ []) old new
takes_one low lengths c cell p old new inside place number positions cells =
    let again : coordinate_in low lengths p ≡ c = ap (coordinate_in low lengths) place ∙ coordinate_again low lengths c inside in
    let small : p < volume lengths = subst (λ (q : ℕ). q < volume lengths) (sym place) (position_below low lengths c inside) in
    record {
      number = number;
      holds = λ rows is. record {
        each = ap length cells ∙ length-append old.cells (cell ∷ []) ∙ ap (λ (n : ℕ). n + 1) is.each ∙ sym (length-append old.positions (p ∷ [])) ∙ sym (ap length positions);
        in_grid = subst (AllByRecursion (λ q. q < volume lengths)) (sym positions) (all_push (λ q. q < volume lengths) old.positions p is.in_grid small);
        cells =
            ap (λ (ps : List ℕ). rows_in low lengths ps new.cells) positions
            ∙ ap (λ (cs : List Cell). rows_in low lengths (old.positions ++ p ∷ []) cs) cells
            ∙ by_pairs-push (λ (q : ℕ) (x : Cell). placed (coordinate_in low lengths q) x) old.positions old.cells p cell is.each
            ∙ ap (λ (d : Coordinate). rows_in low lengths old.positions old.cells ++ placed d cell ∷ []) again
            ∙ ap (λ (rs : List Row). rs ++ placed c cell ∷ []) is.cells;
      };
    }

on_both : {X E P Q R : Type 0} (r : Result X E) → OnOk r P → OnOk r Q → (P → Q → R) → OnOk r R
on_both (Ok x) p q f = f p q
on_both (Err e) p q f = p

-- a cell of one value that is pushed
pub pushes_one : {X E : Type 0} (low : List ℤ) (lengths : List ℕ) (c : Coordinate) (made : Datum) (values : List Datum) (p : ℕ) (old new : Chunk) (r : Result X E) → is_in_grid low lengths c ≡ true → p ≡ position_in low lengths c
    → made ∷ [] ≡ values → new.at ≡ old.at → OnOk r (new.positions ≡ old.positions ++ p ∷ []) → OnOk r (new.cells ≡ old.cells ++ Full (made ∷ []) ∷ []) → OnOk r (TakesRows low lengths (placed c (Full values) ∷ []) old new)
pushes_one low lengths c made values p old new r inside place is number positions cells =
    on_both r positions cells (λ ps cs. takes_one low lengths c (Full values) p old new inside place number ps (cs ∙ ap (λ (vs : List Datum). old.cells ++ Full vs ∷ []) is))

-- ---- steps of the walk

pub along_more : (f : ℤ → List Row) (lo : ℤ) (n : ℕ) → flat_map f (count_from lo n) ++ f (lo +ℤ pos n) ≡ flat_map f (count_from lo (n + 1))
along_more f lo n = grown f lo [] n (flat_map f (count_from lo n)) (flat_map f (count_from lo n) ++ f (lo +ℤ pos n)) refl refl

pub first_again : (xs : List ℤ) (x : ℤ) → 1 ≤ length xs → x ≡ slice_index_or xs 0 (pos 0) → x ∷ take (length xs - 1) (drop 1 xs) ≡ xs
first_again [] x h is = absurd (omega (arith, h))
first_again (y ∷ xs) x h is = ap (λ z. z ∷ take (length (y ∷ xs) - 1) xs) is ∙ ap (λ l. y ∷ l) (take_all (length (y ∷ xs) - 1) xs (omega arith))

pub between_again : (lo hi : List ℤ) → 1 ≤ length lo → 1 ≤ length hi → (c : Coordinate)
    → is_between (slice_index_or lo 0 (pos 0) ∷ take (length lo - 1) (drop 1 lo)) (slice_index_or hi 0 (pos 0) ∷ take (length hi - 1) (drop 1 hi)) c ≡ true
    → is_between lo hi c ≡ true
between_again lo hi a b c is = sym (λ i. is_between (first_again lo (slice_index_or lo 0 (pos 0)) a refl i) (first_again hi (slice_index_or hi 0 (pos 0)) b refl i) c) ∙ is

-- where one corner has fewer numbers than the other there is no row
pub none_below : (row : Coordinate → Row) (at : Coordinate) (lo hi : List ℤ) → length lo < 1 → 1 ≤ length hi → rows_between row at lo hi ≡ []
none_below row at [] [] a b = absurd (omega (arith, b))
none_below row at [] (h ∷ hi) a b = refl
none_below row at (l ∷ lo) hi a b = absurd (omega (arith, a))

pub none_above : (row : Coordinate → Row) (at : Coordinate) (lo hi : List ℤ) → 1 ≤ length lo → length hi < 1 → rows_between row at lo hi ≡ []
none_above row at [] hi a b = absurd (omega (arith, a))
none_above row at (l ∷ lo) [] a b = refl
none_above row at (l ∷ lo) (h ∷ hi) a b = absurd (omega (arith, b))

pub takes_nothing : (low : List ℤ) (lengths : List ℕ) (rows : List Row) (chunk : Chunk) → rows ≡ [] → TakesRows low lengths rows chunk chunk
takes_nothing low lengths rows chunk none = subst (λ (z : List Row). TakesRows low lengths z chunk chunk) (sym none) (takes_none low lengths chunk)

pub inside_here : (low : List ℤ) (lengths : List ℕ) (at : Coordinate) (lo hi : List ℤ) → length lo < 1 → length hi < 1 → ((c : Coordinate) → is_between lo hi c ≡ true → is_in_grid low lengths (at ++ c) ≡ true) → is_in_grid low lengths at ≡ true
inside_here low lengths at [] [] a b f = ap (is_in_grid low lengths) (sym (append-nil at)) ∙ f [] refl
inside_here low lengths at (l ∷ lo) hi a b f = absurd (omega arith)
inside_here low lengths at [] (h ∷ hi) a b f = absurd (omega arith)
