-- The least fault of an array's chunks is the first one of its rows.
use Rattle.std.proofs.Common.{◌≡◌, ℕ, Bool, true, false, cond, List, [], ◌∷◌, ◌++◌, Option, Some, None, Ok, Err, Result, ◌⊎◌, inl, inr, refl, sym, ap, ◌∙◌, subst}
use Rattle.std.specs.List.{AllByRecursion, flat_map}
use Rattle.std.specs.Option.{option_map}
use Rattle.std.specs.Ordering.{ordering_reverse}
use Rattle.std.specs.declared.cmp.Ordering.{Ordering}
use Rattle.std.specs.declared.cmp.Ordering.TheVariants.{Less, Equal, Greater}
use Rattle.cell_values.specs.declared.datum.Broken.{Broken}
use Rattle.cell_values.specs.declared.datum.FaultKind.{FaultKind}
use Rattle.cell_values.specs.declared.datum.Row.{Row}
use Rattle.cell_values.specs.declared.schema.Bounds.{Bounds}
use Rattle.cell_values.specs.declared.schema.Dimension.{Dimension}
use Rattle.cell_values.specs.declared.schema.Schema.{Schema}
use Rattle.array_rows.specs.Arrays.{Meant}
use Rattle.array_rows.specs.Boxes.{is_inside, within}
use Rattle.array_rows.specs.Rows.{Coordinate, row_major, IsBefore, IsRising, put_by, put_row, put_all}
use Rattle.array_rows.proofs.RowsLemmas.{row_major_total, row_major_exact, same_coordinate}
use Rattle.array_geom.specs.declared.chunk.Chunk.{Chunk}
use Rattle.array_geom.specs.declared.chunk.ChunkedArray.{ChunkedArray}
use Rattle.array_geom.specs.Geometry.{core, frame}
use Rattle.array_geom.specs.Link.{chunk_rows, core_rows, IsPart, HoldsRows, HoldsResult, Is}
use Rattle.array_geom.proofs.LinkLaws.{chunks_have_their_rows}
use Rattle.logical_plan.specs.Faults.{fault_in, fault_here, first_fault, fault_of}
use Rattle.chunk_exec.specs.Least.{fault_at, sooner_by, sooner, least_from}

-- some row has this fault
abbrev Has : List Row → Broken → Type 0
Has [] b = ⊥
Has (row ∷ rows) b = (fault_at row ≡ Some b) ⊎ Has rows b

-- a fault is found that does not come after this one
abbrev NotAfter : Option Broken → Broken → Type 0
NotAfter None b = ⊥
NotAfter (Some a) b = row_major b.at.items a.at.items ≡ Less → ⊥

is_not_less : (t : Ordering) → t ≡ Equal → t ≡ Less → ⊥
is_not_less t e f = cc

irreflexive : (b : Broken) → row_major b.at.items b.at.items ≡ Less → ⊥
irreflexive b e = is_not_less _ (same_coordinate b.at.items) e

less_turned : (a b : Coordinate) → row_major a b ≡ Less → row_major b a ≡ Less → ⊥
less_turned a b e f = let g : row_major b a ≡ ordering_reverse Less = row_major_total.antisymm b a ∙ ap ordering_reverse e in cc

-- ---- the least fault of rows in any order

sooner_is : (x y : Option Broken) (b : Broken) → sooner x y ≡ Some b → (x ≡ Some b) ⊎ (y ≡ Some b)
sooner_is None y b e = inr e
sooner_is (Some a) None b e = inl e
sooner_is (Some a) (Some c) b e = cases (row_major c.at.items a.at.items) e
  where
    cases : (t : Ordering) → Some (sooner_by t c a) ≡ Some b → (Some a ≡ Some b) ⊎ (Some c ≡ Some b)
    cases Less f = inr f
    cases Equal f = inl f
    cases Greater f = inl f

least_is : (least : Option Broken) (rows : List Row) (b : Broken) → least_from least rows ≡ Some b → (least ≡ Some b) ⊎ Has rows b
least_is least [] b e = inl e
least_is least (row ∷ rows) b e = cases (least_is (sooner least (fault_at row)) rows b e)
  where
    here : (least ≡ Some b) ⊎ (fault_at row ≡ Some b) → (least ≡ Some b) ⊎ Has (row ∷ rows) b
    here (inl f) = inl f
    here (inr f) = inr (inl f)

    cases : (sooner least (fault_at row) ≡ Some b) ⊎ Has rows b → (least ≡ Some b) ⊎ Has (row ∷ rows) b
    cases (inl f) = here (sooner_is least (fault_at row) b f)
    cases (inr f) = inr (inr f)

sooner_left : (x y : Option Broken) (b : Broken) → NotAfter x b → NotAfter (sooner x y) b
sooner_left None y b n = absurd n
sooner_left (Some a) None b n = n
sooner_left (Some a) (Some c) b n = cases (row_major c.at.items a.at.items) refl
  where
    cases : (t : Ordering) → row_major c.at.items a.at.items ≡ t → NotAfter (Some (sooner_by t c a)) b
    cases Less e = λ f. n (row_major_total.trans b.at.items c.at.items a.at.items f e)
    cases Equal e = n
    cases Greater e = n

sooner_right : (x : Option Broken) (b : Broken) → NotAfter (sooner x (Some b)) b
sooner_right None b = irreflexive b
sooner_right (Some a) b = cases (row_major b.at.items a.at.items) refl
  where
    cases : (t : Ordering) → row_major b.at.items a.at.items ≡ t → NotAfter (Some (sooner_by t b a)) b
    cases Less e = irreflexive b
    cases Equal e = λ f. is_not_less _ e f
    cases Greater e = λ f. let g : Greater ≡ Less = sym e ∙ f in cc

least_before : (least : Option Broken) (rows : List Row) (b : Broken) → NotAfter least b → NotAfter (least_from least rows) b
least_before least [] b n = n
least_before least (row ∷ rows) b n = least_before (sooner least (fault_at row)) rows b (sooner_left least (fault_at row) b n)

least_bounds : (least : Option Broken) (rows : List Row) (b : Broken) → Has rows b → NotAfter (least_from least rows) b
least_bounds least [] b h = absurd h
least_bounds least (row ∷ rows) b (inl e) = least_before (sooner least (fault_at row)) rows b (subst (λ y. NotAfter (sooner least y) b) (sym e) (sooner_right least b))
least_bounds least (row ∷ rows) b (inr h) = least_bounds (sooner least (fault_at row)) rows b h

-- ---- the first fault of rising rows

fault_place : (row : Row) (k : Option FaultKind) (b : Broken) → fault_in row.cell ≡ k → fault_at row ≡ Some b → row.at ≡ b.at
fault_place row None b e f = let g : None ≡ Some b = sym (ap (λ z. option_map (λ kind. record { at = row.at; kind = kind }) z) e) ∙ f in cc
fault_place row (Some kind) b e f = cc

has_before : (c : Coordinate) (rows : List Row) (b : Broken) → IsBefore c rows → Has rows b → row_major c b.at.items ≡ Less
has_before c [] b i h = absurd h
has_before c (row ∷ rows) b i (inl e) = subst (λ at. row_major c at.items ≡ Less) (fault_place row (fault_in row.cell) b refl e) i.0
has_before c (row ∷ rows) b i (inr h) = has_before c rows b i.1 h

first_is : (rows : List Row) (b : Broken) → first_fault rows ≡ Some b → Has rows b
first_is [] b e = cc
first_is (row ∷ rows) b e = cases (fault_in row.cell) refl e (first_is rows b)
  where
    cases : (k : Option FaultKind) → fault_in row.cell ≡ k → fault_here row k (first_fault rows) ≡ Some b → (first_fault rows ≡ Some b → Has rows b) → Has (row ∷ rows) b
    cases None f g ih = inr (ih g)
    cases (Some kind) f g ih = inl (ap (λ z. option_map (λ (kind' : FaultKind). record { at = row.at; kind = kind' }) z) f ∙ g)

first_bounds : (rows : List Row) (b : Broken) → IsRising rows → Has rows b → NotAfter (first_fault rows) b
first_bounds [] b r h = absurd h
first_bounds (row ∷ rows) b r h = cases (fault_in row.cell) refl h (first_bounds rows b r.1)
  where
    later : (kind : FaultKind) → row_major row.at.items b.at.items ≡ Less → NotAfter (Some (record { at = row.at; kind = kind })) b
    later kind l = λ e. less_turned row.at.items b.at.items l e

    cases : (k : Option FaultKind) → fault_in row.cell ≡ k → Has (row ∷ rows) b → (Has rows b → NotAfter (first_fault rows) b) → NotAfter (fault_here row k (first_fault rows)) b
    cases None f (inl e) ih = let g : None ≡ Some b = sym (ap (λ z. option_map (λ (kind' : FaultKind). record { at = row.at; kind = kind' }) z) f) ∙ e in cc
    cases None f (inr i) ih = ih i
    cases (Some kind) f (inl e) ih = λ l. irreflexive b (subst (λ at. row_major b.at.items at.items ≡ Less) (fault_place row (Some kind) b f e) l)
    cases (Some kind) f (inr i) ih = later kind (has_before row.at.items rows b r.0 i)

-- two faults at one coordinate are one
one_fault : (rows : List Row) (a b : Broken) → IsRising rows → Has rows a → Has rows b → a.at.items ≡ b.at.items → a ≡ b
one_fault [] a b r h k e = absurd h
one_fault (row ∷ rows) a b r (inl h) (inl k) e = let f : Some a ≡ Some b = sym h ∙ k in cc
one_fault (row ∷ rows) a b r (inl h) (inr k) e =
    absurd (is_not_less _ (ap (λ at. row_major at.items b.at.items) (fault_place row (fault_in row.cell) a refl h) ∙ ap (λ c. row_major c b.at.items) e ∙ same_coordinate b.at.items) (has_before row.at.items rows b r.0 k))
one_fault (row ∷ rows) a b r (inr h) (inl k) e =
    absurd (is_not_less _ (ap (λ at. row_major at.items a.at.items) (fault_place row (fault_in row.cell) b refl k) ∙ ap (λ c. row_major c a.at.items) (sym e) ∙ same_coordinate a.at.items) (has_before row.at.items rows a r.0 h))
one_fault (row ∷ rows) a b r (inr h) (inr k) e = one_fault rows a b r.1 h k e

-- rows in any order have the first fault of rising rows that have the same faults
least_is_first : (rows rising : List Row) → IsRising rising → ((b : Broken) → Has rows b → Has rising b) → ((b : Broken) → Has rising b → Has rows b) → least_from None rows ≡ first_fault rising
least_is_first rows rising r to from = cases (least_from None rows) (first_fault rising) refl refl
  where
    had : (b : Broken) → (None ≡ Some b) ⊎ Has rows b → Has rows b
    had b (inl e) = cc
    had b (inr h) = h

    compared : (a b : Broken) → (t : Ordering) → row_major a.at.items b.at.items ≡ t → Has rising a → Has rising b → (row_major a.at.items b.at.items ≡ Less → ⊥) → (row_major b.at.items a.at.items ≡ Less → ⊥) → a ≡ b
    compared a b Less e h k m n = absurd (m e)
    compared a b Equal e h k m n = one_fault rising a b r h k (row_major_exact a.at.items b.at.items e)
    compared a b Greater e h k m n = absurd (n (row_major_total.antisymm b.at.items a.at.items ∙ ap ordering_reverse e))

    cases : (x y : Option Broken) → least_from None rows ≡ x → first_fault rising ≡ y → x ≡ y
    cases None None e f = refl
    cases None (Some b) e f = absurd (subst (λ z. NotAfter z b) e (least_bounds None rows b (from b (first_is rising b f))))
    cases (Some a) None e f = absurd (subst (λ z. NotAfter z a) f (first_bounds rising a r (to a (had a (least_is None rows a e)))))
    cases (Some a) (Some b) e f =
        let there : Has rows a = had a (least_is None rows a e) in
        let first : Has rising b = first_is rising b f in
        ap Some (compared a b (row_major a.at.items b.at.items) refl (to a there) first
        (subst (λ z. NotAfter z a) f (first_bounds rising a r (to a there)))
        (subst (λ z. NotAfter z b) e (least_bounds None rows b (from b first))))

-- ---- chunks

has_within : (area : Bounds) (rows : List Row) (b : Broken) → Has (within area rows) b → Has rows b
has_within area [] b h = h
has_within area (row ∷ rows) b h = cases (is_inside area row.at.items) h (has_within area rows b)
  where
    cases : (t : Bool) → Has (cond t (row ∷ within area rows) (within area rows)) b → (Has (within area rows) b → Has rows b) → Has (row ∷ rows) b
    cases true (inl e) ih = inl e
    cases true (inr k) ih = inr (ih k)
    cases false k ih = inr (ih k)

has_both : (a c : List Row) (b : Broken) → Has (a ++ c) b → Has a b ⊎ Has c b
has_both [] c b h = inr h
has_both (row ∷ a) c b (inl e) = inl (inl e)
has_both (row ∷ a) c b (inr h) = cases (has_both a c b h)
  where
    cases : Has a b ⊎ Has c b → Has (row ∷ a) b ⊎ Has c b
    cases (inl i) = inl (inr i)
    cases (inr i) = inr i

has_left : (a c : List Row) (b : Broken) → Has a b → Has (a ++ c) b
has_left [] c b h = absurd h
has_left (row ∷ a) c b (inl e) = inl e
has_left (row ∷ a) c b (inr h) = inr (has_left a c b h)

has_right : (a c : List Row) (b : Broken) → Has c b → Has (a ++ c) b
has_right [] c b h = h
has_right (row ∷ a) c b h = inr (has_right a c b h)

has_put : (row : Row) (rows : List Row) (b : Broken) → Has (put_row row rows) b → (fault_at row ≡ Some b) ⊎ Has rows b
has_put row [] b h = h
has_put row (r ∷ rows) b h = cases (row_major row.at.items r.at.items) h (has_put row rows b)
  where
    over : (fault_at row ≡ Some b) ⊎ Has rows b → (fault_at row ≡ Some b) ⊎ Has (r ∷ rows) b
    over (inl e) = inl e
    over (inr i) = inr (inr i)

    cases : (t : Ordering) → Has (put_by t row r rows (put_row row rows)) b → (Has (put_row row rows) b → (fault_at row ≡ Some b) ⊎ Has rows b) → (fault_at row ≡ Some b) ⊎ Has (r ∷ rows) b
    cases Less k ih = k
    cases Equal (inl e) ih = inl e
    cases Equal (inr i) ih = inr (inr i)
    cases Greater (inl e) ih = inr (inl e)
    cases Greater (inr i) ih = over (ih i)

has_put_all : (a rows : List Row) (b : Broken) → Has (put_all a rows) b → Has a b ⊎ Has rows b
has_put_all [] rows b h = inr h
has_put_all (row ∷ a) rows b h = cases (has_put row (put_all a rows) b h) (has_put_all a rows b)
  where
    rest : Has a b ⊎ Has rows b → Has (row ∷ a) b ⊎ Has rows b
    rest (inl i) = inl (inr i)
    rest (inr i) = inr i

    cases : (fault_at row ≡ Some b) ⊎ Has (put_all a rows) b → (Has (put_all a rows) b → Has a b ⊎ Has rows b) → Has (row ∷ a) b ⊎ Has rows b
    cases (inl e) ih = inl (inl e)
    cases (inr i) ih = rest (ih i)

chunks_have : (dims : List Dimension) (margins : List ℕ) (rows : List Row) (chunks : List Chunk) → AllByRecursion (IsPart dims margins rows) chunks → (b : Broken) → Has (flat_map (chunk_rows dims margins) chunks) b → Has rows b
chunks_have dims margins rows [] parts b h = absurd h
chunks_have dims margins rows (chunk ∷ chunks) parts b h = cases (has_both (chunk_rows dims margins chunk) (flat_map (chunk_rows dims margins) chunks) b h) (chunks_have dims margins rows chunks parts.1 b)
  where
    cases : Has (chunk_rows dims margins chunk) b ⊎ Has (flat_map (chunk_rows dims margins) chunks) b → (Has (flat_map (chunk_rows dims margins) chunks) b → Has rows b) → Has rows b
    cases (inl i) ih = has_within (frame dims margins chunk.at.items) rows b (subst (λ z. Has z b) parts.0.cells i)
    cases (inr i) ih = ih i

cores_have : (dims : List Dimension) (margins : List ℕ) (chunks : List Chunk) (b : Broken) → Has (core_rows dims margins chunks) b → Has (flat_map (chunk_rows dims margins) chunks) b
cores_have dims margins [] b h = h
cores_have dims margins (chunk ∷ chunks) b h = cases (has_put_all (within (core dims chunk.at.items) (chunk_rows dims margins chunk)) (core_rows dims margins chunks) b h) (cores_have dims margins chunks b)
  where
    cases : Has (within (core dims chunk.at.items) (chunk_rows dims margins chunk)) b ⊎ Has (core_rows dims margins chunks) b → (Has (core_rows dims margins chunks) b → Has (flat_map (chunk_rows dims margins) chunks) b) → Has (flat_map (chunk_rows dims margins) (chunk ∷ chunks)) b
    cases (inl i) ih = has_left (chunk_rows dims margins chunk) (flat_map (chunk_rows dims margins) chunks) b (has_within (core dims chunk.at.items) (chunk_rows dims margins chunk) b i)
    cases (inr i) ih = has_right (chunk_rows dims margins chunk) (flat_map (chunk_rows dims margins) chunks) b (ih i)

least_of_chunks : (schema : Schema) (array : ChunkedArray) (rows : List Row) → HoldsRows schema array rows → least_from None (flat_map (chunk_rows schema.dimensions array.margins.items) array.chunks) ≡ first_fault rows
least_of_chunks schema array rows h =
    let dims = schema.dimensions in
    let margins = array.margins.items in
    least_is_first (flat_map (chunk_rows dims margins) array.chunks) rows h.rows_of.are_rows.rising
    (chunks_have dims margins rows array.chunks h.chunks.parts)
    (λ b k. cores_have dims margins array.chunks b (subst (λ z. Has z b) (sym (chunks_have_their_rows schema array rows h)) k))

-- ---- arrays

pub fault_of_chunks : (array : ChunkedArray) (meant : Meant) → array.broken ≡ None → Is array meant → least_from None (flat_map (chunk_rows array.schema.dimensions array.margins.items) array.chunks) ≡ fault_of meant.rows
fault_of_chunks array meant whole is = cases meant.rows is.cells
  where
    cases : (r : Result (List Row) Broken) → HoldsResult meant.schema array r → least_from None (flat_map (chunk_rows array.schema.dimensions array.margins.items) array.chunks) ≡ fault_of r
    cases (Ok rows) h = rw is.schema (least_of_chunks meant.schema array rows h)
    cases (Err broken) h = absurd (let e : None ≡ Some broken = sym whole ∙ h in cc)

pub fault_of_broken : (array : ChunkedArray) (meant : Meant) (broken : Broken) → array.broken ≡ Some broken → Is array meant → Some broken ≡ fault_of meant.rows
fault_of_broken array meant broken e is = cases meant.rows is.cells
  where
    cases : (r : Result (List Row) Broken) → HoldsResult meant.schema array r → Some broken ≡ fault_of r
    cases (Ok rows) h = absurd (let f : None ≡ Some broken = sym h.whole ∙ e in cc)
    cases (Err b) h = sym e ∙ h
