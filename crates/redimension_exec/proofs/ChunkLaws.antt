-- The groups of what lands of the cores of some chunks and of others: no coordinate lies in both.
use Rattle.std.proofs.Common.{◌≡◌, ℕ, ◌+◌, ◌≤◌, Bool, true, false, cond, List, [], ◌∷◌, ◌++◌, map, filter, length, take, drop, Option, Some, None, Result, Ok, refl, sym, ap, ◌∙◌, subst, arith}
use Rattle.std.proofs.lemmas.Cmp.{tied_itself}
use Rattle.std.proofs.lemmas.List.{length-append}
use Rattle.std.specs.List.{AllByRecursion}
use Rattle.std.specs.Option.{option_or}
use Rattle.std.specs.Ordering.{is_eq, ordering_reverse}
use Rattle.std.specs.Prelude.{IfOk, ⊤}
use Rattle.std.specs.declared.cmp.Ordering.{Ordering}
use Rattle.std.specs.declared.cmp.Ordering.TheVariants.{Less, Equal, Greater}
use Rattle.cell_values.specs.declared.datum.Cell.{Cell}
use Rattle.cell_values.specs.declared.datum.Row.{Row}
use Rattle.cell_values.specs.declared.memory.Memory.{Memory}
use Rattle.cell_values.specs.declared.schema.Bounds.{Bounds}
use Rattle.cell_values.specs.declared.schema.Schema.{Schema}
use Rattle.cell_values.specs.Schemas.{IsValid}
use Rattle.array_rows.specs.Boxes.{is_inside, within}
use Rattle.array_rows.specs.Rows.{Coordinate, IsBefore, IsRising, cell_at, put_all, put_by, put_row, row_major}
use Rattle.array_rows.proofs.RowsLemmas.{IsBefore-trans, row_major_total}
use Rattle.array_rows.proofs.RowSets.{IsRising-put_all, cell_at-put_all, cell_at-within}
use Rattle.array_geom.specs.declared.chunk.Chunk.{Chunk}
use Rattle.array_geom.specs.Geometry.{ChunkNumber, core}
use Rattle.array_geom.specs.Link.{NumbersRise, chunk_rows, core_rows, number_order, numbers}
use Rattle.array_geom.proofs.LawProofs.{cores_lie_apart}
use Rattle.array_parts.specs.Placed.{HasPlaces}
use Rattle.chunk_cells.proofs.MergeLaws.{IsRising-core_rows, put_all-none}
use Rattle.chunk_cells.proofs.NumberLaws.{number_order_total}
use Rattle.area_cells.proofs.CutLaws.{all_drop, all_take, both_sides, core_rows-append}
use Rattle.area_cells.proofs.PieceLaws.{all_within}
use Rattle.logical_plan.specs.declared.parts.Aggregate.{Aggregate}
use Rattle.logical_plan.specs.Faults.{if_whole}
use Rattle.logical_plan.specs.Redimension.{Origin, Landing, Landed, lands, drops, breaks, landing_of, after_landing, landed, landed_at}
use Rattle.agg_states.specs.Stands.{AreApart}
use Rattle.agg_states.proofs.Reorderings.{length-reordered}
use Rattle.agg_states.proofs.Unions.{free_in_union, put_all-reordered}
use Rattle.group_rows.specs.declared.rows.groups.Groups.{Groups}
use Rattle.group_rows.specs.Counts.{cells_in}
use Rattle.group_rows.specs.Grouped.{AreGroupsOf}
use Rattle.group_rows.specs.Sets.{AreApartSets, IsApart, Sets, both, both_sets, unless_empty}
use Rattle.group_rows.proofs.FormLaws.{same_sets}
use Rattle.group_rows.proofs.RowLemmas.{both_apart}
use Rattle.redimension_exec.specs.Inner.Bands.{AreBands}
use Rattle.redimension_exec.specs.Inner.Counting.{has_counted}
use Rattle.redimension_exec.specs.Inner.Grouping.{AreGroupsLanded, landed_sets}
use Rattle.redimension_exec.proofs.HoldLaws.{long_as_core}
use Rattle.redimension_exec.proofs.BandLaws.{back_of, front_of}
use Rattle.redimension_exec.proofs.LandedLaws.{whole_of}
use Rattle.redimension_exec.proofs.LandingsGatherLaws.{if_ok, landing_free}

-- ---- rows that pass a test, of rows that are put together

filter_before : (a : Coordinate) (p : Row → Bool) (rows : List Row) → IsBefore a rows → IsBefore a (filter p rows)
filter_before a p [] b = tt
filter_before a p (row ∷ rows) b = keep (p row) (filter_before a p rows b.1)
  where
    keep : (t : Bool) → IsBefore a (filter p rows) → IsBefore a (cond t (row ∷ filter p rows) (filter p rows))
    keep true r = (b.0, r)
    keep false r = r

filter_rises : (p : Row → Bool) (rows : List Row) → IsRising rows → IsRising (filter p rows)
filter_rises p [] r = tt
filter_rises p (row ∷ rows) r = keep (p row) (filter_rises p rows r.1)
  where
    keep : (t : Bool) → IsRising (filter p rows) → IsRising (cond t (row ∷ filter p rows) (filter p rows))
    keep true i = (filter_before row.at.items p rows r.0, i)
    keep false i = i

no_cell : (o : Ordering) (cell : Cell) (rest : Option Cell) → cond (is_eq o) (Some cell) rest ≡ None → (rest ≡ None) × (o ≡ Equal → ⊥)
no_cell Less cell rest e = (e, λ f. cc)
no_cell Greater cell rest e = (e, λ f. cc)
no_cell Equal cell rest e = absurd cc

put_before : (x : Row) (rows : List Row) → IsBefore x.at.items rows → put_row x rows ≡ x ∷ rows
put_before x [] h = refl
put_before x (y ∷ rows) h = ap (λ (o : Ordering). put_by o x y rows (put_row x rows)) h.0

-- a row that is put where none stood
filter_put : (p : Row → Bool) (x : Row) (rows : List Row) → IsRising rows → cell_at rows x.at.items ≡ None → filter p (put_row x rows) ≡ cond (p x) (put_row x (filter p rows)) (filter p rows)
filter_put p x [] r n = refl
filter_put p x (row ∷ rows) r n = cases (row_major x.at.items row.at.items) refl (λ m. filter_put p x rows r.1 m)
  where
    cases : (o : Ordering) → row_major x.at.items row.at.items ≡ o → (cell_at rows x.at.items ≡ None → filter p (put_row x rows) ≡ cond (p x) (put_row x (filter p rows)) (filter p rows))
        → filter p (put_by o x row rows (put_row x rows)) ≡ cond (p x) (put_row x (cond (p row) (row ∷ filter p rows) (filter p rows))) (cond (p row) (row ∷ filter p rows) (filter p rows))
    cases Less e ih =
        ap (λ (rs : List Row). cond (p x) rs (filter p (row ∷ rows)))
        (sym (put_before x (filter p (row ∷ rows)) (filter_before x.at.items p (row ∷ rows) (e, IsBefore-trans x.at.items row.at.items rows e r.0))))
    cases Equal e ih =
        absurd ((no_cell (row_major row.at.items x.at.items) row.cell (cell_at rows x.at.items) n).1 (row_major_total.antisymm row.at.items x.at.items ∙ ap ordering_reverse e))
    cases Greater e ih =
        ap (λ (rs : List Row). cond (p row) (row ∷ rs) rs) (ih (no_cell (row_major row.at.items x.at.items) row.cell (cell_at rows x.at.items) n).0) ∙ turned (p x) (p row)
      where
        turned : (s t : Bool) → cond t (row ∷ cond s (put_row x (filter p rows)) (filter p rows)) (cond s (put_row x (filter p rows)) (filter p rows))
            ≡ cond s (put_row x (cond t (row ∷ filter p rows) (filter p rows))) (cond t (row ∷ filter p rows) (filter p rows))
        turned false t = refl
        turned true false = refl
        turned true true = ap (λ (o : Ordering). put_by o x row (filter p rows) (put_row x (filter p rows))) (sym e)

filter_all : (p : Row → Bool) (a b : List Row) → IsRising a → IsRising b → AreApart a b → filter p (put_all a b) ≡ put_all (filter p a) (filter p b)
filter_all p [] b ra rb h = refl
filter_all p (x ∷ a) b ra rb h =
    filter_put p x (put_all a b) (IsRising-put_all a b rb) (free_in_union x a b ra h) ∙ cases (p x) (filter_all p a b ra.1 rb h.1)
  where
    cases : (t : Bool) → filter p (put_all a b) ≡ put_all (filter p a) (filter p b) → cond t (put_row x (filter p (put_all a b))) (filter p (put_all a b)) ≡ put_all (cond t (x ∷ filter p a) (filter p a)) (filter p b)
    cases true ih = ap (put_row x) ih
    cases false ih = ih

none_left : (q : Row → Bool) (rows : List Row) (c : Coordinate) → cell_at rows c ≡ None → cell_at (filter q rows) c ≡ None
none_left q [] c n = refl
none_left q (row ∷ rows) c n = cases (row_major row.at.items c) refl n (λ m. none_left q rows c m)
  where
    keep : (t : Bool) (o : Ordering) → is_eq (row_major row.at.items c) ≡ false → cell_at (filter q rows) c ≡ None → cell_at (cond t (row ∷ filter q rows) (filter q rows)) c ≡ None
    keep true o e h = ap (λ s. cond s (Some row.cell) (cell_at (filter q rows) c)) e ∙ h
    keep false o e h = h

    cases : (o : Ordering) → row_major row.at.items c ≡ o → cond (is_eq o) (Some row.cell) (cell_at rows c) ≡ None → (cell_at rows c ≡ None → cell_at (filter q rows) c ≡ None)
        → cell_at (cond (q row) (row ∷ filter q rows) (filter q rows)) c ≡ None
    cases Less e m ih = keep (q row) Less (ap is_eq e) (ih m)
    cases Greater e m ih = keep (q row) Greater (ap is_eq e) (ih m)
    cases Equal e m ih = absurd cc

filter_apart : (p q : Row → Bool) (a b : List Row) → AreApart a b → AreApart (filter p a) (filter q b)
filter_apart p q [] b h = tt
filter_apart p q (row ∷ a) b h = keep (p row) (none_left q b row.at.items h.0) (filter_apart p q a b h.1)
  where
    keep : (t : Bool) → cell_at (filter q b) row.at.items ≡ None → AreApart (filter p a) (filter q b) → AreApart (cond t (row ∷ filter p a) (filter p a)) (filter q b)
    keep true n r = (n, r)
    keep false n r = r

all_put_row : (P : Row → Type 0) (new : Row) (rows : List Row) → P new → AllByRecursion P rows → AllByRecursion P (put_row new rows)
all_put_row P new [] p a = (p, tt)
all_put_row P new (row ∷ rows) p a = cases (row_major new.at.items row.at.items) (all_put_row P new rows p a.1)
  where
    cases : (t : Ordering) → AllByRecursion P (put_row new rows) → AllByRecursion P (put_by t new row rows (put_row new rows))
    cases Less r = (p, a)
    cases Equal r = (p, a.1)
    cases Greater r = (a.0, r)

all_put_all : (P : Row → Type 0) (a b : List Row) → AllByRecursion P a → AllByRecursion P b → AllByRecursion P (put_all a b)
all_put_all P [] b p q = q
all_put_all P (row ∷ a) b p q = all_put_row P row (put_all a b) p.0 (all_put_all P a b p.1 q)

-- ---- sets of rows

some_put : (x : Row) (rows : List Row) → unless_empty (put_row x rows) ≡ Some (put_row x rows)
some_put x [] = refl
some_put x (row ∷ rows) = cases (row_major x.at.items row.at.items)
  where
    cases : (o : Ordering) → unless_empty (put_by o x row rows (put_row x rows)) ≡ Some (put_by o x row rows (put_row x rows))
    cases Less = refl
    cases Equal = refl
    cases Greater = refl

both_of : (a b : List Row) → IsRising a → both (unless_empty a) (unless_empty b) ≡ unless_empty (put_all a b)
both_of [] b r = refl
both_of (x ∷ a) [] r = ap unless_empty (sym (put_all-none (x ∷ a) r))
both_of (x ∷ a) (y ∷ b) r = sym (some_put x (put_all a (y ∷ b)))

sets_apart : (a b : List Row) → AreApart a b → IsApart (unless_empty a) (unless_empty b)
sets_apart [] b h = tt
sets_apart (x ∷ a) [] h = tt
sets_apart (x ∷ a) (y ∷ b) h = h

-- ---- what lands of rows, of which none depends on another

abbrev lands_where : Coordinate → Landing → Bool
lands_where c (lands t) = is_eq (row_major t c)
lands_where c drops = false
lands_where c (breaks kind) = false

abbrev DoesNotBreak : Landing → Type 0
DoesNotBreak (lands t) = ⊤
DoesNotBreak drops = ⊤
DoesNotBreak (breaks kind) = ⊥

abbrev landing_alone : List Origin → Bounds → Row → Landing
landing_alone origins bounds row = landing_of origins bounds false [] row.at.items row.cell

abbrev lands_here : List Origin → Bounds → Coordinate → Row → Bool
lands_here origins bounds c row = lands_where c (landing_alone origins bounds row)

abbrev NoneBreaks : List Origin → Bounds → List Row → Type 0
NoneBreaks origins bounds rows = AllByRecursion (λ row. DoesNotBreak (landing_alone origins bounds row)) rows

module _ (origins : List Origin) (bounds : Bounds) (plain : has_counted origins ≡ false) where
  each_lands : (rows : List Row) (taken : List Coordinate) (all : List Landed) → landed origins bounds false rows taken ≡ Ok all
      → NoneBreaks origins bounds rows × ((c : Coordinate) → landed_at all c ≡ filter (lands_here origins bounds c) rows)
  each_lands [] taken all e =
      let none : [] ≡ all = cc (e) in
      (tt, λ c. ap (λ (those : List Landed). landed_at those c) (sym none))
  each_lands (row ∷ rows) taken all e =
      cases (landing_alone origins bounds row)
      ((λ i. after_landing (landing_free origins bounds plain [] taken row.at.items row.cell i) row (λ now. landed origins bounds false rows now) taken) ∙ e)
      (λ now those h. each_lands rows now those h)
    where
      here : (t c : Coordinate) (those : List Landed) (b : Bool) → landed_at those c ≡ filter (lands_here origins bounds c) rows
          → map (λ (l : Landed). l.1) (cond b ((t, row) ∷ filter (λ (l : Landed). is_eq (row_major l.0 c)) those) (filter (λ (l : Landed). is_eq (row_major l.0 c)) those))
          ≡ cond b (row ∷ filter (lands_here origins bounds c) rows) (filter (lands_here origins bounds c) rows)
      here t c those true h = ap (λ (rs : List Row). row ∷ rs) h
      here t c those false h = h

      cases : (l : Landing) → after_landing l row (λ now. landed origins bounds false rows now) taken ≡ Ok all
          → ((now : List Coordinate) (those : List Landed) → landed origins bounds false rows now ≡ Ok those → NoneBreaks origins bounds rows × ((c : Coordinate) → landed_at those c ≡ filter (lands_here origins bounds c) rows))
          → (DoesNotBreak l × NoneBreaks origins bounds rows)
          × ((c : Coordinate) → landed_at all c ≡ cond (lands_where c l) (row ∷ filter (lands_here origins bounds c) rows) (filter (lands_here origins bounds c) rows))
      cases drops g again = let h = again taken all g in ((tt, h.0), h.1)
      cases (breaks kind) g again = absurd cc
      cases (lands t) g again =
          let split = whole_of (λ (rest : List Landed). (t, row) ∷ rest) (landed origins bounds false rows (t ∷ taken)) all g in
          let h = again (t ∷ taken) split.0 split.1 in
          ((tt, h.0), λ c. ap (λ (those : List Landed). landed_at those c) (sym split.2) ∙ here t c split.0 (is_eq (row_major t c)) (h.1 c))

  all_whole : (rows : List Row) (taken : List Coordinate) → NoneBreaks origins bounds rows → (all : List Landed) × (landed origins bounds false rows taken ≡ Ok all)
  all_whole [] taken a = ([], refl)
  all_whole (row ∷ rows) taken a =
      cases (landing_alone origins bounds row) (landing_free origins bounds plain taken [] row.at.items row.cell) a.0 (λ now. all_whole rows now a.1)
    where
      cases : (l : Landing) → landing_of origins bounds false taken row.at.items row.cell ≡ l → DoesNotBreak l → ((now : List Coordinate) → (all : List Landed) × (landed origins bounds false rows now ≡ Ok all))
          → (all : List Landed) × (after_landing (landing_of origins bounds false taken row.at.items row.cell) row (λ now. landed origins bounds false rows now) taken ≡ Ok all)
      cases drops e d again = let h = again taken in (h.0, (λ i. after_landing (e i) row (λ now. landed origins bounds false rows now) taken) ∙ h.1)
      cases (breaks kind) e d again = absurd d
      cases (lands t) e d again =
          let h = again (t ∷ taken) in
          ((t, row) ∷ h.0, (λ i. after_landing (e i) row (λ now. landed origins bounds false rows now) taken) ∙ ap (if_whole (λ (rest : List Landed). (t, row) ∷ rest)) h.1)

-- ---- the groups of rows that have no coordinate in common

module _ (gs : List Aggregate) (origins : List Origin) (bounds : Bounds) (plain : has_counted origins ≡ false) (a b : List Row) (ra : IsRising a) (rb : IsRising b) (apart : AreApart a b)
    (left right : Groups) (of_a : AreGroupsLanded gs origins bounds a (Ok left)) (of_b : AreGroupsLanded gs origins bounds b (Ok right)) where
  sets_lie_apart : AreApartSets (landed_sets of_a.0) (landed_sets of_b.0)
  sets_lie_apart c =
      let p = lands_here origins bounds c in
      subst (λ (rs : List Row). IsApart (unless_empty rs) (unless_empty (landed_at of_b.0 c))) (sym ((each_lands origins bounds plain a [] of_a.0 of_a.1).1 c))
      (subst (λ (rs : List Row). IsApart (unless_empty (filter p a)) (unless_empty rs)) (sym ((each_lands origins bounds plain b [] of_b.0 of_b.1).1 c)) (sets_apart (filter p a) (filter p b) (filter_apart p p a b apart)))

  all_of_both : (all : List Landed) × (landed origins bounds false (put_all a b) [] ≡ Ok all)
  all_of_both =
      all_whole origins bounds plain (put_all a b) []
      (all_put_all (λ row. DoesNotBreak (landing_alone origins bounds row)) a b (each_lands origins bounds plain a [] of_a.0 of_a.1).0 (each_lands origins bounds plain b [] of_b.0 of_b.1).0)

  same_at : (c : Coordinate) → both_sets (landed_sets of_a.0) (landed_sets of_b.0) c ≡ landed_sets all_of_both.0 c
  same_at c =
      let p = lands_here origins bounds c in
      let in_a = (each_lands origins bounds plain a [] of_a.0 of_a.1).1 c in
      let in_b = (each_lands origins bounds plain b [] of_b.0 of_b.1).1 c in
      let in_both = (each_lands origins bounds plain (put_all a b) [] all_of_both.0 all_of_both.1).1 c in
      (λ i. both (unless_empty (in_a i)) (unless_empty (in_b i))) ∙ both_of (filter p a) (filter p b) (filter_rises p a ra) ∙ ap unless_empty (sym (filter_all p a b ra rb apart) ∙ sym in_both)

  put_landed : (merged : Groups) → AreGroupsOf gs (both_sets (landed_sets of_a.0) (landed_sets of_b.0)) merged.groups → AreGroupsLanded gs origins bounds (put_all a b) (Ok merged)
  put_landed merged are = (all_of_both.0, all_of_both.1, same_sets gs (both_sets (landed_sets of_a.0) (landed_sets of_b.0)) (landed_sets all_of_both.0) merged.groups same_at are)

-- ---- cores of different chunks

other_core : (schema : Schema) (k l : ChunkNumber) → IsValid schema → length k ≡ length schema.dimensions → length l ≡ length schema.dimensions → number_order k l ≡ Less
    → (c : Coordinate) → is_inside (core schema.dimensions k) c ≡ true → is_inside (core schema.dimensions l) c ≡ false
other_core schema k l v m n h c e = cases (is_inside (core schema.dimensions l) c) refl
  where
    cases : (t : Bool) → is_inside (core schema.dimensions l) c ≡ t → t ≡ false
    cases false f = refl
    cases true f =
        let same : k ≡ l = cores_lie_apart schema k c v m e ∙ sym (cores_lie_apart schema l c v n f) in
        let tied : Less ≡ Equal = sym h ∙ ap (number_order k) (sym same) ∙ tied_itself number_order_total k in
        cc

none_in_others : (schema : Schema) (margins : List ℕ) (k : ChunkNumber) (chunks : List Chunk) → IsValid schema → length k ≡ length schema.dimensions → AllByRecursion (HasPlaces schema margins) chunks
    → AllByRecursion (λ l. number_order k l ≡ Less) (numbers chunks) → (c : Coordinate) → is_inside (core schema.dimensions k) c ≡ true → cell_at (core_rows schema.dimensions margins chunks) c ≡ None
none_in_others schema margins k [] v l a r c e = refl
none_in_others schema margins k (chunk ∷ chunks) v l a r c e =
    let dims = schema.dimensions in
    cell_at-put_all (within (core dims chunk.at.items) (chunk_rows dims margins chunk)) (core_rows dims margins chunks) c
    ∙ ap (λ (o : Option Cell). option_or o (cell_at (core_rows dims margins chunks) c))
    (cell_at-within (core dims chunk.at.items) (chunk_rows dims margins chunk) c
    ∙ ap (λ (t : Bool). cond t (cell_at (chunk_rows dims margins chunk) c) None) (other_core schema k chunk.at.items v l (long_as_core dims chunk.at.items a.0.framed.core) r.0 c e))
    ∙ none_in_others schema margins k chunks v l a.1 r.1 c e

later_of : (k : ChunkNumber) (front back : List Chunk) → AllByRecursion (λ l. number_order k l ≡ Less) (numbers (front ++ back)) → AllByRecursion (λ l. number_order k l ≡ Less) (numbers back)
later_of k [] back a = a
later_of k (chunk ∷ front) back a = later_of k front back a.1

cores_apart : (schema : Schema) (margins : List ℕ) (front back : List Chunk) → IsValid schema → AllByRecursion (HasPlaces schema margins) front → AllByRecursion (HasPlaces schema margins) back → NumbersRise (numbers (front ++ back))
    → AreApart (core_rows schema.dimensions margins front) (core_rows schema.dimensions margins back)
cores_apart schema margins [] back v a b r = tt
cores_apart schema margins (chunk ∷ front) back v a b r =
    let own = within (core schema.dimensions chunk.at.items) (chunk_rows schema.dimensions margins chunk) in
    both_apart own (core_rows schema.dimensions margins front) (core_rows schema.dimensions margins back)
    (each own (all_within (core schema.dimensions chunk.at.items) (chunk_rows schema.dimensions margins chunk) own refl))
    (cores_apart schema margins front back v a.1 b r.1)
  where
    each : (rows : List Row) → AllByRecursion (λ row. is_inside (core schema.dimensions chunk.at.items) row.at.items ≡ true) rows → AreApart rows (core_rows schema.dimensions margins back)
    each [] h = tt
    each (row ∷ rows) h = (
      none_in_others schema margins chunk.at.items back v (long_as_core schema.dimensions chunk.at.items a.0.framed.core) b (later_of chunk.at.items front back r.0) row.at.items h.0,
      each rows h.1,
    )

-- ---- the groups of chunks that are cut in two

module _ (source : Schema) (margins : List ℕ) (n : ℕ) (chunks front back : List Chunk) (are : AreBands source margins chunks) (f : front ≡ take n chunks) (b : back ≡ drop n chunks) where
  abbrev rows_of : List Chunk → List Row
  rows_of some = core_rows source.dimensions margins some

  put_of : rows_of chunks ≡ put_all (rows_of front) (rows_of back)
  put_of = ap (core_rows source.dimensions margins) (both_sides n chunks front back f b) ∙ core_rows-append source.dimensions margins front back

  rows_apart : AreApart (rows_of front) (rows_of back)
  rows_apart =
      cores_apart source margins front back are.places.valid (subst (AllByRecursion (HasPlaces source margins)) (sym f) (all_take (HasPlaces source margins) n chunks are.places.all))
      (subst (AllByRecursion (HasPlaces source margins)) (sym b) (all_drop (HasPlaces source margins) n chunks are.places.all)) (subst (λ (cs : List Chunk). NumbersRise (numbers cs)) (both_sides n chunks front back f b) are.places.rising)

  pub rows_sum : length (rows_of chunks) ≡ length (rows_of front) + length (rows_of back)
  rows_sum =
      ap length put_of ∙ length-reordered (put_all-reordered (rows_of front) (rows_of back) (IsRising-core_rows source.dimensions margins front) rows_apart) ∙ length-append (rows_of front) (rows_of back)

  pub front_chunks : AreBands source margins front
  front_chunks = let sum = rows_sum in front_of source margins n chunks front are (omega (arith, sum)) f

  pub back_chunks : AreBands source margins back
  back_chunks = let sum = rows_sum in back_of source margins n chunks back are (omega (arith, sum)) b

  pub both_fit : (left right : Groups) → cells_in left.groups ≤ length (rows_of front) → cells_in right.groups ≤ length (rows_of back) → cells_in left.groups + cells_in right.groups ≤ length (rows_of chunks)
  both_fit left right one other = let sum = rows_sum in omega (arith, sum, one, other)

  pub both_landed : (gs : List Aggregate) (origins : List Origin) (bounds : Bounds) (left right : Groups) (merged : Result Groups Memory) → has_counted origins ≡ false → AreGroupsLanded gs origins bounds (rows_of front) (Ok left)
      → AreGroupsLanded gs origins bounds (rows_of back) (Ok right)
      → ((own other : Sets) → AreGroupsOf gs own left.groups → AreGroupsOf gs other right.groups → AreApartSets own other → IfOk merged (λ groups. AreGroupsOf gs (both_sets own other) groups.groups))
      → IfOk merged (λ groups. AreGroupsLanded gs origins bounds (rows_of chunks) (Ok groups))
  both_landed gs origins bounds left right merged plain of_front of_back put =
      let rf = IsRising-core_rows source.dimensions margins front in
      let rb = IsRising-core_rows source.dimensions margins back in
      if_ok merged (put (landed_sets of_front.0) (landed_sets of_back.0) of_front.2 of_back.2 (sets_lie_apart gs origins bounds plain (rows_of front) (rows_of back) rf rb rows_apart left right of_front of_back))
      (λ groups made. subst (λ (rows : List Row). AreGroupsLanded gs origins bounds rows (Ok groups)) (sym put_of)
      (put_landed gs origins bounds plain (rows_of front) (rows_of back) rf rb rows_apart left right of_front of_back groups made))
