-- Chunks that are cut to a box, and the rows of their cores.
use Rattle.std.proofs.Common.{◌≡◌, ℕ, zero, suc, ◌<◌, ◌/◌, Bool, true, false, cond, List, [], ◌∷◌, ◌++◌, length, get_or, take, drop, Option, Some, None, refl, sym, ap, ◌∙◌, subst, arith}
use Rattle.std.specs.List.{AllByRecursion}
use Rattle.std.specs.Option.{option_or}
use Rattle.std.specs.Prelude.{◌==◌}
use Rattle.std.specs.declared.cmp.Ordering.TheVariants.{Less}
use Rattle.cell_values.specs.declared.datum.Cell.{Cell}
use Rattle.cell_values.specs.declared.datum.Row.{Row}
use Rattle.cell_values.specs.declared.schema.Bounds.{Bounds}
use Rattle.cell_values.specs.declared.schema.Dimension.{Dimension}
use Rattle.cell_values.specs.declared.schema.Schema.{Schema}
use Rattle.arrayvec.specs.ArrayVec.{ArrayVec}
use Rattle.array_rows.specs.Boxes.{is_inside, within}
use Rattle.array_rows.specs.Cellwise.{put_first, cell_wise}
use Rattle.array_rows.specs.Rows.{IsRising, put_all}
use Rattle.array_rows.proofs.RowSets.{IsRising-put_all, IsRising-rows_where, cell_at-put_all, rows_where-put_all}
use Rattle.array_rows.specs.Rows.{cell_at}
use Rattle.array_rows.proofs.RowsLemmas.{same_rows}
use Rattle.array_geom.specs.declared.chunk.Chunk.{Chunk}
use Rattle.array_geom.specs.Geometry.{ChunkNumber, HasFrame, core, has_core}
use Rattle.array_geom.specs.Link.{NumbersRise, chunk_rows, core_rows, number_order, numbers}
use Rattle.array_parts.specs.Made.{IsMadeBy}
use Rattle.array_parts.specs.Placed.{HasPlaces}
use Rattle.array_parts.proofs.PartLemmas.{cuts_are_local}
use Rattle.chunk_cells.specs.Whole.{CoresRise}
use Rattle.chunk_cells.proofs.MergeLaws.{IsRising-core_rows, put_all-none}
use Rattle.area_cells.specs.Cut.{cell_inside}
use Rattle.area_cells.specs.Inner.Cuts.{TakesCuts}

-- ---- a chunk

stays : (t : Bool) (row : Row) (rows : List Row) → put_first row.at.items (cond t (Some row.cell) None) rows ≡ cond t (row ∷ rows) rows
stays true row rows = refl
stays false row rows = refl

cut_rows : (area : Bounds) (rows : List Row) → cell_wise (cell_inside area) rows ≡ within area rows
cut_rows area [] = refl
cut_rows area (row ∷ rows) =
    stays (is_inside area row.at.items) row (cell_wise (cell_inside area) rows)
    ∙ ap (λ (rs : List Row). cond (is_inside area row.at.items) (row ∷ rs) rs) (cut_rows area rows)

pub cut_is_within : (area : Bounds) → cell_wise (cell_inside area) ≡ within area
cut_is_within area = λ i. λ rows. cut_rows area rows i

-- the rows of a cut chunk's core
cut_core : (dims : List Dimension) (margins : List ℕ) (area : Bounds) (chunk cut : Chunk) → IsMadeBy (within area) dims margins chunk cut
    → within (core dims cut.at.items) (chunk_rows dims margins cut) ≡ within area (within (core dims chunk.at.items) (chunk_rows dims margins chunk))
cut_core dims margins area chunk cut made =
    ap (λ (at : ArrayVec ℕ). within (core dims at.items) (chunk_rows dims margins cut)) made.number
    ∙ ap (within (core dims chunk.at.items)) made.rows
    ∙ (cuts_are_local area).boxes (core dims chunk.at.items) (chunk_rows dims margins chunk)

-- ---- rows of many cores

put_all-assoc : (a b c : List Row) → IsRising b → IsRising c → put_all a (put_all b c) ≡ put_all (put_all a b) c
put_all-assoc a b c rb rc =
    same_rows _ _ (IsRising-put_all a (put_all b c) (IsRising-put_all b c rc)) (IsRising-put_all (put_all a b) c rc)
    (λ at.
    cell_at-put_all a (put_all b c) at
    ∙ ap (option_or (cell_at a at)) (cell_at-put_all b c at)
    ∙ regroup (cell_at a at) (cell_at b at) (cell_at c at)
    ∙ ap (λ (o : Option Cell). option_or o (cell_at c at)) (sym (cell_at-put_all a b at))
    ∙ sym (cell_at-put_all (put_all a b) c at))
  where
    regroup : (o p q : Option Cell) → option_or o (option_or p q) ≡ option_or (option_or o p) q
    regroup None p q = refl
    regroup (Some x) p q = refl

pub core_rows-append : (dims : List Dimension) (margins : List ℕ) (a b : List Chunk) → core_rows dims margins (a ++ b) ≡ put_all (core_rows dims margins a) (core_rows dims margins b)
core_rows-append dims margins [] b = refl
core_rows-append dims margins (chunk ∷ a) b =
    let own = within (core dims chunk.at.items) (chunk_rows dims margins chunk) in
    ap (put_all own) (core_rows-append dims margins a b)
    ∙ put_all-assoc own (core_rows dims margins a) (core_rows dims margins b) (IsRising-core_rows dims margins a) (IsRising-core_rows dims margins b)

all_both : {A : Type 0} (P : A → Type 0) (a b : List A) → AllByRecursion P a → AllByRecursion P b → AllByRecursion P (a ++ b)
all_both P [] b p q = q
all_both P (x ∷ a) b p q = (p.0, all_both P a b p.1 q)

-- ---- steps

pub takes_none : (schema : Schema) (margins : List ℕ) (area : Bounds) (chunks cuts : List Chunk) → within area (core_rows schema.dimensions margins chunks) ≡ [] → TakesCuts schema margins area chunks cuts cuts
takes_none schema margins area chunks cuts e = record {
  rows = sym (ap (put_all (core_rows schema.dimensions margins cuts)) e ∙ put_all-none (core_rows schema.dimensions margins cuts) (IsRising-core_rows schema.dimensions margins cuts));
  places = λ a. a;
  rise = λ a. a;
}

pub takes_one : (schema : Schema) (margins : List ℕ) (area : Bounds) (chunk cut : Chunk) (old new : List Chunk) → HasPlaces schema margins chunk → CoresRise schema.dimensions margins (chunk ∷ []) → IsMadeBy (within area) schema.dimensions margins chunk cut
    → new ≡ old ++ cut ∷ [] → TakesCuts schema margins area (chunk ∷ []) old new
takes_one schema margins area chunk cut old new placed rise made e =
    let dims = schema.dimensions in
    let own = within (core dims chunk.at.items) (chunk_rows dims margins chunk) in
    let there = cut_core dims margins area chunk cut made in
    let framed : HasFrame schema margins cut.at.items = subst (λ (at : ArrayVec ℕ). HasFrame schema margins at.items) (sym made.number) placed.framed in
    record {
      rows =
          ap (core_rows dims margins) e
          ∙ core_rows-append dims margins old (cut ∷ [])
          ∙ ap (λ (z : List Row). put_all (core_rows dims margins old) (put_all z [])) there
          ∙ ap (put_all (core_rows dims margins old)) (sym (rows_where-put_all (is_inside area) own [] tt));
      places = λ a. subst (AllByRecursion (HasPlaces schema margins)) (sym e) (all_both (HasPlaces schema margins) old (cut ∷ []) a (record { framed = framed; placed = made.placed }, tt));
      rise = λ a. subst (CoresRise dims margins) (sym e)
          (all_both (λ (c : Chunk). IsRising (within (core dims c.at.items) (chunk_rows dims margins c))) old (cut ∷ []) a (subst IsRising (sym there) (IsRising-rows_where (is_inside area) own rise.0), tt));
    }

pub takes_both : (schema : Schema) (margins : List ℕ) (area : Bounds) (chunks a b old mid new : List Chunk) → chunks ≡ a ++ b → TakesCuts schema margins area a old mid → TakesCuts schema margins area b mid new → TakesCuts schema margins area chunks old new
takes_both schema margins area chunks a b old mid new e f g =
    let dims = schema.dimensions in
    let first = within area (core_rows dims margins a) in
    let second = within area (core_rows dims margins b) in
    let rising = λ (cs : List Chunk). IsRising-rows_where (is_inside area) (core_rows dims margins cs) (IsRising-core_rows dims margins cs) in
    record {
      rows =
          g.rows
          ∙ ap (λ (z : List Row). put_all z second) f.rows
          ∙ sym (put_all-assoc (core_rows dims margins old) first second (rising a) (rising b))
          ∙ ap (put_all (core_rows dims margins old))
          (sym (rows_where-put_all (is_inside area) (core_rows dims margins a) (core_rows dims margins b) (IsRising-core_rows dims margins b))
          ∙ ap (within area) (sym (core_rows-append dims margins a b) ∙ ap (core_rows dims margins) (sym e)));
      places = λ h. g.places (f.places h);
      rise = λ h. g.rise (f.rise h);
    }

-- ---- parts of lists

pub all_take : {A : Type 0} (P : A → Type 0) (n : ℕ) (xs : List A) → AllByRecursion P xs → AllByRecursion P (take n xs)
all_take P zero xs a = tt
all_take P (suc n) [] a = tt
all_take P (suc n) (x ∷ xs) a = (a.0, all_take P n xs a.1)

pub all_drop : {A : Type 0} (P : A → Type 0) (n : ℕ) (xs : List A) → AllByRecursion P xs → AllByRecursion P (drop n xs)
all_drop P zero xs a = a
all_drop P (suc n) [] a = tt
all_drop P (suc n) (x ∷ xs) a = all_drop P n xs a.1

-- what holds of the numbers of chunks
pub numbers_take : (P : ChunkNumber → Type 0) (n : ℕ) (chunks : List Chunk) → AllByRecursion P (numbers chunks) → AllByRecursion P (numbers (take n chunks))
numbers_take P zero chunks a = tt
numbers_take P (suc n) [] a = tt
numbers_take P (suc n) (chunk ∷ chunks) a = (a.0, numbers_take P n chunks a.1)

pub numbers_drop : (P : ChunkNumber → Type 0) (n : ℕ) (chunks : List Chunk) → AllByRecursion P (numbers chunks) → AllByRecursion P (numbers (drop n chunks))
numbers_drop P zero chunks a = a
numbers_drop P (suc n) [] a = tt
numbers_drop P (suc n) (chunk ∷ chunks) a = numbers_drop P n chunks a.1

pub rise_take : (n : ℕ) (chunks : List Chunk) → NumbersRise (numbers chunks) → NumbersRise (numbers (take n chunks))
rise_take zero chunks r = tt
rise_take (suc n) [] r = tt
rise_take (suc n) (chunk ∷ chunks) r = (later n chunks r.0, rise_take n chunks r.1)
  where
    later : (n : ℕ) (cs : List Chunk) → AllByRecursion (λ k. number_order chunk.at.items k ≡ Less) (numbers cs) → AllByRecursion (λ k. number_order chunk.at.items k ≡ Less) (numbers (take n cs))
    later zero cs a = tt
    later (suc n) [] a = tt
    later (suc n) (c ∷ cs) a = (a.0, later n cs a.1)

pub rise_drop : (n : ℕ) (chunks : List Chunk) → NumbersRise (numbers chunks) → NumbersRise (numbers (drop n chunks))
rise_drop zero chunks r = r
rise_drop (suc n) [] r = tt
rise_drop (suc n) (chunk ∷ chunks) r = rise_drop n chunks r.1

pub at_index : {A : Type 0} (P : A → Type 0) (xs : List A) (i : ℕ) (x : A) → AllByRecursion P xs → i < length xs → x ≡ get_or xs i x → P x
at_index P [] i x a l e = absurd (omega (arith, l))
at_index P (y ∷ xs) zero x a l e = subst P (sym e) a.0
at_index P (y ∷ xs) (suc i) x a l e = at_index P xs i x a.1 (omega (arith, l)) e

-- the list of one chunk
pub alone : (chunks : List Chunk) (chunk : Chunk) → length chunks ≡ 1 → chunk ≡ get_or chunks 0 chunk → chunk ∷ [] ≡ chunks
alone [] chunk l e = absurd (omega (arith, l))
alone (c ∷ []) chunk l e = ap (λ (z : Chunk). z ∷ []) e
alone (c ∷ d ∷ chunks) chunk l e = absurd (omega (arith, l))

pub no_chunks : (schema : Schema) (margins : List ℕ) (area : Bounds) (chunks : List Chunk) → length chunks ≡ 0 → within area (core_rows schema.dimensions margins chunks) ≡ []
no_chunks schema margins area [] l = refl
no_chunks schema margins area (c ∷ chunks) l = absurd (omega (arith, l))

pub each_core : (schema : Schema) (margins : List ℕ) (chunks : List Chunk) → AllByRecursion (HasPlaces schema margins) chunks → AllByRecursion (λ chunk. has_core schema.dimensions chunk.at.items ≡ true) chunks
each_core schema margins [] a = tt
each_core schema margins (chunk ∷ chunks) a = (a.0.framed.core, each_core schema margins chunks a.1)

cut_in_two : {A : Type 0} (n : ℕ) (xs : List A) → xs ≡ take n xs ++ drop n xs
cut_in_two zero xs = refl
cut_in_two (suc n) [] = refl
cut_in_two (suc n) (x ∷ xs) = ap (λ ys. x ∷ ys) (cut_in_two n xs)

pub both_sides : (n : ℕ) (chunks front back : List Chunk) → front ≡ take n chunks → back ≡ drop n chunks → chunks ≡ front ++ back
both_sides n chunks front back e f = cut_in_two n chunks ∙ ap (λ (a : List Chunk). a ++ drop n chunks) (sym e) ∙ ap (λ (b : List Chunk). front ++ b) (sym f)

pub some_chunks : (n : ℕ) → (n == 0) ≡ false → 0 < n
some_chunks zero e = absurd cc
some_chunks (suc n) e = omega arith

pub two_or_more : (n : ℕ) → 0 < n → (n ≡ 1 → ⊥) → 0 < n / 2
two_or_more zero some one = absurd (omega arith)
two_or_more (suc zero) some one = absurd (one refl)
two_or_more (suc (suc n)) some one = omega arith

pub cores_take : (dims : List Dimension) (margins : List ℕ) (n : ℕ) (chunks : List Chunk) → CoresRise dims margins chunks → CoresRise dims margins (take n chunks)
cores_take dims margins n chunks a = all_take (λ (c : Chunk). IsRising (within (core dims c.at.items) (chunk_rows dims margins c))) n chunks a

pub cores_drop : (dims : List Dimension) (margins : List ℕ) (n : ℕ) (chunks : List Chunk) → CoresRise dims margins chunks → CoresRise dims margins (drop n chunks)
cores_drop dims margins n chunks a = all_drop (λ (c : Chunk). IsRising (within (core dims c.at.items) (chunk_rows dims margins c))) n chunks a

-- the rows of what was taken of chunks, where nothing was before
pub all_gathered : (schema copy : Schema) (margins copied : ArrayVec ℕ) (area : Bounds) (chunks old cuts : List Chunk) (rows : List Row) → copy ≡ schema → copied ≡ margins → old ≡ [] → TakesCuts schema margins.items area chunks old cuts
    → rows ≡ core_rows copy.dimensions copied.items cuts → rows ≡ within area (core_rows schema.dimensions margins.items chunks)
all_gathered schema copy margins copied area chunks old cuts rows e f none is same =
    same
    ∙ ap (λ (s : Schema). core_rows s.dimensions copied.items cuts) e
    ∙ ap (λ (m : ArrayVec ℕ). core_rows schema.dimensions m.items cuts) f
    ∙ is.rows
    ∙ ap (λ (cs : List Chunk). put_all (core_rows schema.dimensions margins.items cs) (within area (core_rows schema.dimensions margins.items chunks))) none
