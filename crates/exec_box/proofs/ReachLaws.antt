-- The chunks into which cells come are listed.
use Rattle.std.proofs.Common.{◌≡◌, ℕ, zero, suc, ◌+◌, ◌<◌, ◌≤◌, ◌^◌, ℤ, ◌≤ℤ◌, Bool, true, false, cond, ◌&&◌, ◌||◌, List, [], ◌∷◌, length, map, take, refl, sym, ap, ◌∙◌, subst, add-one, arith}
use Rattle.std.proofs.lemmas.Int.{ints, clamps}
use Rattle.std.proofs.lemmas.List.{take_all}
use Rattle.std.specs.Int.{int_min}
use Rattle.std.specs.List.{AllByRecursion, AllZip}
use Rattle.std.specs.Ordering.{is_eq}
use Rattle.std.specs.Prelude.{int_le, slice_index_or, Result, Ok, Err, IfOk}
use Rattle.std.specs.declared.cmp.Ordering.{Ordering}
use Rattle.std.specs.declared.cmp.Ordering.TheVariants.{Less, Equal, Greater}
use Rattle.arrayvec.specs.ArrayVec.{ArrayVec}
use Rattle.cell_values.specs.declared.datum.Row.{Row}
use Rattle.cell_values.specs.declared.memory.Memory.{Memory}
use Rattle.cell_values.specs.declared.schema.Bounds.{Bounds}
use Rattle.cell_values.specs.declared.schema.Dimension.{Dimension}
use Rattle.cell_values.specs.declared.schema.Schema.{Schema}
use Rattle.cell_values.specs.Schemas.{IsValid}
use Rattle.array_rows.specs.Boxes.{is_inside, within}
use Rattle.array_rows.specs.Rows.{Coordinate, put_all, put_by, put_row, row_major, rows_where}
use Rattle.array_geom.specs.declared.chunk.Chunk.{Chunk}
use Rattle.array_geom.specs.Geometry.{ChunkNumber, HasFrame, chunk_of, core, first_in, frame_lengths, has_core, last_in, volume}
use Rattle.array_geom.specs.Inner.Ranges.{AreNear}
use Rattle.array_geom.specs.Link.{NumbersRise, chunk_rows, core_rows, has_cell, is_listed, is_not_empty, number_order, numbers}
use Rattle.array_geom.proofs.CoreLaws.{core_of}
use Rattle.array_geom.proofs.NumberLaws.{is_equal, same_number}
use Rattle.array_geom.proofs.TestLaws.{and_both, and_parts, le_from_test, le_test}
use Rattle.array_parts.specs.Parts.{AreParts}
use Rattle.array_parts.specs.Placed.{HasPlaces, HavePlaces}
use Rattle.chunk_cells.specs.Inner.Numbers.{numbers_in}
use Rattle.chunk_cells.proofs.SortedLaws.{all_listed}
use Rattle.area_cells.specs.Pieces.{IsPartAt}
use Rattle.area_cells.proofs.CutLaws.{at_index}
use Rattle.area_cells.proofs.PieceLaws.{parts_each}
use Rattle.exec_box.specs.Inner.Reached.{AddsReached, AreReached, HaveCores, Reaches}

-- ---- chunk after chunk

pub all_take_more : {A : Type 0} (P : A → Type 0) (xs : List A) (k : ℕ) (x : A) → k < length xs → x ≡ slice_index_or xs k x → AllByRecursion P (take k xs) → P x → AllByRecursion P (take (suc k) xs)
all_take_more P [] k x l e a p = absurd (omega (arith, l))
all_take_more P (y ∷ xs) zero x l e a p = (subst P e p, tt)
all_take_more P (y ∷ xs) (suc k) x l e a p = (a.0, all_take_more P xs k x (omega (arith, l)) e a.1 p)

pub all_follow : {A : Type 0} (P Q : A → Type 0) → ((x : A) → P x → Q x) → (xs : List A) → AllByRecursion P xs → AllByRecursion Q xs
all_follow P Q f [] a = tt
all_follow P Q f (x ∷ xs) a = (f x a.0, all_follow P Q f xs a.1)

-- what holds of each number holds of one that is listed
pub listed_holds : (P : ChunkNumber → Type 0) (ks : List ChunkNumber) (k : ChunkNumber) → AllByRecursion P ks → is_listed k ks ≡ true → P k
listed_holds P [] k a e = absurd cc
listed_holds P (n ∷ ks) k a e = cases (is_eq (number_order n k)) refl e (listed_holds P ks k a.1)
  where
    cases : (t : Bool) → is_eq (number_order n k) ≡ t → (t || is_listed k ks) ≡ true → (is_listed k ks ≡ true → P k) → P k
    cases true f e more = subst P (same_number n k (is_equal (number_order n k) f)) a.0
    cases false f e more = more e

module _ (old dims : List Dimension) (test : Coordinate → Bool) (number : Coordinate → ChunkNumber) where
  pub none_reached : (chunks : List Chunk) (found : List (ArrayVec ℕ)) → found ≡ [] → AreReached old dims test number (take 0 chunks) found
  none_reached chunks found e = record { cores = subst (HaveCores dims) (sym e) tt; reached = tt }

  pub more_reached : (chunks : List Chunk) (k : ℕ) (chunk : Chunk) (found new : List (ArrayVec ℕ)) → k < length chunks → chunk ≡ slice_index_or chunks k chunk → AreReached old dims test number (take k chunks) found
      → AddsReached dims test number (core old chunk.at.items) found new → AreReached old dims test number (take (k + 1) chunks) new
  more_reached chunks k chunk found new l e is adds =
      let in_new : Chunk → Type 0 = λ c. Reaches dims test number (core old c.at.items) new in
      record {
        cores = adds.cores is.cores;
        reached = subst (λ (n : ℕ). AllByRecursion in_new (take n chunks)) (sym (add-one k))
            (all_take_more in_new chunks k chunk l e
            (all_follow (λ (c : Chunk). Reaches dims test number (core old c.at.items) found) in_new (λ c r. λ at inside passes has. adds.kept (number at) (r at inside passes has)) (take k chunks) is.reached)
            adds.reached);
      }

  pub all_reached : (chunks : List Chunk) (k : ℕ) (found : List (ArrayVec ℕ)) → length chunks ≤ k → AreReached old dims test number (take k chunks) found → AreReached old dims test number chunks found
  all_reached chunks k found l is = subst (λ (cs : List Chunk). AreReached old dims test number cs found) (take_all k chunks l) is

  sorted : (chunks : List Chunk) (found listed : List (ArrayVec ℕ)) → AreReached old dims test number chunks found → ((k : ChunkNumber) → is_listed k (numbers_in listed) ≡ is_listed k (numbers_in found)) → AreReached old dims test number chunks listed
  sorted chunks found listed is same = record {
    cores = all_listed (λ (k : ChunkNumber). has_core dims k ≡ true) (numbers_in listed) (λ k e. listed_holds (λ (n : ChunkNumber). has_core dims n ≡ true) (numbers_in found) k is.cores (sym (same k) ∙ e));
    reached = all_follow (λ (c : Chunk). Reaches dims test number (core old c.at.items) found) (λ (c : Chunk). Reaches dims test number (core old c.at.items) listed) (λ c r. λ at inside passes has. same (number at) ∙ r at inside passes has) chunks is.reached;
  }

  pub sorted_reached : (chunks : List Chunk) (found : List (ArrayVec ℕ)) (r : Result (List (ArrayVec ℕ)) Memory) → AreReached old dims test number chunks found
      → IfOk r (λ listed. (k : ChunkNumber) → is_listed k (numbers_in listed) ≡ is_listed k (numbers_in found)) → IfOk r (AreReached old dims test number chunks)
  sorted_reached chunks found (Ok listed) is same = sorted chunks found listed is same
  sorted_reached chunks found (Err memory) is same = tt

pub core_at : (schema : Schema) (margins : List ℕ) (chunks : List Chunk) (k : ℕ) (chunk : Chunk) → AllByRecursion (HasPlaces schema margins) chunks → k < length chunks → chunk ≡ slice_index_or chunks k chunk → has_core schema.dimensions chunk.at.items ≡ true
core_at schema margins chunks k chunk all l e = (at_index (HasPlaces schema margins) chunks k chunk all l e).framed.core

-- ---- each chunk into which a cell comes

all_put_row : (P : Row → Type 0) (new : Row) (rows : List Row) → P new → AllByRecursion P rows → AllByRecursion P (put_row new rows)
all_put_row P new [] p a = (p, tt)
all_put_row P new (row ∷ rows) p a = cases (row_major new.at.items row.at.items) (all_put_row P new rows p a.1)
  where
    cases : (t : Ordering) → AllByRecursion P (put_row new rows) → AllByRecursion P (put_by t new row rows (put_row new rows))
    cases Less r = (p, a)
    cases Equal r = (p, a.1)
    cases Greater r = (a.0, r)

all_put_all : (P : Row → Type 0) (a b : List Row) → AllByRecursion P a → AllByRecursion P b → AllByRecursion P (put_all a b)
all_put_all P [] b p q = q
all_put_all P (row ∷ a) b p q = all_put_row P row (put_all a b) p.0 (all_put_all P a b p.1 q)

all_inside : (P : Row → Type 0) (area : Bounds) (rows : List Row) → ((row : Row) → is_inside area row.at.items ≡ true → P row) → AllByRecursion P (within area rows)
all_inside P area [] h = tt
all_inside P area (row ∷ rows) h = cases (is_inside area row.at.items) refl (all_inside P area rows h)
  where
    cases : (t : Bool) → is_inside area row.at.items ≡ t → AllByRecursion P (within area rows) → AllByRecursion P (cond t (row ∷ within area rows) (within area rows))
    cases true e r = (h row e, r)
    cases false e r = r

-- what holds of each coordinate of each core
pub all_cores : (P : Coordinate → Type 0) (dims : List Dimension) (margins : List ℕ) (chunks : List Chunk) → AllByRecursion (λ chunk. (c : Coordinate) → is_inside (core dims chunk.at.items) c ≡ true → P c) chunks
    → AllByRecursion (λ row. P row.at.items) (core_rows dims margins chunks)
all_cores P dims margins [] a = tt
all_cores P dims margins (chunk ∷ chunks) a =
    all_put_all (λ row. P row.at.items) (within (core dims chunk.at.items) (chunk_rows dims margins chunk)) (core_rows dims margins chunks)
    (all_inside (λ row. P row.at.items) (core dims chunk.at.items) (chunk_rows dims margins chunk) (λ row e. a.0 row.at.items e)) (all_cores P dims margins chunks a.1)

abbrev least : Dimension → ℕ → ℤ
least d n = int_min d.hi (last_in d n)

up_to : (f x h last : ℤ) → f ≤ℤ x → x ≤ℤ int_min h last → f ≤ℤ h
up_to f x h last low high = omega (arith, ints, clamps)

-- a core that has a coordinate is one
core_with : (dims : List Dimension) (k : ChunkNumber) (c : Coordinate) → length k ≡ length dims → is_inside (core dims k) c ≡ true → has_core dims k ≡ true
core_with [] [] c l e = refl
core_with [] (n ∷ k) c l e = absurd (omega (arith, l))
core_with (d ∷ dims) [] c l e = absurd (omega (arith, l))
core_with (d ∷ dims) (n ∷ k) [] l e = absurd cc
core_with (d ∷ dims) (n ∷ k) (x ∷ c) l e =
    let t = and_parts (int_le (first_in d n) x && int_le x (least d n)) (is_inside (core dims k) c) e in
    let u = and_parts (int_le (first_in d n) x) (int_le x (least d n)) t.0 in
    let low = le_from_test (first_in d n) x u.0 in
    let high = le_from_test x (least d n) u.1 in
    and_both _ _ (le_test (first_in d n) d.hi (up_to (first_in d n) x d.hi (last_in d n) low high)) (core_with dims k c (omega (arith, l)) t.1)

-- a row made of another one lies in a core that is listed
pub made_listed : (dims : List Dimension) (test : Coordinate → Bool) (made : Row → Row) (number : Coordinate → ChunkNumber) (P : Coordinate → Type 0) (found : List (ArrayVec ℕ)) (rows : List Row) (k : ChunkNumber) → AreNear dims
    → ((row : Row) → P row.at.items → test row.at.items ≡ true → chunk_of dims (made row).at.items ≡ number row.at.items) → AllByRecursion (λ row. P row.at.items) rows
    → AllByRecursion (λ row. test row.at.items ≡ true → has_core dims (number row.at.items) ≡ true → is_listed (number row.at.items) (numbers_in found) ≡ true) rows
    → length k ≡ length dims → has_cell dims (map made (rows_where test rows)) k ≡ true → is_listed k (numbers_in found) ≡ true
made_listed dims test made number P found [] k near same ps ls l e = absurd cc
made_listed dims test made number P found (row ∷ rows) k near same ps ls l e = cases (test row.at.items) refl e (made_listed dims test made number P found rows k near same ps.1 ls.1 l)
  where
    rest : List Row
    rest = map made (rows_where test rows)

    at : Coordinate
    at = (made row).at.items

    here : test row.at.items ≡ true → is_inside (core dims k) at ≡ true → is_listed k (numbers_in found) ≡ true
    here t inside =
        let same_one : k ≡ number row.at.items = core_of dims k at near l inside ∙ same row ps.0 t in
        ap (λ (n : ChunkNumber). is_listed n (numbers_in found)) same_one ∙ ls.0 t (ap (has_core dims) (sym same_one) ∙ core_with dims k at l inside)

    other : (s : Bool) → test row.at.items ≡ true → is_inside (core dims k) at ≡ s → is_not_empty (cond s (made row ∷ within (core dims k) rest) (within (core dims k) rest)) ≡ true
        → (is_not_empty (within (core dims k) rest) ≡ true → is_listed k (numbers_in found) ≡ true) → is_listed k (numbers_in found) ≡ true
    other true t inside f more = here t inside
    other false t inside f more = more f

    cases : (t : Bool) → test row.at.items ≡ t → has_cell dims (map made (cond t (row ∷ rows_where test rows) (rows_where test rows))) k ≡ true
        → (has_cell dims rest k ≡ true → is_listed k (numbers_in found) ≡ true) → is_listed k (numbers_in found) ≡ true
    cases true t f more = other (is_inside (core dims k) at) t refl f more
    cases false t f more = more f

-- ---- parts by their numbers

numbers_are : (schema : Schema) (margins : List ℕ) (rows : List Row) (listed : List (ArrayVec ℕ)) (parts : List Chunk) → AllZip (IsPartAt schema margins rows) listed parts → numbers parts ≡ numbers_in listed
numbers_are schema margins rows [] [] h = refl
numbers_are schema margins rows [] (part ∷ parts) h = absurd h
numbers_are schema margins rows (k ∷ listed) [] h = absurd h
numbers_are schema margins rows (k ∷ listed) (part ∷ parts) h =
    let rest = numbers_are schema margins rows listed parts h.1 in
    λ i. (h.0.number_is i).items ∷ rest i

pub core_long : (dims : List Dimension) (k : ChunkNumber) → has_core dims k ≡ true → length k ≡ length dims
core_long [] [] e = refl
core_long [] (n ∷ k) e = absurd cc
core_long (d ∷ dims) [] e = absurd cc
core_long (d ∷ dims) (n ∷ k) e = ap suc (core_long dims k (and_parts (int_le (first_in d n) d.hi) (has_core dims k) e).1)

cores_sized : (schema : Schema) (listed : List (ArrayVec ℕ)) → HaveCores schema.dimensions listed → AllByRecursion (λ k. length k ≡ length schema.dimensions) (numbers_in listed)
cores_sized schema listed cores =
    all_follow (λ (k : ChunkNumber). has_core schema.dimensions k ≡ true) (λ (k : ChunkNumber). length k ≡ length schema.dimensions) (core_long schema.dimensions) (numbers_in listed) cores

pub parts_of_numbers : (schema : Schema) (margins : List ℕ) (rows : List Row) (listed : List (ArrayVec ℕ)) (parts : List Chunk) → AllZip (IsPartAt schema margins rows) listed parts → NumbersRise (numbers_in listed) → HaveCores schema.dimensions listed
    → ((k : ChunkNumber) → length k ≡ length schema.dimensions → has_cell schema.dimensions rows k ≡ true → is_listed k (numbers_in listed) ≡ true) → AreParts schema.dimensions margins rows parts
parts_of_numbers schema margins rows listed parts zip rise cores enough =
    let same : numbers parts ≡ numbers_in listed = numbers_are schema margins rows listed parts zip in
    record {
      in_order = subst NumbersRise (sym same) rise;
      sized = subst (AllByRecursion (λ k. length k ≡ length schema.dimensions)) (sym same) (cores_sized schema listed cores);
      enough = λ k l h. ap (is_listed k) same ∙ enough k l h;
      parts = parts_each schema margins rows listed parts zip;
    }

places_each : (schema : Schema) (margins : List ℕ) (rows : List Row) (listed : List (ArrayVec ℕ)) (parts : List Chunk) → AllZip (IsPartAt schema margins rows) listed parts → AllByRecursion (HasPlaces schema margins) parts
places_each schema margins rows [] [] h = tt
places_each schema margins rows [] (part ∷ parts) h = absurd h
places_each schema margins rows (k ∷ listed) [] h = absurd h
places_each schema margins rows (k ∷ listed) (part ∷ parts) h = (h.0.places, places_each schema margins rows listed parts h.1)

pub made_places : (schema : Schema) (margins : List ℕ) (rows : List Row) (listed : List (ArrayVec ℕ)) (parts : List Chunk) → IsValid schema → length margins ≡ length schema.dimensions → volume (frame_lengths schema.dimensions margins) ≤ 2 ^ 48
    → NumbersRise (numbers_in listed) → HaveCores schema.dimensions listed → AllZip (IsPartAt schema margins rows) listed parts → HavePlaces schema margins parts
made_places schema margins rows listed parts valid each places rise cores zip =
    let same : numbers parts ≡ numbers_in listed = numbers_are schema margins rows listed parts zip in
    record {
      valid = valid;
      each = each;
      places = places;
      rising = subst NumbersRise (sym same) rise;
      sized = subst (AllByRecursion (λ k. length k ≡ length schema.dimensions)) (sym same) (cores_sized schema listed cores);
      all = places_each schema margins rows listed parts zip;
    }

pub each_accepted : (schema : Schema) (margins : List ℕ) (A : ArrayVec ℕ → Type 0) (listed : List (ArrayVec ℕ)) → IsValid schema → length margins ≡ length schema.dimensions → volume (frame_lengths schema.dimensions margins) ≤ 2 ^ 48
    → ((n : ArrayVec ℕ) → HasFrame schema margins n.items → A n) → HaveCores schema.dimensions listed → AllByRecursion A listed
each_accepted schema margins A [] valid each places f cores = tt
each_accepted schema margins A (n ∷ listed) valid each places f cores =
    (f n (record { valid = valid; core = cores.0; each = each; places = places }), each_accepted schema margins A listed valid each places f cores.1)

-- rows made of others, in a box
pub within_made : (F : Bounds) (test near : Coordinate → Bool) (made : Row → Row) (P : Coordinate → Type 0) → ((row : Row) → P row.at.items → test row.at.items ≡ true → near row.at.items ≡ is_inside F (made row).at.items) → (rows : List Row) → AllByRecursion (λ row. P row.at.items) rows
    → within F (map made (rows_where test rows)) ≡ map made (rows_where test (rows_where near rows))
within_made F test near made P same [] ps = refl
within_made F test near made P same (row ∷ rows) ps = cases (test row.at.items) (near row.at.items) refl refl (within_made F test near made P same rows ps.1)
  where
    left : List Row
    left = map made (rows_where test rows)

    right : List Row
    right = rows_where test (rows_where near rows)

    cases : (t n : Bool) → test row.at.items ≡ t → near row.at.items ≡ n → within F left ≡ map made right
        → within F (map made (cond t (row ∷ rows_where test rows) (rows_where test rows))) ≡ map made (rows_where test (cond n (row ∷ rows_where near rows) (rows_where near rows)))
    cases false false t n r = r
    cases false true t n r = r ∙ ap (λ (s : Bool). map made (cond s (row ∷ right) right)) (sym t)
    cases true false t n r = ap (λ (s : Bool). cond s (made row ∷ within F left) (within F left)) (sym (same row ps.0 t) ∙ n) ∙ r
    cases true true t n r =
        ap (λ (s : Bool). cond s (made row ∷ within F left) (within F left)) (sym (same row ps.0 t) ∙ n)
        ∙ ap (λ (rs : List Row). made row ∷ rs) r
        ∙ ap (λ (s : Bool). map made (cond s (row ∷ right) right)) (sym t)
