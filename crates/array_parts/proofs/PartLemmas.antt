-- Chunks that are parts of rows.
use Rattle.std.proofs.Common.{◌≡◌, ℕ, Bool, true, false, cond, ◌&&◌, ◌||◌, List, [], ◌∷◌, length, filter, refl, sym, ap, ◌∙◌, subst}
use Rattle.std.specs.List.{AllByRecursion, AllZip}
use Rattle.std.specs.Ordering.{is_eq}
use Rattle.std.specs.declared.cmp.Ordering.TheVariants.{Less}
use Rattle.std.proofs.lemmas.Cmp.{lists_total, nat_cmp_total, tied_itself}
use Rattle.cell_values.specs.declared.datum.Row.{Row}
use Rattle.cell_values.specs.declared.schema.Bounds.{Bounds}
use Rattle.cell_values.specs.declared.schema.Dimension.{Dimension}
use Rattle.array_geom.specs.Boxes.{is_inside, within}
use Rattle.array_geom.proofs.RowsLemmas.{cond_out, within-cell_wise}
use Rattle.array_geom.specs.declared.chunk.Chunk.{Chunk}
use Rattle.array_geom.specs.Geometry.{ChunkNumber, core, frame}
use Rattle.array_geom.specs.Link.{IsPart, number_order, NumbersRise, numbers, is_listed, is_not_empty, has_cell, AreChunksOf}
use Rattle.array_geom.proofs.CoreLaws.{core_in_frame}
use Rattle.array_geom.proofs.LinkLaws.{within-within}
use Rattle.array_geom.proofs.NumberLaws.{is_equal, same_number}
use Rattle.array_parts.specs.Made.{IsMadeBy}
use Rattle.array_parts.specs.PartsLaws.{MadePartsAreParts, ChangesAreLocal, CutsAreLocal}
use Rattle.array_parts.specs.Parts.{AreParts, holds_cell, IsLocal}

-- ---- numbers

pub all_kept : {A : Type 0} (P : A → Type 0) (p : A → Bool) (xs : List A) → AllByRecursion P xs → AllByRecursion P (filter p xs)
all_kept P p [] a = tt
all_kept P p (x ∷ xs) a = keep (p x) (all_kept P p xs a.1)
  where
    keep : (b : Bool) → AllByRecursion P (filter p xs) → AllByRecursion P (cond b (x ∷ filter p xs) (filter p xs))
    keep true r = (a.0, r)
    keep false r = r

-- what holds of the numbers of chunks holds of those that pass
pub numbers_passed : (P : ChunkNumber → Type 0) (p : Chunk → Bool) (chunks : List Chunk) → AllByRecursion P (numbers chunks) → AllByRecursion P (numbers (filter p chunks))
numbers_passed P p [] a = tt
numbers_passed P p (chunk ∷ chunks) a = keep (p chunk) (numbers_passed P p chunks a.1)
  where
    keep : (b : Bool) → AllByRecursion P (numbers (filter p chunks)) → AllByRecursion P (numbers (cond b (chunk ∷ filter p chunks) (filter p chunks)))
    keep true r = (a.0, r)
    keep false r = r

rising_kept : (p : ChunkNumber → Bool) (ks : List ChunkNumber) → NumbersRise ks → NumbersRise (filter p ks)
rising_kept p [] a = tt
rising_kept p (k ∷ ks) a = keep (p k) (rising_kept p ks a.1)
  where
    keep : (b : Bool) → NumbersRise (filter p ks) → NumbersRise (cond b (k ∷ filter p ks) (filter p ks))
    keep true r = (all_kept (λ later. number_order k later ≡ Less) p ks a.0, r)
    keep false r = r

-- the numbers of the chunks that pass
pub rising_passed : (p : Chunk → Bool) (chunks : List Chunk) → NumbersRise (numbers chunks) → NumbersRise (numbers (filter p chunks))
rising_passed p [] a = tt
rising_passed p (chunk ∷ chunks) a = keep (p chunk) (rising_passed p chunks a.1)
  where
    keep : (b : Bool) → NumbersRise (numbers (filter p chunks)) → NumbersRise (numbers (cond b (chunk ∷ filter p chunks) (filter p chunks)))
    keep true r = (numbers_passed (λ later. number_order chunk.at.items later ≡ Less) p chunks a.0, r)
    keep false r = r

-- a test that two equal elements pass alike, in a search through what passes
passed_or : (q b c r x : Bool) → (q ≡ true → b ≡ c) → x ≡ (c && r) → cond b (q || x) x ≡ (c && (q || r))
passed_or false true c r x h e = e
passed_or false false c r x h e = e
passed_or true true true r x h e = refl
passed_or true false false r x h e = e
passed_or true true false r x h e = h refl
passed_or true false true r x h e = let f : false ≡ true = h refl in cc

-- a number is among those that pass exactly where it passes and is there
listed_kept : (p : ChunkNumber → Bool) (k : ChunkNumber) (ks : List ChunkNumber) → is_listed k (filter p ks) ≡ (p k && is_listed k ks)
listed_kept p k [] = none (p k)
  where
    none : (b : Bool) → false ≡ (b && false)
    none true = refl
    none false = refl
listed_kept p k (n ∷ ks) =
    cond_out (is_listed k) (p n) (n ∷ filter p ks) (filter p ks)
    ∙ passed_or (is_eq (number_order n k)) (p n) (p k) (is_listed k ks) (is_listed k (filter p ks)) (λ t. ap p (same_number n k (is_equal (number_order n k) t))) (listed_kept p k ks)

or_right : (q r : Bool) → r ≡ true → (q || r) ≡ true
or_right true r e = refl
or_right false r e = e

or_left : (q r : Bool) → q ≡ true → (q || r) ≡ true
or_left true r e = refl
or_left false r e = cc

itself : (k : ChunkNumber) → is_eq (number_order k k) ≡ true
itself k = ap is_eq (tied_itself (lists_total nat_cmp_total) k)

all_mono : {A : Type 0} (P Q : A → Type 0) (xs : List A) → ((x : A) → P x → Q x) → AllByRecursion P xs → AllByRecursion Q xs
all_mono P Q [] h a = tt
all_mono P Q (x ∷ xs) h a = (h x a.0, all_mono P Q xs h a.1)

-- each number is among its own list
pub each_listed : (ks : List ChunkNumber) → AllByRecursion (λ k. is_listed k ks ≡ true) ks
each_listed [] = tt
each_listed (k ∷ ks) = (or_left (is_eq (number_order k k)) (is_listed k ks) (itself k), all_mono (λ j. is_listed j ks ≡ true) (λ j. is_listed j (k ∷ ks) ≡ true) ks (λ j e. or_right (is_eq (number_order k j)) (is_listed j ks) e) (each_listed ks))

-- ---- cores

-- a part holds a cell in its core exactly where the rows do
holds_has : (dims : List Dimension) (margins : List ℕ) (rows : List Row) (chunk : Chunk) → length margins ≡ length dims → IsPart dims margins rows chunk → holds_cell dims margins chunk ≡ has_cell dims rows chunk.at.items
holds_has dims margins rows chunk n part =
    ap (λ z. is_not_empty (within (core dims chunk.at.items) z)) part.cells
    ∙ ap is_not_empty (within-within (core dims chunk.at.items) (frame dims margins chunk.at.items) rows (λ c. core_in_frame dims margins chunk.at.items c n))

numbers_kept : (dims : List Dimension) (margins : List ℕ) (rows : List Row) (chunks : List Chunk) → length margins ≡ length dims → AllByRecursion (IsPart dims margins rows) chunks → numbers (filter (holds_cell dims margins) chunks) ≡ filter (has_cell dims rows) (numbers chunks)
numbers_kept dims margins rows [] n parts = refl
numbers_kept dims margins rows (chunk ∷ chunks) n parts =
    cond_out numbers (holds_cell dims margins chunk) (chunk ∷ filter (holds_cell dims margins) chunks) (filter (holds_cell dims margins) chunks)
    ∙ ap (λ b. cond b (chunk.at.items ∷ numbers (filter (holds_cell dims margins) chunks)) (numbers (filter (holds_cell dims margins) chunks))) (holds_has dims margins rows chunk n parts.0)
    ∙ ap (λ z. cond (has_cell dims rows chunk.at.items) (chunk.at.items ∷ z) z) (numbers_kept dims margins rows chunks n parts.1)

and_true : (p q : Bool) → (p ≡ true → q ≡ true) → (p && q) ≡ p
and_true true q h = h refl
and_true false q h = refl

pub held_are_chunks : (dims : List Dimension) (margins : List ℕ) (rows : List Row) (chunks : List Chunk) → AreParts dims margins rows chunks → length margins ≡ length dims → AreChunksOf dims margins rows (filter (holds_cell dims margins) chunks)
held_are_chunks dims margins rows chunks are n =
    let e = numbers_kept dims margins rows chunks n are.parts in
    record {
      in_order = subst NumbersRise (sym e) (rising_kept (has_cell dims rows) (numbers chunks) are.in_order);
      sized = subst (AllByRecursion (λ k. length k ≡ length dims)) (sym e) (all_kept (λ k. length k ≡ length dims) (has_cell dims rows) (numbers chunks) are.sized);
      listed = λ k l. ap (is_listed k) e ∙ listed_kept (has_cell dims rows) k (numbers chunks) ∙ and_true (has_cell dims rows k) (is_listed k (numbers chunks)) (are.enough k l);
      parts = all_kept (IsPart dims margins rows) (holds_cell dims margins) chunks are.parts;
    }

pub chunks_are_parts : (dims : List Dimension) (margins : List ℕ) (rows : List Row) (chunks : List Chunk) → AreChunksOf dims margins rows chunks → AreParts dims margins rows chunks
chunks_are_parts dims margins rows chunks are = record { in_order = are.in_order; sized = are.sized; enough = λ k l e. are.listed k l ∙ e; parts = are.parts }

-- ---- what an operator makes

-- where there is a row afterwards, there was one before
held_before : (operator : List Row → List Row) (rows : List Row) → operator [] ≡ [] → is_not_empty (operator rows) ≡ true → is_not_empty rows ≡ true
held_before operator [] n e = sym (ap is_not_empty n) ∙ e
held_before operator (row ∷ rows) n e = refl

made_part : (operator : List Row → List Row) (dims : List Dimension) (margins : List ℕ) (rows : List Row) (old new : Chunk) → IsLocal operator → IsMadeBy operator dims margins old new → IsPart dims margins rows old → IsPart dims margins (operator rows) new
made_part operator dims margins rows old new local made part = record {
  each = made.placed.each;
  in_frame = made.placed.in_frame;
  cells = made.rows ∙ ap operator part.cells ∙ sym (local.boxes (frame dims margins old.at.items) rows) ∙ ap (λ k. within (frame dims margins k.items) (operator rows)) (sym made.number);
}

pub same_numbers : (operator : List Row → List Row) (dims : List Dimension) (margins : List ℕ) (old new : List Chunk) → AllZip (IsMadeBy operator dims margins) old new → numbers new ≡ numbers old
same_numbers operator dims margins [] [] a = refl
same_numbers operator dims margins [] (n ∷ new) a = absurd a
same_numbers operator dims margins (o ∷ old) [] a = absurd a
same_numbers operator dims margins (o ∷ old) (n ∷ new) a =
    ap (λ k. k.items ∷ numbers new) a.0.number ∙ ap (λ ks. o.at.items ∷ ks) (same_numbers operator dims margins old new a.1)

made_of_parts : (operator : List Row → List Row) (dims : List Dimension) (margins : List ℕ) (rows : List Row) (old new : List Chunk) → IsLocal operator → AllZip (IsMadeBy operator dims margins) old new → AllByRecursion (IsPart dims margins rows) old → AllByRecursion (IsPart dims margins (operator rows)) new
made_of_parts operator dims margins rows [] [] l a p = tt
made_of_parts operator dims margins rows [] (n ∷ new) l a p = absurd a
made_of_parts operator dims margins rows (o ∷ old) [] l a p = absurd a
made_of_parts operator dims margins rows (o ∷ old) (n ∷ new) l a p = (made_part operator dims margins rows o n l a.0 p.0, made_of_parts operator dims margins rows old new l a.1 p.1)

pub made_are_parts : MadePartsAreParts
made_are_parts operator dims margins rows old new local are a =
    let e = same_numbers operator dims margins old new a in
    record {
      in_order = subst NumbersRise (sym e) are.in_order;
      sized = subst (AllByRecursion (λ k. length k ≡ length dims)) (sym e) are.sized;
      enough = λ k l h. ap (is_listed k) e ∙ are.enough k l (held_before operator (within (core dims k) rows) local.none (sym (ap is_not_empty (local.boxes (core dims k) rows)) ∙ h));
      parts = made_of_parts operator dims margins rows old new local a are.parts;
    }

pub changes_are_local : ChangesAreLocal
changes_are_local change = record { boxes = λ area rows. within-cell_wise area change rows; none = refl }

-- ---- cuts

swapped : (p q : Bool) (row : Row) (rows : List Row) → cond p (cond q (row ∷ rows) rows) rows ≡ cond q (cond p (row ∷ rows) rows) rows
swapped true true row rows = refl
swapped true false row rows = refl
swapped false true row rows = refl
swapped false false row rows = refl

cuts_swap : (a b : Bounds) (rows : List Row) → within a (within b rows) ≡ within b (within a rows)
cuts_swap a b [] = refl
cuts_swap a b (row ∷ rows) =
    cond_out (within a) (is_inside b row.at.items) (row ∷ within b rows) (within b rows)
    ∙ ap (λ (z : List Row). cond (is_inside b row.at.items) (cond (is_inside a row.at.items) (row ∷ z) z) z) (cuts_swap a b rows)
    ∙ swapped (is_inside b row.at.items) (is_inside a row.at.items) row (within b (within a rows))
    ∙ sym (cond_out (within b) (is_inside a row.at.items) (row ∷ within a rows) (within a rows))

pub cuts_are_local : CutsAreLocal
cuts_are_local area = record { boxes = λ box rows. cuts_swap box area rows; none = refl }
