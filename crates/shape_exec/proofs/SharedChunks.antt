-- Arrays whose chunks of one number have the same places.
use Rattle.std.proofs.Common.{◌≡◌, ℕ, ◌*◌, ◌/◌, ℤ, pos, ◌+ℤ◌, ◌-ℤ◌, ◌≤ℤ◌, Bool, true, false, ◌||◌, int_le, List, [], ◌∷◌, length, map, refl, sym, ap, ◌∙◌, subst, arith}
use Rattle.std.proofs.lemmas.Int.{ints}
use Rattle.std.specs.Prelude.{unsigned_abs}
use Rattle.std.specs.Cmp.{nat_cmp_is}
use Rattle.std.specs.List.{AllByRecursion}
use Rattle.std.specs.Ordering.{is_eq, ordering_then}
use Rattle.std.specs.declared.cmp.Ordering.TheVariants.{Equal}
use Rattle.arrayvec.specs.ArrayVec.{ArrayVec}
use Rattle.cell_values.specs.declared.datum.Row.{Row}
use Rattle.cell_values.specs.declared.schema.Dimension.{Dimension}
use Rattle.cell_values.specs.declared.schema.Schema.{Schema}
use Rattle.array_rows.specs.Boxes.{is_inside, within}
use Rattle.array_rows.specs.Rows.{Coordinate}
use Rattle.array_geom.specs.declared.chunk.Chunk.{Chunk}
use Rattle.array_geom.specs.Geometry.{ChunkNumber, chunk_of, core, first_in, has_core}
use Rattle.array_geom.specs.Inner.Ranges.{AreNear}
use Rattle.array_geom.specs.Link.{chunk_rows, core_rows, is_listed, number_order, numbers}
use Rattle.array_geom.proofs.CoreLaws.{core_of}
use Rattle.array_geom.proofs.NearLemmas.{valid_placed}
use Rattle.array_geom.proofs.TestLaws.{and_both, and_parts, le_from_test, le_test}
use Rattle.array_parts.specs.Cores.{HaveCells}
use Rattle.array_parts.specs.Placed.{HasPlaces}
use Rattle.area_cells.proofs.PieceLaws.{all_within}
use Rattle.chunk_cells.specs.Inner.Numbers.{numbers_in}
use Rattle.exec_box.specs.Inner.Reached.{HaveCores}
use Rattle.exec_box.proofs.ReachLaws.{all_follow}
use Rattle.shape_rows.proofs.PullLaws.{all_put_all}
use Rattle.shape_exec.specs.Inner.Merged.{ShareChunks}

same_chunk : (source target : List Dimension) (c : Coordinate) → ShareChunks source target → chunk_of target c ≡ chunk_of source c
same_chunk [] [] c h = refl
same_chunk [] (t ∷ target) c h = absurd h
same_chunk (s ∷ source) [] c h = absurd h
same_chunk (s ∷ source) (t ∷ target) [] h = refl
same_chunk (s ∷ source) (t ∷ target) (x ∷ c) h = λ i. (unsigned_abs (x -ℤ sym h.0 i) / sym h.1 i) ∷ same_chunk source target c h.3 i

no_later : (a b x y : ℤ) → a ≡ b → int_le a x ≡ true → x ≤ℤ y → int_le b y ≡ true
no_later a b x y e t l = let f = le_from_test a x t in le_test b y (subst (λ (z : ℤ). z ≤ℤ y) e (omega (arith, ints, f, l)))

same_core : (source target : List Dimension) (k : ChunkNumber) → ShareChunks source target → has_core source k ≡ true → has_core target k ≡ true
same_core [] [] k h t = t
same_core [] (d ∷ target) k h t = absurd h
same_core (s ∷ source) [] k h t = absurd h
same_core (s ∷ source) (d ∷ target) [] h t = t
same_core (s ∷ source) (d ∷ target) (n ∷ k) h t =
    let p = and_parts (int_le (first_in s n) s.hi) (has_core source k) t in
    and_both _ _ (no_later (first_in s n) (first_in d n) s.hi d.hi (λ i. h.0 i +ℤ pos (n * h.1 i)) p.0 h.2) (same_core source target k h.3 p.1)

-- ---- their numbers

number_itself : (k : ChunkNumber) → number_order k k ≡ Equal
number_itself [] = refl
number_itself (n ∷ k) = ap (λ o. ordering_then o (number_order k k)) (sym (nat_cmp_is n n Equal refl)) ∙ number_itself k

or_right : (a b : Bool) → b ≡ true → (a || b) ≡ true
or_right true b e = refl
or_right false b e = e

numbers_are : (chunks : List Chunk) → numbers_in (map (λ (chunk : Chunk). chunk.at) chunks) ≡ numbers chunks
numbers_are [] = refl
numbers_are (chunk ∷ chunks) = ap (λ (ks : List ChunkNumber). chunk.at.items ∷ ks) (numbers_are chunks)

rows_listed : (dims : List Dimension) (margins : List ℕ) (chunks : List Chunk) (all : List ChunkNumber) → AreNear dims → AllByRecursion (λ chunk. length chunk.at.items ≡ length dims) chunks
    → ((k : ChunkNumber) → is_listed k (numbers chunks) ≡ true → is_listed k all ≡ true) → AllByRecursion (λ row. is_listed (chunk_of dims row.at.items) all ≡ true) (core_rows dims margins chunks)
rows_listed dims margins [] all near sized h = tt
rows_listed dims margins (chunk ∷ chunks) all near sized h =
    let k = chunk.at.items in
    let rows = within (core dims k) (chunk_rows dims margins chunk) in
    let own : is_listed k all ≡ true = h k (ap (λ o. is_eq o || is_listed k (numbers chunks)) (number_itself k)) in
    all_put_all (λ row. is_listed (chunk_of dims row.at.items) all ≡ true) rows (core_rows dims margins chunks)
    (all_follow (λ (row : Row). is_inside (core dims k) row.at.items ≡ true) (λ row. is_listed (chunk_of dims row.at.items) all ≡ true)
    (λ row inside. subst (λ (n : ChunkNumber). is_listed n all ≡ true) (core_of dims k row.at.items near sized.0 inside) own) rows (all_within (core dims k) (chunk_rows dims margins chunk) rows refl))
    (rows_listed dims margins chunks all near sized.1 (λ n e. h n (or_right (is_eq (number_order k n)) (is_listed n (numbers chunks)) e)))

sized_numbers : (n : ℕ) (chunks : List Chunk) → AllByRecursion (λ k. length k ≡ n) (numbers chunks) → AllByRecursion (λ chunk. length chunk.at.items ≡ n) chunks
sized_numbers n [] h = tt
sized_numbers n (chunk ∷ chunks) h = (h.0, sized_numbers n chunks h.1)

module _ (source : Schema) (margins : List ℕ) (chunks : List Chunk) (target : List Dimension) (found : List (ArrayVec ℕ)) (cells : HaveCells source margins chunks) (shared : ShareChunks source.dimensions target) (e : found ≡ map (λ (chunk : Chunk). chunk.at) chunks) where
  all_are : numbers_in found ≡ numbers chunks
  all_are = ap numbers_in e ∙ numbers_are chunks

  pub shared_cores : HaveCores target found
  shared_cores = subst (AllByRecursion (λ k. has_core target k ≡ true)) (sym all_are) (each chunks cells.placed.all)
    where
      each : (some : List Chunk) → AllByRecursion (HasPlaces source margins) some → AllByRecursion (λ k. has_core target k ≡ true) (numbers some)
      each [] h = tt
      each (chunk ∷ some) h = (same_core source.dimensions target chunk.at.items shared h.0.framed.core, each some h.1)

  pub shared_listed : AllByRecursion (λ row. is_listed (chunk_of target row.at.items) (numbers_in found) ≡ true) (core_rows source.dimensions margins chunks)
  shared_listed =
      all_follow (λ (row : Row). is_listed (chunk_of source.dimensions row.at.items) (numbers chunks) ≡ true) (λ row. is_listed (chunk_of target row.at.items) (numbers_in found) ≡ true)
      (λ row t. (λ i. is_listed (same_chunk source.dimensions target row.at.items shared i) (all_are i)) ∙ t) (core_rows source.dimensions margins chunks)
      (rows_listed source.dimensions margins chunks (numbers chunks) (valid_placed source cells.placed.valid).near (sized_numbers (length source.dimensions) chunks cells.placed.sized) (λ k t. t))
