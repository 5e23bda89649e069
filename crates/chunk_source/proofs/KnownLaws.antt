-- What is known of a version by its wanted chunks is alike to it.
use Rattle.std.proofs.Common.{◌≡◌, ℕ, Bool, true, false, cond, ◌&&◌, ◌||◌, List, [], ◌∷◌, filter, length, refl, sym, ap, ◌∙◌}
use Rattle.std.specs.List.{AllByRecursion}
use Rattle.std.specs.Ordering.{is_eq}
use Rattle.arrayvec.specs.ArrayVec.{ArrayVec}
use Rattle.cell_values.specs.declared.datum.Row.{Row}
use Rattle.cell_values.specs.declared.schema.Bounds.{Bounds}
use Rattle.cell_values.specs.declared.schema.Dimension.{Dimension}
use Rattle.cell_values.specs.declared.schema.Schema.{Schema}
use Rattle.cell_values.specs.Cells.{IsCellOf}
use Rattle.array_rows.specs.Arrays.{AreRowsOf}
use Rattle.array_rows.specs.Boxes.{bounds_of, is_inside, within}
use Rattle.array_rows.specs.Rows.{Coordinate, rows_where}
use Rattle.array_rows.proofs.RowsLemmas.{cond_out}
use Rattle.array_rows.proofs.RowSets.{IsRising-rows_where}
use Rattle.array_geom.specs.Geometry.{ChunkNumber, core, core_meets, frame, overlaps}
use Rattle.array_geom.specs.Link.{has_cell, is_listed, is_not_empty, number_order}
use Rattle.array_geom.proofs.CoreLaws.{core_in_frame}
use Rattle.array_geom.proofs.NumberLaws.{is_equal, same_number}
use Rattle.array_geom.proofs.TestLaws.{and_both, and_parts}
use Rattle.array_parts.proofs.PartLemmas.{all_kept}
use Rattle.logical_plan.specs.Typing.{AreSound, is_sound}
use Rattle.logical_plan.specs.declared.parts.Leaf.{Leaf}
use Rattle.plan_needs.specs.Wanted.{is_wanted, wanted_of}
use Rattle.chunk_source.specs.Source.{HasArray, numbers_of}
use Rattle.chunk_source.proofs.ReadingLeafLaws.{each_overlap}
use Rattle.chunk_source.specs.Known.{is_framed, known, known_for}
use Rattle.chunk_source.specs.PartLaws.{KnownRowsAreAlike, KnownRowsAreSound}

-- ---- rows that pass two tests

kept_inside : (p q : Coordinate → Bool) (rows : List Row) → ((c : Coordinate) → p c ≡ true → q c ≡ true) → rows_where p (rows_where q rows) ≡ rows_where p rows
kept_inside p q [] h = refl
kept_inside p q (row ∷ rows) h =
    cond_out (rows_where p) (q row.at.items) (row ∷ rows_where q rows) (rows_where q rows)
    ∙ ap (λ (z : List Row). cond (q row.at.items) (cond (p row.at.items) (row ∷ z) z) z) (kept_inside p q rows h)
    ∙ tests (p row.at.items) (q row.at.items) (h row.at.items)
  where
    tests : (s t : Bool) → (s ≡ true → t ≡ true) → cond t (cond s (row ∷ rows_where p rows) (rows_where p rows)) (rows_where p rows) ≡ cond s (row ∷ rows_where p rows) (rows_where p rows)
    tests s true i = refl
    tests false false i = refl
    tests true false i = let f : false ≡ true = i refl in cc

pub none_inside : (p q : Coordinate → Bool) (rows : List Row) → AllByRecursion (λ (row : Row). p row.at.items ≡ true → q row.at.items ≡ true → ⊥) rows → rows_where p (rows_where q rows) ≡ []
none_inside p q [] a = refl
none_inside p q (row ∷ rows) a =
    cond_out (rows_where p) (q row.at.items) (row ∷ rows_where q rows) (rows_where q rows)
    ∙ tests (p row.at.items) (q row.at.items) a.0 (none_inside p q rows a.1)
  where
    tests : (s t : Bool) → (s ≡ true → t ≡ true → ⊥) → rows_where p (rows_where q rows) ≡ []
        → cond t (cond s (row ∷ rows_where p (rows_where q rows)) (rows_where p (rows_where q rows))) (rows_where p (rows_where q rows)) ≡ []
    tests s false n e = e
    tests false true n e = e
    tests true true n e = absurd (n refl refl)

none_left : (p q : Coordinate → Bool) (rows : List Row) → rows_where p rows ≡ [] → rows_where p (rows_where q rows) ≡ []
none_left p q [] e = refl
none_left p q (row ∷ rows) e =
    cond_out (rows_where p) (q row.at.items) (row ∷ rows_where q rows) (rows_where q rows)
    ∙ tests (p row.at.items) (q row.at.items) e (none_left p q rows)
  where
    tests : (s t : Bool) → cond s (row ∷ rows_where p rows) (rows_where p rows) ≡ [] → (rows_where p rows ≡ [] → rows_where p (rows_where q rows) ≡ [])
        → cond t (cond s (row ∷ rows_where p (rows_where q rows)) (rows_where p (rows_where q rows))) (rows_where p (rows_where q rows)) ≡ []
    tests true t f r = cc
    tests false true f r = r f
    tests false false f r = r f

none_there : (rows : List Row) → is_not_empty rows ≡ false → rows ≡ []
none_there [] e = refl
none_there (row ∷ rows) e = cc

-- ---- the chunks that are wanted

and_false : (b : Bool) → (b && false) ≡ false
and_false true = refl
and_false false = refl

pub listed_kept : (m : ChunkNumber → Bool) (k : ChunkNumber) (stored : List (ArrayVec ℕ)) → is_listed k (numbers_of (filter (λ at. m at.items) stored)) ≡ (is_listed k (numbers_of stored) && m k)
listed_kept m k [] = refl
listed_kept m k (at ∷ stored) =
    cond_out (λ (ks : List (ArrayVec ℕ)). is_listed k (numbers_of ks)) (m at.items) (at ∷ filter (λ at. m at.items) stored) (filter (λ at. m at.items) stored)
    ∙ tests (m at.items) (is_eq (number_order at.items k)) (m k) (is_listed k (numbers_of (filter (λ at. m at.items) stored))) (is_listed k (numbers_of stored))
    (λ e. ap m (same_number at.items k (is_equal (number_order at.items k) e))) (listed_kept m k stored)
  where
    tests : (t e n kept all : Bool) → (e ≡ true → t ≡ n) → kept ≡ (all && n) → cond t (e || kept) kept ≡ ((e || all) && n)
    tests true false n kept all s ih = ih
    tests true true n kept all s ih = s refl
    tests false false n kept all s ih = ih
    tests false true n kept all s ih = ih ∙ ap (λ (z : Bool). all && z) (sym (s refl)) ∙ and_false all ∙ s refl

-- ---- what is known in their frames

-- where one of two holds, and each gives one of two others, one of these does
pub one_holds : (t p l q : Bool) → (t || l) ≡ true → (t ≡ true → p ≡ true) → (l ≡ true → q ≡ true) → (p || q) ≡ true
one_holds true p l q e g h = let i : p ≡ true = g refl in ap (λ (z : Bool). z || q) i
one_holds false true l q e g h = refl
one_holds false false l q e g h = h e

framed_covers : (dims : List Dimension) (k : ChunkNumber) (c : Coordinate) (chunks : List (ArrayVec ℕ)) → is_listed k (numbers_of chunks) ≡ true → is_inside (frame dims (overlaps dims) k) c ≡ true → is_framed dims chunks c ≡ true
framed_covers dims k c [] e f = e
framed_covers dims k c (n ∷ ks) e f =
    one_holds (is_eq (number_order n.items k)) (is_inside (frame dims (overlaps dims) n.items) c) (is_listed k (numbers_of ks)) (is_framed dims ks c) e
    (λ t. ap (λ (z : ChunkNumber). is_inside (frame dims (overlaps dims) z) c) (same_number n.items k (is_equal (number_order n.items k) t)) ∙ f) (λ l. framed_covers dims k c ks l f)

pub frame_known : (dims : List Dimension) (rows : List Row) (chunks : List (ArrayVec ℕ)) (k : ChunkNumber) → is_listed k (numbers_of chunks) ≡ true
    → within (frame dims (overlaps dims) k) (known dims chunks rows) ≡ within (frame dims (overlaps dims) k) rows
frame_known dims rows chunks k l = kept_inside (is_inside (frame dims (overlaps dims) k)) (is_framed dims chunks) rows (λ c f. framed_covers dims k c chunks l f)

pub cell_known : (dims : List Dimension) (rows : List Row) (chunks : List (ArrayVec ℕ)) (k : ChunkNumber) → is_listed k (numbers_of chunks) ≡ true
    → has_cell dims (known dims chunks rows) k ≡ has_cell dims rows k
cell_known dims rows chunks k l =
    ap is_not_empty (kept_inside (is_inside (core dims k)) (is_framed dims chunks) rows (λ c e. framed_covers dims k c chunks l (core_in_frame dims (overlaps dims) k c (each_overlap dims) e)))

pub no_cell_known : (dims : List Dimension) (rows : List Row) (chunks : List (ArrayVec ℕ)) (k : ChunkNumber) → has_cell dims rows k ≡ false → has_cell dims (known dims chunks rows) k ≡ false
no_cell_known dims rows chunks k e = ap is_not_empty (none_left (is_inside (core dims k)) (is_framed dims chunks) rows (none_there (within (core dims k) rows) e))

module _ (leaf : Leaf) (area : Bounds) (rows : List Row) (stored : List (ArrayVec ℕ)) (has : HasArray leaf rows stored) where
  wanted_listed : (k : ChunkNumber) → length k ≡ length leaf.schema.dimensions → has_cell leaf.schema.dimensions rows k ≡ true → core_meets leaf.schema.dimensions area k ≡ true
      → is_listed k (numbers_of (wanted_of leaf.schema.dimensions area stored)) ≡ true
  wanted_listed k l h m = listed_kept (core_meets leaf.schema.dimensions area) k stored ∙ and_both _ _ (has.listed k l ∙ h) m

  same_wanted : (k : ChunkNumber) → length k ≡ length leaf.schema.dimensions → is_wanted leaf.schema.dimensions (known_for leaf area stored rows) area k ≡ is_wanted leaf.schema.dimensions rows area k
  same_wanted k l =
      tests (has_cell leaf.schema.dimensions (known_for leaf area stored rows) k) (has_cell leaf.schema.dimensions rows k) (core_meets leaf.schema.dimensions area k)
      (λ h m. cell_known leaf.schema.dimensions rows (wanted_of leaf.schema.dimensions area stored) k (wanted_listed k l h m))
      (no_cell_known leaf.schema.dimensions rows (wanted_of leaf.schema.dimensions area stored) k)
    where
      tests : (a b m : Bool) → (b ≡ true → m ≡ true → a ≡ b) → (b ≡ false → a ≡ false) → (a && m) ≡ (b && m)
      tests a true true s n = ap (λ (z : Bool). z && true) (s refl refl)
      tests a true false s n = and_false a
      tests a false m s n = ap (λ (z : Bool). z && m) (n refl)

  same_frames : (k : ChunkNumber) → length k ≡ length leaf.schema.dimensions → is_wanted leaf.schema.dimensions (known_for leaf area stored rows) area k ≡ true
      → within (frame leaf.schema.dimensions (overlaps leaf.schema.dimensions) k) (known_for leaf area stored rows) ≡ within (frame leaf.schema.dimensions (overlaps leaf.schema.dimensions) k) rows
  same_frames k l w =
      let both = and_parts (has_cell leaf.schema.dimensions rows k) (core_meets leaf.schema.dimensions area k) (sym (same_wanted k l) ∙ w) in
      frame_known leaf.schema.dimensions rows (wanted_of leaf.schema.dimensions area stored) k (wanted_listed k l both.0 both.1)

pub known_is_alike : KnownRowsAreAlike
known_is_alike leaf area rows stored has = record { wanted = same_wanted leaf area rows stored has; cells = same_frames leaf area rows stored has }

-- ---- what is known is rows

pub known_rows : (schema : Schema) (rows : List Row) (chunks : List (ArrayVec ℕ)) → AreRowsOf schema rows → AreRowsOf schema (known schema.dimensions chunks rows)
known_rows schema rows chunks are = record {
  valid = are.valid;
  are_rows = record {
    rising = IsRising-rows_where (is_framed schema.dimensions chunks) rows are.are_rows.rising;
    in_bounds = all_kept (λ row. is_inside (bounds_of schema.dimensions) row.at.items ≡ true) (λ row. is_framed schema.dimensions chunks row.at.items) rows are.are_rows.in_bounds;
  };
  kinds = all_kept (λ row. IsCellOf schema.attributes row.cell) (λ row. is_framed schema.dimensions chunks row.at.items) rows are.kinds;
}

pub known_sound : (schema : Schema) (rows : List Row) (chunks : List (ArrayVec ℕ)) → AreSound schema rows → AreSound schema (known schema.dimensions chunks rows)
known_sound schema rows chunks sound = all_kept (λ row. is_sound schema.attributes row.cell ≡ true) (λ row. is_framed schema.dimensions chunks row.at.items) rows sound

pub known_is_sound : KnownRowsAreSound
known_is_sound leaf area rows stored has = (
  known_rows leaf.schema rows (wanted_of leaf.schema.dimensions area stored) has.rows_of,
  known_sound leaf.schema rows (wanted_of leaf.schema.dimensions area stored) has.sound,
)
