-- The cores of chunks one after the other.
use Rattle.std.proofs.Common.{◌≡◌, ℕ, zero, suc, ◌<◌, ◌≤◌, ◌/◌, ◌^◌, ℤ, pos, ◌-ℤ◌, ◌≤ℤ◌, ◌<ℤ◌, ◌&&◌, unsigned_abs, int_le, Bool, true, false, cond, List, [], ◌∷◌, ◌++◌, get_or, length, map, IsTrue, append_assoc, Some, None, Option, refl, sym, ap, ◌∙◌, subst, arith}
use Rattle.std.proofs.lemmas.Int.{ints}
use Rattle.std.proofs.lemmas.Cmp.{int_cmp_total, nat_cmp_total, tied_itself}
use Rattle.std.specs.Cmp.{int_ranks}
use Rattle.std.specs.List.{AllByRecursion}
use Rattle.std.specs.Option.{option_or}
use Rattle.std.specs.Ordering.{int_cmp, nat_cmp, MatchOrdering, ordering_then}
use Rattle.std.specs.declared.cmp.Ordering.{Ordering}
use Rattle.std.specs.declared.cmp.Ordering.TheVariants.{Less, Equal, Greater}
use Rattle.cell_values.specs.declared.datum.Cell.{Cell}
use Rattle.cell_values.specs.declared.datum.Row.{Row}
use Rattle.cell_values.specs.declared.schema.Dimension.{Dimension}
use Rattle.cell_values.specs.declared.schema.Schema.{Schema}
use Rattle.cell_values.specs.Cells.{IsCellOf}
use Rattle.cell_values.specs.Schemas.{IsValid}
use Rattle.array_rows.specs.Arrays.{AreRowsOf}
use Rattle.array_rows.specs.Boxes.{is_inside, within, bounds_of}
use Rattle.array_rows.specs.Rows.{Coordinate, row_major, IsRising, cell_at}
use Rattle.array_rows.proofs.RowsLemmas.{row_major_exact, same_rows}
use Rattle.array_rows.proofs.RowSets.{cell_at-within, IsRising-rows_where, cell_at-put_all}
use Rattle.array_geom.specs.declared.chunk.Chunk.{Chunk}
use Rattle.array_geom.specs.Geometry.{ChunkNumber, chunk_of, core, frame, frame_lengths, volume}
use Rattle.array_geom.specs.Link.{NumbersRise, chunk_rows, core_rows, number_order, numbers}
use Rattle.array_geom.proofs.CoreLaws.{core_in_frame, core_of}
use Rattle.array_geom.proofs.NearLemmas.{valid_placed}
use Rattle.array_geom.proofs.TestLaws.{and_parts, le_from_test}
use Rattle.array_parts.specs.Cores.{HaveCells}
use Rattle.array_parts.specs.Placed.{HasPlaces, HavePlaces}
use Rattle.chunk_cells.specs.Frames.{HasFrames}
use Rattle.array_parts.proofs.CoreLaws.{cores_are_rows}
use Rattle.array_parts.proofs.PartLemmas.{all_kept}
use Rattle.chunk_cells.proofs.MergeLaws.{put_all-none}
use Rattle.chunk_cells.proofs.NumberLaws.{number_order_total}
use Rattle.area_cells.proofs.PieceLaws.{all_within}
use Rattle.order_exec.specs.Inner.ByChunk.{GoAlong, ComesAfter, by_chunk, rows_of_core}
use Rattle.area_cells.specs.Margins.{no_margins}
use Rattle.area_cells.proofs.FrameLaws.{each_none, frame_in_core, places_none}
use Rattle.logical_plan.specs.Ordered.{line_of}
use Rattle.arrayvec.specs.ArrayVec.{ArrayVec}
use Rattle.chunk_cells.specs.Whole.{CoresRise}
use Rattle.order_exec.proofs.RunLaws.{at_same_places}
use Rattle.order_exec.proofs.AlongLaws.{absent, all_follows, all_joined, along_joined, cell_at-append, rising_along}

-- ---- chunk numbers along a line

quotients : (a b k : ℕ) → a ≤ b → a / k ≤ b / k
quotients a b k h = grind arith

-- a greater quotient comes of a greater number
greater : (lo x y : ℤ) (k : ℕ) → lo ≤ℤ x → lo ≤ℤ y → unsigned_abs (x -ℤ lo) / k < unsigned_abs (y -ℤ lo) / k → x <ℤ y
greater lo x y k p q l = cases (int_cmp x y) (int_ranks x y)
  where
    none : y ≤ℤ x → x <ℤ y
    none h =
        let m : unsigned_abs (y -ℤ lo) ≤ unsigned_abs (x -ℤ lo) = omega (arith, ints, p, q, h) in
        let n = quotients (unsigned_abs (y -ℤ lo)) (unsigned_abs (x -ℤ lo)) k m in
        absurd (omega (arith, n, l))

    cases : (o : Ordering) → MatchOrdering o (x <ℤ y) (x ≡ y) (y <ℤ x) → x <ℤ y
    cases Less m = m
    cases Equal m = none (subst (λ (z : ℤ). z ≤ℤ x) m (omega (arith, ints)))
    cases Greater m = none (omega (arith, ints, m))

less_number : (a b : ℕ) → nat_cmp a b ≡ Less → a < b
less_number a b h = grind (arith, h)

in_side : (d : Dimension) (dims : List Dimension) (x : ℤ) (c : Coordinate) → is_inside (bounds_of (d ∷ dims)) (x ∷ c) ≡ true → (d.lo ≤ℤ x) × (is_inside (bounds_of dims) c ≡ true)
in_side d dims x c e =
    let a = and_parts (int_le d.lo x && int_le x d.hi) (is_inside (bounds_of dims) c) e in
    let b = and_parts (int_le d.lo x) (int_le x d.hi) a.0 in
    (le_from_test d.lo x b.0, a.1)

-- of two coordinates on one line that of the later chunk is behind
later_chunk : (dims : List Dimension) (n : ℕ) (a b : Coordinate) → is_inside (bounds_of dims) a ≡ true → is_inside (bounds_of dims) b ≡ true → row_major (line_of n a) (line_of n b) ≡ Equal
    → number_order (chunk_of dims a) (chunk_of dims b) ≡ Less → get_or a n (pos 0) <ℤ get_or b n (pos 0)
later_chunk [] n a b i j e l = cc
later_chunk (d ∷ dims) n [] b i j e l = cc
later_chunk (d ∷ dims) n (x ∷ a) [] i j e l = cc
later_chunk (d ∷ dims) zero (x ∷ a) (y ∷ b) i j e l =
    let same : a ≡ b = row_major_exact a b (ap (λ o. ordering_then o (row_major a b)) (sym (tied_itself int_cmp_total (pos 0))) ∙ e) in
    let tie : number_order (chunk_of dims a) (chunk_of dims b) ≡ Equal = ap (λ (c : Coordinate). number_order (chunk_of dims a) (chunk_of dims c)) (sym same) ∙ tied_itself number_order_total (chunk_of dims a) in
    let p = in_side d dims x a i in
    let q = in_side d dims y b j in
    greater d.lo x y d.chunk p.0 q.0 (less_number _ _ (first (nat_cmp (unsigned_abs (x -ℤ d.lo) / d.chunk) (unsigned_abs (y -ℤ d.lo) / d.chunk)) (number_order (chunk_of dims a) (chunk_of dims b)) tie l))
  where
    first : (o r : Ordering) → r ≡ Equal → ordering_then o r ≡ Less → o ≡ Less
    first Less r f g = refl
    first Equal Less f g = cc
    first Equal Equal f g = cc
    first Equal Greater f g = cc
    first Greater r f g = cc
later_chunk (d ∷ dims) (suc n) (x ∷ a) (y ∷ b) i j e l = cases (int_cmp x y) (int_ranks x y) e (later_chunk dims n a b (in_side d dims x a i).1 (in_side d dims y b j).1)
  where
    cases : (o : Ordering) → MatchOrdering o (x <ℤ y) (x ≡ y) (y <ℤ x) → ordering_then o (row_major (line_of n a) (line_of n b)) ≡ Equal
        → (row_major (line_of n a) (line_of n b) ≡ Equal → number_order (chunk_of dims a) (chunk_of dims b) ≡ Less → get_or a n (pos 0) <ℤ get_or b n (pos 0)) → get_or a n (pos 0) <ℤ get_or b n (pos 0)
    cases Less m f ih = cc
    cases Greater m f ih = cc
    cases Equal m f ih =
        let tie : nat_cmp (unsigned_abs (x -ℤ d.lo) / d.chunk) (unsigned_abs (y -ℤ d.lo) / d.chunk) ≡ Equal =
        ap (λ (z : ℤ). nat_cmp (unsigned_abs (x -ℤ d.lo) / d.chunk) (unsigned_abs (z -ℤ d.lo) / d.chunk)) (sym m) ∙ tied_itself nat_cmp_total (unsigned_abs (x -ℤ d.lo) / d.chunk) in
        ih f (ap (λ o. ordering_then o (number_order (chunk_of dims a) (chunk_of dims b))) (sym tie) ∙ l)

-- ---- the rows of cores

module _ (schema : Schema) (margins : List ℕ) where
  abbrev dims : List Dimension
  dims = schema.dimensions

  -- within the bounds, and of this chunk
  abbrev pub IsOf : ChunkNumber → Row → Type 0
  IsOf k row = (is_inside (bounds_of dims) row.at.items ≡ true) × (k ≡ chunk_of dims row.at.items)

  both_hold : {A : Type 0} (P Q : A → Type 0) (xs : List A) → AllByRecursion P xs → AllByRecursion Q xs → AllByRecursion (λ x. P x × Q x) xs
  both_hold P Q [] a b = tt
  both_hold P Q (x ∷ xs) a b = ((a.0, b.0), both_hold P Q xs a.1 b.1)

  pub of_core : IsValid schema → (chunk : Chunk) → length chunk.at.items ≡ length dims → AreRowsOf schema (chunk_rows dims margins chunk) → AllByRecursion (IsOf chunk.at.items) (rows_of_core dims margins chunk)
  of_core valid chunk l are =
      all_follows (λ row. (is_inside (core dims chunk.at.items) row.at.items ≡ true) × IsTrue (is_inside (bounds_of dims) row.at.items)) (IsOf chunk.at.items)
      (λ row h. (h.1, core_of dims chunk.at.items row.at.items (valid_placed schema valid).near l h.0)) (rows_of_core dims margins chunk)
      (both_hold (λ row. is_inside (core dims chunk.at.items) row.at.items ≡ true) (λ row. IsTrue (is_inside (bounds_of dims) row.at.items)) (rows_of_core dims margins chunk)
      (all_within (core dims chunk.at.items) (chunk_rows dims margins chunk) (rows_of_core dims margins chunk) refl)
      (all_kept (λ row. IsTrue (is_inside (bounds_of dims) row.at.items)) (λ row. is_inside (core dims chunk.at.items) row.at.items) (chunk_rows dims margins chunk) are.are_rows.in_bounds))

  abbrev pub AreOf : List Chunk → Type 0
  AreOf = AllByRecursion (λ chunk. AreRowsOf schema (chunk_rows dims margins chunk))

  abbrev pub Sized : List Chunk → Type 0
  Sized chunks = AllByRecursion (λ k. length k ≡ length dims) (numbers chunks)

  -- the rows of later chunks
  of_later : IsValid schema → (k : ChunkNumber) (chunks : List Chunk) → Sized chunks → AreOf chunks → AllByRecursion (λ later. number_order k later ≡ Less) (numbers chunks)
      → AllByRecursion (λ row. (is_inside (bounds_of dims) row.at.items ≡ true) × (number_order k (chunk_of dims row.at.items) ≡ Less)) (by_chunk dims margins chunks)
  of_later valid k [] s are less = tt
  of_later valid k (chunk ∷ chunks) s are less =
      all_joined (λ row. (is_inside (bounds_of dims) row.at.items ≡ true) × (number_order k (chunk_of dims row.at.items) ≡ Less)) (rows_of_core dims margins chunk) (by_chunk dims margins chunks)
      (all_follows (IsOf chunk.at.items) (λ row. (is_inside (bounds_of dims) row.at.items ≡ true) × (number_order k (chunk_of dims row.at.items) ≡ Less)) (λ row h. (h.0, ap (number_order k) (sym h.1) ∙ less.0))
      (rows_of_core dims margins chunk) (of_core valid chunk s.0 are.0))
      (of_later valid k chunks s.1 are.1 less.1)

  -- chunk after chunk the rows go along their lines
  pub turn_along : (n : ℕ) (chunks : List Chunk) → IsValid schema → Sized chunks → AreOf chunks → NumbersRise (numbers chunks) → GoAlong n (by_chunk dims margins chunks)
  turn_along n [] valid s are rise = tt
  turn_along n (chunk ∷ chunks) valid s are rise =
      along_joined n (rows_of_core dims margins chunk) (by_chunk dims margins chunks)
      (rising_along n (rows_of_core dims margins chunk) (IsRising-rows_where (is_inside (core dims chunk.at.items)) (chunk_rows dims margins chunk) are.0.are_rows.rising))
      (turn_along n chunks valid s.1 are.1 rise.1)
      (all_follows (IsOf chunk.at.items) (λ row. AllByRecursion (ComesAfter n row) (by_chunk dims margins chunks))
      (λ row h. all_follows (λ other. (is_inside (bounds_of dims) other.at.items ≡ true) × (number_order chunk.at.items (chunk_of dims other.at.items) ≡ Less)) (ComesAfter n row)
      (λ other k e. later_chunk dims n row.at.items other.at.items h.0 k.0 e (ap (λ (m : ChunkNumber). number_order m (chunk_of dims other.at.items)) (sym h.1) ∙ k.1))
      (by_chunk dims margins chunks) (of_later valid chunk.at.items chunks s.1 are.1 rise.0))
      (rows_of_core dims margins chunk) (of_core valid chunk s.0 are.0))

  -- they are the rows of all cores
  pub turn_there : (chunks : List Chunk) (c : Coordinate) → cell_at (core_rows dims margins chunks) c ≡ cell_at (by_chunk dims margins chunks) c
  turn_there [] c = refl
  turn_there (chunk ∷ chunks) c =
      cell_at-put_all (rows_of_core dims margins chunk) (core_rows dims margins chunks) c ∙ ap (option_or (cell_at (rows_of_core dims margins chunk) c)) (turn_there chunks c)
      ∙ sym (cell_at-append (rows_of_core dims margins chunk) (by_chunk dims margins chunks) c)

  pub turn_joined : (a b : List Chunk) → by_chunk dims margins (a ++ b) ≡ by_chunk dims margins a ++ by_chunk dims margins b
  turn_joined [] b = refl
  turn_joined (chunk ∷ a) b = ap (λ (rows : List Row). rows_of_core dims margins chunk ++ rows) (turn_joined a b) ∙ sym (append_assoc (rows_of_core dims margins chunk) (by_chunk dims margins a) (by_chunk dims margins b))

  pub turn_kinds : (chunks : List Chunk) → AreOf chunks → AllByRecursion (λ row. IsCellOf schema.attributes row.cell) (by_chunk dims margins chunks)
  turn_kinds [] are = tt
  turn_kinds (chunk ∷ chunks) are =
      all_joined (λ row. IsCellOf schema.attributes row.cell) (rows_of_core dims margins chunk) (by_chunk dims margins chunks)
      (all_kept (λ row. IsCellOf schema.attributes row.cell) (λ row. is_inside (core dims chunk.at.items) row.at.items) (chunk_rows dims margins chunk) are.0.kinds) (turn_kinds chunks are.1)

  -- ---- the rows of one core among all

  -- no other chunk has a row there
  pub none_elsewhere : IsValid schema → (c : Coordinate) (chunks : List Chunk) → Sized chunks → AreOf chunks → AllByRecursion (λ k. k ≡ chunk_of dims c → ⊥) (numbers chunks) → cell_at (by_chunk dims margins chunks) c ≡ None
  none_elsewhere valid c [] s are apart = refl
  none_elsewhere valid c (chunk ∷ chunks) s are apart =
      cell_at-append (rows_of_core dims margins chunk) (by_chunk dims margins chunks) c
      ∙ (λ i. option_or (absent c (rows_of_core dims margins chunk) (all_follows (IsOf chunk.at.items) (λ row. row.at.items ≡ c → ⊥) (λ row h e. apart.0 (h.1 ∙ ap (chunk_of dims) e)) (rows_of_core dims margins chunk) (of_core valid chunk s.0 are.0)) i)
      (none_elsewhere valid c chunks s.1 are.1 apart.1 i))

  at_end : (o : Option Cell) → option_or o None ≡ o
  at_end None = refl
  at_end (Some cell) = refl

  pub not_itself : (k : ChunkNumber) → number_order k k ≡ Less → ⊥
  not_itself k e = let same : Less ≡ Equal = sym e ∙ tied_itself number_order_total k in cc

  -- at a place of its core a chunk has what all have
  own_place : IsValid schema → (front : List Chunk) (chunk : Chunk) (rest : List Chunk) (c : Coordinate) → Sized (front ++ chunk ∷ rest) → AreOf (front ++ chunk ∷ rest) → NumbersRise (numbers (front ++ chunk ∷ rest))
      → chunk.at.items ≡ chunk_of dims c → cell_at (by_chunk dims margins (front ++ chunk ∷ rest)) c ≡ cell_at (rows_of_core dims margins chunk) c
  own_place valid [] chunk rest c s are rise own =
      cell_at-append (rows_of_core dims margins chunk) (by_chunk dims margins rest) c
      ∙ ap (option_or (cell_at (rows_of_core dims margins chunk) c)) (none_elsewhere valid c rest s.1 are.1 (all_follows (λ later. number_order chunk.at.items later ≡ Less) (λ k. k ≡ chunk_of dims c → ⊥)
      (λ later l e. not_itself chunk.at.items (ap (number_order chunk.at.items) (own ∙ sym e) ∙ l)) (numbers rest) rise.0))
      ∙ at_end (cell_at (rows_of_core dims margins chunk) c)
  own_place valid (first ∷ front) chunk rest c s are rise own =
      cell_at-append (rows_of_core dims margins first) (by_chunk dims margins (front ++ chunk ∷ rest)) c
      ∙ ap (λ (o : Option Cell). option_or o (cell_at (by_chunk dims margins (front ++ chunk ∷ rest)) c))
      (absent c (rows_of_core dims margins first) (all_follows (IsOf first.at.items) (λ row. row.at.items ≡ c → ⊥)
      (λ row h e. not_itself first.at.items (ap (number_order first.at.items) (h.1 ∙ ap (chunk_of dims) e ∙ sym own) ∙ among front rise.0)) (rows_of_core dims margins first) (of_core valid first s.0 are.0)))
      ∙ own_place valid front chunk rest c s.1 are.1 rise.1 own
    where
      among : (some : List Chunk) → AllByRecursion (λ later. number_order first.at.items later ≡ Less) (numbers (some ++ chunk ∷ rest)) → number_order first.at.items chunk.at.items ≡ Less
      among [] h = h.0
      among (x ∷ some) h = among some h.1

-- ---- frames without margins

-- the rows in such a frame are those of the core
pub own_frame : (schema : Schema) (margins : List ℕ) (front : List Chunk) (chunk : Chunk) (rest : List Chunk) → HaveCells schema margins (front ++ chunk ∷ rest) → AllByRecursion (λ k. length k ≡ length schema.dimensions) (numbers (front ++ chunk ∷ rest))
    → NumbersRise (numbers (front ++ chunk ∷ rest)) → length chunk.at.items ≡ length schema.dimensions → AreRowsOf schema (chunk_rows schema.dimensions margins chunk)
    → within (frame schema.dimensions (no_margins schema.dimensions) chunk.at.items) (core_rows schema.dimensions margins (front ++ chunk ∷ rest)) ≡ rows_of_core schema.dimensions margins chunk
own_frame schema margins front chunk rest cells s rise l own =
    let box = frame schema.dimensions (no_margins schema.dimensions) chunk.at.items in
    let all = core_rows schema.dimensions margins (front ++ chunk ∷ rest) in
    same_rows (within box all) (rows_of_core schema.dimensions margins chunk) (IsRising-rows_where (is_inside box) all (cores_are_rows schema margins (front ++ chunk ∷ rest) cells).are_rows.rising)
    (IsRising-rows_where (is_inside (core schema.dimensions chunk.at.items)) (chunk_rows schema.dimensions margins chunk) own.are_rows.rising)
    (λ c. cell_at-within box all c ∙ there c (is_inside (core schema.dimensions chunk.at.items) c) refl)
  where
    there : (c : Coordinate) (b : Bool) → is_inside (core schema.dimensions chunk.at.items) c ≡ b
        → cond (is_inside (frame schema.dimensions (no_margins schema.dimensions) chunk.at.items) c) (cell_at (core_rows schema.dimensions margins (front ++ chunk ∷ rest)) c) None ≡ cell_at (rows_of_core schema.dimensions margins chunk) c
    there c true e =
        ap (λ (b : Bool). cond b (cell_at (core_rows schema.dimensions margins (front ++ chunk ∷ rest)) c) None) (core_in_frame schema.dimensions (no_margins schema.dimensions) chunk.at.items c (each_none schema.dimensions) e)
        ∙ turn_there schema margins (front ++ chunk ∷ rest) c
        ∙ own_place schema margins cells.placed.valid front chunk rest c s cells.rows_of rise (core_of schema.dimensions chunk.at.items c (valid_placed schema cells.placed.valid).near l e)
    there c false e = outside (is_inside (frame schema.dimensions (no_margins schema.dimensions) chunk.at.items) c) refl ∙ sym (cell_at-within (core schema.dimensions chunk.at.items) (chunk_rows schema.dimensions margins chunk) c ∙ ap (λ (b : Bool). cond b (cell_at (chunk_rows schema.dimensions margins chunk) c) None) e)
      where
        clash : (b : Bool) → b ≡ false → b ≡ true → ⊥
        clash true x y = cc
        clash false x y = cc

        outside : (b : Bool) → is_inside (frame schema.dimensions (no_margins schema.dimensions) chunk.at.items) c ≡ b → cond b (cell_at (core_rows schema.dimensions margins (front ++ chunk ∷ rest)) c) None ≡ None
        outside false f = refl
        outside true f = absent c (core_rows schema.dimensions margins (front ++ chunk ∷ rest)) (all_follows (λ row. IsTrue (is_inside (bounds_of schema.dimensions) row.at.items)) (λ row. row.at.items ≡ c → ⊥)
            (λ row h k. clash (is_inside (core schema.dimensions chunk.at.items) c) e (frame_in_core schema.dimensions chunk.at.items c (subst (λ (d : Coordinate). is_inside (bounds_of schema.dimensions) d ≡ true) k h) f))
            (core_rows schema.dimensions margins (front ++ chunk ∷ rest)) (cores_are_rows schema margins (front ++ chunk ∷ rest) cells).are_rows.in_bounds)

-- ---- one chunk

pub one_rises : (schema : Schema) (margins : List ℕ) (chunk : Chunk) → HaveCells schema margins (chunk ∷ []) → IsRising (rows_of_core schema.dimensions margins chunk)
one_rises schema margins chunk h = IsRising-rows_where (is_inside (core schema.dimensions chunk.at.items)) (chunk_rows schema.dimensions margins chunk) h.rows_of.0.are_rows.rising

pub alone_rises : (schema s : Schema) (margins m : ArrayVec ℕ) (chunk : Chunk) (chunks : List Chunk) → s ≡ schema → m ≡ margins → chunks ≡ chunk ∷ [] → HaveCells schema margins.items (chunk ∷ []) → CoresRise s.dimensions m.items chunks
alone_rises schema s margins m chunk chunks e f g h =
    subst (CoresRise s.dimensions m.items) (sym g) (subst (λ (z : Schema). CoresRise z.dimensions m.items (chunk ∷ [])) (sym e) (subst (λ (z : ArrayVec ℕ). CoresRise schema.dimensions z.items (chunk ∷ [])) (sym f) (one_rises schema margins.items chunk h, tt)))

pub alone_core : (schema s : Schema) (margins m : ArrayVec ℕ) (chunk : Chunk) (chunks : List Chunk) → s ≡ schema → m ≡ margins → chunks ≡ chunk ∷ [] → HaveCells schema margins.items (chunk ∷ [])
    → core_rows s.dimensions m.items chunks ≡ rows_of_core schema.dimensions margins.items chunk
alone_core schema s margins m chunk chunks e f g h =
    (λ i. core_rows (e i).dimensions (f i).items (g i)) ∙ put_all-none (rows_of_core schema.dimensions margins.items chunk) (one_rises schema margins.items chunk h)

-- what stands at the places of a core lies in a frame without margins
pub made_inside : (dims sides : List Dimension) (margins none : List ℕ) (at : ArrayVec ℕ) (chunk : Chunk) (rows made : List Row) → rows ≡ rows_of_core dims margins chunk → none ≡ no_margins sides → sides ≡ dims → at ≡ chunk.at
    → map (λ (row : Row). row.at) made ≡ map (λ (row : Row). row.at) rows → AllByRecursion (λ row. IsTrue (is_inside (frame sides none at.items) row.at.items)) made
made_inside dims sides margins none at chunk rows made e f g h same =
    at_same_places (λ c. IsTrue (is_inside (frame sides none at.items) c)) rows made same
    (all_follows (λ row. is_inside (core dims chunk.at.items) row.at.items ≡ true) (λ row. IsTrue (is_inside (frame sides none at.items) row.at.items))
    (λ row i. (λ j. is_inside (frame (g j) ((f ∙ ap no_margins g) j) (h j).items) row.at.items) ∙ core_in_frame dims (no_margins dims) chunk.at.items row.at.items (each_none dims) i) rows
    (all_within (core dims chunk.at.items) (chunk_rows dims margins chunk) rows e))

abbrev pub frames_none : (target : Schema) (none : List ℕ) → IsValid target → none ≡ no_margins target.dimensions → HasFrames target none
frames_none target none valid e = record {
  valid = valid;
  each = ap (λ (ms : List ℕ). length ms) e ∙ each_none target.dimensions;
  places = subst (λ (ms : List ℕ). volume (frame_lengths target.dimensions ms) ≤ 2 ^ 48) (sym e) (places_none target valid);
}

abbrev pub places_framed : (schema target : Schema) (none : List ℕ) (chunks parts : List Chunk) → HasFrames target none → target.dimensions ≡ schema.dimensions → numbers parts ≡ numbers chunks → NumbersRise (numbers chunks)
    → AllByRecursion (λ k. length k ≡ length schema.dimensions) (numbers chunks) → AllByRecursion (HasPlaces target none) parts → HavePlaces target none parts
places_framed schema target none chunks parts f same e rise sized all = record {
  valid = f.valid;
  each = f.each;
  places = f.places;
  rising = subst NumbersRise (sym e) rise;
  sized = subst (λ (ks : List ChunkNumber). AllByRecursion (λ k. length k ≡ length target.dimensions) ks) (sym e) (subst (λ (ds : List Dimension). AllByRecursion (λ k. length k ≡ length ds) (numbers chunks)) (sym same) sized);
  all = all;
}

-- what stands at the places of a core lies in the chunk's frame
pub made_in_frame : (schema : Schema) (margins : List ℕ) (at : ArrayVec ℕ) (chunk : Chunk) (rows made : List Row) → HaveCells schema margins (chunk ∷ []) → rows ≡ rows_of_core schema.dimensions margins chunk → at ≡ chunk.at
    → map (λ (row : Row). row.at) made ≡ map (λ (row : Row). row.at) rows → AllByRecursion (λ row. IsTrue (is_inside (frame schema.dimensions margins at.items) row.at.items)) made
made_in_frame schema margins at chunk rows made have e h same =
    at_same_places (λ c. IsTrue (is_inside (frame schema.dimensions margins at.items) c)) rows made same
    (all_follows (λ row. is_inside (core schema.dimensions chunk.at.items) row.at.items ≡ true) (λ row. IsTrue (is_inside (frame schema.dimensions margins at.items) row.at.items))
    (λ row i. (λ j. is_inside (frame schema.dimensions margins (h j).items) row.at.items) ∙ core_in_frame schema.dimensions margins chunk.at.items row.at.items have.placed.each i) rows
    (all_within (core schema.dimensions chunk.at.items) (chunk_rows schema.dimensions margins chunk) rows e))
