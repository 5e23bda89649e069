-- What one byte more does to the pieces of a script.
use Rattle.std.proofs.Common.{◌≡◌, ℕ, suc, zero, ◌+◌, ◌-◌, ◌<◌, ◌≤◌, Bool, true, false, if◌then◌else◌, List, [], ◌∷◌, ◌++◌, length, take, drop, map, filter, get_or, cond, refl, ◌∙◌, ap, ap₂, arith, add-one, zero-add, length-append, length-drop, append-nil, inl, inr}
use Rattle.std.proofs.lemmas.Bool.{cases_lt}
use Rattle.std.specs.List.{fold, zip, range_with_len, slice_range, AllByRecursion}
use Rattle.std.proofs.lemmas.List.{take_at, take-append-le, take_all, drop-append-le, get_or_at, get_or_append_left, map-append}
use Rattle.std.proofs.lemmas.List.Elements.{filter-append}
use Rattle.std.proofs.lemmas.List.Sums.{fold-append}
use Rattle.afl_lexer.specs.Split.{Piece, piece_at, ends_piece, ends, starts, closed_pieces, pieces, last_piece}

-- a range with one number more
range_more : (a n : ℕ) → range_with_len a (suc n) ≡ range_with_len a n ++ (a + n) ∷ []
range_more a zero = let e : a + 0 ≡ a = omega arith in rw e
range_more a (suc n) = let e : a + 1 + n ≡ a + suc n = omega arith in ap (λ l. a ∷ l) (range_more (a + 1) n ∙ rw e)

-- tests that agree on a range keep the same of it
filter_same : (p q : ℕ → Bool) (a n : ℕ) → ((i : ℕ) → a ≤ i → i < a + n → p i ≡ q i) → filter p (range_with_len a n) ≡ filter q (range_with_len a n)
filter_same p q a zero same = refl
filter_same p q a (suc n) same =
    rw (same a (omega arith) (omega arith), filter_same p q (a + 1) n (λ i low high. same i (omega arith) (omega arith)))

-- what a test keeps of a range lies in it
kept_below : (p : ℕ → Bool) (a n m : ℕ) → a + n ≤ m → AllByRecursion (λ i. i < m) (filter p (range_with_len a n))
kept_below p a zero m low = tt
kept_below p a (suc n) m low =
    let rest : AllByRecursion (λ i. i < m) (filter p (range_with_len (a + 1) n)) = kept_below p (a + 1) n m (omega arith) in
    elim (p a) as (λ b. AllByRecursion (λ i. i < m) (cond b (a ∷ filter p (range_with_len (a + 1) n)) (filter p (range_with_len (a + 1) n))))
    [ true ↦ (omega arith, rest) | false ↦ rest ]

-- the test of `ends`
abbrev ends_at : List ℕ → ℕ → Bool
ends_at script i = ends_piece (take i script) (get_or script i 0)

-- the places at which pieces end, with one byte more
pub ends_more : (script : List ℕ) (byte : ℕ) → ends (script ++ byte ∷ []) ≡ ends script ++ (if ends_piece script byte then length script ∷ [] else [])
ends_more script byte =
    let more = script ++ byte ∷ [] in
    let n = length script in
    let len : length more ≡ suc n = length-append script (byte ∷ []) ∙ add-one n in
    let here : ends_at more n ≡ ends_piece script byte = rw (take_at script (byte ∷ []) n refl, get_or_at script byte [] 0 n refl) in
    let before : filter (ends_at more) (range_with_len 0 n) ≡ ends script =
    filter_same (ends_at more) (ends_at script) 0 n
    (λ i low high. rw (take-append-le i script (byte ∷ []) (omega arith), get_or_append_left script (byte ∷ []) 0 i (omega arith))) in
    ap (λ k. filter (ends_at more) (range_with_len 0 k)) len
    ∙ ap (filter (ends_at more)) (range_more 0 n)
    ∙ filter-append (ends_at more) (range_with_len 0 n) ((0 + n) ∷ [])
    ∙ ap₂ ◌++◌ before (rw (zero-add n, here))

-- each of them lies in the script
pub ends_below : (script : List ℕ) → AllByRecursion (λ i. i < length script) (ends script)
ends_below script = kept_below (ends_at script) 0 (length script) (length script) (omega arith)

abbrev start_after : ℕ → List ℕ → ℕ
start_after start places = fold (λ _ end. end + 1) start places

start_within : (places : List ℕ) (start m : ℕ) → start ≤ m → AllByRecursion (λ i. i < m) places → start_after start places ≤ m
start_within [] start m low all = low
start_within (end ∷ places) start m low all = start_within places (end + 1) m (omega arith) all.1

-- the last piece starts in the script
pub last_start_within : (script : List ℕ) → (last_piece script).start ≤ length script
last_start_within script = start_within (ends script) 0 (length script) (omega arith) (ends_below script)

-- the pieces between places, with one place more
zip_closed : (start : ℕ) (places : List ℕ) (at : ℕ)
    → zip (start ∷ map (λ end. end + 1) (places ++ at ∷ [])) (places ++ at ∷ []) ≡ zip (start ∷ map (λ end. end + 1) places) places ++ (start_after start places, at) ∷ []
zip_closed start [] at = refl
zip_closed start (end ∷ places) at = ap (λ l. (start, end) ∷ l) (zip_closed (end + 1) places at)

zip_last : (start : ℕ) (places : List ℕ) (at : ℕ)
    → zip (start ∷ map (λ end. end + 1) places) (places ++ at ∷ []) ≡ zip (start ∷ map (λ end. end + 1) places) places ++ (start_after start places, at) ∷ []
zip_last start [] at = refl
zip_last start (end ∷ places) at = ap (λ l. (start, end) ∷ l) (zip_last (end + 1) places at)

abbrev between : List ℕ → ℕ × ℕ → Piece
between script (start, end) = piece_at script start end

-- all pieces are those that a `;` ends, and the last
pub pieces_are : (script : List ℕ) → pieces script ≡ closed_pieces script ++ last_piece script ∷ []
pieces_are script =
    ap (map (between script)) (zip_last 0 (ends script) (length script))
    ∙ map-append (between script) (zip (starts script) (ends script)) ((start_after 0 (ends script), length script) ∷ [])

-- a piece has its bytes whatever comes behind
bytes_stay : (script : List ℕ) (byte start end : ℕ) → end ≤ length script → slice_range (script ++ byte ∷ []) start end ≡ slice_range script start end
bytes_stay script byte start end within = elim (cases_lt end start) [
  | inl above ↦ let none : end - start ≡ 0 = omega arith in rw none
  | inr order ↦
      let low : start ≤ length script = omega arith in
      let room : end - start ≤ length (drop start script) = omega (arith, length-drop start script) in
      rw (drop-append-le start script (byte ∷ []) low, take-append-le (end - start) (drop start script) (byte ∷ []) room)
]

pub piece_stays : (script : List ℕ) (byte start end : ℕ) → end ≤ length script → piece_at (script ++ byte ∷ []) start end ≡ piece_at script start end
piece_stays script byte start end within = rw (bytes_stay script byte start end within)

bytes_longer : (script : List ℕ) (byte start : ℕ) → start ≤ length script
    → slice_range (script ++ byte ∷ []) start (length script + 1) ≡ slice_range script start (length script) ++ byte ∷ []
bytes_longer script byte start order =
    let n = length script in
    let left : length (drop start script) ≤ n - start = omega (arith, length-drop start script) in
    let all : length (drop start script ++ byte ∷ []) ≤ n + 1 - start = omega (arith, length-drop start script, length-append (drop start script) (byte ∷ [])) in
    rw (drop-append-le start script (byte ∷ []) order, take_all (n + 1 - start) (drop start script ++ byte ∷ []) all, take_all (n - start) (drop start script) left)

closed_stay : (script : List ℕ) (byte start : ℕ) (places : List ℕ) → AllByRecursion (λ i. i < length script) places
    → map (between (script ++ byte ∷ [])) (zip (start ∷ map (λ end. end + 1) places) places) ≡ map (between script) (zip (start ∷ map (λ end. end + 1) places) places)
closed_stay script byte start [] all = refl
closed_stay script byte start (end ∷ places) all =
    ap₂ ◌∷◌ (piece_stays script byte start end (omega arith)) (closed_stay script byte (end + 1) places all.1)

module _ (script : List ℕ) (byte : ℕ) where
  -- a byte that ends no piece closes none
  pub closed_same : ends_piece script byte ≡ false → closed_pieces (script ++ byte ∷ []) ≡ closed_pieces script
  closed_same none =
      let same : ends (script ++ byte ∷ []) ≡ ends script = ends_more script byte ∙ rw (none, append-nil) in
      rw (same, closed_stay script byte 0 (ends script) (ends_below script))

  -- a byte that ends a piece closes the last one
  pub closed_more : ends_piece script byte ≡ true → closed_pieces (script ++ byte ∷ []) ≡ closed_pieces script ++ last_piece script ∷ []
  closed_more one =
      let more = script ++ byte ∷ [] in
      let n = length script in
      let last : ends more ≡ ends script ++ n ∷ [] = ends_more script byte ∙ rw one in
      ap (λ places. map (between more) (zip (0 ∷ map (λ end. end + 1) places) places)) last
      ∙ ap (map (between more)) (zip_closed 0 (ends script) n)
      ∙ map-append (between more) (zip (starts script) (ends script)) ((start_after 0 (ends script), n) ∷ [])
      ∙ ap₂ ◌++◌ (closed_stay script byte 0 (ends script) (ends_below script)) (ap (λ p. p ∷ []) (piece_stays script byte (start_after 0 (ends script)) n (omega arith)))

  -- the last piece, with a byte that ends no piece
  pub last_longer : ends_piece script byte ≡ false
      → last_piece (script ++ byte ∷ []) ≡ record { start = (last_piece script).start; end = length script + 1; bytes = (last_piece script).bytes ++ byte ∷ [] }
  last_longer none =
      let more = script ++ byte ∷ [] in
      let same : ends more ≡ ends script = ends_more script byte ∙ rw (none, append-nil) in
      let start = start_after 0 (ends script) in
      ap₂ (λ places n. piece_at more (start_after 0 places) n) same (length-append script (byte ∷ []))
      ∙ ap (λ bytes. record { start = start; end = length script + 1; bytes = bytes }) (bytes_longer script byte start (last_start_within script))

  -- the last piece behind a byte that ends a piece
  pub last_new : ends_piece script byte ≡ true → last_piece (script ++ byte ∷ []) ≡ record { start = length script + 1; end = length script + 1; bytes = [] }
  last_new one =
      let more = script ++ byte ∷ [] in
      let n = length script in
      let places : ends more ≡ ends script ++ n ∷ [] = ends_more script byte ∙ rw one in
      let start : start_after 0 (ends more) ≡ n + 1 = ap (start_after 0) places ∙ fold-append (λ _ end. end + 1) 0 (ends script) (n ∷ []) in
      let none : n + 1 - (n + 1) ≡ 0 = omega arith in
      ap₂ (piece_at more) start (length-append script (byte ∷ [])) ∙ rw none
