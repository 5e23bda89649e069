-- The chunks of numbered cells, one after the other.
use Rattle.std.proofs.Common.{◌≡◌, ℕ, zero, suc, ◌+◌, ◌*◌, ◌<◌, ◌≤◌, ◌^◌, pos, ◌⊎◌, ◌||◌, inl, inr, ◌&&◌, Bool, true, false, IsTrue, List, [], ◌∷◌, ◌++◌, map, length, take, drop, min, refl, sym, ap, ◌∙◌, subst, append_assoc, add-one, arith}
use Rattle.std.proofs.lemmas.Bool.{cases_lt}
use Rattle.std.proofs.lemmas.Int.{ints}
use Rattle.std.proofs.lemmas.List.{append-nil, length-append, length-drop, length-map, length-take, map-append, nil_from_length, take-append-drop}
use Rattle.std.proofs.lemmas.List.Folds.{list_any-append}
use Rattle.std.specs.Cmp.{nat_cmp_is}
use Rattle.std.specs.List.{AllByRecursion, list_any}
use Rattle.std.specs.Ordering.{is_eq, nat_cmp, ordering_then}
use Rattle.std.specs.declared.cmp.Ordering.TheVariants.{Less, Equal}
use Rattle.cell_values.specs.declared.datum.Cell.{Cell}
use Rattle.cell_values.specs.declared.datum.Row.{Row}
use Rattle.cell_values.specs.declared.schema.Dimension.{Dimension}
use Rattle.cell_values.specs.declared.schema.Schema.{Schema}
use Rattle.cell_values.specs.Schemas.{IsValid}
use Rattle.array_rows.specs.Boxes.{within}
use Rattle.array_geom.specs.declared.chunk.Chunk.{Chunk}
use Rattle.array_geom.specs.Geometry.{ChunkNumber, HasFrame, core, first_in, frame, frame_lengths, has_core, volume}
use Rattle.array_geom.specs.Link.{IsPart, NumbersRise, chunk_rows, has_cell, is_listed, is_not_empty, number_order, numbers}
use Rattle.array_geom.proofs.TestLaws.{le_test}
use Rattle.array_parts.specs.Made.{IsPlaced}
use Rattle.array_parts.specs.Parts.{AreParts}
use Rattle.array_parts.specs.Placed.{HasPlaces, HavePlaces}
use Rattle.logical_plan.specs.Ordered.{numbered}
use Rattle.logical_plan.specs.ShapeSchemas.{counting}
use Rattle.order_exec.proofs.AlongLaws.{all_joined}
use Rattle.order_exec.proofs.NumberedLaws.{core_below, none_pass, within_frame}

-- ---- the first numbers

abbrev pub first_numbers : ℕ → List ChunkNumber
first_numbers zero = []
first_numbers (suc n) = first_numbers n ++ (n ∷ []) ∷ []

all_earlier : (n m : ℕ) → n ≤ m → AllByRecursion (λ k. number_order k (m ∷ []) ≡ Less) (first_numbers n)
all_earlier zero m l = tt
all_earlier (suc n) m l =
    all_joined (λ k. number_order k (m ∷ []) ≡ Less) (first_numbers n) ((n ∷ []) ∷ []) (all_earlier n m (omega (arith, l)))
    (ap (λ o. ordering_then o Equal) (sym (nat_cmp_is n m Less (omega (arith, l)))), tt)

rise_joined : (ks : List ChunkNumber) (k : ChunkNumber) → NumbersRise ks → AllByRecursion (λ other. number_order other k ≡ Less) ks → NumbersRise (ks ++ k ∷ [])
rise_joined [] k r a = (tt, tt)
rise_joined (n ∷ ks) k r a = (all_joined (λ later. number_order n later ≡ Less) ks (k ∷ []) r.0 (a.0, tt), rise_joined ks k r.1 a.1)

first_rise : (n : ℕ) → NumbersRise (first_numbers n)
first_rise zero = tt
first_rise (suc n) = rise_joined (first_numbers n) (n ∷ []) (first_rise n) (all_earlier n n (omega arith))

first_sized : (n : ℕ) → AllByRecursion (λ k. length k ≡ 1) (first_numbers n)
first_sized zero = tt
first_sized (suc n) = all_joined (λ k. length k ≡ 1) (first_numbers n) ((n ∷ []) ∷ []) (first_sized n) (refl, tt)

first_listed : (n q : ℕ) → q < n → is_listed (q ∷ []) (first_numbers n) ≡ true
first_listed zero q l = absurd (omega (arith, l))
first_listed (suc n) q l = list_any-append (λ k. is_eq (number_order k (q ∷ []))) (first_numbers n) ((n ∷ []) ∷ []) ∙ cases (cases_lt q n) (first_listed n q)
  where
    or_right : (b : Bool) → (b || true) ≡ true
    or_right true = refl
    or_right false = refl

    cases : (q < n) ⊎ (n ≤ q) → (q < n → is_listed (q ∷ []) (first_numbers n) ≡ true)
        → (list_any (λ k. is_eq (number_order k (q ∷ []))) (first_numbers n) || list_any (λ k. is_eq (number_order k (q ∷ []))) ((n ∷ []) ∷ [])) ≡ true
    cases (inl h) ih = ap (λ (b : Bool). b || list_any (λ k. is_eq (number_order k (q ∷ []))) ((n ∷ []) ∷ [])) (ih h)
    cases (inr h) ih =
        let same : Equal ≡ nat_cmp n q = nat_cmp_is n q Equal (omega (arith, h, l)) in
        ap (λ o. list_any (λ k. is_eq (number_order k (q ∷ []))) (first_numbers n) || (is_eq (ordering_then o Equal) || false)) (sym same)
        ∙ or_right (list_any (λ k. is_eq (number_order k (q ∷ []))) (first_numbers n))

-- ---- so many chunks so far

pub record ChunksSoFar (A : Type 0) (dims : List Dimension) (target : Schema) (margins : List ℕ) (f : A → Cell) (keyed rest : List A) (number : ℕ) (chunks : List Chunk) : Type 0 where
  pub front : List A
  pub all : keyed ≡ front ++ rest
  pub few : length front ≤ number * 1000
  pub full : (length front ≡ number * 1000) ⊎ (rest ≡ [])
  pub numbers_are : numbers chunks ≡ first_numbers number
  pub places : AllByRecursion (HasPlaces target margins) chunks
  pub parts : AllByRecursion (IsPart dims margins (numbered 0 (map f keyed))) chunks

module _ {A : Type 0} (name : List ℕ) (target : Schema) (margins : List ℕ) (e : target.dimensions ≡ counting name ∷ []) (m : margins ≡ 0 ∷ []) (valid : IsValid target) (f : A → Cell) (keyed : List A) (bounded : length keyed < 2 ^ 62) where
  abbrev SoFar : List A → ℕ → List Chunk → Type 0
  SoFar = ChunksSoFar A target.dimensions target margins f keyed

  framed : (q : ℕ) → q * 1000 < 2 ^ 62 → HasFrame target margins (q ∷ [])
  framed q l = record {
    valid = valid;
    core = subst (λ (ds : List Dimension). IsTrue (has_core ds (q ∷ []))) (sym e) (ap (λ (b : Bool). b && true) (le_test (first_in (counting name) q) (pos 4611686018427387903) (omega (arith, ints, l))));
    each = ap (λ (ms : List ℕ). length ms) m ∙ sym (ap (λ (ds : List Dimension). length ds) e);
    places = subst (λ (ds : List Dimension). volume (frame_lengths ds margins) ≤ 2 ^ 48) (sym e) (subst (λ (ms : List ℕ). volume (frame_lengths (counting name ∷ []) ms) ≤ 2 ^ 48) (sym m) (omega arith));
  }

  pub one_more_chunk : (some rest others : List A) (number : ℕ) (chunk : Chunk) (chunks more : List Chunk) → 0 < length rest → rest ≡ some ++ others → (length some ≡ 1000) ⊎ (others ≡ []) → length some ≤ 1000 → chunk.at.items ≡ number ∷ []
      → IsPlaced target.dimensions margins chunk → chunk_rows target.dimensions margins chunk ≡ numbered (number * 1000) (map f some) → more ≡ chunks ++ chunk ∷ [] → SoFar rest number chunks → SoFar others (number + 1) more
  one_more_chunk some rest others number chunk chunks more nonempty cut end short at placed rows pushed h =
      let whole : length h.front ≡ number * 1000 = front_full h.full in
      let long = length-append h.front some in
      let all_of : keyed ≡ h.front ++ (some ++ others) = h.all ∙ ap (λ (ks : List A). h.front ++ ks) cut in
      let few : number * 1000 < 2 ^ 62 =
      let n = ap (λ (ks : List A). length ks) h.all in
      let k = length-append h.front rest in
      omega (arith, n, k, whole, bounded) in
      let mapped : map f keyed ≡ map f h.front ++ (map f some ++ map f others) = ap (map f) all_of ∙ map-append f h.front (some ++ others) ∙ ap (λ (cs : List Cell). map f h.front ++ cs) (map-append f some others) in
      let first_long = length-map h.front f in
      let some_long = length-map some f in
      let own : within (frame target.dimensions margins chunk.at.items) (numbered 0 (map f keyed)) ≡ numbered (number * 1000) (map f some) =
      (λ i. within (frame (e i) (m i) (at i)) (numbered 0 (mapped i)))
      ∙ within_frame name number (map f h.front) (map f some) (map f others) (first_long ∙ whole) (omega (arith, some_long, short)) (mapped_end end) in
      record {
        front = h.front ++ some;
        all = all_of ∙ sym (append_assoc h.front some others);
        few = omega (arith, long, whole, short);
        full = ends end whole long;
        numbers_are = ap numbers pushed ∙ map-append (λ (c : Chunk). c.at.items) chunks (chunk ∷ []) ∙ (λ i. h.numbers_are i ++ at i ∷ []) ∙ sym (ap first_numbers (add-one number));
        places = subst (AllByRecursion (HasPlaces target margins)) (sym pushed)
            (all_joined (HasPlaces target margins) chunks (chunk ∷ []) h.places (record { framed = subst (λ (k : ChunkNumber). HasFrame target margins k) (sym at) (framed number few); placed = placed }, tt));
        parts = subst (AllByRecursion (IsPart target.dimensions margins (numbered 0 (map f keyed)))) (sym pushed)
            (all_joined (IsPart target.dimensions margins (numbered 0 (map f keyed))) chunks (chunk ∷ []) h.parts (record { each = placed.each; in_frame = placed.in_frame; cells = rows ∙ sym own }, tt));
      }
    where
      front_full : (length h.front ≡ number * 1000) ⊎ (rest ≡ []) → length h.front ≡ number * 1000
      front_full (inl w) = w
      front_full (inr w) = absurd (let n = ap (λ (ks : List A). length ks) w in omega (arith, n, nonempty))

      mapped_end : (length some ≡ 1000) ⊎ (others ≡ []) → (length (map f some) ≡ 1000) ⊎ (map f others ≡ [])
      mapped_end (inl w) = inl (length-map some f ∙ w)
      mapped_end (inr w) = inr (ap (map f) w)

      ends : (length some ≡ 1000) ⊎ (others ≡ []) → length h.front ≡ number * 1000 → length (h.front ++ some) ≡ length h.front + length some → (length (h.front ++ some) ≡ (number + 1) * 1000) ⊎ (others ≡ [])
      ends (inl w) x y = inl (omega (arith, w, x, y))
      ends (inr w) x y = inr w

  -- ---- all chunks

  pub all_places : (rest : List A) (number : ℕ) (chunks : List Chunk) → SoFar rest number chunks → HavePlaces target margins chunks
  all_places rest number chunks h = record {
    valid = valid;
    each = (framed 0 (omega arith)).each;
    places = (framed 0 (omega arith)).places;
    rising = subst NumbersRise (sym h.numbers_are) (first_rise number);
    sized = subst (AllByRecursion (λ k. length k ≡ length target.dimensions)) (sym h.numbers_are) (subst (λ (n : ℕ). AllByRecursion (λ k. length k ≡ n) (first_numbers number)) (sym (ap (λ (ds : List Dimension). length ds) e)) (first_sized number));
    all = h.places;
  }

  pub all_parts : (rest : List A) (number : ℕ) (chunks : List Chunk) → rest ≡ [] → SoFar rest number chunks → AreParts target.dimensions margins (numbered 0 (map f keyed)) chunks
  all_parts rest number chunks none h = record {
    in_order = (all_places rest number chunks h).rising;
    sized = (all_places rest number chunks h).sized;
    enough = λ k l has. subst (λ (ks : List ChunkNumber). IsTrue (is_listed k ks)) (sym h.numbers_are)
        (listed k (l ∙ ap (λ (ds : List Dimension). length ds) e) (subst (λ (ds : List Dimension). IsTrue (has_cell ds (numbered 0 (map f keyed)) k)) e has));
    parts = h.parts;
  }
    where
      held : length keyed ≤ number * 1000
      held =
          let n = ap (λ (ks : List A). length ks) (h.all ∙ ap (λ (ks : List A). h.front ++ ks) none ∙ append-nil h.front) in
          let k = h.few in
          omega (arith, n, k)

      listed : (k : ChunkNumber) → length k ≡ 1 → IsTrue (has_cell (counting name ∷ []) (numbered 0 (map f keyed)) k) → IsTrue (is_listed k (first_numbers number))
      listed [] l has = absurd (omega (arith, l))
      listed (q ∷ p ∷ k) l has = absurd (omega (arith, l))
      listed (q ∷ []) l has = cases (cases_lt q number)
        where
          cases : (q < number) ⊎ (number ≤ q) → IsTrue (is_listed (q ∷ []) (first_numbers number))
          cases (inl less) = first_listed number q less
          cases (inr more) = absurd (empty has)
            where
              long : length (map f keyed) ≡ length keyed
              long = length-map keyed f

              nothing : within (core (counting name ∷ []) (q ∷ [])) (numbered 0 (map f keyed)) ≡ []
              nothing = none_pass _ 0 (map f keyed) (λ n low high. core_below name q n (omega (arith, high, long, held, more)))

              empty : IsTrue (is_not_empty (within (core (counting name ∷ []) (q ∷ [])) (numbered 0 (map f keyed)))) → ⊥
              empty x = let y : IsTrue false = subst (λ (rows : List Row). IsTrue (is_not_empty rows)) nothing x in cc

-- ---- where the rest is cut

pub cut_at : {A : Type 0} (n : ℕ) (rest some others : List A) → some ≡ take n rest → others ≡ drop n rest → rest ≡ some ++ others
cut_at {A = A} n rest some others e f = sym ((λ i. e i ++ f i) ∙ take-append-drop n rest)

pub cut_length : {A : Type 0} (n : ℕ) (rest some others : List A) → n ≡ min (length rest) 1000 → some ≡ take n rest → length some ≤ 1000
cut_length {A = A} n rest some others m e = let t = ap (λ (ks : List A). length ks) e ∙ length-take n rest in omega (arith, t, m)

pub cut_end : {A : Type 0} (n : ℕ) (rest some others : List A) → n ≡ min (length rest) 1000 → some ≡ take n rest → others ≡ drop n rest → (length some ≡ 1000) ⊎ (others ≡ [])
cut_end {A = A} n rest some others m e f = cases (cases_lt (length rest) 1000)
  where
    cases : (length rest < 1000) ⊎ (1000 ≤ length rest) → (length some ≡ 1000) ⊎ (others ≡ [])
    cases (inl l) = inr (nil_from_length others (let t = ap (λ (ks : List A). length ks) f ∙ length-drop n rest in omega (arith, t, m, l)))
    cases (inr l) = inl (let t = ap (λ (ks : List A). length ks) e ∙ length-take n rest in omega (arith, t, m, l))
