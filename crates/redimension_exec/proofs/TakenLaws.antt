-- Whether a target was taken before.
use Rattle.std.proofs.Common.{◌≡◌, ℕ, ◌+◌, ◌<◌, ◌≤◌, ℤ, Bool, true, false, cond, ◌||◌, List, [], ◌∷◌, length, filter, refl, sym, ap, ◌∙◌, subst, arith}
use Rattle.std.specs.BTreeMap as tree
use Rattle.std.specs.BTreeMap.{BTreeMap, Updates}
use Rattle.std.specs.List.{list_any}
use Rattle.std.specs.Option.{unwrap_or}
use Rattle.std.specs.Ordering.{is_eq}
use Rattle.std.specs.Prelude.{nat_lt, not, ◌&&◌, Some}
use Rattle.arrayvec.specs.ArrayVec.{ArrayVec}
use Rattle.cell_values.specs.declared.datum.FaultKind.TheVariants.{OutOfBounds, Collision}
use Rattle.cell_values.specs.declared.schema.Bounds.{Bounds}
use Rattle.array_rows.specs.Boxes.{is_inside}
use Rattle.array_rows.specs.Rows.{Coordinate, row_major}
use Rattle.array_rows.proofs.RowsLemmas.{row_major_exact, same_coordinate}
use Rattle.logical_plan.specs.Redimension.{Origin, from_dimension, from_attribute, counted, counted_places, counted_up, alike_so_far, landing_at, breaks, lands}
use Rattle.redimension_exec.specs.Inner.Counting.{by_numbers, has_counted, uncounted, HasLows, landed_with, AreNumbered, AreCountsOf}
use Rattle.redimension_exec.proofs.CountLaws.{alike_is, and_false, counts_each, is_equal, same_number, uncounted_none, uncounted_up}

-- some item passes a test exactly where more than none of them do
any_counted : {A : Type 0} (p : A → Bool) (xs : List A) → list_any p xs ≡ nat_lt 0 (length (filter p xs))
any_counted p [] = refl
any_counted p (x ∷ xs) = cases (p x) (any_counted p xs)
  where
    cases : (t : Bool) → list_any p xs ≡ nat_lt 0 (length (filter p xs)) → (t || list_any p xs) ≡ nat_lt 0 (length (cond t (x ∷ filter p xs) (filter p xs)))
    cases true ih = grind arith
    cases false ih = ih

-- without synthetic dimensions nothing is counted up
pub up_none : (os : List Origin) (n : ℕ) (c : Coordinate) → has_counted os ≡ false → length c ≡ length os → counted_up os n c ≡ c
up_none [] n c h l = refl
up_none (o ∷ os) n [] h l = refl
up_none (counted lo ∷ os) n (x ∷ c) h l = cc
up_none (from_dimension place ∷ os) n (x ∷ c) h l = ap (λ (rest : Coordinate). x ∷ rest) (up_none os n c h (omega (arith, l)))
up_none (from_attribute place ∷ os) n (x ∷ c) h l = ap (λ (rest : Coordinate). x ∷ rest) (up_none os n c h (omega (arith, l)))

-- without synthetic dimensions the targets of other cells are the numbers themselves
taken_as_counted : (origins : List Origin) (taken : List Coordinate) (c : Coordinate) → has_counted origins ≡ false → length c ≡ length origins → AreNumbered origins taken
    → list_any (λ t. is_eq (row_major t c)) taken ≡ nat_lt 0 (landed_with origins taken (uncounted origins c))
taken_as_counted origins taken c h l numbered =
    same taken numbered ∙ any_counted (λ t. is_eq (row_major (uncounted origins t) (uncounted origins c))) taken
  where
    long : (t : Coordinate) → (n : ℕ) → (first : Coordinate) → length first ≡ length origins → t ≡ counted_up origins n first → uncounted origins t ≡ t
    long t n first lf e = ap (uncounted origins) e ∙ uncounted_up origins n first ∙ uncounted_none origins first h lf ∙ sym (up_none origins n first h lf) ∙ sym e

    same : (ts : List Coordinate) → AreNumbered origins ts → list_any (λ t. is_eq (row_major t c)) ts ≡ list_any (λ t. is_eq (row_major (uncounted origins t) (uncounted origins c))) ts
    same [] num = refl
    same (t ∷ ts) num =
        let here : uncounted origins t ≡ t = long t (landed_with origins ts (uncounted origins num.0.0)) num.0.0 num.0.1 num.0.3 in
        let there : uncounted origins c ≡ c = uncounted_none origins c h l in
        λ i. is_eq (row_major (sym here i) (sym there i)) || same ts num.1 i

-- a synthetic number makes each target another one
none_taken : (origins : List Origin) (taken : List Coordinate) (c : Coordinate) (m : ℕ) → has_counted origins ≡ true → length c ≡ length origins → HasLows origins c → AreNumbered origins taken
    → landed_with origins taken (uncounted origins c) ≤ m → list_any (λ t. is_eq (row_major t (counted_up origins m c))) taken ≡ false
none_taken origins [] c m h l lows num le = refl
none_taken origins (t ∷ taken) c m h l lows num le =
    λ i. here (is_eq (row_major t (counted_up origins m c))) refl i || none_taken origins taken c m h l lows num.1 (fewer (is_eq (row_major (uncounted origins t) (uncounted origins c))) le) i
  where
    key : Coordinate
    key = uncounted origins c

    those : List Coordinate
    those = filter (λ s. is_eq (row_major (uncounted origins s) key)) taken

    fewer : (b : Bool) → length (cond b (t ∷ those) those) ≤ m → length those ≤ m
    fewer true e = omega (arith, e)
    fewer false e = e

    here : (b : Bool) → is_eq (row_major t (counted_up origins m c)) ≡ b → b ≡ false
    here false e = refl
    here true e =
        let first : Coordinate = num.0.0 in
        let made : t ≡ counted_up origins (landed_with origins taken (uncounted origins first)) first = num.0.3 in
        let same : t ≡ counted_up origins m c = row_major_exact t (counted_up origins m c) (is_equal (row_major t (counted_up origins m c)) e) in
        let keyed : uncounted origins t ≡ key = ap (uncounted origins) same ∙ uncounted_up origins m c in
        let firsts : uncounted origins first ≡ key = sym (ap (uncounted origins) made ∙ uncounted_up origins (landed_with origins taken (uncounted origins first)) first) ∙ keyed in
        let number : landed_with origins taken (uncounted origins first) ≡ m = same_number origins first c (landed_with origins taken (uncounted origins first)) m h num.0.1 l num.0.2 lows (sym made ∙ same) in
        let before : length those ≡ m = sym (ap (landed_with origins taken) firsts) ∙ number in
        let counts : is_eq (row_major (uncounted origins t) key) ≡ true = (λ i. is_eq (row_major (keyed i) key)) ∙ ap is_eq (same_coordinate key) in
        let more : length (t ∷ those) ≤ m = subst (λ (b : Bool). length (cond b (t ∷ those) those) ≤ m) counts le in
        absurd (omega (arith, before, more))

-- whether a target is taken, by the count of the cells that came before
pub taken_by_count : (origins : List Origin) (taken : List Coordinate) (c : Coordinate) (n : ℕ) → length c ≡ length origins → HasLows origins c → AreNumbered origins taken
    → n ≡ landed_with origins taken (uncounted origins c) → list_any (λ t. is_eq (row_major t (counted_up origins n c))) taken ≡ (nat_lt 0 n && not (has_counted origins))
taken_by_count origins taken c n l lows num e = cases (has_counted origins) refl
  where
    cases : (h : Bool) → has_counted origins ≡ h → list_any (λ t. is_eq (row_major t (counted_up origins n c))) taken ≡ (nat_lt 0 n && not h)
    cases true h = none_taken origins taken c n h l lows num (omega (arith, e)) ∙ sym (and_false (nat_lt 0 n) (not true) refl)
    cases false h =
        (λ i. list_any (λ t. is_eq (row_major t (up_none origins n c h l i))) taken)
        ∙ taken_as_counted origins taken c h l num
        ∙ (λ i. nat_lt 0 (sym e i))
        ∙ always (nat_lt 0 n)
      where
        always : (b : Bool) → b ≡ (b && true)
        always true = refl
        always false = refl

-- ---- where the numbers land

pub out_of_bounds : (origins : List Origin) (bounds : Bounds) (taken : List Coordinate) (first : Coordinate) (n : ℕ) → n ≡ landed_with origins taken (uncounted origins first)
    → is_inside bounds (counted_up origins n first) ≡ false
    → landing_at bounds true taken (counted_up origins (alike_so_far (counted_places origins 0) taken first) first) ≡ breaks OutOfBounds
out_of_bounds origins bounds taken first n e out =
    (λ i. landing_at bounds true taken (counted_up origins ((alike_is origins taken first ∙ sym e) i) first))
    ∙ (λ i. cond (not (out i)) (breaks OutOfBounds) (cond (list_any (λ t. is_eq (row_major t (counted_up origins n first))) taken) (breaks Collision) (lands (counted_up origins n first))))

landed_as : (origins : List Origin) (bounds : Bounds) (taken : List Coordinate) (first : Coordinate) (n : ℕ) (b : Bool) → length first ≡ length origins → HasLows origins first → AreNumbered origins taken
    → n ≡ landed_with origins taken (uncounted origins first) → is_inside bounds (counted_up origins n first) ≡ true → (nat_lt 0 n && not (has_counted origins)) ≡ b
    → landing_at bounds true taken (counted_up origins (alike_so_far (counted_places origins 0) taken first) first) ≡ cond b (breaks Collision) (lands (counted_up origins n first))
landed_as origins bounds taken first n b l lows num e inside again =
    (λ i. landing_at bounds true taken (counted_up origins ((alike_is origins taken first ∙ sym e) i) first))
    ∙ (λ i. cond (not (inside i)) (breaks OutOfBounds) (cond ((taken_by_count origins taken first n l lows num e ∙ again) i) (breaks Collision) (lands (counted_up origins n first))))

pub collides : (origins : List Origin) (bounds : Bounds) (taken : List Coordinate) (first : Coordinate) (n : ℕ) → length first ≡ length origins → HasLows origins first → AreNumbered origins taken
    → n ≡ landed_with origins taken (uncounted origins first) → is_inside bounds (counted_up origins n first) ≡ true → (nat_lt 0 n && not (has_counted origins)) ≡ true
    → landing_at bounds true taken (counted_up origins (alike_so_far (counted_places origins 0) taken first) first) ≡ breaks Collision
collides origins bounds taken first n l lows num e inside again = landed_as origins bounds taken first n true l lows num e inside again

pub takes_place : (origins : List Origin) (bounds : Bounds) (taken : List Coordinate) (first : Coordinate) (n : ℕ) → length first ≡ length origins → HasLows origins first → AreNumbered origins taken
    → n ≡ landed_with origins taken (uncounted origins first) → is_inside bounds (counted_up origins n first) ≡ true → (nat_lt 0 n && not (has_counted origins)) ≡ false
    → landing_at bounds true taken (counted_up origins (alike_so_far (counted_places origins 0) taken first) first) ≡ lands (counted_up origins n first)
takes_place origins bounds taken first n l lows num e inside again = landed_as origins bounds taken first n false l lows num e inside again

-- the counts after one target more
pub counted_more : (origins : List Origin) (taken : List Coordinate) (counts new : BTreeMap (ArrayVec ℤ) ℕ) (key : ArrayVec ℤ) (first at : Coordinate) (n : ℕ) → AreCountsOf origins taken counts
    → length first ≡ length origins → HasLows origins first → key.items ≡ uncounted origins first → n ≡ unwrap_or (tree.get by_numbers counts key) 0 → at ≡ counted_up origins n first
    → Updates by_numbers counts new key (Some (n + 1)) → AreCountsOf origins (at ∷ taken) new
counted_more origins taken counts new key first at n are l lows k e made update =
    let number : n ≡ landed_with origins taken key.items = e ∙ are.each key in
    let keyed : uncounted origins at ≡ key.items = ap (uncounted origins) made ∙ uncounted_up origins n first ∙ sym k in
    record {
      each = counts_each origins taken counts new key n at are.each update number keyed;
      numbered = ((first, l, lows, made ∙ (λ i. counted_up origins ((number ∙ ap (landed_with origins taken) k) i) first)), are.numbered);
    }

-- ---- what becomes of a cell with these numbers

module _ (origins : List Origin) (bounds : Bounds) (counts : BTreeMap (ArrayVec ℤ) ℕ) (first : Coordinate) (key : ArrayVec ℤ) (n : ℕ) (k : key.items ≡ uncounted origins first)
    (e : n ≡ unwrap_or (tree.get by_numbers counts key) 0) where
  number : (taken : List Coordinate) → AreCountsOf origins taken counts → n ≡ landed_with origins taken (uncounted origins first)
  number taken are = e ∙ are.each key ∙ ap (landed_with origins taken) k

  pub place_beyond : is_inside bounds (counted_up origins n first) ≡ false → (taken : List Coordinate) → AreCountsOf origins taken counts
      → landing_at bounds true taken (counted_up origins (alike_so_far (counted_places origins 0) taken first) first) ≡ breaks OutOfBounds
  place_beyond out taken are = out_of_bounds origins bounds taken first n (number taken are) out

  module _ (l : length first ≡ length origins) (lows : HasLows origins first) (at : Coordinate) (made : at ≡ counted_up origins n first) (inside : is_inside bounds at ≡ true) where
    within : is_inside bounds (counted_up origins n first) ≡ true
    within = ap (is_inside bounds) (sym made) ∙ inside

    pub place_taken : (nat_lt 0 n && not (has_counted origins)) ≡ true → (taken : List Coordinate) → AreCountsOf origins taken counts
        → landing_at bounds true taken (counted_up origins (alike_so_far (counted_places origins 0) taken first) first) ≡ breaks Collision
    place_taken again taken are = collides origins bounds taken first n l lows are.numbered (number taken are) within again

    pub place_free : (nat_lt 0 n && not (has_counted origins)) ≡ false → (new : BTreeMap (ArrayVec ℤ) ℕ) → Updates by_numbers counts new key (Some (n + 1)) → (taken : List Coordinate) → AreCountsOf origins taken counts
        → (landing_at bounds true taken (counted_up origins (alike_so_far (counted_places origins 0) taken first) first) ≡ lands at) × AreCountsOf origins (at ∷ taken) new
    place_free again new update taken are =
        (takes_place origins bounds taken first n l lows are.numbered (number taken are) within again ∙ ap lands (sym made), counted_more origins taken counts new key first at n are l lows k e made update)

-- synthetic numbers keep the targets apart
pub kept_apart : (origins : List Origin) (n : ℕ) → has_counted origins ≡ true → (nat_lt 0 n && not (has_counted origins)) ≡ false
kept_apart origins n h = (λ i. nat_lt 0 n && not (h i)) ∙ and_false (nat_lt 0 n) (not true) refl

-- ---- the same without synthetic dimensions, where the numbers are the target

module _ (origins : List Origin) (bounds : Bounds) (counts : BTreeMap (ArrayVec ℤ) ℕ) (first : Coordinate) (plain : has_counted origins ≡ false) (l : length first ≡ length origins) (lows : HasLows origins first) where
  same_up : (n m : ℕ) → counted_up origins n first ≡ counted_up origins m first
  same_up n m = up_none origins n first plain l ∙ sym (up_none origins m first plain l)

  pub plain_beyond : is_inside bounds (counted_up origins 0 first) ≡ false → (taken : List Coordinate) → AreCountsOf origins taken counts
      → landing_at bounds true taken (counted_up origins (alike_so_far (counted_places origins 0) taken first) first) ≡ breaks OutOfBounds
  plain_beyond out =
      let key : ArrayVec ℤ = record { items = uncounted origins first } in
      let n : ℕ = unwrap_or (tree.get by_numbers counts key) 0 in
      place_beyond origins bounds counts first key n refl refl (ap (is_inside bounds) (same_up n 0) ∙ out)

  module _ (key : ArrayVec ℤ) (n : ℕ) (k : key.items ≡ uncounted origins first) (e : n ≡ unwrap_or (tree.get by_numbers counts key) 0) (at : Coordinate) (made : at ≡ counted_up origins 0 first)
      (inside : is_inside bounds at ≡ true) where
    pub plain_taken : 0 < n → (taken : List Coordinate) → AreCountsOf origins taken counts
        → landing_at bounds true taken (counted_up origins (alike_so_far (counted_places origins 0) taken first) first) ≡ breaks Collision
    plain_taken some =
        let again : nat_lt 0 n ≡ true = grind (arith, some) in
        place_taken origins bounds counts first key n k e l lows at (made ∙ same_up 0 n) inside (λ i. again i && not (plain i))

    pub plain_free : n ≤ 0 → (new : BTreeMap (ArrayVec ℤ) ℕ) → Updates by_numbers counts new key (Some 1) → (taken : List Coordinate) → AreCountsOf origins taken counts
        → (landing_at bounds true taken (counted_up origins (alike_so_far (counted_places origins 0) taken first) first) ≡ lands at) × AreCountsOf origins (at ∷ taken) new
    plain_free none new update =
        let zero_of : 0 ≡ n = omega (arith, none) in
        place_free origins bounds counts first key 0 k (zero_of ∙ e) l lows at made inside (λ i. false && not (plain i)) new update
