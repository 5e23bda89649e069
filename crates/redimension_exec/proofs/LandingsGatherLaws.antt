-- Rows that land without synthetic dimensions and where several may land at one coordinate: no row depends on those before it.
use Rattle.std.proofs.Common.{◌≡◌, ℤ, true, false, cond, List, [], ◌∷◌, ◌++◌, map, length, Some, None, Result, Ok, Err, refl, sym, ap, ◌∙◌, subst}
use Rattle.std.proofs.lemmas.List.{append-nil}
use Rattle.std.specs.BTreeMap.{BTreeMap}
use Rattle.std.specs.List.{list_any}
use Rattle.std.specs.Prelude.{IfOk, not}
use Rattle.arrayvec.specs.ArrayVec.{ArrayVec}
use Rattle.cell_values.specs.declared.datum.Broken.{Broken}
use Rattle.cell_values.specs.declared.datum.Cell.{Cell}
use Rattle.cell_values.specs.declared.datum.Cell.TheVariants.{Full, Doubt}
use Rattle.cell_values.specs.declared.datum.FaultKind.{FaultKind}
use Rattle.cell_values.specs.declared.datum.FaultKind.TheVariants.{OutOfBounds}
use Rattle.cell_values.specs.declared.datum.Row.{Row}
use Rattle.cell_values.specs.declared.schema.Bounds.{Bounds}
use Rattle.cell_values.specs.Nulls.{is_null}
use Rattle.array_rows.specs.Boxes.{is_inside}
use Rattle.array_rows.specs.Rows.{Coordinate, IsRising}
use Rattle.agg_states.specs.Inner.Summary.{Summary}
use Rattle.logical_plan.specs.declared.parts.Aggregate.{Aggregate}
use Rattle.logical_plan.specs.Faults.{if_whole}
use Rattle.logical_plan.specs.Groups.{bad_kind, first_some}
use Rattle.logical_plan.specs.Redimension.{Origin, Landing, Landed, lands, drops, breaks, target_value, counted_places, counted_up, alike_so_far, landing_at, landing_of, unless_fault, after_landing, landed}
use Rattle.redimension_exec.specs.Inner.Counting.{has_counted}
use Rattle.redimension_exec.specs.Inner.Taking.{HoldsStates, IsTaken, rows_in}
use Rattle.redimension_exec.specs.Landings.{BeginsAs, first_numbers}
use Rattle.redimension_exec.proofs.LandedLaws.{whole_of}
use Rattle.redimension_exec.proofs.LandingLaws.{first_length}
use Rattle.redimension_exec.proofs.TakenLaws.{up_none}

module _ (origins : List Origin) (bounds : Bounds) (plain : has_counted origins ≡ false) where
  pub landing_free : (a b : List Coordinate) (c : Coordinate) (cell : Cell) → landing_of origins bounds false a c cell ≡ landing_of origins bounds false b c cell
  landing_free a b c (Doubt kind) = refl
  landing_free a b c (Full vs) =
      let first : Coordinate = first_numbers origins c (Full vs) in
      let long = first_length origins c (Full vs) in
      let same : counted_up origins (alike_so_far (counted_places origins 0) a first) first ≡ counted_up origins (alike_so_far (counted_places origins 0) b first) first =
      up_none origins (alike_so_far (counted_places origins 0) a first) first plain long ∙ sym (up_none origins (alike_so_far (counted_places origins 0) b first) first plain long) in
      λ i. unless_fault (first_some bad_kind (map (target_value c vs) origins)) (cond (list_any is_null (map (target_value c vs) origins)) drops (landing_at bounds false a (same i)))

  pub free : (rows : List Row) (a b : List Coordinate) → landed origins bounds false rows a ≡ landed origins bounds false rows b
  free [] a b = refl
  free (row ∷ rows) a b =
      (λ i. after_landing (landing_free a b row.at.items row.cell i) row (λ now. landed origins bounds false rows now) a)
      ∙ after (landing_of origins bounds false b row.at.items row.cell) (λ s t. free rows s t)
    where
      after : (l : Landing) → ((s t : List Coordinate) → landed origins bounds false rows s ≡ landed origins bounds false rows t)
          → after_landing l row (λ now. landed origins bounds false rows now) a ≡ after_landing l row (λ now. landed origins bounds false rows now) b
      after (lands t) again = ap (if_whole (λ (rest : List Landed). (t, row) ∷ rest)) (again (t ∷ a) (t ∷ b))
      after drops again = again a b
      after (breaks kind) again = refl

  -- ---- rows after others

  more_of : (x : Landed) (rest all : List Landed) (r : Result (List Landed) Broken) → x ∷ rest ≡ all → if_whole (λ (more : List Landed). x ∷ more) (if_whole (λ (more : List Landed). rest ++ more) r) ≡ if_whole (λ (more : List Landed). all ++ more) r
  more_of x rest all (Ok more) e = ap (λ (those : List Landed). Ok (those ++ more)) e
  more_of x rest all (Err broken) e = refl

  none_before : (r : Result (List Landed) Broken) (all : List Landed) → [] ≡ all → r ≡ if_whole (λ (more : List Landed). all ++ more) r
  none_before (Ok more) all e = ap (λ (those : List Landed). Ok (those ++ more)) e
  none_before (Err broken) all e = refl

  landed_then : (a b : List Row) (taken : List Coordinate) (all : List Landed) → landed origins bounds false a taken ≡ Ok all
      → landed origins bounds false (a ++ b) taken ≡ if_whole (λ more. all ++ more) (landed origins bounds false b [])
  landed_then [] b taken all e = free b taken [] ∙ none_before (landed origins bounds false b []) all (cc (e))
  landed_then (row ∷ a) b taken all e =
      cases (landing_of origins bounds false taken row.at.items row.cell) e (λ now left h. landed_then a b now left h)
    where
      cases : (l : Landing) → after_landing l row (λ now. landed origins bounds false a now) taken ≡ Ok all
          → ((now : List Coordinate) (left : List Landed) → landed origins bounds false a now ≡ Ok left → landed origins bounds false (a ++ b) now ≡ if_whole (λ more. left ++ more) (landed origins bounds false b []))
          → after_landing l row (λ now. landed origins bounds false (a ++ b) now) taken ≡ if_whole (λ more. all ++ more) (landed origins bounds false b [])
      cases drops g again = again taken all g
      cases (breaks kind) g again = absurd cc
      cases (lands t) g again =
          let split = whole_of (λ (rest : List Landed). (t, row) ∷ rest) (landed origins bounds false a (t ∷ taken)) all g in
          ap (if_whole (λ (more : List Landed). (t, row) ∷ more)) (again (t ∷ taken) split.0 split.1) ∙ more_of (t, row) split.0 all (landed origins bounds false b []) split.2

  pub landed_more : (a : List Row) (row : Row) (all some : List Landed) → landed origins bounds false a [] ≡ Ok all → landed origins bounds false (row ∷ []) [] ≡ Ok some
      → landed origins bounds false (a ++ row ∷ []) [] ≡ Ok (all ++ some)
  landed_more a row all some e f = landed_then a (row ∷ []) [] all e ∙ ap (if_whole (λ (more : List Landed). all ++ more)) f

  pub landed_breaks : (a b : List Row) (row : Row) (all : List Landed) (broken : Broken) → landed origins bounds false a [] ≡ Ok all → landed origins bounds false (row ∷ b) [] ≡ Err broken
      → landed origins bounds false (a ++ row ∷ b) [] ≡ Err broken
  landed_breaks a b row all broken e f = landed_then a (row ∷ b) [] all e ∙ ap (if_whole (λ (more : List Landed). all ++ more)) f

  -- ---- one row

  module _ (gs : List Aggregate) (row : Row) (old : BTreeMap (ArrayVec ℤ) (List Summary)) where
    pub next_breaks : (new : BTreeMap (ArrayVec ℤ) (List Summary)) (kind : FaultKind) (broken : Broken) → broken ≡ record { at = row.at; kind = kind } → BeginsAs origins row.at.items row.cell (Err kind)
        → IsTaken gs origins bounds row (Some broken) old new
    next_breaks new kind broken b e = λ rows.
        (λ i. after_landing (e bounds false [] i) row (λ now. landed origins bounds false rows now) []) ∙ ap (λ (o : Broken). Err o) (sym b)

    pub next_drops : BeginsAs origins row.at.items row.cell (Ok None) → IsTaken gs origins bounds row None old old
    next_drops e = (
      [],
      (λ i. after_landing (e bounds false [] i) row (λ now. landed origins bounds false [] now) []),
      λ all h r. subst (λ (those : List Landed). HoldsStates gs those old) (sym (append-nil all)) h,
    )

    lands_at : (at : ArrayVec ℤ) → BeginsAs origins row.at.items row.cell (Ok (Some at)) → landing_of origins bounds false [] row.at.items row.cell ≡ landing_at bounds false [] at.items
    lands_at at e =
        let long = ap length e.0 ∙ first_length origins row.at.items row.cell in
        e.1 bounds false [] ∙ (λ i. landing_at bounds false [] (up_none origins (alike_so_far (counted_places origins 0) [] at.items) at.items plain long i))

    pub next_outside : (new : BTreeMap (ArrayVec ℤ) (List Summary)) (at : ArrayVec ℤ) (broken : Broken) → BeginsAs origins row.at.items row.cell (Ok (Some at)) → is_inside bounds at.items ≡ false
        → broken ≡ record { at = row.at; kind = OutOfBounds } → IsTaken gs origins bounds row (Some broken) old new
    next_outside new at broken e out b = λ rows.
        (λ i. after_landing ((lands_at at e ∙ (λ j. cond (not (out j)) (breaks OutOfBounds) (lands at.items))) i) row (λ now. landed origins bounds false rows now) [])
        ∙ ap (λ (o : Broken). Err o) (sym b)

    pub next_taken : (new : BTreeMap (ArrayVec ℤ) (List Summary)) (at : ArrayVec ℤ) → BeginsAs origins row.at.items row.cell (Ok (Some at)) → is_inside bounds at.items ≡ true
        → ((all : List Landed) → HoldsStates gs all old → IsRising (rows_in (all ++ (at.items, row) ∷ [])) → HoldsStates gs (all ++ (at.items, row) ∷ []) new)
        → IsTaken gs origins bounds row None old new
    next_taken new at e inside holds = (
      (at.items, row) ∷ [],
      (λ i. after_landing ((lands_at at e ∙ (λ j. cond (not (inside j)) (breaks OutOfBounds) (lands at.items))) i) row (λ now. landed origins bounds false [] now) []),
      holds,
    )

pub if_ok : {X E : Type 0} {P Q : X → Type 0} (r : Result X E) → IfOk r P → ((x : X) → P x → Q x) → IfOk r Q
if_ok (Ok x) p f = f x p
if_ok (Err e) p f = p
