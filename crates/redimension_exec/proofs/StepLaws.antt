-- Rows that land one after the other.
use Rattle.std.proofs.Common.{◌≡◌, ℕ, ℤ, true, List, [], ◌∷◌, ◌++◌, map, Option, Some, None, Result, Ok, Err, refl, sym, ap, ◌∙◌, subst, append_assoc}
use Rattle.std.proofs.lemmas.List.{append-nil, map-append, reverse-append}
use Rattle.std.specs.BTreeMap.{BTreeMap, IsEmpty, is_at}
use Rattle.std.specs.Map.{lookup}
use Rattle.std.specs.Option.{unwrap_or}
use Rattle.std.specs.Prelude.{reverse}
use Rattle.arrayvec.specs.ArrayVec.{ArrayVec}
use Rattle.cell_values.specs.declared.datum.Broken.{Broken}
use Rattle.cell_values.specs.declared.datum.FaultKind.{FaultKind}
use Rattle.cell_values.specs.declared.datum.Row.{Row}
use Rattle.cell_values.specs.declared.schema.Bounds.{Bounds}
use Rattle.array_rows.specs.Rows.{Coordinate}
use Rattle.logical_plan.specs.Faults.{if_whole}
use Rattle.logical_plan.specs.Redimension.{Origin, Landed, after_landing, carried, landed}
use Rattle.redimension_exec.specs.Inner.Counting.{by_numbers, AreCountsOf}
use Rattle.redimension_exec.specs.Inner.Steps.{AreSteps, broken_or, IsLanded, IsStep, continued, targets_of}

pub targets_more : (made : List Row) (row : Row) → targets_of (made ++ row ∷ []) ≡ row.at.items ∷ targets_of made
targets_more made row =
    ap reverse (map-append (λ (r : Row). r.at.items) made (row ∷ []))
    ∙ reverse-append (map (λ (r : Row). r.at.items) made) (row.at.items ∷ [])

module _ (origins : List Origin) (bounds : Bounds) (values : List Origin) (made : List Row) (row : Row) where
  abbrev further : List Row → List Coordinate → Result (List Landed) Broken
  further rows now = landed origins bounds true rows now

  moved_on : (t : Coordinate) (r : Result (List Landed) Broken) → continued values made (if_whole (λ rest. (t, row) ∷ rest) r) ≡ continued values (made ++ carried values (t, row) ∷ []) r
  moved_on t (Ok rest) = ap (λ (rows : List Row). Ok rows) (sym (append_assoc made (carried values (t, row) ∷ []) (map (carried values) rest)))
  moved_on t (Err broken) = refl

  pub step_breaks : (made' : List Row) (counts counts' : BTreeMap (ArrayVec ℤ) ℕ) (kind : FaultKind) → IsLanded origins bounds (targets_of made) row.at.items row.cell (Err kind) counts
      → IsStep origins bounds values made row (Some kind) made' counts'
  step_breaks made' counts counts' kind e = λ rows. λ i. after_landing (e i) row (λ now. further rows now) (targets_of made)

  pub step_drops : (counts : BTreeMap (ArrayVec ℤ) ℕ) → IsLanded origins bounds (targets_of made) row.at.items row.cell (Ok None) counts
      → IsStep origins bounds values made row None made counts
  step_drops counts e = (λ rows. λ i. continued values made (after_landing (e.0 i) row (λ now. further rows now) (targets_of made)), e.1)

  pub step_lands : (counts : BTreeMap (ArrayVec ℤ) ℕ) (at : ArrayVec ℤ) (new : Row) (made' : List Row) → IsLanded origins bounds (targets_of made) row.at.items row.cell (Ok (Some at)) counts
      → new ≡ carried values (at.items, row) → made' ≡ made ++ new ∷ [] → IsStep origins bounds values made row None made' counts
  step_lands counts at new made' e n m =
      let same : made' ≡ made ++ carried values (at.items, row) ∷ [] = m ∙ ap (λ (r : Row). made ++ r ∷ []) n in
      let targets : targets_of made' ≡ at.items ∷ targets_of made = ap targets_of same ∙ targets_more made (carried values (at.items, row)) in (
        λ rows.
            (λ i. continued values made (after_landing (e.0 i) row (λ now. further rows now) (targets_of made)))
            ∙ moved_on at.items (further rows (at.items ∷ targets_of made))
            ∙ (λ i. continued values (sym same i) (further rows (sym targets i))),
        subst (λ (ts : List Coordinate). AreCountsOf origins ts counts) (sym targets) e.1,
      )

-- ---- rows one after the other

no_counts : (origins : List Origin) (counts : BTreeMap (ArrayVec ℤ) ℕ) → IsEmpty counts → AreCountsOf origins [] counts
no_counts origins counts e = record { each = λ key. ap (λ es. unwrap_or (lookup (is_at (by_numbers key)) es) 0) e; numbered = tt }

pub counts_at_first : (origins : List Origin) (made : List Row) (counts : BTreeMap (ArrayVec ℤ) ℕ) → made ≡ [] → IsEmpty counts → AreCountsOf origins (targets_of made) counts
counts_at_first origins made counts m e = subst (λ (rows : List Row). AreCountsOf origins (targets_of rows) counts) (sym m) (no_counts origins counts e)

module _ (origins : List Origin) (bounds : Bounds) (values : List Origin) where
  -- the same rows come of what was made first and of all, and of what is made and of what is left, and the counts are those of what is made
  pub record AreSoFar (first all made left : List Row) (counts : BTreeMap (ArrayVec ℤ) ℕ) : Type 0 where
    pub same : (more : List Row) → continued values first (landed origins bounds true (all ++ more) (targets_of first)) ≡ continued values made (landed origins bounds true (left ++ more) (targets_of made))
    pub counts_of : AreCountsOf origins (targets_of made) counts

  pub at_first : (first all left : List Row) (counts : BTreeMap (ArrayVec ℤ) ℕ) → left ≡ all → AreCountsOf origins (targets_of first) counts → AreSoFar first all first left counts
  at_first first all left counts l c = record {
    same = λ more. λ i. continued values first (landed origins bounds true (sym l i ++ more) (targets_of first));
    counts_of = c;
  }

  pub one_more : (first all made made' left left' : List Row) (row : Row) (counts counts' : BTreeMap (ArrayVec ℤ) ℕ) → AreSoFar first all made left counts → left ≡ row ∷ left'
      → IsStep origins bounds values made row None made' counts' → AreSoFar first all made' left' counts'
  one_more first all made made' left left' row counts counts' far l step = record {
    same = λ more. far.same more ∙ (λ i. continued values made (landed origins bounds true (l i ++ more) (targets_of made))) ∙ step.0 (left' ++ more);
    counts_of = step.1;
  }

  pub broken_at : (first all made made' left left' : List Row) (row : Row) (counts counts' : BTreeMap (ArrayVec ℤ) ℕ) (kind : FaultKind) → AreSoFar first all made left counts → left ≡ row ∷ left'
      → IsStep origins bounds values made row (Some kind) made' counts' → AreSteps origins bounds values first all (Some (record { at = row.at; kind = kind })) made' counts'
  broken_at first all made made' left left' row counts counts' kind far l step = record {
    same = λ more. far.same more ∙ (λ i. continued values made (landed origins bounds true (l i ++ more) (targets_of made))) ∙ ap (continued values made) (step (left' ++ more));
    counts_of = λ e. absurd (some_is_none (record { at = row.at; kind = kind }) e);
  }
    where
      some_is_none : (broken : Broken) → Some broken ≡ None → ⊥
      some_is_none broken e = cc

  pub at_end : (first all made left : List Row) (counts : BTreeMap (ArrayVec ℤ) ℕ) → AreSoFar first all made left counts → left ≡ [] → AreSteps origins bounds values first all None made counts
  at_end first all made left counts far l = record {
    same = λ more. far.same more ∙ (λ i. continued values made (landed origins bounds true (l i ++ more) (targets_of made)));
    counts_of = λ e. far.counts_of;
  }

  -- ---- of rows and of others behind them

  in_two : (made front back all more : List Row) → all ≡ front ++ back
      → continued values made (landed origins bounds true (all ++ more) (targets_of made)) ≡ continued values made (landed origins bounds true (front ++ (back ++ more)) (targets_of made))
  in_two made front back all more e =
      (λ i. continued values made (landed origins bounds true (e i ++ more) (targets_of made)))
      ∙ (λ i. continued values made (landed origins bounds true (append_assoc front back more i) (targets_of made)))

  pub front_breaks : (made front back all made' : List Row) (counts : BTreeMap (ArrayVec ℤ) ℕ) (broken : Broken) → all ≡ front ++ back
      → AreSteps origins bounds values made front (Some broken) made' counts → AreSteps origins bounds values made all (Some broken) made' counts
  front_breaks made front back all made' counts broken e steps = record {
    same = λ more. in_two made front back all more e ∙ steps.same (back ++ more);
    counts_of = steps.counts_of;
  }

  pub both_steps : (made front back all made' made'' : List Row) (counts counts' : BTreeMap (ArrayVec ℤ) ℕ) (broken : Option Broken) → all ≡ front ++ back
      → AreSteps origins bounds values made front None made' counts → AreSteps origins bounds values made' back broken made'' counts' → AreSteps origins bounds values made all broken made'' counts'
  both_steps made front back all made' made'' counts counts' broken e steps more_steps = record {
    same = λ more. in_two made front back all more e ∙ steps.same (back ++ more) ∙ more_steps.same more;
    counts_of = more_steps.counts_of;
  }

  -- ---- all rows

  whole_is : (first rows made : List Row) (counts : BTreeMap (ArrayVec ℤ) ℕ) (broken : Option Broken) → first ≡ [] → AreSteps origins bounds values first rows broken made counts
      → continued values [] (landed origins bounds true rows []) ≡ broken_or broken (Ok made)
  whole_is first rows made counts broken f steps =
      (λ i. continued values [] (landed origins bounds true (sym (append-nil rows) i) []))
      ∙ (λ i. continued values (sym f i) (landed origins bounds true (rows ++ []) (targets_of (sym f i))))
      ∙ steps.same []
      ∙ (λ i. broken_or broken (Ok (append-nil made i)))

  pub whole_breaks : (first rows made : List Row) (counts : BTreeMap (ArrayVec ℤ) ℕ) (broken : Broken) → first ≡ [] → AreSteps origins bounds values first rows (Some broken) made counts
      → Err broken ≡ continued values [] (landed origins bounds true rows [])
  whole_breaks first rows made counts broken f steps = sym (whole_is first rows made counts (Some broken) f steps)

  pub whole_lands : (first rows made : List Row) (counts : BTreeMap (ArrayVec ℤ) ℕ) → first ≡ [] → AreSteps origins bounds values first rows None made counts
      → Ok made ≡ continued values [] (landed origins bounds true rows [])
  whole_lands first rows made counts f steps = sym (whole_is first rows made counts None f steps)
