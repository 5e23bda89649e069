-- Rows moved one after the other into chunks.
use Rattle.std.proofs.Common.{◌≡◌, ℕ, ◌+◌, ◌<◌, ℤ, List, [], ◌∷◌, ◌++◌, length, map, drop, Option, Some, None, Result, Ok, Err, refl, sym, ap, ◌∙◌, subst}
use Rattle.std.proofs.lemmas.List.{drop_more}
use Rattle.std.specs.BTreeMap as tree
use Rattle.std.specs.BTreeMap.{BTreeMap, IsEmpty}
use Rattle.std.specs.Prelude.{IfOk, slice_index_or}
use Rattle.arrayvec.specs.ArrayVec.{ArrayVec}
use Rattle.cell_values.specs.declared.datum.Broken.{Broken}
use Rattle.cell_values.specs.declared.datum.FaultKind.{FaultKind}
use Rattle.cell_values.specs.declared.datum.Row.{Row}
use Rattle.cell_values.specs.declared.memory.Memory.{Memory}
use Rattle.cell_values.specs.declared.schema.Bounds.{Bounds}
use Rattle.cell_values.specs.declared.schema.Schema.{Schema}
use Rattle.array_rows.specs.Boxes.{bounds_of}
use Rattle.array_geom.specs.declared.chunk.Chunk.{Chunk}
use Rattle.logical_plan.specs.Redimension.{Origin, origin_of, value_origin}
use Rattle.redimension_exec.specs.Inner.Counting.{AreCountsOf}
use Rattle.redimension_exec.specs.Inner.Filling.{AreIn, Fill, FillOne, HoldsAll, HoldsLanded, IsFinished, IsHeld, IsNext, by_number, chunk_at}
use Rattle.redimension_exec.specs.Inner.Places.{origin}
use Rattle.redimension_exec.specs.Inner.Steps.{targets_of}
use Rattle.redimension_exec.specs.declared.filling.chunks.Filled.{Filled}
use Rattle.redimension_exec.specs.declared.places.landing.Step.{Step}
use Rattle.redimension_exec.specs.declared.places.landing.Step.TheVariants.{Lands, Drops, Breaks}
use Rattle.redimension_exec.specs.declared.places.places.Place.{Place}
use Rattle.redimension_exec.proofs.StepLaws.{AreSoFar, at_first, at_end, broken_at, both_steps, counts_at_first, front_breaks, one_more, whole_breaks, whole_lands}

module _ (target : Schema) (origins : List Origin) (bounds : Bounds) (values : List Origin) where
  -- ---- one row

  pub one_breaks : (row : Row) (kind : FaultKind) (step : Step) (counts counts' : BTreeMap (ArrayVec ℤ) ℕ) (chunks : Filled) → step ≡ Breaks kind
      → ((made : List Row) → AreCountsOf origins (targets_of made) counts → IsNext origins bounds values made row step counts') → FillOne target origins bounds values row (Some kind) counts chunks counts' chunks
  one_breaks row kind step counts counts' chunks e next = record {
    of_made = λ made are held. record { all = made; step = subst (λ (s : Step). IsNext origins bounds values made row s counts') e (next made are); held = held };
  }

  pub one_drops : (row : Row) (step : Step) (counts counts' : BTreeMap (ArrayVec ℤ) ℕ) (chunks : Filled) → step ≡ Drops
      → ((made : List Row) → AreCountsOf origins (targets_of made) counts → IsNext origins bounds values made row step counts') → FillOne target origins bounds values row None counts chunks counts' chunks
  one_drops row step counts counts' chunks e next = record {
    of_made = λ made are held. record { all = made; step = subst (λ (s : Step). IsNext origins bounds values made row s counts') e (next made are); held = held };
  }

  pub one_lands : (row new : Row) (step : Step) (counts counts' : BTreeMap (ArrayVec ℤ) ℕ) (chunks chunks' : Filled) → step ≡ Lands new
      → ((made : List Row) → AreCountsOf origins (targets_of made) counts → IsNext origins bounds values made row step counts')
      → ((made : List Row) → AreIn target made chunks → AreIn target (made ++ new ∷ []) chunks') → FillOne target origins bounds values row None counts chunks counts' chunks'
  one_lands row new step counts counts' chunks chunks' e next more = record {
    of_made = λ made are held. record { all = made ++ new ∷ []; step = subst (λ (s : Step). IsNext origins bounds values made row s counts') e (next made are); held = more made held };
  }

  -- ---- rows one after the other

  pub row_next : (rows : List Row) (i : ℕ) (row : Row) → i < length rows → row ≡ slice_index_or rows i row → drop i rows ≡ row ∷ drop (i + 1) rows
  row_next rows i row l e = drop_more rows i row l ∙ ap (λ (r : Row). r ∷ drop (i + 1) rows) (sym e)

  pub record IsFarWith (made all left : List Row) (counts : BTreeMap (ArrayVec ℤ) ℕ) (chunks : Filled) : Type 0 where
    pub now : List Row
    pub far : AreSoFar origins bounds values made all now left counts
    pub held : AreIn target now chunks

  pub record IsFilling (all left : List Row) (counts : BTreeMap (ArrayVec ℤ) ℕ) (chunks : Filled) (counts' : BTreeMap (ArrayVec ℤ) ℕ) (chunks' : Filled) : Type 0 where
    pub of_made : (made : List Row) → AreCountsOf origins (targets_of made) counts → AreIn target made chunks → IsFarWith made all left counts' chunks'

  pub fill_first : (all left : List Row) (counts : BTreeMap (ArrayVec ℤ) ℕ) (chunks : Filled) → left ≡ all → IsFilling all left counts chunks counts chunks
  fill_first all left counts chunks l = record { of_made = λ made are held. record { now = made; far = at_first origins bounds values made all left counts l are; held = held } }

  pub fill_more : (all left left' : List Row) (row : Row) (counts counts' counts'' : BTreeMap (ArrayVec ℤ) ℕ) (chunks chunks' chunks'' : Filled) → left ≡ row ∷ left'
      → FillOne target origins bounds values row None counts' chunks' counts'' chunks'' → IsFilling all left counts chunks counts' chunks' → IsFilling all left' counts chunks counts'' chunks''
  fill_more all left left' row counts counts' counts'' chunks chunks' chunks'' l one is = record {
    of_made = λ made are held.
        let so = is.of_made made are held in
        let next = one.of_made so.now so.far.counts_of so.held in
        record { now = next.all; far = one_more origins bounds values made all so.now next.all left left' row counts' counts'' so.far l next.step; held = next.held };
  }

  pub fill_breaks : (all left left' : List Row) (row : Row) (kind : FaultKind) (counts counts' counts'' : BTreeMap (ArrayVec ℤ) ℕ) (chunks chunks' chunks'' : Filled) → left ≡ row ∷ left'
      → FillOne target origins bounds values row (Some kind) counts' chunks' counts'' chunks'' → IsFilling all left counts chunks counts' chunks'
      → Fill target origins bounds values all (Some (record { at = row.at; kind = kind })) counts chunks counts'' chunks''
  fill_breaks all left left' row kind counts counts' counts'' chunks chunks' chunks'' l one is = record {
    of_made = λ made are held.
        let so = is.of_made made are held in
        let next = one.of_made so.now so.far.counts_of so.held in
        record { all = next.all; steps = broken_at origins bounds values made all so.now next.all left left' row counts' counts'' kind so.far l next.step; held = next.held };
  }

  pub fill_last : (all left : List Row) (counts counts' : BTreeMap (ArrayVec ℤ) ℕ) (chunks chunks' : Filled) → left ≡ [] → IsFilling all left counts chunks counts' chunks'
      → Fill target origins bounds values all None counts chunks counts' chunks'
  fill_last all left counts counts' chunks chunks' l is = record {
    of_made = λ made are held. let so = is.of_made made are held in record { all = so.now; steps = at_end origins bounds values made all so.now left counts' so.far l; held = so.held };
  }

  -- ---- of rows and of others behind them

  pub fill_front : (front back all : List Row) (counts counts' : BTreeMap (ArrayVec ℤ) ℕ) (chunks chunks' : Filled) (broken : Broken) → all ≡ front ++ back
      → Fill target origins bounds values front (Some broken) counts chunks counts' chunks' → Fill target origins bounds values all (Some broken) counts chunks counts' chunks'
  fill_front front back all counts counts' chunks chunks' broken e is = record {
    of_made = λ made are held.
        let so = is.of_made made are held in
        record { all = so.all; steps = front_breaks origins bounds values made front back all so.all counts' broken e so.steps; held = so.held };
  }

  pub fill_back : (front back all : List Row) (counts counts' counts'' : BTreeMap (ArrayVec ℤ) ℕ) (chunks chunks' chunks'' : Filled) (broken : Option Broken) → all ≡ front ++ back
      → Fill target origins bounds values front None counts chunks counts' chunks' → Fill target origins bounds values back broken counts' chunks' counts'' chunks''
      → Fill target origins bounds values all broken counts chunks counts'' chunks''
  fill_back front back all counts counts' counts'' chunks chunks' chunks'' broken e first second = record {
    of_made = λ made are held.
        let a = first.of_made made are held in
        let b = second.of_made a.all (a.steps.counts_of refl) a.held in
        record { all = b.all; steps = both_steps origins bounds values made front back all a.all b.all counts' counts'' broken e a.steps b.steps; held = b.held };
  }

  pub fill_both : (front back all : List Row) (counts counts' counts'' : BTreeMap (ArrayVec ℤ) ℕ) (chunks chunks' chunks'' : Filled) (r : Result (Option Broken) Memory) → all ≡ front ++ back
      → Fill target origins bounds values front None counts chunks counts' chunks' → IfOk r (λ broken. Fill target origins bounds values back broken counts' chunks' counts'' chunks'')
      → IfOk r (λ broken. Fill target origins bounds values all broken counts chunks counts'' chunks'')
  fill_both front back all counts counts' counts'' chunks chunks' chunks'' (Ok broken) e first second = fill_back front back all counts counts' counts'' chunks chunks' chunks'' broken e first second
  fill_both front back all counts counts' counts'' chunks chunks' chunks'' (Err memory) e first second = tt

  -- ---- all rows

  none_in : (filled : Filled) → ((key : ArrayVec ℕ) → chunk_at filled.last filled.others key ≡ None) → AreIn target [] filled
  none_in filled e key = subst (IsHeld target [] key) (sym (e key)) (λ l. refl)

  pub all_break : (rows : List Row) (counts counts' : BTreeMap (ArrayVec ℤ) ℕ) (filled filled' : Filled) (broken : Broken) → IsEmpty counts → ((key : ArrayVec ℕ) → chunk_at filled.last filled.others key ≡ None)
      → Fill target origins bounds values rows (Some broken) counts filled counts' filled' → HoldsAll target origins bounds values rows (Err broken)
  all_break rows counts counts' filled filled' broken e f is =
      let so = is.of_made [] (counts_at_first origins [] counts refl e) (none_in filled f) in
      whole_breaks origins bounds values [] rows so.all counts' broken refl so.steps

  pub all_land : (rows : List Row) (counts counts' : BTreeMap (ArrayVec ℤ) ℕ) (filled filled' : Filled) (chunks : BTreeMap (ArrayVec ℕ) Chunk) → IsEmpty counts → ((key : ArrayVec ℕ) → chunk_at filled.last filled.others key ≡ None)
      → Fill target origins bounds values rows None counts filled counts' filled' → ((key : ArrayVec ℕ) → tree.get by_number chunks key ≡ chunk_at filled'.last filled'.others key)
      → HoldsAll target origins bounds values rows (Ok chunks)
  all_land rows counts counts' filled filled' chunks e f is same =
      let so = is.of_made [] (counts_at_first origins [] counts refl e) (none_in filled f) in
      (so.all, whole_lands origins bounds values [] rows so.all counts' refl so.steps, λ key. subst (IsHeld target so.all key) (sym (same key)) (so.held key))

  pub all_of : (rows : List Row) (counts counts' : BTreeMap (ArrayVec ℤ) ℕ) (filled filled' : Filled) (moved : Result (Option Broken) Memory) (made : Result (Result (BTreeMap (ArrayVec ℕ) Chunk) Broken) Memory) → IsEmpty counts
      → ((key : ArrayVec ℕ) → chunk_at filled.last filled.others key ≡ None) → IfOk moved (λ broken. Fill target origins bounds values rows broken counts filled counts' filled') → IfOk made (IsFinished filled' moved)
      → IfOk made (HoldsAll target origins bounds values rows)
  all_of rows counts counts' filled filled' moved (Err memory) e f is done = tt
  all_of rows counts counts' filled filled' (Ok None) (Ok (Ok chunks)) e f is done = all_land rows counts counts' filled filled' chunks e f is done
  all_of rows counts counts' filled filled' (Ok (Some broken)) (Ok (Err other)) e f is done =
      all_break rows counts counts' filled filled' other e f (subst (λ (b : Broken). Fill target origins bounds values rows (Some b) counts filled counts' filled') done is)
  all_of rows counts counts' filled filled' (Ok None) (Ok (Err other)) e f is done = absurd done
  all_of rows counts counts' filled filled' (Ok (Some broken)) (Ok (Ok chunks)) e f is done = absurd done
  all_of rows counts counts' filled filled' (Err memory) (Ok r) e f is done = absurd done

-- ---- by the names of a source and a target

pub by_names : (source target : Schema) (places values : List Place) (bounds : Bounds) (rows : List Row) (r : Result (BTreeMap (ArrayVec ℕ) Chunk) Broken) → map origin places ≡ map (origin_of source) target.dimensions
    → map origin values ≡ map (value_origin source) target.attributes → bounds ≡ bounds_of target.dimensions → HoldsAll target (map origin places) bounds (map origin values) rows r → HoldsLanded source target rows r
by_names source target places values bounds rows r p v b h =
    subst (λ (os : List Origin). HoldsAll target os (bounds_of target.dimensions) (map (value_origin source) target.attributes) rows r) p
    (subst (λ (vs : List Origin). HoldsAll target (map origin places) (bounds_of target.dimensions) vs rows r) v
    (subst (λ (all : Bounds). HoldsAll target (map origin places) all (map origin values) rows r) b h))
