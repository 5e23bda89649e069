-- The rows of a literal, element by element.
use Rattle.std.proofs.Common.{◌≡◌, ℕ, suc, ℤ, pos, ◌+ℤ◌, ◌+◌, ◌<◌, ◌≤◌, ◌==◌, Bool, true, false, ◌&&◌, List, [], ◌∷◌, ◌++◌, length, drop, slice_index_or, Option, Some, None, refl, sym, ap, subst, ◌∙◌, append_assoc, arith}
use Rattle.std.specs.Prelude.{int_le, if◌then◌else◌}
use Rattle.std.proofs.Math.Seq.{drop-cons}
use Rattle.std.proofs.lemmas.Bool.{ne_eqb}
use Rattle.cell_values.specs.declared.datum.Datum.{Datum}
use Rattle.cell_values.specs.declared.datum.Cell.TheVariants.{Full}
use Rattle.cell_values.specs.declared.datum.Row.{Row}
use Rattle.cell_values.specs.declared.schema.Attribute.{Attribute}
use Rattle.array_rows.specs.Rows.{placed}
use Rattle.check_rules.specs.LiteralRows.{fit_attributes, fits_element, with_row, rows_from}

-- without attributes no values fit, and without values no attributes
pub fits_none : (attributes : List Attribute) (vs : List Datum) → length attributes < 1 → (length vs == 0) ≡ fit_attributes attributes vs
fits_none [] [] few = refl
fits_none [] (v ∷ vs) few = ne_eqb (length (v ∷ vs)) 0 (λ e. omega arith)
fits_none (a ∷ attributes) vs few = absurd (omega arith)

pub fits_no_value : (attributes : List Attribute) (vs : List Datum) → 1 ≤ length attributes → length vs < 1 → false ≡ fit_attributes attributes vs
fits_no_value [] vs some few = absurd (omega arith)
fits_no_value (a ∷ attributes) [] some few = refl
fits_no_value (a ∷ attributes) (v ∷ vs) some few = absurd (omega arith)

-- rows before others
abbrev pub onto : List Row → Option (List Row) → Option (List Row)
onto before (Some rows) = Some (before ++ rows)
onto before None = None

onto_row : (before : List Row) (row : Row) (o : Option (List Row)) (at : ℤ) (v : Datum) (vs : List Datum) → row ≡ placed (at ∷ []) (Full (v ∷ vs)) → onto (before ++ row ∷ []) o ≡ onto before (with_row at (v ∷ vs) o)
onto_row before row (Some rows) at v vs same = ap Some (append_assoc before (row ∷ []) rows ∙ ap (λ (r : Row). before ++ r ∷ rows) same)
onto_row before row None at v vs same = refl

module _ (attributes : List Attribute) (hi : ℤ) (elements : List (List Datum)) where
  -- the rows of the elements that are left
  abbrev Left : ℕ → ℤ → Option (List Row)
  Left i at = rows_from attributes hi at (drop i elements)

  next_element : (i : ℕ) (d : List Datum) (at : ℤ) → i < length elements
      → Left i at ≡ (if int_le at hi && fits_element attributes (slice_index_or elements i d) then with_row at (slice_index_or elements i d) (Left (i + 1) (at +ℤ pos 1)) else None)
  next_element i d at h =
      let more : suc i ≡ i + 1 = omega arith in
      ap (rows_from attributes hi at) (drop-cons elements i d h)
      ∙ ap (λ (k : ℕ). if int_le at hi && fits_element attributes (slice_index_or elements i d) then with_row at (slice_index_or elements i d) (Left k (at +ℤ pos 1)) else None) more

  by_test : (b c : Bool) (x : Option (List Row)) → b ≡ c → (if b then x else None) ≡ (if c then x else None)
  by_test b c x e = ap (λ (t : Bool). if t then x else None) e

  -- an element that doesn't fit
  pub unfit : (before : List Row) (i : ℕ) (d : List Datum) (at : ℤ) → i < length elements → (int_le at hi && fits_element attributes (slice_index_or elements i d)) ≡ false
      → onto before (Left i at) ≡ None
  unfit before i d at h e = ap (onto before) (next_element i d at h ∙ by_test _ false _ e)

  -- an element that leaves its place empty
  pub skips : (before : List Row) (i : ℕ) (d : List Datum) (at : ℤ) → i < length elements → (int_le at hi && fits_element attributes (slice_index_or elements i d)) ≡ true → slice_index_or elements i d ≡ []
      → onto before (Left i at) ≡ onto before (Left (i + 1) (at +ℤ pos 1))
  skips before i d at h e none = ap (onto before) (next_element i d at h ∙ by_test _ true _ e ∙ ap (λ (vs : List Datum). with_row at vs (Left (i + 1) (at +ℤ pos 1))) none)

  holds_row : (vs : List Datum) (before : List Row) (row : Row) (o : Option (List Row)) (at : ℤ) → (vs ≡ [] → ⊥) → row ≡ placed (at ∷ []) (Full vs) → onto before (with_row at vs o) ≡ onto (before ++ row ∷ []) o
  holds_row [] before row o at some same = absurd (some refl)
  holds_row (v ∷ vs) before row o at some same = sym (onto_row before row o at v vs same)

  -- an element with values
  pub adds : (before : List Row) (row : Row) (i : ℕ) (d : List Datum) (at : ℤ) → i < length elements → (int_le at hi && fits_element attributes (slice_index_or elements i d)) ≡ true → (slice_index_or elements i d ≡ [] → ⊥)
      → row ≡ placed (at ∷ []) (Full (slice_index_or elements i d)) → onto before (Left i at) ≡ onto (before ++ row ∷ []) (Left (i + 1) (at +ℤ pos 1))
  adds before row i d at h e some same =
      ap (onto before) (next_element i d at h ∙ by_test _ true _ e) ∙ holds_row (slice_index_or elements i d) before row (Left (i + 1) (at +ℤ pos 1)) at some same

  -- one element more, with values
  pub more_rows : (before after : List Row) (row : Row) (i : ℕ) (vs : List Datum) (at : ℤ) {all : Option (List Row)}
      → i < length elements → vs ≡ slice_index_or elements i vs → (int_le at hi && fits_element attributes vs) ≡ true → (vs ≡ [] → ⊥)
      → row ≡ placed (at ∷ []) (Full vs) → after ≡ before ++ row ∷ [] → onto before (Left i at) ≡ all → onto after (Left (i + 1) (at +ℤ pos 1)) ≡ all
  more_rows before after row i vs at h is fits some same grown e =
      ap (λ (rows : List Row). onto rows (Left (i + 1) (at +ℤ pos 1))) grown
      ∙ sym (adds before row i vs at h (subst (λ (us : List Datum). (int_le at hi && fits_element attributes us) ≡ true) is fits)
      (λ none. some (is ∙ none)) (same ∙ ap (λ (us : List Datum). placed (at ∷ []) (Full us)) is))
      ∙ e

  -- one that leaves its place empty
  pub same_rows : (before after : List Row) (i : ℕ) (vs : List Datum) (at : ℤ) {all : Option (List Row)}
      → i < length elements → vs ≡ slice_index_or elements i vs → (int_le at hi && fits_element attributes vs) ≡ true → vs ≡ []
      → after ≡ before → onto before (Left i at) ≡ all → onto after (Left (i + 1) (at +ℤ pos 1)) ≡ all
  same_rows before after i vs at h is fits none same e =
      ap (λ (rows : List Row). onto rows (Left (i + 1) (at +ℤ pos 1))) same
      ∙ sym (skips before i vs at h (subst (λ (us : List Datum). (int_le at hi && fits_element attributes us) ≡ true) is fits) (sym is ∙ none))
      ∙ e
