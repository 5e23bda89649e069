-- The rows of a literal are rows of its schema, without a fault and without a null where none may be.
use Rattle.std.proofs.Common.{◌≡◌, ℕ, ◌==◌, ℤ, pos, ◌+ℤ◌, ◌≤ℤ◌, Bool, true, false, ◌&&◌, IsTrue, Option, Some, None, IfSome, List, [], ◌∷◌, length, refl, sym, ap, subst, ◌∙◌, arith}
use Rattle.std.specs.Prelude.{int_le, if◌then◌else◌}
use Rattle.std.specs.Cmp.{int_cmp_is}
use Rattle.std.specs.List.{list_all, AllByRecursion}
use Rattle.std.specs.Ordering.{int_cmp, ordering_then}
use Rattle.std.specs.declared.cmp.Ordering.{Ordering}
use Rattle.std.specs.declared.cmp.Ordering.TheVariants.{Less, Equal}
use Rattle.std.proofs.lemmas.Bool.{and_parts, and_from}
use Rattle.std.proofs.lemmas.Int.{ints}
use Rattle.cell_values.specs.Cells.{is_of_kind, AreOfKinds, IsCellOf}
use Rattle.cell_values.specs.Nulls.{is_null}
use Rattle.cell_values.specs.Schemas.{IsValid}
use Rattle.cell_values.specs.declared.datum.Datum.{Datum}
use Rattle.cell_values.specs.declared.datum.Datum.TheVariants.{Null, Missing, Int, Text, Truth, Bad}
use Rattle.cell_values.specs.declared.datum.FaultKind.{FaultKind}
use Rattle.cell_values.specs.declared.datum.Cell.TheVariants.{Full}
use Rattle.cell_values.specs.declared.datum.Row.{Row}
use Rattle.cell_values.specs.declared.schema.Attribute.{Attribute}
use Rattle.cell_values.specs.declared.schema.Dimension.{Dimension}
use Rattle.cell_values.specs.declared.schema.Kind.{Kind}
use Rattle.cell_values.specs.declared.schema.Kind.TheVariants.{Int64, Str, Bool as Truths}
use Rattle.cell_values.specs.declared.schema.Schema.{Schema}
use Rattle.array_rows.specs.Arrays.{AreRows, AreRowsOf}
use Rattle.array_rows.specs.Boxes.{is_inside, bounds_of}
use Rattle.array_rows.specs.Rows.{placed, row_major, IsBefore, IsRising}
use Rattle.logical_plan.specs.Typing.{may_stand, may_all_stand, is_sound, AreSound}
use Rattle.check_rules.specs.LiteralRows.{is_value_of, fits_attribute, fit_attributes, fits_element, with_row, rows_from, rows_of, literal_rows}
use Rattle.check_rules.specs.Inner.Reader.{elements_of}
use Rattle.check_rules.proofs.Limits.{is_within, are_bytes}
use Rattle.check_rules.proofs.LiteralValues.{are_within, elements_within}

-- Values

of_its_kind : (k : Kind) (v : Datum) → is_value_of k v ≡ true → is_within v ≡ true → is_of_kind k v ≡ true
of_its_kind Int64 (Int n) e w = w
of_its_kind Str (Text s) e w = w
of_its_kind Truths (Truth b) e w = refl
of_its_kind _ _ e w = cc

null_fits : (k : Kind) (v : Datum) → is_null v ≡ true → is_within v ≡ true → is_of_kind k v ≡ true
null_fits Int64 Null e w = refl
null_fits Str Null e w = refl
null_fits Truths Null e w = refl
null_fits Int64 (Missing c) e w = w
null_fits Str (Missing c) e w = w
null_fits Truths (Missing c) e w = w
null_fits _ _ e w = cc

value_fits : (a : Attribute) (v : Datum) (b : Bool) → is_null v ≡ b → (if b then a.nullable else is_value_of a.kind v) ≡ true → is_within v ≡ true → is_of_kind a.kind v ≡ true
value_fits a v true n e w = null_fits a.kind v n w
value_fits a v false n e w = of_its_kind a.kind v e w

null_stands : (a : Attribute) (v : Datum) → is_null v ≡ true → a.nullable ≡ true → may_stand a v ≡ true
null_stands a (Bad fault) n e = cc
null_stands a Null n e = e
null_stands a (Missing c) n e = e
null_stands a (Int i) n e = cc
null_stands a (Text s) n e = cc
null_stands a (Truth t) n e = cc

value_stands : (k : Kind) (a : Attribute) (v : Datum) → is_value_of k v ≡ true → may_stand a v ≡ true
value_stands k a (Bad fault) e = no_value k fault e
  where
    no_value : (k : Kind) (fault : FaultKind) → is_value_of k (Bad fault) ≡ true → may_stand a (Bad fault) ≡ true
    no_value Int64 fault e = cc
    no_value Str fault e = cc
    no_value Truths fault e = cc
value_stands k a Null e = no_value k e
  where
    no_value : (k : Kind) → is_value_of k Null ≡ true → may_stand a Null ≡ true
    no_value Int64 e = cc
    no_value Str e = cc
    no_value Truths e = cc
value_stands k a (Missing c) e = no_value k e
  where
    no_value : (k : Kind) → is_value_of k (Missing c) ≡ true → may_stand a (Missing c) ≡ true
    no_value Int64 e = cc
    no_value Str e = cc
    no_value Truths e = cc
value_stands k a (Int n) e = refl
value_stands k a (Text s) e = refl
value_stands k a (Truth t) e = refl

stands : (a : Attribute) (v : Datum) (b : Bool) → is_null v ≡ b → (if b then a.nullable else is_value_of a.kind v) ≡ true → may_stand a v ≡ true
stands a v true n e = null_stands a v n e
stands a v false n e = value_stands a.kind a v e

values_fit : (attributes : List Attribute) (vs : List Datum) → fit_attributes attributes vs ≡ true → list_all is_within vs ≡ true → AreOfKinds attributes vs
values_fit [] [] e w = tt
values_fit [] (v ∷ vs) e w = cc
values_fit (a ∷ attributes) [] e w = cc
values_fit (a ∷ attributes) (v ∷ vs) e w =
    let p = and_parts (fits_attribute a v) (fit_attributes attributes vs) e in
    let q = and_parts (is_within v) (list_all is_within vs) w in
    (value_fits a v (is_null v) refl p.0 q.0, values_fit attributes vs p.1 q.1)

values_stand : (attributes : List Attribute) (vs : List Datum) → fit_attributes attributes vs ≡ true → may_all_stand attributes vs ≡ true
values_stand [] vs e = refl
values_stand (a ∷ attributes) [] e = refl
values_stand (a ∷ attributes) (v ∷ vs) e =
    let p = and_parts (fits_attribute a v) (fit_attributes attributes vs) e in
    and_from (may_stand a v) (may_all_stand attributes vs) (stands a v (is_null v) refl p.0) (values_stand attributes vs p.1)

-- Rows

int_at_most : (a b : ℤ) → int_le a b ≡ true → a ≤ℤ b
int_at_most a b e = grind (arith, ints)

at_most_int : (a b : ℤ) → a ≤ℤ b → int_le a b ≡ true
at_most_int a b e = grind (arith, ints)

-- a row at one number from the one bound to the other
pub record IsFrom (low high : ℤ) (row : Row) : Type 0 where
  pub at : ℤ
  pub is : row.at.items ≡ at ∷ []
  pub above : low ≤ℤ at
  pub below : at ≤ℤ high

module _ (attributes : List Attribute) (high : ℤ) where
  pub record Good (low : ℤ) (rows : List Row) : Type 0 where
    pub rising : IsRising rows
    pub from : AllByRecursion (IsFrom low high) rows
    pub kinds : AllByRecursion (λ row. IsCellOf attributes row.cell) rows
    pub sound : AllByRecursion (λ row. IsTrue (is_sound attributes row.cell)) rows

  later : (low further : ℤ) (rows : List Row) → low ≤ℤ further → AllByRecursion (IsFrom further high) rows → AllByRecursion (IsFrom low high) rows
  later low further [] h all = tt
  later low further (row ∷ rows) h all =
      (record { at = all.0.at; is = all.0.is; above = omega (arith, ints, h, all.0.above); below = all.0.below }, later low further rows h all.1)

  comes_before : (at : ℤ) (rows : List Row) → AllByRecursion (IsFrom (at +ℤ pos 1) high) rows → IsBefore (at ∷ []) rows
  comes_before at [] all = tt
  comes_before at (row ∷ rows) all =
      let less : Less ≡ int_cmp at all.0.at = int_cmp_is at all.0.at Less (omega (arith, ints, all.0.above)) in
      (ap (row_major (at ∷ [])) all.0.is ∙ ap (λ (o : Ordering). ordering_then o Equal) (sym less), comes_before at rows all.1)

  one_less : (at : ℤ) → at ≤ℤ (at +ℤ pos 1)
  one_less at = omega (arith, ints)

  empty_place : (at : ℤ) (rows : List Row) → Good (at +ℤ pos 1) rows → Good at rows
  empty_place at rows g = record { rising = g.rising; from = later at (at +ℤ pos 1) rows (one_less at) g.from; kinds = g.kinds; sound = g.sound }

  with_values : (at : ℤ) (vs : List Datum) (rows : List Row) → at ≤ℤ high → fit_attributes attributes vs ≡ true → list_all is_within vs ≡ true → Good (at +ℤ pos 1) rows → Good at (placed (at ∷ []) (Full vs) ∷ rows)
  with_values at vs rows below fit within g = record {
    rising = (comes_before at rows g.from, g.rising);
    from = (record { at = at; is = refl; above = omega (arith, ints); below = below }, later at (at +ℤ pos 1) rows (one_less at) g.from);
    kinds = (values_fit attributes vs fit within, g.kinds);
    sound = (values_stand attributes vs fit, g.sound);
  }

  with_element : (at : ℤ) (vs : List Datum) (o : Option (List Row)) → at ≤ℤ high → fits_element attributes vs ≡ true → list_all is_within vs ≡ true → IfSome o (Good (at +ℤ pos 1)) → IfSome (with_row at vs o) (Good at)
  with_element at [] (Some rows) below fit within g = empty_place at rows g
  with_element at [] None below fit within g = tt
  with_element at (v ∷ vs) (Some rows) below fit within g = with_values at (v ∷ vs) rows below fit within g
  with_element at (v ∷ vs) None below fit within g = tt

  good_rows : (elements : List (List Datum)) (at : ℤ) → are_within elements ≡ true → IfSome (rows_from attributes high at elements) (Good at)
  good_rows [] at w = record { rising = tt; from = tt; kinds = tt; sound = tt }
  good_rows (vs ∷ elements) at w =
      let parts = and_parts (list_all is_within vs) (are_within elements) w in
      by_test (int_le at high && fits_element attributes vs) refl parts.0 (good_rows elements (at +ℤ pos 1) parts.1)
    where
      by_test : (b : Bool) → (int_le at high && fits_element attributes vs) ≡ b → list_all is_within vs ≡ true → IfSome (rows_from attributes high (at +ℤ pos 1) elements) (Good (at +ℤ pos 1))
          → IfSome (if b then with_row at vs (rows_from attributes high (at +ℤ pos 1) elements) else None) (Good at)
      by_test true e within rest =
          let p = and_parts (int_le at high) (fits_element attributes vs) e in
          with_element at vs (rows_from attributes high (at +ℤ pos 1) elements) (int_at_most at high p.0) p.1 within rest
      by_test false e within rest = tt

inside_all : (d : Dimension) (rows : List Row) → AllByRecursion (IsFrom d.lo d.hi) rows → AllByRecursion (λ row. IsTrue (is_inside (bounds_of (d ∷ [])) row.at.items)) rows
inside_all d [] all = tt
inside_all d (row ∷ rows) all =
    (ap (is_inside (bounds_of (d ∷ []))) all.0.is ∙ and_from (int_le d.lo all.0.at && int_le all.0.at d.hi) true (and_from (int_le d.lo all.0.at) (int_le all.0.at d.hi) (at_most_int d.lo all.0.at all.0.above) (at_most_int all.0.at d.hi all.0.below)) refl, inside_all d rows all.1)

of_elements : (attributes : List Attribute) (d : Dimension) (o : Option (List (List Datum))) → IfSome o (λ elements. are_within elements ≡ true) → IfSome (rows_of attributes d o) (Good attributes d.hi d.lo)
of_elements attributes d (Some elements) w = good_rows attributes d.hi elements d.lo w
of_elements attributes d None w = tt

spelled_rows : (attributes : List Attribute) (d : Dimension) (spelled : List ℕ) → are_bytes spelled ≡ true → IfSome (literal_rows attributes d spelled) (Good attributes d.hi d.lo)
spelled_rows attributes d spelled h = of_elements attributes d (elements_of (length attributes == 1) spelled) (elements_within (length attributes == 1) spelled h)

-- the rows that a text of bytes spells
pub literal_fits : (schema : Schema) (d : Dimension) (spelled : List ℕ) (rows : List Row) → IsValid schema → schema.dimensions ≡ d ∷ [] → are_bytes spelled ≡ true → literal_rows schema.attributes d spelled ≡ Some rows
    → AreRowsOf schema rows × AreSound schema rows
literal_fits schema d spelled rows valid one bytes e =
    let good : Good schema.attributes d.hi d.lo rows = subst (λ (o : Option (List Row)). IfSome o (Good schema.attributes d.hi d.lo)) e (spelled_rows schema.attributes d spelled bytes) in
    let are : AreRows schema.dimensions rows = subst (λ (ds : List Dimension). AreRows ds rows) (sym one) (record { rising = good.rising; in_bounds = inside_all d rows good.from }) in
    (record { valid = valid; are_rows = are; kinds = good.kinds }, good.sound)
