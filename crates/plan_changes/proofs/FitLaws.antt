-- The rows of an array of a schema, fitted to another one that is like it.
use Rattle.std.proofs.Common.{◌≡◌, Bool, true, false, cond, List, [], ◌∷◌, map, Option, Some, None, refl, sym, ap, ◌∙◌, subst}
use Rattle.std.specs.Prelude.{◌&&◌, not}
use Rattle.std.specs.List.{AllByRecursion}
use Rattle.std.specs.Option.{option_or}
use Rattle.std.specs.Ordering.{int_eq}
use Rattle.std.proofs.lemmas.Bool.{and_parts, and_from}
use Rattle.std.proofs.lemmas.Bool.Decides.{Decides-int_eq}
use Rattle.expr_nulls.specs.Broken.{Broken}
use Rattle.expr_nulls.specs.Cell.{Cell}
use Rattle.expr_nulls.specs.Cell.TheVariants.{Full, Doubt}
use Rattle.expr_nulls.specs.Datum.{Datum}
use Rattle.expr_nulls.specs.Datum.TheVariants.{Null, Missing, Int, Text, Truth, Bad}
use Rattle.expr_nulls.specs.FaultKind.{FaultKind}
use Rattle.expr_nulls.specs.FaultKind.TheVariants.{NullInNotNull}
use Rattle.expr_nulls.specs.Row.{Row}
use Rattle.expr_nulls.specs.Attribute.{Attribute}
use Rattle.expr_nulls.specs.Bounds.{Bounds}
use Rattle.expr_nulls.specs.Dimension.{Dimension}
use Rattle.expr_nulls.specs.Kind.{Kind}
use Rattle.expr_nulls.specs.Kind.TheVariants.{Int64, Str, Bool as Truths}
use Rattle.expr_nulls.specs.Schema.{Schema}
use Rattle.expr_nulls.specs.Cells.{is_of_kind, AreOfKinds, IsCellOf}
use Rattle.expr_nulls.specs.Nulls.{is_null}
use Rattle.expr_nulls.specs.Schemas.{IsValid}
use Rattle.logical_plan.specs.Arrays.{AreRowsOf}
use Rattle.logical_plan.specs.Boxes.{is_inside, corners, bounds_of}
use Rattle.logical_plan.specs.Cellwise.{put_first}
use Rattle.logical_plan.specs.Rows.{Coordinate, placed}
use Rattle.logical_plan.proofs.RowsLemmas.{IsRising-cell_wise}
use Rattle.expr_nulls.specs.Typing.{same_kind}
use Rattle.logical_plan.specs.CellOps.{fit_value, fit_values, fit_cell, fit_rows}
use Rattle.logical_plan.specs.Faults.{fault_in, fault_here, first_fault}
use Rattle.logical_plan.specs.Groups.{bad_kind, first_some}
use Rattle.logical_plan.specs.Typing.{same_bounds, may_stand, may_all_stand, is_sound, AreSound}
use Rattle.plan_changes.specs.Typed.{same_kinds}

pub mapped : {A : Type 0} (Q P : A → Type 0) (f : A → A) → ((x : A) → Q x → P (f x)) → (xs : List A) → AllByRecursion Q xs → AllByRecursion P (map f xs)
mapped Q P f h [] all = tt
mapped Q P f h (x ∷ xs) all = (h x all.0, mapped Q P f h xs all.1)

-- ---- schemas that are alike

pub bounds_alike : (a b : List Dimension) → same_bounds a b ≡ true → bounds_of a ≡ bounds_of b
bounds_alike [] [] e = refl
bounds_alike [] (d ∷ b) e = absurd cc
bounds_alike (d ∷ a) [] e = absurd cc
bounds_alike (d ∷ a) (f ∷ b) e =
    let all = and_parts (int_eq d.lo f.lo && int_eq d.hi f.hi) (same_bounds a b) e in
    let ends = and_parts (int_eq d.lo f.lo) (int_eq d.hi f.hi) all.0 in
    let lo : d.lo ≡ f.lo = (Decides-int_eq d.lo f.lo).0 ends.0 in
    let hi : d.hi ≡ f.hi = (Decides-int_eq d.hi f.hi).0 ends.1 in
    let rest : bounds_of a ≡ bounds_of b = bounds_alike a b all.1 in
    λ i. corners (lo i ∷ (rest i).lo.items) (hi i ∷ (rest i).hi.items)

one_kind : (j k : Kind) (v : Datum) → same_kind j k ≡ true → is_of_kind k v ≡ true → is_of_kind j v ≡ true
one_kind Int64 Int64 v e t = t
one_kind Str Str v e t = t
one_kind Truths Truths v e t = t
one_kind j k v e t = cc

pub kinds_alike : (a b : List Attribute) → same_kinds a b ≡ true → (vs : List Datum) → AreOfKinds b vs → AreOfKinds a vs
kinds_alike [] [] e vs all = all
kinds_alike [] (y ∷ b) e vs all = absurd cc
kinds_alike (x ∷ a) [] e vs all = absurd cc
kinds_alike (x ∷ a) (y ∷ b) e [] all = absurd all
kinds_alike (x ∷ a) (y ∷ b) e (v ∷ vs) all =
    let same = and_parts (same_kind x.kind y.kind) (same_kinds a b) e in
    (one_kind x.kind y.kind v same.0 all.0, kinds_alike a b same.1 vs all.1)

-- ---- cells, fitted

abbrev pub fitted_cell : List Attribute → Cell → Cell
fitted_cell attributes (Full vs) = Full (fit_values attributes vs)
fitted_cell attributes (Doubt kind) = Doubt kind

abbrev pub fitted_row : List Attribute → Row → Row
fitted_row attributes row = placed row.at.items (fitted_cell attributes row.cell)

put_fitted : (attributes : List Attribute) (c : Coordinate) (cell : Cell) (rows : List Row) → put_first c (fit_cell attributes c cell) rows ≡ placed c (fitted_cell attributes cell) ∷ rows
put_fitted attributes c (Full vs) rows = refl
put_fitted attributes c (Doubt kind) rows = refl

pub fit_is : (attributes : List Attribute) (rows : List Row) → fit_rows attributes rows ≡ map (fitted_row attributes) rows
fit_is attributes [] = refl
fit_is attributes (row ∷ rows) = put_fitted attributes row.at.items row.cell (fit_rows attributes rows) ∙ ap (λ (more : List Row). fitted_row attributes row ∷ more) (fit_is attributes rows)

fitted_kind : (a : Attribute) (v : Datum) → is_of_kind a.kind v ≡ true → is_of_kind a.kind (fit_value a v) ≡ true
fitted_kind a v h = cases (is_null v && not a.nullable)
  where
    cases : (b : Bool) → is_of_kind a.kind (cond b (Bad NullInNotNull) v) ≡ true
    cases true = refl
    cases false = h

fitted_kinds : (attributes : List Attribute) (vs : List Datum) → AreOfKinds attributes vs → AreOfKinds attributes (fit_values attributes vs)
fitted_kinds [] vs all = all
fitted_kinds (a ∷ attributes) [] all = all
fitted_kinds (a ∷ attributes) (v ∷ vs) all = (fitted_kind a v all.0, fitted_kinds attributes vs all.1)

fitted_is_cell : (attributes from : List Attribute) → ((vs : List Datum) → AreOfKinds from vs → AreOfKinds attributes vs) → (cell : Cell) → IsCellOf from cell → IsCellOf attributes (fitted_cell attributes cell)
fitted_is_cell attributes from h (Full vs) is = fitted_kinds attributes vs (h vs is)
fitted_is_cell attributes from h (Doubt kind) is = tt

-- rows of an array whose bounds, and whose kinds of values, are those of the schema
pub fit_array : (schema from : Schema) (rows : List Row) → IsValid schema → bounds_of schema.dimensions ≡ bounds_of from.dimensions
    → ((vs : List Datum) → AreOfKinds from.attributes vs → AreOfKinds schema.attributes vs) → AreRowsOf from rows → AreRowsOf schema (fit_rows schema.attributes rows)
fit_array schema from rows valid bounds kinds is = record {
  valid = valid;
  are_rows = record {
    rising = IsRising-cell_wise (fit_cell schema.attributes) rows is.are_rows.rising;
    in_bounds = subst (AllByRecursion Inside) (sym (fit_is schema.attributes rows))
        (mapped (λ row. is_inside (bounds_of from.dimensions) row.at.items ≡ true) Inside (fitted_row schema.attributes) (λ row i. subst (λ (area : Bounds). is_inside area row.at.items ≡ true) (sym bounds) i) rows is.are_rows.in_bounds);
  };
  kinds = subst (AllByRecursion Kinds) (sym (fit_is schema.attributes rows))
      (mapped (λ row. IsCellOf from.attributes row.cell) Kinds (fitted_row schema.attributes) (λ row k. fitted_is_cell schema.attributes from.attributes kinds row.cell k) rows is.kinds);
}
  where
    Inside : Row → Type 0
    Inside row = is_inside (bounds_of schema.dimensions) row.at.items ≡ true

    Kinds : Row → Type 0
    Kinds row = IsCellOf schema.attributes row.cell

-- ---- cells without fault

stands : (a : Attribute) (v : Datum) → bad_kind (fit_value a v) ≡ None → may_stand a (fit_value a v) ≡ true
stands a v h = by_value v a.nullable refl h
  where
    by_value : (v : Datum) (n : Bool) → a.nullable ≡ n → bad_kind (cond (is_null v && not n) (Bad NullInNotNull) v) ≡ None → may_stand a (cond (is_null v && not n) (Bad NullInNotNull) v) ≡ true
    by_value Null true e h = e
    by_value Null false e h = absurd cc
    by_value (Missing code) true e h = e
    by_value (Missing code) false e h = absurd cc
    by_value (Int n) b e h = refl
    by_value (Text s) b e h = refl
    by_value (Truth t) b e h = refl
    by_value (Bad kind) b e h = absurd cc

or_none : (a b : Option FaultKind) → option_or a b ≡ None → (a ≡ None) × (b ≡ None)
or_none None b e = (refl, e)
or_none (Some kind) b e = absurd cc

all_stand : (attributes : List Attribute) (vs : List Datum) → first_some bad_kind (fit_values attributes vs) ≡ None → may_all_stand attributes (fit_values attributes vs) ≡ true
all_stand [] vs e = refl
all_stand (a ∷ attributes) [] e = refl
all_stand (a ∷ attributes) (v ∷ vs) e =
    let none = or_none (bad_kind (fit_value a v)) (first_some bad_kind (fit_values attributes vs)) e in
    and_from (may_stand a (fit_value a v)) (may_all_stand attributes (fit_values attributes vs)) (stands a v none.0) (all_stand attributes vs none.1)

sound_cell : (attributes : List Attribute) (cell : Cell) → fault_in (fitted_cell attributes cell) ≡ None → is_sound attributes (fitted_cell attributes cell) ≡ true
sound_cell attributes (Full vs) e = all_stand attributes vs e
sound_cell attributes (Doubt kind) e = absurd cc

no_fault_here : (row : Row) (o : Option FaultKind) (later : Option Broken) → fault_here row o later ≡ None → (o ≡ None) × (later ≡ None)
no_fault_here row None later e = (refl, e)
no_fault_here row (Some kind) later e = absurd cc

sound_rows : (attributes : List Attribute) (rows : List Row) → first_fault (map (fitted_row attributes) rows) ≡ None → AllByRecursion (λ row. is_sound attributes row.cell ≡ true) (map (fitted_row attributes) rows)
sound_rows attributes [] e = tt
sound_rows attributes (row ∷ rows) e =
    let none = no_fault_here (fitted_row attributes row) (fault_in (fitted_cell attributes row.cell)) (first_fault (map (fitted_row attributes) rows)) e in
    (sound_cell attributes row.cell none.0, sound_rows attributes rows none.1)

-- fitted rows without a fault may be stored
pub fit_sound : (schema : Schema) (rows : List Row) → first_fault (fit_rows schema.attributes rows) ≡ None → AreSound schema (fit_rows schema.attributes rows)
fit_sound schema rows e =
    subst (AreSound schema) (sym (fit_is schema.attributes rows)) (sound_rows schema.attributes rows (subst (λ (more : List Row). first_fault more ≡ None) (fit_is schema.attributes rows) e))
