-- Ranks are rows of their schema.
use Rattle.std.proofs.Common.{◌≡◌, ℕ, zero, suc, ◌+◌, ◌<◌, ◌≤◌, ◌^◌, pos, not, Bool, true, false, cond, IsTrue, List, [], ◌∷◌, map, length, filter, Option, Some, None, refl, sym, ap, ◌∙◌, subst, arith}
use Rattle.std.specs.Prelude.{slice_get, slice_index_or}
use Rattle.std.specs.List.{cons_option}
use Rattle.std.specs.Ordering.{is_eq, is_lt}
use Rattle.std.proofs.lemmas.List.{length-map}
use Rattle.cell_values.specs.declared.datum.Cell.{Cell}
use Rattle.cell_values.specs.declared.datum.Cell.TheVariants.{Full, Doubt}
use Rattle.cell_values.specs.declared.datum.Datum.{Datum}
use Rattle.cell_values.specs.declared.datum.Datum.TheVariants.{Int, Null}
use Rattle.cell_values.specs.declared.datum.FaultKind.{FaultKind}
use Rattle.cell_values.specs.declared.datum.Row.{Row}
use Rattle.cell_values.specs.declared.schema.Attribute.{Attribute}
use Rattle.cell_values.specs.declared.schema.Kind.{Kind}
use Rattle.cell_values.specs.declared.schema.Kind.TheVariants.{Int64, Str, Bool as Truths}
use Rattle.cell_values.specs.declared.schema.Schema.{Schema}
use Rattle.cell_values.specs.Cells.{is_of_kind, AreOfKinds, IsCellOf}
use Rattle.cell_values.specs.Nulls.{is_null}
use Rattle.cell_values.specs.Schemas.{IsValid}
use Rattle.array_rows.specs.Arrays.{AreRowsOf}
use Rattle.array_rows.specs.Boxes.{is_inside, bounds_of}
use Rattle.array_rows.specs.Rows.{Coordinate, row_major}
use Rattle.array_rows.proofs.RowsLemmas.{IsRising-cell_wise}
use Rattle.logical_plan.specs.BoxOps.{items_at, numbers_at}
use Rattle.logical_plan.specs.Groups.{attribute_of, cells_of, datum_cmp, fault_for, first_some, unless, values_of}
use Rattle.logical_plan.specs.declared.parts.AggFunction.TheVariants.{Count}
use Rattle.logical_plan.specs.Ordered.{agreeing, below, rank_among, rank_cell, rank_rows}
use Rattle.logical_plan.specs.PlanSchema.{derived, rank_name, rank_schema, with_rank}
use Rattle.logical_plan.specs.Typing.{can_be_ranked}
use Rattle.group_rows.proofs.CumulatedLaws.{all_made, the_cell}

null_kind : (kind : Kind) → IsTrue (is_of_kind kind Null)
null_kind Int64 = refl
null_kind Str = refl
null_kind Truths = refl

abbrev KindOf : Option Attribute → Datum → Type 0
KindOf (Some a) v = IsTrue (is_of_kind a.kind v)
KindOf None v = ⊥

value_at : (attributes : List Attribute) (vs : List Datum) (x : ℕ) (a : Attribute) → AreOfKinds attributes vs → slice_get attributes x ≡ Some a → IsTrue (is_of_kind a.kind (slice_index_or vs x Null))
value_at [] [] x a h e = null_kind a.kind
value_at [] (v ∷ vs) x a h e = absurd h
value_at (b ∷ attributes) [] x a h e = absurd h
value_at (b ∷ attributes) (v ∷ vs) zero a h e = subst (λ (o : Option Attribute). KindOf o v) e h.0
value_at (b ∷ attributes) (v ∷ vs) (suc x) a h e = value_at attributes vs x a h.1 e

-- ---- a rank is a number

fewer : {A : Type 0} (test : A → Bool) (xs : List A) → length (filter test xs) ≤ length xs
fewer test [] = omega arith
fewer test (x ∷ xs) = cases (test x) (fewer test xs)
  where
    cases : (b : Bool) → length (filter test xs) ≤ length xs → length (cond b (x ∷ filter test xs) (filter test xs)) ≤ suc (length xs)
    cases true l = omega (arith, l)
    cases false l = omega (arith, l)

few_below : (x : ℕ) (dims : List ℕ) (c : Coordinate) (rows : List Row) (v : Datum) → below v (values_of x (cells_of (agreeing dims c rows))) ≤ length rows
few_below x dims c rows v =
    let some = agreeing dims c rows in
    let p = fewer (λ w. is_lt (datum_cmp w v)) (values_of x (cells_of some)) in
    let q = fewer (λ w. not (is_null w)) (map (attribute_of x) (cells_of some)) in
    let r = length-map (cells_of some) (attribute_of x) in
    let s = length-map some (λ (row : Row). row.cell) in
    let t = fewer (λ (row : Row). is_eq (row_major (numbers_at dims row.at.items) (numbers_at dims c))) rows in
    omega (arith, p, q, r, s, t)

number_kind : (n : ℕ) → n < 9223372036854775808 → IsTrue (is_of_kind Int64 (Int (pos n)))
number_kind n l = grind (arith, l)

rank_kind : (x : ℕ) (dims : List ℕ) (c : Coordinate) (rows : List Row) (v : Datum) → length rows < 2 ^ 62 → IsTrue (is_of_kind Int64 (rank_among x v (cells_of (agreeing dims c rows))))
rank_kind x dims c rows v few = told (first_some (fault_for Count x) (cells_of (agreeing dims c rows))) (is_null v)
  where
    told : (o : Option FaultKind) (b : Bool) → IsTrue (is_of_kind Int64 (unless o (cond b Null (Int (pos (1 + below v (values_of x (cells_of (agreeing dims c rows)))))))))
    told (Some kind) b = refl
    told None true = refl
    told None false = number_kind (1 + below v (values_of x (cells_of (agreeing dims c rows)))) (let l = few_below x dims c rows v in omega (arith, l, few))

-- ---- the attributes of the target

with_rank_told : (attributes : List Attribute) (x : ℕ) (a : Attribute) → slice_get attributes x ≡ Some a → with_rank (items_at (x ∷ []) attributes) ≡ a ∷ derived (rank_name a.name) Int64 ∷ []
with_rank_told attributes x a e = ap (λ (o : Option Attribute). with_rank (cons_option o [])) e

ranked_kinds : (attributes : List Attribute) (x : ℕ) (a : Attribute) (dims : List ℕ) (rows : List Row) (targets : List Attribute) (c : Coordinate) (old cell : Cell) → slice_get attributes x ≡ Some a → targets ≡ a ∷ derived (rank_name a.name) Int64 ∷ []
    → length rows < 2 ^ 62 → IsCellOf attributes old → rank_cell x dims rows c old ≡ Some cell → IsCellOf targets cell
ranked_kinds attributes x a dims rows targets c (Doubt kind) cell e t few k made = subst (IsCellOf targets) (ap (the_cell cell) made) tt
ranked_kinds attributes x a dims rows targets c (Full vs) cell e t few k made =
    subst (IsCellOf targets) (ap (the_cell cell) made)
    (subst (λ (ts : List Attribute). AreOfKinds ts (attribute_of x (Full vs) ∷ rank_among x (attribute_of x (Full vs)) (cells_of (agreeing dims c rows)) ∷ [])) (sym t)
    (value_at attributes vs x a k e, (rank_kind x dims c rows (attribute_of x (Full vs)) few, tt)))

pub ranked_are_rows : (schema target : Schema) (x : ℕ) (dims : List ℕ) (rows made : List Row) → AreRowsOf schema rows → target ≡ rank_schema x schema → IsValid target → IsTrue (can_be_ranked (slice_get schema.attributes x))
    → length rows < 2 ^ 62 → made ≡ rank_rows x dims rows → AreRowsOf target made
ranked_are_rows schema target x dims rows made are e valid typed few same = cases (slice_get schema.attributes x) refl typed
  where
    cases : (o : Option Attribute) → slice_get schema.attributes x ≡ o → IsTrue (can_be_ranked o) → AreRowsOf target made
    cases None f t = absurd cc
    cases (Some a) f t =
        let change = rank_cell x dims rows in
        let kinds : target.attributes ≡ a ∷ derived (rank_name a.name) Int64 ∷ [] = ap (λ (s : Schema). s.attributes) e ∙ with_rank_told schema.attributes x a f in
        subst (AreRowsOf target) (sym same) (record {
          valid = valid;
          are_rows = record {
            rising = IsRising-cell_wise change rows are.are_rows.rising;
            in_bounds = all_made (λ c cell. IsTrue (is_inside (bounds_of target.dimensions) c)) (λ row. IsTrue (is_inside (bounds_of schema.dimensions) row.at.items)) change rows
                (λ row cell h g. subst (λ (s : Schema). IsTrue (is_inside (bounds_of s.dimensions) row.at.items)) (sym e) h) are.are_rows.in_bounds;
          };
          kinds = all_made (λ c cell. IsCellOf target.attributes cell) (λ row. IsCellOf schema.attributes row.cell) change rows
              (λ row cell h g. ranked_kinds schema.attributes x a dims rows target.attributes row.at.items row.cell cell f kinds few h g) are.kinds;
        })
