-- Two projects are one, and what a project drops need not be computed.
use Rattle.std.proofs.Common.{◌≡◌, ℕ, ◌+◌, true, List, [], ◌∷◌, ◌++◌, map, length, Result, Ok, Err, refl, sym, ap, ◌∙◌, subst, append-nil, length-append}
use Rattle.std.proofs.lemmas.List.{length-map}
use Rattle.std.specs.Prelude.{◌&&◌, not, nat_lt, slice_index_or, IfOk, IsTrue}
use Rattle.std.specs.List.{list_all}
use Rattle.cell_values.specs.declared.datum.Broken.{Broken}
use Rattle.cell_values.specs.declared.datum.Cell.{Cell}
use Rattle.cell_values.specs.declared.datum.Cell.TheVariants.{Full, Doubt}
use Rattle.cell_values.specs.declared.datum.Datum.{Datum}
use Rattle.cell_values.specs.declared.datum.Datum.TheVariants.{Null}
use Rattle.cell_values.specs.declared.datum.Row.{Row}
use Rattle.cell_values.specs.declared.schema.Attribute.{Attribute}
use Rattle.cell_values.specs.declared.schema.Dimension.{Dimension}
use Rattle.cell_values.specs.declared.schema.Schema.{Schema}
use Rattle.cell_values.specs.Schemas.{IsValid}
use Rattle.array_rows.specs.Arrays.{Meant}
use Rattle.array_rows.specs.Cellwise.{cell_wise, put_first}
use Rattle.array_rows.specs.Rows.{Coordinate, placed}
use Rattle.expr_nulls.specs.ExprValue.{value_of}
use Rattle.logical_plan.specs.declared.parts.Applied.{Applied}
use Rattle.logical_plan.specs.BoxOps.{items_at}
use Rattle.logical_plan.specs.CellOps.{apply_cell, apply_rows, project_cell, project_rows}
use Rattle.logical_plan.specs.Faults.{if_whole}
use Rattle.logical_plan.specs.Meaning.{Database, meaning}
use Rattle.logical_plan.specs.PlanSchema.{schema_of, derived, apply_schema, project_schema}
use Rattle.logical_plan.specs.Query.{Query, applied, projected}
use Rattle.logical_plan.specs.Typing.{IsTyped, is_over, is_null_alone, are_below}
use Rattle.logical_plan.proofs.SchemaLaws.{meaning_schema, typed_valid}
use Rattle.plan_rewrite.specs.Inner.Trimmed.{kept, relocated}
use Rattle.plan_rewrite.specs.Inner.Wide.{IsWide, AreWide}
use Rattle.plan_needs.specs.Sufficient.{HasArrays}
use Rattle.plan_rewrite.specs.Same.{IsSame}
use Rattle.plan_rewrite.proofs.ItemPlaces.{kept-map, relocated-map, relocated_below, all_kept, items_kept, values_kept, items_picked, index_picked, picked_below, length_picked}
use Rattle.plan_rewrite.proofs.ValidLess.{valid_less}

meant : Schema → Result (List Row) Broken → Meant
meant schema rows = record { schema = schema; rows = rows }

both_same : {A B C : Type 0} (f : A → B → C) (a a' : A) (b b' : B) → a ≡ a' → b ≡ b' → f a b ≡ f a' b'
both_same f a a' b b' p q = ap (λ x. f x b) p ∙ ap (f a') q

shaped : List Dimension → List Attribute → Schema
shaped dims attributes = record { attributes = attributes; dimensions = dims }

-- ---- two projects

project_twice : (own places : List ℕ) → list_all (λ place. nat_lt place (length own)) places ≡ true → (rows : List Row) → project_rows (items_at places own) rows ≡ project_rows places (project_rows own rows)
project_twice own places b [] = refl
project_twice own places b (row ∷ rows) = by_cell row.at.items row.cell (project_twice own places b rows)
  where
    by_cell : (c : Coordinate) (cell : Cell) → project_rows (items_at places own) rows ≡ project_rows places (project_rows own rows)
        → put_first c (project_cell (items_at places own) c cell) (project_rows (items_at places own) rows) ≡ cell_wise (project_cell places) (put_first c (project_cell own c cell) (project_rows own rows))
    by_cell c (Full vs) ih =
        ap (λ (ws : List Datum). placed c (Full ws) ∷ project_rows (items_at places own) rows) (index_picked vs Null own places b)
        ∙ ap (λ (l : List Row). placed c (Full (map (λ p. slice_index_or (map (λ o. slice_index_or vs o Null) own) p Null) places)) ∷ l) ih
    by_cell c (Doubt kind) ih = ap (λ (l : List Row). placed c (Doubt kind) ∷ l) ih

projects : (own places : List ℕ) → list_all (λ place. nat_lt place (length own)) places ≡ true → (r : Result (List Row) Broken) → if_whole (project_rows (items_at places own)) r ≡ if_whole (project_rows places) (if_whole (project_rows own) r)
projects own places b (Ok rows) = ap (λ (x : List Row). Ok x) (project_twice own places b rows)
projects own places b (Err broken) = refl

one_schema : (own places : List ℕ) (s : Schema) → IsTrue (are_below (length s.attributes) own) → list_all (λ place. nat_lt place (length own)) places ≡ true → project_schema (items_at places own) s ≡ project_schema places (project_schema own s)
unfolding shaped
one_schema own places s b c = ap (shaped s.dimensions) (items_picked s.attributes own places b c)

within_own : (own places : List ℕ) (s : Schema) → IsTrue (are_below (length s.attributes) own) → IsTrue (are_below (length (project_schema own s).attributes) places) → list_all (λ place. nat_lt place (length own)) places ≡ true
within_own own places s b c = subst (λ (n : ℕ). list_all (λ place. nat_lt place n) places ≡ true) (length_picked s.attributes own b) c

pub two_projects : (s : Query) (own places : List ℕ) → IsTyped (projected (projected s own) places) → IsSame (projected (projected s own) places) (projected s (items_at places own))
unfolding meant
two_projects s own places typed =
    let below : list_all (λ place. nat_lt place (length own)) places ≡ true = within_own own places (schema_of s) typed.0.1 typed.1 in
    let schema : project_schema (items_at places own) (schema_of s) ≡ project_schema places (project_schema own (schema_of s)) = one_schema own places (schema_of s) typed.0.1 below in
    record {
      keeps_type = λ t. (t.0.0, picked_below (length (schema_of s).attributes) own places t.0.1, subst (λ (x : Schema). IsValid x) (sym schema) t.2);
      same_schema = schema;
      same_leaves = refl;
      same_meaning = λ db l.
          both_same meant (project_schema (items_at places own) (meaning db s).schema) (project_schema places (project_schema own (meaning db s).schema))
          (if_whole (project_rows (items_at places own)) (meaning db s).rows) (if_whole (project_rows places) (if_whole (project_rows own) (meaning db s).rows))
          (subst (λ (x : Schema). project_schema (items_at places own) x ≡ project_schema places (project_schema own x)) (sym (meaning_schema db s)) schema)
          (projects own places below (meaning db s).rows);
      same_needs = λ sides. refl;
      same_scan = refl;
    }

-- ---- an apply of nothing

nothing_applied : (rows : List Row) → rows ≡ apply_rows [] rows
nothing_applied [] = refl
nothing_applied (row ∷ rows) = by_cell row.at.items row.cell (nothing_applied rows)
  where
    by_cell : (c : Coordinate) (cell : Cell) → rows ≡ apply_rows [] rows → placed c cell ∷ rows ≡ put_first c (apply_cell [] c cell) (apply_rows [] rows)
    by_cell c (Full vs) ih = ap (λ (l : List Row). placed c (Full vs) ∷ l) ih ∙ ap (λ (ws : List Datum). placed c (Full ws) ∷ apply_rows [] rows) (sym (append-nil vs))
    by_cell c (Doubt kind) ih = ap (λ (l : List Row). placed c (Doubt kind) ∷ l) ih

applied_whole : (r : Result (List Row) Broken) → r ≡ if_whole (apply_rows []) r
applied_whole (Ok rows) = ap (λ (x : List Row). Ok x) (nothing_applied rows)
applied_whole (Err broken) = refl

no_attributes : (s : Schema) → s ≡ apply_schema [] s
unfolding shaped
no_attributes s = ap (shaped s.dimensions) (sym (append-nil s.attributes))

pub none_applied : (s : Query) → IsSame (applied s []) s
unfolding meant
none_applied s = record {
  keeps_type = λ t. t.0;
  same_schema = no_attributes (schema_of s);
  same_leaves = refl;
  same_meaning = λ db l.
      both_same meant (meaning db s).schema (apply_schema [] (meaning db s).schema) (meaning db s).rows (if_whole (apply_rows []) (meaning db s).rows)
      (no_attributes (meaning db s).schema) (applied_whole (meaning db s).rows);
  same_needs = λ sides. refl;
  same_scan = refl;
}

-- ---- what is dropped

-- the values of expressions at a cell
values_at : Coordinate → List Datum → Applied → Datum
values_at c vs a = value_of a.value c vs

dropped_values : (n : ℕ) (values : List Applied) (places : List ℕ) (c : Coordinate) (vs : List Datum) → length vs ≡ n
    → map (λ p. slice_index_or (vs ++ map (λ a. value_of a.value c vs) (kept n values places)) p Null) (relocated n values places)
    ≡ map (λ p. slice_index_or (vs ++ map (λ a. value_of a.value c vs) values) p Null) places
unfolding values_at
dropped_values n values places c vs e =
    ap (λ (ps : List ℕ). map (λ p. slice_index_or (vs ++ map (values_at c vs) (kept n values places)) p Null) ps) (sym (relocated-map (values_at c vs) n values places))
    ∙ ap (λ (l : List Datum). map (λ p. slice_index_or (vs ++ l) p Null) (relocated n (map (values_at c vs) values) places)) (sym (kept-map (values_at c vs) n values places))
    ∙ values_kept n vs (map (values_at c vs) values) Null places e

dropped_rows : (n : ℕ) (values : List Applied) (places : List ℕ) (rows : List Row) → AreWide n rows
    → project_rows (relocated n values places) (apply_rows (kept n values places) rows) ≡ project_rows places (apply_rows values rows)
dropped_rows n values places [] w = refl
dropped_rows n values places (row ∷ rows) w = by_cell row.at.items row.cell w.0 (dropped_rows n values places rows w.1)
  where
    by_cell : (c : Coordinate) (cell : Cell) → IsWide n cell → project_rows (relocated n values places) (apply_rows (kept n values places) rows) ≡ project_rows places (apply_rows values rows)
        → cell_wise (project_cell (relocated n values places)) (put_first c (apply_cell (kept n values places) c cell) (apply_rows (kept n values places) rows))
        ≡ cell_wise (project_cell places) (put_first c (apply_cell values c cell) (apply_rows values rows))
    by_cell c (Full vs) e ih =
        ap (λ (ws : List Datum). placed c (Full ws) ∷ project_rows (relocated n values places) (apply_rows (kept n values places) rows)) (dropped_values n values places c vs e)
        ∙ ap (λ (l : List Row). placed c (Full (map (λ p. slice_index_or (vs ++ map (λ a. value_of a.value c vs) values) p Null) places)) ∷ l) ih
    by_cell c (Doubt kind) e ih = ap (λ (l : List Row). placed c (Doubt kind) ∷ l) ih

dropped : (n : ℕ) (values : List Applied) (places : List ℕ) (r : Result (List Row) Broken) → IfOk r (AreWide n)
    → if_whole (project_rows (relocated n values places)) (if_whole (apply_rows (kept n values places)) r) ≡ if_whole (project_rows places) (if_whole (apply_rows values) r)
dropped n values places (Ok rows) w = ap (λ (x : List Row). Ok x) (dropped_rows n values places rows w)
dropped n values places (Err broken) w = refl

derived_of : Applied → Attribute
derived_of a = derived a.name a.kind

dropped_schema : (values : List Applied) (places : List ℕ) (s : Schema)
    → project_schema (relocated (length s.attributes) values places) (apply_schema (kept (length s.attributes) values places) s) ≡ project_schema places (apply_schema values s)
unfolding shaped derived_of
dropped_schema values places s =
    let n : ℕ = length s.attributes in
    ap (shaped s.dimensions)
    (ap (λ (ps : List ℕ). items_at ps (s.attributes ++ map derived_of (kept n values places))) (sym (relocated-map derived_of n values places))
    ∙ ap (λ (l : List Attribute). items_at (relocated n (map derived_of values) places) (s.attributes ++ l)) (sym (kept-map derived_of n values places))
    ∙ items_kept n s.attributes (map derived_of values) places refl)

pub applied_length : (values : List Applied) (s : Schema) → length (apply_schema values s).attributes ≡ length s.attributes + length values
unfolding derived_of
applied_length values s = length-append s.attributes (map derived_of values) ∙ ap (λ (n : ℕ). length s.attributes + n) (length-map values derived_of)

relocated_typed : (values : List Applied) (places : List ℕ) (s : Schema) → IsTrue (are_below (length (apply_schema values s).attributes) places)
    → IsTrue (are_below (length (apply_schema (kept (length s.attributes) values places) s).attributes) (relocated (length s.attributes) values places))
relocated_typed values places s b =
    let n : ℕ = length s.attributes in
    subst (λ (m : ℕ). list_all (λ place. nat_lt place m) (relocated n values places) ≡ true) (sym (applied_length (kept n values places) s))
    (relocated_below n values places (subst (λ (m : ℕ). list_all (λ place. nat_lt place m) places ≡ true) (applied_length values s) b))

-- the cells of the source have one value for each attribute
pub dropped_applied : (s : Query) (values : List Applied) (places : List ℕ)
    → ((db : Database) → HasArrays db s → IfOk (meaning db s).rows (AreWide (length (schema_of s).attributes)))
    → IsSame (projected (applied s values) places) (projected (applied s (kept (length (schema_of s).attributes) values places)) (relocated (length (schema_of s).attributes) values places))
unfolding meant
dropped_applied s values places wide =
    let n : ℕ = length (schema_of s).attributes in
    let less : List Applied = kept n values places in
    let again : List ℕ = relocated n values places in
    let schema : project_schema again (apply_schema less (schema_of s)) ≡ project_schema places (apply_schema values (schema_of s)) = dropped_schema values places (schema_of s) in
    record {
      keeps_type = λ t. (
        (t.0.0, all_kept (λ a. is_over (schema_of s) a.kind a.value && not (is_null_alone a.value)) n values places t.0.1, valid_less n values places (schema_of s) (typed_valid s t.0.0) t.0.2),
        relocated_typed values places (schema_of s) t.1,
        subst (λ (x : Schema). IsValid x) (sym schema) t.2,
      );
      same_schema = schema;
      same_leaves = refl;
      same_meaning = λ db l.
          both_same meant (project_schema again (apply_schema less (meaning db s).schema)) (project_schema places (apply_schema values (meaning db s).schema))
          (if_whole (project_rows again) (if_whole (apply_rows less) (meaning db s).rows)) (if_whole (project_rows places) (if_whole (apply_rows values) (meaning db s).rows))
          (subst (λ (x : Schema). project_schema again (apply_schema less x) ≡ project_schema places (apply_schema values x)) (sym (meaning_schema db s)) schema)
          (dropped n values places (meaning db s).rows (wide db l));
      same_needs = λ sides. refl;
      same_scan = refl;
    }
