-- The plans that checking answers are typed.
use Rattle.std.proofs.Common.{◌≡◌, ◌+◌, ◌*◌, ◌≤◌, ◌==◌, ◌&&◌, ℕ, true, length, map, drop, Option, Some, None, Ok, IfOk, IsTrue, List, [], ◌∷◌, ◌++◌, refl, sym, ap, subst, ◌∙◌, arith}
use Rattle.std.specs.Prelude.{nat_le}
use Rattle.std.specs.List.{AllByRecursion, list_all}
use Rattle.std.proofs.lemmas.Bool.{and_parts, and_from, leb-true, eqb-true, eq-eqb}
use Rattle.std.proofs.lemmas.List.{length-append, length-drop, append-nil}
use Rattle.cell_values.specs.declared.name.Span.{Span}
use Rattle.cell_values.specs.declared.datum.Row.{Row}
use Rattle.cell_values.specs.declared.schema.Attribute.{Attribute}
use Rattle.cell_values.specs.declared.schema.Bounds.{Bounds}
use Rattle.cell_values.specs.declared.schema.Dimension.{Dimension}
use Rattle.cell_values.specs.declared.schema.Kind.TheVariants.{Bool as Truths}
use Rattle.cell_values.specs.declared.schema.Schema.{Schema}
use Rattle.cell_values.specs.Schemas.{IsValid, attribute_names, dimension_names, are_distinct}
use Rattle.schema_grammar.specs.declared.kinds.TypeKind.TheVariants.{WrongCount}
use Rattle.afl_trees.specs.Term.{Term, text, call, group, Terms, no_terms, and_term}
use Rattle.logical_plan.proofs.SchemaLaws.{typed_valid}
use Rattle.logical_plan.specs.BoxOps.{items_but, fixed_places}
use Rattle.logical_plan.specs.PlanSchema.{derived, schema_of, apply_schema, project_schema}
use Rattle.logical_plan.specs.Query.{Query, built, listed}
use Rattle.logical_plan.specs.Typing.{IsTyped, is_bounded, places_in, fits_one, are_below, are_apart, is_box_of}
use Rattle.logical_plan.specs.declared.names.NameEntry.{NameEntry}
use Rattle.logical_plan.specs.declared.parts.Applied.{Applied}
use Rattle.logical_plan.specs.declared.parts.Fixed.{Fixed}
use Rattle.check_rules.specs.Checked.{demand, then}
use Rattle.check_rules.specs.Operators.{operator_named}
use Rattle.check_rules.proofs.RulesHolding.{demanded, thens, of_answer}
use Rattle.check_exprs.specs.Expressions.{fits, typed}
use Rattle.check_exprs.specs.Laws.{leaves_fit, all_leaves_fit}
use Rattle.check_exprs.specs.declared.operand.Operand.{Operand}
use Rattle.check_exprs.proofs.KindLemmas.{typed_have_kinds}
use Rattle.check_rules.specs.LiteralRows.{literal_rows}
use Rattle.check_rules.specs.InTurn.{in_turn, pairs_in_turn}
use Rattle.check_rules.specs.Sorts.{to_list}
use Rattle.check_rules.proofs.Names.{distinct_front}
use Rattle.check_rules.proofs.Turns.{turns_keep, turns_count, pairs_keep}
use Rattle.check_rules.proofs.ValidSchemas.{ValidParts, valid_parts, valid_of_parts, has_some}
use Rattle.check_sources.proofs.Holding.{build_holds, referred_holds, scan_holds}
use Rattle.check_cellwise.specs.Apply.{applied_one}
use Rattle.check_cellwise.specs.Project.{projected_one}
use Rattle.check_cellwise.proofs.AppliedValues.{Added, adds}
use Rattle.check_cellwise.proofs.CellsHolding.{filter_holds, apply_holds, project_holds}
use Rattle.check_cellwise.proofs.Projected.{Chosen, chooses}
use Rattle.check_cellwise.specs.Boxes.{low_bound, high_bound, box_of}
use Rattle.check_cellwise.specs.Slice.{fixed_one}
use Rattle.check_cellwise.proofs.FixedPlaces.{Held, holds_one}
use Rattle.check_cellwise.proofs.BoxesHolding.{between_holds, subarray_holds, slice_holds}
use Rattle.check_cellwise.proofs.Parts.{length_pairs, slice_valid, part_valid}
use Rattle.afl_types.specs.Calls.{call_of, fits_count, fits_two, ruled, ruled_two}
use Rattle.afl_types.specs.Arrays.{AreValid}
use Rattle.afl_types.specs.Content.{content_span}
use Rattle.afl_types.specs.Queries.{called, query_of}
use Rattle.afl_types.specs.declared.queries.call.Call.{Call}
use Rattle.afl_types.specs.declared.queries.call.Call.TheVariants.{Build, Scan, Over, Two}
use Rattle.afl_types.specs.declared.queries.call.OverSource.{OverSource}
use Rattle.afl_types.specs.declared.queries.call.OverSource.TheVariants.{Filter, Apply, Project, Between, Subarray, Slice, Redimension, Regrid, Window, Aggregate}
use Rattle.afl_types.specs.declared.queries.call.OverSource.TheVariants.{Sort, Rank, Cumulate, Transpose, Reverse, Unpack, Xgrid}
use Rattle.afl_types.specs.declared.queries.call.OverTwo.{OverTwo}
use Rattle.afl_types.specs.declared.queries.call.OverTwo.TheVariants.{Join, CrossJoin, Merge, Concat}
use Rattle.afl_types.proofs.TypedGroups.{regrid_typed, window_typed, aggregate_typed}
use Rattle.afl_types.proofs.TypedJoins.{join_typed, cross_typed}
use Rattle.afl_types.proofs.TypedMoves.{redimension_typed}
use Rattle.afl_types.proofs.TypedOrders.{sort_typed, rank_typed, cumulate_typed}
use Rattle.afl_types.proofs.TypedShapes.{transpose_typed, reverse_typed, unpack_typed, xgrid_typed, merge_typed, concat_typed}
use Rattle.afl_types.proofs.NoQuery.{nested_holds}
use Rattle.afl_types.proofs.Small.{entry_valid}
use Rattle.check_rules.proofs.Limits.{are_bytes}
use Rattle.afl_types.proofs.RowsFit.{literal_fits}
use Rattle.afl_types.specs.Laws.{CheckedPlansAreTyped}

abbrev Leaf : Term → Type 0
Leaf t = IsTrue (leaves_fit t)

leaves_of : (ts : Terms) → IsTrue (all_leaves_fit ts) → AllByRecursion Leaf (to_list ts)
leaves_of no_terms h = tt
leaves_of (and_term t ts) h = let p = and_parts (leaves_fit t) (all_leaves_fit ts) h in (p.0, leaves_of ts p.1)

nothing_asked : (ts : List Term) → AllByRecursion (λ t. Unit {0}) ts
nothing_asked [] = tt
nothing_asked (t ∷ ts) = (tt, nothing_asked ts)

-- builds and literals

one_fits : (attributes : List Attribute) (a : Attribute) (value : Term) (dims : List Dimension) (x : Operand) → attributes ≡ a ∷ [] → Leaf value → typed [] dims value ≡ Ok x → fits a.kind x.kind ≡ true → fits_one attributes (length dims) x.expr ≡ true
one_fits attributes a value dims x one leaf t fit =
    subst (λ (attrs : List Attribute). fits_one attrs (length dims) x.expr ≡ true) (sym one) (typed_have_kinds [] dims value x leaf t a.kind fit)

build_typed : (meaning : Schema) (a : Attribute) (value : Term) (x : Operand) → Leaf value → IsValid meaning → list_all is_bounded meaning.dimensions ≡ true → meaning.attributes ≡ a ∷ []
    → nat_le (places_in meaning.dimensions) 16777216 ≡ true → typed [] meaning.dimensions value ≡ Ok x → fits a.kind x.kind ≡ true → IsTyped (built meaning x.expr)
build_typed meaning a value x leaf valid bounded one few t fit = (
  valid,
  and_from (list_all is_bounded meaning.dimensions && nat_le (places_in meaning.dimensions) 16777216) (fits_one meaning.attributes (length meaning.dimensions) x.expr)
      (and_from (list_all is_bounded meaning.dimensions) (nat_le (places_in meaning.dimensions) 16777216) bounded few) (one_fits meaning.attributes a value meaning.dimensions x one leaf t fit),
)

literal_typed : (meaning : Schema) (d : Dimension) (at : Span) (spelled : List ℕ) (rows : List Row) → Leaf (text at spelled) → IsValid meaning → meaning.dimensions ≡ d ∷ [] → literal_rows meaning.attributes d spelled ≡ Some rows → IsTyped (listed meaning rows)
literal_typed meaning d at spelled rows leaf valid one e =
    let bytes = (and_parts (nat_le (length spelled) 65535) (are_bytes spelled) leaf).1 in
    let fit = literal_fits meaning d spelled rows valid one bytes e in
    (ap (λ (ds : List Dimension). length ds == 1) one, fit.0, fit.1)

-- operators on a typed source

module _ (s : Span) (source : Query) (typed_source : IsTyped source) where
  abbrev shape : Schema
  shape = schema_of source

  valid : IsValid shape
  valid = typed_valid source typed_source

  parts : ValidParts shape
  parts = valid_parts shape valid

  leaf_in : (arguments : List Term) (e : Term) → AllByRecursion Leaf arguments → arguments ≡ e ∷ [] → Leaf e
  leaf_in arguments e leaves one = (subst (AllByRecursion Leaf) one leaves).0

  filter_typed : (at : Span) (arguments : List Term) → AllByRecursion Leaf arguments → IfOk (ruled s Filter at source arguments) IsTyped
  filter_typed at arguments leaves =
      filter_holds IsTyped s source arguments (λ e x one t fit. (typed_source, typed_have_kinds shape.attributes shape.dimensions e x (leaf_in arguments e leaves one) t Truths fit))

  apply_typed : (at : Span) (arguments : List Term) → AllByRecursion Leaf arguments → IfOk (ruled s Apply at source arguments) IsTyped
  apply_typed at arguments leaves =
      let start : Added shape [] = record { fit = refl; names = ap (λ (xs : List Attribute). are_distinct (attribute_names xs ++ dimension_names shape.dimensions)) (append-nil shape.attributes) ∙ parts.distinct } in
      let kept : IfOk (pairs_in_turn (applied_one shape) [] arguments) (Added shape) = pairs_keep Leaf (Added shape) (applied_one shape) (λ done n e leaf other added. adds shape done n e other added) [] arguments leaves start in
      apply_holds IsTyped s source arguments (λ values e within.
      let added : Added shape values = of_answer (Added shape) (pairs_in_turn (applied_one shape) [] arguments) values kept e in
      let made : Schema = apply_schema values shape in
      let some : 1 ≤ length made.attributes = longer values in (
        typed_source,
        added.fit,
        valid_of_parts made (record {
          attributes = has_some made.attributes 64 some within.attributes;
          dimensions = parts.dimensions;
          distinct = added.names;
          each = parts.each;
          frames = parts.frames;
        }),
      ))
    where
      longer : (values : List Applied) → 1 ≤ length (apply_schema values shape).attributes
      longer values =
          let one = and_parts (nat_le 1 (length shape.attributes)) (nat_le (length shape.attributes) 64) parts.attributes in
          omega (arith, leb-true 1 (length shape.attributes) one.0, length-append shape.attributes (map (λ (a : Applied). derived a.name a.kind) values))

  project_typed : (at : Span) (arguments : List Term) → IfOk (ruled s Project at source arguments) IsTyped
  project_typed at arguments =
      let alone = (distinct_front (attribute_names shape.attributes) (dimension_names shape.dimensions) parts.distinct).0 in
      let behind = (distinct_front (attribute_names shape.attributes) (dimension_names shape.dimensions) parts.distinct).1 in
      let Kept : List ℕ → Type 0 = Chosen shape parts.distinct alone in
      let start : Kept [] = record { below = refl; names = behind; count = refl } in
      let kept : IfOk (in_turn (projected_one shape.attributes) [] arguments) Kept
      = turns_keep (λ t. Unit {0}) Kept (projected_one shape.attributes) (λ done t asked chosen. chooses shape parts.distinct alone done t chosen) [] arguments (nothing_asked arguments) start in
      project_holds IsTyped s source arguments (λ some places e within.
      let chosen : Kept places = of_answer Kept (in_turn (projected_one shape.attributes) [] arguments) places kept e in
      let made : Schema = project_schema places shape in
      let count : length places ≡ 0 + length arguments = turns_count (projected_one shape.attributes) [] arguments places e in (
        typed_source,
        chosen.below,
        valid_of_parts made (record {
          attributes = has_some made.attributes 64 (omega (arith, some, chosen.count, count)) within.attributes;
          dimensions = parts.dimensions;
          distinct = chosen.names;
          each = parts.each;
          frames = parts.frames;
        }),
      ))

  low_length : (bounds : List Term) → (length bounds == 2 * length shape.dimensions) ≡ true → length (box_of shape.dimensions bounds).lo.items ≡ length shape.dimensions
  low_length bounds e = length_pairs low_bound shape.dimensions bounds (omega (arith, eqb-true (length bounds) (2 * length shape.dimensions) e))

  high_length : (bounds : List Term) → (length bounds == 2 * length shape.dimensions) ≡ true → length (box_of shape.dimensions bounds).hi.items ≡ length shape.dimensions
  high_length bounds e =
      length_pairs high_bound shape.dimensions (drop (length shape.dimensions) bounds) (omega (arith, eqb-true (length bounds) (2 * length shape.dimensions) e, length-drop (length shape.dimensions) bounds))

  -- as many bounds as the box needs
  enough : (bounds : List Term) → (length bounds == 2 * length shape.dimensions) ≡ true → is_box_of shape (box_of shape.dimensions bounds) ≡ true
  enough bounds e =
      let area : Bounds = box_of shape.dimensions bounds in
      and_from (length area.lo.items == length shape.dimensions) (length area.hi.items == length shape.dimensions)
      (eq-eqb (length area.lo.items) (length shape.dimensions) (low_length bounds e)) (eq-eqb (length area.hi.items) (length shape.dimensions) (high_length bounds e))

  between_typed : (at : Span) (bounds : List Term) → IfOk (ruled s Between at source bounds) IsTyped
  between_typed at bounds = between_holds IsTyped s source bounds (λ count. (typed_source, enough bounds count))

  subarray_typed : (at : Span) (bounds : List Term) → IfOk (ruled s Subarray at source bounds) IsTyped
  subarray_typed at bounds =
      let area : Bounds = box_of shape.dimensions bounds in
      subarray_holds IsTyped s source bounds (λ count order range within.
      (typed_source, enough bounds count, part_valid shape area.lo.items area.hi.items valid (low_length bounds count) (high_length bounds count) order range within))

  slice_typed : (at : Span) (arguments : List Term) → IfOk (ruled s Slice at source arguments) IsTyped
  slice_typed at arguments =
      let Kept : List Fixed → Type 0 = Held shape.dimensions in
      let start : Kept [] = record { below = refl; apart = refl } in
      let kept : IfOk (pairs_in_turn (fixed_one shape.dimensions) [] arguments) Kept
      = pairs_keep (λ t. Unit {0}) Kept (fixed_one shape.dimensions) (λ done t n asked other held. holds_one shape.dimensions done t n held) [] arguments (nothing_asked arguments) start in
      slice_holds IsTyped s source arguments (λ fixed e some within.
      let held : Kept fixed = of_answer Kept (pairs_in_turn (fixed_one shape.dimensions) [] arguments) fixed kept e in (
        typed_source,
        and_from (are_below (length shape.dimensions) (fixed_places fixed)) (are_apart (fixed_places fixed)) held.below held.apart,
        slice_valid shape (fixed_places fixed) valid (leb-true 1 (length (items_but (fixed_places fixed) 0 shape.dimensions)) some) within,
      ))

ruled_typed : (s : Span) (operator : OverSource) (at : Span) (source : Query) (arguments : List Term) → AllByRecursion Leaf arguments → IsTyped source
    → IfOk (ruled s operator at source arguments) IsTyped
ruled_typed s Filter at source arguments leaves t = filter_typed s source t at arguments leaves
ruled_typed s Apply at source arguments leaves t = apply_typed s source t at arguments leaves
ruled_typed s Project at source arguments leaves t = project_typed s source t at arguments
ruled_typed s Between at source arguments leaves t = between_typed s source t at arguments
ruled_typed s Subarray at source arguments leaves t = subarray_typed s source t at arguments
ruled_typed s Slice at source arguments leaves t = slice_typed s source t at arguments
ruled_typed s Redimension at source arguments leaves t = redimension_typed s source t arguments
ruled_typed s Regrid at source arguments leaves t = regrid_typed s source t arguments
ruled_typed s Window at source arguments leaves t = window_typed s source t arguments
ruled_typed s Aggregate at source arguments leaves t = aggregate_typed s source t arguments
ruled_typed s Sort at source arguments leaves t = sort_typed s source t arguments
ruled_typed s Rank at source arguments leaves t = rank_typed s source t arguments
ruled_typed s Cumulate at source arguments leaves t = cumulate_typed s source t arguments
ruled_typed s Transpose at source arguments leaves t = transpose_typed s source t
ruled_typed s Reverse at source arguments leaves t = reverse_typed s source t at
ruled_typed s Unpack at source arguments leaves t = unpack_typed s source t arguments
ruled_typed s Xgrid at source arguments leaves t = xgrid_typed s source t arguments

ruled_two_typed : (s : Span) (operator : OverTwo) (at : Span) (left right : Query) (arguments : List Term) → IsTyped left → IsTyped right
    → IfOk (ruled_two s operator at left right arguments) IsTyped
ruled_two_typed s Join at left right arguments l r = join_typed s left right l r
ruled_two_typed s CrossJoin at left right arguments l r = cross_typed s left right l r arguments
ruled_two_typed s Merge at left right arguments l r = merge_typed s left right l r
ruled_two_typed s Concat at left right arguments l r = concat_typed s left right l r at

module _ (arrays : List NameEntry) (stored : AreValid arrays) where
  over_typed : (s : Span) (operator : OverSource) (arguments : Terms) (t : Term) → IsTrue (all_leaves_fit arguments) → IfOk (query_of arrays t) IsTyped
      → IfOk (demand (fits_count operator (length (to_list arguments))) s WrongCount (then (query_of arrays t)
      (λ plan. ruled s operator (content_span t) plan (to_list arguments)))) IsTyped
  over_typed s operator arguments t leaves h =
      demanded IsTyped (fits_count operator (length (to_list arguments))) s WrongCount _ (λ count.
      thens IsTyped (query_of arrays t) _ (λ plan e.
      ruled_typed s operator (content_span t) plan (to_list arguments) (leaves_of arguments leaves) (of_answer IsTyped (query_of arrays t) plan h e)))

  over_two_typed : (s : Span) (operator : OverTwo) (arguments : Terms) (x y : Term) → IfOk (query_of arrays x) IsTyped → IfOk (query_of arrays y) IsTyped
      → IfOk (demand (fits_two operator (length (to_list arguments))) s WrongCount (then (query_of arrays x)
      (λ l. then (query_of arrays y) (λ r. ruled_two s operator (content_span x) l r (to_list arguments))))) IsTyped
  over_two_typed s operator arguments x y h k =
      demanded IsTyped (fits_two operator (length (to_list arguments))) s WrongCount _ (λ count.
      thens IsTyped (query_of arrays x) _ (λ l e.
      thens IsTyped (query_of arrays y) _ (λ r f.
      ruled_two_typed s operator (content_span x) l r (to_list arguments) (of_answer IsTyped (query_of arrays x) l h e)
      (of_answer IsTyped (query_of arrays y) r k f))))

  mutual
    query_typed : (t : Term) → Leaf t → IfOk (query_of arrays t) IsTyped
    query_typed (group s a) leaf = query_typed a leaf
    query_typed (call s name arguments) leaf = called_typed s name (call_of (operator_named name)) arguments leaf
    query_typed t leaf = referred_holds IsTyped arrays (λ name entry v e. entry_valid arrays stored name entry e) t

    called_typed : (s : Span) (name : List ℕ) (o : Option Call) (arguments : Terms) → IsTrue (all_leaves_fit arguments) → IfOk (called arrays s name o arguments) IsTyped
    called_typed s name (Some Build) arguments leaves = build_holds IsTyped Leaf build_typed literal_typed s arguments (leaves_of arguments leaves)
    called_typed s name (Some Scan) arguments leaves = scan_holds IsTyped arrays (λ name entry v e. entry_valid arrays stored name entry e) s arguments
    called_typed s name (Some (Over operator)) (and_term source arguments) leaves =
        let p = and_parts (leaves_fit source) (all_leaves_fit arguments) leaves in
        over_typed s operator arguments source p.1 (query_typed source p.0)
    called_typed s name (Some (Over operator)) no_terms leaves = tt
    called_typed s name (Some (Two operator)) (and_term x (and_term y arguments)) leaves =
        let p = and_parts (leaves_fit x) (leaves_fit y && all_leaves_fit arguments) leaves in
        let q = and_parts (leaves_fit y) (all_leaves_fit arguments) p.1 in
        over_two_typed s operator arguments x y (query_typed x p.0) (query_typed y q.0)
    called_typed s name (Some (Two operator)) (and_term x no_terms) leaves = tt
    called_typed s name (Some (Two operator)) no_terms leaves = tt
    called_typed s name None arguments leaves = nested_holds IsTyped s name (operator_named name)

pub checked_typed : CheckedPlansAreTyped
checked_typed arrays tree query stored leaves e = of_answer IsTyped (query_of arrays tree) query (query_typed arrays stored tree leaves) e
