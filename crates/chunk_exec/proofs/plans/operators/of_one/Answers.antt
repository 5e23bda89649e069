use Rattle.std.proofs.Common.{◌≡◌, ℕ, List, [], ◌∷◌, sym, ap, ◌∙◌, subst}
use Rattle.std.specs.Prelude.{IfOk}
use Rattle.array_parts.specs.Cores.{meant_by_cores}
use Rattle.array_geom.specs.Link.{Is}
use Rattle.array_rows.specs.Boxes.{within}
use Rattle.cell_values.specs.declared.schema.Schema.{Schema}
use Rattle.cell_values.specs.Schemas.{IsValid}
use Rattle.exec_box.specs.Made.{IsMadeOf}
use Rattle.exec_box.specs.Parts.{part_meant, slice_meant}
use Rattle.exec_group.specs.Meant.{aggregate_meant, regrid_meant}
use Rattle.order_exec.specs.Meant.{cumulate_meant, rank_meant}
use Rattle.window_overlap.specs.Meant.{window_meant}
use Rattle.logical_plan.specs.declared.arity.UnaryNode.{UnaryNode}
use Rattle.logical_plan.specs.declared.parts.Aggregate.{Aggregate}
use Rattle.logical_plan.specs.declared.parts.Applied.{Applied}
use Rattle.logical_plan.specs.declared.parts.Fixed.{Fixed}
use Rattle.logical_plan.specs.declared.parts.Reach.{Reach}
use Rattle.logical_plan.specs.Arity.{unary_query}
use Rattle.logical_plan.specs.CellOps.{filter_rows, apply_rows, project_rows}
use Rattle.logical_plan.specs.Meaning.{redimensioned_from, sorted_from}
use Rattle.logical_plan.specs.PlanSchema.{schema_of}
use Rattle.logical_plan.specs.ShapeMeant.{reverse_meant, transpose_meant, unpack_meant, xgrid_meant}
use Rattle.logical_plan.specs.Query.{filtered, applied, projected, between, subarray, sliced, redimensioned, regridded, windowed, aggregated}
use Rattle.logical_plan.specs.Query.{sorted, ranked, cumulated, transposed, reversed, unpacked, xgridded}
use Rattle.logical_plan.proofs.SchemaLaws.{typed_valid}
use Rattle.chunk_exec.proofs.OperatorLaws.{of_this_plan, filter_result, apply_result, project_result, between_result, subarray_result, slice_result}
use Rattle.chunk_exec.proofs.OperatorLaws.{redimension_result, regrid_result, window_result, aggregate_result, sort_result, rank_result, cumulate_result}
use Rattle.chunk_exec.proofs.OperatorLaws.{transpose_result, reverse_result, unpack_result, xgrid_result}
use Rattle.chunk_exec.proofs.plans.operators.of_one.Goals as goal

pub returns-in-Filter : goal.returns-in-Filter
returns-in-Filter g c =
    let array = c.args.array in
    let source = c.args.from.now in
    let test = c.in-Filter.test.now in
    let query = filtered source test in
    let is : c.args.plan.now ≡ query = c.requires.node ∙ ap (λ (n : UnaryNode). unary_query n source) c.in-Filter.is in
    of_this_plan c.args.plan.now query (array ∷ []) (IsMadeOf (filter_rows test) (schema_of query) array) c.filter.result is c.requires.can (λ made can m. filter_result source test array made can m)
    (subst (λ (z : Schema). IfOk c.filter.result (IsMadeOf (filter_rows test) z array)) (c.requires.target ∙ ap schema_of is) c.filter.ensures)

pub returns-in-Apply : goal.returns-in-Apply
returns-in-Apply g c =
    let array = c.args.array in
    let source = c.args.from.now in
    let values = c.in-Apply.values.now in
    let query = applied source values in
    let is : c.args.plan.now ≡ query = c.requires.node ∙ ap (λ (n : UnaryNode). unary_query n source) c.in-Apply.is in
    of_this_plan c.args.plan.now query (array ∷ []) (IsMadeOf (apply_rows values) (schema_of query) array) c.apply.result is c.requires.can (λ made can m. apply_result source values array made can m)
    (subst (λ (z : Schema). IfOk c.apply.result (IsMadeOf (apply_rows values) z array)) (c.requires.target ∙ ap schema_of is) (subst (λ (z : List Applied). IfOk c.apply.result (IsMadeOf (apply_rows z) c.args.target array)) c.as_slice.ensures c.apply.ensures))

pub returns-in-Project : goal.returns-in-Project
returns-in-Project g c =
    let array = c.args.array in
    let source = c.args.from.now in
    let places = c.in-Project.places.now in
    let query = projected source places in
    let is : c.args.plan.now ≡ query = c.requires.node ∙ ap (λ (n : UnaryNode). unary_query n source) c.in-Project.is in
    of_this_plan c.args.plan.now query (array ∷ []) (IsMadeOf (project_rows places) (schema_of query) array) c.project.result is c.requires.can (λ made can m. project_result source places array made can m)
    (subst (λ (z : Schema). IfOk c.project.result (IsMadeOf (project_rows places) z array)) (c.requires.target ∙ ap schema_of is) (subst (λ (z : List ℕ). IfOk c.project.result (IsMadeOf (project_rows z) c.args.target array)) c.as_slice-in-Project.ensures c.project.ensures))

pub returns-in-Between : goal.returns-in-Between
returns-in-Between g c =
    let array = c.args.array in
    let source = c.args.from.now in
    let area = c.in-Between.area.now in
    let query = between source area in
    let is : c.args.plan.now ≡ query = c.requires.node ∙ ap (λ (n : UnaryNode). unary_query n source) c.in-Between.is in
    of_this_plan c.args.plan.now query (array ∷ []) (IsMadeOf (within area) (schema_of query) array) c.between.result is c.requires.can (λ made can m. between_result source area array made can m)
    (subst (λ (z : Schema). IfOk c.between.result (IsMadeOf (within area) z array)) (c.requires.target ∙ ap schema_of is) c.between.ensures)

pub returns-in-Subarray : goal.returns-in-Subarray
returns-in-Subarray g c =
    let array = c.args.array in
    let source = c.args.from.now in
    let area = c.in-Subarray.area.now in
    let query = subarray source area in
    let is : c.args.plan.now ≡ query = c.requires.node ∙ ap (λ (n : UnaryNode). unary_query n source) c.in-Subarray.is in
    of_this_plan c.args.plan.now query (array ∷ []) (λ made. Is made (part_meant area (meant_by_cores array))) c.subarray_owned.result is c.requires.can (λ made can m. subarray_result source area array made can m)
    (c.subarray_owned.ensures.array)

pub returns-in-Slice : goal.returns-in-Slice
returns-in-Slice g c =
    let array = c.args.array in
    let source = c.args.from.now in
    let fixed = c.in-Slice.fixed.now in
    let query = sliced source fixed in
    let is : c.args.plan.now ≡ query = c.requires.node ∙ ap (λ (n : UnaryNode). unary_query n source) c.in-Slice.is in
    of_this_plan c.args.plan.now query (array ∷ []) (λ made. Is made (slice_meant fixed (meant_by_cores array))) c.slice_owned.result is c.requires.can (λ made can m. slice_result source fixed array made can m)
    (subst (λ (z : List Fixed). IfOk c.slice_owned.result (λ made. Is made (slice_meant z (meant_by_cores array)))) c.as_slice-in-Slice.ensures (c.slice_owned.ensures.array))

pub returns-in-Redimension : goal.returns-in-Redimension
returns-in-Redimension g c =
    let array = c.args.array in
    let source = c.args.from.now in
    let schema = c.in-Redimension.schema.now in
    let aggs = c.in-Redimension.aggs.now in
    let query = redimensioned source schema aggs in
    let is : c.args.plan.now ≡ query = c.requires.node ∙ ap (λ (n : UnaryNode). unary_query n source) c.in-Redimension.is in
    of_this_plan c.args.plan.now query (array ∷ []) (λ made. Is made (redimensioned_from schema aggs (meant_by_cores array))) c.redimension.result is c.requires.can (λ made can m. redimension_result source schema aggs array made m)
    (subst (λ (z : List Aggregate). IfOk c.redimension.result (λ made. Is made (redimensioned_from schema z (meant_by_cores array)))) c.as_slice-in-Redimension.ensures (c.redimension.ensures.array))

pub returns-in-Regrid : goal.returns-in-Regrid
returns-in-Regrid g c =
    let array = c.args.array in
    let source = c.args.from.now in
    let sizes = c.in-Regrid.sizes.now in
    let aggs = c.in-Regrid.aggs.now in
    let query = regridded source sizes aggs in
    let is : c.args.plan.now ≡ query = c.requires.node ∙ ap (λ (n : UnaryNode). unary_query n source) c.in-Regrid.is in
    of_this_plan c.args.plan.now query (array ∷ []) (λ made. Is made (regrid_meant sizes aggs (meant_by_cores array))) c.regrid.result is c.requires.can (λ made can m. regrid_result source sizes aggs array made can m)
    (subst (λ (z : List Aggregate). IfOk c.regrid.result (λ made. Is made (regrid_meant sizes z (meant_by_cores array)))) c.as_slice-in-Regrid-2.ensures (subst (λ (z : List ℕ). IfOk c.regrid.result (λ made. Is made (regrid_meant z c.as_slice-in-Regrid-2.result.now (meant_by_cores array)))) c.as_slice-in-Regrid.ensures (c.regrid.ensures.array)))

pub returns-in-Window : goal.returns-in-Window
returns-in-Window g c =
    let array = c.args.array in
    let source = c.args.from.now in
    let reach = c.in-Window.reach.now in
    let aggs = c.in-Window.aggs.now in
    let query = windowed source reach aggs in
    let is : c.args.plan.now ≡ query = c.requires.node ∙ ap (λ (n : UnaryNode). unary_query n source) c.in-Window.is in
    of_this_plan c.args.plan.now query (array ∷ []) (λ made. Is made (window_meant reach aggs (meant_by_cores array))) c.window.result is c.requires.can (λ made can m. window_result source reach aggs array made can m)
    (subst (λ (z : List Aggregate). IfOk c.window.result (λ made. Is made (window_meant reach z (meant_by_cores array)))) c.as_slice-in-Window-2.ensures (subst (λ (z : List Reach). IfOk c.window.result (λ made. Is made (window_meant z c.as_slice-in-Window-2.result.now (meant_by_cores array)))) c.as_slice-in-Window.ensures (c.window.ensures.array)))

pub returns-in-Aggregate : goal.returns-in-Aggregate
returns-in-Aggregate g c =
    let array = c.args.array in
    let source = c.args.from.now in
    let aggs = c.in-Aggregate.aggs.now in
    let places = c.in-Aggregate.places.now in
    let query = aggregated source aggs places in
    let is : c.args.plan.now ≡ query = c.requires.node ∙ ap (λ (n : UnaryNode). unary_query n source) c.in-Aggregate.is in
    of_this_plan c.args.plan.now query (array ∷ []) (λ made. Is made (aggregate_meant aggs places (meant_by_cores array))) c.aggregate.result is c.requires.can (λ made can m. aggregate_result source aggs places array made can m)
    (subst (λ (z : List ℕ). IfOk c.aggregate.result (λ made. Is made (aggregate_meant aggs z (meant_by_cores array)))) c.as_slice-in-Aggregate-2.ensures (subst (λ (z : List Aggregate). IfOk c.aggregate.result (λ made. Is made (aggregate_meant z c.as_slice-in-Aggregate-2.result.now (meant_by_cores array)))) c.as_slice-in-Aggregate.ensures (c.aggregate.ensures.array)))

pub returns-in-Sort : goal.returns-in-Sort
returns-in-Sort g c =
    let array = c.args.array in
    let source = c.args.from.now in
    let keys = c.in-Sort.keys.now in
    let schema = c.in-Sort.schema.now in
    let query = sorted source keys schema in
    let is : c.args.plan.now ≡ query = c.requires.node ∙ ap (λ (n : UnaryNode). unary_query n source) c.in-Sort.is in
    of_this_plan c.args.plan.now query (array ∷ []) (λ made. Is made (sorted_from keys schema (meant_by_cores array))) c.sort.result is c.requires.can (λ made can m. sort_result source keys schema array made m)
    (subst (λ (z : List ℕ). IfOk c.sort.result (λ made. Is made (sorted_from z schema (meant_by_cores array)))) c.as_slice-in-Sort.ensures (c.sort.ensures.array))

pub returns-in-Rank : goal.returns-in-Rank
returns-in-Rank g c =
    let array = c.args.array in
    let source = c.args.from.now in
    let place = c.in-Rank.place in
    let dims = c.in-Rank.dims.now in
    let query = ranked source place dims in
    let is : c.args.plan.now ≡ query = c.requires.node ∙ ap (λ (n : UnaryNode). unary_query n source) c.in-Rank.is in
    of_this_plan c.args.plan.now query (array ∷ []) (λ made. Is made (rank_meant place dims (meant_by_cores array))) c.rank.result is c.requires.can (λ made can m. rank_result source place dims array made can m)
    (subst (λ (z : List ℕ). IfOk c.rank.result (λ made. Is made (rank_meant place z (meant_by_cores array)))) c.as_slice-in-Rank.ensures (c.rank.ensures.array))

pub returns-in-Cumulate : goal.returns-in-Cumulate
returns-in-Cumulate g c =
    let array = c.args.array in
    let source = c.args.from.now in
    let aggs = c.in-Cumulate.aggs.now in
    let dim = c.in-Cumulate.dim in
    let query = cumulated source aggs dim in
    let is : c.args.plan.now ≡ query = c.requires.node ∙ ap (λ (n : UnaryNode). unary_query n source) c.in-Cumulate.is in
    of_this_plan c.args.plan.now query (array ∷ []) (λ made. Is made (cumulate_meant aggs dim (meant_by_cores array))) c.cumulate.result is c.requires.can (λ made can m. cumulate_result source aggs dim array made can m)
    (subst (λ (z : List Aggregate). IfOk c.cumulate.result (λ made. Is made (cumulate_meant z dim (meant_by_cores array)))) c.as_slice-in-Cumulate.ensures (c.cumulate.ensures.array))

pub returns-in-Transpose : goal.returns-in-Transpose
returns-in-Transpose g c =
    let array = c.args.array in
    let source = c.args.from.now in
    let query = transposed source in
    let is : c.args.plan.now ≡ query = c.requires.node ∙ ap (λ (n : UnaryNode). unary_query n source) c.in-Transpose.is in
    of_this_plan c.args.plan.now query (array ∷ []) (λ made. Is made (transpose_meant (meant_by_cores array))) c.transpose.result is c.requires.can (λ made can m. transpose_result source array made can m)
    (c.transpose.ensures.array)

pub returns-in-Reverse : goal.returns-in-Reverse
returns-in-Reverse g c =
    let array = c.args.array in
    let source = c.args.from.now in
    let query = reversed source in
    let is : c.args.plan.now ≡ query = c.requires.node ∙ ap (λ (n : UnaryNode). unary_query n source) c.in-Reverse.is in
    of_this_plan c.args.plan.now query (array ∷ []) (λ made. Is made (reverse_meant (meant_by_cores array))) c.reverse.result is c.requires.can (λ made can m. reverse_result source array made can m)
    (c.reverse.ensures.array)

pub returns-in-Unpack : goal.returns-in-Unpack
returns-in-Unpack g c =
    let array = c.args.array in
    let source = c.args.from.now in
    let schema = c.in-Unpack.schema.now in
    let query = unpacked source schema in
    let is : c.args.plan.now ≡ query = c.requires.node ∙ ap (λ (n : UnaryNode). unary_query n source) c.in-Unpack.is in
    of_this_plan c.args.plan.now query (array ∷ []) (λ made. Is made (unpack_meant schema (meant_by_cores array))) c.unpack.result is c.requires.can (λ made can m. unpack_result source schema array made m)
    (c.unpack.ensures.array)

pub returns-in-Xgrid : goal.returns-in-Xgrid
returns-in-Xgrid g c =
    let array = c.args.array in
    let source = c.args.from.now in
    let sizes = c.in-Xgrid.sizes.now in
    let query = xgridded source sizes in
    let is : c.args.plan.now ≡ query = c.requires.node ∙ ap (λ (n : UnaryNode). unary_query n source) c.in-Xgrid.is in
    of_this_plan c.args.plan.now query (array ∷ []) (λ made. Is made (xgrid_meant sizes (meant_by_cores array))) c.xgrid.result is c.requires.can (λ made can m. xgrid_result source sizes array made can m)
    (subst (λ (z : List ℕ). IfOk c.xgrid.result (λ made. Is made (xgrid_meant z (meant_by_cores array)))) c.as_slice-in-Xgrid.ensures (c.xgrid.ensures.array))

pub filter-requires-clause-valid : goal.filter-requires-clause-valid
filter-requires-clause-valid g c κs lives = subst IsValid (sym c.requires.target) (typed_valid c.args.plan.now c.requires.can.typed)

pub between-requires-clause-valid : goal.between-requires-clause-valid
between-requires-clause-valid g c κs lives = subst IsValid (sym c.requires.target) (typed_valid c.args.plan.now c.requires.can.typed)
