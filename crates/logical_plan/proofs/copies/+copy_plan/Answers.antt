use Rattle.std.proofs.Common.{◌≡◌, ◌∙◌, ◌+◌, IfOk, ap, sym, subst, arith}
use Rattle.logical_plan.specs.Query.{Query, query_size}
use Rattle.logical_plan.specs.Inner.QueryView.{query_of}
use Rattle.logical_plan.proofs.copies.+copy_plan.Goals as goal

pub copy_plan-returns-in-Build : goal.copy_plan-returns-in-Build
copy_plan-returns-in-Build t c =
    subst (λ (q : Query). IfOk c.copy_build.result (λ p. p ≡ q)) (sym (ap query_of c.in-Build.is) ∙ c.plan.view_is) c.copy_build.ensures

pub copy_plan-returns-in-Literal : goal.copy_plan-returns-in-Literal
copy_plan-returns-in-Literal t c =
    subst (λ (q : Query). IfOk c.copy_literal.result (λ p. p ≡ q)) (sym (ap query_of c.in-Literal.is) ∙ c.plan.view_is) c.copy_literal.ensures

pub copy_plan-returns-in-Scan : goal.copy_plan-returns-in-Scan
copy_plan-returns-in-Scan t c =
    subst (λ (q : Query). IfOk c.copy_scan.result (λ p. p ≡ q)) (sym (ap query_of c.in-Scan.is) ∙ c.plan.view_is) c.copy_scan.ensures

pub copy_plan-returns-in-Filter : goal.copy_plan-returns-in-Filter
copy_plan-returns-in-Filter t c =
    subst (λ (q : Query). IfOk c.filter_of.result (λ p. p ≡ q)) (sym (ap query_of c.in-Filter.is) ∙ c.plan.view_is)
    (c.filter_of.ensures _ c.copy_source.ensures)

pub copy_plan-returns-in-Apply : goal.copy_plan-returns-in-Apply
copy_plan-returns-in-Apply t c =
    subst (λ (q : Query). IfOk c.apply_of.result (λ p. p ≡ q)) (sym (ap query_of c.in-Apply.is) ∙ c.plan.view_is)
    (c.apply_of.ensures _ c.copy_source-in-Apply.ensures)

pub copy_plan-returns-in-Project : goal.copy_plan-returns-in-Project
copy_plan-returns-in-Project t c =
    subst (λ (q : Query). IfOk c.project_of.result (λ p. p ≡ q)) (sym (ap query_of c.in-Project.is) ∙ c.plan.view_is)
    (c.project_of.ensures _ c.copy_source-in-Project.ensures)

pub copy_plan-returns-in-Between : goal.copy_plan-returns-in-Between
copy_plan-returns-in-Between t c =
    subst (λ (q : Query). IfOk c.between_of.result (λ p. p ≡ q)) (sym (ap query_of c.in-Between.is) ∙ c.plan.view_is)
    (c.between_of.ensures _ c.copy_source-in-Between.ensures)

pub copy_plan-returns-in-Subarray : goal.copy_plan-returns-in-Subarray
copy_plan-returns-in-Subarray t c =
    subst (λ (q : Query). IfOk c.subarray_of.result (λ p. p ≡ q)) (sym (ap query_of c.in-Subarray.is) ∙ c.plan.view_is)
    (c.subarray_of.ensures _ c.copy_source-in-Subarray.ensures)

pub copy_plan-returns-in-Slice : goal.copy_plan-returns-in-Slice
copy_plan-returns-in-Slice t c =
    subst (λ (q : Query). IfOk c.slice_of.result (λ p. p ≡ q)) (sym (ap query_of c.in-Slice.is) ∙ c.plan.view_is)
    (c.slice_of.ensures _ c.copy_source-in-Slice.ensures)

pub copy_plan-returns-in-Redimension : goal.copy_plan-returns-in-Redimension
copy_plan-returns-in-Redimension t c =
    subst (λ (q : Query). IfOk c.redimension_of.result (λ p. p ≡ q)) (sym (ap query_of c.in-Redimension.is) ∙ c.plan.view_is)
    (c.redimension_of.ensures _ c.copy_source-in-Redimension.ensures)

pub copy_plan-returns-in-Regrid : goal.copy_plan-returns-in-Regrid
copy_plan-returns-in-Regrid t c =
    subst (λ (q : Query). IfOk c.regrid_of.result (λ p. p ≡ q)) (sym (ap query_of c.in-Regrid.is) ∙ c.plan.view_is)
    (c.regrid_of.ensures _ c.copy_source-in-Regrid.ensures)

pub copy_plan-returns-in-Window : goal.copy_plan-returns-in-Window
copy_plan-returns-in-Window t c =
    subst (λ (q : Query). IfOk c.window_of.result (λ p. p ≡ q)) (sym (ap query_of c.in-Window.is) ∙ c.plan.view_is)
    (c.window_of.ensures _ c.copy_source-in-Window.ensures)

pub copy_plan-returns-in-Aggregate : goal.copy_plan-returns-in-Aggregate
copy_plan-returns-in-Aggregate t c =
    subst (λ (q : Query). IfOk c.aggregate_of.result (λ p. p ≡ q)) (sym (ap query_of c.in-Aggregate.is) ∙ c.plan.view_is)
    (c.aggregate_of.ensures _ c.copy_source-in-Aggregate.ensures)

pub copy_plan-returns-in-Join : goal.copy_plan-returns-in-Join
copy_plan-returns-in-Join t c =
    let made = c.join_of.ensures _ _ c.copy_source-in-Join.ensures c.copy_source-in-Join-2.ensures in
    subst (λ (q : Query). IfOk c.join_of.result (λ p. p ≡ q)) (sym (ap query_of c.in-Join.is) ∙ c.plan.view_is) made

pub copy_plan-returns-in-CrossJoin : goal.copy_plan-returns-in-CrossJoin
copy_plan-returns-in-CrossJoin t c =
    let made = c.cross_join_of.ensures _ _ c.copy_source-in-CrossJoin.ensures c.copy_source-in-CrossJoin-2.ensures in
    subst (λ (q : Query). IfOk c.cross_join_of.result (λ p. p ≡ q)) (sym (ap query_of c.in-CrossJoin.is) ∙ c.plan.view_is) made

pub copy_source-returns : goal.copy_source-returns
copy_source-returns t c = subst (λ (q : Query). IfOk c.boxed.result (λ b. b.value ≡ q)) c.deref.ensures (c.boxed.ensures _ c.copy_plan.ensures)

pub copy_plan-copy_source-requires : goal.copy_plan-copy_source-requires
copy_plan-copy_source-requires t c =
    let whole : query_size c.in-Filter.source.value + 1 ≡ query_size c.args.plan.now = ap query_size (sym (ap query_of c.in-Filter.is) ∙ c.plan.view_is)
    in
    (omega (arith, whole, c.decreases), tt)

pub copy_plan-copy_source-requires-in-Apply : goal.copy_plan-copy_source-requires-in-Apply
copy_plan-copy_source-requires-in-Apply t c =
    let whole : query_size c.in-Apply.source.value + 1 ≡ query_size c.args.plan.now = ap query_size (sym (ap query_of c.in-Apply.is) ∙ c.plan.view_is)
    in
    (omega (arith, whole, c.decreases), tt)

pub copy_plan-copy_source-requires-in-Project : goal.copy_plan-copy_source-requires-in-Project
copy_plan-copy_source-requires-in-Project t c =
    let whole : query_size c.in-Project.source.value + 1 ≡ query_size c.args.plan.now = ap query_size (sym (ap query_of c.in-Project.is) ∙ c.plan.view_is)
    in
    (omega (arith, whole, c.decreases), tt)

pub copy_plan-copy_source-requires-in-Between : goal.copy_plan-copy_source-requires-in-Between
copy_plan-copy_source-requires-in-Between t c =
    let whole : query_size c.in-Between.source.value + 1 ≡ query_size c.args.plan.now = ap query_size (sym (ap query_of c.in-Between.is) ∙ c.plan.view_is)
    in
    (omega (arith, whole, c.decreases), tt)

pub copy_plan-copy_source-requires-in-Subarray : goal.copy_plan-copy_source-requires-in-Subarray
copy_plan-copy_source-requires-in-Subarray t c =
    let whole : query_size c.in-Subarray.source.value + 1 ≡ query_size c.args.plan.now = ap query_size (sym (ap query_of c.in-Subarray.is) ∙ c.plan.view_is)
    in
    (omega (arith, whole, c.decreases), tt)

pub copy_plan-copy_source-requires-in-Slice : goal.copy_plan-copy_source-requires-in-Slice
copy_plan-copy_source-requires-in-Slice t c =
    let whole : query_size c.in-Slice.source.value + 1 ≡ query_size c.args.plan.now = ap query_size (sym (ap query_of c.in-Slice.is) ∙ c.plan.view_is)
    in
    (omega (arith, whole, c.decreases), tt)

pub copy_plan-copy_source-requires-in-Redimension : goal.copy_plan-copy_source-requires-in-Redimension
copy_plan-copy_source-requires-in-Redimension t c =
    let whole : query_size c.in-Redimension.source.value + 1 ≡ query_size c.args.plan.now = ap query_size (sym (ap query_of c.in-Redimension.is) ∙ c.plan.view_is)
    in
    (omega (arith, whole, c.decreases), tt)

pub copy_plan-copy_source-requires-in-Regrid : goal.copy_plan-copy_source-requires-in-Regrid
copy_plan-copy_source-requires-in-Regrid t c =
    let whole : query_size c.in-Regrid.source.value + 1 ≡ query_size c.args.plan.now = ap query_size (sym (ap query_of c.in-Regrid.is) ∙ c.plan.view_is)
    in
    (omega (arith, whole, c.decreases), tt)

pub copy_plan-copy_source-requires-in-Window : goal.copy_plan-copy_source-requires-in-Window
copy_plan-copy_source-requires-in-Window t c =
    let whole : query_size c.in-Window.source.value + 1 ≡ query_size c.args.plan.now = ap query_size (sym (ap query_of c.in-Window.is) ∙ c.plan.view_is)
    in
    (omega (arith, whole, c.decreases), tt)

pub copy_plan-copy_source-requires-in-Aggregate : goal.copy_plan-copy_source-requires-in-Aggregate
copy_plan-copy_source-requires-in-Aggregate t c =
    let whole : query_size c.in-Aggregate.source.value + 1 ≡ query_size c.args.plan.now = ap query_size (sym (ap query_of c.in-Aggregate.is) ∙ c.plan.view_is)
    in
    (omega (arith, whole, c.decreases), tt)

pub copy_plan-copy_source-requires-in-Join : goal.copy_plan-copy_source-requires-in-Join
copy_plan-copy_source-requires-in-Join t c =
    let whole : query_size c.in-Join.left.value + query_size c.in-Join.right.value + 1 ≡ query_size c.args.plan.now
    = ap query_size (sym (ap query_of c.in-Join.is) ∙ c.plan.view_is) in
    (omega (arith, whole, c.decreases), tt)

pub copy_plan-copy_source-requires-in-Join-2 : goal.copy_plan-copy_source-requires-in-Join-2
copy_plan-copy_source-requires-in-Join-2 t c =
    let whole : query_size c.in-Join.left.value + query_size c.in-Join.right.value + 1 ≡ query_size c.args.plan.now
    = ap query_size (sym (ap query_of c.in-Join.is) ∙ c.plan.view_is) in
    (omega (arith, whole, c.decreases), tt)

pub copy_plan-copy_source-requires-in-CrossJoin : goal.copy_plan-copy_source-requires-in-CrossJoin
copy_plan-copy_source-requires-in-CrossJoin t c =
    let whole : query_size c.in-CrossJoin.left.value + query_size c.in-CrossJoin.right.value + 1 ≡ query_size c.args.plan.now
    = ap query_size (sym (ap query_of c.in-CrossJoin.is) ∙ c.plan.view_is) in
    (omega (arith, whole, c.decreases), tt)

pub copy_plan-copy_source-requires-in-CrossJoin-2 : goal.copy_plan-copy_source-requires-in-CrossJoin-2
copy_plan-copy_source-requires-in-CrossJoin-2 t c =
    let whole : query_size c.in-CrossJoin.left.value + query_size c.in-CrossJoin.right.value + 1 ≡ query_size c.args.plan.now
    = ap query_size (sym (ap query_of c.in-CrossJoin.is) ∙ c.plan.view_is) in
    (omega (arith, whole, c.decreases), tt)

pub copy_plan-returns-in-Sort : goal.copy_plan-returns-in-Sort
copy_plan-returns-in-Sort t c =
    subst (λ (q : Query). IfOk c.sort_of.result (λ p. p ≡ q)) (sym (ap query_of c.in-Sort.is) ∙ c.plan.view_is)
    (c.sort_of.ensures _ c.copy_source-in-Sort.ensures)

pub copy_plan-copy_source-requires-in-Sort : goal.copy_plan-copy_source-requires-in-Sort
copy_plan-copy_source-requires-in-Sort t c =
    let whole : query_size c.in-Sort.source.value + 1 ≡ query_size c.args.plan.now = ap query_size (sym (ap query_of c.in-Sort.is) ∙ c.plan.view_is)
    in
    (omega (arith, whole, c.decreases), tt)

pub copy_plan-returns-in-Rank : goal.copy_plan-returns-in-Rank
copy_plan-returns-in-Rank t c =
    subst (λ (q : Query). IfOk c.rank_of.result (λ p. p ≡ q)) (sym (ap query_of c.in-Rank.is) ∙ c.plan.view_is)
    (c.rank_of.ensures _ c.copy_source-in-Rank.ensures)

pub copy_plan-copy_source-requires-in-Rank : goal.copy_plan-copy_source-requires-in-Rank
copy_plan-copy_source-requires-in-Rank t c =
    let whole : query_size c.in-Rank.source.value + 1 ≡ query_size c.args.plan.now = ap query_size (sym (ap query_of c.in-Rank.is) ∙ c.plan.view_is)
    in
    (omega (arith, whole, c.decreases), tt)

pub copy_plan-returns-in-Cumulate : goal.copy_plan-returns-in-Cumulate
copy_plan-returns-in-Cumulate t c =
    subst (λ (q : Query). IfOk c.cumulate_of.result (λ p. p ≡ q)) (sym (ap query_of c.in-Cumulate.is) ∙ c.plan.view_is)
    (c.cumulate_of.ensures _ c.copy_source-in-Cumulate.ensures)

pub copy_plan-copy_source-requires-in-Cumulate : goal.copy_plan-copy_source-requires-in-Cumulate
copy_plan-copy_source-requires-in-Cumulate t c =
    let whole : query_size c.in-Cumulate.source.value + 1 ≡ query_size c.args.plan.now = ap query_size (sym (ap query_of c.in-Cumulate.is) ∙ c.plan.view_is)
    in
    (omega (arith, whole, c.decreases), tt)

pub copy_plan-returns-in-Transpose : goal.copy_plan-returns-in-Transpose
copy_plan-returns-in-Transpose t c =
    subst (λ (q : Query). IfOk c.transpose_of.result (λ p. p ≡ q)) (sym (ap query_of c.in-Transpose.is) ∙ c.plan.view_is)
    (c.transpose_of.ensures _ c.copy_source-in-Transpose.ensures)

pub copy_plan-copy_source-requires-in-Transpose : goal.copy_plan-copy_source-requires-in-Transpose
copy_plan-copy_source-requires-in-Transpose t c =
    let whole : query_size c.in-Transpose.source.value + 1 ≡ query_size c.args.plan.now = ap query_size (sym (ap query_of c.in-Transpose.is) ∙ c.plan.view_is)
    in
    (omega (arith, whole, c.decreases), tt)

pub copy_plan-returns-in-Reverse : goal.copy_plan-returns-in-Reverse
copy_plan-returns-in-Reverse t c =
    subst (λ (q : Query). IfOk c.reverse_of.result (λ p. p ≡ q)) (sym (ap query_of c.in-Reverse.is) ∙ c.plan.view_is)
    (c.reverse_of.ensures _ c.copy_source-in-Reverse.ensures)

pub copy_plan-copy_source-requires-in-Reverse : goal.copy_plan-copy_source-requires-in-Reverse
copy_plan-copy_source-requires-in-Reverse t c =
    let whole : query_size c.in-Reverse.source.value + 1 ≡ query_size c.args.plan.now = ap query_size (sym (ap query_of c.in-Reverse.is) ∙ c.plan.view_is)
    in
    (omega (arith, whole, c.decreases), tt)

pub copy_plan-returns-in-Unpack : goal.copy_plan-returns-in-Unpack
copy_plan-returns-in-Unpack t c =
    subst (λ (q : Query). IfOk c.unpack_of.result (λ p. p ≡ q)) (sym (ap query_of c.in-Unpack.is) ∙ c.plan.view_is)
    (c.unpack_of.ensures _ c.copy_source-in-Unpack.ensures)

pub copy_plan-copy_source-requires-in-Unpack : goal.copy_plan-copy_source-requires-in-Unpack
copy_plan-copy_source-requires-in-Unpack t c =
    let whole : query_size c.in-Unpack.source.value + 1 ≡ query_size c.args.plan.now = ap query_size (sym (ap query_of c.in-Unpack.is) ∙ c.plan.view_is)
    in
    (omega (arith, whole, c.decreases), tt)

pub copy_plan-returns-in-Xgrid : goal.copy_plan-returns-in-Xgrid
copy_plan-returns-in-Xgrid t c =
    subst (λ (q : Query). IfOk c.xgrid_of.result (λ p. p ≡ q)) (sym (ap query_of c.in-Xgrid.is) ∙ c.plan.view_is)
    (c.xgrid_of.ensures _ c.copy_source-in-Xgrid.ensures)

pub copy_plan-copy_source-requires-in-Xgrid : goal.copy_plan-copy_source-requires-in-Xgrid
copy_plan-copy_source-requires-in-Xgrid t c =
    let whole : query_size c.in-Xgrid.source.value + 1 ≡ query_size c.args.plan.now = ap query_size (sym (ap query_of c.in-Xgrid.is) ∙ c.plan.view_is)
    in
    (omega (arith, whole, c.decreases), tt)

pub copy_plan-returns-in-Merge : goal.copy_plan-returns-in-Merge
copy_plan-returns-in-Merge t c =
    let made = c.merge_of.ensures _ _ c.copy_source-in-Merge.ensures c.copy_source-in-Merge-2.ensures in
    subst (λ (q : Query). IfOk c.merge_of.result (λ p. p ≡ q)) (sym (ap query_of c.in-Merge.is) ∙ c.plan.view_is) made

pub copy_plan-copy_source-requires-in-Merge : goal.copy_plan-copy_source-requires-in-Merge
copy_plan-copy_source-requires-in-Merge t c =
    let whole : query_size c.in-Merge.left.value + query_size c.in-Merge.right.value + 1 ≡ query_size c.args.plan.now
    = ap query_size (sym (ap query_of c.in-Merge.is) ∙ c.plan.view_is) in
    (omega (arith, whole, c.decreases), tt)

pub copy_plan-copy_source-requires-in-Merge-2 : goal.copy_plan-copy_source-requires-in-Merge-2
copy_plan-copy_source-requires-in-Merge-2 t c =
    let whole : query_size c.in-Merge.left.value + query_size c.in-Merge.right.value + 1 ≡ query_size c.args.plan.now
    = ap query_size (sym (ap query_of c.in-Merge.is) ∙ c.plan.view_is) in
    (omega (arith, whole, c.decreases), tt)

pub copy_plan-returns-in-Concat : goal.copy_plan-returns-in-Concat
copy_plan-returns-in-Concat t c =
    let made = c.concat_of.ensures _ _ c.copy_source-in-Concat.ensures c.copy_source-in-Concat-2.ensures in
    subst (λ (q : Query). IfOk c.concat_of.result (λ p. p ≡ q)) (sym (ap query_of c.in-Concat.is) ∙ c.plan.view_is) made

pub copy_plan-copy_source-requires-in-Concat : goal.copy_plan-copy_source-requires-in-Concat
copy_plan-copy_source-requires-in-Concat t c =
    let whole : query_size c.in-Concat.left.value + query_size c.in-Concat.right.value + 1 ≡ query_size c.args.plan.now
    = ap query_size (sym (ap query_of c.in-Concat.is) ∙ c.plan.view_is) in
    (omega (arith, whole, c.decreases), tt)

pub copy_plan-copy_source-requires-in-Concat-2 : goal.copy_plan-copy_source-requires-in-Concat-2
copy_plan-copy_source-requires-in-Concat-2 t c =
    let whole : query_size c.in-Concat.left.value + query_size c.in-Concat.right.value + 1 ≡ query_size c.args.plan.now
    = ap query_size (sym (ap query_of c.in-Concat.is) ∙ c.plan.view_is) in
    (omega (arith, whole, c.decreases), tt)
