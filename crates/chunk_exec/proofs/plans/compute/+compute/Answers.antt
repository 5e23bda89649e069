use Rattle.std.proofs.Common.{◌+◌, ◌<◌, ◌≤◌, ◌∙◌, List, ap, drop, length, sym, rules, arith}
use Rattle.logical_plan.specs.declared.parts.Leaf.{Leaf}
use Rattle.logical_plan.specs.Leaves.{leaves}
use Rattle.logical_plan.specs.Query.{query_size}
use Rattle.chunk_source.proofs.ReadLemmas.{keeps_on, on_err}
use Rattle.chunk_exec.specs.Computed.{CanCompute}
use Rattle.chunk_exec.proofs.ComputedLaws.{can_left, can_right, can_source, computed_one, computed_two, count_two, enough_for_both, enough_for_one, enough_for_right, front_both, front_left, front_made, front_one, front_right}
use Rattle.chunk_exec.proofs.SourceLaws.{can_operate_one, can_operate_two, leaves_of_one, left_is_smaller, one_source, right_is_smaller, source_is_smaller, two_sources}
use Rattle.chunk_exec.proofs.plans.compute.+compute.Goals as goal

pub over_one-compute-requires : goal.over_one-compute-requires
over_one-compute-requires g t c κs within =
    let enough = enough_for_one c.args.next.now c.args.boxes.now c.args.plan.now c.args.from.now (one_source c.args.plan.now c.args.from.now c.args.node c.requires.node) c.requires.enough in
    let can : CanCompute (g.S.ChunkSource.state c.args.source.now) c.args.from.now = can_source (g.S.ChunkSource.state c.args.source.now) c.args.plan.now c.args.from.now (one_source c.args.plan.now c.args.from.now c.args.node c.requires.node) c.requires.can in
    let less : query_size c.args.from.now < query_size c.args.plan.now = source_is_smaller c.args.plan.now c.args.from.now (one_source c.args.plan.now c.args.from.now c.args.node c.requires.node) in
    (omega (arith, less, c.decreases), search (rules, can, enough))

pub over_two-compute-requires : goal.over_two-compute-requires
over_two-compute-requires g t c κs within =
    let enough = (enough_for_both c.args.next.now c.args.boxes.now c.args.plan.now c.args.left.now c.args.right.now (two_sources c.args.plan.now c.args.left.now c.args.right.now c.args.node c.requires.node) c.requires.enough).0 in
    let can : CanCompute (g.S.ChunkSource.state c.args.source.now) c.args.left.now = can_left (g.S.ChunkSource.state c.args.source.now) c.args.plan.now c.args.left.now c.args.right.now (two_sources c.args.plan.now c.args.left.now c.args.right.now c.args.node c.requires.node) c.requires.can in
    let less : query_size c.args.left.now < query_size c.args.plan.now = left_is_smaller c.args.plan.now c.args.left.now c.args.right.now (two_sources c.args.plan.now c.args.left.now c.args.right.now c.args.node c.requires.node) in
    (omega (arith, less, c.decreases), search (rules, can, enough))

pub over_two-compute-requires-2 : goal.over_two-compute-requires-2
over_two-compute-requires-2 g t c κs within =
    let enough : c.compute.new.next + length (leaves c.args.right.now) ≤ length c.args.boxes.now
    = enough_for_right c.args.next.now c.compute.new.next c.args.boxes.now c.args.plan.now c.args.left.now c.args.right.now (two_sources c.args.plan.now c.args.left.now c.args.right.now c.args.node c.requires.node) c.requires.enough c.in_ok-a.ensures.next in
    let mid = g.S.ChunkSource.state c.compute.new.source in
    let can : CanCompute mid c.args.right.now
    = can_right (g.S.ChunkSource.state c.args.source.now) mid c.args.plan.now c.args.left.now c.args.right.now (two_sources c.args.plan.now c.args.left.now c.args.right.now c.args.node c.requires.node) c.in_ok-a.ensures.kept c.requires.can in
    let less : query_size c.args.right.now < query_size c.args.plan.now = right_is_smaller c.args.plan.now c.args.left.now c.args.right.now (two_sources c.args.plan.now c.args.left.now c.args.right.now c.args.node c.requires.node) in
    (omega (arith, less, c.decreases), search (rules, can, enough))

pub over_one-returns-clause-computed : goal.over_one-returns-clause-computed
over_one-returns-clause-computed g t c =
    computed_one c.args.next.now (drop c.args.next.now c.args.boxes.now) (g.S.ChunkSource.state c.args.source.now) (g.S.ChunkSource.state c.compute.new.source) c.args.plan.now c.args.from.now
    c.in_ok-array.array c.in_ok-unary_result.field-0 (one_source c.args.plan.now c.args.from.now c.args.node c.requires.node) c.in_ok-array.ensures.computed c.in_ok-unary_result.ensures

pub over_one-returns-in_err-array-clause-front : goal.over_one-returns-in_err-array-clause-front
over_one-returns-in_err-array-clause-front g t c =
    on_err c.from_residual.result _ (front_one c.args.plan.now c.args.next.now c.args.boxes.now (g.S.ChunkSource.state c.args.source.now) (g.S.ChunkSource.state c.compute.new.source) c.args.from.now (one_source c.args.plan.now c.args.from.now c.args.node c.requires.node) c.in_err-array.ensures.front)

pub over_one-returns-in_err-unary_result-clause-front : goal.over_one-returns-in_err-unary_result-clause-front
over_one-returns-in_err-unary_result-clause-front g t c =
    on_err c.from_residual-in_err-unary_result.result _ (front_made c.args.plan.now c.args.next.now c.args.boxes.now (g.S.ChunkSource.state c.args.source.now) (g.S.ChunkSource.state c.compute.new.source) c.args.from.now (one_source c.args.plan.now c.args.from.now c.args.node c.requires.node)
    c.in_ok-array.array c.in_ok-array.ensures.computed)

pub over_two-returns-clause-computed : goal.over_two-returns-clause-computed
over_two-returns-clause-computed g t c =
    let left = c.in_ok-a.ensures in
    let enough = (enough_for_both c.args.next.now c.args.boxes.now c.args.plan.now c.args.left.now c.args.right.now (two_sources c.args.plan.now c.args.left.now c.args.right.now c.args.node c.requires.node) c.requires.enough).0 in
    computed_two c.args.next.now c.compute.new.next c.args.boxes.now (g.S.ChunkSource.state c.args.source.now) (g.S.ChunkSource.state c.compute.new.source) (g.S.ChunkSource.state c.compute-2.new.source)
    c.args.plan.now c.args.left.now c.args.right.now c.in_ok-a.a c.in_ok-b.b c.in_ok-binary_result.field-0
    (two_sources c.args.plan.now c.args.left.now c.args.right.now c.args.node c.requires.node) left.kept left.next enough left.computed c.in_ok-b.ensures.computed c.in_ok-binary_result.ensures

pub over_two-returns-clause-next : goal.over_two-returns-clause-next
over_two-returns-clause-next g t c =
    count_two c.args.next.now c.compute.new.next c.compute-2.new.next c.args.plan.now c.args.left.now c.args.right.now (two_sources c.args.plan.now c.args.left.now c.args.right.now c.args.node c.requires.node) c.in_ok-a.ensures.next c.in_ok-b.ensures.next

pub over_two-returns-in_err-a-clause-front : goal.over_two-returns-in_err-a-clause-front
over_two-returns-in_err-a-clause-front g t c =
    on_err c.from_residual.result _ (front_left c.args.plan.now c.args.next.now c.args.boxes.now (g.S.ChunkSource.state c.args.source.now) (g.S.ChunkSource.state c.compute.new.source) c.args.left.now c.args.right.now (two_sources c.args.plan.now c.args.left.now c.args.right.now c.args.node c.requires.node)
    (enough_for_both c.args.next.now c.args.boxes.now c.args.plan.now c.args.left.now c.args.right.now (two_sources c.args.plan.now c.args.left.now c.args.right.now c.args.node c.requires.node) c.requires.enough).0 c.in_err-a.ensures.front)

pub over_two-returns-in_err-b-clause-front : goal.over_two-returns-in_err-b-clause-front
over_two-returns-in_err-b-clause-front g t c =
    let left = c.in_ok-a.ensures in
    let enough = (enough_for_both c.args.next.now c.args.boxes.now c.args.plan.now c.args.left.now c.args.right.now (two_sources c.args.plan.now c.args.left.now c.args.right.now c.args.node c.requires.node) c.requires.enough).0 in
    on_err c.from_residual-in_err-b.result _ (front_right c.args.plan.now c.args.next.now c.args.boxes.now (g.S.ChunkSource.state c.args.source.now) (g.S.ChunkSource.state c.compute-2.new.source) c.compute.new.next (g.S.ChunkSource.state c.compute.new.source)
    c.args.left.now c.args.right.now c.in_ok-a.a (two_sources c.args.plan.now c.args.left.now c.args.right.now c.args.node c.requires.node) left.kept left.next enough left.computed c.in_err-b.ensures.front)

pub over_two-returns-in_err-binary_result-clause-front : goal.over_two-returns-in_err-binary_result-clause-front
over_two-returns-in_err-binary_result-clause-front g t c =
    let left = c.in_ok-a.ensures in
    let enough = (enough_for_both c.args.next.now c.args.boxes.now c.args.plan.now c.args.left.now c.args.right.now (two_sources c.args.plan.now c.args.left.now c.args.right.now c.args.node c.requires.node) c.requires.enough).0 in
    on_err c.from_residual-in_err-binary_result.result _ (front_both c.args.plan.now c.args.next.now c.args.boxes.now (g.S.ChunkSource.state c.args.source.now) (g.S.ChunkSource.state c.compute-2.new.source) c.compute.new.next (g.S.ChunkSource.state c.compute.new.source)
    c.args.left.now c.args.right.now c.in_ok-a.a c.in_ok-b.b (two_sources c.args.plan.now c.args.left.now c.args.right.now c.args.node c.requires.node) left.kept left.next enough left.computed c.in_ok-b.ensures.computed)

pub over_two-returns-clause-kept : goal.over_two-returns-clause-kept
over_two-returns-clause-kept g t c =
    keeps_on (g.S.ChunkSource.state c.args.source.now) (g.S.ChunkSource.state c.compute.new.source) (g.S.ChunkSource.state c.compute-2.new.source) c.in_ok-a.ensures.kept c.in_ok-b.ensures.kept

pub over_two-returns-in_err-b-clause-kept : goal.over_two-returns-in_err-b-clause-kept
over_two-returns-in_err-b-clause-kept g t c =
    keeps_on (g.S.ChunkSource.state c.args.source.now) (g.S.ChunkSource.state c.compute.new.source) (g.S.ChunkSource.state c.compute-2.new.source) c.in_ok-a.ensures.kept c.in_err-b.ensures.kept

pub over_two-returns-in_err-binary_result-clause-kept : goal.over_two-returns-in_err-binary_result-clause-kept
over_two-returns-in_err-binary_result-clause-kept g t c =
    keeps_on (g.S.ChunkSource.state c.args.source.now) (g.S.ChunkSource.state c.compute.new.source) (g.S.ChunkSource.state c.compute-2.new.source) c.in_ok-a.ensures.kept c.in_ok-b.ensures.kept

pub over_one-returns-clause-next : goal.over_one-returns-clause-next
over_one-returns-clause-next g t c =
    c.in_ok-array.ensures.next
    ∙ ap (λ (z : List Leaf). c.args.next.now + length z) (sym (leaves_of_one c.args.plan.now c.args.from.now (one_source c.args.plan.now c.args.from.now c.args.node c.requires.node)))

pub over_one-unary_result-requires-clause-can : goal.over_one-unary_result-requires-clause-can
over_one-unary_result-requires-clause-can g t c κs within =
    let made = c.in_ok-array.ensures.computed in
    can_operate_one c.args.plan.now c.args.from.now c.in_ok-array.array (one_source c.args.plan.now c.args.from.now c.args.node c.requires.node) c.requires.can.typed made.schema_is made.cells

pub over_two-binary_result-requires-clause-can : goal.over_two-binary_result-requires-clause-can
over_two-binary_result-requires-clause-can g t c κs within =
    let left = c.in_ok-a.ensures.computed in
    let right = c.in_ok-b.ensures.computed in
    can_operate_two c.args.plan.now c.args.left.now c.args.right.now c.in_ok-a.a c.in_ok-b.b (two_sources c.args.plan.now c.args.left.now c.args.right.now c.args.node c.requires.node) c.requires.can.typed left.schema_is
    right.schema_is left.cells right.cells

pub over_two-returns-clause-start : goal.over_two-returns-clause-start
over_two-returns-clause-start g t c = c.in_ok-b.ensures.start ∙ c.in_ok-a.ensures.start

pub over_two-returns-in_err-b-clause-start : goal.over_two-returns-in_err-b-clause-start
over_two-returns-in_err-b-clause-start g t c = c.in_err-b.ensures.start ∙ c.in_ok-a.ensures.start

pub over_two-returns-in_err-binary_result-clause-start : goal.over_two-returns-in_err-binary_result-clause-start
over_two-returns-in_err-binary_result-clause-start g t c = c.in_ok-b.ensures.start ∙ c.in_ok-a.ensures.start
