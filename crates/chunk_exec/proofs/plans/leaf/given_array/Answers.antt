use Rattle.std.proofs.Common.{◌≡◌, ◌∙◌, List, drop, length, ap, sym, subst, arith}
use Rattle.std.specs.List.{AllByRecursion}
use Rattle.array_rows.specs.Arrays.{AreRowsOf}
use Rattle.cell_values.specs.declared.datum.Row.{Row}
use Rattle.chunk_source.specs.Numbered.{numbered}
use Rattle.chunk_source.specs.Source.{Reads}
use Rattle.logical_plan.specs.Arity.{leaf_query}
use Rattle.logical_plan.specs.Leaves.{leaves}
use Rattle.logical_plan.specs.Meaning.{built_rows, meaning}
use Rattle.logical_plan.specs.PlanSchema.{schema_of}
use Rattle.logical_plan.specs.Query.{Query}
use Rattle.logical_plan.specs.Typing.{IsTyped}
use Rattle.chunk_exec.specs.Computed.{IsGiven}
use Rattle.chunk_exec.proofs.ComputedLaws.{front_none, given_computed}
use Rattle.chunk_exec.proofs.plans.leaf.given_array.Goals as goal

pub literal-requires : goal.literal-requires
literal-requires g c =
    let typed = subst IsTyped (c.requires.node ∙ ap leaf_query c.in-Literal.is) c.requires.can.typed in
    subst (AreRowsOf c.in-Literal.schema.now) (sym c.as_slice.ensures) typed.1

pub next_leaf-requires-clause-enough : goal.next_leaf-requires-clause-enough
next_leaf-requires-clause-enough g c =
    let is = c.requires.node ∙ ap leaf_query c.in-Scan.is in
    let one : length (leaves c.args.plan.now) ≡ 1 = ap (λ (q : Query). length (leaves q)) is in omega (arith, one, c.requires.enough)

pub next_leaf-requires-clause-reads : goal.next_leaf-requires-clause-reads
next_leaf-requires-clause-reads g c =
    let is = c.requires.node ∙ ap leaf_query c.in-Scan.is in
    (subst (λ (q : Query). AllByRecursion (Reads (g.S.ChunkSource.state c.args.source.now)) (leaves q)) is c.requires.can.reads).0

pub returns-in_ok-build-in-Build-clause-computed : goal.returns-in_ok-build-in-Build-clause-computed
returns-in_ok-build-in-Build-clause-computed g c =
    let is = c.requires.node ∙ ap leaf_query c.in-Build.is in
    given_computed c.args.next.now (drop c.args.next.now c.args.boxes.now) (g.S.ChunkSource.state c.args.source.now) c.args.plan.now c.in-Build.schema.now
    (built_rows c.in-Build.schema.now c.in-Build.value.now) c.in_ok-build-in-Build.field-0 (ap schema_of is) (ap leaves is)
    (λ db. ap (λ (q : Query). meaning db (numbered c.args.next.now q)) is) c.in_ok-build-in-Build.ensures

pub returns-in_ok-literal-in-Literal-clause-computed : goal.returns-in_ok-literal-in-Literal-clause-computed
returns-in_ok-literal-in-Literal-clause-computed g c =
    let is = c.requires.node ∙ ap leaf_query c.in-Literal.is in
    given_computed c.args.next.now (drop c.args.next.now c.args.boxes.now) (g.S.ChunkSource.state c.args.source.now) c.args.plan.now c.in-Literal.schema.now
    c.in-Literal.rows.now c.in_ok-literal-in-Literal.field-0 (ap schema_of is) (ap leaves is)
    (λ db. ap (λ (q : Query). meaning db (numbered c.args.next.now q)) is)
    (subst (λ (rows : List Row). IsGiven c.in-Literal.schema.now rows c.in_ok-literal-in-Literal.field-0) c.as_slice.ensures c.in_ok-literal-in-Literal.ensures)

pub returns-in_ok-build-in-Build-clause-next : goal.returns-in_ok-build-in-Build-clause-next
returns-in_ok-build-in-Build-clause-next g c =
    let is = c.requires.node ∙ ap leaf_query c.in-Build.is in
    let none : length (leaves c.args.plan.now) ≡ 0 = ap (λ (q : Query). length (leaves q)) is in omega (arith, none)

pub returns-in_ok-literal-in-Literal-clause-next : goal.returns-in_ok-literal-in-Literal-clause-next
returns-in_ok-literal-in-Literal-clause-next g c =
    let is = c.requires.node ∙ ap leaf_query c.in-Literal.is in
    let none : length (leaves c.args.plan.now) ≡ 0 = ap (λ (q : Query). length (leaves q)) is in omega (arith, none)

pub returns-in_err-build-in-Build-clause-front : goal.returns-in_err-build-in-Build-clause-front
returns-in_err-build-in-Build-clause-front g c = front_none c.from_residual.result _ _

pub returns-in_err-literal-in-Literal-clause-front : goal.returns-in_err-literal-in-Literal-clause-front
returns-in_err-literal-in-Literal-clause-front g c = front_none c.from_residual-in_err-literal-in-Literal.result _ _
