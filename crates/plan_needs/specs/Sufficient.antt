-- The needs of a plan are sufficient: its meaning depends on its wanted chunks alone.
use Rattle.std.specs.Prelude.{◌≡◌}
use Rattle.std.specs.List.{AllByRecursion}
use Rattle.array_rows.specs.Arrays.{AreRowsOf}
use Rattle.logical_plan.specs.Leaves.{leaves}
use Rattle.logical_plan.specs.Meaning.{Database, meaning, version_rows}
use Rattle.logical_plan.specs.Query.{Query}
use Rattle.logical_plan.specs.Typing.{IsTyped}
use Rattle.plan_needs.specs.Wanted.{whole_need, AreAlikeFor}

-- each leaf of a plan stands in a database for an array of its schema
abbrev pub HasArrays : Database → Query → Type 0
HasArrays db query = AllByRecursion (λ leaf. AreRowsOf leaf.schema (version_rows db leaf.name leaf.version)) (leaves query)

-- two databases that have the same wanted chunks at each leaf, with the same cells in their frames, give a plan one meaning, faults
-- included
abbrev pub NeedsAreSufficient : Type 0
NeedsAreSufficient =
    (a b : Database) (query : Query) → IsTyped query → HasArrays a query → HasArrays b query → AreAlikeFor a b query (whole_need query)
    → meaning a query ≡ meaning b query
