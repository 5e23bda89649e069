-- Laws of plans whose leaves are numbered.
use Rattle.std.specs.Prelude.{◌≡◌, ℕ, List}
use Rattle.std.specs.List.{AllByRecursion}
use Rattle.arrayvec.specs.ArrayVec.{ArrayVec}
use Rattle.logical_plan.specs.declared.parts.Leaf.{Leaf}
use Rattle.logical_plan.specs.Leaves.{leaves}
use Rattle.logical_plan.specs.Meaning.{Database, meaning, version_rows}
use Rattle.logical_plan.specs.Query.{Query}
use Rattle.logical_plan.specs.Typing.{IsTyped}
use Rattle.plan_needs.specs.Wanted.{whole_need}
use Rattle.chunk_source.specs.Source.{HasArray}
use Rattle.chunk_source.specs.Numbered.{HoldsAll, known_of_leaves, numbered, rows_of_leaves}

-- over the rows of its leaves, leaf by leaf, a plan means the same
abbrev pub NumberedPlansMeanTheSame : Type 0
NumberedPlansMeanTheSame = (db rows : Database) (n : ℕ) (query : Query) → HoldsAll rows n (rows_of_leaves db (leaves query))
    → meaning rows (numbered n query) ≡ meaning db query

-- so it does over those that the wanted chunks of each leaf tell
abbrev pub KnownRowsSuffice : Type 0
KnownRowsSuffice = (stored : Leaf → List (ArrayVec ℕ)) (db known : Database) (query : Query) → IsTyped query
    → AllByRecursion (λ leaf. HasArray leaf (version_rows db leaf.name leaf.version) (stored leaf)) (leaves query)
    → HoldsAll known 0 (known_of_leaves stored db (leaves query) (whole_need query)) → meaning known (numbered 0 query) ≡ meaning db query
