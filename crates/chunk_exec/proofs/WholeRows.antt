-- Arrays that stand for rows, or for what broke them.
use Rattle.std.proofs.Common.{◌≡◌, None, sym, ◌∙◌}
use Rattle.array_geom.specs.declared.chunk.ChunkedArray.{ChunkedArray}
use Rattle.array_geom.specs.Link.{Is}
use Rattle.array_parts.specs.Cores.{cores_of, unless_broken}
use Rattle.array_parts.proofs.CoreLaws.{arrays_are_their_cores}
use Rattle.logical_plan.specs.Faults.{fault_of}
use Rattle.logical_plan.specs.Meaning.{Meant}
use Rattle.chunk_exec.specs.declared.rows.rows.answers.rows.PlanRows.TheVariants.{Rows}
use Rattle.chunk_exec.specs.Found.{IsFound}

-- the rows of its cores are those that it stands for
pub cores_found : (array : ChunkedArray) (meant : Meant) → Is array meant → array.broken ≡ None → fault_of meant.rows ≡ None → IsFound meant (Rows array.schema (cores_of array))
cores_found array meant is whole none = (none, sym (arrays_are_their_cores array meant is) ∙ (λ i. record { schema = array.schema; rows = unless_broken (whole i) (cores_of array) }))
